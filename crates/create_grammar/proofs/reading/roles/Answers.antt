use Rattle.std.proofs.Common.{◌<◌, ◌^◌, refl, ap, length, map}
use Rattle.std.proofs.lemmas.List.{length-map}
use Rattle.create_grammar.specs.declared.pass.Stop.TheVariants.{Form}
use Rattle.create_grammar.specs.Roles.{role_code}
use Rattle.create_grammar.specs.Sorts.{code}
use Rattle.create_grammar.proofs.Told.{all_read, words_left, stops_by, small}
use Rattle.create_grammar.proofs.reading.roles.Goals as goal

pub fault_of-requires : goal.fault_of-requires
fault_of-requires c =
    let few : length (map code c.args.sorts.now) < 2 ^ 32 = rw length-map c.requires in
    small (map code c.args.sorts.now) c.in-Err.stop few
    (stops_by (map code c.args.sorts.now) _ _ c.in-Err.stop c.in-Err.ensures refl refl)

pub returns-in-Err : goal.returns-in-Err
returns-in-Err c = rw c.fault_of.ensures (stops_by (map code c.args.sorts.now) _ _ c.in-Err.stop c.in-Err.ensures refl refl)

pub fault_of-requires-then-pass : goal.fault_of-requires-then-pass
fault_of-requires-then-pass c =
    let few : length (map code c.args.sorts.now) < 2 ^ 32 = rw length-map c.requires in
    small (map code c.args.sorts.now) (Form c.table.new.self.at) few
    (words_left (map code c.args.sorts.now) _ _ c.in-Ok.field-0 c.in-Ok.ensures refl refl c.if-pass.true)

pub returns-then-pass : goal.returns-then-pass
returns-then-pass c = rw c.fault_of-then-pass.ensures
    (words_left (map code c.args.sorts.now) _ _ c.in-Ok.field-0 c.in-Ok.ensures refl refl c.if-pass.true)

pub returns : goal.returns
returns c = all_read (map code c.args.sorts.now)
    (record { sorts = c.args.sorts; at = 0; roles = c.new.result }) c.table.new.self c.in-Ok.field-0 c.in-Ok.ensures refl (ap (map role_code) c.new.ensures.items) c.if-pass.false
