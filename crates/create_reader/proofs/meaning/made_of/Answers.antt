use Rattle.std.proofs.Common.{◌≡◌, sym, ap, ◌∙◌, arith, false, is_none, map, option_map}
use Rattle.create_reader.specs.Faults.{key_fault}
use Rattle.create_reader.specs.Meaning.{keys_from}
use Rattle.create_reader.specs.Views.{constraint_seen, seen}
use Rattle.create_reader.proofs.Parts.{few_taken, sound_made}
use Rattle.create_reader.proofs.meaning.made_of.Goals as goal

pub returns : goal.returns
returns c =
    let t = seen c.args.table.now in
    let len = c.len.ensures in
    let few = c.if-len-gt1996.false in
    let given = ap (option_map (λ v. map (λ k. constraint_seen c.args.table.now.columns.items k.now) v.items)) (sym c.in-Ok-Some.field-0-is)
    ∙ c.in-Ok-Some.ensures in
    let none : key_fault t ≡ false = sym c.in-Ok-Some-key_lists.ensures.fault ∙ ap is_none c.in-Ok-Some-key_lists.field-0-is in
    record {
      sound = sound_made t _ c.if-table.false (omega (arith, len, few)) given none;
      alias = c.in-Ok-alias_of.ensures;
      primary = c.in-Ok-primary_of.ensures;
      keys = c.in-Ok-keys.ensures ∙ ap (keys_from t 1)
          (ap (map (λ k. constraint_seen t.columns k.now)) c.as_slice-5.ensures.value ∙ few_taken _ _ given);
      auto = c.has_auto.ensures;
    }
