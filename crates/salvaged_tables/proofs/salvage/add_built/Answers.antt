use Rattle.std.proofs.Common.{◌∙◌}
use Rattle.salvaged_tables.proofs.Gaining.{gains_one}
use Rattle.salvaged_tables.proofs.salvage.add_built.Goals as goal

pub returns : goal.returns
returns c =
    gains_one c.args.row.now c.args.shape c.args.cells.items c.args.tables.now.items c.push.new.self.items c.args.places.now.items c.push-2.new.self.items
    c.in_ok-copy_of.field-0 c.in_ok-text_of.field-0 c.in_ok-rows.field-0.rows c.in_ok-rows.field-0.places
    (c.in_ok-copy_of.ensures ∙ c.as_slice.ensures) c.in_ok-text_of.ensures
    c.in_ok-rows.ensures.rows c.in_ok-rows.ensures.places c.in_ok-push.ensures.items c.in_ok-push-2.ensures.items
