use Rattle.std.proofs.Common.{sym, ◌∙◌}
use Rattle.page_walk.proofs.Fronts.{cell_front}
use Rattle.page_walk.proofs.entries.take_cell.Goals as goal

pub returns-in_err-outcome-clause-front : goal.returns-in_err-outcome-clause-front
returns-in_err-outcome-clause-front g c =
    cell_front _ c.args.geo.now c.args.page.now c.args.place.page c.args.place.cell _ _ c.args.cell c.in-Ok.view c.args.table.now
    c.take_entry.new.table c.in-Ok.is (sym c.cells_have_payload.ensures ∙ c.if-not-cells_have_payload.false) c.take_entry.ensures.front

pub returns-clause-front : goal.returns-clause-front
returns-clause-front g c =
    cell_front _ c.args.geo.now c.args.page.now c.args.place.page c.args.place.cell _ _ c.args.cell c.in-Ok.view c.args.table.now
    c.take_entry.new.table c.in-Ok.is (sym c.cells_have_payload.ensures ∙ c.if-not-cells_have_payload.false) c.take_entry.ensures.front
