use Rattle.std.proofs.Common.{map}
use Rattle.page_access.specs.Files.{file_of}
use Rattle.page_lists.specs.Table.{unused}
use Rattle.page_walk.specs.Cells.{outcomes_on, row_of}
use Rattle.page_walk.specs.Rows.{rows_of}
use Rattle.page_walk.proofs.Fronts.{adds_none, rows_front}
use Rattle.page_walk.proofs.Sorting.{adds_rows, rows_told}
use Rattle.page_walk.proofs.rows.read_cells.Goals as goal

pub returns-in_err-sort_outcomes-clause-adds : goal.returns-in_err-sort_outcomes-clause-adds
returns-in_err-sort_outcomes-clause-adds g c =
    adds_rows _ _ _ _ _ _ _ c.new-outcomes.ensures.items c.in_ok-cells_of.ensures.adds c.sort_outcomes.ensures.front

pub returns-clause-rows : goal.returns-clause-rows
returns-clause-rows g c =
    rows_told (g.S.Source.bytes c.args.src.now) (λ all. outcomes_on (file_of all c.args.geo.now) c.args.page (unused c.args.table.now))
    _ _ _ _ c.new-outcomes.ensures.items c.in_ok-cells_of.ensures.value c.in_ok-sort_outcomes.ensures.rows

pub returns-clause-adds : goal.returns-clause-adds
returns-clause-adds g c =
    adds_rows _ _ _ _ _ _ _ c.new-outcomes.ensures.items c.in_ok-cells_of.ensures.adds c.sort_outcomes.ensures.front

pub returns-in_err-sort_outcomes-clause-front : goal.returns-in_err-sort_outcomes-clause-front
returns-in_err-sort_outcomes-clause-front g c =
    rows_front (g.S.Source.bytes c.args.src.now) (λ all. outcomes_on (file_of all c.args.geo.now) c.args.page (unused c.args.table.now))
    _ _ _ _ c.new-outcomes.ensures.items c.in_ok-cells_of.ensures.value c.sort_outcomes.ensures.front

pub returns-clause-front : goal.returns-clause-front
returns-clause-front g c =
    rows_front (g.S.Source.bytes c.args.src.now) (λ all. outcomes_on (file_of all c.args.geo.now) c.args.page (unused c.args.table.now))
    _ _ _ _ c.new-outcomes.ensures.items c.in_ok-cells_of.ensures.value c.sort_outcomes.ensures.front

pub returns-in_err-cells_of-clause-front : goal.returns-in_err-cells_of-clause-front
returns-in_err-cells_of-clause-front g c =
    adds_none _ (λ all. rows_of (outcomes_on (file_of all c.args.geo.now) c.args.page (unused c.args.table.now))) (map row_of c.args.to.now.items)
