use Rattle.std.proofs.Common.{map}
use Rattle.page_access.specs.Files.{file_of}
use Rattle.page_lists.specs.Table.{unused}
use Rattle.page_walk.specs.Cells.{chains_of, outcome_of, outcomes_on}
use Rattle.page_walk.proofs.Fronts.{adds_none, moves_none}
use Rattle.page_walk.proofs.cells.cells_of.Goals as goal

pub returns-in_err-bytes-clause-front : goal.returns-in_err-bytes-clause-front
returns-in_err-bytes-clause-front g c = adds_none _ (λ all. outcomes_on (file_of all c.args.geo.now) c.args.page (unused c.args.table.now)) (map outcome_of c.args.to.now.items)

pub returns-in_err-accepted-clause-front : goal.returns-in_err-accepted-clause-front
returns-in_err-accepted-clause-front g c = adds_none _ (λ all. outcomes_on (file_of all c.args.geo.now) c.args.page (unused c.args.table.now)) (map outcome_of c.args.to.now.items)

pub returns-in_err-accepted-clause-table_front : goal.returns-in_err-accepted-clause-table_front
returns-in_err-accepted-clause-table_front g c =
    moves_none _ (λ all. chains_of (outcomes_on (file_of all c.args.geo.now) c.args.page (unused c.args.table.now))) 4 c.args.table.now
