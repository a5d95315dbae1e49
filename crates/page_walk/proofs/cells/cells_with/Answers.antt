use Rattle.std.proofs.Common.{rules, List, ℕ, map, sym}
use Rattle.page_access.specs.Files.{file_of}
use Rattle.page_lists.specs.Table.{MovesFront, unused}
use Rattle.page_walk.specs.Cells.{Outcome, chains_of, outcome_of, outcomes_on}
use Rattle.page_walk.specs.Rows.{AddsFront}
use Rattle.page_walk.proofs.Fronts.{adds_none, moves_none, on_page}
use Rattle.page_walk.proofs.Taken.{table_told}
use Rattle.page_walk.proofs.Witness.{evidence_told}
use Rattle.page_walk.proofs.cells.cells_with.Goals as goal

pub returns-clause-value : goal.returns-clause-value
returns-clause-value g c = search rules

pub returns-clause-table : goal.returns-clause-table
returns-clause-table g c =
    table_told c.add_cells.result _ (λ all. file_of all c.args.geo.now) c.args.page _ _ _ _ c.add_cells.ensures.used (returns-clause-value g c)

pub returns-clause-evidence : goal.returns-clause-evidence
returns-clause-evidence g c =
    evidence_told _ _ c.args.geo.now c.args.page c.args.table.now c.requires.page_least c.requires.page_most
    c.pages-pages.ensures.partition c.requires.same_pages

pub returns-clause-front : goal.returns-clause-front
returns-clause-front g c =
    on_page (λ (all : List ℕ) (os : List Outcome). AddsFront os (map outcome_of c.args.to.now.items) (map outcome_of c.add_cells.new.to.items))
    _ _ c.args.geo.now c.args.page c.read_page.new.to c.in-Some.shape (unused c.args.table.now) c.read_page.ensures.kept.told
    c.in_ok-read_page.ensures.page (sym c.in-Some.ensures.exact) c.add_cells.ensures.front

pub returns-clause-table_front : goal.returns-clause-table_front
returns-clause-table_front g c =
    on_page (λ (all : List ℕ) (os : List Outcome). MovesFront (chains_of os) 4 c.args.table.now c.add_cells.new.table)
    _ _ c.args.geo.now c.args.page c.read_page.new.to c.in-Some.shape (unused c.args.table.now) c.read_page.ensures.kept.told
    c.in_ok-read_page.ensures.page (sym c.in-Some.ensures.exact) c.add_cells.ensures.table_front

pub returns-in_err-read_page-clause-front : goal.returns-in_err-read_page-clause-front
returns-in_err-read_page-clause-front g c = adds_none _ (λ all. outcomes_on (file_of all c.args.geo.now) c.args.page (unused c.args.table.now)) (map outcome_of c.args.to.now.items)

pub returns-in_err-read_page-clause-table_front : goal.returns-in_err-read_page-clause-table_front
returns-in_err-read_page-clause-table_front g c =
    moves_none _ (λ all. chains_of (outcomes_on (file_of all c.args.geo.now) c.args.page (unused c.args.table.now))) 4 c.args.table.now

pub returns-in_default-clause-front : goal.returns-in_default-clause-front
returns-in_default-clause-front g c = adds_none _ (λ all. outcomes_on (file_of all c.args.geo.now) c.args.page (unused c.args.table.now)) (map outcome_of c.args.to.now.items)
