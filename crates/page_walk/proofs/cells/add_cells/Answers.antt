use Rattle.std.proofs.Common.{◌∙◌, ap, refl, ℕ, false, replicate}
use Rattle.page_access.proofs.Keeps.{not_failed}
use Rattle.page_walk.proofs.Going.{going_start, going_more, going_pages, going_lists, going_moves, going_value}
use Rattle.page_walk.proofs.Fronts.{going_front, going_table, going_table_more}
use Rattle.page_walk.proofs.cells.add_cells.Goals as goal

pub loop-i-init : goal.loop-i-init
loop-i-init g c = going_start _ _ _ _ _ _ _ _ _ _ _ _ (c.clear.ensures ∙ ap (λ (n : ℕ). replicate n false) c.requires.marks)

pub take_cell-requires-clause-same_pages : goal.take_cell-requires-clause-same_pages
take_cell-requires-clause-same_pages g c = going_pages c.loop-i.invariant c.requires.same_pages

pub take_cell-requires-clause-lists : goal.take_cell-requires-clause-lists
take_cell-requires-clause-lists g c = going_lists c.loop-i.invariant c.requires.lists

pub returns-in_err-outcome-clause-moves : goal.returns-in_err-outcome-clause-moves
returns-in_err-outcome-clause-moves g c = going_moves c.take_cell.new.table c.loop-i.invariant c.take_cell.ensures.moves

pub returns-in_err-push_some-clause-moves : goal.returns-in_err-push_some-clause-moves
returns-in_err-push_some-clause-moves g c = going_moves c.take_cell.new.table c.loop-i.invariant c.take_cell.ensures.moves

pub loop-i-preserved : goal.loop-i-preserved
loop-i-preserved g c =
    going_more c.take_cell.new.src c.take_cell.new.table c.push_some.new.to.items c.screen-cell.new.accepted
    c.screen-cell.result c.in_ok-outcome.outcome c.loop-i.invariant c.loop-i-test.true c.screen-cell.ensures.verdict
    c.screen-cell.ensures.marked c.screen-cell.ensures.len c.in_ok-outcome.ensures.value c.in_ok-outcome.ensures.moved
    c.in_ok-outcome.ensures.small c.take_cell.ensures.kept (not_failed c.in_ok-outcome.ensures.cause.steady) c.take_cell.ensures.moves c.in_ok-outcome.ensures.reads
    c.in_ok-push_some.ensures.items

pub returns-clause-value : goal.returns-clause-value
returns-clause-value g c = going_value c.loop-i.invariant c.loop-i-test.false

pub returns-in_err-outcome-clause-front : goal.returns-in_err-outcome-clause-front
returns-in_err-outcome-clause-front g c = going_front c.loop-i.invariant _ refl

pub returns-in_err-outcome-clause-table_front : goal.returns-in_err-outcome-clause-table_front
returns-in_err-outcome-clause-table_front g c =
    going_table_more c.loop-i.invariant c.take_cell.new.table c.screen-cell.result c.loop-i-test.true c.screen-cell.ensures.verdict
    c.take_cell.ensures.front

pub returns-in_err-push_some-clause-front : goal.returns-in_err-push_some-clause-front
returns-in_err-push_some-clause-front g c = going_front c.loop-i.invariant _ c.in_err-push_some.ensures.err

pub returns-in_err-push_some-clause-table_front : goal.returns-in_err-push_some-clause-table_front
returns-in_err-push_some-clause-table_front g c =
    going_table_more c.loop-i.invariant c.take_cell.new.table c.screen-cell.result c.loop-i-test.true c.screen-cell.ensures.verdict
    c.take_cell.ensures.front

pub returns-clause-front : goal.returns-clause-front
returns-clause-front g c = going_front c.loop-i.invariant _ refl

pub returns-clause-table_front : goal.returns-clause-table_front
returns-clause-table_front g c = going_table c.loop-i.invariant
