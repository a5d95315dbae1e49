use Rattle.std.proofs.Common.{◌≡◌, ◌∙◌, Result, Ok, Err, OnOk, List, [], ◌∷◌, ◌++◌, map, ap, subst}
use Rattle.std.specs.Prelude.{nat_lt, if◌then◌else◌}
use Rattle.page_walk.specs.declared.outcomes.CellOutcome.{CellOutcome}
use Rattle.page_walk.specs.declared.outcomes.TakenCell.{TakenCell}
use Rattle.page_walk.specs.declared.rows.PageNotes.{PageNotes}
use Rattle.page_walk.specs.Cells.{Row, outcome_of, row_of}
use Rattle.page_walk.specs.Rows.{rows_of, taken_in}
use Rattle.page_walk.proofs.Sorting.{rows_seen}
use Rattle.raw_schema.specs.Schema.{entries_in}
use Rattle.raw_schema.proofs.Turns.{bad_appended}
use Rattle.raw_schema.proofs.reading.sort_turn.Goals as goal

-- what holds whatever is answered
whatever : {T E : Type 0} {P : Type 0} (r : Result T E) → P → OnOk r P
whatever (Ok x) p = p
whatever (Err e) p = tt

-- the cells that were appended to none are the readable ones
cells_read : (none cells : List TakenCell) (os : List CellOutcome) → none ≡ [] → cells ≡ none ++ taken_in os → map row_of cells ≡ rows_of (map outcome_of os)
cells_read none cells os empty pushed =
    ap (map row_of) (pushed ∙ ap (λ (ts : List TakenCell). ts ++ taken_in os) empty) ∙ rows_seen os

pub returns-clause-rows : goal.returns-clause-rows
returns-clause-rows c =
    whatever c.note.result (c.in_ok-sort_out.ensures.rows
    ∙ ap (λ (rs : List Row). c.args.rows.now.items ++ entries_in rs)
    (cells_read c.new-cells.result.items c.sort_outcomes.new.to.items c.args.turn.outcomes.items c.new-cells.ensures.items c.in_ok-unread.ensures.rows))

pub returns-clause-bad : goal.returns-clause-bad
returns-clause-bad c =
    whatever c.note.result (bad_appended c.args.bad.now.items c.sort_out.new.bad.items c.sort_outcomes.new.to.items _ c.in_ok-sort_out.ensures.bad
    (cells_read c.new-cells.result.items c.sort_outcomes.new.to.items c.args.turn.outcomes.items c.new-cells.ensures.items c.in_ok-unread.ensures.rows))

pub returns-clause-notes : goal.returns-clause-notes
returns-clause-notes c =
    subst (λ (n : PageNotes). OnOk c.note.result (c.note.new.to.items ≡ c.args.notes.now.items
    ++ (if nat_lt 0 n.unread then (c.args.turn.page, n) ∷ [] else []))) c.in_ok-unread.ensures.notes c.note.ensures
