-- The readable cells of a page, and what is noted of the others (docs/FORMAT.md, "Readable cells").
use Rattle.std.specs.Prelude.{◌≡◌, ℕ, ◌+◌, unwrap_or, Some, List, [], ◌∷◌, ◌++◌, length, slice_get, take}
use Rattle.page_walk.specs.declared.causes.CellCause.{CellCause}
use Rattle.page_walk.specs.declared.outcomes.TakenCell.{TakenCell}
use Rattle.page_walk.specs.declared.outcomes.CellOutcome.{CellOutcome}
use Rattle.page_walk.specs.declared.outcomes.CellOutcome.TheVariants as outcomes
use Rattle.page_walk.specs.declared.rows.PageNotes.{PageNotes}
use Rattle.page_walk.specs.Cells.{Row, Outcome, Read, Unread}

-- the cells that are read, in cell order
abbrev pub rows_of : List Outcome → List Row
rows_of [] = []
rows_of (Read row ∷ rest) = row ∷ rows_of rest
rows_of (Unread u ∷ rest) = rows_of rest

-- the same in the program's terms
abbrev pub taken_in : List CellOutcome → List TakenCell
taken_in [] = []
taken_in (outcomes.Taken t ∷ rest) = t ∷ taken_in rest
taken_in (outcomes.Unread cell rowid cause chain ∷ rest) = taken_in rest

-- the other cells in cell order, each with its cause
abbrev pub causes_of : List Outcome → List (ℕ × CellCause)
causes_of [] = []
causes_of (Read row ∷ rest) = causes_of rest
causes_of (Unread u ∷ rest) = (u.cell, u.cause) ∷ causes_of rest

-- how many cells are not read, and the first of them with its cause
abbrev pub notes_of : List Outcome → PageNotes
notes_of os = record { unread = length (causes_of os); first = slice_get (causes_of os) 0 }

-- the notes of the cells before and of one more
abbrev pub notes_with : PageNotes → Outcome → PageNotes
notes_with notes (Read row) = notes
notes_with notes (Unread u) =
    record { unread = notes.unread + 1; first = Some (unwrap_or notes.first (u.cell, u.cause)) }

-- `new` is `old` and then the first of `more`, however many
abbrev pub AddsFront : {X : Type 0} → List X → List X → List X → Type 0
AddsFront more old new = (n : ℕ) × (new ≡ old ++ take n more)

-- `new` is `old` and then a front of the cells
pub record GainsFront (cells old new : List TakenCell) : Type 0 where
  pub front : List TakenCell
  pub rest : List TakenCell
  pub parts : cells ≡ front ++ rest
  pub all : new ≡ old ++ front
