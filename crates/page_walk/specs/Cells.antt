-- What becomes of the cells of a page (docs/FORMAT.md, "Readable cells"; docs/ARCHITECTURE.md, "Order of use").
use Rattle.std.specs.Prelude.{ℕ, ◌+◌, ◌-◌, Bool, if◌then◌else◌, ℤ, Option, Some, None, Result, Ok, Err, List, [], ◌∷◌, ◌++◌}
use Rattle.std.specs.List.{flat_map, slice_range}
use Rattle.page_access.specs.Pages.{File, page_at}
use Rattle.page_lists.specs.Lists.{minus}
use Rattle.record_core.specs.declared.faults.RecordFault.{RecordFault}
use Rattle.record_core.specs.declared.values.Value.{Value}
use Rattle.record_core.specs.Record.{record_of}
use Rattle.cell_reader.specs.declared.shapes.PageShape.{PageShape}
use Rattle.cell_reader.specs.declared.cells.CellView.{CellView}
use Rattle.cell_reader.specs.Inside.{has_payload}
use Rattle.cell_reader.specs.Screen.{Verdict, verdicts}
use Rattle.overflow_chain.specs.declared.ChainEnd.{ChainEnd}
use Rattle.overflow_chain.specs.declared.ChainEnd.TheVariants.{Whole, Broken}
use Rattle.overflow_chain.specs.Turn.{turn_of, end_of, bytes_of}
use Rattle.page_walk.specs.declared.causes.CellCause.{CellCause}
use Rattle.page_walk.specs.declared.causes.CellCause.TheVariants.{Chain, BadRecord}
use Rattle.page_walk.specs.declared.outcomes.TakenCell.{TakenCell}
use Rattle.page_walk.specs.declared.outcomes.CellOutcome.{CellOutcome}
use Rattle.page_walk.specs.declared.outcomes.CellOutcome.TheVariants as outcomes
use Rattle.page_walk.specs.Page.{screened_as, shape_on}

-- a readable cell: its page and number, its rowid on a table page, the pages of its overflow chain and the
-- values of its record
pub record Row : Type 0 where
  pub page : ℕ
  pub cell : ℕ
  pub rowid : Option ℤ
  pub chain : List ℕ
  pub fields : List Value

-- a cell that is not read: its number, its rowid where it is an accepted cell of a table page, why it is not
-- read, and the pages that its chain took
pub record UnreadCell : Type 0 where
  pub cell : ℕ
  pub rowid : Option ℤ
  pub cause : CellCause
  pub chain : List ℕ

-- what becomes of a cell: it is read, or it is not
pub data Outcome : Type 0 where
  Read : Row → Outcome
  Unread : UnreadCell → Outcome

-- the same in the program's terms
abbrev pub row_of : TakenCell → Row
row_of t = record { page = t.place.page; cell = t.place.cell; rowid = t.rowid; chain = t.chain.items; fields = t.fields.items }

abbrev pub outcome_of : CellOutcome → Outcome
outcome_of (outcomes.Taken t) = Read (row_of t)
outcome_of (outcomes.Unread cell rowid cause chain) = Unread (record { cell = cell; rowid = rowid; cause = cause; chain = chain.items })

-- the pages that a cell's chain took
abbrev pub chain_of : Outcome → List ℕ
chain_of (Read row) = row.chain
chain_of (Unread u) = u.chain

-- the pages that the chains of cells took, in turn
abbrev pub chains_of : List Outcome → List ℕ
chains_of os = flat_map chain_of os

-- bytes of a cell's payload that are not local
abbrev pub missing : CellView → ℕ
missing v = v.total - (v.local_end - v.local_start)

-- the unused pages that the turn of a payload takes, the bytes that they give and how the turn ends; a
-- payload that is all local takes none
abbrev pub turn_from : File → ℕ → Option ℕ → List ℕ → List ℕ
turn_from f need None unused = []
turn_from f need (Some q) unused = turn_of f q need unused

abbrev pub bytes_from : File → ℕ → Option ℕ → List ℕ → List ℕ
bytes_from f need None unused = []
bytes_from f need (Some q) unused = bytes_of f q need unused

abbrev pub end_from : File → ℕ → Option ℕ → List ℕ → ChainEnd
end_from f need None unused = Whole
end_from f need (Some q) unused = end_of f q need unused

-- a cell whose payload is whole and reads so
abbrev pub read_as : ℕ → ℕ → Option ℤ → List ℕ → Result (List Value) RecordFault → Outcome
read_as p i rowid chain (Ok fields) = Read (record { page = p; cell = i; rowid = rowid; chain = chain; fields = fields })
read_as p i rowid chain (Err fault) = Unread (record { cell = i; rowid = rowid; cause = BadRecord; chain = chain })

-- a cell whose turn ended so, with these bytes of its payload
abbrev pub ended_as : ℕ → ℕ → Option ℤ → List ℕ → List ℕ → ChainEnd → Outcome
ended_as p i rowid chain payload Whole = read_as p i rowid chain (record_of payload)
ended_as p i rowid chain payload (Broken at why) = Unread (record { cell = i; rowid = rowid; cause = Chain; chain = chain })

-- cell i of page p, an entry, at its turn
unfoldable pub entry_at : File → List ℕ → ℕ → ℕ → CellView → List ℕ → Outcome
entry_at f page p i v unused = ended_as p i v.rowid (turn_from f (missing v) v.overflow unused)
    (slice_range page v.local_start v.local_end ++ bytes_from f (missing v) v.overflow unused)
    (end_from f (missing v) v.overflow unused)

-- cell i of page p, on a page whose cells have a payload or have none: an accepted cell without one has
-- no outcome
abbrev pub outcome_at : File → List ℕ → ℕ → Bool → ℕ → Result CellView CellCause → List ℕ → List Outcome
outcome_at f page p payload i (Err cause) unused = Unread (record { cell = i; rowid = None; cause = cause; chain = [] }) ∷ []
outcome_at f page p payload i (Ok v) unused = if payload then entry_at f page p i v unused ∷ [] else []

-- the cells with these verdicts from cell i on, each of which takes its turn of the unused pages that the
-- ones before left
abbrev pub outcomes_from : File → List ℕ → ℕ → Bool → ℕ → List Verdict → List ℕ → List Outcome
outcomes_from f page p payload i [] unused = []
outcomes_from f page p payload i (v ∷ rest) unused =
    outcome_at f page p payload i (screened_as v) unused
    ++ outcomes_from f page p payload (i + 1) rest
    (minus unused (chains_of (outcome_at f page p payload i (screened_as v) unused)))

-- the cells of page p, where it has this shape
unfoldable pub outcomes_in : File → List ℕ → ℕ → PageShape → List ℕ → List Outcome
outcomes_in f page p shape unused = outcomes_from f page p (has_payload shape.kind shape.leaf) 0
    (verdicts page f.usable f.pages shape) unused

abbrev pub outcomes_with : File → ℕ → Option PageShape → List ℕ → List Outcome
outcomes_with f p None unused = []
outcomes_with f p (Some shape) unused = outcomes_in f (page_at f p) p shape unused

-- the cells of page p of a file in cell order, at their turns; none where the page has no shape
abbrev pub outcomes_on : File → ℕ → List ℕ → List Outcome
outcomes_on f p unused = outcomes_with f p (shape_on f p) unused
