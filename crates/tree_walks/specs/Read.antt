-- What is read of the cells of well-formed trees (docs/FORMAT.md, "Readable cells"; docs/ARCHITECTURE.md,
-- "Order of use").
use Rattle.std.specs.Prelude.{ℕ, ◌+◌, ◌≤◌, ◌==◌, if◌then◌else◌, Result, Ok, Err, List, [], ◌∷◌, ◌++◌, length, map}
use Rattle.page_access.specs.Pages.{File}
use Rattle.record_core.specs.declared.faults.RecordFault.{RecordFault}
use Rattle.record_core.specs.declared.values.Value.{Value}
use Rattle.record_core.specs.Record.{record_of}
use Rattle.record_core.specs.Spelling.{IsRecord}
use Rattle.page_walk.specs.Cells.{Outcome, Read, Row}
use Rattle.tree_forms.specs.Node.{Held}
use Rattle.tree_forms.specs.Payload.{chain_of, payload_of}
use Rattle.tree_walks.specs.Rows.{cells_on}

-- the payload of a cell is a record that can be read
pub record HasRecord (f : File) (h : Held) : Type 0 where
  pub values : List Value
  pub spelled : IsRecord (payload_of f h) values
  pub few : length values ≤ 1996

abbrev pub values_in : Result (List Value) RecordFault → List Value
values_in (Ok values) = values
values_in (Err fault) = []

-- the values of a cell's payload, where it is such a record
abbrev pub fields_of : File → Held → List Value
fields_of f h = values_in (record_of (payload_of f h))

-- the row that cell i of page p is
abbrev pub row_at : File → ℕ → ℕ → Held → Row
row_at f p i h = record { page = p; cell = i; rowid = h.rowid; chain = chain_of f h; fields = fields_of f h }

-- the rows that the cells from cell i on are: those with a payload
abbrev pub rows_from : File → ℕ → ℕ → List Held → List Row
rows_from f p i [] = []
rows_from f p i (h ∷ hs) = (if h.total == 0 then [] else row_at f p i h ∷ []) ++ rows_from f p (i + 1) hs

-- the rows of page p
abbrev pub rows_on : File → ℕ → List Row
rows_on f p = rows_from f p 0 (cells_on f p)

-- a page whose cells are all read
abbrev pub read_on : File → ℕ → ℕ × List Outcome
read_on f p = (p, map Read (rows_on f p))
