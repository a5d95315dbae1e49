-- What shows that a row stands in a file (docs/FORMAT.md, "Readable cells"; fileformat2.html, 1.6, 1.7 and 2.1).
use Rattle.std.specs.Prelude.{◌≡◌, ◌≤◌, ℕ, ◌++◌, true, if◌then◌else◌, Option, Some, None, List, [], length, slice_get}
use Rattle.std.specs.List.{AllByRecursion, slice_range}
use Rattle.page_access.specs.Pages.{File, page_at}
use Rattle.page_lists.specs.Lists.{count}
use Rattle.page_lists.specs.Table.{is_page}
use Rattle.record_core.specs.Spelling.{IsRecord}
use Rattle.cell_reader.specs.declared.shapes.PageShape.{PageShape}
use Rattle.cell_reader.specs.declared.cells.CellView.{CellView}
use Rattle.cell_reader.specs.Inside.{has_payload}
use Rattle.cell_reader.specs.Screen.{Accepts}
use Rattle.overflow_chain.specs.Chain.{IsChain}
use Rattle.page_walk.specs.Cells.{Row, missing, outcomes_on}
use Rattle.page_walk.specs.Page.{shape_on, verdicts_on}
use Rattle.page_walk.specs.Rows.{rows_of}

-- the bytes of a payload that are not local stand in these pages: in the overflow chain from page q on,
-- or in none where all bytes are local
abbrev pub IsRest : File → ℕ → Option ℕ → List ℕ → List ℕ → Type 0
IsRest f need None chain rest = (chain ≡ []) × (rest ≡ [])
IsRest f need (Some q) chain rest = IsChain f q need chain rest

-- The row stands in the file. Its page is one of 1 to n; the cell of this page and number is accepted and has a
-- payload; the payload is its local bytes and then those of its chain, and is a record of these values; the rowid is
-- the cell's.
pub record Evidence (f : File) (row : Row) : Type 0 where
  pub shape : PageShape
  pub view : CellView
  pub rest : List ℕ
  pub of_file : is_page f.pages row.page ≡ true
  pub has_shape : shape_on f row.page ≡ Some shape
  pub has_record : has_payload shape.kind shape.leaf ≡ true
  pub accepted : slice_get (verdicts_on f row.page) row.cell ≡ Some (Accepts view)
  pub chain : IsRest f (missing view) view.overflow row.chain rest
  pub values : IsRecord (slice_range (page_at f row.page) view.local_start view.local_end ++ rest) row.fields
  pub few : length row.fields ≤ 1996
  pub rowid : row.rowid ≡ view.rowid

-- the unused pages are pages of the file, each once
abbrev pub AreOnce : ℕ → List ℕ → Type 0
AreOnce pages unused = (q : ℕ) → count q unused ≤ (if is_page pages q then 1 else 0)

-- each readable cell of a page of the file has its evidence
abbrev pub ReadableHaveEvidence : Type 0
ReadableHaveEvidence = (f : File) (p : ℕ) (unused : List ℕ) → is_page f.pages p ≡ true → AreOnce f.pages unused
    → AllByRecursion (Evidence f) (rows_of (outcomes_on f p unused))
