-- What one turn of a cell does to the page table and the source (docs/ARCHITECTURE.md, "Order of use").
use Rattle.std.specs.Prelude.{◌≡◌, ◌≤◌, ℕ, ◌+◌, List, [], ◌∷◌, ◌++◌, length, Option, IfSome}
use Rattle.page_access.specs.Files.{IsWhole}
use Rattle.page_access.specs.Pages.{File}
use Rattle.page_access.specs.declared.geometry.Geometry.{Geometry}
use Rattle.page_lists.specs.Lists.{minus}
use Rattle.page_lists.specs.Table.{Table, all_moved, unused}
use Rattle.cell_reader.specs.declared.cells.CellView.{CellView}
use Rattle.overflow_chain.specs.declared.ChainEnd.{ChainEnd}
use Rattle.overflow_chain.specs.declared.TheConstants.{OVERFLOW_LIST}
use Rattle.page_walk.specs.Cells.{Outcome, bytes_from, chains_of, end_from, missing, outcomes_on, turn_from}

-- the turn of an entry: its pages and their bytes are appended, and the pages have their use
pub record RestTaken (f : File) (v : CellView) (old new : Table) (pages pages' to to' : List ℕ) (end : ChainEnd) : Type 0 where
  pub pages_are : pages' ≡ pages ++ turn_from f (missing v) v.overflow (unused old)
  pub bytes_are : to' ≡ to ++ bytes_from f (missing v) v.overflow (unused old)
  pub table_is : new ≡ all_moved (turn_from f (missing v) v.overflow (unused old)) OVERFLOW_LIST old
  pub end_is : end ≡ end_from f (missing v) v.overflow (unused old)

-- there is one read for each page that is no longer unused, and `more` besides, where the source tells all pages
abbrev pub ReadsEach : Option (List ℕ) → Geometry → Table → Table → ℕ → ℕ → ℕ → Type 0
ReadsEach told geo old new before now more = IfSome told (λ all. IsWhole all geo →
    now + length (unused new) ≤ before + length (unused old) + more)

-- the unused pages that the cells of page p leave
abbrev pub left_by : File → ℕ → List ℕ → List ℕ
left_by f p unused = minus unused (chains_of (outcomes_on f p unused))

-- the cells of these pages at their turns, page by page
abbrev pub turns_on : File → List ℕ → List ℕ → List (ℕ × List Outcome)
turns_on f [] unused = []
turns_on f (p ∷ ps) unused = (p, outcomes_on f p unused) ∷ turns_on f ps (left_by f p unused)

-- the pages that the chains of their cells take, in turn
abbrev pub chains_on : File → List ℕ → List ℕ → List ℕ
chains_on f [] unused = []
chains_on f (p ∷ ps) unused = chains_of (outcomes_on f p unused) ++ chains_on f ps (left_by f p unused)

-- the table after the cells of page p took their turns
abbrev pub after_turns : File → ℕ → Table → Table
after_turns f p t = all_moved (chains_of (outcomes_on f p (unused t))) OVERFLOW_LIST t
