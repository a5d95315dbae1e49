-- Clear paths: pages that one number alone names (docs/FORMAT.md, "Clear paths").
use Rattle.std.specs.Prelude.{◌≡◌, ◌≤◌, ◌↔◌, ℕ, ℤ, pos, negsuc, true, Some, List, [], ◌∷◌, ◌++◌, option_to_list}
use Rattle.std.specs.List.{AllByRecursion, flat_map, range_with_len}
use Rattle.page_access.specs.Pages.{File}
use Rattle.page_lists.specs.Lists.{count, firsts, is_in, minus}
use Rattle.page_lists.specs.Table.{is_page}
use Rattle.cell_reader.specs.declared.shapes.Kind.{Kind}
use Rattle.cell_reader.specs.Screen.{Verdict, Accepts, Faulty, Overlaps}
use Rattle.overflow_chain.specs.Chain.{next_page}
use Rattle.page_walk.specs.Cells.{Row}
use Rattle.page_walk.specs.Evidence.{Evidence}
use Rattle.page_walk.specs.Page.{verdicts_on}
use Rattle.page_walk.specs.Pointers.{pointers_on}
use Rattle.page_walk.specs.Walk.{IsChild, kind_on, levels}
use Rattle.raw_schema.specs.declared.rows.SchemaRow.{SchemaRow}

-- ---- positions, and the numbers that they hold

-- the overflow page number of a cell, where it is accepted and has one
abbrev pub overflow_by : Verdict → List ℕ
overflow_by (Accepts v) = option_to_list v.overflow
overflow_by (Faulty fault) = []
overflow_by Overlaps = []

-- the overflow page numbers of the accepted cells of page p, in cell order
abbrev pub overflows_on : File → ℕ → List ℕ
overflows_on f p = flat_map overflow_by (verdicts_on f p)

-- the first four bytes of page p, as a number
abbrev pub next_on : File → ℕ → List ℕ
next_on f p = next_page f p ∷ []

-- what the positions on page p hold: the child numbers of its accepted cells and its right-most pointer, the overflow
-- page numbers of its accepted cells, and its first four bytes
abbrev pub numbers_on : File → ℕ → List ℕ
numbers_on f p = pointers_on f p ++ (overflows_on f p ++ next_on f p)

-- a root as a page number; a negative one is none
abbrev pub root_number : ℤ → List ℕ
root_number (pos q) = q ∷ []
root_number (negsuc m) = []

-- the roots of all rows of the schema, of each sort
abbrev pub roots_of : List SchemaRow → List ℕ
roots_of rows = flat_map (λ (r : SchemaRow). root_number r.root) rows

-- what the positions outside the pages hold: 1, the root of the schema, and these roots
abbrev pub outer_numbers : List ℕ → List ℕ
outer_numbers roots = 1 ∷ roots

-- ---- the pages that are touched

-- a page is touched: a position outside the pages names it, or one on a page that is touched
pub data Touched (f : File) (roots : List ℕ) : ℕ → Type 0 where
  outer : (q : ℕ) → is_in q (outer_numbers roots) ≡ true → is_page f.pages q ≡ true → Touched f roots q
  named : (p q : ℕ) → Touched f roots p → is_in q (numbers_on f p) ≡ true → is_page f.pages q ≡ true → Touched f roots q

-- the pages of a file, rising
abbrev pub all_pages : File → List ℕ
all_pages f = range_with_len 1 f.pages

-- those that the positions outside the pages name, each once
abbrev pub outer_pages : File → List ℕ → List ℕ
outer_pages f roots = firsts (all_pages f) (outer_numbers roots)

-- the pages that are touched, each once
unfoldable pub touched : File → List ℕ → List ℕ
touched f roots = levels (numbers_on f) f.pages (minus (all_pages f) (outer_pages f roots)) (outer_pages f roots)

-- a list has the pages that are touched, each once
pub record AreTouched (f : File) (roots pages : List ℕ) : Type 0 where
  pub all : (q : ℕ) → (is_in q pages ≡ true) ↔ Touched f roots q
  pub once : (q : ℕ) → count q pages ≤ 1

-- ---- clear pages

-- what the positions that count hold: those outside the pages, and those on these pages
abbrev pub numbers_with : File → List ℕ → List ℕ → List ℕ
numbers_with f roots pages = outer_numbers roots ++ flat_map (numbers_on f) pages

-- the same where the pages are those that are touched
abbrev pub counted : File → List ℕ → List ℕ
counted f roots = numbers_with f roots (touched f roots)

-- a page is clear: of the positions that count exactly one names it
pub record IsClear (f : File) (roots : List ℕ) (q : ℕ) : Type 0 where
  pub of_file : is_page f.pages q ≡ true
  pub one : count q (counted f roots) ≡ 1

-- ---- clear paths

-- a way from page p to page q, down by these pages, each the child of the one before
abbrev pub IsWay : File → ℕ → List ℕ → ℕ → Type 0
IsWay f p [] q = p ≡ q
IsWay f p (c ∷ cs) q = IsChild f p c × IsWay f c cs q

-- A clear path to the entry of a row, from a root that is a page of the wanted kind: the pages down to the entry's page and
-- those of its overflow chain are clear, and the entry's payload is a record.
pub record IsClearPath (f : File) (roots : List ℕ) (root : ℤ) (kind : Kind) (row : Row) : Type 0 where
  pub top : ℕ
  pub root_is : root ≡ pos top
  pub kind_is : kind_on f top ≡ Some kind
  pub down : List ℕ
  pub way : IsWay f top down row.page
  pub pages : AllByRecursion (IsClear f roots) (top ∷ down)
  pub evidence : Evidence f row
  pub chain : AllByRecursion (IsClear f roots) row.chain
