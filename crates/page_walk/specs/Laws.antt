-- What holds of all turns and walks (docs/ARCHITECTURE.md, "Order of use").
use Rattle.std.specs.Prelude.{◌≡◌, ◌≤◌, ◌↔◌, ℕ, ◌+◌, ℤ, nat_lt, Bool, true, Some, None, is_some, IsTrue, List, [], ◌∷◌, ◌++◌, map}
use Rattle.std.specs.List.{Contains, filter}
use Rattle.page_access.specs.Pages.{File}
use Rattle.page_lists.specs.Lists.{IsPartOf, is_in, minus}
use Rattle.page_lists.specs.Table.{is_page}
use Rattle.cell_reader.specs.declared.shapes.Kind.{Kind}
use Rattle.cell_reader.specs.declared.shapes.Kind.TheVariants.{Table, Index}
use Rattle.page_walk.specs.Cells.{Row, Outcome, Read, Unread, chains_of, outcomes_on}
use Rattle.page_walk.specs.Evidence.{AreOnce, Evidence}
use Rattle.page_walk.specs.Rows.{rows_of}
use Rattle.page_walk.specs.Turns.{chains_on, turns_on}
use Rattle.page_walk.specs.Walk.{kind_on, walk}

-- turns over pages and then over more go on from the unused pages that the first left
pub record TurnsGoOn (f : File) (ps qs unused : List ℕ) : Type 0 where
  pub turns : turns_on f (ps ++ qs) unused ≡ turns_on f ps unused ++ turns_on f qs (minus unused (chains_on f ps unused))
  pub chains : chains_on f (ps ++ qs) unused ≡ chains_on f ps unused ++ chains_on f qs (minus unused (chains_on f ps unused))

abbrev pub TurnsAlwaysGoOn : Type 0
TurnsAlwaysGoOn = (f : File) (ps qs unused : List ℕ) → TurnsGoOn f ps qs unused

-- the pages that turns take are part of the unused pages
abbrev pub ChainsAreUnused : Type 0
ChainsAreUnused = (f : File) (ps unused : List ℕ) → IsPartOf (chains_on f ps unused) unused

-- so are those of a walk, and each has the kind of the tree
pub record IsWalkOf (f : File) (unused : List ℕ) (root : ℤ) (kind : Kind) (pages : List ℕ) : Type 0 where
  pub part : IsPartOf pages unused
  pub kinds : (q : ℕ) → is_in q pages ≡ true → kind_on f q ≡ Some kind

abbrev pub WalksAreUnused : Type 0
WalksAreUnused = (f : File) (unused : List ℕ) (root : ℤ) (kind : Kind) → IsWalkOf f unused root kind (walk f unused root kind)

-- the number of a cell on its page
abbrev pub number_of : Outcome → ℕ
number_of (Read row) = row.cell
number_of (Unread u) = u.cell

-- the numbers rise, each above the one before, from `least` on
abbrev pub Rises : ℕ → List ℕ → Type 0
Rises least [] = Unit {0}
Rises least (i ∷ is) = (least ≤ i) × Rises (i + 1) is

-- so do the numbers of a page's cells
abbrev pub CellsRise : Type 0
CellsRise = (f : File) (p : ℕ) (unused : List ℕ) → Rises 0 (map number_of (outcomes_on f p unused))

-- whether the cell is one of those before cell i of its page
abbrev pub is_before : ℕ → Outcome → Bool
is_before i o = nat_lt (number_of o) i

-- the unused pages that the cells of page p before cell i leave
abbrev pub left_before : File → ℕ → ℕ → List ℕ → List ℕ
left_before f p i unused = minus unused (chains_of (filter (is_before i) (outcomes_on f p unused)))

-- The row stands in the file on page p, and its chain is one of pages that the cells before it leave.
pub record IsReadable (f : File) (p : ℕ) (unused : List ℕ) (row : Row) : Type 0 where
  pub evidence : Evidence f row
  pub on_page : row.page ≡ p
  pub free : IsPartOf row.chain (left_before f p row.cell unused)

-- the rows that are read of a page are exactly those
abbrev pub ReadableAreRead : Type 0
ReadableAreRead = (f : File) (p : ℕ) (unused : List ℕ) (row : Row) → is_page f.pages p ≡ true → AreOnce f.pages unused
    → Contains (rows_of (outcomes_on f p unused)) row ↔ IsReadable f p unused row

-- a row has a rowid on a page of a table, and none on a page of an index
pub record HasRowidByKind (f : File) (row : Row) : Type 0 where
  pub table : kind_on f row.page ≡ Some Table → IsTrue (is_some row.rowid)
  pub index : kind_on f row.page ≡ Some Index → row.rowid ≡ None

abbrev pub RowidsAreByKind : Type 0
RowidsAreByKind = (f : File) (row : Row) → Evidence f row → HasRowidByKind f row
