-- What holds of the rows of a table and of the cells that are none, whatever the cells are (docs/FORMAT.md, "Keys
-- and clashes").
use Rattle.std.specs.Prelude.{◌≡◌, ◌<◌, ◌↔◌, ◌⊎◌, ℕ, true, false, not, Some, None, List, [], ◌∷◌, ◌++◌, filter, map}
use Rattle.std.specs.List.{AllByRecursion, Contains}
use Rattle.std.specs.Cmp.Lexicographic.{slice_cmp}
use Rattle.std.specs.List.Sorted.{IsPermutation, IsStrictlySortedBy}
use Rattle.key_order.specs.Order.{value_cmp}
use Rattle.table_shape.specs.declared.keys.KeyPart.{KeyPart}
use Rattle.table_shape.specs.Entries.{entry_parts, in_order}
use Rattle.table_shape.specs.Keys.{AreRows, KeyParts, Keys, StoredRow, clash, clash_by, fits, key_of, keys_of, parts_of, same_key}
use Rattle.table_shape.specs.Shape.{IsShape, KeyColumns, Shape}
use Rattle.page_walk.specs.declared.outcomes.Place.{Place}
use Rattle.page_walk.specs.Cells.{Row}
use Rattle.table_fill.specs.declared.fates.Fate.{Fate}
use Rattle.table_fill.specs.declared.fates.Fate.TheVariants.{Clash, Misfit}
use Rattle.table_fill.specs.Chosen.{clashes_in, misfits_in}
use Rattle.table_fill.specs.Fates.{Left, fate_of, first_unordered, held, place_of, rows_of, sorted_of, with_cell, with_cells}

-- each given cell stands in exactly one of the two lists, once
abbrev pub EachOnce : Type 0
EachOnce = (t : Keys) (cells : List Row)
    → IsPermutation cells (rows_of t (sorted_of t cells) ++ map (λ l. l.row) (sorted_of t cells).left)

-- each cell that is no row is a clash or a misfit
abbrev pub LeftAreBoth : Type 0
LeftAreBoth = (left : List Left)
    → IsPermutation (map (λ l. l.row) left) (map (λ c. c.row) (clashes_in left) ++ misfits_in left)

-- the misfits are the cells that do not fit, in cell order
abbrev pub MisfitsAre : Type 0
MisfitsAre = (t : Keys) (cells : List Row)
    → misfits_in (sorted_of t cells).left ≡ filter (λ r. not (fits t (held r))) cells

-- the rows fit, rise strictly by rowid or primary key, and no two clash; their key fields can be ordered
abbrev pub RowsAreGood : Type 0
RowsAreGood = (t : Keys) (cells : List Row) → first_unordered t cells ≡ None
    → AreRows t (map held (rows_of t (sorted_of t cells)))

-- a cell fits and clashes with none of these rows
pub record IsFree (t : Keys) (kept : List Row) (r : Row) : Type 0 where
  pub fit : fits t (held r) ≡ true
  pub apart : AllByRecursion (λ k. clash t (held k) (held r) ≡ false) kept

-- a cell is a row exactly where it fits and clashes with no kept row before it
abbrev pub KeptExactly : Type 0
KeptExactly = (t : Keys) (kept : List Row) (r : Row) → (fate_of t kept r ≡ None) ↔ IsFree t kept r

-- the cells before a cell decide on it, and those behind it change nothing of that
abbrev pub InCellOrder : Type 0
InCellOrder = (t : Keys) (before : List Row) (r : Row) (after : List Row)
    → sorted_of t (before ++ r ∷ after) ≡ with_cells t (with_cell t (sorted_of t before) r) after

-- two rows clash by the key with this number
abbrev pub ClashBy : Keys → ℕ → StoredRow → StoredRow → Type 0
ClashBy t key a b = ((key ≡ 0) × (same_key t.first a b ≡ true))
    ⊎ ((k : KeyParts) × Contains t.keys k × (k.number ≡ key) × (clash_by k.parts a b ≡ true))

-- a clash names one of these rows and a key by which it clashes with the cell
pub record IsClash (t : Keys) (kept : List Row) (r : Row) (earlier : Place) (key : ℕ) : Type 0 where
  pub fit : fits t (held r) ≡ true
  pub with : Row
  pub there : Contains kept with
  pub place : place_of with ≡ earlier
  pub by : ClashBy t key (held with) (held r)

-- why a cell is no row
abbrev pub IsFate : Keys → List Row → Row → Fate → Type 0
IsFate t kept r (Clash earlier key) = IsClash t kept r earlier key
IsFate t kept r Misfit = fits t (held r) ≡ false

-- each cell that is no row has its fate: a clash names one of the rows and a key by which it clashes
abbrev pub FatesAreSo : Type 0
FatesAreSo = (t : Keys) (cells : List Row)
    → AllByRecursion (λ l. IsFate t (rows_of t (sorted_of t cells)) l.row l.fate) (sorted_of t cells).left

-- keys by strictly rising numbers
abbrev pub AreRising : ℕ → List KeyParts → Type 0
AreRising low [] = Unit {0}
AreRising low (k ∷ keys) = (low < k.number) × AreRising k.number keys

-- a clash names the least key by which the cell clashes with a row before it
abbrev pub NamesLeastKey : Type 0
NamesLeastKey = (t : Keys) (kept : List Row) (r : Row) (earlier : Place) (key : ℕ) → AreRising 0 t.keys
    → fate_of t kept r ≡ Some (Clash earlier key) → (n : ℕ) → n < key
    → AllByRecursion (λ k. ClashBy t n (held k) (held r) → ⊥) kept

-- rows of a well-formed table, found in any order, are its rows, in order, and nothing is left
pub record Stays (t : Keys) (cells rows : List Row) : Type 0 where
  pub ordered : first_unordered t cells ≡ None
  pub rows_are : rows_of t (sorted_of t cells) ≡ rows
  pub none_left : (sorted_of t cells).left ≡ []

abbrev pub GoodRowsStay : Type 0
GoodRowsStay = (t : Keys) (cells rows : List Row) → IsPermutation cells rows → AreRows t (map held rows)
    → Stays t cells rows

-- the keys of a shape have strictly rising numbers
abbrev pub ShapesRise : Type 0
ShapesRise = (s : Shape) → IsShape s → AreRising 0 (keys_of s).keys

-- the index records of a key, each by its row, rise strictly, and each row has one
pub record RiseOnce (parts : List KeyPart) (rows : List StoredRow) : Type 0 where
  pub rise : IsStrictlySortedBy (slice_cmp value_cmp) (map (λ e. e.0) (in_order (key_of parts) rows))
  pub once : IsPermutation rows (map (λ e. e.1) (in_order (key_of parts) rows))

abbrev pub EntriesRise : Type 0
EntriesRise = (s : Shape) (key : KeyColumns) (rows : List StoredRow) → IsShape s → AreRows (keys_of s) rows
    → RiseOnce (entry_parts (keys_of s) (parts_of s key)) rows
