-- What becomes of the cells of a table: which are its rows, and why the others are not (docs/FORMAT.md, "Keys
-- and clashes").
use Rattle.std.specs.Prelude.{ℕ, Bool, not, ◌&&◌, if◌then◌else◌, Option, Some, None, List, [], ◌∷◌, ◌++◌, map}
use Rattle.record_core.specs.declared.values.Value.{Value}
use Rattle.table_shape.specs.declared.keys.KeyPart.{KeyPart}
use Rattle.table_shape.specs.Entries.{in_order}
use Rattle.table_shape.specs.Keys.{KeyParts, Keys, StoredRow, clash_by, fits, key_of, orderable_row, same_key}
use Rattle.page_walk.specs.declared.outcomes.Place.{Place}
use Rattle.page_walk.specs.Cells.{Row}
use Rattle.table_fill.specs.declared.fates.Fate.{Fate}
use Rattle.table_fill.specs.declared.fates.Fate.TheVariants.{Clash, Misfit}

-- what keys see of a cell
abbrev pub held : Row → StoredRow
held r = record { rowid = r.rowid; fields = r.fields }

-- where a cell stands
abbrev pub place_of : Row → Place
place_of r = record { page = r.page; cell = r.cell }

-- where the first of the kept rows stands that passes a test
abbrev pub place_where : (Row → Bool) → List Row → Option Place
place_where test [] = None
place_where test (k ∷ kept) = if test k then Some (place_of k) else place_where test kept

-- the kept row that has a row's fields by the key that orders the rows
abbrev pub same_among : List KeyPart → List Row → StoredRow → Option Place
same_among parts kept row = place_where (λ k. same_key parts (held k) row) kept

-- the kept row with which a row clashes by a key with a number
abbrev pub clash_among : List KeyPart → List Row → StoredRow → Option Place
clash_among parts kept row = place_where (λ k. clash_by parts (held k) row) kept

-- a clash by a key, or else what the further keys give
abbrev pub clash_or : Option Place → ℕ → Option Fate → Option Fate
clash_or None number rest = rest
clash_or (Some earlier) number rest = Some (Clash earlier number)

-- the first of the keys by which a row clashes with a kept one
abbrev pub clash_in : List KeyParts → List Row → StoredRow → Option Fate
clash_in [] kept row = None
clash_in (k ∷ keys) kept row =
    clash_or (clash_among k.parts kept row) k.number (clash_in keys kept row)

-- the same of all keys, of which key 0, the one that orders the rows, is the first
abbrev pub first_clash : Keys → List Row → StoredRow → Option Fate
first_clash t kept row = clash_or (same_among t.first kept row) 0 (clash_in t.keys kept row)

-- why a cell is no row of the table, where these rows before it are; None where it is one
abbrev pub fate_of : Keys → List Row → Row → Option Fate
fate_of t kept r = if fits t (held r) then first_clash t kept (held r) else Some Misfit

-- a cell that is no row of its table
pub record Left : Type 0 where
  pub row : Row
  pub fate : Fate

-- cells gone over in order: those that are rows, the latest first, and the others
pub record Sorted : Type 0 where
  pub kept : List Row
  pub left : List Left

abbrev pub nothing : Sorted
nothing = record { kept = []; left = [] }

abbrev pub left_row : Row → Fate → Left
left_row r fate = record { row = r; fate = fate }

-- one cell more, with its fate
abbrev pub with_fate : Sorted → Row → Option Fate → Sorted
with_fate s r None = record { kept = r ∷ s.kept; left = s.left }
with_fate s r (Some fate) = record { kept = s.kept; left = s.left ++ left_row r fate ∷ [] }

abbrev pub with_cell : Keys → Sorted → Row → Sorted
with_cell t s r = with_fate s r (fate_of t s.kept r)

abbrev pub with_cells : Keys → Sorted → List Row → Sorted
with_cells t s [] = s
with_cells t s (r ∷ rs) = with_cells t (with_cell t s r) rs

-- all cells of a table, in cell order
unfoldable pub sorted_of : Keys → List Row → Sorted
sorted_of t cells = with_cells t nothing cells

-- the key of a cell by which the rows are ordered
abbrev pub row_key : Keys → Row → List Value
row_key t r = key_of t.first (held r)

-- the rows of the table, in the order of rowid or primary key
abbrev pub rows_of : Keys → Sorted → List Row
rows_of t s = map (λ e. e.1) (in_order (row_key t) s.kept)

-- the first cell that fits and has a key field that cannot be ordered
abbrev pub first_unordered : Keys → List Row → Option Place
first_unordered t [] = None
first_unordered t (r ∷ rs) =
    if fits t (held r) && not (orderable_row t (held r)) then Some (place_of r) else first_unordered t rs
