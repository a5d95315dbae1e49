-- The bytes of a page that stand in accepted cells, a mark for each byte (docs/FORMAT.md, "Accepted cells").
use Rattle.std.specs.Prelude.{◌≡◌, ◌<◌, ◌≤◌, ℕ, zero, suc, ◌+◌, ◌-◌, ◌/◌, nat_le, nat_lt, Bool, true, false, not, ◌&&◌, if◌then◌else◌, Result, Ok, Err, List, [], ◌∷◌, ◌++◌, length, take, drop, replicate, slice_index_or}
use Rattle.std.specs.List.{AllByRecursion, list_all, list_any, slice_range}
use Rattle.cell_reader.specs.declared.cells.CellView.{CellView}
use Rattle.cell_reader.specs.declared.cells.CellFault.{CellFault}
use Rattle.cell_reader.specs.Screen.{Verdict, Accepts, Faulty, Overlaps}

-- no byte from `start` to before `end` is marked
abbrev pub is_free : List Bool → ℕ → ℕ → Bool
is_free marks start end = list_all not (slice_range marks start end)

-- the marks with those from `start` to before `end` set
abbrev pub with_range : List Bool → ℕ → ℕ → List Bool
with_range marks start end = take start marks ++ (replicate (end - start) true ++ drop end marks)

-- a mark for each block of 256 marks: where it is not set, none of the block's marks is
pub record IsBlocked (marks blocks : List Bool) : Type 0 where
  pub many : length blocks ≡ length marks / 256 + 1
  pub clear : (k : ℕ) → slice_index_or blocks (k / 256) false ≡ false → slice_index_or marks k false ≡ false

-- these marks, their blocks, and a place below which no mark is set
pub record IsMarked (marks blocks : List Bool) (low : ℕ) : Type 0 where
  pub blocked : IsBlocked marks blocks
  pub below : (k : ℕ) → k < low → slice_index_or marks k false ≡ false

-- byte k of the page stands in the cell
abbrev pub covers : ℕ → CellView → Bool
covers k v = nat_le v.start k && nat_lt k v.end

-- the cell has bytes, all of them usable
abbrev pub IsRange : ℕ → CellView → Type 0
IsRange usable v = (v.start < v.end) × (v.end ≤ usable)

-- the marks are those of the bytes of the held cells
pub record Covers (usable : ℕ) (marks : List Bool) (held : List CellView) : Type 0 where
  pub len : length marks ≡ usable
  pub ranges : AllByRecursion (IsRange usable) held
  pub each : (k : ℕ) → k < usable → slice_index_or marks k false ≡ list_any (covers k) held

-- the verdict on a cell by the marks of the accepted cells before it
abbrev pub marked_on : Result CellView CellFault → List Bool → Verdict
marked_on (Err fault) marks = Faulty fault
marked_on (Ok v) marks = if is_free marks v.start v.end then Accepts v else Overlaps

-- the marks behind a cell with this verdict
abbrev pub marks_with : Verdict → List Bool → List Bool
marks_with (Accepts v) marks = with_range marks v.start v.end
marks_with (Faulty fault) marks = marks
marks_with Overlaps marks = marks

-- the verdicts by marks on n cells from cell i on
abbrev pub marked_from : (ℕ → Result CellView CellFault) → ℕ → ℕ → List Bool → List Verdict
marked_from cell zero i marks = []
marked_from cell (suc n) i marks =
    marked_on (cell i) marks ∷ marked_from cell n (i + 1) (marks_with (marked_on (cell i) marks) marks)
