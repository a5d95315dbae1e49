-- Where a cell and its local payload stand (docs/FORMAT.md, "Pages and cells"; fileformat2.html, 1.6).
use Rattle.std.specs.Prelude.{◌≡◌, ◌<◌, ◌≤◌, ℕ, ◌+◌, ◌-◌, ◌*◌, Bool, true, false, Option, Some, None}
use Rattle.std.specs.Bool.{MatchBool}
use Rattle.cell_reader.specs.declared.shapes.Kind.{Kind}
use Rattle.cell_reader.specs.declared.shapes.Kind.TheVariants.{Table, Index}
use Rattle.cell_reader.specs.declared.shapes.PageShape.{PageShape}
use Rattle.cell_reader.specs.declared.cells.CellView.{CellView}
use Rattle.cell_reader.specs.declared.parts.Parts.{Parts}
use Rattle.cell_reader.specs.Shape.{header_len}

-- the pointer array of a page with this shape stands behind its header, inside the usable bytes
pub record HasArray (usable : ℕ) (s : PageShape) : Type 0 where
  pub ends : s.array_end ≡ s.head + header_len s.leaf + 2 * s.cells
  pub within : s.array_end ≤ usable

-- the cells of such a page have a payload: all but those of interior table pages
abbrev pub has_payload : Kind → Bool → Bool
has_payload Table leaf = leaf
has_payload Index leaf = true

-- there is an overflow page exactly where fewer than `total` bytes are local
abbrev pub HasOverflow : Option ℕ → ℕ → ℕ → Type 0
HasOverflow None kept total = kept ≡ total
HasOverflow (Some page) kept total = kept < total

-- a cell within `len` bytes that begin with it
pub record IsParts (len : ℕ) (p : Parts) : Type 0 where
  pub some : 0 < p.from
  pub whole : p.size ≤ len
  pub local : p.from + p.kept ≤ p.size
  pub overflow : HasOverflow p.overflow p.kept p.total
  pub entry : 1 ≤ p.total → 1 ≤ p.kept

-- a cell inside the usable bytes of a page with this shape, in a file of that many pages
pub record IsInside (usable pages : ℕ) (shape : PageShape) (v : CellView) : Type 0 where
  pub some : v.start < v.end
  pub within : v.end ≤ usable
  pub behind : shape.array_end ≤ v.start
  -- its numbers stand before its local bytes
  pub first : v.start < v.local_start
  pub local : v.local_start ≤ v.local_end
  pub last : v.local_end ≤ v.end
  pub overflow : HasOverflow v.overflow (v.local_end - v.local_start) v.total
  pub most : v.total ≤ pages * usable
  pub payload : MatchBool (has_payload shape.kind shape.leaf) (1 ≤ v.total) (v.total ≡ 0)
  -- a payload has a local byte
  pub entry : MatchBool (has_payload shape.kind shape.leaf) (v.local_start < v.local_end) (v.local_start ≡ v.local_end)
