-- How much room the accepted cells of a page take (docs/FORMAT.md, "Accepted cells"; fileformat2.html, 1.6).
use Rattle.std.specs.Prelude.{◌≡◌, ◌≤◌, ℕ, suc, ◌+◌, ◌-◌, ◌*◌, Some, List, [], ◌∷◌}
use Rattle.cell_reader.specs.declared.shapes.Kind.{Kind}
use Rattle.cell_reader.specs.declared.shapes.Kind.TheVariants.{Table, Index}
use Rattle.cell_reader.specs.declared.shapes.PageShape.{PageShape}
use Rattle.cell_reader.specs.Screen.{Verdict, Accepts, Faulty, Overlaps, verdicts}
use Rattle.cell_reader.specs.Shape.{shape_of}

-- the fewest bytes of the numbers of a cell with a payload: a table's has its rowid besides
abbrev pub number_bytes : Kind → ℕ
number_bytes Table = 2
number_bytes Index = 1

-- how many cells are accepted, and their local bytes
abbrev pub accepted : List Verdict → ℕ
accepted [] = 0
accepted (Accepts v ∷ vs) = suc (accepted vs)
accepted (Faulty fault ∷ vs) = accepted vs
accepted (Overlaps ∷ vs) = accepted vs

abbrev pub locals : List Verdict → ℕ
locals [] = 0
locals (Accepts v ∷ vs) = (v.local_end - v.local_start) + locals vs
locals (Faulty fault ∷ vs) = locals vs
locals (Overlaps ∷ vs) = locals vs

-- a page of this kind has four usable bytes for each accepted cell, and one for each of their local bytes; together
-- a cell's pointer, its numbers and its local bytes have room behind the page's header
pub record HasRoom (kind : Kind) (usable : ℕ) (vs : List Verdict) : Type 0 where
  pub cells : 4 * accepted vs ≤ usable
  pub bytes : locals vs ≤ usable
  pub whole : locals vs + accepted vs * number_bytes kind + 2 * accepted vs + 8 ≤ usable

-- so has each page with a shape, whatever it holds
abbrev pub PagesHaveRoom : Type 0
PagesHaveRoom = (page : List ℕ) (number usable pages : ℕ) (shape : PageShape) → shape_of page number usable ≡ Some shape
    → HasRoom shape.kind usable (verdicts page usable pages shape)
