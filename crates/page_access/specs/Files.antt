-- The file that bytes and a geometry make (docs/FORMAT.md, "Pages"; fileformat2.html, 1.2 and 1.3).
use Rattle.std.specs.Prelude.{ℕ, ◌+◌, ◌*◌, ◌^◌, ◌≤◌, Option, IfSome, List, length}
use Rattle.page_access.specs.Pages.{File}
use Rattle.page_access.specs.declared.geometry.Geometry.{Geometry}

-- the most bytes that an input may have
abbrev pub max_input : ℕ
max_input = 2 ^ 28

-- the bytes, cut into pages as the geometry says
abbrev pub file_of : List ℕ → Geometry → File
file_of bytes geo = record { bytes = bytes; size = geo.page_size; usable = geo.usable; pages = geo.pages }

-- the bytes reach to the end of the last page
abbrev pub IsWhole : List ℕ → Geometry → Type 0
IsWhole bytes geo = geo.pages * geo.page_size ≤ length bytes

-- there are at most so many reads of a file that is cut so, where the source tells all its pages
abbrev pub FewReads : Option (List ℕ) → Geometry → ℕ → ℕ → ℕ → Type 0
FewReads told geo before now most = IfSome told (λ all. IsWhole all geo → now ≤ before + most)
