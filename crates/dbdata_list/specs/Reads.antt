-- How often a listing reads its file (docs/ARCHITECTURE.md, "Bounds").
use Rattle.std.specs.Prelude.{ℕ, ◌+◌, ◌≤◌, Option, IfSome, List, length}
use Rattle.page_access.specs.Files.{IsWhole}
use Rattle.page_access.specs.declared.geometry.Geometry.{Geometry}
use Rattle.page_lists.specs.Table.{Table, unused}

-- at most so many reads besides one for each page that is no longer unused
abbrev pub FewReadsOf : Option (List ℕ) → Geometry → Table → ℕ → ℕ → ℕ → Type 0
FewReadsOf told geo table before now most =
    IfSome told (λ all. IsWhole all geo → now + length (unused table) ≤ before + (geo.pages + most))
