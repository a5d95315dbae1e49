-- A file with a page of zeros (docs/FORMAT.md, "The database of a trial").
use Rattle.std.specs.Prelude.{ℕ, ◌+◌, ◌-◌, ◌*◌, ◌%◌, List, ◌++◌, drop, replicate, take}

-- bytes of a page
abbrev pub page_size : ℕ
page_size = 512

-- the page of zeros of a trial of n rows: one of 2 to the last one
abbrev pub hole_of : ℕ → ℕ → ℕ
hole_of n pages = 2 + n % (pages - 1)

-- a file with zeros in place of page p, counted from 1
abbrev pub with_hole : ℕ → List ℕ → List ℕ
with_hole p bytes = take ((p - 1) * page_size) bytes ++ (replicate page_size 0 ++ drop (p * page_size) bytes)
