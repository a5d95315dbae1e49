-- The kinds of the pages of a file, as a survey holds them (docs/FORMAT.md, "Trees"; fileformat2.html, 1.6).
use Rattle.std.specs.Prelude.{ℕ, ◌-◌, Option, None, List, slice_index_or}
use Rattle.cell_reader.specs.declared.shapes.Kind.{Kind}

-- the kind of page p, pages counted from 1
abbrev pub kind_at : List (Option Kind) → ℕ → Option Kind
kind_at kinds p = slice_index_or kinds (p - 1) None
