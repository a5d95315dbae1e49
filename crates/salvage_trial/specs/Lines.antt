-- The lines of a trial (docs/TEXTS.md, "The lines of a trial").
use Rattle.std.specs.Prelude.{ℕ, List, ◌++◌, codes, decimal}
use Rattle.line_text.specs.Text.{newline}

-- so many rows of the tables that are built, and so many of the table of lost cells
abbrev pub counts_text : ℕ → ℕ → List ℕ
counts_text rows lost = codes " rows " ++ (decimal rows ++ (codes " lost " ++ (decimal lost ++ newline)))

-- the line of the whole file, of n rows
abbrev pub whole_line : ℕ → ℕ → ℕ → ℕ → List ℕ
whole_line n pages rows lost =
    codes "trial " ++ (decimal n ++ (codes " pages " ++ (decimal pages ++ counts_text rows lost)))

-- the line of the file without page p
abbrev pub hole_line : ℕ → ℕ → ℕ → List ℕ
hole_line p rows lost = codes "hole " ++ (decimal p ++ counts_text rows lost)
