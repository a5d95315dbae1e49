-- Rows that share nothing: each has its own cell, and its own overflow chain (docs/ARCHITECTURE.md, "Order of use").
use Rattle.std.specs.Prelude.{◌≡◌, ◌≤◌, ℕ, ◌+◌, ◌==◌, ◌&&◌, if◌then◌else◌, List, [], ◌∷◌, map}
use Rattle.std.specs.List.{flat_map}
use Rattle.page_lists.specs.Lists.{count}
use Rattle.page_walk.specs.Cells.{Row}

-- 1 where the row is cell i of page p, and else 0
abbrev pub once_at : ℕ → ℕ → Row → ℕ
once_at p i r = if (r.page == p) && (r.cell == i) then 1 else 0

-- how often cell i of page p is among these
abbrev pub times_at : ℕ → ℕ → List Row → ℕ
times_at p i [] = 0
times_at p i (r ∷ rows) = once_at p i r + times_at p i rows

-- the pages of their overflow chains, and the pages that hold them
abbrev pub row_chains : List Row → List ℕ
row_chains rows = flat_map (λ (r : Row). r.chain) rows

abbrev pub row_pages : List Row → List ℕ
row_pages rows = map (λ (r : Row). r.page) rows

-- no two rows are one cell, no page is in the overflow chains of two rows or twice in one, and none of these pages holds a row
pub record AreApart (rows : List Row) : Type 0 where
  pub places : (p i : ℕ) → times_at p i rows ≤ 1
  pub chains : (q : ℕ) → count q (row_chains rows) ≤ 1
  pub holds : (q : ℕ) → 1 ≤ count q (row_chains rows) → count q (row_pages rows) ≡ 0
