-- How the page size is told from the pages (docs/FORMAT.md, "The page size").
use Rattle.std.specs.Prelude.{ℕ, ◌+◌, ◌-◌, ◌/◌, nat_lt, nat_le, Bool, false, ◌&&◌, Option, Some, None, List, length, map, filter, find, count_by, is_ok}
use Rattle.std.specs.List.{list_all, range_with_len}
use Rattle.page_access.specs.Pages.{page_sizes, page_of}
use Rattle.cell_reader.specs.declared.shapes.PageShape.{PageShape}
use Rattle.cell_reader.specs.Shape.{shape_of}
use Rattle.cell_reader.specs.Cell.{cell_of}
use Rattle.page_size.specs.declared.scores.Score.{Score}

-- each cell of a page with this shape can be read
abbrev pub are_read : List ℕ → ℕ → ℕ → PageShape → Bool
are_read page usable pages shape = list_all (λ i. is_ok (cell_of page usable pages shape i)) (range_with_len 0 shape.cells)

-- a page with this shape has a cell, and each of its cells can be read
abbrev pub is_plausible_with : List ℕ → ℕ → ℕ → Option PageShape → Bool
is_plausible_with page usable pages None = false
is_plausible_with page usable pages (Some shape) = nat_lt 0 shape.cells && are_read page usable pages shape

-- the page with this number looks like a page of a tree
unfoldable pub is_plausible : List ℕ → ℕ → ℕ → ℕ → Bool
is_plausible page number usable pages = is_plausible_with page usable pages (shape_of page number usable)

-- how many of the pages look so, where the bytes are cut into pages of this size
abbrev pub plausible_pages : List ℕ → ℕ → ℕ → ℕ → ℕ
plausible_pages bytes size usable pages = count_by (λ p. is_plausible (page_of bytes size p) p usable pages) (range_with_len 1 pages)

-- the score of a page size
unfoldable pub score : List ℕ → ℕ → ℕ → ℕ
score bytes size reserved = plausible_pages bytes size (size - reserved) (length bytes / size)

-- the page sizes that leave at least 480 usable bytes, the smallest first
abbrev pub scored_sizes : ℕ → List ℕ
scored_sizes reserved = filter (λ size. nat_le (reserved + 480) size) page_sizes

-- each of these sizes with its score
abbrev pub ranking : List ℕ → ℕ → List Score
ranking bytes reserved = map (λ size. record { size = size; pages = score bytes size reserved }) (scored_sizes reserved)

-- the first size whose score is over 0 and no other score is higher: a tie goes to the smaller size
abbrev pub winner : List Score → Option Score
winner scores = find (λ (s : Score). nat_lt 0 s.pages && list_all (λ (t : Score). nat_le t.pages s.pages) scores) scores
