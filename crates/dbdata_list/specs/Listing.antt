-- The listings of a file (docs/TEXTS.md, "Listings").
use Rattle.std.specs.Prelude.{ℕ, zero, suc, ◌+◌, List, [], ◌++◌}
use Rattle.std.specs.List.{range_with_len}
use Rattle.page_access.specs.Pages.{File}
use Rattle.page_walk.specs.Cells.{outcomes_on}
use Rattle.page_walk.specs.Pointers.{pointers_on}
use Rattle.page_walk.specs.Turns.{left_by}
use Rattle.dbdata_list.specs.Text.{outcomes_text, page_text, pointer_lines}

-- the lines of n pages from page p on
abbrev pub pages_text : (ℕ → List ℕ) → ℕ → ℕ → List ℕ
pages_text text zero p = []
pages_text text (suc n) p = text p ++ pages_text text n (p + 1)

-- the lines of the page numbers that page p names
abbrev pub page_pointers : File → ℕ → List ℕ
page_pointers f p = pointer_lines p (pointers_on f p)

-- the listing of all page numbers that pages name
unfoldable pub pointers_text : File → List ℕ
pointers_text f = pages_text (page_pointers f) f.pages 1

-- the lines of the cells of page p, at their turns
abbrev pub page_data : File → ℕ → List ℕ → List ℕ
page_data f p unused = outcomes_text (page_text p) (outcomes_on f p unused)

-- the lines of the cells of n pages from page p on: overflow chains alone use pages, and each is listed
-- all the same
abbrev pub pages_data : File → ℕ → ℕ → List ℕ → List ℕ
pages_data f zero p unused = []
pages_data f (suc n) p unused = page_data f p unused ++ pages_data f n (p + 1) (left_by f p unused)

-- the listing of all cells
unfoldable pub data_text : File → List ℕ
data_text f = pages_data f f.pages 1 (range_with_len 1 f.pages)
