-- Overflow chains (docs/FORMAT.md, "Overflow pages"; fileformat2.html, 1.7).
use Rattle.std.specs.Prelude.{◌≡◌, ℕ, ◌+◌, ◌-◌, ◌/◌, ◌≤◌, if◌then◌else◌, List, [], ◌∷◌, length, take}
use Rattle.std.specs.List.{flat_map, slice_range}
use Rattle.byteorder.specs.Endian.{big_number}
use Rattle.page_access.specs.Pages.{File, page_at}
use Rattle.page_lists.specs.Lists.{count}
use Rattle.page_lists.specs.Table.{is_page}

-- the number of the page after overflow page p: its first four bytes
abbrev pub next_page : File → ℕ → ℕ
next_page f p = big_number 4 (page_at f p)

-- the content of overflow page p: its usable bytes behind that number
abbrev pub content_of : File → ℕ → List ℕ
content_of f p = slice_range (page_at f p) 4 f.usable

-- the contents of pages, joined
abbrev pub contents : File → List ℕ → List ℕ
contents f pages = flat_map (content_of f) pages

-- how many pages `need` bytes take
abbrev pub chain_len : File → ℕ → ℕ
chain_len f need = (need + (f.usable - 5)) / (f.usable - 4)

-- the first page is q, and each page names the one behind it
abbrev pub Linked : (ℕ → ℕ) → ℕ → List ℕ → Type 0
Linked next q [] = Unit {0}
Linked next q (p ∷ ps) = (p ≡ q) × Linked next (next p) ps

-- the overflow chain from page q on that holds `need` bytes: as many pages as they take, all different
-- and of the file, each of which names the next; the bytes are their contents, cut at the end
pub record IsChain (f : File) (q need : ℕ) (pages bytes : List ℕ) : Type 0 where
  pub many : length pages ≡ chain_len f need
  pub inside : (p : ℕ) → count p pages ≤ (if is_page f.pages p then 1 else 0)
  pub linked : Linked (next_page f) q pages
  pub bytes_are : bytes ≡ take need (contents f pages)
