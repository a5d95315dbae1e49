-- Pages of a file (docs/FORMAT.md, "Pages"; fileformat2.html, 1.2 and 1.3).
use Rattle.std.specs.Prelude.{ℕ, ◌-◌, ◌*◌, ◌==◌, Bool, List, [], ◌∷◌, ◌++◌, length, take, drop, replicate}
use Rattle.std.specs.List.{list_any}

-- the eight page sizes, in bytes
abbrev pub page_sizes : List ℕ
page_sizes = 512 ∷ 1024 ∷ 2048 ∷ 4096 ∷ 8192 ∷ 16384 ∷ 32768 ∷ 65536 ∷ []

-- a power of two from 512 to 65536
abbrev pub is_page_size : ℕ → Bool
is_page_size size = list_any (λ s. s == size) page_sizes

-- the bytes, and zeros behind them up to a length
abbrev pub zero_filled : ℕ → List ℕ → List ℕ
zero_filled len bytes = bytes ++ replicate (len - length bytes) 0

-- page p of a file, pages counted from 1; bytes past the end of the file are zeros
unfoldable pub page_of : List ℕ → ℕ → ℕ → List ℕ
page_of bytes size p = zero_filled size (take size (drop ((p - 1) * size) bytes))

-- the bytes of a file, and how they are cut into pages
pub record File : Type 0 where
  pub bytes : List ℕ
  -- bytes of a page
  pub size : ℕ
  -- bytes of a page that are not reserved at its end
  pub usable : ℕ
  -- number of pages
  pub pages : ℕ

-- page p of a file
abbrev pub page_at : File → ℕ → List ℕ
page_at f p = page_of f.bytes f.size p
