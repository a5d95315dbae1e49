-- Pages in memory, and what asking for one changes (docs/FORMAT.md, "Pages").
use Rattle.std.specs.Prelude.{◌≡◌, ◌≤◌, ℕ, ◌-◌, nat_eq, is_some, IfSome, IsTrue, Option, Some, Result, Ok, List, [], ◌∷◌, length, take}
use Rattle.std.specs.List.{AllByRecursion, IsDistinct}
use Rattle.std.specs.Map.{keys_of, lookup, remove_entry}
use Rattle.page_access.specs.Pages.{page_of}
use Rattle.page_access.specs.declared.geometry.Geometry.{Geometry}

-- pages of a file with their bytes, the one asked for last first: at most so many pairs
pub record Cache : Type 0 where
  -- bytes of a page, and number of pages, of the file
  pub size : ℕ
  pub pages : ℕ
  pub slots : ℕ
  pub pairs : List (ℕ × List ℕ)

-- the bytes of page p, where the cache has them
abbrev pub found : ℕ → Cache → Option (List ℕ)
found p c = lookup (nat_eq p) c.pairs

-- the pair of page p comes first
abbrev pub used : ℕ → List ℕ → Cache → Cache
used p bytes c = record c { pairs = (p, bytes) ∷ remove_entry (nat_eq p) c.pairs }

-- a new pair comes first, and where there were as many as may be the last is gone
abbrev pub added : ℕ → List ℕ → Cache → Cache
added p bytes c = record c { pairs = (p, bytes) ∷ take (c.slots - 1) c.pairs }

-- the pairs are pages of these bytes
abbrev pub HoldsPages : List ℕ → Cache → Type 0
HoldsPages all c = AllByRecursion (λ e. e.1 ≡ page_of all c.size e.0) c.pairs

-- all pages 1 to n have a pair
abbrev pub HasAll : Cache → Type 0
HasAll c = (p : ℕ) → 1 ≤ p → p ≤ c.pages → IsTrue (is_some (found p c))

-- pairs of different pages of 1 to n, at most as many as there are slots, with the bytes of a whole page
pub record ArePairs (c : Cache) : Type 0 where
  pub distinct : IsDistinct nat_eq (keys_of c.pairs)
  pub few : length c.pairs ≤ c.slots
  pub pages : AllByRecursion (λ e. (1 ≤ e.0) × (e.0 ≤ c.pages)) c.pairs
  pub whole : AllByRecursion (λ e. length e.1 ≡ c.size) c.pairs

-- no call changes for which files and how many pages a cache is
pub record IsSame (old new : Cache) : Type 0 where
  pub size : new.size ≡ old.size
  pub pages : new.pages ≡ old.pages
  pub slots : new.slots ≡ old.slots

-- the page was there: it has the bytes of its pair, which comes first
pub record IsHit {E : Type 0} (p : ℕ) (bytes : List ℕ) (result : Result Unit E) (old new : Cache) : Type 0 where
  pub ok : result ≡ Ok tt
  pub bytes_are : found p old ≡ Some bytes
  pub first : new ≡ used p bytes old

-- the cache is one for files that are cut so, and its pairs are pages of the file where the source tells it
pub record IsCacheOf (told : Option (List ℕ)) (geo : Geometry) (c : Cache) : Type 0 where
  pub size : c.size ≡ geo.page_size
  pub pages : c.pages ≡ geo.pages
  pub holds : IfSome told (λ all. HoldsPages all c)
