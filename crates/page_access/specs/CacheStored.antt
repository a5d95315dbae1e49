-- How a cache of pages is stored, and what holds of the stored fields (docs/FORMAT.md, "Pages").
use Rattle.std.specs.Prelude.{ℕ, ◌<◌, ◌≤◌, List, map, Vec}
use Rattle.std.specs.declared.alloc.Global.{Global}
use Rattle.page_access.specs.Cache.{ArePairs, Cache}
use Rattle.page_access.specs.declared.caches.PageCache.TheInside.{Inside}

-- the pairs as lists of bytes
abbrev pub shown : List (ℕ × Vec ℕ Global) → List (ℕ × List ℕ)
shown es = map (λ (e : ℕ × Vec ℕ Global). (e.0, e.1.items)) es

-- the cache that the fields hold
abbrev pub cache_of : Inside → Cache
cache_of s = record { size = s.geo.page_size; pages = s.geo.pages; slots = s.pairs.cap; pairs = shown s.pairs.entries }

-- what holds of the fields
pub record IsSound (s : Inside) : Type 0 where
  pub some : 0 < s.pairs.cap
  pub pairs : ArePairs (cache_of s)
