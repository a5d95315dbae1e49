-- The pages that the freelist takes (docs/ARCHITECTURE.md, "Order of use"; docs/FORMAT.md, "The freelist").
use Rattle.std.specs.Prelude.{◌≡◌, ℕ, zero, suc, true, false, if◌then◌else◌, List, [], ◌∷◌, ◌++◌, length}
use Rattle.std.specs.List.{flat_map}
use Rattle.page_access.specs.Pages.{File}
use Rattle.page_lists.specs.Lists.{firsts, is_in, minus, without}
use Rattle.freelist_core.specs.Trunk.{leaves_of, next_trunk}

-- a trunk page, and the leaves that it names, each once, that are unused pages besides
pub record Trunk : Type 0 where
  pub page : ℕ
  pub leaves : List ℕ

abbrev pub pages_of : Trunk → List ℕ
pages_of t = t.page ∷ t.leaves

-- these are the trunks from page q on: each is unused when it is reached, takes the leaves that are unused
-- then, and names the next; the list ends at a number that is no unused page
abbrev pub AreTrunks : File → List ℕ → ℕ → List Trunk → Type 0
AreTrunks f unused q [] = is_in q unused ≡ false
AreTrunks f unused q (t ∷ ts) = (is_in q unused ≡ true) × (t.page ≡ q) × (t.leaves ≡ firsts (without q unused) (leaves_of f q))
    × AreTrunks f (minus unused (pages_of t)) (next_trunk f q) ts

-- what trunk q takes of the unused pages
abbrev pub taken_at : File → List ℕ → ℕ → List ℕ
taken_at f unused q = q ∷ firsts (without q unused) (leaves_of f q)

-- what at most n trunks from q on take
abbrev pub taken_from : File → ℕ → List ℕ → ℕ → List ℕ
taken_from f zero unused q = []
taken_from f (suc n) unused q =
    if is_in q unused then taken_at f unused q ++ taken_from f n (minus unused (taken_at f unused q)) (next_trunk f q)
    else []

-- the pages that the freelist from trunk q on takes, in the order in which it takes them
unfoldable pub free_pages : File → List ℕ → ℕ → List ℕ
free_pages f unused q = taken_from f (length unused) unused q

-- they are the pages of the trunks, and there are such trunks
abbrev pub FreePagesAreTrunks : Type 0
FreePagesAreTrunks = (f : File) (unused : List ℕ) (q : ℕ) →
    ((ts : List Trunk) × AreTrunks f unused q ts)
    × ((ts : List Trunk) → AreTrunks f unused q ts → free_pages f unused q ≡ flat_map pages_of ts)
