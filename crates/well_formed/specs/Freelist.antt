-- The freelist of a well-formed file (docs/FORMAT.md, "The freelist"; fileformat2.html, 1.5).
use Rattle.std.specs.Prelude.{◌≡◌, ◌≤◌, ℕ, List, [], ◌∷◌}
use Rattle.std.specs.List.{flat_map}
use Rattle.page_access.specs.Pages.{File, page_at}
use Rattle.overflow_chain.specs.Chain.{next_page}
use Rattle.freelist_core.specs.Trunk.{count_on, leaves_from, most_leaves}

-- the leaves that a trunk page names
abbrev pub leaves_of : File → ℕ → List ℕ
leaves_of f p = leaves_from (page_at f p) 0 (count_on (page_at f p))

-- these pages are trunks: the first is q, each has room for the leaves that it names, each names the next,
-- and the last names none
abbrev pub AreTrunks : File → ℕ → List ℕ → Type 0
AreTrunks f q [] = q ≡ 0
AreTrunks f q (p ∷ ps) = (p ≡ q) × (count_on (page_at f p) ≤ most_leaves f.usable) × AreTrunks f (next_page f p) ps

-- each trunk with its leaves
abbrev pub free_pages : File → List ℕ → List ℕ
free_pages f trunks = flat_map (λ p. p ∷ leaves_of f p) trunks
