-- The payload of a cell: its local bytes and those of its overflow chain (docs/FORMAT.md, "Overflow pages"; fileformat2.html, 1.7).
use Rattle.std.specs.Prelude.{◌≡◌, ℕ, zero, suc, ◌-◌, Option, Some, None, List, [], ◌∷◌, ◌++◌, length, take}
use Rattle.std.specs.List.{flat_map}
use Rattle.page_access.specs.Pages.{File}
use Rattle.overflow_chain.specs.Chain.{IsChain, chain_len, contents, next_page}
use Rattle.overflow_chain.specs.Laws.{reached}
use Rattle.tree_forms.specs.Node.{Held, cells_in, node_of}

-- n pages from q on, each of which names the one behind it
abbrev pub follow : (ℕ → ℕ) → ℕ → ℕ → List ℕ
follow next zero q = []
follow next (suc n) q = q ∷ follow next n (next q)

-- how many bytes of the payload are not on the cell's page
abbrev pub missing_of : Held → ℕ
missing_of h = h.total - length h.local

-- the overflow pages that hold `need` bytes from the first one on
abbrev pub chain_from : File → ℕ → Option ℕ → List ℕ
chain_from f need None = []
chain_from f need (Some q) = follow (next_page f) (chain_len f need) q

-- the overflow pages of a cell's payload
abbrev pub chain_of : File → Held → List ℕ
chain_of f h = chain_from f (missing_of h) h.overflow

-- the payload of a cell
unfoldable pub payload_of : File → Held → List ℕ
payload_of f h = h.local ++ take (missing_of h) (contents f (chain_of f h))

-- the pages from the first one on are an overflow chain of `need` bytes, and its last page names none
abbrev pub ChainFrom : File → ℕ → Option ℕ → Type 0
ChainFrom f need None = Unit {0}
ChainFrom f need (Some q) =
    IsChain f q need (chain_from f need (Some q)) (take need (contents f (chain_from f need (Some q))))
    × (reached (next_page f) q (chain_from f need (Some q)) ≡ 0)

-- the overflow pages of a cell are the chain of its payload
abbrev pub HasChain : File → Held → Type 0
HasChain f h = ChainFrom f (missing_of h) h.overflow

-- page p and the overflow pages of its cells
unfoldable pub own_of : File → ℕ → List ℕ
own_of f p = p ∷ flat_map (chain_of f) (cells_in (node_of f p))
