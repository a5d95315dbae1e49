-- What a turn is, in words of the chain (docs/ARCHITECTURE.md, "Order of use").
use Rattle.std.specs.Prelude.{◌≡◌, ℕ, ◌<◌, ◌≤◌, ◌↔◌, false, if◌then◌else◌, List, [], ◌∷◌, length}
use Rattle.page_access.specs.Pages.{File}
use Rattle.page_lists.specs.Lists.{IsPartOf, count, is_in, minus}
use Rattle.page_lists.specs.Table.{is_page}
use Rattle.overflow_chain.specs.Chain.{IsChain, Linked, chain_len, next_page}
use Rattle.overflow_chain.specs.Turn.{bytes_of, end_of, turn_of, why_not}
use Rattle.overflow_chain.specs.declared.ChainEnd.{ChainEnd}
use Rattle.overflow_chain.specs.declared.ChainEnd.TheVariants.{Whole, Broken}

-- the number that is reached behind the pages
abbrev pub reached : (ℕ → ℕ) → ℕ → List ℕ → ℕ
reached next q [] = q
reached next q (p ∷ ps) = reached next (next p) ps

-- pages taken of k end so, where q is reached and `left` are the unused pages that are left
abbrev pub EndsSo : ℕ → ℕ → List ℕ → List ℕ → ℕ → ChainEnd → Type 0
EndsSo n k pages left q Whole = length pages ≡ k
EndsSo n k pages left q (Broken at why) = (length pages < k) × (is_in q left ≡ false) × (at ≡ q) × (why ≡ why_not n q)

-- the longest front of the chain from q on whose pages are unused, each once
pub record IsTurn (f : File) (q need : ℕ) (unused pages : List ℕ) (end : ChainEnd) : Type 0 where
  pub unused_all : IsPartOf pages unused
  pub linked : Linked (next_page f) q pages
  pub ended : EndsSo f.pages (chain_len f need) pages (minus unused pages) (reached (next_page f) q pages) end

-- a turn takes the longest front, and nothing else is one
abbrev pub TurnIsLongest : Type 0
TurnIsLongest = (f : File) (q need : ℕ) (unused pages : List ℕ) (end : ChainEnd) →
    IsTurn f q need unused pages end ↔ ((pages ≡ turn_of f q need unused) × (end ≡ end_of f q need unused))

-- a turn is whole exactly where a chain of unused pages is there, and then takes it
pub record WholeIsChain (f : File) (q need : ℕ) (unused : List ℕ) : Type 0 where
  pub is_chain : end_of f q need unused ≡ Whole → IsChain f q need (turn_of f q need unused) (bytes_of f q need unused)
  pub takes_it : (pages bytes : List ℕ) → IsChain f q need pages bytes → IsPartOf pages unused
      → (end_of f q need unused ≡ Whole) × (turn_of f q need unused ≡ pages) × (bytes_of f q need unused ≡ bytes)

-- the same for all files and unused pages, of which each is a page of the file and stands there once
abbrev pub WholeIsAlwaysChain : Type 0
WholeIsAlwaysChain = (f : File) (q need : ℕ) (unused : List ℕ) →
    ((p : ℕ) → count p unused ≤ (if is_page f.pages p then 1 else 0)) → WholeIsChain f q need unused
