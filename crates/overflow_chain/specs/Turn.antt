-- The turn of a payload: which unused pages its overflow chain takes (docs/ARCHITECTURE.md, "Order of use").
use Rattle.std.specs.Prelude.{◌≡◌, ℕ, zero, suc, ◌≤◌, ◌+◌, if◌then◌else◌, List, [], ◌∷◌, ◌++◌, length, take}
use Rattle.std.specs.List.{AllByRecursion}
use Rattle.page_access.specs.Pages.{File}
use Rattle.page_lists.specs.Lists.{IsPartOf, is_in, without}
use Rattle.page_lists.specs.Table.{MovesFront, Table, is_page, unused, all_moved}
use Rattle.overflow_chain.specs.Chain.{IsChain, chain_len, contents, next_page}
use Rattle.overflow_chain.specs.declared.Why.{Why}
use Rattle.overflow_chain.specs.declared.Why.TheVariants.{Range, Used}
use Rattle.overflow_chain.specs.declared.ChainEnd.{ChainEnd}
use Rattle.overflow_chain.specs.declared.ChainEnd.TheVariants.{Whole, Broken}
use Rattle.overflow_chain.specs.declared.TheConstants.{OVERFLOW_LIST}

-- why page q cannot be taken, of n pages
abbrev pub why_not : ℕ → ℕ → Why
why_not n q = if is_page n q then Used else Range

-- at most k pages from q on, each unused when it is reached
abbrev pub turn : (ℕ → ℕ) → ℕ → List ℕ → ℕ → List ℕ
turn next zero unused q = []
turn next (suc k) unused q = if is_in q unused then q ∷ turn next k (without q unused) (next q) else []

-- how that ends, of n pages
abbrev pub turn_end : (ℕ → ℕ) → ℕ → ℕ → List ℕ → ℕ → ChainEnd
turn_end next n zero unused q = Whole
turn_end next n (suc k) unused q =
    if is_in q unused then turn_end next n k (without q unused) (next q) else Broken q (why_not n q)

-- the pages that a payload of which `need` bytes are missing takes from page q on
abbrev pub turn_of : File → ℕ → ℕ → List ℕ → List ℕ
turn_of f q need unused = turn (next_page f) (chain_len f need) unused q

-- how its turn ends
abbrev pub end_of : File → ℕ → ℕ → List ℕ → ChainEnd
end_of f q need unused = turn_end (next_page f) f.pages (chain_len f need) unused q

-- the bytes that its turn gives
abbrev pub bytes_of : File → ℕ → ℕ → List ℕ → List ℕ
bytes_of f q need unused = take need (contents f (turn_of f q need unused))

-- a turn was taken: its pages and their bytes are appended, and the pages have their use
pub record Turned (f : File) (q need : ℕ) (old new : Table) (pages pages' to to' : List ℕ) (end : ChainEnd) : Type 0 where
  pub pages_are : pages' ≡ pages ++ turn_of f q need (unused old)
  pub bytes_are : to' ≡ to ++ bytes_of f q need (unused old)
  pub table_is : new ≡ all_moved (turn_of f q need (unused old)) OVERFLOW_LIST old
  pub end_is : end ≡ end_of f q need (unused old)

-- a turn was taken so far: a front of its pages and a front of its bytes are appended, and a front of its pages
-- have their use
pub record TurnsFront (f : File) (q need : ℕ) (old new : Table) (pages pages' to to' : List ℕ) : Type 0 where
  pub page_count : ℕ
  pub pages_are : pages' ≡ pages ++ take page_count (turn_of f q need (unused old))
  pub byte_count : ℕ
  pub bytes_are : to' ≡ to ++ take byte_count (bytes_of f q need (unused old))
  pub moved : MovesFront (turn_of f q need (unused old)) OVERFLOW_LIST old new

-- where the end is whole, the appended pages and bytes are the overflow chain
abbrev pub GivesChain : File → ℕ → ℕ → List ℕ → List ℕ → List ℕ → List ℕ → ChainEnd → Type 0
GivesChain f q need pages pages' to to' Whole =
    (taken gained : List ℕ) × (pages' ≡ pages ++ taken) × (to' ≡ to ++ gained) × IsChain f q need taken gained
GivesChain f q need pages pages' to to' (Broken at why) = Unit {0}

-- some unused pages of the file were taken: they are appended and have their use, and at most `need` bytes came
pub record Takes (need : ℕ) (old new : Table) (pages pages' to to' : List ℕ) : Type 0 where
  pub taken : List ℕ
  pub were_unused : IsPartOf taken (unused old)
  pub inside : AllByRecursion (λ p. (1 ≤ p) × (p ≤ old.pages)) taken
  pub pages_are : pages' ≡ pages ++ taken
  pub table_is : new ≡ all_moved taken OVERFLOW_LIST old
  pub room : length to' ≤ length to + need
