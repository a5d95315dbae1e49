-- How much a page can give, whatever its bytes are (docs/ARCHITECTURE.md, "Bounds").
use Rattle.std.specs.Prelude.{◌≡◌, ◌≤◌, ℕ, ◌*◌, ◌/◌, List, ◌++◌, length, map, sum_by}
use Rattle.std.specs.List.{AllByRecursion}
use Rattle.page_lists.specs.Table.{Table, all_moved}
use Rattle.overflow_chain.specs.declared.TheConstants.{OVERFLOW_LIST}
use Rattle.record_core.specs.Record.{value_len}
use Rattle.page_walk.specs.declared.outcomes.TakenCell.{TakenCell}
use Rattle.page_walk.specs.declared.outcomes.CellOutcome.{CellOutcome}
use Rattle.page_walk.specs.Cells.{Row, Outcome, Read, Unread, outcome_of, row_of, chains_of}

-- each page is one of 1 to `pages`
abbrev pub ArePages : ℕ → List ℕ → Type 0
ArePages pages ps = AllByRecursion (λ p. (1 ≤ p) × (p ≤ pages)) ps

-- a readable cell of the page is not large
pub record IsSmallRow (usable pages page : ℕ) (row : Row) : Type 0 where
  pub on_page : row.page ≡ page
  pub few : length row.fields ≤ 1996
  pub short : sum_by value_len row.fields ≤ pages * usable
  pub chain : ArePages pages row.chain

abbrev pub IsSmall : ℕ → ℕ → ℕ → Outcome → Type 0
IsSmall usable pages page (Read row) = IsSmallRow usable pages page row
IsSmall usable pages page (Unread u) = ArePages pages u.chain

-- `new` is `old` and then a few small outcomes of cells of the page
pub record Adds (usable pages page : ℕ) (old new : List CellOutcome) : Type 0 where
  pub more : List CellOutcome
  pub all : new ≡ old ++ more
  pub few : length more ≤ usable / 2
  pub small : AllByRecursion (λ o. IsSmall usable pages page (outcome_of o)) more

-- the pages that the chains of the added cells took, and no others, have their use
pub record Uses (old new : Table) (before after : List CellOutcome) : Type 0 where
  pub more : List CellOutcome
  pub all : after ≡ before ++ more
  pub table : new ≡ all_moved (chains_of (map outcome_of more)) OVERFLOW_LIST old

-- `new` is `old` and then a few small readable cells of the page
pub record AddsRows (usable pages page : ℕ) (old new : List TakenCell) : Type 0 where
  pub more : List TakenCell
  pub all : new ≡ old ++ more
  pub few : length more ≤ usable / 2
  pub small : AllByRecursion (λ t. IsSmallRow usable pages page (row_of t)) more
