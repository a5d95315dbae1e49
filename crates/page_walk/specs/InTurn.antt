-- Steps in turn, each of which takes some of the unused pages that the steps before left (docs/ARCHITECTURE.md, "Order of use").
use Rattle.std.specs.Prelude.{◌≤◌, ℕ, List, [], ◌∷◌, length, map, ◌/◌}
use Rattle.std.specs.List.{AllByRecursion}
use Rattle.page_lists.specs.Lists.{minus}
use Rattle.page_walk.specs.declared.turns.PageTurn.{PageTurn}
use Rattle.page_walk.specs.Bounds.{IsSmall}
use Rattle.page_walk.specs.Cells.{Outcome, chains_of, outcome_of}

-- what each step gives, where `give` is a step from the pages that are unused then, and `taken` the pages that it took
abbrev pub in_turn : {A X : Type 0} → (A → List ℕ → X) → (X → List ℕ) → List A → List ℕ → List X
in_turn give taken [] unused = []
in_turn give taken (a ∷ rest) unused = give a unused ∷ in_turn give taken rest (minus unused (taken (give a unused)))

-- a page and what becomes of its cells
abbrev pub turn_of : PageTurn → ℕ × List Outcome
turn_of t = (t.page, map outcome_of t.outcomes.items)

-- the pages that the chains of a page's cells took
abbrev pub pages_of_turn : ℕ × List Outcome → List ℕ
pages_of_turn t = chains_of t.1

-- a page of 1 to n whose cells have few and small outcomes
pub record IsSmallTurn (usable pages : ℕ) (t : ℕ × List Outcome) : Type 0 where
  pub least : 1 ≤ t.0
  pub most : t.0 ≤ pages
  pub few : length t.1 ≤ usable / 2
  pub small : AllByRecursion (IsSmall usable pages t.0) t.1
