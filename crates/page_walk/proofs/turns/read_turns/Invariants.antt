use Rattle.std.proofs.Common.{◌≡◌, List, ℕ, map, drop, length}
use Rattle.page_access.specs.Files.{file_of}
use Rattle.page_walk.specs.Cells.{outcomes_on}
use Rattle.page_walk.specs.InTurn.{IsSmallTurn, pages_of_turn, turn_of}
use Rattle.page_walk.proofs.InTurn.{Stepping}
use Rattle.page_walk.proofs.turns.read_turns.Given as goal

abbrev pub invariant-loop-page : goal.invariant-loop-page
invariant-loop-page g l = record {
  marks : length l.accepted ≡ l.geo.usable;
  stepping : Stepping g.S.Source l.geo
      (record {
        list = 4;
        reads = 1;
        give = λ (all : List ℕ) (p : ℕ) (u : List ℕ). (p, outcomes_on (file_of all l.geo) p u);
        taken = pages_of_turn;
        Good = IsSmallTurn l.geo.usable l.geo.pages;
      })
      l.pages (drop l.page-index l.pages)
      (record { src = l.fn.src; cache = l.fn.cache; table = l.fn.table }) (record { src = l.src; cache = l.cache; table = l.table }) (map turn_of l.turns.items);
}
