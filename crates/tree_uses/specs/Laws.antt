-- What holds of all trees and of the cells of their pages (docs/ARCHITECTURE.md, "Order of use").
use Rattle.std.specs.Prelude.{◌≡◌, ℕ, List}
use Rattle.std.specs.List.{flat_map}
use Rattle.page_access.specs.Pages.{File}
use Rattle.page_lists.specs.Lists.{IsPartOf}
use Rattle.page_walk.specs.Cells.{Outcome}
use Rattle.page_walk.specs.Turns.{chains_on, turns_on}
use Rattle.tree_uses.specs.Trees.{Tree, chains_in, pages_in, turns_in, walks}
use Rattle.tree_uses.specs.declared.walks.WantedTree.{WantedTree}

-- the pages of trees that are walked one after another are part of the unused pages
abbrev pub TreesAreUnused : Type 0
TreesAreUnused = (f : File) (list : ℕ) (wanted : List WantedTree) (unused : List ℕ) → IsPartOf (pages_in (walks f list wanted unused)) unused

-- the turns of trees, joined, are those of their pages, tree after tree
pub record TreesTakeTurns (f : File) (trees : List Tree) (unused : List ℕ) : Type 0 where
  pub turns : flat_map (λ (ts : List (ℕ × List Outcome)). ts) (turns_in f trees unused) ≡ turns_on f (pages_in trees) unused
  pub chains : flat_map chains_in (turns_in f trees unused) ≡ chains_on f (pages_in trees) unused

abbrev pub TreesAlwaysTakeTurns : Type 0
TreesAlwaysTakeTurns = (f : File) (trees : List Tree) (unused : List ℕ) → TreesTakeTurns f trees unused
