-- What holds of the freelist, the orphan trees and their cells, whatever the bytes are (docs/ARCHITECTURE.md, "Order of use").
use Rattle.std.specs.Prelude.{◌≡◌, ◌≤◌, ℕ, ◌+◌, if◌then◌else◌, Option, List}
use Rattle.std.specs.List.{AllByRecursion, flat_map}
use Rattle.page_access.specs.Pages.{File}
use Rattle.page_lists.specs.Lists.{count}
use Rattle.page_walk.specs.Cells.{Outcome, Row}
use Rattle.page_walk.specs.Evidence.{AreOnce, Evidence}
use Rattle.raw_schema.specs.Schema.{cells_in}
use Rattle.tree_uses.specs.Trees.{chains_in}
use Rattle.orphan_trees.specs.Orphans.{Orphan, is_orphan, pages_in}
use Rattle.use_order.specs.Apart.{AreApart}
use Rattle.orphan_uses.specs.Order.{AreOrphans, behind_free, free_of}

-- how often page q has one of these uses: it is free, a page of an orphan tree, or in the chain of a cell of one
abbrev pub times_given : File → List ℕ → Option ℕ → List Orphan → List (List (ℕ × List Outcome)) → ℕ → ℕ
times_given f unused trunk trees turns q =
    count q (free_of f unused trunk) + (count q (pages_in trees) + count q (flat_map chains_in turns))

-- the readable cells of the orphan trees, in order
abbrev pub orphan_rows : List (List (ℕ × List Outcome)) → List Row
orphan_rows turns = flat_map cells_in turns

pub record OrphanUsesHold (f : File) (unused : List ℕ) (trunk : Option ℕ) (trees : List Orphan)
    (turns : List (List (ℕ × List Outcome))) : Type 0 where
  -- each page has no use more often than it was unused
  pub once : (q : ℕ) → times_given f unused trunk trees turns q ≤ count q unused
  -- each page with a shape that the freelist leaves unused is in one tree, once, and no other page is in any
  pub each : AreOnce f.pages unused → (q : ℕ)
      → count q (pages_in trees) ≡ (if is_orphan f (behind_free f unused trunk) q then 1 else 0)
  -- each readable cell has its evidence
  pub evidence : AreOnce f.pages unused → AllByRecursion (Evidence f) (orphan_rows turns)
  -- no two of them share a cell or a page of their chains
  pub apart : AreOnce f.pages unused → AreApart (orphan_rows turns)

abbrev pub OrphanUsesAlwaysHold : Type 0
OrphanUsesAlwaysHold = (f : File) (unused : List ℕ) (trunk : Option ℕ) (trees : List Orphan) (turns : List (List (ℕ × List Outcome)))
    → AreOrphans f unused trunk trees turns → OrphanUsesHold f unused trunk trees turns
