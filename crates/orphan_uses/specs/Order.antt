-- The uses of the pages that the schema and its trees leave: the freelist, the orphan trees, and the overflow chains of the
-- orphan trees' cells (docs/ARCHITECTURE.md, "Order of use").
use Rattle.std.specs.Prelude.{◌≡◌, ℕ, Option, Some, None, List, [], length, map}
use Rattle.std.specs.List.{flat_map}
use Rattle.page_access.specs.Pages.{File}
use Rattle.page_lists.specs.Lists.{minus}
use Rattle.page_lists.specs.Table.{Table, all_moved, unused}
use Rattle.overflow_chain.specs.declared.TheConstants.{OVERFLOW_LIST}
use Rattle.page_walk.specs.Cells.{Outcome}
use Rattle.page_walk.specs.InTurn.{in_turn}
use Rattle.page_walk.specs.Turns.{turns_on}
use Rattle.freelist_core.specs.Free.{free_pages}
use Rattle.freelist_core.specs.declared.TheConstants.{FREE_LIST}
use Rattle.tree_uses.specs.Trees.{chains_in}
use Rattle.orphan_trees.specs.Orphans.{Orphan, orphan_trees, pages_in}
use Rattle.orphan_trees.specs.declared.TheConstants.{ORPHAN_LIST}

-- the pages that the freelist takes, from its first trunk on; none where it is not looked at
abbrev pub free_of : File → List ℕ → Option ℕ → List ℕ
free_of f unused None = []
free_of f unused (Some q) = free_pages f unused q

-- the pages that the freelist leaves unused
abbrev pub behind_free : File → List ℕ → Option ℕ → List ℕ
behind_free f unused trunk = minus unused (free_of f unused trunk)

-- the cells of an orphan tree's pages at their turns
abbrev pub turns_at : File → Orphan → List ℕ → List (ℕ × List Outcome)
turns_at f t unused = turns_on f t.pages unused

-- the same of orphan trees, each over the pages that those before left unused
abbrev pub orphan_turns : File → List Orphan → List ℕ → List (List (ℕ × List Outcome))
orphan_turns f trees unused = in_turn (turns_at f) chains_in trees unused

-- there is a turn for each page of each tree
abbrev pub HaveOrphanTurns : List Orphan → List (List (ℕ × List Outcome)) → Type 0
HaveOrphanTurns trees turns = map (λ (ts : List (ℕ × List Outcome)). length ts) turns ≡ map (λ (t : Orphan). length t.pages) trees

-- The orphan trees of a file, where these pages are unused at first and the freelist takes its pages of them before; and what
-- becomes of the cells of each tree, over the pages that the trees leave.
pub record AreOrphans (f : File) (unused : List ℕ) (trunk : Option ℕ) (trees : List Orphan)
    (turns : List (List (ℕ × List Outcome))) : Type 0 where
  pub trees_are : trees ≡ orphan_trees f (behind_free f unused trunk)
  pub turns_are : turns ≡ orphan_turns f trees (minus (behind_free f unused trunk) (pages_in trees))

-- the table after each of these pages moved to the list of its use
abbrev pub after_orphans : File → Table → Option ℕ → List Orphan → List (List (ℕ × List Outcome)) → Table
after_orphans f t trunk trees turns = all_moved (flat_map chains_in turns) OVERFLOW_LIST
    (all_moved (pages_in trees) ORPHAN_LIST (all_moved (free_of f (unused t) trunk) FREE_LIST t))
