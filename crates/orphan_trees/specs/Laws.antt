-- What holds of all orphan trees (docs/ARCHITECTURE.md, "Order of use").
use Rattle.std.specs.Prelude.{◌≡◌, ℕ, true, None, if◌then◌else◌, List}
use Rattle.page_access.specs.Pages.{File}
use Rattle.page_lists.specs.Lists.{count, is_in, minus}
use Rattle.page_walk.specs.Evidence.{AreOnce}
use Rattle.page_walk.specs.Walk.{kind_on}
use Rattle.orphan_trees.specs.Orphans.{is_orphan, orphan_trees, pages_in}

-- each orphan page is in one tree, once, and no other page is in any; after them no unused page has a shape
pub record OrphansHold (f : File) (unused : List ℕ) : Type 0 where
  pub once : (q : ℕ) → count q (pages_in (orphan_trees f unused)) ≡ (if is_orphan f unused q then 1 else 0)
  pub left : (q : ℕ) → is_in q (minus unused (pages_in (orphan_trees f unused))) ≡ true → kind_on f q ≡ None

abbrev pub OrphansAlwaysHold : Type 0
OrphansAlwaysHold = (f : File) (unused : List ℕ) → AreOnce f.pages unused → OrphansHold f unused
