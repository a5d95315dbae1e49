-- Orphan pages and their trees (docs/ARCHITECTURE.md, "Order of use").
use Rattle.std.specs.Prelude.{◌≤◌, ℕ, zero, suc, pos, ◌*◌, ◌+◌, Bool, ◌&&◌, not, is_some, List, [], ◌++◌, length, map, take, filter, IfSome, Option}
use Rattle.std.specs.List.{flat_map, range_with_len}
use Rattle.page_access.specs.Files.{IsWhole, file_of}
use Rattle.page_access.specs.Pages.{File}
use Rattle.page_access.specs.declared.geometry.Geometry.{Geometry}
use Rattle.page_lists.specs.Lists.{is_in, minus}
use Rattle.page_walk.specs.Bounds.{ArePages}
use Rattle.page_walk.specs.InTurn.{in_turn}
use Rattle.page_walk.specs.Walk.{children, kind_on}
use Rattle.tree_uses.specs.Trees.{walk_for}
use Rattle.orphan_trees.specs.declared.trees.OrphanTree.{OrphanTree}

-- page p is an orphan page: it is one of the unused pages, and has a shape
abbrev pub is_orphan : File → List ℕ → ℕ → Bool
is_orphan f unused p = is_in p unused && is_some (kind_on f p)

-- the orphan pages, rising
abbrev pub orphan_pages : File → List ℕ → List ℕ
orphan_pages f unused = filter (is_orphan f unused) (range_with_len 1 f.pages)

-- the children of orphan pages, as often as they are named
abbrev pub orphan_children : File → List ℕ → List ℕ
orphan_children f unused = flat_map (children f) (orphan_pages f unused)

-- the orphan pages that are a child of none, rising
abbrev pub first_roots : File → List ℕ → List ℕ
first_roots f unused = filter (λ p. not (is_in p (orphan_children f unused))) (orphan_pages f unused)

-- an orphan tree: its root, and its pages level by level
pub record Orphan : Type 0 where
  pub root : ℕ
  pub pages : List ℕ

-- the same in the program's terms
abbrev pub orphan_of : OrphanTree → Orphan
orphan_of t = record { root = t.root; pages = t.pages.items }

-- the pages of a tree, and of trees, tree after tree
abbrev pub tree_pages : Orphan → List ℕ
tree_pages t = t.pages

abbrev pub pages_in : List Orphan → List ℕ
pages_in trees = flat_map tree_pages trees

-- the tree of the kind of its root, where these pages are unused
abbrev pub tree_at : File → ℕ → List ℕ → Orphan
tree_at f root unused = record { root = root; pages = walk_for f unused (pos root) (kind_on f root) }

-- the trees with these roots, each over the pages that those before left unused
abbrev pub trees_at : File → List ℕ → List ℕ → List Orphan
trees_at f roots unused = in_turn (tree_at f) tree_pages roots unused

-- the tree whose root is the least orphan page, where there is one
abbrev pub least_tree : File → List ℕ → List Orphan
least_tree f unused = map (λ root. tree_at f root unused) (take 1 (orphan_pages f unused))

-- such trees, one after another, n times
abbrev pub least_trees : File → ℕ → List ℕ → List Orphan
least_trees f zero unused = []
least_trees f (suc n) unused = least_tree f unused
    ++ least_trees f n (minus unused (pages_in (least_tree f unused)))

-- the pages that the trees of the first roots leave unused
abbrev pub behind_first : File → List ℕ → List ℕ
behind_first f unused = minus unused (pages_in (trees_at f (first_roots f unused) unused))

-- All orphan trees. Roots are first the orphan pages that are a child of none; and then, as long as orphan
-- pages are left, the least one left: not more often than there are pages.
unfoldable pub orphan_trees : File → List ℕ → List Orphan
orphan_trees f unused = trees_at f (first_roots f unused) unused
    ++ least_trees f f.pages (behind_first f unused)

-- a tree of pages of the file
pub record IsOrphanOf (pages : ℕ) (t : Orphan) : Type 0 where
  pub low : 1 ≤ t.root
  pub high : t.root ≤ pages
  pub pages_are : ArePages pages t.pages

-- there are two reads at most for each orphan page, and `more` besides, where the source tells all pages
abbrev pub ReadsOrphans : Option (List ℕ) → Geometry → List ℕ → ℕ → ℕ → ℕ → Type 0
ReadsOrphans told geo unused before now more = IfSome told (λ all. IsWhole all geo →
    now ≤ before + 2 * length (orphan_pages (file_of all geo) unused) + more)
