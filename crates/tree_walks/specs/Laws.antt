-- What holds of every well-formed tree (docs/FORMAT.md, "Trees"; docs/ARCHITECTURE.md, "Order of use").
use Rattle.std.specs.Prelude.{◌≡◌, ℕ, ◌+◌, pos, List, map}
use Rattle.std.specs.List.{AllByRecursion}
use Rattle.std.specs.List.Sorted.{IsPermutation}
use Rattle.page_access.specs.Pages.{File}
use Rattle.page_lists.specs.Lists.{IsPartOf, count}
use Rattle.cell_reader.specs.declared.shapes.Kind.{Kind}
use Rattle.cell_reader.specs.declared.shapes.Kind.TheVariants.{Table}
use Rattle.page_walk.specs.Evidence.{AreOnce}
use Rattle.page_walk.specs.Turns.{chains_on, turns_on}
use Rattle.page_walk.specs.Walk.{walk}
use Rattle.tree_forms.specs.Node.{Held, node_of}
use Rattle.tree_forms.specs.Payload.{HasChain, own_of}
use Rattle.tree_forms.specs.Tree.{IsTree, Tree, items_of, pages_of}
use Rattle.tree_walks.specs.Read.{HasRecord, read_on}
use Rattle.tree_walks.specs.Rows.{all_chains, all_entries, alone, entries_in, tree_pages}

-- from the root of a tree none of whose pages is used, a walk gives its pages row by row
abbrev pub TreesAreWalked : Type 0
TreesAreWalked = (f : File) (kind : Kind) (p depth : ℕ) (unused : List ℕ) → IsTree (node_of f) kind p depth p
    → IsPartOf (tree_pages f depth p) unused → walk f unused (pos p) kind ≡ tree_pages f depth p

-- the walk of a tree with these cells and pages: it has these pages, each as often, and the entries among the
-- cells are those of its pages, in a table tree in the same order
pub record IsWalkOfTree (f : File) (kind : Kind) (items : List Held) (pages walked : List ℕ) : Type 0 where
  pub same_pages : (q : ℕ) → count q walked ≡ count q pages
  pub same_entries : IsPermutation (entries_in items) (all_entries f walked)
  pub in_order : kind ≡ Table → entries_in items ≡ all_entries f walked

-- so it is for each tree none of whose pages is used
abbrev pub WalksHaveTrees : Type 0
WalksHaveTrees = (f : File) (kind : Kind) (p : ℕ) (items : List Held) (pages unused : List ℕ)
    → Tree (node_of f) alone kind p items pages → IsPartOf pages unused
    → IsWalkOfTree f kind items pages (walk f unused (pos p) kind)

-- row by row a tree has the same pages, the same overflow pages and the same entries; in a table tree the
-- entries stand in the same order
pub record IsByRows (f : File) (kind : Kind) (depth p : ℕ) : Type 0 where
  pub pages : (q : ℕ) → count q (pages_of (node_of f) alone depth p) ≡ count q (tree_pages f depth p)
  pub used : (q : ℕ) → count q (pages_of (node_of f) (own_of f) depth p)
      ≡ count q (tree_pages f depth p) + count q (all_chains f (tree_pages f depth p))
  pub entries : IsPermutation (entries_in (items_of (node_of f) depth p))
      (all_entries f (tree_pages f depth p))
  pub in_order : kind ≡ Table
      → entries_in (items_of (node_of f) depth p) ≡ all_entries f (tree_pages f depth p)

abbrev pub TreesAreRows : Type 0
TreesAreRows = (f : File) (kind : Kind) (p depth : ℕ) → IsTree (node_of f) kind p depth p
    → IsByRows f kind depth p

-- the cells of a tree's pages at their turns: they take the overflow chains of its cells, whatever their
-- records are; and where these can be read, the cells are read, each with its own chain
pub record AreTurned (f : File) (pages unused : List ℕ) : Type 0 where
  pub chains : chains_on f pages unused ≡ all_chains f pages
  pub turns : AllByRecursion (HasRecord f) (all_entries f pages)
      → turns_on f pages unused ≡ map (read_on f) pages

-- so it is for each tree whose entries have their chains, where none of the pages of these is used
abbrev pub TreesAreTurned : Type 0
TreesAreTurned = (f : File) (kind : Kind) (p depth : ℕ) (unused : List ℕ) → IsTree (node_of f) kind p depth p
    → AllByRecursion (HasChain f) (all_entries f (tree_pages f depth p)) → AreOnce f.pages unused
    → IsPartOf (all_chains f (tree_pages f depth p)) unused → AreTurned f (tree_pages f depth p) unused
