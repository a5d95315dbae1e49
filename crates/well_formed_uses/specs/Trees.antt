-- The trees of a well-formed file as a walk meets them (docs/FORMAT.md, "Trees"; docs/ARCHITECTURE.md,
-- "Order of use").
use Rattle.std.specs.Prelude.{◌≡◌, ℕ, ◌+◌, pos, Option, Some, None, List, [], map}
use Rattle.std.specs.List.{AllByRecursion}
use Rattle.std.specs.List.Sorted.{IsPermutation}
use Rattle.page_access.specs.Pages.{File}
use Rattle.page_lists.specs.Lists.{count}
use Rattle.cell_reader.specs.declared.shapes.Kind.{Kind}
use Rattle.cell_reader.specs.declared.shapes.Kind.TheVariants.{Table}
use Rattle.tree_forms.specs.Node.{Held, node_of}
use Rattle.tree_forms.specs.Payload.{HasChain}
use Rattle.tree_forms.specs.Tree.{IsTree, bare}
use Rattle.tree_uses.specs.declared.walks.WantedTree.{WantedTree}
use Rattle.tree_walks.specs.Rows.{all_chains, all_entries, tree_pages}

-- a tree: its kind, its root and its depth
pub record StoredTree : Type 0 where
  pub kind : Kind
  pub root : ℕ
  pub depth : ℕ

-- its pages row by row, and the overflow pages of its cells
abbrev pub own_pages : File → StoredTree → List ℕ
own_pages f t = tree_pages f t.depth t.root

abbrev pub own_chains : File → StoredTree → List ℕ
own_chains f t = all_chains f (own_pages f t)

-- it is a tree of the file, and each of its entries has its overflow chain
pub record IsGrown (f : File) (t : StoredTree) : Type 0 where
  pub tree : IsTree (node_of f) t.kind t.root t.depth t.root
  pub chains : AllByRecursion (HasChain f) (all_entries f (own_pages f t))

-- the tree of this kind and root has these cells, in a table tree in this order, and these pages
pub record IsTreeWith (f : File) (kind : Kind) (p : ℕ) (cells : List Held) (used : List ℕ) (t : StoredTree)
    : Type 0 where
  pub kind_is : t.kind ≡ kind
  pub root_is : t.root ≡ p
  pub grown : IsGrown f t
  pub used_are : (q : ℕ) → count q used ≡ count q (own_pages f t) + count q (own_chains f t)
  pub cells_are : IsPermutation (map bare cells) (all_entries f (own_pages f t))
  pub in_order : kind ≡ Table → map bare cells ≡ all_entries f (own_pages f t)

-- the tree of a row of the schema, if it has one
abbrev pub pages_if : File → Option StoredTree → List ℕ
pages_if f None = []
pages_if f (Some t) = own_pages f t

abbrev pub chains_if : File → Option StoredTree → List ℕ
chains_if f None = []
chains_if f (Some t) = own_chains f t

-- the tree that is wanted is this one; or none is there
abbrev pub IsWanted : File → WantedTree → Option StoredTree → Type 0
IsWanted f w None = w.kind ≡ None
IsWanted f w (Some t) = (w.root ≡ pos t.root) × (w.kind ≡ Some t.kind) × IsGrown f t
