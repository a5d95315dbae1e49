-- Well-formed trees (docs/FORMAT.md, "Trees"; fileformat2.html, 1.6).
use Rattle.std.specs.Prelude.{◌≡◌, ◌≢◌, ℕ, zero, suc, ◌==◌, Bool, true, false, ℤ, ◌≤ℤ◌, ◌<ℤ◌, if◌then◌else◌, Option, Some, None, List, [], ◌∷◌, ◌++◌}
use Rattle.cell_reader.specs.declared.shapes.Kind.{Kind}
use Rattle.cell_reader.specs.declared.shapes.Kind.TheVariants.{Table, Index}
use Rattle.tree_forms.specs.Node.{Held, Node, cells_in, child_of, number_in, right_in}

-- page p says this, of this kind, and is a leaf or an interior page
pub record Holds (node : ℕ → Option Node) (kind : Kind) (leaf : Bool) (p : ℕ) (n : Node) : Type 0 where
  pub is : node p ≡ Some n
  pub kind_is : n.kind ≡ kind
  pub leaf_is : n.leaf ≡ leaf

-- each child of the cells is a T, and the right-most child is one
abbrev pub Row : (ℕ → Type 0) → List Held → ℕ → Type 0
Row T [] right = T right
Row T (h ∷ hs) right = T (child_of h) × Row T hs right

-- page p is the root of a tree of this depth, where `node` tells what a page says: all leaves have one
-- depth, a leaf other than `root` has a cell, and so has an interior page other than page 1
abbrev pub IsTree : (ℕ → Option Node) → Kind → ℕ → ℕ → ℕ → Type 0
IsTree node kind root zero p = (n : Node) × Holds node kind true p n × (p ≢ root → n.cells ≢ [])
IsTree node kind root (suc d) p = (n : Node) × Holds node kind false p n × (p ≢ 1 → n.cells ≢ [])
    × Row (IsTree node kind root d) n.cells (number_in n.right)

-- a cell without its child
abbrev pub bare : Held → Held
bare h = record h { child = None }

-- what f gives of the children, and the cells between them
abbrev pub row_items : (ℕ → List Held) → List Held → ℕ → List Held
row_items f [] right = f right
row_items f (h ∷ hs) right = f (child_of h) ++ (bare h ∷ row_items f hs right)

-- the cells of a tree in order: those of an interior page stand between those of its children
abbrev pub items_of : (ℕ → Option Node) → ℕ → ℕ → List Held
items_of node zero p = cells_in (node p)
items_of node (suc d) p = row_items (items_of node d) (cells_in (node p)) (right_in (node p))

-- what f gives of the children, one after another
abbrev pub row_pages : (ℕ → List ℕ) → List Held → ℕ → List ℕ
row_pages f [] right = f right
row_pages f (h ∷ hs) right = f (child_of h) ++ row_pages f hs right

-- the pages of a tree, where `own` tells the pages that belong to one of them
abbrev pub pages_of : (ℕ → Option Node) → (ℕ → List ℕ) → ℕ → ℕ → List ℕ
pages_of node own zero p = own p
pages_of node own (suc d) p = own p ++ row_pages (pages_of node own d) (cells_in (node p)) (right_in (node p))

-- page p is the root of a tree of this kind, with these cells in order and these pages
pub record Tree (node : ℕ → Option Node) (own : ℕ → List ℕ) (kind : Kind) (p : ℕ) (items : List Held) (pages : List ℕ) : Type 0 where
  pub depth : ℕ
  pub is_tree : IsTree node kind p depth p
  pub items_are : items ≡ items_of node depth p
  pub pages_are : pages ≡ pages_of node own depth p

-- the entries of a tree: its cells but the key cells of interior table pages, which have no payload
abbrev pub entries : List Held → List Held
entries [] = []
entries (h ∷ hs) = if h.total == 0 then entries hs else h ∷ entries hs

-- a rowid or key behind another: a key is at least the rowid before it, a rowid is above what comes
-- before it
abbrev pub Follows : Option ℤ → Bool → Option ℤ → Type 0
Follows low key None = ⊥
Follows None key (Some k) = Unit {0}
Follows (Some l) true (Some k) = l ≤ℤ k
Follows (Some l) false (Some k) = l <ℤ k

-- the rowids and keys of a table tree's cells, behind `low`: the key of an interior cell is at least
-- every rowid in its left child and below every rowid to its right, and rowids rise strictly
abbrev pub InOrder : Option ℤ → List Held → Type 0
InOrder low [] = Unit {0}
InOrder low (h ∷ hs) = Follows low (h.total == 0) h.rowid × InOrder h.rowid hs

-- root and kind fix the cells of a tree and its pages
abbrev pub OneTree : Type 0
OneTree = (node : ℕ → Option Node) (own : ℕ → List ℕ) (kind : Kind) (p : ℕ) (items items' : List Held) (pages pages' : List ℕ)
    → Tree node own kind p items pages → Tree node own kind p items' pages' → (items ≡ items') × (pages ≡ pages')
