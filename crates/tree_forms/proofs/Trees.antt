-- Root and kind fix the depth of a tree, and so its cells and pages.
use Rattle.std.proofs.Common.{◌≡◌, ◌≢◌, ℕ, zero, suc, Bool, true, false, Option, Some, None, List, [], ◌∷◌, refl, sym, ap, ◌∙◌, subst, arith}
use Rattle.cell_reader.specs.declared.shapes.Kind.{Kind}
use Rattle.tree_forms.specs.Node.{Held, Node, child_of, number_in}
use Rattle.tree_forms.specs.Tree.{Holds, Row, IsTree, Tree, OneTree, items_of, pages_of}

-- the right-most child of a row
pub row_last : (T : ℕ → Type 0) (hs : List Held) (right : ℕ) → Row T hs right → T right
row_last T [] right row = row
row_last T (h ∷ hs) right row = row_last T hs right row.1

-- one page says one thing
same_node : (o : Option Node) (n m : Node) → o ≡ Some n → o ≡ Some m → n ≡ m
same_node o n m a b = cc

-- a page is not both a leaf and an interior page
not_both : {node : ℕ → Option Node} {kind : Kind} (p : ℕ) (n m : Node) → Holds node kind true p n → Holds node kind false p m → ⊥
not_both p n m a b =
    let same = same_node _ n m a.is b.is in
    let leaf : true ≡ false = sym a.leaf_is ∙ ap (λ (x : Node). x.leaf) same ∙ b.leaf_is in cc

-- the depth is what the pages say down the right-most children
pub one_depth : (node : ℕ → Option Node) (kind : Kind) (r r' d d' p : ℕ)
    → IsTree node kind r d p → IsTree node kind r' d' p → d ≡ d'
one_depth node kind r r' zero zero p a b = refl
one_depth node kind r r' zero (suc d') p a b = absurd (not_both p a.0 b.0 a.1 b.1)
one_depth node kind r r' (suc d) zero p a b = absurd (not_both p b.0 a.0 b.1 a.1)
one_depth node kind r r' (suc d) (suc d') p a b =
    let same = same_node (node p) b.0 a.0 b.1.is a.1.is in
    let left = row_last (IsTree node kind r d) a.0.cells (number_in a.0.right) a.3 in
    let right = row_last (IsTree node kind r' d') b.0.cells (number_in b.0.right) b.3 in
    let moved : IsTree node kind r' d' (number_in a.0.right)
    = subst (λ (n : Node). IsTree node kind r' d' (number_in n.right)) same right in
    ap suc (one_depth node kind r r' d d' (number_in a.0.right) left moved)

pub one_tree : OneTree
one_tree node own kind p items items' pages pages' a b =
    let same = one_depth node kind p p a.depth b.depth p a.is_tree b.is_tree in (
      a.items_are ∙ ap (λ d. items_of node d p) same ∙ sym b.items_are,
      a.pages_are ∙ ap (λ d. pages_of node own d p) same ∙ sym b.pages_are,
    )
