-- Row by row and level by level a tree has the same pages, where none of them is used.
use Rattle.std.proofs.Common.{◌≡◌, ◌≤◌, ℕ, zero, suc, ◌+◌, true, List, [], ◌∷◌, ◌++◌, length, refl, sym, ap, ◌∙◌, subst, arith, append-nil}
use Rattle.std.specs.List.{AllByRecursion, flat_map}
use Rattle.page_access.specs.Pages.{File}
use Rattle.page_lists.specs.Lists.{IsPartOf, count, firsts, is_in, minus, without}
use Rattle.page_lists.proofs.Counts.{count-append, count-minus, count_in, in_head, in_part, length-without, part_rest}
use Rattle.cell_reader.specs.declared.shapes.Kind.{Kind}
use Rattle.page_walk.specs.Walk.{children, levels}
use Rattle.page_walk.proofs.Going.{all_append}
use Rattle.page_walk.proofs.Queue.{Fuel, fuel_next}
use Rattle.page_walk.proofs.Trees.{walk_from_root}
use Rattle.tree_forms.specs.Node.{node_of}
use Rattle.tree_forms.specs.Tree.{IsTree}
use Rattle.tree_walks.specs.Laws.{TreesAreWalked}
use Rattle.tree_walks.specs.Rows.{rows, tree_pages}
use Rattle.tree_walks.proofs.Children.{below_are, children_are, no_children, root_of}

-- what is part of nothing
none_part : (xs : List ℕ) → IsPartOf xs [] → xs ≡ []
none_part [] part = refl
none_part (x ∷ xs) part = absurd (omega (arith, part x, count_in x (x ∷ xs) (in_head x xs)))

-- unused pages, each as often as it is unused at most, are all taken
pub firsts_all : (unused xs : List ℕ) → IsPartOf xs unused → firsts unused xs ≡ xs
firsts_all unused [] part = refl
firsts_all unused (x ∷ xs) part =
    let there : is_in x unused ≡ true = in_part x (x ∷ xs) unused part (in_head x xs) in
    rw there (ap (λ (ys : List ℕ). x ∷ ys) (firsts_all (without x unused) xs (part_rest x xs unused part)))

-- the rows below a row
abbrev pub under : (ℕ → List ℕ) → ℕ → List ℕ → List ℕ
under below zero ps = []
under below (suc d) ps = rows below d (flat_map below ps)

pub rows_split : (below : ℕ → List ℕ) (d : ℕ) (ps : List ℕ) → rows below d ps ≡ ps ++ under below d ps
rows_split below zero ps = sym (append-nil ps)
rows_split below (suc d) ps = refl

pub no_rows : (below : ℕ → List ℕ) (d : ℕ) → rows below d [] ≡ []
no_rows below zero = refl
no_rows below (suc d) = no_rows below d

-- nothing is below the d-th row below a row
abbrev pub Ends : (ℕ → List ℕ) → ℕ → List ℕ → Type 0
Ends below zero ps = flat_map below ps ≡ []
Ends below (suc d) ps = Ends below d (flat_map below ps)

by_rows : (below : ℕ → List ℕ) (d n : ℕ) (unused ps : List ℕ) → Fuel n unused ps → Ends below d ps → IsPartOf (under below d ps) unused
    → levels below n unused ps ≡ rows below d ps
by_rows below d n unused [] enough ends part = sym (no_rows below d)
by_rows below zero zero unused (p ∷ ps) enough ends part = refl
by_rows below (suc d) zero [] (p ∷ ps) enough ends part =
    sym (ap (λ (xs : List ℕ). (p ∷ ps) ++ xs) (none_part (rows below d (flat_map below (p ∷ ps))) part) ∙ append-nil (p ∷ ps))
by_rows below (suc d) zero (u ∷ unused) (p ∷ ps) enough ends part = absurd (omega (arith, enough))
by_rows below zero (suc n) unused (p ∷ ps) enough ends part =
    ap (λ (xs : List ℕ). (p ∷ ps) ++ levels below n (minus unused (firsts unused xs)) (firsts unused xs)) ends ∙ append-nil (p ∷ ps)
by_rows below (suc d) (suc n) unused (p ∷ ps) enough ends part =
    let kids : List ℕ = flat_map below (p ∷ ps) in
    let all : rows below d kids ≡ kids ++ under below d kids = rows_split below d kids in
    let some : (q : ℕ) → count q kids + count q (under below d kids) ≤ count q unused =
    λ q. omega (arith, part q, ap (count q) all, count-append q kids (under below d kids)) in
    let first : IsPartOf kids unused = λ q. omega (arith, some q) in
    let next : firsts unused kids ≡ kids = firsts_all unused kids first in
    let left : IsPartOf (under below d kids) (minus unused kids) = λ q. omega (arith, some q, count-minus q unused kids first) in
    ap (λ (xs : List ℕ). (p ∷ ps) ++ levels below n (minus unused xs) xs) next
    ∙ ap (λ (xs : List ℕ). (p ∷ ps) ++ xs) (by_rows below d n (minus unused kids) kids (fuel_next n unused kids first enough) ends left)

-- the children of trees are trees one row lower
pub generation : (f : File) (kind : Kind) (r d : ℕ) (ps : List ℕ) → AllByRecursion (IsTree (node_of f) kind r (suc d)) ps
    → AllByRecursion (IsTree (node_of f) kind r d) (flat_map (children f) ps)
generation f kind r d [] trees = tt
generation f kind r d (p ∷ ps) trees =
    all_append (IsTree (node_of f) kind r d) (children f p) (flat_map (children f) ps)
    (subst (AllByRecursion (IsTree (node_of f) kind r d)) (sym (children_are f kind r d p trees.0)) (below_are f kind r d p trees.0))
    (generation f kind r d ps trees.1)

leaves_end : (f : File) (kind : Kind) (r : ℕ) (ps : List ℕ) → AllByRecursion (IsTree (node_of f) kind r zero) ps → flat_map (children f) ps ≡ []
leaves_end f kind r [] trees = refl
leaves_end f kind r (p ∷ ps) trees =
    ap (λ (xs : List ℕ). xs ++ flat_map (children f) ps) (no_children f kind r p trees.0) ∙ leaves_end f kind r ps trees.1

trees_end : (f : File) (kind : Kind) (r d : ℕ) (ps : List ℕ) → AllByRecursion (IsTree (node_of f) kind r d) ps → Ends (children f) d ps
trees_end f kind r zero ps trees = leaves_end f kind r ps trees
trees_end f kind r (suc d) ps trees = trees_end f kind r d (flat_map (children f) ps) (generation f kind r d ps trees)

pub trees_are_walked : TreesAreWalked
unfolding tree_pages
trees_are_walked f kind p depth unused tree part =
    let all : rows (children f) depth (p ∷ []) ≡ (p ∷ []) ++ under (children f) depth (p ∷ []) = rows_split (children f) depth (p ∷ []) in
    let some : (q : ℕ) → count q (p ∷ []) + count q (under (children f) depth (p ∷ [])) ≤ count q unused =
    λ q. omega (arith, part q, ap (count q) all, count-append q (p ∷ []) (under (children f) depth (p ∷ []))) in
    let first : IsPartOf (p ∷ []) unused = λ q. omega (arith, some q) in
    let there : is_in p unused ≡ true = in_part p (p ∷ []) unused first (in_head p []) in
    let is = root_of f kind p depth p tree in
    walk_from_root f unused kind p (record { of_file = is.0; free = there; kind_is = is.1 })
    ∙ by_rows (children f) depth (length unused) (without p unused) (p ∷ []) (omega (arith, length-without p unused there))
    (trees_end f kind p depth (p ∷ []) (tree, tt)) (λ q. omega (arith, some q, count-minus q unused (p ∷ []) first))
