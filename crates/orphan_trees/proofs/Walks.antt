-- What one orphan tree has.
use Rattle.std.proofs.Common.{◌≡◌, ◌⊎◌, inl, inr, ℕ, Bool, true, false, ◌&&◌, Option, Some, None, List, [], ◌∷◌, length, refl, sym, ◌∙◌, ap, arith}
use Rattle.std.specs.Prelude.{is_some, pos}
use Rattle.std.specs.List.{range_with_len}
use Rattle.std.proofs.lemmas.Bool.{and_from, and_parts, cases_Bool, false≢true}
use Rattle.page_access.specs.Pages.{File}
use Rattle.page_lists.specs.Lists.{IsPartOf, count, is_in, without}
use Rattle.page_lists.specs.Table.{is_page}
use Rattle.page_lists.proofs.Counts.{in_from_count, in_head, in_part, part_none}
use Rattle.page_lists.proofs.Moves.{count_pages}
use Rattle.cell_reader.specs.declared.shapes.Kind.{Kind}
use Rattle.page_walk.specs.Evidence.{AreOnce}
use Rattle.page_walk.specs.Reach.{IsRoot, Reach, child, start}
use Rattle.page_walk.specs.Walk.{IsChild, children, kind_on, walk}
use Rattle.page_walk.proofs.Chains.{walks_are_unused}
use Rattle.page_walk.proofs.Levels.{levels_first, named_by_level}
use Rattle.page_walk.proofs.Trees.{children_are_named, walk_from_root, walk_is_tree}
use Rattle.tree_uses.specs.Trees.{walk_for}
use Rattle.orphan_trees.specs.Orphans.{is_orphan, orphan_children, orphan_pages, tree_at}
use Rattle.orphan_trees.proofs.Lists.{count-filter, page_of_unused}

-- a page with a shape has a kind
kind_of_some : (o : Option Kind) → is_some o ≡ true → (k : Kind) × (o ≡ Some k)
kind_of_some None is = absurd (false≢true is)
kind_of_some (Some k) is = (k, refl)

pub orphan_parts : (f : File) (u : List ℕ) (p : ℕ) → is_orphan f u p ≡ true → (is_in p u ≡ true) × (is_some (kind_on f p) ≡ true)
orphan_parts f u p is = and_parts (is_in p u) (is_some (kind_on f p)) is

pub orphan_from : (f : File) (u : List ℕ) (p : ℕ) → is_in p u ≡ true → is_some (kind_on f p) ≡ true → is_orphan f u p ≡ true
orphan_from f u p free shaped = and_from (is_in p u) (is_some (kind_on f p)) free shaped

-- the root of an orphan tree
root_is : (f : File) (u : List ℕ) (p : ℕ) (k : Kind) → AreOnce f.pages u → is_in p u ≡ true → kind_on f p ≡ Some k → IsRoot f u k p
root_is f u p k once free kind = record { of_file = page_of_unused f.pages p u once free; free = free; kind_is = kind }

left_false : (b : Bool) → (b && true) ≡ false → b ≡ false
left_false true e = e
left_false false e = refl

no_pages : (f : File) (u : List ℕ) (p : ℕ) (o : Option Kind) → (is_in p u && is_some o) ≡ false → walk_for f u (pos p) o ≡ []
unfolding walk
no_pages f u p None other = refl
no_pages f u p (Some k) other =
    elim (cases_Bool (is_page f.pages p)) [
      | inl page ↦ rw page (rw (left_false (is_in p u) other) refl)
      | inr out ↦ rw out refl
    ]

-- there is no tree where the page is no orphan page
pub tree_none : (f : File) (u : List ℕ) (p : ℕ) → is_orphan f u p ≡ false → (tree_at f p u).pages ≡ []
tree_none f u p other = no_pages f u p (kind_on f p) other

-- and else it has its root
pub tree_some : (f : File) (u : List ℕ) (p : ℕ) → AreOnce f.pages u → is_orphan f u p ≡ true → is_in p (tree_at f p u).pages ≡ true
tree_some f u p once is =
    let parts : (is_in p u ≡ true) × (is_some (kind_on f p) ≡ true) = orphan_parts f u p is in
    let kind : (k : Kind) × (kind_on f p ≡ Some k) = kind_of_some (kind_on f p) parts.1 in
    let pages : (tree_at f p u).pages ≡ walk f u (pos p) kind.0 = ap (walk_for f u (pos p)) kind.1 in
    ap (is_in p) (pages ∙ walk_from_root f u kind.0 p (root_is f u p kind.0 once parts.0 kind.1))
    ∙ levels_first (children f) (length u) (without p u) (p ∷ []) p (in_head p [])

part_for : (f : File) (u : List ℕ) (p : ℕ) (o : Option Kind) → IsPartOf (walk_for f u (pos p) o) u
part_for f u p None = part_none u
part_for f u p (Some k) = (walks_are_unused f u (pos p) k).part

-- its pages are unused ones
pub tree_part : (f : File) (u : List ℕ) (p : ℕ) → IsPartOf (tree_at f p u).pages u
tree_part f u p = part_for f u p (kind_on f p)

kinds_for : (f : File) (u : List ℕ) (p q : ℕ) (o : Option Kind) → is_in q (walk_for f u (pos p) o) ≡ true → is_some (kind_on f q) ≡ true
kinds_for f u p q None there = absurd (false≢true there)
kinds_for f u p q (Some k) there = ap {B = Bool} (λ (o : Option Kind). is_some o) ((walks_are_unused f u (pos p) k).kinds q there)

-- that have a shape
pub tree_kinds : (f : File) (u : List ℕ) (p q : ℕ) → is_in q (tree_at f p u).pages ≡ true → is_some (kind_on f q) ≡ true
tree_kinds f u p q there = kinds_for f u p q (kind_on f p) there

-- an orphan page is among the orphan pages
pub in_orphans : (f : File) (u : List ℕ) (p : ℕ) → is_page f.pages p ≡ true → is_orphan f u p ≡ true → is_in p (orphan_pages f u) ≡ true
in_orphans f u p page is =
    let often : count p (orphan_pages f u) ≡ 1 = count-filter (is_orphan f u) p (range_with_len 1 f.pages) ∙ rw is (count_pages f.pages p ∙ rw page refl) in
    in_from_count p (orphan_pages f u) (omega (arith, often))

-- what an orphan page of a tree names is a child of an orphan page
named_in : (f : File) (u v : List ℕ) (p q : ℕ) → AreOnce f.pages v → IsPartOf u v → is_in p u ≡ true → is_some (kind_on f p) ≡ true → IsChild f p q
    → is_in q (orphan_children f v) ≡ true
named_in f u v p q once part free shaped names =
    let there : is_in p v ≡ true = in_part p u v part free in
    named_by_level (children f) p q (orphan_pages f v)
    (in_orphans f v p (page_of_unused f.pages p v once there) (orphan_from f v p there shaped)) ((children_are_named f p q).1 names)

child_or_root : (f : File) (u v : List ℕ) (p : ℕ) → AreOnce f.pages v → IsPartOf u v → ((q : ℕ) → Reach f u p q → (is_in q u ≡ true) × (is_some (kind_on f q) ≡ true))
    → (q : ℕ) → Reach f u p q → (q ≡ p) ⊎ (is_in q (orphan_children f v) ≡ true)
child_or_root f u v p once part orphan _ start = inl refl
child_or_root f u v p once part orphan _ (child p' q reached names still) =
    inr (named_in f u v p' q once part (orphan p' reached).0 (orphan p' reached).1 names)

-- each page of a tree but its root is a child of an orphan page
pub tree_child : (f : File) (u v : List ℕ) (p q : ℕ) → AreOnce f.pages v → IsPartOf u v → is_orphan f u p ≡ true → is_in q (tree_at f p u).pages ≡ true
    → (q ≡ p) ⊎ (is_in q (orphan_children f v) ≡ true)
tree_child f u v p q once part is there =
    let once' : AreOnce f.pages u = λ x. omega (arith, once x, part x) in
    let parts : (is_in p u ≡ true) × (is_some (kind_on f p) ≡ true) = orphan_parts f u p is in
    let kind : (k : Kind) × (kind_on f p ≡ Some k) = kind_of_some (kind_on f p) parts.1 in
    let pages : (tree_at f p u).pages ≡ walk f u (pos p) kind.0 = ap (walk_for f u (pos p)) kind.1 in
    let reached = (walk_is_tree f u (pos p) kind.0 once').reached p refl (root_is f u p kind.0 once' parts.0 kind.1) in
    child_or_root f u v p once part
    (λ x at. let stands : is_in x (walk f u (pos p) kind.0) ≡ true = reached.all x at in (
      in_part x (walk f u (pos p) kind.0) u (walks_are_unused f u (pos p) kind.0).part stands,
      ap {B = Bool} (λ (o : Option Kind). is_some o) ((walks_are_unused f u (pos p) kind.0).kinds x stands),
    ))
    q (reached.within q (sym (ap (is_in q) pages) ∙ there))
