-- The children of a page as a list are its children as a relation, and a walk gives the pages of the tree.
use Rattle.std.proofs.Common.{◌≡◌, ℕ, ◌≤◌, Bool, true, false, ◌&&◌, Option, Some, None, option_map, List, [], ◌∷◌, length, refl, sym, ap, ◌∙◌, subst, inl, inr, arith}
use Rattle.std.specs.Prelude.{ℤ, pos, negsuc, filter}
use Rattle.std.proofs.lemmas.Bool.{false≢true, and_from, and_parts, and_right, cases_Bool}
use Rattle.std.proofs.lemmas.Bool.Decides.{eqb_tells}
use Rattle.page_access.specs.Pages.{File}
use Rattle.page_lists.specs.Lists.{is_in, without}
use Rattle.page_lists.specs.Table.{is_page}
use Rattle.page_lists.proofs.Counts.{at_most_one, count-without, in_head, length-without, is_in-without-other}
use Rattle.cell_reader.specs.declared.shapes.Kind.{Kind}
use Rattle.cell_reader.specs.declared.shapes.Kind.TheVariants.{Table, Index}
use Rattle.cell_reader.specs.declared.shapes.PageShape.{PageShape}
use Rattle.page_walk.specs.Evidence.{AreOnce}
use Rattle.page_walk.specs.Page.{shape_on}
use Rattle.page_walk.specs.Pointers.{pointers_on, pointers_with}
use Rattle.page_walk.specs.Reach.{AreReached, ChildrenAreNamed, IsRoot, Reach, WalkIsTree, start, child}
use Rattle.page_walk.specs.Walk.{children, is_root, kind_on, levels_from, same_kind, walk}
use Rattle.page_walk.proofs.Levels.{levels_closed, levels_first, levels_once, levels_within}

-- a page is in a filtered list where it is in the list and passes the test
is_in-filter : (t : ℕ → Bool) (q : ℕ) (xs : List ℕ) → is_in q (filter t xs) ≡ (is_in q xs && t q)
is_in-filter t q [] = refl
is_in-filter t q (x ∷ xs) =
    elim (eqb_tells x q) [
      | inl w ↦ elim (cases_Bool (t x)) [
        | inl passes ↦ let passes' : t q ≡ true = ap t (sym w.1) ∙ passes in rw (passes, passes', w.0) refl
        | inr fails ↦
            let fails' : t q ≡ false = ap t (sym w.1) ∙ fails in
            let none : is_in q (filter t xs) ≡ false = is_in-filter t q xs ∙ and_right (is_in q xs) (t q) fails' in
            rw fails (none ∙ sym (and_right (is_in q (x ∷ xs)) (t q) fails'))
      ]
      | inr w ↦ elim (cases_Bool (t x)) [
        | inl passes ↦ rw (passes, w.0) (is_in-filter t q xs)
        | inr fails ↦ rw (fails, w.0) (is_in-filter t q xs)
      ]
    ]

-- pages of one kind have equal kinds
pub same_kind_tells : (a b : Option Kind) → same_kind a b ≡ true → a ≡ b
same_kind_tells None b h = absurd (false≢true h)
same_kind_tells (Some kind) None h = absurd (false≢true h)
same_kind_tells (Some Table) (Some Table) h = refl
same_kind_tells (Some Table) (Some Index) h = absurd (false≢true h)
same_kind_tells (Some Index) (Some Table) h = absurd (false≢true h)
same_kind_tells (Some Index) (Some Index) h = refl

pub same_kind_self : (kind : Kind) → same_kind (Some kind) (Some kind) ≡ true
same_kind_self Table = refl
same_kind_self Index = refl

-- a page that names another has a kind
has_kind : (f : File) (p q : ℕ) (shape : Option PageShape) → is_in q (pointers_with f p shape) ≡ true
    → (kind : Kind) × (option_map (λ (s : PageShape). s.kind) shape ≡ Some kind)
has_kind f p q None names = absurd (false≢true names)
has_kind f p q (Some shape) names = (shape.kind, refl)

-- page q may be a child of page p, whatever page p names
abbrev may_be_child : File → ℕ → ℕ → Bool
may_be_child f p q = is_page f.pages q && same_kind (kind_on f q) (kind_on f p)

pub children_are_named : ChildrenAreNamed
unfolding children
children_are_named f p q =
    let there_is : is_in q (children f p) ≡ (is_in q (pointers_on f p) && may_be_child f p q) =
    is_in-filter (may_be_child f p) q (pointers_on f p) in (
      λ there.
          let parts = and_parts (is_in q (pointers_on f p)) (may_be_child f p q) (sym there_is ∙ there) in
          let both = and_parts (is_page f.pages q) (same_kind (kind_on f q) (kind_on f p)) parts.1 in
          record { named = parts.0; of_file = both.0; kind_is = same_kind_tells (kind_on f q) (kind_on f p) both.1 },
      λ is.
          let has = has_kind f p q (shape_on f p) is.named in
          let same : same_kind (kind_on f q) (kind_on f p) ≡ true =
          ap (λ (k : Option Kind). same_kind k (kind_on f p)) (is.kind_is ∙ has.1)
          ∙ ap (same_kind (Some has.0)) has.1
          ∙ same_kind_self has.0 in
          let may : may_be_child f p q ≡ true =
          and_from (is_page f.pages q) (same_kind (kind_on f q) (kind_on f p)) is.of_file same in
          there_is ∙ and_from (is_in q (pointers_on f p)) (may_be_child f p q) is.named may,
    )

-- a page that an unused root reaches is in the levels from it down
reach_in : (f : File) (unused : List ℕ) (root : ℕ) → is_in root unused ≡ true → (q : ℕ) → Reach f unused root q
    → is_in q (levels_from (children f) unused root) ≡ true
reach_in f unused root free q start =
    levels_first (children f) (length unused) (without root unused) (root ∷ []) root (in_head root [])
reach_in f unused root free q (child p _ reached is still) =
    let enough : length (without root unused) ≤ length unused = omega (arith, length-without root unused free) in
    elim (eqb_tells root q) [
      | inl w ↦
          levels_first (children f) (length unused) (without root unused) (root ∷ []) q
          (subst (λ (r : ℕ). is_in q (r ∷ []) ≡ true) (sym w.1) (in_head q []))
      | inr w ↦
          levels_closed (children f) (length unused) (without root unused) (root ∷ []) p q enough
          (reach_in f unused root free p reached) ((children_are_named f p q).1 is) (is_in-without-other q root unused w.1 ∙ still)
    ]

-- the levels from an unused page down are the pages that it reaches, each once
levels_are_reached : (f : File) (unused : List ℕ) (root : ℕ) → AreOnce f.pages unused → is_in root unused ≡ true
    → AreReached f unused root (levels_from (children f) unused root)
levels_are_reached f unused root each free = record {
  within = levels_within (children f) unused (Reach f unused root)
      (λ p q reached names still. child p q reached ((children_are_named f p q).0 names) still)
      (length unused) (without root unused) (root ∷ []) (λ q. omega (arith, count-without q root unused free)) only;
  all = reach_in f unused root free;
  once = λ q.
      let more = levels_once (children f) (length unused) (without root unused) (root ∷ []) q in
      omega (arith, more, count-without q root unused free, each q, at_most_one (is_page f.pages q));
}
  where
    only : (q : ℕ) → is_in q (root ∷ []) ≡ true → Reach f unused root q
    only q there =
        elim (eqb_tells root q) [
          | inl w ↦ subst (Reach f unused root) w.1 start
          | inr w ↦ absurd (false≢true (rw w.0 at there))
        ]

-- from a root a walk gives the levels from its page down
pub walk_from_root : (f : File) (unused : List ℕ) (kind : Kind) (r : ℕ) → IsRoot f unused kind r
    → walk f unused (pos r) kind ≡ levels_from (children f) unused r
unfolding walk
walk_from_root f unused kind r is =
    let same : same_kind (kind_on f r) (Some kind) ≡ true =
    ap (λ (k : Option Kind). same_kind k (Some kind)) is.kind_is ∙ same_kind_self kind in
    rw is.of_file (rw (and_from (is_in r unused) (same_kind (kind_on f r) (Some kind)) is.free same) refl)

-- what is no root gives no pages
pub walk_from_none : (f : File) (unused : List ℕ) (kind : Kind) (root : ℤ) → ((r : ℕ) → root ≡ pos r → IsRoot f unused kind r → ⊥)
    → walk f unused root kind ≡ []
unfolding walk
walk_from_none f unused kind (negsuc m) other = refl
walk_from_none f unused kind (pos r) other =
    elim (cases_Bool (is_page f.pages r)) [
      | inl page ↦ elim (cases_Bool (is_root f unused kind r)) [
        | inl is ↦
            let parts = and_parts (is_in r unused) (same_kind (kind_on f r) (Some kind)) is in
            let same = same_kind_tells (kind_on f r) (Some kind) parts.1 in
            absurd (other r refl (record { of_file = page; free = parts.0; kind_is = same }))
        | inr no_root ↦ rw page (rw no_root refl)
      ]
      | inr outside ↦ rw outside refl
    ]

pub walk_is_tree : WalkIsTree
walk_is_tree f unused root kind each = record {
  reached = λ r at is.
      let from : walk f unused root kind ≡ levels_from (children f) unused r =
      ap (λ (z : ℤ). walk f unused z kind) at ∙ walk_from_root f unused kind r is in
      subst (AreReached f unused r) (sym from) (levels_are_reached f unused r each is.free);
  none = walk_from_none f unused kind root;
}
