-- The loops that make the pages of a plan follow their definitions.
use Rattle.std.proofs.Common.{◌≡◌, ◌<◌, ◌≤◌, ℕ, zero, suc, ◌+◌, ◌-◌, ◌*◌, ◌^◌, Bool, true, false, List, [], ◌∷◌, ◌++◌, length, take, drop, get_or, map, sum_by, refl, sym, ap, ◌∙◌, subst, arith, append_assoc, append-nil, length-append}
use Rattle.std.proofs.Math.ListN.{get_or-append, get_or-map}
use Rattle.std.proofs.lemmas.List.{take_more, take_all, map-append, length-map}
use Rattle.std.proofs.lemmas.List.Sums.{sum_by_more, sum_by_more_le, sum_by-drop_more, sum_by-cons}
use Rattle.cell_reader.specs.declared.shapes.Kind.{Kind}
use Rattle.cell_reader.specs.declared.shapes.Kind.TheVariants.{Table, Index}
use Rattle.tree_writer.specs.declared.groups.Span.{Span}
use Rattle.tree_writer.specs.declared.plans.PagePlan.{PagePlan}
use Rattle.tree_writer.specs.declared.sizes.Size.{Size}
use Rattle.tree_writer.specs.Entry.{Entry, Item, entry_at, leaf_item, no_entry}
use Rattle.tree_writer.specs.Plan.{part_of, size_for, size_item}
use Rattle.tree_writer.specs.Planned.{inner_item, leaf_behind, leaf_plans, level_plans, no_page, no_span, plan_at, span_at, span_pages}
use Rattle.tree_writer.proofs.Lists.{at_head, at_end}

-- a mapped front with one element more
pub front_more : {X Y : Type 0} (f : X → Y) (xs : List X) (i : ℕ) (d : X) (ys : List Y) (y : Y) → i < length xs → ys ≡ map f (take i xs) → y ≡ f (get_or xs i d)
    → ys ++ y ∷ [] ≡ map f (take (i + 1) xs)
front_more f xs i d ys y lt front one =
    ap (λ (t : List _). t ++ y ∷ []) front ∙ ap (λ t. map f (take i xs) ++ t ∷ []) one
    ∙ sym (map-append f (take i xs) (get_or xs i d ∷ [])) ∙ sym (ap (map f) (take_more xs i d lt))

pub leaf_whole : (kind : Kind) (e : Entry) → part_of kind true e ≡ e
leaf_whole Table e = refl
leaf_whole Index e = refl

pub leaf_size : (usable : ℕ) (kind : Kind) (e : Entry) (s : Size) → s ≡ size_for usable kind true (part_of kind true e) → s ≡ size_item usable kind true (leaf_item e)
leaf_size usable kind e s is = is ∙ ap (size_for usable kind true) (leaf_whole kind e)

-- what is left of a loop over spans
pub sum_left : (spans : List Span) (i : ℕ) → i < length spans → sum_by span_pages (drop i spans) ≡ (span_at spans i).pages + sum_by span_pages (drop (i + 1) spans)
sum_left spans i lt = sum_by-drop_more span_pages spans i no_span lt

pub record AddsLeaves (kind : Kind) (spans : List Span) (old pages : List PagePlan) (index i : ℕ) : Type 0 where
  pub all : pages ++ leaf_plans kind index (drop i spans) ≡ old ++ leaf_plans kind 0 spans
  pub sums : index + sum_by span_pages (drop i spans) ≡ sum_by span_pages spans

pub adds_leaf : (kind : Kind) (spans : List Span) (old pages pages' : List PagePlan) (index i : ℕ) (p : PagePlan) → AddsLeaves kind spans old pages index i → i < length spans
    → pages' ≡ pages ++ p ∷ [] → p ≡ record { index = index; first = (span_at spans i).first; cells = (span_at spans i).cells; behind = leaf_behind kind ((span_at spans i).first + (span_at spans i).cells) }
    → AddsLeaves kind spans old pages' (index + (span_at spans i).pages) (i + 1)
adds_leaf kind spans old pages pages' index i p a lt more is = record {
  all =
      let head = ap (leaf_plans kind index) (at_head no_span spans i lt) in
      ap (λ (t : List PagePlan). t ++ leaf_plans kind (index + (span_at spans i).pages) (drop (i + 1) spans)) more
      ∙ append_assoc pages (p ∷ []) (leaf_plans kind (index + (span_at spans i).pages) (drop (i + 1) spans))
      ∙ ap (λ (t : PagePlan). pages ++ (t ∷ leaf_plans kind (index + (span_at spans i).pages) (drop (i + 1) spans))) is
      ∙ sym (ap (λ (t : List PagePlan). pages ++ t) head) ∙ a.all;
  sums = omega (arith, a.sums, sum_left spans i lt);
}

pub adds_leaves_done : (kind : Kind) (spans : List Span) (old pages : List PagePlan) (index i : ℕ) → AddsLeaves kind spans old pages index i → length spans ≤ i
    → (pages ≡ old ++ leaf_plans kind 0 spans) × (index ≡ sum_by span_pages spans)
adds_leaves_done kind spans old pages index i a le = (
  sym (append-nil pages) ∙ sym (ap (λ (t : List Span). pages ++ leaf_plans kind index t) (at_end spans i le)) ∙ a.all,
  (let s = ap (sum_by span_pages) (at_end spans i le) in omega (arith, a.sums, s)),
)

pub record AddsLevel (spans : List Span) (old pages : List PagePlan) (base from index i : ℕ) : Type 0 where
  pub made : List PagePlan
  pub pages_are : pages ≡ old ++ made
  pub all : pages ++ level_plans old base index (drop i spans) ≡ old ++ level_plans old base from spans
  pub sums : index + sum_by span_pages (drop i spans) ≡ from + sum_by span_pages spans

pub adds_level_start : (spans : List Span) (old : List PagePlan) (base from : ℕ) → AddsLevel spans old old base from from 0
adds_level_start spans old base from = record { made = []; pages_are = sym (append-nil old); all = refl; sums = refl }

pub old_behind : (old pages : List PagePlan) (spans : List Span) (base from index i j : ℕ) → AddsLevel spans old pages base from index i → j < length old
    → (plan_at pages j).behind ≡ (plan_at old j).behind
old_behind old pages spans base from index i j a lt =
    ap (λ (t : List PagePlan). (plan_at t j).behind) a.pages_are ∙ ap (λ (p : PagePlan). p.behind) (get_or-append old a.made no_page j lt)

pub adds_level : (spans : List Span) (old pages pages' : List PagePlan) (base from index i : ℕ) (p : PagePlan) → AddsLevel spans old pages base from index i → i < length spans
    → base + (span_at spans i).first + (span_at spans i).cells < length old → pages' ≡ pages ++ p ∷ []
    → p ≡ record { index = index; first = base + (span_at spans i).first; cells = (span_at spans i).cells; behind = (plan_at pages (base + (span_at spans i).first + (span_at spans i).cells)).behind }
    → AddsLevel spans old pages' base from (index + (span_at spans i).pages) (i + 1)
adds_level spans old pages pages' base from index i p a lt there more is = record {
  made = a.made ++ p ∷ [];
  pages_are = more ∙ ap (λ (t : List PagePlan). t ++ p ∷ []) a.pages_are ∙ append_assoc old a.made (p ∷ []);
  all =
      let head = ap (level_plans old base index) (at_head no_span spans i lt) in
      let s = span_at spans i in
      let f : ℕ → PagePlan = λ n. record { index = index; first = base + s.first; cells = s.cells; behind = n } in
      ap (λ (t : List PagePlan). t ++ level_plans old base (index + s.pages) (drop (i + 1) spans)) more
      ∙ append_assoc pages (p ∷ []) (level_plans old base (index + s.pages) (drop (i + 1) spans))
      ∙ ap (λ (t : PagePlan). pages ++ (t ∷ level_plans old base (index + s.pages) (drop (i + 1) spans)))
      (is ∙ ap f (old_behind old pages spans base from index i (base + s.first + s.cells) a there))
      ∙ sym (ap (λ (t : List PagePlan). pages ++ t) head) ∙ a.all;
  sums = omega (arith, a.sums, sum_left spans i lt);
}

pub adds_level_done : (spans : List Span) (old pages : List PagePlan) (base from index i : ℕ) → AddsLevel spans old pages base from index i → length spans ≤ i
    → (pages ≡ old ++ level_plans old base from spans) × (index ≡ from + sum_by span_pages spans)
adds_level_done spans old pages base from index i a le = (
  sym (append-nil pages) ∙ sym (ap (λ (t : List Span). pages ++ level_plans old base index t) (at_end spans i le)) ∙ a.all,
  (let s = ap (sum_by span_pages) (at_end spans i le) in omega (arith, a.sums, s)),
)

pub map_map : {X Y Z : Type 0} (f : Y → Z) (h : X → Y) (xs : List X) → map f (map h xs) ≡ map (λ x. f (h x)) xs
map_map f h [] = refl
map_map f h (x ∷ xs) = ap (λ (t : List _). f (h x) ∷ t) (map_map f h xs)

pub longer : (spans : List Span) (old pages : List PagePlan) (base from index i j : ℕ) → AddsLevel spans old pages base from index i → j < length old → j < length pages
longer spans old pages base from index i j a lt = let n = ap length a.pages_are in omega (arith, n, length-append old a.made)
