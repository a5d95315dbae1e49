-- Each page that a walk or a turn takes is named, and touched: by the root or a pointer, by a cell's overflow number or by
-- the first bytes of a page.
use Rattle.std.proofs.Common.{◌≡◌, ◌≤◌, ◌⊎◌, ℕ, ◌+◌, ◌==◌, Bool, true, false, Option, Some, None, List, [], ◌∷◌, ◌++◌, refl, sym, ◌∙◌, ap, subst, inl, inr, arith, append-nil}
use Rattle.std.specs.Prelude.{ℤ, pos, negsuc, if◌then◌else◌, option_to_list}
use Rattle.std.specs.List.{filter, flat_map}
use Rattle.std.proofs.lemmas.Bool.{and_parts, cases_Bool, false≢true, or_left, or_right}
use Rattle.std.proofs.lemmas.Bool.Decides.{eqb_tells}
use Rattle.std.proofs.lemmas.Grind.{flat_map-append}
use Rattle.std.proofs.lemmas.List.Elements.{filter-append}
use Rattle.page_access.specs.Pages.{File, page_at}
use Rattle.page_lists.specs.Lists.{IsPartOf, count, is_in, minus}
use Rattle.page_lists.specs.Table.{is_page}
use Rattle.page_lists.proofs.Counts.{count-append, count_in, in_head, in_part}
use Rattle.cell_reader.specs.declared.cells.CellView.{CellView}
use Rattle.cell_reader.specs.declared.shapes.Kind.{Kind}
use Rattle.cell_reader.specs.declared.shapes.PageShape.{PageShape}
use Rattle.cell_reader.specs.Inside.{has_payload}
use Rattle.cell_reader.specs.Screen.{Verdict, Accepts, Faulty, Overlaps, verdicts}
use Rattle.overflow_chain.specs.Chain.{Linked, chain_len, next_page}
use Rattle.overflow_chain.specs.Turn.{turn_of}
use Rattle.overflow_chain.proofs.Longest.{turn_linked}
use Rattle.page_walk.specs.Cells.{Outcome, chain_of, chains_of, entry_at, missing, outcome_at, outcomes_from, outcomes_in, outcomes_on, outcomes_with, turn_from}
use Rattle.page_walk.specs.Evidence.{AreOnce}
use Rattle.page_walk.specs.Laws.{number_of}
use Rattle.page_walk.specs.Page.{screened_as, shape_on, verdicts_in, verdicts_on}
use Rattle.page_walk.specs.Pointers.{pointers_on}
use Rattle.page_walk.specs.Reach.{AreReached, IsRoot, Reach, child, start}
use Rattle.page_walk.specs.Turns.{chains_on, left_by}
use Rattle.page_walk.specs.Walk.{is_root, kind_on, same_kind, walk}
use Rattle.page_walk.proofs.Chains.{entry_chain, entry_number, from_part}
use Rattle.page_walk.proofs.Levels.{in_append, in_back, in_front, named_by_level}
use Rattle.page_walk.proofs.Trees.{same_kind_tells, walk_is_tree}
use Rattle.orphan_trees.proofs.Lists.{once_left, page_of_unused}
use Rattle.clear_paths.specs.Clear.{Touched, named, next_on, numbers_on, outer, outer_numbers, overflow_by, overflows_on, root_number}
use Rattle.clear_paths.proofs.Measures.{times, times-append}

-- ---- walks

-- a walk begins at its root, or there is none
pub walk_cases : (f : File) (u : List ℕ) (root : ℤ) (kind : Kind)
    → ((r : ℕ) × (root ≡ pos r) × IsRoot f u kind r) ⊎ (walk f u root kind ≡ [])
unfolding walk
walk_cases f u (negsuc m) kind = inr refl
walk_cases f u (pos r) kind =
    elim (cases_Bool (is_page f.pages r)) [
      | inl page ↦ elim (cases_Bool (is_root f u kind r)) [
        | inl is ↦
            let parts = and_parts (is_in r u) (same_kind (kind_on f r) (Some kind)) is in
            inl (r, refl, record { of_file = page; free = parts.0; kind_is = same_kind_tells (kind_on f r) (Some kind) parts.1 })
        | inr no_root ↦ inr (rw page (rw no_root refl))
      ]
      | inr outside ↦ inr (rw outside refl)
    ]

named_by : (f : File) (u : List ℕ) (r : ℕ) (pages : List ℕ) (q : ℕ) → AreReached f u r pages → Reach f u r q
    → 1 ≤ count q (r ∷ []) + times (pointers_on f) pages q
named_by f u r pages q are start = omega (arith, count_in r (r ∷ []) (in_head r []))
named_by f u r pages q are (child p _ reached is free) =
    omega (arith, count_in q (flat_map (pointers_on f) pages) (named_by_level (pointers_on f) p q pages (are.all p reached) is.named))

not_in_none : (q : ℕ) (xs : List ℕ) → xs ≡ [] → is_in q xs ≡ true → ⊥
not_in_none q xs none there = false≢true (ap (is_in q) (sym none) ∙ there)

-- the root or a pointer of a page of the walk names each of its pages
pub walk_named : (f : File) (u : List ℕ) (root : ℤ) (kind : Kind) (q : ℕ) → AreOnce f.pages u → is_in q (walk f u root kind) ≡ true
    → 1 ≤ count q (root_number root) + times (pointers_on f) (walk f u root kind) q
walk_named f u root kind q once there =
    elim (walk_cases f u root kind) [
      | inl w ↦
          let are : AreReached f u w.0 (walk f u root kind) = (walk_is_tree f u root kind once).reached w.0 w.1 w.2 in
          subst (λ (z : ℤ). 1 ≤ count q (root_number z) + times (pointers_on f) (walk f u root kind) q) (sym w.1)
          (named_by f u w.0 (walk f u root kind) q are (are.within q there))
      | inr none ↦ absurd (not_in_none q (walk f u root kind) none there)
    ]

reach_touched : (f : File) (roots u : List ℕ) (r q : ℕ) → Touched f roots r → Reach f u r q → Touched f roots q
reach_touched f roots u r q t start = t
reach_touched f roots u r q t (child p _ reached is free) =
    named p q (reach_touched f roots u r p t reached) (in_front q (pointers_on f p) (overflows_on f p ++ next_on f p) is.named) is.of_file

-- they are touched, where the root is a position outside the pages
pub walk_touched : (f : File) (roots u : List ℕ) (root : ℤ) (kind : Kind) (q : ℕ) → AreOnce f.pages u
    → ((r : ℕ) → is_in r (root_number root) ≡ true → is_in r (outer_numbers roots) ≡ true)
    → is_in q (walk f u root kind) ≡ true → Touched f roots q
walk_touched f roots u root kind q once among there =
    elim (walk_cases f u root kind) [
      | inl w ↦
          let are : AreReached f u w.0 (walk f u root kind) = (walk_is_tree f u root kind once).reached w.0 w.1 w.2 in
          let is : is_in w.0 (root_number root) ≡ true = subst (λ (z : ℤ). is_in w.0 (root_number z) ≡ true) (sym w.1) (in_head w.0 []) in
          reach_touched f roots u w.0 q (outer w.0 (among w.0 is) w.2.of_file) (are.within q there)
      | inr none ↦ absurd (not_in_none q (walk f u root kind) none there)
    ]

-- ---- chains

linked_named : (f : File) (first : ℕ) (pages : List ℕ) (q : ℕ) → Linked (next_page f) first pages → is_in q pages ≡ true
    → 1 ≤ count q (first ∷ []) + times (next_on f) pages q
linked_named f first [] q linked there = absurd (false≢true there)
linked_named f first (p ∷ ps) q linked there =
    elim (eqb_tells p q) [
      | inl w ↦
          let here : is_in q (first ∷ []) ≡ true = subst (λ (x : ℕ). is_in q (x ∷ []) ≡ true) (sym w.1 ∙ linked.0) (in_head q []) in
          omega (arith, count_in q (first ∷ []) here)
      | inr w ↦ omega (arith, linked_named f (next_page f p) ps q linked.1 (rw w.0 at there))
    ]

pub next_there : (f : File) (p : ℕ) → is_in (next_page f p) (numbers_on f p) ≡ true
next_there f p =
    let q : ℕ = next_page f p in
    in_back q (pointers_on f p) (overflows_on f p ++ next_on f p) (in_back q (overflows_on f p) (next_on f p) (in_head q []))

linked_touched : (f : File) (roots : List ℕ) (first : ℕ) (pages : List ℕ) (q : ℕ) → (is_page f.pages first ≡ true → Touched f roots first)
    → ((p : ℕ) → is_in p pages ≡ true → is_page f.pages p ≡ true) → Linked (next_page f) first pages → is_in q pages ≡ true
    → Touched f roots q
linked_touched f roots first [] q begins are linked there = absurd (false≢true there)
linked_touched f roots first (p ∷ ps) q begins are linked there =
    let page : is_page f.pages first ≡ true = subst (λ (x : ℕ). is_page f.pages x ≡ true) linked.0 (are p (in_head p ps)) in
    let here : Touched f roots p = subst (Touched f roots) (sym linked.0) (begins page) in
    elim (eqb_tells p q) [
      | inl w ↦ subst (Touched f roots) w.1 here
      | inr w ↦
          linked_touched f roots (next_page f p) ps q (named p (next_page f p) here (next_there f p))
          (λ r h. are r (or_right (p == r) (is_in r ps) h)) linked.1 (rw w.0 at there)
    ]

-- ---- turns

-- pages that turns took: an overflow number or the first bytes of one of them name each; each is touched, where what the
-- overflow numbers name is
pub record AreAsked (f : File) (roots asked pages : List ℕ) : Type 0 where
  pub named_so : (q : ℕ) → is_in q pages ≡ true → 1 ≤ count q asked + times (next_on f) pages q
  pub touched_so : ((r : ℕ) → is_in r asked ≡ true → is_page f.pages r ≡ true → Touched f roots r)
      → (q : ℕ) → is_in q pages ≡ true → Touched f roots q

asked_none : (f : File) (roots asked : List ℕ) → AreAsked f roots asked []
asked_none f roots asked = record {
  named_so = λ q there. absurd (false≢true there);
  touched_so = λ given q there. absurd (false≢true there);
}

asked_append : (f : File) (roots a b xs ys : List ℕ) → AreAsked f roots a xs → AreAsked f roots b ys → AreAsked f roots (a ++ b) (xs ++ ys)
asked_append f roots a b xs ys first next = record {
  named_so = λ q there. elim (in_append q xs ys there) [
    | inl here ↦ omega (arith, first.named_so q here, count-append q a b, times-append (next_on f) xs ys q)
    | inr later ↦ omega (arith, next.named_so q later, count-append q a b, times-append (next_on f) xs ys q)
  ];
  touched_so = λ given q there. elim (in_append q xs ys there) [
    | inl here ↦ first.touched_so (λ r h. given r (in_front r a b h)) q here
    | inr later ↦ next.touched_so (λ r h. given r (in_back r a b h)) q later
  ];
}

turn_asked : (f : File) (roots : List ℕ) (need : ℕ) (overflow : Option ℕ) (u : List ℕ) → AreOnce f.pages u
    → AreAsked f roots (option_to_list overflow) (turn_from f need overflow u)
turn_asked f roots need None u once = asked_none f roots []
turn_asked f roots need (Some first) u once =
    let linked : Linked (next_page f) first (turn_of f first need u) = turn_linked (next_page f) (chain_len f need) u first in
    let are : (p : ℕ) → is_in p (turn_of f first need u) ≡ true → is_page f.pages p ≡ true = λ p there.
    page_of_unused f.pages p u once (in_part p (turn_of f first need u) u (from_part f need (Some first) u) there) in
    record {
      named_so = λ q there. linked_named f first (turn_of f first need u) q linked there;
      touched_so = λ given q there. linked_touched f roots first (turn_of f first need u) q (given first (in_head first [])) are linked there;
    }

cell_asked : (f : File) (roots page : List ℕ) (p : ℕ) (payload : Bool) (i : ℕ) (v : Verdict) (u : List ℕ) → AreOnce f.pages u
    → AreAsked f roots (overflow_by v) (chains_of (outcome_at f page p payload i (screened_as v) u))
cell_asked f roots page p true i (Accepts v) u once =
    subst (AreAsked f roots (option_to_list v.overflow))
    (sym (append-nil (chain_of (entry_at f page p i v u)) ∙ entry_chain f page p i v u)) (turn_asked f roots (missing v) v.overflow u once)
cell_asked f roots page p false i (Accepts v) u once = asked_none f roots (option_to_list v.overflow)
cell_asked f roots page p payload i (Faulty fault) u once = asked_none f roots []
cell_asked f roots page p payload i Overlaps u once = asked_none f roots []

-- ---- the cells of a page whose numbers pass a test

abbrev pub asked_by : (ℕ → Bool) → ℕ → List Verdict → List ℕ
asked_by t i [] = []
asked_by t i (v ∷ vs) = (if t i then overflow_by v else []) ++ asked_by t (i + 1) vs

abbrev pub passes : (ℕ → Bool) → Outcome → Bool
passes t o = t (number_of o)

one_passes : (t : ℕ → Bool) (f : File) (page : List ℕ) (p : ℕ) (payload : Bool) (i : ℕ) (v : Verdict) (u : List ℕ) (b : Bool) → t i ≡ b
    → filter (passes t) (outcome_at f page p payload i (screened_as v) u)
    ≡ (if b then outcome_at f page p payload i (screened_as v) u else [])
one_passes t f page p true i (Accepts v) u b e =
    let o : Outcome = entry_at f page p i v u in
    ap (λ (c : Bool). if c then o ∷ [] else []) (ap t (entry_number f page p i v u) ∙ e)
one_passes t f page p false i (Accepts v) u true e = refl
one_passes t f page p false i (Accepts v) u false e = refl
one_passes t f page p payload i (Faulty fault) u b e =
    ap (λ (c : Bool). if c then outcome_at f page p payload i (screened_as (Faulty fault)) u else []) e
one_passes t f page p payload i Overlaps u b e =
    ap (λ (c : Bool). if c then outcome_at f page p payload i (screened_as Overlaps) u else []) e

asked_if : (f : File) (roots asked : List ℕ) (os : List Outcome) (b : Bool) → AreAsked f roots asked (chains_of os)
    → AreAsked f roots (if b then asked else []) (chains_of (if b then os else []))
asked_if f roots asked os true are = are
asked_if f roots asked os false are = asked_none f roots []

cells_asked : (t : ℕ → Bool) (f : File) (roots page : List ℕ) (p : ℕ) (payload : Bool) (i : ℕ) (vs : List Verdict) (u : List ℕ) → AreOnce f.pages u
    → AreAsked f roots (asked_by t i vs) (chains_of (filter (passes t) (outcomes_from f page p payload i vs u)))
cells_asked t f roots page p payload i [] u once = asked_none f roots []
cells_asked t f roots page p payload i (v ∷ vs) u once =
    let here : List Outcome = outcome_at f page p payload i (screened_as v) u in
    let left : List ℕ = minus u (chains_of here) in
    let later : List Outcome = outcomes_from f page p payload (i + 1) vs left in
    let parts : chains_of (filter (passes t) (here ++ later)) ≡ chains_of (if t i then here else []) ++ chains_of (filter (passes t) later) =
    ap chains_of (filter-append (passes t) here later
    ∙ ap (λ (os : List Outcome). os ++ filter (passes t) later) (one_passes t f page p payload i v u (t i) refl))
    ∙ flat_map-append chain_of (if t i then here else []) (filter (passes t) later) in
    subst (AreAsked f roots (asked_by t i (v ∷ vs))) (sym parts)
    (asked_append f roots (if t i then overflow_by v else []) (asked_by t (i + 1) vs) (chains_of (if t i then here else []))
    (chains_of (filter (passes t) later)) (asked_if f roots (overflow_by v) here (t i) (cell_asked f roots page p payload i v u once))
    (cells_asked t f roots page p payload (i + 1) vs left (once_left f.pages u (chains_of here) once)))

with_asked : (t : ℕ → Bool) (f : File) (roots : List ℕ) (p : ℕ) (shape : Option PageShape) (u : List ℕ) → AreOnce f.pages u
    → AreAsked f roots (asked_by t 0 (verdicts_in f p shape)) (chains_of (filter (passes t) (outcomes_with f p shape u)))
unfolding outcomes_in
with_asked t f roots p None u once = asked_none f roots []
with_asked t f roots p (Some shape) u once =
    cells_asked t f roots (page_at f p) p (has_payload shape.kind shape.leaf) 0 (verdicts (page_at f p) f.usable f.pages shape) u once

pub some_asked : (t : ℕ → Bool) (f : File) (roots : List ℕ) (p : ℕ) (u : List ℕ) → AreOnce f.pages u
    → AreAsked f roots (asked_by t 0 (verdicts_on f p)) (chains_of (filter (passes t) (outcomes_on f p u)))
some_asked t f roots p u once = with_asked t f roots p (shape_on f p) u once

-- ---- all cells

any : ℕ → Bool
any i = true

all_pass : (os : List Outcome) → filter (passes any) os ≡ os
unfolding any
all_pass [] = refl
all_pass (o ∷ os) = ap (λ (rest : List Outcome). o ∷ rest) (all_pass os)

all_ask : (i : ℕ) (vs : List Verdict) → asked_by any i vs ≡ flat_map overflow_by vs
unfolding any
all_ask i [] = refl
all_ask i (v ∷ vs) = ap (λ (rest : List ℕ). overflow_by v ++ rest) (all_ask (i + 1) vs)

pub page_asked : (f : File) (roots : List ℕ) (p : ℕ) (u : List ℕ) → AreOnce f.pages u
    → AreAsked f roots (overflows_on f p) (chains_of (outcomes_on f p u))
page_asked f roots p u once =
    subst (λ (asked : List ℕ). AreAsked f roots asked (chains_of (outcomes_on f p u))) (all_ask 0 (verdicts_on f p))
    (subst (λ (os : List Outcome). AreAsked f roots (asked_by any 0 (verdicts_on f p)) (chains_of os)) (all_pass (outcomes_on f p u))
    (some_asked any f roots p u once))

pub pages_asked : (f : File) (roots ps u : List ℕ) → AreOnce f.pages u → AreAsked f roots (flat_map (overflows_on f) ps) (chains_on f ps u)
pages_asked f roots [] u once = asked_none f roots []
pages_asked f roots (p ∷ ps) u once =
    asked_append f roots (overflows_on f p) (flat_map (overflows_on f) ps) (chains_of (outcomes_on f p u)) (chains_on f ps (left_by f p u))
    (page_asked f roots p u once) (pages_asked f roots ps (left_by f p u) (once_left f.pages u (chains_of (outcomes_on f p u)) once))
