-- The pages that a walk has found: those that had their turn to name children, and those that wait for it.
use Rattle.std.proofs.Common.{◌≡◌, ◌<◌, ◌≤◌, ℕ, zero, suc, ◌+◌, ◌-◌, Bool, true, false, Option, Some, None, List, [], ◌∷◌, ◌++◌, length, take, drop, get_or, refl, sym, ◌∙◌, ap, subst, inl, inr, arith, append_assoc, append-nil}
use Rattle.std.proofs.lemmas.Bool.{and_parts, cases_Bool, leb-true}
use Rattle.std.proofs.lemmas.List.{take_more, drop_more, drop_all, take_all, take-append-drop, take-append-le, drop-append-le}
use Rattle.std.proofs.lemmas.List.Elements.{filter_agree}
use Rattle.std.proofs.lemmas.List.FromFn.{get_or-map-range_with_len}
use Rattle.std.specs.List.{AllByRecursion, filter, flat_map}
use Rattle.std.specs.Prelude.{◌&&◌, nat_le, slice_get, ℤ, pos, negsuc, if◌then◌else◌, option_to_list}
use Rattle.page_access.specs.Pages.{File}
use Rattle.page_lists.specs.Lists.{firsts, is_in, minus, without}
use Rattle.page_lists.specs.Table.{is_page}
use Rattle.page_lists.proofs.Counts.{minus-append}
use Rattle.cell_reader.specs.declared.shapes.Kind.{Kind}
use Rattle.overflow_chain.proofs.Turns.{front_is}
use Rattle.page_walk.specs.Kinds.{kind_at}
use Rattle.page_walk.specs.Pointers.{pointers_on}
use Rattle.page_walk.specs.Taking.{is_of_kind}
use Rattle.page_walk.specs.Walk.{children, kind_on, kinds_of, levels_from, page_named, same_kind, walk, walk_from}
use Rattle.page_walk.proofs.Going.{all_append}
use Rattle.page_walk.proofs.Queue.{levels_are_rest, rest_alone, rest_none, rest_of, rest_step}
use Rattle.page_walk.proofs.Trees.{same_kind_tells}

-- pages of the kind
abbrev pub AreOfKind : File → Kind → List ℕ → Type 0
AreOfKind f kind ps = AllByRecursion (λ p. kind_on f p ≡ Some kind) ps

-- the pages found so far, of which `at` had their turn, and those to come are all pages of the walk
pub record Found (f : File) (kind : Kind) (root : ℤ) (unused found : List ℕ) (at : ℕ) : Type 0 where
  pub of_kind : AreOfKind f kind found
  pub rest : take at found ++ rest_of (children f) (minus unused found) (drop at found) ≡ walk f unused root kind

-- the pages of the kind among these numbers, by the kinds of the file
abbrev wanted : File → Kind → List ℕ → List ℕ
wanted f kind qs = filter (is_of_kind (kinds_of f) f.pages kind) qs

-- the kinds have the kind of each page
pub kind_of_page : (f : File) (q : ℕ) → is_page f.pages q ≡ true → kind_at (kinds_of f) q ≡ kind_on f q
unfolding kinds_of
kind_of_page f q page =
    let parts = and_parts (nat_le 1 q) (nat_le q f.pages) page in
    let low : 1 ≤ q = leb-true 1 q parts.0 in
    let high : q ≤ f.pages = leb-true q f.pages parts.1 in
    get_or-map-range_with_len (kind_on f) 1 f.pages (q - 1) q None (omega arith) (omega arith)

-- whether a page is wanted, by its own kind
pub wanted_is : (f : File) (kind : Kind) (q : ℕ)
    → is_of_kind (kinds_of f) f.pages kind q ≡ (is_page f.pages q && same_kind (kind_on f q) (Some kind))
wanted_is f kind q =
    elim (cases_Bool (is_page f.pages q)) [
      | inl so ↦ ap (λ (k : Option Kind). is_page f.pages q && same_kind k (Some kind)) (kind_of_page f q so)
      | inr out ↦ rw out refl
    ]

-- the children of a page of the kind are the pages of the kind that it names
wanted_children : (f : File) (kind : Kind) (p : ℕ) → kind_on f p ≡ Some kind → wanted f kind (pointers_on f p) ≡ children f p
unfolding children
wanted_children f kind p is =
    filter_agree (is_of_kind (kinds_of f) f.pages kind) (λ q. is_page f.pages q && same_kind (kind_on f q) (Some kind))
    (wanted_is f kind) (pointers_on f p)
    ∙ ap (λ (k : Option Kind). filter (λ q. is_page f.pages q && same_kind (kind_on f q) k) (pointers_on f p)) (sym is)

-- all wanted pages are of the kind
wanted_of_kind : (f : File) (kind : Kind) (qs : List ℕ) → AreOfKind f kind (wanted f kind qs)
wanted_of_kind f kind [] = tt
wanted_of_kind f kind (q ∷ qs) = by_test (is_of_kind (kinds_of f) f.pages kind q) refl (wanted_of_kind f kind qs)
  where
    by_test : (b : Bool) → is_of_kind (kinds_of f) f.pages kind q ≡ b → AreOfKind f kind (wanted f kind qs)
        → AreOfKind f kind (if b then q ∷ wanted f kind qs else wanted f kind qs)
    by_test true so rest = (
      same_kind_tells (kind_on f q) (Some kind)
          (and_parts (is_page f.pages q) (same_kind (kind_on f q) (Some kind)) (sym (wanted_is f kind q) ∙ so)).1,
      rest,
    )
    by_test false out rest = rest

-- what holds of each page of a list holds of the first occurrences
all_firsts : (P : ℕ → Type 0) (unused qs : List ℕ) → AllByRecursion P qs → AllByRecursion P (firsts unused qs)
all_firsts P unused [] h = tt
all_firsts P unused (q ∷ qs) h =
    elim (is_in q unused) as (λ b. AllByRecursion P (if b then q ∷ firsts (without q unused) qs else firsts unused qs)) [
      | true ↦ (h.0, all_firsts P (without q unused) qs h.1)
      | false ↦ all_firsts P unused qs h.1
    ]

-- what holds of each page of a list holds of the one at a place
all_at : (P : ℕ → Type 0) (xs : List ℕ) (i d : ℕ) → i < length xs → AllByRecursion P xs → P (get_or xs i d)
all_at P [] i d lt h = absurd (omega (arith, lt))
all_at P (x ∷ xs) zero d lt h = h.0
all_at P (x ∷ xs) (suc i) d lt h = all_at P xs i d (omega (arith, lt)) h.1

-- a number names a page of the file
named_page : (n : ℕ) (root : ℤ) (r : ℕ) → page_named n root ≡ Some r → is_page n r ≡ true
named_page n (pos q) r e = by_test (is_page n q) refl e
  where
    by_test : (b : Bool) → is_page n q ≡ b → (if b then Some q else None) ≡ Some r → is_page n r ≡ true
    by_test true so same = let is : q ≡ r = cc in ap (is_page n) (sym is) ∙ so
    by_test false out same = absurd cc
named_page n (negsuc q) r e = absurd cc

-- no page, where the walk has none
found_none : (f : File) (kind : Kind) (root : ℤ) (unused : List ℕ) → walk f unused root kind ≡ []
    → Found f kind root unused [] 0
found_none f kind root unused none = record { of_kind = tt; rest = rest_none (children f) unused ∙ sym none }

-- the root alone, where it may be one
found_root : (f : File) (kind : Kind) (root : ℤ) (unused : List ℕ) (r : ℕ) → page_named f.pages root ≡ Some r
    → Found f kind root unused (firsts unused (wanted f kind (r ∷ []))) 0
unfolding walk
found_root f kind root unused r named =
    subst (λ (b : Bool). Found f kind root unused (firsts unused (if b then r ∷ [] else [])) 0) (sym here)
    (by_kind (same_kind (kind_on f r) (Some kind)) refl)
  where
    here : is_of_kind (kinds_of f) f.pages kind r ≡ same_kind (kind_on f r) (Some kind)
    here =
        wanted_is f kind r
        ∙ ap (λ (b : Bool). b && same_kind (kind_on f r) (Some kind)) (named_page f.pages root r named)

    is : (b c : Bool) → is_in r unused ≡ b → same_kind (kind_on f r) (Some kind) ≡ c
        → walk f unused root kind ≡ (if b && c then levels_from (children f) unused r else [])
    is b c e k =
        ap (walk_from f unused kind) named
        ∙ ap (λ (d : Bool). if d && same_kind (kind_on f r) (Some kind) then levels_from (children f) unused r else []) e
        ∙ ap (λ (d : Bool). if b && d then levels_from (children f) unused r else []) k

    by_use : (b : Bool) → is_in r unused ≡ b → same_kind (kind_on f r) (Some kind) ≡ true
        → Found f kind root unused (if b then r ∷ [] else []) 0
    by_use true there k = record {
      of_kind = (same_kind_tells (kind_on f r) (Some kind) k, tt);
      rest = sym (levels_are_rest (children f) unused r there) ∙ sym (is true true there k);
    }
    by_use false out k = found_none f kind root unused (is false true out k)

    by_kind : (c : Bool) → same_kind (kind_on f r) (Some kind) ≡ c
        → Found f kind root unused (firsts unused (if c then r ∷ [] else [])) 0
    by_kind true k = by_use (is_in r unused) refl k
    by_kind false k =
        elim (cases_Bool (is_in r unused)) [
          | inl there ↦ found_none f kind root unused (is true false there k)
          | inr out ↦ found_none f kind root unused (is false false out k)
        ]

-- before the first page had its turn
pub found_start : (f : File) (kind : Kind) (root : ℤ) (unused : List ℕ) (named : Option ℕ) → page_named f.pages root ≡ named
    → Found f kind root unused (firsts unused (wanted f kind (option_to_list named))) 0
unfolding walk
found_start f kind root unused None none = found_none f kind root unused (ap (walk_from f unused kind) none)
found_start f kind root unused (Some r) some = found_root f kind root unused r some

-- one more page had its turn
pub found_more : (f : File) (kind : Kind) (root : ℤ) (unused found : List ℕ) (at d : ℕ) → at < length found
    → Found f kind root unused found at
    → Found f kind root unused (found ++ firsts (minus unused found) (wanted f kind (pointers_on f (get_or found at d)))) (at + 1)
found_more f kind root unused found at d lt was =
    let below = children f in
    let p : ℕ = get_or found at d in
    let left : List ℕ = minus unused found in
    let more : List ℕ = firsts left (wanted f kind (pointers_on f p)) in
    let has : kind_on f p ≡ Some kind = all_at (λ q. kind_on f q ≡ Some kind) found at d lt was.of_kind in
    let same : more ≡ firsts left (below p) = ap (firsts left) (wanted_children f kind p has) in
    let passed : take (at + 1) (found ++ more) ≡ take at found ++ p ∷ [] =
    take-append-le (at + 1) found more (omega (arith, lt)) ∙ take_more found at d lt in
    let waiting : drop (at + 1) (found ++ more) ≡ drop (at + 1) found ++ more =
    drop-append-le (at + 1) found more (omega (arith, lt)) in
    let turn : rest_of below left (drop at found) ≡ p ∷ rest_of below (minus left more) (drop (at + 1) found ++ more) =
    ap (rest_of below left) (drop_more found at d lt)
    ∙ rest_step below left p (drop (at + 1) found)
    ∙ ap (λ (xs : List ℕ). p ∷ rest_of below (minus left xs) (drop (at + 1) found ++ xs)) (sym same) in
    record {
      of_kind = all_append (λ q. kind_on f q ≡ Some kind) found more was.of_kind
          (all_firsts (λ q. kind_on f q ≡ Some kind) left _ (wanted_of_kind f kind (pointers_on f p)));
      rest = ap (λ (u : List ℕ). take (at + 1) (found ++ more) ++ rest_of below u (drop (at + 1) (found ++ more))) (minus-append unused found more)
          ∙ ap (λ (xs : List ℕ). xs ++ rest_of below (minus left more) (drop (at + 1) (found ++ more))) passed
          ∙ ap (λ (xs : List ℕ). (take at found ++ p ∷ []) ++ rest_of below (minus left more) xs) waiting
          ∙ append_assoc (take at found) (p ∷ []) (rest_of below (minus left more) (drop (at + 1) found ++ more))
          ∙ ap (λ (xs : List ℕ). take at found ++ xs) (sym turn)
          ∙ was.rest;
    }

-- all pages had their turn
pub found_all : (f : File) (kind : Kind) (root : ℤ) (unused found : List ℕ) (at : ℕ) → length found ≤ at
    → Found f kind root unused found at → found ≡ walk f unused root kind
found_all f kind root unused found at end was =
    sym (take_all at found end)
    ∙ sym (append-nil (take at found))
    ∙ ap (λ (xs : List ℕ). take at found ++ xs) (sym (rest_none (children f) (minus unused found)))
    ∙ ap (λ (xs : List ℕ). take at found ++ rest_of (children f) (minus unused found) xs) (sym (drop_all at found end))
    ∙ was.rest

-- where a page is found, there are pages of the walk
pub found_some : (f : File) (kind : Kind) (root : ℤ) (unused found : List ℕ) (at first : ℕ) → slice_get found 0 ≡ Some first
    → Found f kind root unused found at → walk f unused root kind ≡ [] → ⊥
found_some f kind root unused [] at first e was none = absurd cc
found_some f kind root unused (x ∷ xs) zero first e was none =
    let left : List ℕ = minus unused (x ∷ xs) in
    let some : x ∷ rest_of (children f) (minus left (firsts left (children f x))) (xs ++ firsts left (children f x)) ≡ [] =
    sym (rest_step (children f) left x xs) ∙ was.rest ∙ none in
    cc
found_some f kind root unused (x ∷ xs) (suc at) first e was none =
    let some : x ∷ (take at xs ++ rest_of (children f) (minus unused (x ∷ xs)) (drop at xs)) ≡ [] = was.rest ∙ none in
    cc

-- they are a front of the walk
pub found_front : (f : File) (kind : Kind) (root : ℤ) (unused found : List ℕ) (at : ℕ) → Found f kind root unused found at
    → found ≡ take (length found) (walk f unused root kind)
found_front f kind root unused found at was =
    let left : List ℕ = minus unused found in
    let more : List ℕ = firsts left (flat_map (children f) (drop at found)) in
    let later : List ℕ = rest_of (children f) (minus left more) more in
    let all : found ++ later ≡ walk f unused root kind =
    ap (λ (xs : List ℕ). xs ++ later) (sym (take-append-drop at found))
    ∙ append_assoc (take at found) (drop at found) later
    ∙ ap (λ (xs : List ℕ). take at found ++ xs) (sym (rest_alone (children f) (drop at found) left))
    ∙ was.rest in
    front_is found later (walk f unused root kind) all
