-- What the links spell: neighbours of pages, and the lists that a walk along them gives.
use Rattle.std.proofs.Common.{◌≡◌, ◌⊎◌, inl, inr, ℕ, zero, suc, ◌+◌, ◌<◌, ◌≤◌, ◌==◌, Option, Some, None, List, [], ◌∷◌, length, map, get_or, slice_get, true, false, refl, sym, ap, subst, arith, length-append}
use Rattle.std.specs.Prelude.{◌^◌, ◌-◌, if◌then◌else◌, unwrap_or}
use Rattle.std.specs.List.{concat}
use Rattle.std.proofs.lemmas.Bool.Decides.{eqb_tells}
use Rattle.page_lists.specs.Lists.{after, count, is_in}
use Rattle.page_lists.specs.Table.{Table, is_page, list_at, owner}
use Rattle.page_lists.specs.declared.rings.Ends.{Ends}
use Rattle.page_lists.specs.Rings.{State, ends_at, link_at, some_page, spelled}
use Rattle.page_lists.specs.Stored.{IsLinked, Spells}
use Rattle.page_lists.proofs.Counts.{count-append, in_from_count, in_or_not}
use Rattle.page_lists.proofs.Joins.{next_of}
use Rattle.page_lists.proofs.Moves.{stands_once}
use Rattle.page_lists.proofs.Steps.{follow_is, stepped_from}
use Rattle.page_lists.proofs.Uses.{count-list_at, page_at_most}

-- a page that some list has is in the list that its owner is
pub owner_has : (p : ℕ) (lists : List (List ℕ)) → 1 ≤ count p (concat lists) → 1 ≤ count p (list_at (owner p lists) lists)
owner_has p [] h = absurd (omega (arith, h))
owner_has p (xs ∷ lists) h =
    elim (in_or_not p xs) [
      | inl w ↦ rw w.0 w.1
      | inr w ↦ rw w.0 (owner_has p lists (omega (arith, h, count-append p xs (concat lists), w.1)))
    ]

pub length_at : (k : ℕ) (lists : List (List ℕ)) → length (list_at k lists) ≤ length (concat lists)
length_at k [] = omega arith
length_at zero (xs ∷ lists) = omega (arith, length-append xs (concat lists))
length_at (suc k) (xs ∷ lists) = omega (arith, length-append xs (concat lists), length_at k lists)

-- it is in no other list
pub only_owner : (p k : ℕ) (lists : List (List ℕ)) → count p (concat lists) ≤ 1 → 1 ≤ count p (list_at k lists) → k ≡ owner p lists
only_owner p k [] few there = absurd (omega (arith, there))
only_owner p zero (xs ∷ lists) few there = rw (in_from_count p xs there) refl
only_owner p (suc k) (xs ∷ lists) few there =
    elim (in_or_not p xs) [
      | inl w ↦ absurd (omega (arith, count-append p xs (concat lists), count-list_at p k lists, w.1, there, few))
      | inr w ↦ rw w.0 (ap (λ (n : ℕ). suc n) (only_owner p k lists (omega (arith, count-append p xs (concat lists), few)) there))
    ]

-- lists that hold each page once at most, and the links along them
pub record Holds (r : State) (n : ℕ) (lists : List (List ℕ)) : Type 0 where
  pub once : (q : ℕ) → count q (concat lists) ≤ 1
  pub inside : (q : ℕ) → 1 ≤ count q (concat lists) → (1 ≤ q) × (q ≤ n)
  pub total : length (concat lists) ≤ n
  pub small : n < 2 ^ 32 - 1
  pub size : length r.links ≡ n + 1
  pub same : length r.ends ≡ length lists
  pub linked : (l : ℕ) → IsLinked r l (list_at l lists)
  pub lens : (l : ℕ) → length (list_at l lists) ≡ (ends_at r l).len

pub holds : (r : State) (t : Table) → Spells r t → Holds r t.pages t.lists
holds r t s = record {
  once = λ q. few q (s.each q);
  inside = λ q some. page_at_most t q s.each some;
  total = omega (arith, s.total);
  small = s.small;
  size = s.size;
  same = s.same;
  linked = s.linked;
  lens = s.lens;
}
  where
    few : (q : ℕ) → count q (concat t.lists) ≡ (if is_page t.pages q then 1 else 0) → count q (concat t.lists) ≤ 1
    few q e = elim (is_page t.pages q) as (λ b. count q (concat t.lists) ≡ (if b then 1 else 0) → count q (concat t.lists) ≤ 1)
        [ true ↦ λ w. omega (arith, w) | false ↦ λ w. omega (arith, w) ] e

-- no list has 0
pub no_zero : (r : State) (n l : ℕ) (lists : List (List ℕ)) → Holds r n lists → count 0 (list_at l lists) ≡ 0
no_zero r n l lists h =
    elim (in_or_not 0 (list_at l lists)) [
      | inl w ↦ absurd (omega (arith, (h.inside 0 (omega (arith, w.1, count-list_at 0 l lists))).0))
      | inr w ↦ w.1
    ]

-- a neighbour in a list is 0 or a page
pub few_step : (r : State) (n l q : ℕ) (lists : List (List ℕ)) → Holds r n lists → (q ≡ 0) ⊎ (1 ≤ count q (list_at l lists)) → q < length r.links
few_step r n l q lists h (inl e) = omega (arith, e, h.size)
few_step r n l q lists h (inr some) = omega (arith, (h.inside q (omega (arith, some, count-list_at q l lists))).1, h.size)

-- what each list is, read along the links
spelled_at : (r : State) (l : ℕ) (xs : List ℕ) → IsLinked r l xs → length xs ≡ (ends_at r l).len → spelled r (ends_at r l) ≡ xs
spelled_at r l xs linked len =
    rw (sym len) (follow_is (λ a. next_of r l a) 0 xs (λ a b s. (linked a b s).0))

each_spelled : (f : Ends → List ℕ) (none : Ends) (ends : List Ends) (lists : List (List ℕ)) → length ends ≡ length lists
    → ((l : ℕ) → f (get_or ends l none) ≡ list_at l lists) → map f ends ≡ lists
each_spelled f none [] [] e same = refl
each_spelled f none [] (xs ∷ lists) e same = absurd (omega (arith, e))
each_spelled f none (x ∷ ends) [] e same = absurd (omega (arith, e))
each_spelled f none (x ∷ ends) (xs ∷ lists) e same =
    rw (same 0) (ap (λ (rest : List (List ℕ)). xs ∷ rest) (each_spelled f none ends lists (omega (arith, e)) (λ l. same (suc l))))

pub all_spelled : (r : State) (t : Table) → Spells r t → map (spelled r) r.ends ≡ t.lists
all_spelled r t s =
    each_spelled (spelled r) (record { first = 0; last = 0; len = 0 }) r.ends t.lists s.same (λ l. spelled_at r l (list_at l t.lists) (s.linked l) (s.lens l))

one_more : (q x n : ℕ) (xs : List ℕ) → n ≤ count q xs → n ≤ count q (x ∷ xs)
one_more q x n xs h = omega (arith, h)

head_there : (q : ℕ) (xs : List ℕ) → slice_get xs 0 ≡ Some q → 1 ≤ count q xs
head_there q [] h = absurd (cc)
head_there q (x ∷ xs) h = let same : x ≡ q = cc in elim (eqb_tells x q) [ inl w ↦ rw w.0 (omega arith) | inr w ↦ absurd (w.1 same) ]

-- what comes after a page stands in the list
after_there : (p q : ℕ) (xs : List ℕ) → after p xs ≡ Some q → 1 ≤ count q xs
after_there p q [] h = absurd (cc)
after_there p q (x ∷ xs) h =
    elim (eqb_tells x p) [
      | inl w ↦ one_more q x 1 xs (head_there q xs (rw w.0 at h))
      | inr w ↦ one_more q x 1 xs (after_there p q xs (rw w.0 at h))
    ]

not_zero : (q : ℕ) → 1 ≤ q → (q == 0) ≡ false
not_zero q low = elim (eqb_tells q 0) [ inl w ↦ absurd (omega (arith, w.1, low)) | inr w ↦ w.0 ]

-- the page after a page
pub link_after : (r : State) (t : Table) (p : ℕ) → Spells r t → 1 ≤ p → p ≤ t.pages
    → some_page (link_at r p).after ≡ after p (list_at (owner p t.lists) t.lists)
link_after r t p s low high =
    let xs : List ℕ = list_at (owner p t.lists) t.lists in
    let there : is_in p xs ≡ true = in_from_count p xs (owner_has p t.lists (omega (arith, stands_once t p s.each low high))) in
    let next : next_of r (owner p t.lists) p ≡ unwrap_or (after p xs) 0 =
    (s.linked (owner p t.lists) p (unwrap_or (after p xs) 0) (stepped_from p 0 xs there)).0 in
    by_next (after p xs) refl (rw (not_zero p low) at next)
  where
    by_next : (o : Option ℕ) → after p (list_at (owner p t.lists) t.lists) ≡ o → (link_at r p).after ≡ unwrap_or o 0 → some_page (link_at r p).after ≡ o
    by_next None is e = rw e refl
    by_next (Some q) is e =
        let some = after_there p q (list_at (owner p t.lists) t.lists) is in
        rw (e, not_zero q (page_at_most t q s.each (omega (arith, some, count-list_at q (owner p t.lists) t.lists))).0) refl

-- the first page of a list
pub first_is : (r : State) (t : Table) (l : ℕ) → Spells r t → some_page (ends_at r l).first ≡ slice_get (list_at l t.lists) 0
first_is r t l s = by_list (list_at l t.lists) refl
  where
    by_list : (xs : List ℕ) → list_at l t.lists ≡ xs → some_page (ends_at r l).first ≡ slice_get xs 0
    by_list [] e =
        let none : (ends_at r l).first ≡ 0 = (subst (λ (xs : List ℕ). IsLinked r l xs) e (s.linked l) 0 0 (refl, refl)).0 in
        rw none refl
    by_list (y ∷ ys) e =
        let one : (ends_at r l).first ≡ y = (subst (λ (xs : List ℕ). IsLinked r l xs) e (s.linked l) 0 y (inl (refl, refl))).0 in
        let some : 1 ≤ count y (list_at l t.lists) = rw e (elim (eqb_tells y y) [ inl w ↦ rw w.0 (omega arith) | inr w ↦ absurd (w.1 refl) ]) in
        let page : (y == 0) ≡ false = not_zero y (page_at_most t y s.each (omega (arith, some, count-list_at y l t.lists))).0 in
        rw (one, page) refl
