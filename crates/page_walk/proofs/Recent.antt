-- The pages that a cache has after a survey: those asked for last stand first.
use Rattle.std.proofs.Common.{◌≡◌, ◌≤◌, ◌<◌, inl, inr, ℕ, zero, suc, ◌+◌, ◌-◌, nat_eq, Option, Some, None, Result, Ok, OnOk, List, [], ◌∷◌, take, refl, sym, ◌∙◌, subst, arith}
use Rattle.std.specs.Prelude.{is_some, IsTrue}
use Rattle.std.specs.Map.{lookup, remove_entry}
use Rattle.std.proofs.lemmas.Bool.{ne_eqb}
use Rattle.std.proofs.lemmas.Bool.Decides.{eqb_tells}
use Rattle.page_access.specs.Cache.{Cache, HasAll, IsHit, added, found}

-- the first i pairs are those of pages i, i - 1 .. 1
abbrev pub Recent : ℕ → List (ℕ × List ℕ) → Type 0
Recent zero es = Unit {0}
Recent (suc i) [] = ⊥
Recent (suc i) (e ∷ es) = (e.0 ≡ suc i) × Recent i es

recent_removed : (i p : ℕ) (es : List (ℕ × List ℕ)) → i < p → Recent i es → Recent i (remove_entry (nat_eq p) es)
recent_removed zero p es lt was = tt
recent_removed (suc i) p [] lt was = was
recent_removed (suc i) p (e ∷ es) lt was =
    rw (ne_eqb p e.0 (λ same. omega (arith, same, was.0, lt))) (was.0, recent_removed i p es (omega (arith, lt)) was.1)

recent_taken : (i n : ℕ) (es : List (ℕ × List ℕ)) → i ≤ n → Recent i es → Recent i (take n es)
recent_taken zero n es le was = tt
recent_taken (suc i) n [] le was = absurd was
recent_taken (suc i) zero (e ∷ es) le was = absurd (omega (arith, le))
recent_taken (suc i) (suc n) (e ∷ es) le was = (was.0, recent_taken i n es (omega (arith, le)) was.1)

recent_found : (i q : ℕ) (es : List (ℕ × List ℕ)) → Recent i es → 1 ≤ q → q ≤ i → IsTrue (is_some (lookup (nat_eq q) es))
recent_found zero q es was low high = absurd (omega (arith, low, high))
recent_found (suc i) q [] was low high = absurd was
recent_found (suc i) q (e ∷ es) was low high =
    elim (eqb_tells q e.0) [
      | inl w ↦ rw w.0 refl
      | inr w ↦ rw w.0 (recent_found i q es was.1 low (by_not q i e.0 w.1 was.0 high))
    ]
  where
    by_not : (q i k : ℕ) → (q ≡ k → ⊥) → k ≡ suc i → q ≤ suc i → q ≤ i
    by_not q i k apart is high = omega (arith, λ (e : q ≡ suc i). apart (e ∙ sym is), high)

-- one page more was asked for
pub recent_more : {E : Type 0} (r : Result Unit E) (i p : ℕ) (to : List ℕ) (c c' : Cache) → p ≡ i + 1 → i + 1 ≤ c.slots → Recent i c.pairs
    → (IsTrue (is_some (found p c)) → IsHit p to r c c') → (found p c ≡ None → OnOk r (c' ≡ added p to c)) → r ≡ Ok tt → Recent (i + 1) c'.pairs
recent_more r i p to c c' is room was hit miss ok = by_found (found p c) refl
  where
    next : suc i ≡ i + 1
    next = omega arith

    by_found : (o : Option (List ℕ)) → found p c ≡ o → Recent (i + 1) c'.pairs
    by_found None none =
        let new : c' ≡ added p to c = subst (λ (x : Result Unit _). OnOk x (c' ≡ added p to c)) ok (miss none) in
        subst (λ (n : ℕ). Recent n c'.pairs) next
        (subst (λ (x : Cache). Recent (suc i) x.pairs) (sym new) (omega (arith, is), recent_taken i (c.slots - 1) c.pairs (omega (arith, room)) was))
    by_found (Some bytes) there =
        let new = (hit (subst (λ (o : Option (List ℕ)). IsTrue (is_some o)) (sym there) refl)).first in
        subst (λ (n : ℕ). Recent n c'.pairs) next
        (subst (λ (x : Cache). Recent (suc i) x.pairs) (sym new) (omega (arith, is), recent_removed i p c.pairs (omega (arith, is)) was))

-- all pages were asked for
pub recent_all : (i : ℕ) (c : Cache) → i ≡ c.pages → Recent i c.pairs → HasAll c
recent_all i c is was q low high = recent_found i q c.pairs was low (omega (arith, high, is))
