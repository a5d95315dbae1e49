-- The first numbers of each key, in the order of keys: a sort and a dedup give them, and there is one such list.
use Rattle.std.proofs.Common.{◌≡◌, ◌∙◌, ◌⊎◌, ◌≤◌, ◌<◌, inl, inr, refl, sym, ap, subst, ℕ, zero, suc, true, false, List, [], ◌∷◌, length, get_or, arith}
use Rattle.std.specs.Prelude.{⊤}
use Rattle.std.specs.Cmp.{IsTotalOrder}
use Rattle.std.specs.List.{All, AllByRecursion, Contains, dedup, dedup_from, range_with_len}
use Rattle.std.specs.List.Sorted.{IsPermutation, IsSorted, IsStrictlySortedBy}
use Rattle.std.specs.Ordering.{eq_by_cmp, is_eq, is_lt, nat_cmp, ordering_then}
use Rattle.std.specs.declared.cmp.Ordering.{Ordering}
use Rattle.std.specs.declared.cmp.Ordering.TheVariants.{Less, Equal, Greater}
use Rattle.std.proofs.lemmas.Bool.{cond_both, true≢false}
use Rattle.std.proofs.lemmas.Cmp.{nat_cmp_total, then_total, tied_back, tied_itself}
use Rattle.std.proofs.lemmas.List.Elements.{recursion_from_All}
use Rattle.std.proofs.lemmas.List.Filters.{All-dedup}
use Rattle.std.proofs.lemmas.List.FromFn.{get_or-range_with_len, length-range_with_len}
use Rattle.std.proofs.lemmas.List.Kept.{IsStrictlySortedBy-dedup}
use Rattle.std.proofs.lemmas.List.Sorted.{All-permutation, Contains-permutation, ranks_by, sorted_far}
use Rattle.std.proofs.lemmas.Map.Keys.{ge_from_not_lt, sorted_head, sorted_tail}

-- a number that is in a list
abbrev pub Has : List ℕ → ℕ → Type 0
Has [] z = ⊥
Has (x ∷ xs) z = (z ≡ x) ⊎ Has xs z

has_at : (xs : List ℕ) (z k : ℕ) → k < length xs → get_or xs k z ≡ z → Has xs z
has_at [] z k lt e = absurd (omega (arith, lt))
has_at (x ∷ xs) z zero lt e = inl (sym e)
has_at (x ∷ xs) z (suc k) lt e = inr (has_at xs z k (omega arith) e)

pub has_all : (P : ℕ → Type 0) (xs : List ℕ) (z : ℕ) → AllByRecursion P xs → Has xs z → P z
has_all P [] z all h = absurd h
has_all P (x ∷ xs) z all (inl e) = subst P (sym e) all.0
has_all P (x ∷ xs) z all (inr h) = has_all P xs z all.1 h

-- a list has a number that is at most z and that the order does not tell from it
abbrev pub IsLed : (ℕ → ℕ → Ordering) → List ℕ → ℕ → Type 0
IsLed R xs z = (j : ℕ) × Has xs j × (R z j ≡ Equal) × (j ≤ z)

-- of the numbers below n those that an order tells apart, the first of each, as they rise
pub record AreFirsts (R : ℕ → ℕ → Ordering) (n : ℕ) (xs : List ℕ) : Type 0 where
  pub rise : IsStrictlySortedBy R xs
  pub below : AllByRecursion (λ j. j < n) xs
  pub led : (z : ℕ) → z < n → IsLed R xs z

-- by an order, and as numbers where it does not tell apart
abbrev pub by_place : (ℕ → ℕ → Ordering) → ℕ → ℕ → Ordering
by_place R a b = ordering_then (R a b) (nat_cmp a b)

-- no number is before an earlier one
abbrev Rises : (ℕ → ℕ → Ordering) → List ℕ → Type 0
Rises R [] = ⊤
Rises R (x ∷ xs) = AllByRecursion (λ y. is_lt (by_place R y x) ≡ false) xs × Rises R xs

rises_of : (R : ℕ → ℕ → Ordering) (xs : List ℕ)
    → ((i j d : ℕ) → i < j → j < length xs → is_lt (by_place R (get_or xs j d) (get_or xs i d)) ≡ false) → Rises R xs
rises_of R [] far = tt
rises_of R (x ∷ xs) far = (
  recursion_from_All (λ y. is_lt (by_place R y x) ≡ false) xs (λ k d lt. far 0 (suc k) d (omega arith) (omega arith)),
  rises_of R xs (λ i j d low lt. far (suc i) (suc j) d (omega arith) (omega arith)),
)

first_decides : (a b : Ordering) → is_lt (ordering_then a b) ≡ false → is_lt a ≡ false
first_decides Less b e = e
first_decides Equal b e = refl
first_decides Greater b e = e

equal_is : (a : Ordering) → is_eq a ≡ true → a ≡ Equal
equal_is Less e = absurd (true≢false (sym e))
equal_is Equal e = refl
equal_is Greater e = absurd (true≢false (sym e))

module _ {R : ℕ → ℕ → Ordering} (o : IsTotalOrder R) where
  apart : (x y : ℕ) → R x y ≡ Less → R x y ≡ Equal → ⊥
  apart x y less equal = true≢false (ap is_lt (sym less ∙ equal))

  -- ---- there is one such list

  one_of : (xs : List ℕ) → IsStrictlySortedBy R xs → (a b : ℕ) → Has xs a → Has xs b → R a b ≡ Equal → a ≡ b
  one_of [] s a b p q e = absurd p
  one_of (x ∷ xs) s a b (inl p) (inl q) e = p ∙ sym q
  one_of (x ∷ xs) s a b (inl p) (inr q) e =
      absurd (apart x b (has_all (λ y. R x y ≡ Less) xs b (sorted_head R x xs s) q) (ap (λ n. R n b) (sym p) ∙ e))
  one_of (x ∷ xs) s a b (inr p) (inl q) e =
      absurd (apart x a (has_all (λ y. R x y ≡ Less) xs a (sorted_head R x xs s) p) (ap (λ n. R n a) (sym q) ∙ tied_back o a b e))
  one_of (x ∷ xs) s a b (inr p) (inr q) e = one_of xs (sorted_tail R x xs s) a b p q e

  behind : (x y z : ℕ) (xs ys : List ℕ) → x ≡ y → IsStrictlySortedBy R (x ∷ xs) → Has xs z → Has (y ∷ ys) z → Has ys z
  behind x y z xs ys e s h (inr q) = q
  behind x y z xs ys e s h (inl q) =
      absurd (apart x x (subst (λ n. R x n ≡ Less) (q ∙ sym e) (has_all (λ y. R x y ≡ Less) xs z (sorted_head R x xs s) h)) (tied_itself o x))

  heads : (x y : ℕ) (xs ys : List ℕ) → IsStrictlySortedBy R (x ∷ xs) → IsStrictlySortedBy R (y ∷ ys)
      → Has (y ∷ ys) x → Has (x ∷ xs) y → x ≡ y
  heads x y xs ys s t (inl p) q = p
  heads x y xs ys s t (inr p) (inl q) = sym q
  heads x y xs ys s t (inr p) (inr q) =
      absurd (apart x x (o.trans x y x (has_all (λ z. R x z ≡ Less) xs y (sorted_head R x xs s) q)
      (has_all (λ z. R y z ≡ Less) ys x (sorted_head R y ys t) p)) (tied_itself o x))

  same_lists : (xs ys : List ℕ) → IsStrictlySortedBy R xs → IsStrictlySortedBy R ys
      → ((z : ℕ) → Has xs z → Has ys z) → ((z : ℕ) → Has ys z → Has xs z) → xs ≡ ys
  same_lists [] [] s t f g = refl
  same_lists [] (y ∷ ys) s t f g = absurd (g y (inl refl))
  same_lists (x ∷ xs) [] s t f g = absurd (f x (inl refl))
  same_lists (x ∷ xs) (y ∷ ys) s t f g =
      let head : x ≡ y = heads x y xs ys s t (f x (inl refl)) (g y (inl refl)) in
      let tail : xs ≡ ys =
      same_lists xs ys (sorted_tail R x xs s) (sorted_tail R y ys t)
      (λ z h. behind x y z xs ys head s h (f z (inr h))) (λ z h. behind y x z ys xs (sym head) t h (g z (inr h))) in
      λ i. head i ∷ tail i

  has_too : (n : ℕ) (xs ys : List ℕ) → AreFirsts R n xs → AreFirsts R n ys → (z : ℕ) → Has xs z → Has ys z
  has_too n xs ys p q z h =
      let low = q.led z (has_all (λ j. j < n) xs z p.below h) in
      let back = p.led low.0 (has_all (λ j. j < n) ys low.0 q.below low.1) in
      let same : z ≡ back.0 = one_of xs p.rise z back.0 h back.1 (o.congr z low.0 back.0 low.2 ∙ back.2) in
      let is : low.0 ≡ z = omega (arith, low.3, back.3, same) in
      subst (Has ys) is low.1

  pub firsts_same : (n : ℕ) (xs ys : List ℕ) → AreFirsts R n xs → AreFirsts R n ys → xs ≡ ys
  firsts_same n xs ys p q = same_lists xs ys p.rise q.rise (has_too n xs ys p q) (has_too n ys xs q p)

  -- ---- a sort and a dedup give it

  at_most : (x k : ℕ) → R x k ≡ Equal → is_lt (by_place R x k) ≡ false → k ≤ x
  at_most x k tie h = ge_from_not_lt x k (sym (ap (λ r. is_lt (ordering_then r (nat_cmp x k))) tie) ∙ h)

  led_by_itself : (k z : ℕ) (xs : List ℕ) → z ≡ k → IsLed R (k ∷ xs) z
  led_by_itself k z xs e = (k, inl refl, subst (λ n. R z n ≡ Equal) e (tied_itself o z), omega (arith, e))

  led_kept : (xs : List ℕ) (k z : ℕ) → Rises R (k ∷ xs) → Has (k ∷ xs) z → IsLed R (dedup_from (eq_by_cmp R) k xs) z
  led_kept [] k z up (inl e) = led_by_itself k z [] e
  led_kept [] k z up (inr h) = absurd h
  led_kept (x ∷ xs) k z up h =
      cond_both (eq_by_cmp R x k) (dedup_from (eq_by_cmp R) k xs) (k ∷ dedup_from (eq_by_cmp R) x xs) (λ l. IsLed R l z)
      (λ t.
      let tie : R x k ≡ Equal = equal_is (R x k) t in
      let rest : Rises R (k ∷ xs) = (up.0.1, up.1.1) in
      let low : k ≤ x = at_most x k tie up.0.0 in
      elim h [
        | inl e ↦ led_kept xs k z rest (inl e)
        | inr more ↦ elim more [
          | inl e ↦
              let l = led_kept xs k k rest (inl refl) in
              (l.0, l.1, ap (λ n. R n l.0) e ∙ o.congr x k l.0 tie ∙ l.2, omega (arith, l.3, low, e))
          | inr q ↦ led_kept xs k z rest (inr q)
        ]
      ])
      (λ f. elim h [
        | inl e ↦ led_by_itself k z (dedup_from (eq_by_cmp R) x xs) e
        | inr q ↦ let l = led_kept xs x z up.1 q in (l.0, inr l.1, l.2, l.3)
      ])

  led_deduped : (xs : List ℕ) (z : ℕ) → Rises R xs → Has xs z → IsLed R (dedup (eq_by_cmp R) xs) z
  led_deduped [] z up h = absurd h
  led_deduped (x ∷ xs) z up h = led_kept xs x z up h

  pub firsts_sorted : (n : ℕ) (xs : List ℕ) → IsPermutation (range_with_len 0 n) xs → IsSorted (by_place R) xs
      → AreFirsts R n (dedup (eq_by_cmp R) xs)
  firsts_sorted n xs moved sorted =
      let places = then_total o nat_cmp_total in
      let far : (i j d : ℕ) → i < j → j < length xs → is_lt (by_place R (get_or xs j d) (get_or xs i d)) ≡ false =
      λ i j d low lt. sorted_far _ (ranks_by places (λ a. a)) xs sorted i j d (omega arith) lt in
      let all : All (λ j. j < n) (range_with_len 0 n) =
      λ k d lt. omega (arith, get_or-range_with_len 0 n k d (omega (arith, lt, length-range_with_len 0 n)), lt, length-range_with_len 0 n) in
      let there : (z : ℕ) → z < n → Contains xs z =
      λ z lt. Contains-permutation (range_with_len 0 n) xs z moved
      (z, omega (arith, lt, length-range_with_len 0 n), (let at : get_or (range_with_len 0 n) z z ≡ z = omega (arith, get_or-range_with_len 0 n z z lt) in at)) in
      record {
        rise = IsStrictlySortedBy-dedup o (λ x y. refl) xs (λ k d low lt. first_decides _ _ (sorted k d low lt));
        below = recursion_from_All (λ j. j < n) (dedup (eq_by_cmp R) xs)
            (All-dedup (eq_by_cmp R) (λ j. j < n) xs (All-permutation (λ j. j < n) (range_with_len 0 n) xs moved all));
        led = λ z lt. led_deduped xs z (rises_of R xs far) (let c = there z lt in has_at xs z c.0 c.1 c.2);
      }
