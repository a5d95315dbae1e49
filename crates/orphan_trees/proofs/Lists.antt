-- Pages that a test keeps, and pages that are left.
use Rattle.std.proofs.Common.{◌≡◌, ◌<◌, ◌≤◌, inl, inr, ℕ, zero, suc, ◌+◌, ◌==◌, Bool, true, false, List, [], ◌∷◌, refl, sym, ◌∙◌, ap, arith}
use Rattle.std.specs.Prelude.{if◌then◌else◌, filter}
use Rattle.std.specs.List.{range_with_len}
use Rattle.std.proofs.lemmas.Bool.{cases_Bool, false≢true}
use Rattle.std.proofs.lemmas.Bool.Decides.{eqb_tells}
use Rattle.page_lists.specs.Lists.{IsPartOf, count, is_in, minus}
use Rattle.page_lists.specs.Table.{is_page}
use Rattle.page_lists.proofs.Counts.{at_most_one, count_in, count_not_in, count-minus, in_from_count, in_or_not, not_in_from_count}
use Rattle.page_walk.specs.Evidence.{AreOnce}
use Rattle.page_walk.proofs.Witness.{fewer_minus}

-- ---- filters of lists

kept_count : (b c d : Bool) (n m : ℕ) → (c ≡ true → b ≡ d) → n ≡ (if d then m else 0)
    → ◌≡◌ {A = ℕ} (if b then (if c then 1 else 0) + n else n) (if d then (if c then 1 else 0) + m else 0)
kept_count true true true n m same e = omega (arith, e)
kept_count true true false n m same e = absurd (false≢true (sym (same refl)))
kept_count true false true n m same e = omega (arith, e)
kept_count true false false n m same e = omega (arith, e)
kept_count false true true n m same e = absurd (false≢true (same refl))
kept_count false true false n m same e = e
kept_count false false true n m same e = omega (arith, e)
kept_count false false false n m same e = e

count_one : (q x : ℕ) (b : Bool) (ys : List ℕ) → count q (if b then x ∷ ys else ys) ≡ (if b then (if x == q then 1 else 0) + count q ys else count q ys)
count_one q x true ys = refl
count_one q x false ys = refl

none_or_none : (b : Bool) → ◌≡◌ {A = ℕ} 0 (if b then 0 else 0)
none_or_none true = refl
none_or_none false = refl

same_test : (t : ℕ → Bool) (q x : ℕ) → (x == q) ≡ true → t x ≡ t q
same_test t q x is =
    elim (eqb_tells x q) [
      | inl w ↦ ap t w.1
      | inr w ↦ absurd (false≢true (sym w.0 ∙ is))
    ]

-- a page stands in a filtered list as often as in the list, where it passes the test
pub count-filter : (t : ℕ → Bool) (q : ℕ) (xs : List ℕ) → count q (filter t xs) ≡ (if t q then count q xs else 0)
count-filter t q [] = none_or_none (t q)
count-filter t q (x ∷ xs) =
    count_one q x (t x) (filter t xs)
    ∙ kept_count (t x) (x == q) (t q) (count q (filter t xs)) (count q xs) (same_test t q x) (count-filter t q xs)

-- one filter after another, in either order
pub filter-swap : (s t : ℕ → Bool) (xs : List ℕ) → filter s (filter t xs) ≡ filter t (filter s xs)
filter-swap s t [] = refl
filter-swap s t (x ∷ xs) =
    elim (cases_Bool (s x)) [
      | inl sx ↦ elim (cases_Bool (t x)) [
        | inl tx ↦ rw (sx, tx) (rw sx (ap (λ (ys : List ℕ). x ∷ ys) (filter-swap s t xs)))
        | inr tx ↦ rw (sx, tx) (filter-swap s t xs)
      ]
      | inr sx ↦ elim (cases_Bool (t x)) [
        | inl tx ↦ rw (sx, tx) (rw sx (filter-swap s t xs))
        | inr tx ↦ rw (sx, tx) (filter-swap s t xs)
      ]
    ]

-- ---- filters of rising pages

pub filter-range : (s t : ℕ → Bool) (a n : ℕ) → ((q : ℕ) → a ≤ q → q < a + n → s q ≡ t q) → filter s (range_with_len a n) ≡ filter t (range_with_len a n)
filter-range s t a zero same = refl
filter-range s t a (suc n) same =
    let later : filter s (range_with_len (a + 1) n) ≡ filter t (range_with_len (a + 1) n) =
    filter-range s t (a + 1) n (λ q low high. same q (omega (arith, low)) (omega (arith, high))) in
    let here : s a ≡ t a = same a (omega arith) (omega arith) in
    elim (cases_Bool (t a)) [
      | inl passes ↦ rw (here, passes) (ap (λ (ys : List ℕ). a ∷ ys) later)
      | inr fails ↦ rw (here, fails) later
    ]

-- all pages pass
pub filter-all : (t : ℕ → Bool) (a n : ℕ) → ((q : ℕ) → a ≤ q → q < a + n → t q ≡ true) → filter t (range_with_len a n) ≡ range_with_len a n
filter-all t a zero all = refl
filter-all t a (suc n) all =
    rw (all a (omega arith) (omega arith))
    (ap (λ (ys : List ℕ). a ∷ ys) (filter-all t (a + 1) n (λ q low high. all q (omega (arith, low)) (omega (arith, high)))))

-- none passes
pub filter-none : (t : ℕ → Bool) (a n : ℕ) → ((q : ℕ) → a ≤ q → q < a + n → t q ≡ false) → filter t (range_with_len a n) ≡ []
filter-none t a zero none = refl
filter-none t a (suc n) none =
    rw (none a (omega arith) (omega arith)) (filter-none t (a + 1) n (λ q low high. none q (omega (arith, low)) (omega (arith, high))))

-- the first that passes
pub filter-first : (t : ℕ → Bool) (a n p : ℕ) → a ≤ p → p < a + n → t p ≡ true → ((q : ℕ) → a ≤ q → q < p → t q ≡ false)
    → (rest : List ℕ) × (filter t (range_with_len a n) ≡ p ∷ rest)
filter-first t a zero p low high is none = absurd (omega (arith, low, high))
filter-first t a (suc n) p low high is none =
    elim (eqb_tells a p) [
      | inl w ↦
          let here : t a ≡ true = ap t w.1 ∙ is in
          (filter t (range_with_len (a + 1) n), rw here (ap (λ (x : ℕ). x ∷ filter t (range_with_len (a + 1) n)) w.1))
      | inr w ↦
          let below : a < p = omega (arith, low, w.1) in
          let later : (rest : List ℕ) × (filter t (range_with_len (a + 1) n) ≡ p ∷ rest) =
          filter-first t (a + 1) n p (omega (arith, below)) (omega (arith, high)) is (λ q from to. none q (omega (arith, from)) to) in
          (later.0, rw (none a (omega arith) below) later.1)
    ]

-- ---- pages of a file

-- unused pages are pages, each once
pub page_of_unused : (n q : ℕ) (unused : List ℕ) → AreOnce n unused → is_in q unused ≡ true → is_page n q ≡ true
page_of_unused n q u once there =
    elim (cases_Bool (is_page n q)) [
      | inl is ↦ is
      | inr isnt ↦ absurd (omega (arith, once q, ap {B = ℕ} (λ (b : Bool). if b then 1 else 0) isnt, count_in q u there))
    ]

pub one_at_most : (n q : ℕ) (unused : List ℕ) → AreOnce n unused → count q unused ≤ 1
one_at_most n q u once = omega (arith, once q, at_most_one (is_page n q))

-- ---- pages that are left

pub once_left : (n : ℕ) (unused ps : List ℕ) → AreOnce n unused → AreOnce n (minus unused ps)
once_left n u ps once q = omega (arith, once q, fewer_minus q u ps)

-- a page that was taken is not left
pub taken_gone : (n q : ℕ) (unused ps : List ℕ) → AreOnce n unused → IsPartOf ps unused → is_in q ps ≡ true → is_in q (minus unused ps) ≡ false
taken_gone n q u ps once part there =
    not_in_from_count q (minus u ps) (omega (arith, count-minus q u ps part, count_in q ps there, one_at_most n q u once))

-- a page that was not taken is unused as before
pub not_taken : (q : ℕ) (unused ps : List ℕ) → IsPartOf ps unused → is_in q ps ≡ false → is_in q (minus unused ps) ≡ is_in q unused
not_taken q u ps part out =
    elim (in_or_not q u) [
      | inl w ↦ in_from_count q (minus u ps) (omega (arith, count-minus q u ps part, count_not_in q ps out, w.1)) ∙ sym w.0
      | inr w ↦ not_in_from_count q (minus u ps) (omega (arith, count-minus q u ps part, w.1)) ∙ sym w.0
    ]

-- what is not unused is not unused later
pub not_back : (q : ℕ) (unused ps : List ℕ) → is_in q unused ≡ false → is_in q (minus unused ps) ≡ false
not_back q u ps out = not_in_from_count q (minus u ps) (omega (arith, fewer_minus q u ps, count_not_in q u out))
