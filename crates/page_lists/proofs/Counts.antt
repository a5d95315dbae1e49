-- How often a page stands in a list, before and after pages were taken out.
use Rattle.std.proofs.Common.{◌≡◌, ℕ, ◌+◌, ◌≤◌, ◌⊎◌, Bool, true, false, ◌||◌, ◌==◌, if◌then◌else◌, List, [], ◌∷◌, ◌++◌, length, refl, sym, ap, ◌∙◌, inl, inr, arith, length-append}
use Rattle.std.proofs.lemmas.Bool.{false≢true, or_parts, eq-eqb, ne_eqb}
use Rattle.std.proofs.lemmas.Bool.Decides.{eqb_tells}
use Rattle.page_lists.specs.Lists.{IsPartOf, is_in, count, without, firsts, minus}

-- a number for each list, which adds up where lists are joined
pub record IsMeasure (m : List ℕ → ℕ) : Type 0 where
  pub none : m [] ≡ 0
  pub append : (xs ys : List ℕ) → m (xs ++ ys) ≡ m xs + m ys

pub count-append : (q : ℕ) (xs ys : List ℕ) → count q (xs ++ ys) ≡ count q xs + count q ys
count-append q [] ys = omega arith
count-append q (x ∷ xs) ys = omega (arith, count-append q xs ys)

-- a test counts once at most
pub at_most_one : (b : Bool) → (if b then 1 else 0) ≤ 1
at_most_one true = omega arith
at_most_one false = omega arith

-- how often q stands in a list is such a number
pub counts : (q : ℕ) → IsMeasure (count q)
counts q = record { none = refl; append = count-append q }

-- so is the length
pub lengths : IsMeasure (λ (xs : List ℕ). length xs)
lengths = record { none = refl; append = length-append }

-- whether a page is there, beside how often it is
abbrev Agree : Bool → ℕ → Type 0
Agree there n = ((there ≡ true) × (1 ≤ n)) ⊎ ((there ≡ false) × (n ≡ 0))

agree_more : (b there : Bool) (n : ℕ) → Agree there n → Agree (b || there) ((if b then 1 else 0) + n)
agree_more true there n h = inl (refl, omega arith)
agree_more false there n (inl h) = inl (h.0, omega (arith, h.1))
agree_more false there n (inr h) = inr (h.0, omega (arith, h.1))

pub in_or_not : (q : ℕ) (xs : List ℕ) → ((is_in q xs ≡ true) × (1 ≤ count q xs)) ⊎ ((is_in q xs ≡ false) × (count q xs ≡ 0))
in_or_not q [] = inr (refl, refl)
in_or_not q (x ∷ xs) = agree_more (x == q) (is_in q xs) (count q xs) (in_or_not q xs)

pub count_in : (q : ℕ) (xs : List ℕ) → is_in q xs ≡ true → 1 ≤ count q xs
count_in q xs h = elim (in_or_not q xs) [ inl w ↦ w.1 | inr w ↦ absurd (false≢true (sym w.0 ∙ h)) ]

pub count_not_in : (q : ℕ) (xs : List ℕ) → is_in q xs ≡ false → count q xs ≡ 0
count_not_in q xs h = elim (in_or_not q xs) [ inl w ↦ absurd (false≢true (sym h ∙ w.0)) | inr w ↦ w.1 ]

pub in_from_count : (q : ℕ) (xs : List ℕ) → 1 ≤ count q xs → is_in q xs ≡ true
in_from_count q xs h = elim (in_or_not q xs) [ inl w ↦ w.0 | inr w ↦ absurd (omega (arith, h, w.1)) ]

pub not_in_from_count : (q : ℕ) (xs : List ℕ) → count q xs ≡ 0 → is_in q xs ≡ false
not_in_from_count q xs h = elim (in_or_not q xs) [ inl w ↦ absurd (omega (arith, h, w.1)) | inr w ↦ w.0 ]

-- what is in a part is in the whole
pub in_part : (q : ℕ) (ps all : List ℕ) → IsPartOf ps all → is_in q ps ≡ true → is_in q all ≡ true
in_part q ps all part h = in_from_count q all (omega (arith, part q, count_in q ps h))

pub without_not_in : (p : ℕ) (xs : List ℕ) → is_in p xs ≡ false → without p xs ≡ xs
without_not_in p [] h = refl
without_not_in p (x ∷ xs) h =
    let both = or_parts (x == p) (is_in p xs) h in
    rw both.0 (ap (λ (ys : List ℕ). x ∷ ys) (without_not_in p xs both.1))

-- taking a page out takes its part of the measure
pub measure-without : (m : List ℕ → ℕ) → IsMeasure m → (p : ℕ) (xs : List ℕ) → is_in p xs ≡ true → m (without p xs) + m (p ∷ []) ≡ m xs
measure-without m is p [] h = absurd (false≢true h)
measure-without m is p (x ∷ xs) h =
    elim (eqb_tells x p) [
      | inl w ↦ rw w.0 (rw w.1 (omega (arith, is.append (p ∷ []) xs)))
      | inr w ↦
          let there : is_in p xs ≡ true = rw w.0 at h in
          rw w.0 (omega (arith, measure-without m is p xs there, is.append (x ∷ []) xs, is.append (x ∷ []) (without p xs)))
    ]

pub count-without : (q p : ℕ) (xs : List ℕ) → is_in p xs ≡ true → count q (without p xs) + (if p == q then 1 else 0) ≡ count q xs
count-without q p xs h = omega (arith, measure-without (count q) (counts q) p xs h)

pub length-without : (p : ℕ) (xs : List ℕ) → is_in p xs ≡ true → length (without p xs) + 1 ≡ length xs
length-without p xs h = omega (arith, measure-without (λ (ys : List ℕ). length ys) lengths p xs h)

-- a page, and no other, is gone
pub count-without-other : (q p : ℕ) (xs : List ℕ) → (p ≡ q → ⊥) → count q (without p xs) ≡ count q xs
count-without-other q p xs apart =
    elim (in_or_not p xs) [
      | inl w ↦
          let no : (p == q) ≡ false = ne_eqb p q apart in
          let k : count q (without p xs) + (if p == q then 1 else 0) ≡ count q xs = count-without q p xs w.0 in
          let k' : count q (without p xs) + 0 ≡ count q xs = rw no at k in
          omega (arith, k')
      | inr w ↦ rw (without_not_in p xs w.0) refl
    ]

pub is_in-without-other : (q p : ℕ) (xs : List ℕ) → (p ≡ q → ⊥) → is_in q (without p xs) ≡ is_in q xs
is_in-without-other q p xs apart =
    elim (in_or_not q xs) [
      | inl w ↦ in_from_count q (without p xs) (omega (arith, count-without-other q p xs apart, w.1)) ∙ sym w.0
      | inr w ↦ not_in_from_count q (without p xs) (omega (arith, count-without-other q p xs apart, w.1)) ∙ sym w.0
    ]

pub is_in-append : (q : ℕ) (xs ys : List ℕ) → is_in q (xs ++ ys) ≡ (is_in q xs || is_in q ys)
is_in-append q [] ys = refl
is_in-append q (x ∷ xs) ys = elim (x == q) as (λ b. (b || is_in q (xs ++ ys)) ≡ ((b || is_in q xs) || is_in q ys)) [ true ↦ refl | false ↦ is_in-append q xs ys ]

pub in_head : (q : ℕ) (qs : List ℕ) → is_in q (q ∷ qs) ≡ true
in_head q qs = rw (eq-eqb q q refl) refl

-- the pages of a part, and what is left without them
pub part_rest : (p : ℕ) (ps all : List ℕ) → IsPartOf (p ∷ ps) all → IsPartOf ps (without p all)
part_rest p ps all part q =
    omega (arith, part q, count-without q p all (in_part p (p ∷ ps) all part (in_head p ps)))

pub measure-minus : (m : List ℕ → ℕ) → IsMeasure m → (all ps : List ℕ) → IsPartOf ps all → m (minus all ps) + m ps ≡ m all
measure-minus m is all [] part = omega (arith, is.none)
measure-minus m is all (p ∷ ps) part =
    let there : is_in p all ≡ true = in_part p (p ∷ ps) all part (in_head p ps) in
    omega (arith, measure-minus m is (without p all) ps (part_rest p ps all part), measure-without m is p all there, is.append (p ∷ []) ps)

pub count-minus : (q : ℕ) (all ps : List ℕ) → IsPartOf ps all → count q (minus all ps) + count q ps ≡ count q all
count-minus q = measure-minus (count q) (counts q)

pub length-minus : (all ps : List ℕ) → IsPartOf ps all → length (minus all ps) + length ps ≡ length all
length-minus = measure-minus (λ (ys : List ℕ). length ys) lengths

pub minus-append : (all ps qs : List ℕ) → minus all (ps ++ qs) ≡ minus (minus all ps) qs
minus-append all [] qs = refl
minus-append all (p ∷ ps) qs = minus-append (without p all) ps qs

-- a part, and a part of what is left, are a part together
pub part_append : (all ps qs : List ℕ) → IsPartOf ps all → IsPartOf qs (minus all ps) → IsPartOf (ps ++ qs) all
part_append all ps qs first more q = omega (arith, count-append q ps qs, count-minus q all ps first, more q)

pub part_none : (all : List ℕ) → IsPartOf [] all
part_none all q = omega arith

pub part_one : (p : ℕ) (all : List ℕ) → is_in p all ≡ true → IsPartOf (p ∷ []) all
part_one p all h q = omega (arith, count-without q p all h)

-- what is taken of the unused pages was there
pub firsts_part : (unused qs : List ℕ) → IsPartOf (firsts unused qs) unused
firsts_part unused [] q = omega arith
firsts_part unused (p ∷ qs) q =
    elim (in_or_not p unused) [
      | inl w ↦ rw w.0 (omega (arith, firsts_part (without p unused) qs q, count-without q p unused w.0))
      | inr w ↦ rw w.0 (firsts_part unused qs q)
    ]

-- each number is taken once at most, and where it was unused at least once
pub count-firsts : (q : ℕ) (unused qs : List ℕ) → count q (firsts unused qs) + count q (minus unused (firsts unused qs)) ≡ count q unused
count-firsts q unused qs = omega (arith, count-minus q unused (firsts unused qs) (firsts_part unused qs))

-- first occurrences in a list and in one behind it
pub firsts-append : (unused qs rest : List ℕ)
    → firsts unused (qs ++ rest) ≡ firsts unused qs ++ firsts (minus unused (firsts unused qs)) rest
firsts-append unused [] rest = refl
firsts-append unused (q ∷ qs) rest =
    elim (in_or_not q unused) [
      | inl w ↦ rw w.0 (ap (λ (xs : List ℕ). q ∷ xs) (firsts-append (without q unused) qs rest))
      | inr w ↦ rw w.0 (firsts-append unused qs rest)
    ]

pub firsts_none : (qs : List ℕ) → firsts [] qs ≡ []
firsts_none [] = refl
firsts_none (q ∷ qs) = firsts_none qs
