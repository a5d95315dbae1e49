-- The joined levels have each page that the first level leads to through unused pages, no other, and each once.
use Rattle.std.proofs.Common.{◌≡◌, ℕ, zero, suc, ◌+◌, ◌≤◌, ◌⊎◌, true, ◌==◌, List, [], ◌∷◌, ◌++◌, sym, ◌∙◌, subst, inl, inr, arith}
use Rattle.std.specs.List.{flat_map}
use Rattle.std.proofs.lemmas.Bool.{false≢true, or_cases, or_left, or_right}
use Rattle.std.proofs.lemmas.Bool.Decides.{eqb_tells}
use Rattle.page_lists.specs.Lists.{IsPartOf, count, firsts, is_in, minus, without}
use Rattle.page_lists.proofs.Counts.{count-append, count-firsts, count-minus, count_in, firsts_part, in_from_count, in_head, in_or_not, in_part, is_in-append, is_in-without-other}
use Rattle.page_walk.specs.Walk.{levels, next_level}
use Rattle.page_walk.proofs.Queue.{Fuel, fuel_next}

-- a page of two joined lists is in one of them
pub in_append : (q : ℕ) (xs ys : List ℕ) → is_in q (xs ++ ys) ≡ true → (is_in q xs ≡ true) ⊎ (is_in q ys ≡ true)
in_append q xs ys h = or_cases (is_in q xs) (is_in q ys) (sym (is_in-append q xs ys) ∙ h)

pub in_front : (q : ℕ) (xs ys : List ℕ) → is_in q xs ≡ true → is_in q (xs ++ ys) ≡ true
in_front q xs ys h = is_in-append q xs ys ∙ or_left (is_in q xs) (is_in q ys) h

pub in_back : (q : ℕ) (xs ys : List ℕ) → is_in q ys ≡ true → is_in q (xs ++ ys) ≡ true
in_back q xs ys h = is_in-append q xs ys ∙ or_right (is_in q xs) (is_in q ys) h

-- what one page of a level names, the level names
pub named_by_level : (below : ℕ → List ℕ) (p q : ℕ) (level : List ℕ) → is_in p level ≡ true → is_in q (below p) ≡ true
    → is_in q (flat_map below level) ≡ true
named_by_level below p q [] there names = absurd (false≢true there)
named_by_level below p q (x ∷ level) there names =
    elim (eqb_tells x p) [
      | inl w ↦ in_front q (below x) (flat_map below level) (subst (λ (y : ℕ). is_in q (below y) ≡ true) (sym w.1) names)
      | inr w ↦ in_back q (below x) (flat_map below level) (named_by_level below p q level (rw w.0 at there) names)
    ]

-- what a level names, one page of it names
pub names_of_level : (below : ℕ → List ℕ) (q : ℕ) (level : List ℕ) → is_in q (flat_map below level) ≡ true
    → (p : ℕ) × (is_in p level ≡ true) × (is_in q (below p) ≡ true)
names_of_level below q [] there = absurd (false≢true there)
names_of_level below q (x ∷ level) there =
    elim (in_append q (below x) (flat_map below level) there) [
      | inl here ↦ (x, in_head x level, here)
      | inr later ↦
          let rest = names_of_level below q level later in
          (rest.0, or_right (x == rest.0) (is_in rest.0 level) rest.1, rest.2)
    ]

-- a first occurrence is one of the pages
pub firsts_in : (q : ℕ) (unused qs : List ℕ) → is_in q (firsts unused qs) ≡ true → is_in q qs ≡ true
firsts_in q unused [] h = h
firsts_in q unused (x ∷ qs) h =
    elim (in_or_not x unused) [
      | inl w ↦
          let parts : (x == q) ≡ true ⊎ (is_in q (firsts (without x unused) qs) ≡ true) =
          or_cases (x == q) (is_in q (firsts (without x unused) qs)) (rw w.0 at h) in
          elim parts [
            | inl same ↦ or_left (x == q) (is_in q qs) same
            | inr later ↦ or_right (x == q) (is_in q qs) (firsts_in q (without x unused) qs later)
          ]
      | inr w ↦ or_right (x == q) (is_in q qs) (firsts_in q unused qs (rw w.0 at h))
    ]

-- each unused page of a list has a first occurrence
pub in_firsts : (q : ℕ) (unused qs : List ℕ) → is_in q unused ≡ true → is_in q qs ≡ true → is_in q (firsts unused qs) ≡ true
in_firsts q unused [] free there = absurd (false≢true there)
in_firsts q unused (x ∷ qs) free there =
    elim (eqb_tells x q) [
      | inl w ↦
          let free' : is_in x unused ≡ true = subst (λ (y : ℕ). is_in y unused ≡ true) (sym w.1) free in
          rw free' (or_left (x == q) (is_in q (firsts (without x unused) qs)) w.0)
      | inr w ↦
          let later : is_in q qs ≡ true = rw w.0 at there in
          elim (in_or_not x unused) [
            | inl v ↦
                let free' : is_in q (without x unused) ≡ true = is_in-without-other q x unused w.1 ∙ free in
                rw v.0 (or_right (x == q) (is_in q (firsts (without x unused) qs)) (in_firsts q (without x unused) qs free' later))
            | inr v ↦ rw v.0 (in_firsts q unused qs free later)
          ]
    ]

-- an unused page is taken now or is still unused then
pub taken_or_left : (q : ℕ) (unused qs : List ℕ) → is_in q unused ≡ true
    → (is_in q (firsts unused qs) ≡ true) ⊎ (is_in q (minus unused (firsts unused qs)) ≡ true)
taken_or_left q unused qs free =
    elim (in_or_not q (firsts unused qs)) [
      | inl w ↦ inl w.0
      | inr w ↦
          let left : 1 ≤ count q (minus unused (firsts unused qs)) = omega (arith, count-firsts q unused qs, count_in q unused free, w.1) in
          inr (in_from_count q (minus unused (firsts unused qs)) left)
    ]

-- the levels together have no page more often than the first level and the unused pages do
pub levels_once : (below : ℕ → List ℕ) (n : ℕ) (unused level : List ℕ) (q : ℕ)
    → count q (levels below n unused level) ≤ count q level + count q unused
levels_once below n unused [] q = omega arith
levels_once below zero unused (p ∷ ps) q = omega arith
levels_once below (suc n) unused (p ∷ ps) q =
    let next : List ℕ = next_level below unused (p ∷ ps) in
    let joined = count-append q (p ∷ ps) (levels below n (minus unused next) next) in
    omega (arith, joined, levels_once below n (minus unused next) next q, count-firsts q unused (flat_map below (p ∷ ps)))

-- they have the pages of the first level
pub levels_first : (below : ℕ → List ℕ) (n : ℕ) (unused level : List ℕ) (q : ℕ) → is_in q level ≡ true
    → is_in q (levels below n unused level) ≡ true
levels_first below n unused [] q there = there
levels_first below zero unused (p ∷ ps) q there = there
levels_first below (suc n) unused (p ∷ ps) q there =
    let next : List ℕ = next_level below unused (p ∷ ps) in
    in_front q (p ∷ ps) (levels below n (minus unused next) next) there

-- they have each unused page that one of their pages names
pub levels_closed : (below : ℕ → List ℕ) (n : ℕ) (unused level : List ℕ) (p q : ℕ) → Fuel n unused level
    → is_in p (levels below n unused level) ≡ true → is_in q (below p) ≡ true → is_in q unused ≡ true
    → is_in q (levels below n unused level) ≡ true
levels_closed below n unused [] p q enough there names free = absurd (false≢true there)
levels_closed below zero [] (x ∷ level) p q enough there names free = absurd (false≢true free)
levels_closed below zero (u ∷ unused) (x ∷ level) p q enough there names free = absurd (omega (arith, enough))
levels_closed below (suc n) unused (x ∷ level) p q enough there names free =
    let next : List ℕ = next_level below unused (x ∷ level) in
    let left : List ℕ = minus unused next in
    let enough' : Fuel n left next = fuel_next n unused next (firsts_part unused (flat_map below (x ∷ level))) enough in
    let parts = in_append p (x ∷ level) (levels below n left next) there in
    in_back q (x ∷ level) (levels below n left next) (elim parts [
      | inl here ↦
          levels_first below n left next q
          (in_firsts q unused (flat_map below (x ∷ level)) free (named_by_level below p q (x ∷ level) here names))
      | inr later ↦
          elim (taken_or_left q unused (flat_map below (x ∷ level)) free) [
            | inl now ↦ levels_first below n left next q now
            | inr still ↦ levels_closed below n left next p q enough' later names still
          ]
    ])

-- each of their pages has what the first level has and what passes from a page to an unused page that it names
pub levels_within : (below : ℕ → List ℕ) (all : List ℕ) (P : ℕ → Type 0)
    → ((p q : ℕ) → P p → is_in q (below p) ≡ true → is_in q all ≡ true → P q)
    → (n : ℕ) (unused level : List ℕ) → IsPartOf unused all → ((q : ℕ) → is_in q level ≡ true → P q)
    → (q : ℕ) → is_in q (levels below n unused level) ≡ true → P q
levels_within below all P passes n unused [] part first q there = absurd (false≢true there)
levels_within below all P passes zero unused (x ∷ level) part first q there = first q there
levels_within below all P passes (suc n) unused (x ∷ level) part first q there =
    let next : List ℕ = next_level below unused (x ∷ level) in
    let left : List ℕ = minus unused next in
    let taken : IsPartOf next unused = firsts_part unused (flat_map below (x ∷ level)) in
    let part' : IsPartOf left all = λ r. omega (arith, part r, count-minus r unused next taken) in
    let first' : (r : ℕ) → is_in r next ≡ true → P r = λ r h.
    let by = names_of_level below r (x ∷ level) (firsts_in r unused (flat_map below (x ∷ level)) h) in
    passes by.0 r (first by.0 by.1) by.2 (in_part r unused all part (in_part r next unused taken h)) in
    elim (in_append q (x ∷ level) (levels below n left next) there) [
      | inl here ↦ first q here
      | inr later ↦ levels_within below all P passes n left next part' first' q later
    ]
