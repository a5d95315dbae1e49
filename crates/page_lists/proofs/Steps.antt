-- Neighbours in a list of pages, after a page is taken out or put behind the others.
use Rattle.std.proofs.Common.{◌≡◌, ◌≢◌, ◌⊎◌, inl, inr, ℕ, ◌≤◌, Option, List, [], ◌∷◌, ◌++◌, length, slice_get, true, refl, sym, ◌∙◌, ap, subst, arith}
use Rattle.std.specs.Prelude.{unwrap_or}
use Rattle.std.proofs.lemmas.Bool.Decides.{eqb_tells}
use Rattle.std.proofs.lemmas.Bool.{false≢true}
use Rattle.page_lists.specs.Lists.{after, count, is_in, without}
use Rattle.page_lists.specs.Rings.{follow}
use Rattle.page_lists.specs.Stored.{Step}

-- a step begins at the start or at a page of the list
pub step_from : (a b x : ℕ) (xs : List ℕ) → Step a b x xs → (a ≡ x) ⊎ (1 ≤ count a xs)
step_from a b x [] h = inl h.0
step_from a b x (y ∷ ys) (inl h) = inl h.0
step_from a b x (y ∷ ys) (inr h) =
    elim (eqb_tells y a) [
      | inl w ↦ inr (rw w.0 (omega arith))
      | inr w ↦ elim (step_from a b y ys h) [ inl e ↦ absurd (w.1 (sym e)) | inr more ↦ inr (rw w.0 (omega (arith, more))) ]
    ]

-- a step ends at 0 or at a page of the list
pub step_to : (a b x : ℕ) (xs : List ℕ) → Step a b x xs → (b ≡ 0) ⊎ (1 ≤ count b xs)
step_to a b x [] h = inl h.1
step_to a b x (y ∷ ys) (inl h) = elim (eqb_tells y b) [ inl w ↦ inr (rw w.0 (omega arith)) | inr w ↦ absurd (w.1 (sym h.1)) ]
step_to a b x (y ∷ ys) (inr h) =
    elim (step_to a b y ys h) [
      | inl e ↦ inl e
      | inr more ↦ elim (eqb_tells y b) [ inl w ↦ inr (rw w.0 (omega arith)) | inr w ↦ inr (rw w.0 (omega (arith, more))) ]
    ]

-- the last step ends at 0
pub stepped_end : (x : ℕ) (xs : List ℕ) → (a : ℕ) × Step a 0 x xs
stepped_end x [] = (x, (refl, refl))
stepped_end x (y ∷ ys) = let rest = stepped_end y ys in (rest.0, inr rest.1)

-- each page is stepped to
pub stepped_to : (p x : ℕ) (xs : List ℕ) → is_in p xs ≡ true → (a : ℕ) × Step a p x xs
stepped_to p x [] h = absurd (false≢true h)
stepped_to p x (y ∷ ys) h =
    elim (eqb_tells y p) [
      | inl w ↦ (x, inl (refl, sym w.1))
      | inr w ↦ let rest = stepped_to p y ys (rw w.0 at h) in (rest.0, inr rest.1)
    ]

from_head : (p y : ℕ) (ys : List ℕ) → p ≡ y → Step p (unwrap_or (slice_get ys 0) 0) y ys
from_head p y [] e = (e, refl)
from_head p y (z ∷ zs) e = inl (e, refl)

-- each page is stepped from, to the page after it
pub stepped_from : (p x : ℕ) (xs : List ℕ) → is_in p xs ≡ true → Step p (unwrap_or (after p xs) 0) x xs
stepped_from p x [] h = absurd (false≢true h)
stepped_from p x (y ∷ ys) h =
    elim (eqb_tells y p) [
      | inl w ↦
          let e : after p (y ∷ ys) ≡ slice_get ys 0 = rw w.0 refl in
          subst (λ (o : Option ℕ). Step p (unwrap_or o 0) x (y ∷ ys)) (sym e) (inr (from_head p y ys (sym w.1)))
      | inr w ↦
          let e : after p (y ∷ ys) ≡ after p ys = rw w.0 refl in
          subst (λ (o : Option ℕ). Step p (unwrap_or o 0) x (y ∷ ys)) (sym e) (inr (stepped_from p y ys (rw w.0 at h)))
    ]

-- the steps of a list without p, seen from another start
restart : (p a b x : ℕ) (ys : List ℕ) → count p ys ≡ 0 → Step a b x ys
    → ((a ≡ x) × Step p b p ys) ⊎ (Step a b p ys × (a ≢ p))
restart p a b x [] none h = inl (h.0, (refl, h.1))
restart p a b x (y ∷ ys) none (inl h) = inl (h.0, inl (refl, h.1))
restart p a b x (y ∷ ys) none (inr h) = inr (inr h, λ e. there (step_from a b y ys h) e)
  where
    there : (a ≡ y) ⊎ (1 ≤ count a ys) → a ≡ p → ⊥
    there (inl e) f = elim (eqb_tells y p) [ inl w ↦ let k = rw w.0 at none in omega (arith, k) | inr w ↦ w.1 (sym e ∙ f) ]
    there (inr some) f = let some' : 1 ≤ count p ys = subst (λ (q : ℕ). 1 ≤ count q ys) f some in omega (arith, some', none)

not_to : (p a b x : ℕ) (ys : List ℕ) → p ≢ 0 → count p ys ≡ 0 → Step a b x ys → b ≢ p
not_to p a b x ys over none h e =
    elim (step_to a b x ys h) [
      | inl z ↦ over (sym e ∙ z)
      | inr some ↦ let some' : 1 ≤ count p ys = subst (λ (q : ℕ). 1 ≤ count q ys) e some in omega (arith, some', none)
    ]

-- a step of the list without p is an old one that does not touch p, or joins the two old ones that do
pub step_out : (p a b x : ℕ) (xs : List ℕ) → p ≢ 0 → x ≢ p → count p xs ≤ 1 → Step a b x (without p xs)
    → (Step a b x xs × ((a ≢ p) × (b ≢ p))) ⊎ (Step a p x xs × Step p b x xs)
step_out p a b x [] over apart few h = inl (h, (λ e. apart (sym h.0 ∙ e), λ e. over (sym e ∙ h.1)))
step_out p a b x (y ∷ ys) over apart few h =
    elim (eqb_tells y p) [
      | inl w ↦
          let none : count p ys ≡ 0 = let k = rw w.0 at few in omega (arith, k) in
          let rest : Step a b x ys = rw w.0 at h in
          elim (restart p a b x ys none rest) [
            | inl first ↦ inr (inl (first.0, sym w.1), inr (subst (λ (q : ℕ). Step p b q ys) (sym w.1) first.1))
            | inr later ↦ inl (inr (subst (λ (q : ℕ). Step a b q ys) (sym w.1) later.0), (later.1, not_to p a b x ys over none rest))
          ]
      | inr w ↦
          let rest : ((a ≡ x) × (b ≡ y)) ⊎ Step a b y (without p ys) = rw w.0 at h in
          let few' : count p ys ≤ 1 = let k = rw w.0 at few in omega (arith, k) in
          elim rest [
            | inl first ↦ inl (inl first, (λ e. apart (sym first.0 ∙ e), λ e. w.1 (sym first.1 ∙ e)))
            | inr later ↦ elim (step_out p a b y ys over w.1 few' later) [
              | inl old ↦ inl (inr old.0, old.1)
              | inr two ↦ inr (inr two.0, inr two.1)
            ]
          ]
    ]

-- a step of the list with p behind it is that from p, that to p, or an old one that does not end at 0
pub step_put : (p a b x : ℕ) (xs : List ℕ) → count 0 xs ≡ 0 → Step a b x (xs ++ p ∷ [])
    → ((a ≡ p) × (b ≡ 0)) ⊎ (((b ≡ p) × Step a 0 x xs) ⊎ (Step a b x xs × (b ≢ 0)))
step_put p a b x [] none (inl h) = inr (inl (h.1, (h.0, refl)))
step_put p a b x [] none (inr h) = inl h
step_put p a b x (y ∷ ys) none (inl h) = inr (inr (inl h, λ e. not_zero (sym h.1 ∙ e)))
  where
    not_zero : y ≢ 0
    not_zero e = elim (eqb_tells y 0) [ inl w ↦ let k = rw w.0 at none in omega (arith, k) | inr w ↦ w.1 e ]
step_put p a b x (y ∷ ys) none (inr h) =
    elim (step_put p a b y ys (omega (arith, none)) h) [
      | inl last ↦ inl last
      | inr rest ↦ elim rest [
        | inl to ↦ inr (inl (to.0, inr to.1))
        | inr old ↦ inr (inr (inr old.0, old.1))
      ]
    ]

-- who follows the steps of a list finds its pages
pub follow_is : (next : ℕ → ℕ) (x : ℕ) (xs : List ℕ) → ((a b : ℕ) → Step a b x xs → next a ≡ b) → follow next (length xs) (next x) ≡ xs
follow_is next x [] steps = refl
follow_is next x (y ∷ ys) steps =
    let one : next x ≡ y = steps x y (inl (refl, refl)) in
    rw one (ap (λ (zs : List ℕ). y ∷ zs) (follow_is next y ys (λ a b s. steps a b (inr s))))
