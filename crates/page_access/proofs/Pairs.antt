-- Pairs of pages and bytes: what is looked up, promoted and put first.
use Rattle.std.proofs.Common.{◌≡◌, ◌≢◌, ◌⊎◌, inl, inr, ℕ, zero, suc, ◌-◌, ◌≤◌, Bool, true, false, nat_eq, Option, Some, None, List, [], ◌∷◌, length, map, take, refl, sym, ◌∙◌, ap, subst, Vec, Global}
use Rattle.std.specs.Prelude.{cond, is_some}
use Rattle.std.specs.List.{AllByRecursion}
use Rattle.std.specs.Map.{keys_of, lookup, lookup_entry, remove_entry}
use Rattle.std.specs.Option.{option_map}
use Rattle.std.proofs.lemmas.Bool.{eq-eqb, ne_eqb}
use Rattle.std.proofs.lemmas.Bool.Decides.{eqb_tells}
use Rattle.lru.specs.LruCache.{promoted}
use Rattle.page_access.specs.CacheStored.{shown}

-- what is found by its page is the pair of this page
entry_of : {V : Type 0} (p : ℕ) (v : V) (es : List (ℕ × V)) → lookup (nat_eq p) es ≡ Some v → lookup_entry (nat_eq p) es ≡ Some (p, v)
entry_of p v [] h = absurd (cc)
entry_of {V = V} p v (e ∷ es) h =
    elim (eqb_tells p e.0) [
      | inl w ↦
          let found : Some e.1 ≡ Some v = rw w.0 at h in
          let value : e.1 ≡ v = cc in
          rw w.0 (ap (λ (x : V). Some (e.0, x)) value ∙ ap (λ (k : ℕ). Some (k, v)) (sym w.1))
      | inr w ↦ rw w.0 (entry_of p v es (rw w.0 at h))
    ]

pub none_of : {V : Type 0} (p : ℕ) (es : List (ℕ × V)) → lookup (nat_eq p) es ≡ None → lookup_entry (nat_eq p) es ≡ None
none_of p [] h = refl
none_of {V = V} p (e ∷ es) h =
    elim (eqb_tells p e.0) [
      | inl w ↦ let found : Some e.1 ≡ None = rw w.0 at h in absurd (cc)
      | inr w ↦ rw w.0 (none_of p es (rw w.0 at h))
    ]

-- what all pairs have, the pair that is found has
pub lookup_all : {V : Type 0} (P : ℕ × V → Type 0) (p : ℕ) (v : V) (es : List (ℕ × V)) → AllByRecursion P es → lookup (nat_eq p) es ≡ Some v → P (p, v)
lookup_all P p v [] all h = absurd (cc)
lookup_all {V = V} P p v (e ∷ es) all h =
    elim (eqb_tells p e.0) [
      | inl w ↦
          let found : Some e.1 ≡ Some v = rw w.0 at h in
          let value : e.1 ≡ v = cc in
          subst (λ (x : V). P (p, x)) value (subst (λ (k : ℕ). P (k, e.1)) (sym w.1) all.0)
      | inr w ↦ lookup_all P p v es all.1 (rw w.0 at h)
    ]

pub all_removed : {V : Type 0} (P : ℕ × V → Type 0) (p : ℕ) (es : List (ℕ × V)) → AllByRecursion P es → AllByRecursion P (remove_entry (nat_eq p) es)
all_removed P p [] all = tt
all_removed P p (e ∷ es) all = elim (nat_eq p e.0) as (λ b. AllByRecursion P (cond b es (e ∷ remove_entry (nat_eq p) es))) [
  | true ↦ all.1
  | false ↦ (all.0, all_removed P p es all.1)
]

pub all_taken : {X : Type 0} (P : X → Type 0) (n : ℕ) (xs : List X) → AllByRecursion P xs → AllByRecursion P (take n xs)
all_taken P zero xs all = tt
all_taken P (suc n) [] all = tt
all_taken P (suc n) (x ∷ xs) all = (all.0, all_taken P n xs all.1)

-- other pages are found as before
pub lookup_removed : {V : Type 0} (q p : ℕ) (es : List (ℕ × V)) → q ≢ p → lookup (nat_eq q) (remove_entry (nat_eq p) es) ≡ lookup (nat_eq q) es
lookup_removed q p [] apart = refl
lookup_removed q p (e ∷ es) apart =
    elim (eqb_tells p e.0) [
      | inl w ↦ rw (w.0, ne_eqb q e.0 (λ same. apart (same ∙ sym w.1))) refl
      | inr w ↦ rw w.0 (ap (cond (nat_eq q e.0) (Some e.1)) (lookup_removed q p es apart))
    ]

pub lookup_first : {V : Type 0} (p : ℕ) (v : V) (es : List (ℕ × V)) → lookup (nat_eq p) ((p, v) ∷ es) ≡ Some v
lookup_first p v es = rw (eq-eqb p p refl) refl

pub lookup_other : {V : Type 0} (q p : ℕ) (v : V) (es : List (ℕ × V)) → q ≢ p → lookup (nat_eq q) ((p, v) ∷ remove_entry (nat_eq p) es) ≡ lookup (nat_eq q) es
lookup_other q p v es apart = rw (ne_eqb q p apart) (lookup_removed q p es apart)

-- pairs of vectors are looked up as pairs of their bytes
pub shown_lookup : (p : ℕ) (es : List (ℕ × Vec ℕ Global)) → lookup (nat_eq p) (shown es) ≡ option_map (λ v. v.items) (lookup (nat_eq p) es)
shown_lookup p [] = refl
shown_lookup p (e ∷ es) =
    elim (nat_eq p e.0) as (λ b. cond b (Some e.1.items) (lookup (nat_eq p) (shown es)) ≡ option_map (λ v. v.items) (cond b (Some e.1) (lookup (nat_eq p) es))) [
      | true ↦ refl
      | false ↦ shown_lookup p es
    ]

pub shown_found : (p : ℕ) (es : List (ℕ × Vec ℕ Global)) → is_some (lookup (nat_eq p) (shown es)) ≡ is_some (lookup (nat_eq p) es)
shown_found p es = ap is_some (shown_lookup p es) ∙ same (lookup (nat_eq p) es)
  where
    same : (o : Option (Vec ℕ Global)) → is_some (option_map (λ (v : Vec ℕ Global). v.items) o) ≡ is_some o
    same None = refl
    same (Some v) = refl

shown_removed : (p : ℕ) (es : List (ℕ × Vec ℕ Global)) → shown (remove_entry (nat_eq p) es) ≡ remove_entry (nat_eq p) (shown es)
shown_removed p [] = refl
shown_removed p (e ∷ es) =
    elim (nat_eq p e.0) as (λ b. shown (cond b es (e ∷ remove_entry (nat_eq p) es)) ≡ cond b (shown es) ((e.0, e.1.items) ∷ remove_entry (nat_eq p) (shown es))) [
      | true ↦ refl
      | false ↦ ap (λ (xs : List (ℕ × List ℕ)). (e.0, e.1.items) ∷ xs) (shown_removed p es)
    ]

pub shown_taken : (n : ℕ) (es : List (ℕ × Vec ℕ Global)) → shown (take n es) ≡ take n (shown es)
shown_taken zero es = refl
shown_taken (suc n) [] = refl
shown_taken (suc n) (e ∷ es) = ap (λ (xs : List (ℕ × List ℕ)). (e.0, e.1.items) ∷ xs) (shown_taken n es)

pub shown_keys : (es : List (ℕ × Vec ℕ Global)) → keys_of (shown es) ≡ keys_of es
shown_keys [] = refl
shown_keys (e ∷ es) = ap (λ (ks : List ℕ). e.0 ∷ ks) (shown_keys es)

pub shown_promoted : (p : ℕ) (v : Vec ℕ Global) (es : List (ℕ × Vec ℕ Global)) → lookup (nat_eq p) es ≡ Some v
    → shown (promoted (nat_eq p) es) ≡ (p, v.items) ∷ remove_entry (nat_eq p) (shown es)
shown_promoted p v es h = rw (entry_of p v es h) (ap (λ (xs : List (ℕ × List ℕ)). (p, v.items) ∷ xs) (shown_removed p es))

pub promoted_none : (p : ℕ) (es : List (ℕ × Vec ℕ Global)) → lookup (nat_eq p) es ≡ None → promoted (nat_eq p) es ≡ es
promoted_none p es h = rw (none_of p es h) refl
