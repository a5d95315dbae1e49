-- Which rows clash, one way and back, and when a row clashes with none.
use Rattle.std.proofs.Common.{◌≡◌, inl, inr, refl, ap, ◌∙◌, ℕ, Bool, true, false, not, ◌&&◌, ◌||◌, Option, Some, None, List, [], ◌∷◌}
use Rattle.std.specs.List.{AllByRecursion, list_any}
use Rattle.std.proofs.lemmas.Bool.{cases_Bool, or_from, or_parts}
use Rattle.key_order.specs.Totals.{folds_alike}
use Rattle.table_shape.specs.declared.keys.KeyPart.{KeyPart}
use Rattle.table_shape.specs.Keys.{KeyParts, Keys, StoredRow, clash, clash_by, fits, has_null, key_of, same_key}
use Rattle.page_walk.specs.declared.outcomes.Place.{Place}
use Rattle.page_walk.specs.Cells.{Row}
use Rattle.table_fill.specs.declared.fates.Fate.{Fate}
use Rattle.table_fill.specs.declared.fates.Fate.TheVariants.{Misfit}
use Rattle.table_fill.specs.Fates.{clash_among, clash_in, clash_or, fate_of, first_clash, held, place_of, place_where, same_among}
use Rattle.table_fill.proofs.Inserting.{all_both, all_map}

-- ---- one way and back

pub same_back : (parts : List KeyPart) (a b : StoredRow) → same_key parts a b ≡ same_key parts b a
same_back parts a b = folds_alike.symm (key_of parts a) (key_of parts b)

swapped : (x y z w : Bool) → z ≡ w → (x && (y && z)) ≡ (y && (x && w))
swapped true true z w e = e
swapped true false z w e = refl
swapped false true z w e = refl
swapped false false z w e = refl

by_back : (parts : List KeyPart) (a b : StoredRow) → clash_by parts a b ≡ clash_by parts b a
by_back parts a b = swapped (not (has_null parts a)) (not (has_null parts b)) _ _ (same_back parts a b)

any_back : (keys : List KeyParts) (a b : StoredRow)
    → list_any (λ k. clash_by k.parts a b) keys ≡ list_any (λ k. clash_by k.parts b a) keys
any_back [] a b = refl
any_back (k ∷ keys) a b = let one = by_back k.parts a b in let others = any_back keys a b in λ i. one i || others i

pub clash_back : (t : Keys) (a b : StoredRow) → clash t a b ≡ clash t b a
clash_back t a b = let one = same_back t.first a b in let others = any_back t.keys a b in λ i. one i || others i

-- ---- the first that passes a test

no_place : (p : Place) → Some p ≡ None → ⊥
no_place p e = cc

pub where_none : (test : Row → Bool) (kept : List Row) → place_where test kept ≡ None → AllByRecursion (λ k. test k ≡ false) kept
where_none test [] e = tt
where_none test (k ∷ kept) e =
    elim (cases_Bool (test k)) [
      | inl hit ↦ absurd (no_place (place_of k) (rw hit at e))
      | inr miss ↦ (miss, where_none test kept (rw miss at e))
    ]

pub none_where : (test : Row → Bool) (kept : List Row) → AllByRecursion (λ k. test k ≡ false) kept → place_where test kept ≡ None
none_where test [] all = refl
none_where test (k ∷ kept) all = rw all.0 (none_where test kept all.1)

-- ---- a row that clashes with none of the kept ones

or_none : (o : Option Place) (n : ℕ) (rest : Option Fate) → clash_or o n rest ≡ None → (o ≡ None) × (rest ≡ None)
or_none None n rest e = (refl, e)
or_none (Some p) n rest e = absurd (cc)

none_or : (o : Option Place) (n : ℕ) (rest : Option Fate) → o ≡ None → rest ≡ None → clash_or o n rest ≡ None
none_or o n rest a b = ap (λ p. clash_or p n rest) a ∙ b

nothing_by : (kept : List Row) (row : StoredRow)
    → AllByRecursion (λ k. list_any (λ (q : KeyParts). clash_by q.parts (held k) row) [] ≡ false) kept
nothing_by [] row = tt
nothing_by (k ∷ kept) row = (refl, nothing_by kept row)

in_none : (keys : List KeyParts) (kept : List Row) (row : StoredRow) → clash_in keys kept row ≡ None
    → AllByRecursion (λ k. list_any (λ q. clash_by q.parts (held k) row) keys ≡ false) kept
in_none [] kept row e = nothing_by kept row
in_none (q ∷ keys) kept row e =
    let two = or_none (clash_among q.parts kept row) q.number (clash_in keys kept row) e in
    all_both (λ k. clash_by q.parts (held k) row ≡ false) (λ k. list_any (λ q. clash_by q.parts (held k) row) keys ≡ false)
    (λ k. list_any (λ q. clash_by q.parts (held k) row) (q ∷ keys) ≡ false)
    (λ k a b. or_from (clash_by q.parts (held k) row) (list_any (λ q. clash_by q.parts (held k) row) keys) a b) kept
    (where_none (λ k. clash_by q.parts (held k) row) kept two.0) (in_none keys kept row two.1)

none_in : (keys : List KeyParts) (kept : List Row) (row : StoredRow)
    → AllByRecursion (λ k. list_any (λ q. clash_by q.parts (held k) row) keys ≡ false) kept → clash_in keys kept row ≡ None
none_in [] kept row all = refl
none_in (q ∷ keys) kept row all =
    let two : (k : Row) → list_any (λ q. clash_by q.parts (held k) row) (q ∷ keys) ≡ false
    → (clash_by q.parts (held k) row ≡ false) × (list_any (λ q. clash_by q.parts (held k) row) keys ≡ false) =
    λ k e. or_parts (clash_by q.parts (held k) row) (list_any (λ q. clash_by q.parts (held k) row) keys) e in
    none_or (clash_among q.parts kept row) q.number (clash_in keys kept row)
    (none_where (λ k. clash_by q.parts (held k) row) kept
    (all_map (λ k. list_any (λ q. clash_by q.parts (held k) row) (q ∷ keys) ≡ false) (λ k. clash_by q.parts (held k) row ≡ false) (λ k e. (two k e).0) kept all))
    (none_in keys kept row
    (all_map (λ k. list_any (λ q. clash_by q.parts (held k) row) (q ∷ keys) ≡ false) (λ k. list_any (λ q. clash_by q.parts (held k) row) keys ≡ false) (λ k e. (two k e).1) kept all))

pub first_none : (t : Keys) (kept : List Row) (row : StoredRow) → first_clash t kept row ≡ None
    → AllByRecursion (λ k. clash t (held k) row ≡ false) kept
first_none t kept row e =
    let two = or_none (same_among t.first kept row) 0 (clash_in t.keys kept row) e in
    all_both (λ k. same_key t.first (held k) row ≡ false) (λ k. list_any (λ q. clash_by q.parts (held k) row) t.keys ≡ false)
    (λ k. clash t (held k) row ≡ false)
    (λ k a b. or_from (same_key t.first (held k) row) (list_any (λ q. clash_by q.parts (held k) row) t.keys) a b) kept
    (where_none (λ k. same_key t.first (held k) row) kept two.0) (in_none t.keys kept row two.1)

pub none_first : (t : Keys) (kept : List Row) (row : StoredRow)
    → AllByRecursion (λ k. clash t (held k) row ≡ false) kept → first_clash t kept row ≡ None
none_first t kept row all =
    let two : (k : Row) → clash t (held k) row ≡ false
    → (same_key t.first (held k) row ≡ false) × (list_any (λ q. clash_by q.parts (held k) row) t.keys ≡ false) =
    λ k e. or_parts (same_key t.first (held k) row) (list_any (λ q. clash_by q.parts (held k) row) t.keys) e in
    none_or (same_among t.first kept row) 0 (clash_in t.keys kept row)
    (none_where (λ k. same_key t.first (held k) row) kept
    (all_map (λ k. clash t (held k) row ≡ false) (λ k. same_key t.first (held k) row ≡ false) (λ k e. (two k e).0) kept all))
    (none_in t.keys kept row
    (all_map (λ k. clash t (held k) row ≡ false) (λ k. list_any (λ q. clash_by q.parts (held k) row) t.keys ≡ false) (λ k e. (two k e).1) kept all))

-- a cell that is kept fits and clashes with no kept row before it
pub kept_is : (t : Keys) (kept : List Row) (r : Row) → fate_of t kept r ≡ None
    → (fits t (held r) ≡ true) × AllByRecursion (λ k. clash t (held k) (held r) ≡ false) kept
kept_is t kept r e =
    elim (cases_Bool (fits t (held r))) [
      | inl fit ↦ (fit, first_none t kept (held r) (rw fit at e))
      | inr unfit ↦ let bad : Some Misfit ≡ None = rw unfit at e in absurd (cc)
    ]

-- one that fits and clashes with none is kept
pub is_kept : (t : Keys) (kept : List Row) (r : Row) → fits t (held r) ≡ true
    → AllByRecursion (λ k. clash t (held k) (held r) ≡ false) kept → fate_of t kept r ≡ None
is_kept t kept r fit all = rw fit (none_first t kept (held r) all)
