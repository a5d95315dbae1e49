-- The first number with which a base is free.
use Rattle.std.proofs.Common.{◌≡◌, refl, sym, ap, ◌∙◌, subst, arith, ◌⊎◌, inl, inr, ℕ, zero, suc, ◌+◌, ◌^◌, ◌<◌, ◌≤◌, eqb, true, List, [], ◌∷◌, ◌++◌, length, drop, map, decimal}
use Rattle.std.specs.List.{list_any}
use Rattle.std.specs.Str.{str_to_ascii_lowercase}
use Rattle.std.specs.Str.Parse.{digits_value}
use Rattle.std.proofs.Math.Seq.{drop-append_seam}
use Rattle.std.proofs.lemmas.Bool.{cases_Bool, cases_order, eq-eqb, or_cases, or_left, or_right, true≢false}
use Rattle.std.proofs.lemmas.Fmt.{decimal_is_IsNumeral}
use Rattle.std.proofs.lemmas.List.{length-map, map-append}
use Rattle.std.proofs.lemmas.Map.Steps.{le-length_from_below}
use Rattle.std.proofs.lemmas.Slice.Eq.{bytes_eq-Decides}
use Rattle.table_shape.specs.Names.{is_named, same_name}
use Rattle.lost_found.specs.Laws.{HasFirstName, HasOneName}
use Rattle.lost_found.specs.Names.{IsFirstFree, IsLostName, free_from, lost_name, numbered}
use Rattle.lost_found.proofs.Digits.{are_digits, digits_small}

-- ---- as many numbers as names are taken, and no more

-- the number that stands behind a base in a name
number_behind : List ℕ → List ℕ → ℕ
number_behind base name = digits_value 10 (drop (length base) (str_to_ascii_lowercase name))

number_back : (base name : List ℕ) (k : ℕ) → k < 2 ^ 64 → same_name name (numbered base k) ≡ true → number_behind base name ≡ k
unfolding number_behind
number_back base name k h is =
    let small : str_to_ascii_lowercase name ≡ str_to_ascii_lowercase (numbered base k) =
    (bytes_eq-Decides (str_to_ascii_lowercase name) (str_to_ascii_lowercase (numbered base k))).0 is in
    let split : str_to_ascii_lowercase (numbered base k) ≡ str_to_ascii_lowercase base ++ str_to_ascii_lowercase (decimal k) =
    map-append _ base (decimal k) in
    let digits = digits_small (decimal k) (are_digits k h) in
    let whole : str_to_ascii_lowercase name ≡ str_to_ascii_lowercase base ++ decimal k =
    small ∙ (split ∙ ap (λ (z : List ℕ). str_to_ascii_lowercase base ++ z) digits) in
    let len : length (str_to_ascii_lowercase base) ≡ length base = length-map base _ in
    ap (λ (z : List ℕ). digits_value 10 (drop (length base) z)) whole
    ∙ (ap (λ (m : ℕ). digits_value 10 (drop m (str_to_ascii_lowercase base ++ decimal k))) (sym len)
    ∙ (ap (digits_value 10) (drop-append_seam (str_to_ascii_lowercase base) (decimal k))
    ∙ (decimal_is_IsNumeral k h).1))

number_among : (base : List ℕ) (names : List (List ℕ)) (k : ℕ) → k < 2 ^ 64 → is_named (numbered base k) names ≡ true
    → list_any (eqb k) (map (number_behind base) names) ≡ true
number_among base [] k h is = is
number_among base (name ∷ names) k h is =
    elim (or_cases (same_name name (numbered base k)) (is_named (numbered base k) names) is) [
      | inl here ↦ or_left _ _ (eq-eqb k (number_behind base name) (sym (number_back base name k h here)))
      | inr there ↦ or_right _ _ (number_among base names k h there)
    ]

few_taken : (base : List ℕ) (names : List (List ℕ)) (n : ℕ) → n ≤ 2 ^ 64
    → ((k : ℕ) → k < n → is_named (numbered base k) names ≡ true) → n ≤ length names
few_taken base names n h all =
    let few = le-length_from_below (map (number_behind base) names) n
    (λ k low. number_among base names k (omega (arith, low, h)) (all k low)) in
    let len = length-map names (number_behind base) in
    omega (arith, few, len)

-- ---- the number that is found

-- those before it are taken; where it is taken too, so are all that were tried
record IsFound (n k : ℕ) (base : List ℕ) (names : List (List ℕ)) (f : ℕ) : Type 0 where
  low : k ≤ f
  before : (j : ℕ) → k ≤ j → j < f → is_named (numbered base j) names ≡ true
  last : is_named (numbered base f) names ≡ true → f ≡ k + n

found : (n k : ℕ) (base : List ℕ) (names : List (List ℕ)) → IsFound n k base names (free_from n k base names)
found zero k base names = record {
  low = omega arith;
  before = λ j low high. absurd (omega (arith, low, high));
  last = λ is. omega arith;
}
found (suc n) k base names =
    elim (cases_Bool (is_named (numbered base k) names)) [
      | inl is ↦
          let rest = found n (k + 1) base names in
          let low = rest.low in
          let next : free_from (suc n) k base names ≡ free_from n (k + 1) base names = rw is refl in
          subst (IsFound (suc n) k base names) (sym next) (record {
            low = omega (arith, low);
            before = λ j from up. elim (cases_order k j) [
              | inl here ↦ subst (λ m. is_named (numbered base m) names ≡ true) here is
              | inr (inl above) ↦ rest.before j (omega (arith, above)) up
              | inr (inr below) ↦ absurd (omega (arith, from, below))
            ];
            last = λ at. (let e = rest.last at in omega (arith, e));
          })
      | inr isnt ↦
          let here : free_from (suc n) k base names ≡ k = rw isnt refl in
          subst (IsFound (suc n) k base names) (sym here) (record {
            low = omega arith;
            before = λ j low high. absurd (omega (arith, low, high));
            last = λ is. absurd (true≢false (sym is ∙ isnt));
          })
    ]

first_free : (base : List ℕ) (names : List (List ℕ)) → length names < 2 ^ 64 → is_named base names ≡ true
    → IsFirstFree base names (free_from (length names) 0 base names)
first_free base names h taken =
    let f = free_from (length names) 0 base names in
    let is = found (length names) 0 base names in
    elim (cases_Bool (is_named (numbered base f) names)) [
      | inl last ↦
          let e : f ≡ 0 + length names = is.last last in
          let few : f + 1 ≤ length names = few_taken base names (f + 1) (omega (arith, e, h)) (λ k low. elim (cases_order k f) [
            | inl here ↦ subst (λ m. is_named (numbered base m) names ≡ true) (sym here) last
            | inr (inl below) ↦ is.before k (omega arith) below
            | inr (inr above) ↦ absurd (omega (arith, low, above))
          ]) in
          absurd (omega (arith, e, few))
      | inr free ↦ record { taken = taken; free = free; first = λ j low. is.before j (omega arith) low }
    ]

pub has_first_name : HasFirstName
has_first_name base names h =
    elim (cases_Bool (is_named base names)) [
      | inl taken ↦
          let first = first_free base names h taken in
          let here : lost_name base names ≡ numbered base (free_from (length names) 0 base names) = rw taken refl in
          subst (IsLostName base names) (sym here) (record { free = first.free; first = inr (free_from (length names) 0 base names, refl, first) })
      | inr free ↦
          let here : lost_name base names ≡ base = rw free refl in
          subst (IsLostName base names) (sym here) (record { free = free; first = inl refl })
    ]

-- ---- there is one such name

same_first : (base : List ℕ) (names : List (List ℕ)) (j k : ℕ) → IsFirstFree base names j → IsFirstFree base names k → j ≡ k
same_first base names j k is other =
    elim (cases_order j k) [
      | inl same ↦ same
      | inr (inl below) ↦ absurd (true≢false (sym (other.first j below) ∙ is.free))
      | inr (inr above) ↦ absurd (true≢false (sym (is.first k above) ∙ other.free))
    ]

pub has_one_name : HasOneName
has_one_name base a b names is other = by is.first other.first
  where
    by : (a ≡ base) ⊎ ((k : ℕ) × (a ≡ numbered base k) × IsFirstFree base names k)
        → (b ≡ base) ⊎ ((k : ℕ) × (b ≡ numbered base k) × IsFirstFree base names k) → a ≡ b
    by (inl e) (inl g) = e ∙ sym g
    by (inl e) (inr g) = absurd (true≢false (sym g.2.taken ∙ (ap (λ (z : List ℕ). is_named z names) (sym e) ∙ is.free)))
    by (inr e) (inl g) = absurd (true≢false (sym e.2.taken ∙ (ap (λ (z : List ℕ). is_named z names) (sym g) ∙ other.free)))
    by (inr e) (inr g) = e.1 ∙ (ap (numbered base) (same_first base names e.0 g.0 e.2 g.2) ∙ sym g.1)
