-- Decimal digits in names.
use Rattle.std.proofs.Common.{◌≡◌, refl, subst, arith, ℕ, zero, suc, ◌+◌, ◌-◌, ◌%◌, ◌^◌, ◌<◌, ◌≤◌, true, List, [], ◌∷◌, ◌++◌, length, length-append, decimal, mod-lt, lit<}
use Rattle.std.specs.List.{AllByRecursion}
use Rattle.std.specs.Char.{to_ascii_lowercase}
use Rattle.std.specs.Str.{str_to_ascii_lowercase}
use Rattle.std.proofs.lemmas.Fmt.{decimal_by_steps}
use Rattle.create_grammar.specs.declared.sorts.Sort.TheVariants.{Bare}
use Rattle.create_grammar.specs.Sorts.{keyword_1, keyword_2, keyword_3, keyword_4}
use Rattle.create_grammar.specs.Words.{goes_on_bare}

abbrev pub IsDigit : ℕ → Type 0
IsDigit d = (48 ≤ d) × (d ≤ 57)

abbrev pub AreDigits : List ℕ → Type 0
AreDigits ds = AllByRecursion IsDigit ds

-- ---- the digits of a number

pub digits_append : (xs ys : List ℕ) → AreDigits xs → AreDigits ys → AreDigits (xs ++ ys)
digits_append [] ys h g = g
digits_append (x ∷ xs) ys h g = (h.0, digits_append xs ys h.1 g)

record AreSome (ds : List ℕ) : Type 0 where
  all : AreDigits ds
  some : 0 < length ds

some_digits : (n : ℕ) → n < 2 ^ 64 → AreSome (decimal n)
some_digits n h = decimal_by_steps (λ m ds. AreSome ds)
    (λ m g. record { all = ((omega arith, omega (arith, g)), tt); some = omega arith })
    (λ m ds g was.
    let last : m % 10 < 10 = mod-lt m {m = 10} (lit< tt) in
    let len : length (ds ++ (48 + m % 10) ∷ []) ≡ length ds + 1 = length-append ds ((48 + m % 10) ∷ []) in
    record { all = digits_append ds ((48 + m % 10) ∷ []) was.all ((omega arith, omega (arith, last)), tt); some = omega (arith, len) })
    n h

pub are_digits : (n : ℕ) → n < 2 ^ 64 → AreDigits (decimal n)
are_digits n h = (some_digits n h).all

-- there is a first one
pub first_digit : (n : ℕ) → n < 2 ^ 64 → (d : ℕ) × (ds : List ℕ) × (decimal n ≡ d ∷ ds) × IsDigit d
first_digit n h = by (decimal n) (some_digits n h)
  where
    by : (ds : List ℕ) → AreSome ds → (d : ℕ) × (rest : List ℕ) × (ds ≡ d ∷ rest) × IsDigit d
    by [] s = absurd (let some = s.some in omega (arith, some))
    by (d ∷ ds) s = (d, ds, refl, s.all.0)

-- ---- what holds of each of the ten digits

ten : (P : ℕ → Type 0) → P 48 → P 49 → P 50 → P 51 → P 52 → P 53 → P 54 → P 55 → P 56 → P 57
    → (d : ℕ) → IsDigit d → P d
ten P p0 p1 p2 p3 p4 p5 p6 p7 p8 p9 d is =
    let low = is.0 in
    let high = is.1 in
    let same : (d - 48) + 48 ≡ d = omega (arith, low) in
    let few : d - 48 < 10 = omega (arith, high) in
    subst P same (at (d - 48) few)
  where
    at : (i : ℕ) → i < 10 → P (i + 48)
    at zero h = p0
    at (suc zero) h = p1
    at (suc (suc zero)) h = p2
    at (suc (suc (suc zero))) h = p3
    at (suc (suc (suc (suc zero)))) h = p4
    at (suc (suc (suc (suc (suc zero))))) h = p5
    at (suc (suc (suc (suc (suc (suc zero)))))) h = p6
    at (suc (suc (suc (suc (suc (suc (suc zero))))))) h = p7
    at (suc (suc (suc (suc (suc (suc (suc (suc zero)))))))) h = p8
    at (suc (suc (suc (suc (suc (suc (suc (suc (suc zero))))))))) h = p9
    at (suc (suc (suc (suc (suc (suc (suc (suc (suc (suc i)))))))))) h = absurd (omega (arith, h))

pub digit_bare : (d : ℕ) → IsDigit d → goes_on_bare d ≡ true
digit_bare d is = ten (λ d. goes_on_bare d ≡ true) refl refl refl refl refl refl refl refl refl refl d is

pub digit_small : (d : ℕ) → IsDigit d → to_ascii_lowercase d ≡ d
digit_small d is = ten (λ d. to_ascii_lowercase d ≡ d) refl refl refl refl refl refl refl refl refl refl d is

-- `c` and a digit begin no keyword
pub no_keyword : (d : ℕ) (ds : List ℕ) → IsDigit d → keyword_1 (99 ∷ (d ∷ ds)) ≡ Bare
unfolding keyword_1 keyword_2 keyword_3 keyword_4
no_keyword d ds is = ten (λ d. keyword_1 (99 ∷ (d ∷ ds)) ≡ Bare) refl refl refl refl refl refl refl refl refl refl d is

-- digits are as they are in small letters
pub digits_small : (ds : List ℕ) → AreDigits ds → str_to_ascii_lowercase ds ≡ ds
digits_small [] all = refl
digits_small (d ∷ ds) all = λ i. digit_small d all.0 i ∷ digits_small ds all.1 i
