-- A whole number in its body, and back.
use Rattle.std.proofs.Common.{◌≡◌, ◌<◌, ◌≤◌, ◌⊎◌, ℕ, zero, suc, ◌+◌, ◌-◌, ◌*◌, ◌%◌, ◌^◌, ℤ, pos, negsuc, true, false, cond, eqb, ltb, [], length, inl, inr, refl, sym, ap, ◌∙◌, arith, lit≤, append-nil, eqb-true, ltb-true, ltb-false, lt-ltb, le-ltb, mod-eq_of_lt, mod-lt}
use Rattle.std.proofs.Math.Nat.{mul-add-mod_self_right, one-le-pow}
use Rattle.std.proofs.lemmas.Bool.{cases_Bool}
use Rattle.std.proofs.lemmas.Int.{ints}
use Rattle.std.proofs.lemmas.Nat.{pow-add}
use Rattle.std.specs.Int.{w64}
use Rattle.byteorder.specs.Endian.{big_number, big_bytes, low_bytes, twos_complement}
use Rattle.byteorder.specs.Numbers.{big_number-reads_back, length-bytes_high_first}
use Rattle.byteorder.proofs.Bytes.{pow256}
use Rattle.record_core.specs.Record.{body_len}
use Rattle.record_core.specs.Spelling.{IsWidth, IsNumber, IsConstant}
use Rattle.record_core.specs.Shortest.{steps, width_type, whole_type, whole_body}

-- what is below 0 by k + 1, kept in the lowest digits
neg_mod : (q p k : ℕ) → 1 ≤ q → k < p → (q * p - suc k) % p ≡ p - suc k
neg_mod zero p k one lt = absurd (omega arith)
neg_mod (suc r) p k one lt =
    let apart : suc r * p - suc k ≡ r * p + (p - suc k) = omega arith in
    let small : p - suc k < p = omega arith in
    ap (λ n. n % p) apart ∙ mul-add-mod_self_right r p (p - suc k) ∙ mod-eq_of_lt small

-- half of 2 ^ bits, and what makes 2 ^ 64 of it
pub record Halves (n : ℕ) : Type 0 where
  pub whole : 2 ^ (8 * n) ≡ 2 * 2 ^ (8 * n - 1)
  pub some : 1 ≤ 2 ^ (8 * n - 1)
  pub times : 2 ^ (64 - 8 * n) * 2 ^ (8 * n) ≡ 2 ^ 64
  pub more : 1 ≤ 2 ^ (64 - 8 * n)

pub halves : (n : ℕ) → 1 ≤ n → n ≤ 8 → Halves n
halves n one most = record {
  whole = let e : 8 * n ≡ 1 + (8 * n - 1) = omega arith in ap (λ k. 2 ^ k) e ∙ pow-add 2 1 (8 * n - 1);
  some = one-le-pow (8 * n - 1) 2 (lit≤ tt);
  times = let e : (64 - 8 * n) + 8 * n ≡ 64 = omega arith in sym (pow-add 2 (64 - 8 * n) (8 * n)) ∙ ap (λ k. 2 ^ k) e;
  more = one-le-pow (64 - 8 * n) 2 (lit≤ tt);
}

-- a number that fits n bytes is what its low bytes are read as
pub low_back : (n : ℕ) (z : ℤ) → 1 ≤ n → n ≤ 8 → steps z < 2 ^ (8 * n - 1) → twos_complement n (low_bytes w64 n z) ≡ z
low_back n (pos k) one most small =
    let h = halves n one most in
    let p = 2 ^ (8 * n) in
    let below : k < p = omega (arith, h.whole) in
    let same : k % p ≡ k = mod-eq_of_lt below in
    let test : ltb k (2 ^ (8 * n - 1)) ≡ true = lt-ltb k (2 ^ (8 * n - 1)) small in
    rw (same, test) refl
low_back n (negsuc k) one most small =
    let h = halves n one most in
    let p = 2 ^ (8 * n) in
    let below : k < p = omega (arith, h.whole) in
    let same : (2 ^ 64 - suc k) % p ≡ p - suc k = ap (λ m. (m - suc k) % p) (sym h.times) ∙ neg_mod (2 ^ (64 - 8 * n)) p k h.more below in
    let test : ltb (p - suc k) (2 ^ (8 * n - 1)) ≡ false = le-ltb (p - suc k) (2 ^ (8 * n - 1)) (omega (arith, h.whole)) in
    rw (same, test) (omega (arith, ints))

-- a number that fits its body is spelled by it
number_is : (t n : ℕ) (z : ℤ) → IsWidth t n → body_len t ≡ n → 1 ≤ n → n ≤ 8 → steps z < 2 ^ (8 * n - 1) → IsNumber t (whole_body t z) z
number_is t n z w len one most small =
    let x = low_bytes w64 n z in
    let body : whole_body t z ≡ big_bytes n x = ap (λ k. big_bytes k (low_bytes w64 k z)) len in
    let body-len : length (big_bytes n x) ≡ n = length-bytes_high_first n x in
    let h = halves n one most in
    let below : x < 256 ^ n = rw (pow256 n) (mod-lt _ (omega (arith, h.whole, h.some))) in
    let back : big_number n (big_bytes n x) ≡ x = ap (big_number n) (sym (append-nil (big_bytes n x))) ∙ big_number-reads_back n x [] below in
    rw body (record {
      width = rw body-len w;
      value = sym (ap (λ k. twos_complement k (big_number k (big_bytes n x))) body-len ∙ ap (twos_complement n) back ∙ low_back n z one most small);
    })

-- the tests of a width, one after another
pub test : (n limit t rest : ℕ) (P : ℕ → Type 0) → (n < limit → P t) → (limit ≤ n → P rest) → P (cond (ltb n limit) t rest)
test n limit t rest P below above =
    elim (cases_Bool (ltb n limit)) [
      | inl e ↦ rw e (below (ltb-true n limit e))
      | inr e ↦ rw e (above (ltb-false n limit e))
    ]

width_is : (n : ℕ) (z : ℤ) → steps z ≡ n → n < 2 ^ 63 → IsNumber (width_type n) (whole_body (width_type n) z) z
unfolding body_len
width_is n z e fits =
    let P : ℕ → Type 0 = λ t. IsNumber t (whole_body t z) z in
    test n (2 ^ 7) 1 _ P (λ h. number_is 1 1 z (inl (refl, refl)) refl (lit≤ tt) (lit≤ tt) (rw e h)) (λ _.
    test n (2 ^ 15) 2 _ P (λ h. number_is 2 2 z (inr (inl (refl, refl))) refl (lit≤ tt) (lit≤ tt) (rw e h)) (λ _.
    test n (2 ^ 23) 3 _ P (λ h. number_is 3 3 z (inr (inr (inl (refl, refl)))) refl (lit≤ tt) (lit≤ tt) (rw e h)) (λ _.
    test n (2 ^ 31) 4 _ P (λ h. number_is 4 4 z (inr (inr (inr (inl (refl, refl))))) refl (lit≤ tt) (lit≤ tt) (rw e h)) (λ _.
    test n (2 ^ 47) 5 _ P (λ h. number_is 5 6 z (inr (inr (inr (inr (inl (refl, refl)))))) refl (lit≤ tt) (lit≤ tt) (rw e h)) (λ _.
    number_is 6 8 z (inr (inr (inr (inr (inr (refl, refl)))))) refl (lit≤ tt) (lit≤ tt) (rw e fits))))))

zero_is : IsConstant 8 (whole_body 8 (pos 0)) (pos 0)
unfolding body_len
zero_is = record { none = refl; value = inl (refl, refl) }

one_is : IsConstant 9 (whole_body 9 (pos 1)) (pos 1)
unfolding body_len
one_is = record { none = refl; value = inr (refl, refl) }

-- a whole number is spelled by its serial type and body
pub whole_is : (z : ℤ) → steps z < 2 ^ 63 → IsNumber (whole_type z) (whole_body (whole_type z) z) z ⊎ IsConstant (whole_type z) (whole_body (whole_type z) z) z
unfolding whole_type
whole_is (negsuc k) fits = inl (width_is k (negsuc k) refl fits)
whole_is (pos k) fits =
    elim (cases_Bool (eqb k 0)) [
      | inl e ↦ let k-is : k ≡ 0 = eqb-true k 0 e in rw k-is (inr zero_is)
      | inr e ↦ elim (cases_Bool (eqb k 1)) [
        | inl f ↦ let k-is : k ≡ 1 = eqb-true k 1 f in rw k-is (inr one_is)
        | inr f ↦ rw (e, f) (inl (width_is k (pos k) refl fits))
      ]
    ]
