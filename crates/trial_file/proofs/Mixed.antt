-- The mixed numbers differ.
use Rattle.std.proofs.Common.{◌≡◌, sym, arith, ℕ, ◌+◌, ◌-◌, ◌*◌, ◌/◌, ◌^◌, ◌<◌, ◌≤◌, lit<, decimal}
use Rattle.std.proofs.Math.Nat.{mod-lt}
use Rattle.std.proofs.lemmas.Fmt.{decimal_injective, length-decimal-le}
use Rattle.std.proofs.lemmas.Nat.{div-add-mod'}
use Rattle.std.proofs.Common.{length}
use Rattle.trial_file.specs.Rows.{mixed, name_of}

-- 40503 * 489351 is one more than 18902 * 2^20: where 40503 times a number below 2^20 is a multiple of 2^20, the number is 0
none_between : (d e : ℕ) → d * 40503 ≡ e * 1048576 → d < 1048576 → 0 < d → ⊥
none_between d e is small some =
    let inverse : d + 1048576 * (d * 18902) ≡ 1048576 * (e * 489351) = omega (arith, is) in
    multiple d (d * 18902) (e * 489351) inverse small some
  where
    multiple : (d x y : ℕ) → d + 1048576 * x ≡ 1048576 * y → d < 1048576 → 0 < d → ⊥
    multiple d x y is small some = omega (arith, is, small, some)

apart : (i j q p r : ℕ) → i < j → j < 1048576 → i * 40503 ≡ q * 1048576 + r → j * 40503 ≡ p * 1048576 + r → ⊥
apart i j q p r lt small one two =
    let d : (j - i) * 40503 ≡ (p - q) * 1048576 = omega (arith, lt, one, two) in
    none_between (j - i) (p - q) d (omega (arith, small)) (omega (arith, lt))

pub mixed_differ : (i j : ℕ) → i < j → j < 2 ^ 20 → mixed i ≡ mixed j → ⊥
mixed_differ i j lt small same =
    let one = div-add-mod' (i * 40503) (2 ^ 20) in
    let two = div-add-mod' (j * 40503) (2 ^ 20) in
    apart i j (i * 40503 / 2 ^ 20) (j * 40503 / 2 ^ 20) (mixed i) lt small (sym one) (omega (arith, two, same))

pub mixed_small : (i : ℕ) → mixed i < 2 ^ 20
mixed_small i = mod-lt (i * 40503) (lit< tt)

pub name_differ : (i j : ℕ) → i < j → j < 2 ^ 20 → name_of i ≡ name_of j → ⊥
name_differ i j lt small same =
    let tails : decimal (mixed i) ≡ decimal (mixed j) = cc in
    let a = mixed_small i in
    let b = mixed_small j in
    mixed_differ i j lt small (decimal_injective (mixed i) (mixed j) (omega (arith, a)) (omega (arith, b)) tails)

pub name_short : (i : ℕ) → length (name_of i) ≤ 8
name_short i =
    let a = mixed_small i in
    let short : length (decimal (mixed i)) ≤ 7 = length-decimal-le 7 (mixed i) (lit< tt) (omega (arith, a)) (omega (arith, a)) in
    omega (arith, short)
