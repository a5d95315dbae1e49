-- What fits 64 bits while a varint is read.
use Rattle.std.proofs.Common.{◌<◌, ◌≤◌, ℕ, ◌^◌, arith, lit<}
use Rattle.std.proofs.Math.Nat.{pow-le-pow_right}

-- the number before the ninth byte has 56 bits
pub high_fits : (high k : ℕ) → high < 128 ^ k → k ≤ 8 → high < 72057594037927936
high_fits high k h le = omega (arith, pow-le-pow_right {n = 128} (lit< tt) {i = k} {j = 8} le)
