-- The numbers of a numbering rise, are small, and leave out the lock page's.
use Rattle.std.proofs.Common.{◌≡◌, ◌≢◌, ◌<◌, ◌≤◌, ℕ, ◌+◌, ◌-◌, ◌^◌, Bool, true, false, ◌&&◌, nat_le, refl, arith}
use Rattle.std.specs.Prelude.{if◌then◌else◌}
use Rattle.std.proofs.lemmas.Bool.Decides.{nat_tests}
use Rattle.tree_writer.specs.Numbers.{number_of}
use Rattle.written_trees.specs.Laws.{NumbersServe}

rises : (start lock k : ℕ) → number_of start lock k < number_of start lock (k + 1)
rises start lock k = by (nat_le start lock) (nat_le lock (start + k)) (nat_le lock (start + (k + 1))) refl refl
  where
    by : (a b c : Bool) → nat_le lock (start + k) ≡ b → nat_le lock (start + (k + 1)) ≡ c → (if a && b then start + k + 1 else start + k) < (if a && c then start + (k + 1) + 1 else start + (k + 1))
    by true true true e g = omega arith
    by true true false e g =
        let le : lock ≤ start + k = grind (arith, nat_tests) in let lt : start + (k + 1) < lock = grind (arith, nat_tests) in absurd (omega arith)
    by true false true e g = omega arith
    by true false false e g = omega arith
    by false b c e g = omega arith

small : (start lock k total : ℕ) → k ≤ total → start + total < 2 ^ 32 - 1 → number_of start lock k < 256 ^ 4
small start lock k total le most = by (nat_le start lock && nat_le lock (start + k))
  where
    by : (b : Bool) → (if b then start + k + 1 else start + k) < 256 ^ 4
    by true = omega arith
    by false = omega arith

first : (start lock : ℕ) → 2 ≤ start → 2 ≤ number_of start lock 0
first start lock two = by (nat_le start lock && nat_le lock (start + 0))
  where
    by : (b : Bool) → 2 ≤ (if b then start + 0 + 1 else start + 0)
    by true = omega arith
    by false = omega arith

left_out : (start lock k : ℕ) → number_of start lock k ≢ lock
left_out start lock k = by (nat_le start lock) (nat_le lock (start + k)) refl refl
  where
    by : (a b : Bool) → nat_le start lock ≡ a → nat_le lock (start + k) ≡ b → (if a && b then start + k + 1 else start + k) ≢ lock
    by true true e g = let le : lock ≤ start + k = grind (arith, nat_tests) in λ same. absurd (omega arith)
    by true false e g = let lt : start + k < lock = grind (arith, nat_tests) in λ same. absurd (omega arith)
    by false b e g = let lt : lock < start = grind (arith, nat_tests) in λ same. absurd (omega arith)

pub numbers_serve : NumbersServe
numbers_serve f start lock total two most inside = (
  record {
    rise = rises start lock;
    some = first start lock two;
    inside = inside;
    small = λ k le. small start lock k total le most;
  },
  left_out start lock,
)
