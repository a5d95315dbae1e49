-- The overflow pages of an entry against its length.
use Rattle.std.proofs.Common.{◌≡◌, ◌≤◌, ◌<◌, ◌⊎◌, inl, inr, ◌+◌, ◌-◌, ◌*◌, ℕ, zero, suc, Bool, true, false, length, nat_le, refl, arith}
use Rattle.std.specs.Prelude.{if◌then◌else◌}
use Rattle.std.proofs.Math.Nat.{mul-le-mul_left}
use Rattle.std.proofs.lemmas.Bool.Decides.{nat_tests}
use Rattle.cell_reader.specs.declared.shapes.Kind.{Kind}
use Rattle.cell_reader.specs.declared.shapes.Kind.TheVariants.{Table, Index}
use Rattle.cell_reader.specs.Cell.{local_len, most_local}
use Rattle.tree_writer.specs.Cells.{over_count}
use Rattle.tree_writer.specs.Entry.{Entry}
use Rattle.tree_writer.proofs.Chaining.{over_inside}

not_all : (b : Bool) (total other : ℕ) → (if b then total else other) < total → b ≡ false
not_all true total other lt = absurd (omega arith)
not_all false total other lt = refl

-- a payload that is not all local is long
long : (usable : ℕ) (kind : Kind) (total : ℕ) → 512 ≤ usable → local_len kind usable total < total → 95 ≤ total
unfolding local_len
long usable kind total least lt =
    let e : nat_le total (most_local kind usable) ≡ false = not_all (nat_le total (most_local kind usable)) total _ lt in
    let h : most_local kind usable < total = grind (arith, nat_tests) in
    omega (arith, many kind)
  where
    many : (k : Kind) → 94 ≤ most_local k usable
    many Table = omega arith
    many Index = omega arith

-- an entry has no overflow pages, or far more bytes than overflow pages
pub overs_few : (usable : ℕ) (kind : Kind) (e : Entry) → 512 ≤ usable
    → (over_count usable kind e ≡ 0) ⊎ (33 * over_count usable kind e + 35 ≤ 2 * length e.bytes)
overs_few usable kind e least = by (over_count usable kind e) refl
  where
    by : (n : ℕ) → over_count usable kind e ≡ n → (n ≡ 0) ⊎ (33 * n + 35 ≤ 2 * length e.bytes)
    by zero is = inl refl
    by (suc r) is =
        let least' : 480 ≤ usable = omega arith in
        let last = over_inside usable kind e r least' (omega (arith, is)) in
        let first = over_inside usable kind e 0 least' (omega (arith, is)) in
        let most = mul-le-mul_left r (let le : 508 ≤ usable - 4 = omega arith in le) in
        inr (omega (arith, last, most, long usable kind (length e.bytes) least (omega (arith, first))))
