-- What holds of entries of one length.
use Rattle.std.proofs.Common.{◌≡◌, ◌<◌, ◌≤◌, ℕ, zero, suc, ◌+◌, ◌-◌, ◌*◌, ◌^◌, ◌%◌, Bool, true, false, List, [], ◌∷◌, length, sum_by, refl, sym, ap, ◌∙◌, subst, arith}
use Rattle.std.specs.Prelude.{Option, Some, None, pos, replicate, if◌then◌else◌}
use Rattle.std.specs.List.{AllByRecursion}
use Rattle.std.proofs.lemmas.List.{length-replicate}
use Rattle.std.proofs.lemmas.List.Sums.{sum_by-cons}
use Rattle.std.proofs.lemmas.Int.{ints}
use Rattle.tree_writer.specs.Alike.{alike_at, alike_from}
use Rattle.tree_writer.specs.Entry.{AreEntries, Entry, HasBytes, HaveNoRowids, RowidsRise, entry_at, weight}

pub length-alike : (rowids : Bool) (len i n : ℕ) → length (alike_from rowids len i n) ≡ n
unfolding alike_from
length-alike rowids len i zero = refl
length-alike rowids len i (suc n) = ap suc (length-alike rowids len (i + 1) n)

pub entry-alike : (rowids : Bool) (len i n j : ℕ) → j < n → entry_at (alike_from rowids len i n) j ≡ alike_at rowids len (i + j)
unfolding alike_from
entry-alike rowids len i zero j lt = absurd (omega arith)
entry-alike rowids len i (suc n) zero lt = ap (alike_at rowids len) (omega arith)
entry-alike rowids len i (suc n) (suc j) lt = entry-alike rowids len (i + 1) n j (omega arith) ∙ ap (alike_at rowids len) (omega arith)

some_bytes : (rowids : Bool) (len i n : ℕ) → 1 ≤ len → AllByRecursion HasBytes (alike_from rowids len i n)
unfolding alike_from
some_bytes rowids len i zero some = tt
some_bytes rowids len i (suc n) some = (omega (arith, length-replicate {A = ℕ} len (i % 256)), some_bytes rowids len (i + 1) n some)

weights : (rowids : Bool) (len i n : ℕ) → sum_by weight (alike_from rowids len i n) ≡ n * (len + 32)
unfolding alike_from
weights rowids len i zero = omega arith
weights rowids len i (suc n) =
    omega (arith, weights rowids len (i + 1) n, sum_by-cons weight (alike_at rowids len i) (alike_from rowids len (i + 1) n), length-replicate {A = ℕ} len (i % 256))

pub are_alike : (rowids : Bool) (len n : ℕ) → 1 ≤ len → n * (len + 32) ≤ 2 ^ 35 → AreEntries (alike_from rowids len 0 n)
are_alike rowids len n some load = record { some = some_bytes rowids len 0 n some; load = omega (arith, weights rowids len 0 n, load) }

rising : (len i m : ℕ) → RowidsRise (Some (pos i)) (alike_from true len (i + 1) m)
unfolding alike_from
rising len i zero = tt
rising len i (suc m) = (pos (i + 1), refl, omega (arith, ints), rising len (i + 1) m)

pub rise_alike : (len n : ℕ) → RowidsRise None (alike_from true len 0 n)
unfolding alike_from
rise_alike len zero = tt
rise_alike len (suc n) = (pos 0, refl, tt, rising len 0 n)

pub bare_alike : (len i n : ℕ) → HaveNoRowids (alike_from false len i n)
unfolding alike_from
bare_alike len i zero = tt
bare_alike len i (suc n) = (refl, bare_alike len (i + 1) n)

pub bytes-alike : (rowids : Bool) (len n j : ℕ) → j < n → (entry_at (alike_from rowids len 0 n) j).bytes ≡ replicate len (j % 256)
bytes-alike rowids len n j lt = ap (λ (e : Entry). e.bytes) (entry-alike rowids len 0 n j lt) ∙ ap (λ m. replicate len (m % 256)) (omega arith)

pub len-alike : (rowids : Bool) (len n j : ℕ) → j < n → length (entry_at (alike_from rowids len 0 n) j).bytes ≡ len
len-alike rowids len n j lt = ap length (bytes-alike rowids len n j lt) ∙ length-replicate {A = ℕ} len (j % 256)

pub rowid-alike : (rowids : Bool) (len n j : ℕ) → j < n → (entry_at (alike_from rowids len 0 n) j).rowid ≡ (if rowids then Some (pos j) else None)
rowid-alike rowids len n j lt = ap (λ (e : Entry). e.rowid) (entry-alike rowids len 0 n j lt) ∙ ap (λ m. if rowids then Some (pos m) else None) (omega arith)
