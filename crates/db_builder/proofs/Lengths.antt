-- The lengths of records, and values that a record can be written of.
use Rattle.std.proofs.Common.{◌≡◌, ◌≤◌, ◌<◌, ◌^◌, ℕ, pos, Bool, true, false, List, [], ◌∷◌, ◌++◌, length, sum_by, arith, length-append}
use Rattle.std.specs.Prelude.{if◌then◌else◌, nat_lt, ◌==◌}
use Rattle.std.specs.Int.{w64}
use Rattle.std.proofs.lemmas.Bool.{lt-ltb}
use Rattle.std.proofs.lemmas.List.Sums.{sum_by-cons}
use Rattle.byteorder.specs.Endian.{low_bytes}
use Rattle.byteorder.specs.Numbers.{length-bytes_high_first}
use Rattle.varint_core.specs.Shortest.{spell}
use Rattle.varint_core.proofs.Spelled.{len_is, length-spell}
use Rattle.record_core.specs.declared.values.Value.{Value}
use Rattle.record_core.specs.declared.values.Value.TheVariants.{Null, Whole, Real8, Text, Blob}
use Rattle.record_core.specs.Record.{body_len, value_len}
use Rattle.record_core.specs.Shortest.{IsWritable, bodies_of, body_of, header_len, record_bytes, types_of, whole_type, width_type}

value_within : (v : Value) → value_len v ≤ length (body_of v)
value_within Null = omega arith
value_within (Whole z) = omega arith
value_within (Real8 bytes) = omega arith
value_within (Text bytes) = omega arith
value_within (Blob bytes) = omega arith

values_within : (vs : List Value) → sum_by value_len vs ≤ length (bodies_of vs)
values_within [] = omega arith
values_within (v ∷ vs) =
    omega (arith, sum_by-cons value_len v vs, value_within v, values_within vs, length-append (body_of v) (bodies_of vs))

bodies_within : (vs : List Value) → length (bodies_of vs) ≤ length (record_bytes vs)
unfolding record_bytes
bodies_within vs =
    omega (arith, length-append (spell (header_len (length (types_of vs)))) (types_of vs ++ bodies_of vs), length-append (types_of vs) (bodies_of vs))

-- a record has a byte
pub record_some : (vs : List Value) → 1 ≤ length (record_bytes vs)
unfolding record_bytes
record_some vs =
    let n = header_len (length (types_of vs)) in
    omega (arith, length-append (spell n) (types_of vs ++ bodies_of vs), length-spell n, (len_is n).some)

-- values whose record is short can be written
pub writable : (vs : List Value) → length vs ≤ 4000 → length (record_bytes vs) ≤ 2 ^ 35 → IsWritable vs
writable vs few short = record { few = few; small = omega (arith, values_within vs, bodies_within vs, short) }

-- ---- a root of four bytes at most

small_type : (n : ℕ) → n < 2 ^ 31 → body_len (width_type n) ≤ 4
unfolding body_len
small_type n lt =
    pick (nat_lt n (2 ^ 7)) 1 _ (omega arith) (pick (nat_lt n (2 ^ 15)) 2 _ (omega arith) (pick (nat_lt n (2 ^ 23)) 3 _ (omega arith)
    (last (nat_lt n (2 ^ 31)) _ (lt-ltb n (2 ^ 31) lt))))
  where
    pick : (b : Bool) (t rest : ℕ) → body_len t ≤ 4 → body_len rest ≤ 4 → body_len (if b then t else rest) ≤ 4
    pick true t rest x y = x
    pick false t rest x y = y

    last : (b : Bool) (rest : ℕ) → b ≡ true → body_len (if b then 4 else rest) ≤ 4
    last true rest e = omega arith
    last false rest e = absurd cc

-- the body of a number below 2 ^ 31
pub short_body : (n : ℕ) → n < 2 ^ 31 → length (body_of (Whole (pos n))) ≤ 4
unfolding whole_type body_len
short_body n lt = omega (arith, length-bytes_high_first (body_len (whole_type (pos n))) (low_bytes w64 (body_len (whole_type (pos n))) (pos n)), by (n == 0) (n == 1))
  where
    by : (a b : Bool) → body_len (if a then 8 else (if b then 9 else width_type n)) ≤ 4
    by true b = omega arith
    by false true = omega arith
    by false false = small_type n lt
