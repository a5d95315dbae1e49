-- The shortest record of some values is at most eight times as long as any record of them.
use Rattle.std.proofs.Common.{◌≡◌, ◌<◌, ◌≤◌, inl, inr, ℕ, ◌+◌, ◌*◌, eqb, ltb, true, List, [], ◌∷◌, ◌++◌, length, sum_by, refl, ap, arith, lit≤, length-append, ltb-true, ltb-false}
use Rattle.std.proofs.lemmas.Bool.{cases_Bool}
use Rattle.std.proofs.lemmas.Bool.Decides.{nat_tests}
use Rattle.std.proofs.lemmas.List.Sums.{sum_by-cons}
use Rattle.std.specs.Int.{w64}
use Rattle.byteorder.specs.Endian.{low_bytes}
use Rattle.byteorder.specs.Numbers.{length-bytes_high_first}
use Rattle.varint_core.specs.Shortest.{spell, varint_len}
use Rattle.varint_core.proofs.Laws.{varint_some}
use Rattle.varint_core.proofs.Spelled.{len_is, len_least, length-spell}
use Rattle.record_core.specs.declared.values.Value.{Value}
use Rattle.record_core.specs.declared.values.Value.TheVariants.{Null, Whole, Real8, Text, Blob}
use Rattle.record_core.specs.Record.{body_len, value_len}
use Rattle.record_core.specs.Shortest.{bodies_of, body_of, header_len, record_bytes, serial_type, types_of, whole_type}
use Rattle.record_core.specs.Spelling.{IsBody, IsRecord, SpellsBodies, SpellsTypes}
use Rattle.record_core.proofs.Least.{constant_least, types_least, width_some}
use Rattle.record_core.proofs.Written.{whole_small}

-- ---- a value

body_few : (t : ℕ) → t ≤ 9 → body_len t ≤ 8
unfolding body_len
body_few t le =
    elim (cases_Bool (ltb t 5)) [
      | inl a ↦ rw a (omega (arith, ltb-true t 5 a))
      | inr a ↦ elim (cases_Bool (eqb t 5)) [
        | inl b ↦ rw (a, b) (omega arith)
        | inr b ↦ elim (cases_Bool (ltb t 8)) [
          | inl c ↦ rw (a, b, c) (omega arith)
          | inr c ↦ elim (cases_Bool (ltb t 12)) [ inl d ↦ rw (a, b, c, d) (omega arith) | inr d ↦ rw (a, b, c, d) (omega (arith, le)) ]
        ]
      ]
    ]

-- the body of a value takes eight times as many bytes as any body of it at most
record IsLong (v : Value) (body : List ℕ) : Type 0 where
  bytes : length (body_of v) ≤ 8 * length body
  held : value_len v ≤ length body

value_long : (t : ℕ) (body : List ℕ) (v : Value) → IsBody t body v → IsLong v body
value_long t body Null i = record { bytes = omega arith; held = omega arith }
value_long t body (Whole z) (inl i) = record {
  bytes = omega (
    arith,
    length-bytes_high_first (body_len (whole_type z)) (low_bytes w64 (body_len (whole_type z)) z),
    body_few (whole_type z) (whole_small z),
    (width_some t (length body) i.width).0,
  );
  held = omega arith;
}
value_long t body (Whole z) (inr i) = record {
  bytes = omega (arith, length-bytes_high_first (body_len (whole_type z)) (low_bytes w64 (body_len (whole_type z)) z), constant_least z t i.value);
  held = omega arith;
}
value_long t body (Real8 b) i = record { bytes = omega (arith, ap length i.2); held = omega (arith, ap length i.2) }
value_long t body (Text b) i = record { bytes = omega (arith, ap length i.1); held = omega (arith, ap length i.1) }
value_long t body (Blob b) i = record { bytes = omega (arith, ap length i.1); held = omega (arith, ap length i.1) }

-- ---- a record

-- the same of all values of a record; each of them has a serial type
pub record AreLong (vs : List Value) (spelled filled : List ℕ) : Type 0 where
  pub each : length vs ≤ length (types_of vs)
  pub types : length (types_of vs) ≤ length spelled
  pub bytes : length (bodies_of vs) ≤ 8 * length filled
  pub held : sum_by value_len vs ≤ length filled

values_long : (ts : List ℕ) (vs : List Value) (types bodies : List ℕ) → SpellsTypes types ts → SpellsBodies bodies ts vs → AreLong vs types bodies
values_long ts [] types bodies s b = record { each = omega arith; types = omega arith; bytes = omega arith; held = omega arith }
values_long [] (v ∷ vs) types bodies s b = absurd b
values_long (t ∷ ts) (v ∷ vs) types bodies s b =
    let one = value_long t b.0 v b.3 in
    let more = values_long ts vs s.1 b.1 s.4 b.4 in
    let some = len_is (serial_type v) in
    let type = length-spell (serial_type v) in
    record {
      each = omega (arith, more.each, some.some, type, length-append (spell (serial_type v)) (types_of vs));
      types = types_least (t ∷ ts) (v ∷ vs) types bodies s b;
      bytes = omega (arith, one.bytes, more.bytes, ap length b.2, length-append b.0 b.1, length-append (body_of v) (bodies_of vs));
      held = omega (arith, one.held, more.held, ap length b.2, length-append b.0 b.1, sum_by-cons value_len v vs);
    }

-- the size of a header takes one byte where the serial types take few; else as many as they do at most
head_one : (n : ℕ) → n < 127 → length (spell (header_len n)) ≤ 1
head_one n few =
    let is : header_len n ≡ n + 1 = (let e : ltb n 127 ≡ true = grind (arith, nat_tests, few) in rw e refl) in
    omega (arith, length-spell (header_len n), len_least (header_len n) (varint_len (header_len n)) 1 (len_is (header_len n)) (lit≤ tt) (omega (arith, is, few)))

head_most : (n : ℕ) → length (spell (header_len n)) ≤ 1 + n
head_most n =
    elim (cases_Bool (ltb n 127)) [
      | inl e ↦ omega (arith, head_one n (ltb-true n 127 e))
      | inr e ↦ omega (arith, ltb-false n 127 e, length-spell (header_len n), (len_is (header_len n)).most)
    ]

pub record_few : (vs : List Value) → length (types_of vs) < 127 → length (record_bytes vs) ≤ 1 + length (types_of vs) + length (bodies_of vs)
unfolding record_bytes
record_few vs few = omega (
  arith,
  head_one (length (types_of vs)) few,
  length-append (spell (header_len (length (types_of vs)))) (types_of vs ++ bodies_of vs),
  length-append (types_of vs) (bodies_of vs),
)

record_most : (vs : List Value) → length (record_bytes vs) ≤ 1 + 2 * length (types_of vs) + length (bodies_of vs)
unfolding record_bytes
record_most vs = omega (
  arith,
  head_most (length (types_of vs)),
  length-append (spell (header_len (length (types_of vs)))) (types_of vs ++ bodies_of vs),
  length-append (types_of vs) (bodies_of vs),
)

-- any record of the values has a byte for its size, their serial types and their bodies
pub record HasParts (bytes : List ℕ) (vs : List Value) : Type 0 where
  pub types : List ℕ
  pub bodies : List ℕ
  pub long : AreLong vs types bodies
  pub least : 1 + length types + length bodies ≤ length bytes

pub has_parts : (bytes : List ℕ) (vs : List Value) → IsRecord bytes vs → HasParts bytes vs
has_parts bytes vs r = record {
  types = r.spelled;
  bodies = r.bodies;
  long = values_long r.types vs r.spelled r.bodies r.typed r.filled;
  least = omega (
    arith,
    ap length r.parts,
    length-append r.size (r.spelled ++ (r.bodies ++ r.rest)),
    length-append r.spelled (r.bodies ++ r.rest),
    length-append r.bodies r.rest,
    varint_some r.size _ r.header,
  );
}

-- the shortest record of the values, against any record of them
pub record_small : (bytes : List ℕ) (vs : List Value) → IsRecord bytes vs → length (record_bytes vs) + (7 + 6 * length vs) ≤ 8 * length bytes
record_small bytes vs r =
    let p = has_parts bytes vs r in
    omega (arith, record_most vs, p.long.each, p.long.types, p.long.bytes, p.least)
