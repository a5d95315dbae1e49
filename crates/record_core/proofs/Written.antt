-- What is written spells the values.
use Rattle.std.proofs.Common.{◌≡◌, ◌<◌, ◌≤◌, ℕ, suc, ◌+◌, ◌*◌, ◌^◌, ℤ, pos, negsuc, eqb, ltb, if◌then◌else◌, List, [], ◌∷◌, ◌++◌, length, map, sum_by, inl, inr, refl, sym, ap, subst, ◌∙◌, arith, lit<, lit≤, append_assoc, length-append, ltb-true, ltb-false}
use Rattle.std.proofs.lemmas.Bool.{cases_Bool}
use Rattle.std.proofs.lemmas.List.Sums.{sum_by-cons}
use Rattle.varint_core.specs.Varint.{IsVarint}
use Rattle.varint_core.specs.Shortest.{spell, varint_len}
use Rattle.varint_core.proofs.Spelled.{len_is, len_exact, spell_is, length-spell}
use Rattle.record_core.specs.declared.values.Value.{Value}
use Rattle.record_core.specs.declared.values.Value.TheVariants.{Null, Whole, Real8, Text, Blob}
use Rattle.record_core.specs.Spelling.{IsBody, SpellsTypes, SpellsBodies, IsRecord}
use Rattle.record_core.specs.Record.{value_len}
use Rattle.record_core.specs.Shortest.{IsStored, AllStored, IsWritable, whole_type, width_type, serial_type, body_of, types_of, bodies_of, header_len, record_bytes}
use Rattle.record_core.proofs.Numbers.{whole_is}

-- a value is spelled by its serial type and body
pub body_is : (v : Value) → IsStored v → IsBody (serial_type v) (body_of v) v
body_is Null s = (refl, refl)
body_is (Whole z) s = whole_is z s
body_is (Real8 bytes) s = (refl, s, refl)
body_is (Text bytes) s = (refl, refl)
body_is (Blob bytes) s = (refl, refl)

width_small : (n : ℕ) → width_type n ≤ 6
width_small n = step (2 ^ 7) 1 _ (lit≤ tt) (step (2 ^ 15) 2 _ (lit≤ tt) (step (2 ^ 23) 3 _ (lit≤ tt) (step (2 ^ 31) 4 _ (lit≤ tt) (step (2 ^ 47) 5 6 (lit≤ tt) (lit≤ tt)))))
  where
    step : (limit t rest : ℕ) → t ≤ 6 → rest ≤ 6 → (if ltb n limit then t else rest) ≤ 6
    step limit t rest a b = elim (cases_Bool (ltb n limit)) [ inl e ↦ rw e a | inr e ↦ rw e b ]

pub whole_small : (z : ℤ) → whole_type z ≤ 9
unfolding whole_type
whole_small (negsuc n) = omega (arith, width_small n)
whole_small (pos n) =
    elim (cases_Bool (eqb n 0)) [
      | inl e ↦ rw e (lit≤ tt)
      | inr e ↦ elim (cases_Bool (eqb n 1)) [ inl f ↦ rw (e, f) (lit≤ tt) | inr f ↦ rw (e, f) (omega (arith, width_small n)) ]
    ]

pub type_small : (v : Value) → value_len v < 2 ^ 40 → serial_type v < 2 ^ 64
type_small Null s = lit< tt
type_small (Whole z) s = omega (arith, whole_small z)
type_small (Real8 bytes) s = lit< tt
type_small (Text bytes) s = omega arith
type_small (Blob bytes) s = omega arith

types_is : (vs : List Value) → sum_by value_len vs < 2 ^ 40 → SpellsTypes (types_of vs) (map serial_type vs)
types_is [] small = refl
types_is (v ∷ vs) small =
    let sum = sum_by-cons value_len v vs in
    (spell (serial_type v), types_of vs, refl, spell_is (serial_type v) (type_small v (omega arith)), types_is vs (omega arith))

bodies_is : (vs : List Value) → AllStored vs → SpellsBodies (bodies_of vs) (map serial_type vs) vs
bodies_is [] all = refl
bodies_is (v ∷ vs) all = (body_of v, bodies_of vs, refl, body_is v (all 0 (omega arith)), bodies_is vs (λ k lt. all (suc k) (omega arith)))

-- ---- the header's size

-- the size of a header counts the bytes that spell it
pub size_is : (n : ℕ) → n ≤ 36000 → varint_len (header_len n) + n ≡ header_len n
size_is n le =
    elim (cases_Bool (ltb n 127)) [
      | inl e ↦ let a = ltb-true n 127 e in rw e (omega (arith, len_exact (n + 1) 1 (lit≤ tt) (lit≤ tt) (omega arith) (omega arith)))
      | inr e ↦ elim (cases_Bool (ltb n 16382)) [
        | inl f ↦ let a = ltb-false n 127 e in let b = ltb-true n 16382 f in rw (e, f) (omega (arith, len_exact (n + 2) 2 (lit≤ tt) (lit≤ tt) (omega arith) (omega arith)))
        | inr f ↦ let b = ltb-false n 16382 f in rw (e, f) (omega (arith, len_exact (n + 3) 3 (lit≤ tt) (lit≤ tt) (omega arith) (omega arith)))
      ]
    ]

header_small : (n : ℕ) → n ≤ 36000 → header_len n < 2 ^ 64
header_small n le = omega (arith, size_is n le, (len_is (header_len n)).most)

-- the serial types take 9 bytes each at most
pub types_short : (vs : List Value) → length (types_of vs) ≤ 9 * length vs
types_short [] = omega arith
types_short (v ∷ vs) =
    omega (arith, types_short vs, length-append (spell (serial_type v)) (types_of vs), length-spell (serial_type v), (len_is (serial_type v)).most)

-- ---- the whole record

pub record_is : (vs : List Value) (rest : List ℕ) → IsWritable vs → AllStored vs → IsRecord (record_bytes vs ++ rest) vs
unfolding record_bytes
record_is vs rest w all =
    let n = length (types_of vs) in
    let few : n ≤ 36000 = omega (arith, types_short vs, w.few) in
    let size = spell (header_len n) in
    let counted : header_len n ≡ length size + n = sym (size_is n few) ∙ ap (λ k. k + n) (sym (length-spell (header_len n))) in
    record {
      types = map serial_type vs;
      size = size;
      spelled = types_of vs;
      bodies = bodies_of vs;
      rest = rest;
      parts = append_assoc size (types_of vs ++ bodies_of vs) rest ∙ ap (λ (t : List ℕ). size ++ t) (append_assoc (types_of vs) (bodies_of vs) rest);
      header = subst (λ k. IsVarint size k) counted (spell_is (header_len n) (header_small n few));
      typed = types_is vs w.small;
      filled = bodies_is vs all;
    }

pub record_len_is : (vs : List Value) → length vs ≤ 4000 → header_len (length (types_of vs)) + length (bodies_of vs) ≡ length (record_bytes vs)
unfolding record_bytes
record_len_is vs w =
    let n = length (types_of vs) in
    let few : n ≤ 36000 = omega (arith, types_short vs, w) in
    omega (arith, length-append (spell (header_len n)) (types_of vs ++ bodies_of vs), length-append (types_of vs) (bodies_of vs), length-spell (header_len n), size_is n few)
