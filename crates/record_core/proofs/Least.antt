-- Nothing shorter than what is written spells the values.
use Rattle.std.proofs.Common.{◌≡◌, ◌<◌, ◌≤◌, ◌⊎◌, ℕ, suc, ◌+◌, ◌-◌, ◌*◌, ◌^◌, ℤ, pos, negsuc, ◌-ℤ◌, eqb, ltb, List, [], ◌∷◌, ◌++◌, length, inl, inr, refl, sym, ap, subst, ◌∙◌, arith, lit<, lit≤, append-nil, length-append, get_or-append-add, ltb-true, ltb-false}
use Rattle.std.proofs.Math.ListN.{get_or-eq_default}
use Rattle.std.proofs.Math.Nat.{pow-le-pow_right}
use Rattle.std.proofs.lemmas.Bool.{cases_Bool}
use Rattle.std.proofs.lemmas.Int.{ints}
use Rattle.std.proofs.lemmas.List.{get_or_append_left}
use Rattle.std.specs.Int.{w64}
use Rattle.varint_core.specs.Varint.{IsVarint}
use Rattle.varint_core.specs.Shortest.{spell, varint_len}
use Rattle.varint_core.proofs.Laws.{varint_some}
use Rattle.varint_core.proofs.Spelled.{len_is, len_least, least_by, length-spell}
use Rattle.byteorder.specs.Endian.{big_number, twos_complement, low_bytes}
use Rattle.byteorder.specs.Numbers.{big_from-lt, length-bytes_high_first}
use Rattle.byteorder.proofs.Bytes.{pow256}
use Rattle.record_core.specs.declared.values.Value.{Value}
use Rattle.record_core.specs.declared.values.Value.TheVariants.{Null, Whole, Real8, Text, Blob}
use Rattle.record_core.specs.Record.{body_len}
use Rattle.record_core.specs.Spelling.{AreBytes, IsWidth, IsNumber, IsBody, SpellsTypes, SpellsBodies, IsRecord, IsShortestRecord}
use Rattle.record_core.specs.Shortest.{IsWritable, AllStored, steps, width_type, whole_type, serial_type, body_of, types_of, bodies_of, header_len, record_bytes}
use Rattle.record_core.proofs.Numbers.{halves, test}
use Rattle.record_core.proofs.Written.{whole_small, types_short, record_is, record_len_is, size_is}

-- ---- bytes

front_bytes : (a b : List ℕ) → AreBytes (a ++ b) → AreBytes a
front_bytes a b h k =
    elim (cases_Bool (ltb k (length a))) [
      | inl e ↦ let lt : k < length a = ltb-true k (length a) e in rw (← get_or_append_left a b 0 k lt) (h k)
      | inr e ↦ let past : length a ≤ k = ltb-false k (length a) e in rw (get_or-eq_default a 0 {n = k} past) (lit< tt)
    ]

behind_bytes : (a b : List ℕ) → AreBytes (a ++ b) → AreBytes b
behind_bytes a b h k = rw (← get_or-append-add a b k 0) (h (length a + k))

-- ---- whole numbers

-- a number that n bytes spell in two's complement fits n bytes
twos_steps : (n x : ℕ) → 1 ≤ n → n ≤ 8 → x < 2 ^ (8 * n) → steps (twos_complement n x) < 2 ^ (8 * n - 1)
twos_steps n x one most below =
    let h = halves n one most in
    let p = 2 ^ (8 * n) in
    elim (cases_Bool (ltb x (2 ^ (8 * n - 1)))) [
      | inl e ↦ rw e (ltb-true x (2 ^ (8 * n - 1)) e)
      | inr e ↦
          let high = ltb-false x (2 ^ (8 * n - 1)) e in
          let under : pos x -ℤ pos p ≡ negsuc (p - suc x) = omega (arith, ints) in
          rw (e, under) (omega (arith, h.whole))
    ]

-- where the limits stand that a number reaches
record Limits (n k : ℕ) : Type 0 where
  two : 2 ^ 7 ≤ n → 2 ≤ k
  three : 2 ^ 15 ≤ n → 3 ≤ k
  four : 2 ^ 23 ≤ n → 4 ≤ k
  six : 2 ^ 31 ≤ n → 6 ≤ k
  eight : 2 ^ 47 ≤ n → 8 ≤ k
  one : 1 ≤ k

limits_at : (n k m : ℕ) → k ≡ m → n < 2 ^ (8 * k - 1) → (n < 2 ^ (8 * m - 1) → Limits n m) → Limits n k
limits_at n k m e lt made = rw e (made (subst (λ j. n < 2 ^ (8 * j - 1)) e lt))

limits : (t n k : ℕ) → IsWidth t k → n < 2 ^ (8 * k - 1) → Limits n k
limits t n k (inl w) lt = limits_at n k 1 w.1 lt (λ h. record { two = λ a. absurd (omega arith); three = λ a. absurd (omega arith); four = λ a. absurd (omega arith); six = λ a. absurd (omega arith); eight = λ a. absurd (omega arith); one = omega arith })
limits t n k (inr (inl w)) lt = limits_at n k 2 w.1 lt (λ h. record { two = λ a. omega arith; three = λ a. absurd (omega arith); four = λ a. absurd (omega arith); six = λ a. absurd (omega arith); eight = λ a. absurd (omega arith); one = omega arith })
limits t n k (inr (inr (inl w))) lt = limits_at n k 3 w.1 lt (λ h. record { two = λ a. omega arith; three = λ a. omega arith; four = λ a. absurd (omega arith); six = λ a. absurd (omega arith); eight = λ a. absurd (omega arith); one = omega arith })
limits t n k (inr (inr (inr (inl w)))) lt = limits_at n k 4 w.1 lt (λ h. record { two = λ a. omega arith; three = λ a. omega arith; four = λ a. omega arith; six = λ a. absurd (omega arith); eight = λ a. absurd (omega arith); one = omega arith })
limits t n k (inr (inr (inr (inr (inl w))))) lt = limits_at n k 6 w.1 lt (λ h. record { two = λ a. omega arith; three = λ a. omega arith; four = λ a. omega arith; six = λ a. omega arith; eight = λ a. absurd (omega arith); one = omega arith })
limits t n k (inr (inr (inr (inr (inr w))))) lt = record { two = λ a. omega (arith, w.1); three = λ a. omega (arith, w.1); four = λ a. omega (arith, w.1); six = λ a. omega (arith, w.1); eight = λ a. omega (arith, w.1); one = omega (arith, w.1) }

width_least : (n k : ℕ) → Limits n k → body_len (width_type n) ≤ k
unfolding body_len
width_least n k l =
    let P : ℕ → Type 0 = λ t. body_len t ≤ k in
    test n (2 ^ 7) 1 _ P (λ _. l.one) (λ a.
    test n (2 ^ 15) 2 _ P (λ _. l.two a) (λ b.
    test n (2 ^ 23) 3 _ P (λ _. l.three b) (λ c.
    test n (2 ^ 31) 4 _ P (λ _. l.four c) (λ d.
    test n (2 ^ 47) 5 _ P (λ _. l.six d) (λ e. l.eight e)))))

constant_len : (body_len 8 ≡ 0) × (body_len 9 ≡ 0)
unfolding body_len
constant_len = (refl, refl)

whole_least : (z : ℤ) (k : ℕ) → Limits (steps z) k → body_len (whole_type z) ≤ k
unfolding whole_type
whole_least (negsuc n) k l = width_least n k l
whole_least (pos n) k l =
    elim (cases_Bool (eqb n 0)) [
      | inl e ↦ rw e (omega (arith, constant_len.0))
      | inr e ↦ elim (cases_Bool (eqb n 1)) [ inl f ↦ rw (e, f) (omega (arith, constant_len.1)) | inr f ↦ rw (e, f) (width_least n k l) ]
    ]

-- 0 and 1 have no body
pub constant_least : (z : ℤ) (t : ℕ) → ((t ≡ 8) × (z ≡ pos 0)) ⊎ ((t ≡ 9) × (z ≡ pos 1)) → body_len (whole_type z) ≡ 0
unfolding whole_type body_len
constant_least z t (inl w) = rw w.1 refl
constant_least z t (inr w) = rw w.1 refl

-- a whole number's body has a byte at least and eight at most
pub width_some : (t k : ℕ) → IsWidth t k → (1 ≤ k) × (k ≤ 8)
width_some t k (inl w) = (omega (arith, w.1), omega (arith, w.1))
width_some t k (inr (inl w)) = (omega (arith, w.1), omega (arith, w.1))
width_some t k (inr (inr (inl w))) = (omega (arith, w.1), omega (arith, w.1))
width_some t k (inr (inr (inr (inl w)))) = (omega (arith, w.1), omega (arith, w.1))
width_some t k (inr (inr (inr (inr (inl w))))) = (omega (arith, w.1), omega (arith, w.1))
width_some t k (inr (inr (inr (inr (inr w))))) = (omega (arith, w.1), omega (arith, w.1))

number_least : (t : ℕ) (body : List ℕ) (z : ℤ) → AreBytes body → IsNumber t body z → body_len (whole_type z) ≤ length body
number_least t body z bytes i =
    let n = length body in
    let s = width_some t n i.width in
    let below : big_number n body < 2 ^ (8 * n) = rw (← pow256 n) (big_from-lt 0 n body bytes) in
    let fits : steps z < 2 ^ (8 * n - 1) = subst (λ (y : ℤ). steps y < 2 ^ (8 * n - 1)) (sym i.value) (twos_steps n (big_number n body) s.0 s.1 below) in
    whole_least z n (limits t (steps z) n i.width fits)

-- ---- values

body_least : (t : ℕ) (body : List ℕ) (v : Value) → AreBytes body → IsBody t body v → length (body_of v) ≤ length body
body_least t body Null bytes i = omega arith
body_least t body (Whole z) bytes (inl i) =
    omega (arith, number_least t body z bytes i, length-bytes_high_first (body_len (whole_type z)) (low_bytes w64 (body_len (whole_type z)) z))
body_least t body (Whole z) bytes (inr i) =
    omega (arith, constant_least z t i.value, length-bytes_high_first (body_len (whole_type z)) (low_bytes w64 (body_len (whole_type z)) z))
body_least t body (Real8 b) bytes i = omega (arith, ap length i.2)
body_least t body (Text b) bytes i = omega (arith, ap length i.1)
body_least t body (Blob b) bytes i = omega (arith, ap length i.1)

bodies_least : (ts : List ℕ) (vs : List Value) (bytes : List ℕ) → AreBytes bytes → SpellsBodies bytes ts vs → length (bodies_of vs) ≤ length bytes
bodies_least ts [] bytes all s = omega arith
bodies_least [] (v ∷ vs) bytes all s = absurd s
bodies_least (t ∷ ts) (v ∷ vs) bytes all s =
    let both = subst (λ (b : List ℕ). AreBytes b) s.2 all in
    omega (arith, body_least t s.0 v (front_bytes s.0 s.1 both) s.3, bodies_least ts vs s.1 (behind_bytes s.0 s.1 both) s.4, ap length s.2, length-append s.0 s.1, length-append (body_of v) (bodies_of vs))

-- the varint of the same number is no shorter
same_least : (t u : ℕ) (first : List ℕ) → IsVarint first t → t ≡ u → length (spell u) ≤ length first
same_least t u first s e = rw (← e, length-spell t) (least_by first t s s.end)

one_byte : (t : ℕ) → t ≤ 9 → varint_len t ≡ 1
one_byte t le = let l = len_is t in omega (arith, len_least t (varint_len t) 1 l (lit≤ tt) (omega arith), l.some)

type_least : (t : ℕ) (first body : List ℕ) (v : Value) → IsVarint first t → IsBody t body v → length (spell (serial_type v)) ≤ length first
type_least t first body Null s i = same_least t 0 first s i.0
type_least t first body (Whole z) s i = omega (arith, length-spell (whole_type z), one_byte (whole_type z) (whole_small z), varint_some first t s)
type_least t first body (Real8 b) s i = same_least t 7 first s i.0
type_least t first body (Text b) s i = same_least t _ first s (i.0 ∙ ap (λ n. 2 * n + 13) (sym (ap length i.1)))
type_least t first body (Blob b) s i = same_least t _ first s (i.0 ∙ ap (λ n. 2 * n + 12) (sym (ap length i.1)))

-- the serial types of values take no more bytes than any spelling of types for them
pub types_least : (ts : List ℕ) (vs : List Value) (types bodies : List ℕ) → SpellsTypes types ts → SpellsBodies bodies ts vs → length (types_of vs) ≤ length types
types_least ts [] types bodies s b = omega arith
types_least [] (v ∷ vs) types bodies s b = absurd b
types_least (t ∷ ts) (v ∷ vs) types bodies s b =
    omega (arith, type_least t s.0 b.0 v s.3 b.3, types_least ts vs s.1 b.1 s.4 b.4, ap length s.2, length-append s.0 s.1, length-append (spell (serial_type v)) (types_of vs))

-- ---- the header's size

fits_in : (v j : ℕ) → varint_len v ≤ j → j ≤ 8 → v < 2 ^ (7 * j)
fits_in v j le most =
    let l = len_is v in
    let h : v < 2 ^ (7 * varint_len v) = l.high (omega arith) in
    let more : 2 ^ (7 * varint_len v) ≤ 2 ^ (7 * j) = pow-le-pow_right {n = 2} (lit< tt) {i = 7 * varint_len v} {j = 7 * j} (omega arith) in
    omega arith

at_least_two : (n m k : ℕ) → 127 ≤ n → n ≤ m → 1 ≤ k → varint_len (k + m) ≤ k → 2 ≤ k
at_least_two n m k big le one fits =
    elim (cases_Bool (ltb k 2)) [
      | inl e ↦ let less = ltb-true k 2 e in let below : k + m < 2 ^ (7 * 1) = fits_in (k + m) 1 (omega arith) (lit≤ tt) in absurd (omega arith)
      | inr e ↦ ltb-false k 2 e
    ]

at_least_three : (n m k : ℕ) → 16382 ≤ n → n ≤ m → 2 ≤ k → varint_len (k + m) ≤ k → 3 ≤ k
at_least_three n m k big le two fits =
    elim (cases_Bool (ltb k 3)) [
      | inl e ↦ let less = ltb-true k 3 e in let below : k + m < 2 ^ (7 * 2) = fits_in (k + m) 2 (omega arith) (lit≤ tt) in absurd (omega arith)
      | inr e ↦ ltb-false k 3 e
    ]

-- a longer header's size is spelled in as many bytes at least
size_least : (n m k : ℕ) → n ≤ 36000 → n ≤ m → 1 ≤ k → varint_len (k + m) ≤ k → varint_len (header_len n) ≤ k
size_least n m k few le one fits =
    elim (cases_Bool (ltb n 127)) [
      | inl e ↦ let is : header_len n ≡ n + 1 = rw e refl in omega (arith, size_is n few)
      | inr e ↦ elim (cases_Bool (ltb n 16382)) [
        | inl f ↦
            let is : header_len n ≡ n + 2 = rw (e, f) refl in
            let two : 2 ≤ k = at_least_two n m k (ltb-false n 127 e) le one fits in
            omega (arith, size_is n few)
        | inr f ↦
            let is : header_len n ≡ n + 3 = rw (e, f) refl in
            let two : 2 ≤ k = at_least_two n m k (ltb-false n 127 e) le one fits in
            let three : 3 ≤ k = at_least_three n m k (ltb-false n 16382 f) le two fits in
            omega (arith, size_is n few)
      ]
    ]

-- what is written is the shortest record
pub record_shortest : (vs : List Value) → IsWritable vs → AllStored vs → IsShortestRecord (record_bytes vs) vs
record_shortest vs w all = record {
  spelled = subst (λ (s : List ℕ). IsRecord s vs) (append-nil (record_bytes vs)) (record_is vs [] w all);
  least = λ other bytes r.
      let n = length (types_of vs) in
      let few : n ≤ 36000 = omega (arith, types_short vs, w.few) in
      let parts = subst (λ (s : List ℕ). AreBytes s) r.parts bytes in
      let behind = behind_bytes r.spelled (r.bodies ++ r.rest) (behind_bytes r.size (r.spelled ++ (r.bodies ++ r.rest)) parts) in
      let types : n ≤ length r.spelled = types_least r.types vs r.spelled r.bodies r.typed r.filled in
      let bodies : length (bodies_of vs) ≤ length r.bodies = bodies_least r.types vs r.bodies (front_bytes r.bodies r.rest behind) r.filled in
      let size : varint_len (header_len n) ≤ length r.size =
      size_least n (length r.spelled) (length r.size) few types (varint_some r.size _ r.header) (least_by r.size _ r.header r.header.end) in
      let whole : length other ≡ length r.size + (length r.spelled + (length r.bodies + length r.rest)) =
      ap length r.parts ∙ omega (arith, length-append r.size (r.spelled ++ (r.bodies ++ r.rest)), length-append r.spelled (r.bodies ++ r.rest), length-append r.bodies r.rest) in
      omega (arith, record_len_is vs w.few, size_is n few);
}
