-- What the payload spells is read.
use Rattle.std.proofs.Common.{◌≡◌, ◌≤◌, ℕ, ◌+◌, ◌-◌, false, ltb, List, [], ◌∷◌, ◌++◌, length, take, drop, Some, Result, Ok, refl, sym, ap, subst, ◌∙◌, arith, option_map, append_assoc, length-append, take_at, drop_at, le-ltb}
use Rattle.std.proofs.lemmas.Bool.{or_from}
use Rattle.std.proofs.lemmas.List.Sums.{sum_by-cons}
use Rattle.std.specs.List.{list_any}
use Rattle.varint_core.specs.Varint.{varint_at}
use Rattle.varint_core.proofs.Laws.{varint_again, varint_some}
use Rattle.record_core.specs.declared.faults.RecordFault.{RecordFault}
use Rattle.record_core.specs.declared.spans.RecordSpans.{RecordSpans}
use Rattle.record_core.specs.declared.values.Value.{Value}
use Rattle.record_core.specs.Record.{Header, and_then, header_at, checked, varints_in, types_in, body_len, bodies_len, is_reserved, values_of, value_of, values_at, record_header, record_of, spans_at, spans_of, Gives}
use Rattle.record_core.specs.Spelling.{SpellsTypes, SpellsBodies, IsRecord, spans_in}
use Rattle.record_core.proofs.Bodies.{body_again}
use Rattle.record_core.proofs.Headers.{ok_is}
use Rattle.record_core.proofs.Types.{no_bytes, first_type}

-- the varints that fill the bytes are read
pub types_again : (ts : List ℕ) (fuel : ℕ) (bytes : List ℕ) → SpellsTypes bytes ts → length bytes ≤ fuel → varints_in fuel bytes ≡ Some ts
types_again [] fuel bytes s le = no_bytes fuel bytes (ap length s)
types_again (t ∷ ts) fuel bytes s le =
    let first = s.0 in
    let one = varint_some first t s.3 in
    let len : length bytes ≡ length first + length s.1 = ap length s.2 ∙ length-append first s.1 in
    let at : varint_at bytes ≡ Some (t, length first) = ap varint_at s.2 ∙ varint_again first s.1 t s.3 in
    let f = first_type fuel bytes t (length first) (omega arith) le at one in
    let behind : drop (length first) bytes ≡ s.1 = ap (drop (length first)) s.2 ∙ drop_at first s.1 (length first) refl in
    let enough : length s.1 ≤ f.left = omega (arith, f.enough, ap length behind) in
    f.all ∙ ap (λ (b : List ℕ). option_map (λ us. t ∷ us) (varints_in f.left b)) behind
    ∙ ap (option_map (λ us. t ∷ us)) (types_again ts f.left s.1 s.4 enough)

-- what reading gives for serial types and their bodies
pub record ReadsAll (ts bodies rest : List ℕ) (vs : List Value) : Type 0 where
  pub len : bodies_len ts ≡ length bodies
  pub known : list_any is_reserved ts ≡ false
  pub count : length ts ≡ length vs
  pub values : values_of ts (bodies ++ rest) ≡ vs

pub bodies_again : (ts : List ℕ) (vs : List Value) (bodies rest : List ℕ) → SpellsBodies bodies ts vs → ReadsAll ts bodies rest vs
bodies_again [] [] bodies rest s = record { len = sym (ap length s); known = refl; count = refl; values = refl }
bodies_again [] (v ∷ vs) bodies rest s = absurd s
bodies_again (t ∷ ts) [] bodies rest s = absurd s
bodies_again (t ∷ ts) (v ∷ vs) bodies rest s =
    let first = s.0 in
    let b = body_again t first v s.3 in
    let r = bodies_again ts vs s.1 rest s.4 in
    let apart : bodies ++ rest ≡ first ++ (s.1 ++ rest) = ap (λ (x : List ℕ). x ++ rest) s.2 ∙ append_assoc first s.1 rest in
    let front : take (body_len t) (bodies ++ rest) ≡ first = ap (take (body_len t)) apart ∙ take_at first (s.1 ++ rest) (body_len t) (sym b.len) in
    let behind : drop (body_len t) (bodies ++ rest) ≡ s.1 ++ rest = ap (drop (body_len t)) apart ∙ drop_at first (s.1 ++ rest) (body_len t) (sym b.len) in
    record {
      len = sum_by-cons body_len t ts ∙ omega (arith, b.len, r.len, ap length s.2, length-append first s.1);
      known = or_from (is_reserved t) (list_any is_reserved ts) b.known r.known;
      count = omega (arith, r.count);
      values = ap (λ (x : List ℕ). value_of t x ∷ values_of ts (drop (body_len t) (bodies ++ rest))) front
          ∙ ap (λ (x : List ℕ). value_of t first ∷ values_of ts x) behind
          ∙ ap (λ (x : Value). x ∷ values_of ts (s.1 ++ rest)) b.value
          ∙ ap (λ (x : List Value). v ∷ x) r.values;
    }

-- the header that is spelled is read
pub header_again : (payload : List ℕ) (h : Header) → varint_at payload ≡ Some (h.size, h.start) → h.start ≤ h.size → h.size ≤ length payload → types_in (take (h.size - h.start) (drop h.start payload)) ≡ Some h.types → header_at payload ≡ Ok h
unfolding header_at
header_again payload h at low high types =
    let a : ltb h.size h.start ≡ false = le-ltb h.size h.start low in
    let b : ltb (length payload) h.size ≡ false = le-ltb (length payload) h.size high in
    rw (at, a, b, types) refl

checked_again : (payload : List ℕ) (h : Header) → length h.types ≤ 1996 → list_any is_reserved h.types ≡ false → h.size + bodies_len h.types ≤ length payload → checked payload h ≡ Ok h
unfolding checked
checked_again payload h few known fits =
    let a : ltb 1996 (length h.types) ≡ false = le-ltb 1996 (length h.types) few in
    let b : ltb (length payload) (h.size + bodies_len h.types) ≡ false = le-ltb (length payload) (h.size + bodies_len h.types) fits in
    rw (a, known, b) refl

-- the header that a record's bytes spell
abbrev pub header_of : {payload : List ℕ} {vs : List Value} → IsRecord payload vs → Header
header_of r = record { start = length r.size; size = length r.size + length r.spelled; types = r.types }

-- what reading gives for a record, however many values it has
pub record Told (payload : List ℕ) (vs : List Value) (r : IsRecord payload vs) : Type 0 where
  pub header : header_at payload ≡ Ok (header_of r)
  pub values : values_at payload (header_of r) ≡ vs
  pub count : length r.types ≡ length vs
  pub known : list_any is_reserved r.types ≡ false
  pub used : bodies_len r.types ≡ length r.bodies
  pub fits : length r.size + length r.spelled + bodies_len r.types ≤ length payload

pub told : (payload : List ℕ) (vs : List Value) (r : IsRecord payload vs) → Told payload vs r
told payload vs r =
    let n = length r.size + length r.spelled in
    let h = header_of r in
    let at : varint_at payload ≡ Some (n, length r.size) = ap varint_at r.parts ∙ varint_again r.size (r.spelled ++ (r.bodies ++ r.rest)) n r.header in
    let len : length payload ≡ length r.size + (length r.spelled + (length r.bodies + length r.rest)) =
    ap length r.parts ∙ omega (arith, length-append r.size (r.spelled ++ (r.bodies ++ r.rest)), length-append r.spelled (r.bodies ++ r.rest), length-append r.bodies r.rest) in
    let b = bodies_again r.types vs r.bodies r.rest r.filled in
    let behind-size : drop (length r.size) payload ≡ r.spelled ++ (r.bodies ++ r.rest) = ap (drop (length r.size)) r.parts ∙ drop_at r.size _ (length r.size) refl in
    let types-at : take (n - length r.size) (drop (length r.size) payload) ≡ r.spelled =
    ap (take (n - length r.size)) behind-size ∙ take_at r.spelled (r.bodies ++ r.rest) (n - length r.size) (omega arith) in
    let behind : drop n payload ≡ r.bodies ++ r.rest =
    ap (drop n) (r.parts ∙ sym (append_assoc r.size r.spelled (r.bodies ++ r.rest))) ∙ drop_at (r.size ++ r.spelled) (r.bodies ++ r.rest) n (length-append r.size r.spelled) in
    let types : types_in (take (n - length r.size) (drop (length r.size) payload)) ≡ Some r.types = ap types_in types-at ∙ types_again r.types (length r.spelled) r.spelled r.typed (omega arith) in
    record {
      header = header_again payload h at (omega arith) (omega arith) types;
      values = ap (λ (x : List ℕ). values_of r.types x) behind ∙ b.values;
      count = b.count;
      known = b.known;
      used = b.len;
      fits = omega (arith, b.len);
    }

-- a record with few values has a header without a fault
read_few : (payload : List ℕ) (vs : List Value) (r : IsRecord payload vs) → length vs ≤ 1996 → record_header payload ≡ Ok (header_of r)
read_few payload vs r few =
    let t = told payload vs r in
    ap (λ (q : Result Header RecordFault). and_then q (checked payload)) t.header
    ∙ checked_again payload (header_of r) (omega (arith, t.count)) t.known t.fits

-- a payload spells at most one list of values
pub record_once : (payload : List ℕ) (vs ws : List Value) → IsRecord payload vs → IsRecord payload ws → vs ≡ ws
record_once payload vs ws r q =
    let t = told payload vs r in
    let u = told payload ws q in
    let same : header_of r ≡ header_of q = ok_is (header_of r) (header_of q) (sym t.header ∙ u.header) in
    sym t.values ∙ ap (values_at payload) same ∙ u.values

-- a record with few values is read
pub record_again : (payload : List ℕ) (vs : List Value) → IsRecord payload vs → length vs ≤ 1996 → record_of payload ≡ Ok vs
record_again payload vs r few =
    let t = told payload vs r in
    ap (λ (q : Result Header RecordFault). and_then q (λ h. Ok (values_at payload h))) (read_few payload vs r few) ∙ ap (λ (x : List Value). Ok x) t.values

-- so are its sizes
pub spans_again : (payload : List ℕ) (vs : List Value) (r : IsRecord payload vs) → length vs ≤ 1996 → spans_of payload ≡ Ok (spans_in r)
spans_again payload vs r few =
    let t = told payload vs r in
    let make : ℕ → ℕ → RecordSpans = λ n m. record { fields = n; header = length r.size + length r.spelled; used = length r.size + length r.spelled + m } in
    ap (λ (q : Result Header RecordFault). and_then q (λ h. Ok (spans_at h))) (read_few payload vs r few)
    ∙ ap (λ n. Ok (make n (bodies_len r.types))) t.count ∙ ap (λ m. Ok (make (length vs) m)) t.used

-- what a call answers that gives what the reading gives
pub answer_only : {X : Type 0} (view : X → List Value) (payload : List ℕ) (r : Result X RecordFault) → Gives view r (record_of payload) → (vs : List Value) → IsRecord payload vs → length vs ≤ 1996 → Gives view r (Ok vs)
answer_only view payload r gives vs is few = subst (λ (q : Result (List Value) RecordFault). Gives view r q) (record_again payload vs is few) gives
