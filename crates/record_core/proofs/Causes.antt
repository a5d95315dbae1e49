-- Each fault says what is wrong with the payload.
use Rattle.std.proofs.Common.{◌≡◌, ◌⊎◌, ℕ, ◌+◌, ◌-◌, true, false, ltb, eqb, ◌||◌, List, [], ◌∷◌, ◌++◌, length, take, drop, Option, Some, None, Result, Ok, Err, IfErr, inl, inr, refl, sym, ap, subst, ◌∙◌, arith, length-append, length-take, length-drop, take-append-drop, take_at, drop_at, eq-eqb, ltb-true, ltb-false, ne_eqb}
use Rattle.std.proofs.lemmas.Bool.{cases_Bool, or_parts, or_from}
use Rattle.std.specs.List.{AllByRecursion, list_any}
use Rattle.varint_core.specs.Varint.{varint_at, IsVarint}
use Rattle.varint_core.proofs.Laws.{varint_again, varint_found}
use Rattle.record_core.specs.declared.faults.RecordFault.{RecordFault}
use Rattle.record_core.specs.declared.faults.RecordFault.TheVariants.{HeaderBad, TooManyFields, Reserved, BodyShort, Memory}
use Rattle.record_core.specs.Tally.{layout_at, layout_of}
use Rattle.record_core.specs.declared.spans.Layout.{Layout}
use Rattle.record_core.specs.declared.spans.RecordSpans.{RecordSpans}
use Rattle.record_core.specs.declared.values.Value.{Value}
use Rattle.record_core.specs.Record.{Header, and_then, header_types, header_from, header_at, checked, record_header, record_of, spans_of, spans_at, values_at, types_in, bodies_len, is_reserved, Gives}
use Rattle.record_core.specs.Faults.{IsHeader, IsKnown, IsCause}
use Rattle.record_core.proofs.Again.{header_again, types_again}
use Rattle.record_core.proofs.Found.{types_found}
use Rattle.record_core.proofs.Headers.{HasHeader, header_is}

abbrev err_of : {A : Type 0} → RecordFault → Result A RecordFault
err_of f = Err f

err_is : {A : Type 0} (d f : RecordFault) → err_of {A = A} d ≡ err_of f → d ≡ f
err_is d f e = cc

abbrev ok_of : Header → Result Header RecordFault
ok_of h = Ok h

ok_err : (h : Header) (f : RecordFault) → ok_of h ≡ Err f → ⊥
ok_err h f e = cc

-- ---- the header

-- a header that was read begins the payload
header_begins : (payload : List ℕ) (h : Header) → HasHeader payload h → IsHeader payload h.types
header_begins payload h r =
    let size-len : length (take h.start payload) ≡ h.start = omega (arith, length-take h.start payload, r.low, r.high) in
    let types-len : length (take (h.size - h.start) (drop h.start payload)) ≡ h.size - h.start =
    omega (arith, length-take (h.size - h.start) (drop h.start payload), length-drop h.start payload, r.high) in
    let size-is : h.size ≡ length (take h.start payload) + length (take (h.size - h.start) (drop h.start payload)) = omega (arith, r.low) in
    record {
      size = take h.start payload;
      spelled = take (h.size - h.start) (drop h.start payload);
      rest = drop (h.size - h.start) (drop h.start payload);
      parts = sym (take-append-drop h.start payload) ∙ ap (λ (t : List ℕ). take h.start payload ++ t) (sym (take-append-drop (h.size - h.start) (drop h.start payload)));
      header = subst (λ k. IsVarint (take h.start payload) k) size-is (varint_found payload h.size h.start r.size);
      typed = types_found _ _ _ r.types;
    }

-- a header that begins the payload is read
header_read : (payload types : List ℕ) → IsHeader payload types → (h : Header) × (header_at payload ≡ Ok h)
header_read payload types r =
    let n = length r.size + length r.spelled in
    let h : Header = record { start = length r.size; size = n; types = types } in
    let at : varint_at payload ≡ Some (n, length r.size) = ap varint_at r.parts ∙ varint_again r.size (r.spelled ++ r.rest) n r.header in
    let len : length payload ≡ length r.size + (length r.spelled + length r.rest) =
    ap length r.parts ∙ omega (arith, length-append r.size (r.spelled ++ r.rest), length-append r.spelled r.rest) in
    let behind : drop (length r.size) payload ≡ r.spelled ++ r.rest = ap (drop (length r.size)) r.parts ∙ drop_at r.size _ (length r.size) refl in
    let types-at : take (n - length r.size) (drop (length r.size) payload) ≡ r.spelled =
    ap (take (n - length r.size)) behind ∙ take_at r.spelled r.rest (n - length r.size) (omega arith) in
    let read : types_in (take (n - length r.size) (drop (length r.size) payload)) ≡ Some types = ap types_in types-at ∙ types_again types (length r.spelled) r.spelled r.typed (omega arith) in
    (h, header_again payload h at (omega arith) (omega arith) read)

types_fault : (start size : ℕ) (read : Option (List ℕ)) (f : RecordFault) → header_types start size read ≡ Err f → HeaderBad ≡ f
types_fault start size None f e = err_is {A = Header} HeaderBad f e
types_fault start size (Some types) f e = absurd cc

from_fault : (payload : List ℕ) (o : Option (ℕ × ℕ)) (f : RecordFault) → header_from payload o ≡ Err f → HeaderBad ≡ f
from_fault payload None f e = err_is {A = Header} HeaderBad f e
from_fault payload (Some h) f e =
    elim (cases_Bool (ltb h.0 h.1 || ltb (length payload) h.0)) [
      | inl bad ↦ err_is {A = Header} HeaderBad f (rw bad at e)
      | inr fine ↦ types_fault h.1 h.0 _ f (rw fine at e)
    ]

header_fault : (payload : List ℕ) (f : RecordFault) → header_at payload ≡ Err f → HeaderBad ≡ f
unfolding header_at
header_fault payload f e = from_fault payload (varint_at payload) f e

-- ---- the tests behind it

known_all : (types : List ℕ) → list_any is_reserved types ≡ false → AllByRecursion IsKnown types
known_all [] e = tt
known_all (t ∷ ts) e =
    let p = or_parts (is_reserved t) (list_any is_reserved ts) e in
    let q = or_parts (eqb t 10) (eqb t 11) p.0 in (
      λ r. elim r [
        | inl ten ↦ let s : eqb t 10 ≡ true = eq-eqb t 10 ten in let both : true ≡ false = sym s ∙ q.0 in absurd cc
        | inr eleven ↦ let s : eqb t 11 ≡ true = eq-eqb t 11 eleven in let both : true ≡ false = sym s ∙ q.1 in absurd cc
      ],
      known_all ts p.1,
    )

known_none : (types : List ℕ) → AllByRecursion IsKnown types → list_any is_reserved types ≡ false
known_none [] all = refl
known_none (t ∷ ts) all =
    or_from (is_reserved t) (list_any is_reserved ts)
    (or_from (eqb t 10) (eqb t 11) (ne_eqb t 10 (λ e. all.0 (inl e))) (ne_eqb t 11 (λ e. all.0 (inr e))))
    (known_none ts all.1)

rest_len : (payload : List ℕ) (h : Header) (r : HasHeader payload h) → length (header_begins payload h r).rest ≡ length payload - h.size
unfolding header_begins
rest_len payload h r = omega (arith, length-drop (h.size - h.start) (drop h.start payload), length-drop h.start payload, r.low, r.high)

checked_cause : (payload : List ℕ) (h : Header) (f : RecordFault) → HasHeader payload h → checked payload h ≡ Err f → IsCause payload f
unfolding checked
checked_cause payload h f r e =
    elim (cases_Bool (ltb 1996 (length h.types))) [
      | inl many ↦ subst (λ (g : RecordFault). IsCause payload g) (err_is {A = Header} TooManyFields f (rw many at e)) (h.types, header_begins payload h r, ltb-true 1996 (length h.types) many)
      | inr few ↦ elim (cases_Bool (list_any is_reserved h.types)) [
        | inl bad ↦ subst (λ (g : RecordFault). IsCause payload g) (err_is {A = Header} Reserved f (rw (few, bad) at e)) (
          h.types,
          record {
            header = header_begins payload h r;
            few = ltb-false 1996 (length h.types) few;
            reserved = λ all. let both : true ≡ false = sym bad ∙ known_none h.types all in absurd cc;
          },
        )
        | inr known ↦ elim (cases_Bool (ltb (length payload) (h.size + bodies_len h.types))) [
          | inl short ↦ subst (λ (g : RecordFault). IsCause payload g) (err_is {A = Header} BodyShort f (rw (few, known, short) at e)) (
            h.types,
            record {
              header = header_begins payload h r;
              few = ltb-false 1996 (length h.types) few;
              known = known_all h.types known;
              short = omega (arith, rest_len payload h r, ltb-true (length payload) (h.size + bodies_len h.types) short, r.high);
            },
          )
          | inr fits ↦ absurd (ok_err h f (rw (few, known, fits) at e))
        ]
      ]
    ]

header_cause : (payload : List ℕ) (q : Result Header RecordFault) (f : RecordFault) → header_at payload ≡ q → and_then q (checked payload) ≡ Err f → IsCause payload f
header_cause payload (Ok h) f at e = checked_cause payload h f (header_is payload h at) e
header_cause payload (Err d) f at e =
    let d-is : d ≡ f = err_is {A = Header} d f e in
    let bad : HeaderBad ≡ f = header_fault payload f (at ∙ e) in
    subst (λ (g : RecordFault). IsCause payload g) bad (λ types r. let h = header_read payload types r in let both : ok_of h.0 ≡ Err d = sym h.1 ∙ at in ok_err h.0 d both)

-- the fault of a header says what is wrong
record_cause : (payload : List ℕ) (f : RecordFault) → record_header payload ≡ Err f → IsCause payload f
record_cause payload f e = header_cause payload (header_at payload) f refl e

-- what comes after a step that did not fail did not fail
kept_fault : {A B : Type 0} (q : Result A RecordFault) (next : A → B) (f : RecordFault) → and_then q (λ x. Ok (next x)) ≡ Err f → q ≡ Err f
kept_fault (Ok x) next f e = absurd cc
kept_fault (Err d) next f e = ap err_of (err_is d f e)

read_cause : (payload : List ℕ) (f : RecordFault) → record_of payload ≡ Err f → IsCause payload f
read_cause payload f e = record_cause payload f (kept_fault (record_header payload) (values_at payload) f e)

pub answer_fault : {X : Type 0} (view : X → List Value) (payload : List ℕ) (r : Result X RecordFault) → Gives view r (record_of payload) → IfErr r (λ f. (f ≡ Memory) ⊎ IsCause payload f)
answer_fault view payload (Ok x) e = tt
answer_fault view payload (Err HeaderBad) e = inr (read_cause payload HeaderBad e)
answer_fault view payload (Err TooManyFields) e = inr (read_cause payload TooManyFields e)
answer_fault view payload (Err Reserved) e = inr (read_cause payload Reserved e)
answer_fault view payload (Err BodyShort) e = inr (read_cause payload BodyShort e)
answer_fault view payload (Err Memory) e = inl refl

pub spans_fault : (payload : List ℕ) (r : Result RecordSpans RecordFault) → r ≡ spans_of payload → IfErr r (IsCause payload)
spans_fault payload (Ok s) e = tt
spans_fault payload (Err f) e = record_cause payload f (kept_fault (record_header payload) spans_at f (sym e))

-- no fault of the payload is want of memory
pub layout_fault : (payload : List ℕ) (r : Result Layout RecordFault) → r ≡ layout_of payload → r ≡ Err Memory → ⊥
layout_fault payload r e f = record_cause payload Memory (kept_fault (record_header payload) layout_at Memory (sym e ∙ f))
