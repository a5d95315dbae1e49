-- What a header that was read says of the payload.
use Rattle.std.proofs.Common.{◌≡◌, ◌≤◌, ℕ, ◌+◌, ◌-◌, Bool, true, false, cond, ltb, ◌||◌, List, length, take, drop, Option, Some, None, Result, Ok, Err, IfOk, refl, ap, subst, ltb-false}
use Rattle.std.proofs.lemmas.Bool.{or_parts}
use Rattle.std.specs.List.{list_any}
use Rattle.varint_core.specs.Varint.{varint_at}
use Rattle.record_core.specs.declared.faults.RecordFault.{RecordFault}
use Rattle.record_core.specs.declared.faults.RecordFault.TheVariants.{HeaderBad, TooManyFields, Reserved, BodyShort}
use Rattle.record_core.specs.declared.spans.Layout.{Layout}
use Rattle.record_core.specs.Record.{Header, and_then, header_types, header_from, header_at, checked, record_header, types_in, bodies_len, is_reserved, values_at}
use Rattle.record_core.specs.Tally.{layout_at, layout_of, HasValues}

abbrev ok_of : {A : Type 0} → A → Result A RecordFault
ok_of x = Ok x

pub ok_is : {A : Type 0} (x y : A) → ok_of x ≡ ok_of y → x ≡ y
ok_is x y e = cc

-- the step before one that did not fail
pub then_ok : {A B : Type 0} (r : Result A RecordFault) (f : A → Result B RecordFault) (y : B) → and_then r f ≡ Ok y → (x : A) × (r ≡ Ok x) × (f x ≡ Ok y)
then_ok (Ok x) f y e = (x, refl, e)
then_ok (Err d) f y e = absurd cc

-- a test that did not fail
pub past : {A : Type 0} (b : Bool) (d : RecordFault) (r : Result A RecordFault) (y : A) → cond b (Err d) r ≡ Ok y → (b ≡ false) × (r ≡ Ok y)
past true d r y e = absurd cc
past false d r y e = (refl, e)

-- a header, in the words of the payload
pub record HasHeader (payload : List ℕ) (h : Header) : Type 0 where
  pub size : varint_at payload ≡ Some (h.size, h.start)
  pub low : h.start ≤ h.size
  pub high : h.size ≤ length payload
  pub types : types_in (take (h.size - h.start) (drop h.start payload)) ≡ Some h.types

types_has : (payload : List ℕ) (v : ℕ × ℕ) (h : Header) (read : Option (List ℕ)) → varint_at payload ≡ Some v → v.1 ≤ v.0 → v.0 ≤ length payload → types_in (take (v.0 - v.1) (drop v.1 payload)) ≡ read → header_types v.1 v.0 read ≡ Ok h → HasHeader payload h
types_has payload v h None at low high is e = absurd cc
types_has payload v h (Some types) at low high is e =
    subst (λ (g : Header). HasHeader payload g) (ok_is (record { start = v.1; size = v.0; types = types }) h e)
    (record { size = at; low = low; high = high; types = is })

header_has : (payload : List ℕ) (h : Header) (o : Option (ℕ × ℕ)) → varint_at payload ≡ o → header_from payload o ≡ Ok h → HasHeader payload h
header_has payload h None at e = absurd cc
header_has payload h (Some v) at e =
    let p = past (ltb v.0 v.1 || ltb (length payload) v.0) HeaderBad (header_types v.1 v.0 (types_in (take (v.0 - v.1) (drop v.1 payload)))) h e in
    let t = or_parts (ltb v.0 v.1) (ltb (length payload) v.0) p.0 in
    types_has payload v h _ at (ltb-false _ _ t.0) (ltb-false _ _ t.1) refl p.1

-- what was read as a header is one
pub header_is : (payload : List ℕ) (h : Header) → header_at payload ≡ Ok h → HasHeader payload h
unfolding header_at
header_is payload h e = header_has payload h (varint_at payload) refl e

-- a header without a fault
pub record HasBodies (payload : List ℕ) (h : Header) : Type 0 where
  pub few : length h.types ≤ 1996
  pub known : list_any is_reserved h.types ≡ false
  pub fits : h.size + bodies_len h.types ≤ length payload

pub checked_is : (payload : List ℕ) (h g : Header) → checked payload h ≡ Ok g → HasBodies payload h × (h ≡ g)
unfolding checked
checked_is payload h g e =
    let a = past (ltb 1996 (length h.types)) TooManyFields _ g e in
    let b = past (list_any is_reserved h.types) Reserved _ g a.1 in
    let c = past (ltb (length payload) (h.size + bodies_len h.types)) BodyShort (Ok h) g b.1 in
    (record { few = ltb-false _ _ a.0; known = b.0; fits = ltb-false _ _ c.0 }, ok_is h g c.1)

-- the header of a record that can be read
pub record HasRecord (payload : List ℕ) (h : Header) : Type 0 where
  pub header : HasHeader payload h
  pub bodies : HasBodies payload h

pub record_header_is : (payload : List ℕ) (h : Header) → record_header payload ≡ Ok h → HasRecord payload h
record_header_is payload h e =
    let a = then_ok (header_at payload) (checked payload) h e in
    let c = checked_is payload a.0 h a.2 in
    subst (λ (g : Header). HasRecord payload g) c.1 (record { header = header_is payload a.0 a.1; bodies = c.0 })

-- a layout that was read says where the values are
pub has_values : (payload : List ℕ) (l : Layout) → layout_of payload ≡ Ok l → HasValues payload l
has_values payload l e =
    let a = then_ok (record_header payload) (λ h. Ok (layout_at h)) l e in
    let r = record_header_is payload a.0 a.1 in
    subst (λ (m : Layout). HasValues payload m) (ok_is (layout_at a.0) l a.2)
    (record {
      types = a.0.types;
      low = r.header.low;
      high = r.header.high;
      read = r.header.types;
      fits = r.bodies.fits;
      values = ap (λ (q : Result Header RecordFault). and_then q (λ h. Ok (values_at payload h))) a.1;
    })

pub layout_has : (payload : List ℕ) (r : Result Layout RecordFault) → layout_of payload ≡ r → IfOk r (λ l. HasValues payload l)
layout_has payload (Ok l) e = has_values payload l e
layout_has payload (Err fault) e = tt
