-- What is read is a spelling, and each spelling is read, whatever follows it.
use Rattle.std.proofs.Common.{◌≡◌, ◌<◌, ◌≤◌, ◌⊎◌, ◌↔◌, ℕ, ◌+◌, ◌*◌, ◌%◌, Bool, true, false, cond, eqb, ltb, List, [], ◌∷◌, ◌++◌, length, take, drop, Option, Some, None, IfSome, IsNone, inl, inr, refl, sym, ap, subst, ◌∙◌, arith, append_assoc, append-nil, length-append, add-zero, take_at, eqb-true, ltb-true, ltb-false, le-ltb, lt-ltb, ne_eqb, eq-eqb}
use Rattle.std.proofs.lemmas.Bool.{cases_Bool}
use Rattle.std.proofs.lemmas.List.{nil_from_length}
use Rattle.std.specs.List.{AllByRecursion}
use Rattle.varint_core.specs.Varint.{Continues, sevens, EndsEarly, EndsNinth, IsVarint, EndsInside, IsReadWhole, varint_from, varint_at}

abbrev some_of : ℕ → ℕ → Option (ℕ × ℕ)
some_of v n = Some (v, n)

some_is : (v n w m : ℕ) → some_of v n ≡ some_of w m → (v ≡ w) × (n ≡ m)
some_is v n w m e =
    let same : Rattle.std.proofs.Common.◌≡◌ {A = ℕ × ℕ} (v, n) (w, m) = cc in
    (ap (λ (p : ℕ × ℕ). p.0) same, ap (λ (p : ℕ × ℕ). p.1) same)

sevens-push : (front : List ℕ) (high byte : ℕ) → sevens (front ++ byte ∷ []) high ≡ sevens front high * 128 + byte % 128
sevens-push [] high byte = refl
sevens-push (b ∷ bs) high byte = sevens-push bs (high * 128 + b % 128) byte

continues-push : (front : List ℕ) (byte : ℕ) → AllByRecursion Continues front → 128 ≤ byte → AllByRecursion Continues (front ++ byte ∷ [])
continues-push [] byte all more = (more, tt)
continues-push (b ∷ bs) byte all more = (all.0, continues-push bs byte all.1 more)

-- bytes that continue, with their number, before bytes that are still to be read
pub record Read (front : List ℕ) (k high : ℕ) : Type 0 where
  pub count : k ≡ length front
  pub number : high ≡ sevens front 0
  pub continued : AllByRecursion Continues front
  pub few : k ≤ 8

read-push : (front : List ℕ) (k high byte : ℕ) → Read front k high → eqb k 8 ≡ false → 128 ≤ byte → Read (front ++ byte ∷ []) (k + 1) (high * 128 + byte % 128)
read-push front k high byte r ninth more = record {
  count = omega (arith, r.count, length-append front (byte ∷ []));
  number = ap (λ h. h * 128 + byte % 128) r.number ∙ sym (sevens-push front 0 byte);
  continued = continues-push front byte r.continued more;
  few = let other : k ≡ 8 → ⊥ = λ e. let t : eqb k 8 ≡ true = eq-eqb k 8 e in let both : true ≡ false = sym t ∙ ninth in absurd cc in omega (arith, r.few, other);
}

-- the front and one byte more are the first bytes
first_bytes : (front : List ℕ) (byte : ℕ) (bytes : List ℕ) (n : ℕ) → n ≡ length front + 1 → take n (front ++ byte ∷ bytes) ≡ front ++ byte ∷ []
first_bytes front byte bytes n e =
    ap (take n) (sym (append_assoc front (byte ∷ []) bytes)) ∙ take_at (front ++ byte ∷ []) bytes n (omega (arith, length-append front (byte ∷ [])))

-- what was read is spelled by the first bytes
from_found : (front bytes : List ℕ) (k high v n : ℕ) → Read front k high → varint_from k high bytes ≡ Some (v, n) → IsVarint (take n (front ++ bytes)) v
from_found front [] k high v n r e = absurd cc
from_found front (b ∷ bs) k high v n r e =
    elim (cases_Bool (eqb k 8)) [
      | inl ninth ↦
          let p = some_is (high * 256 + b) 9 v n (rw ninth at e) in
          let k-is : k ≡ 8 = eqb-true k 8 ninth in
          record {
            front = front;
            last = b;
            parts = first_bytes front b bs n (omega (arith, r.count, p.1));
            continued = r.continued;
            end = inr (record { eight = omega (arith, r.count); number = sym p.0 ∙ ap (λ h. h * 256 + b) r.number });
          }
      | inr other ↦ elim (cases_Bool (ltb b 128)) [
        | inl last ↦
            let p = some_is (high * 128 + b) (k + 1) v n (rw (other, last) at e) in
            let k-other : k ≡ 8 → ⊥ = λ k-is. let t : eqb k 8 ≡ true = eq-eqb k 8 k-is in let both : true ≡ false = sym t ∙ other in absurd cc in
            record {
              front = front;
              last = b;
              parts = first_bytes front b bs n (omega (arith, r.count, p.1));
              continued = r.continued;
              end = inl (record { short = omega (arith, r.count, r.few, k-other); ends = ltb-true b 128 last; number = sym p.0 ∙ ap (λ h. h * 128 + b) r.number });
            }
        | inr more ↦
            let after = read-push front k high b r other (ltb-false b 128 more) in
            subst (λ (t : List ℕ). IsVarint (take n t) v) (append_assoc front (b ∷ []) bs)
            (from_found (front ++ b ∷ []) bs (k + 1) (high * 128 + b % 128) v n after (rw (other, more) at e))
      ]
    ]

-- nothing was read where the bytes end inside a spelling
from_none : (front bytes : List ℕ) (k high : ℕ) → Read front k high → varint_from k high bytes ≡ None → EndsInside (front ++ bytes)
from_none front [] k high r e = rw append-nil (record { continued = r.continued; short = omega (arith, r.count, r.few) })
from_none front (b ∷ bs) k high r e =
    elim (cases_Bool (eqb k 8)) [
      | inl ninth ↦ let bad : some_of (high * 256 + b) 9 ≡ None = rw ninth at e in absurd cc
      | inr other ↦ elim (cases_Bool (ltb b 128)) [
        | inl last ↦ let bad : some_of (high * 128 + b) (k + 1) ≡ None = rw (other, last) at e in absurd cc
        | inr more ↦
            subst (λ (t : List ℕ). EndsInside t) (append_assoc front (b ∷ []) bs)
            (from_none (front ++ b ∷ []) bs (k + 1) (high * 128 + b % 128) (read-push front k high b r other (ltb-false b 128 more)) (rw (other, more) at e))
      ]
    ]

read-start : Read [] 0 0
read-start = record { count = refl; number = refl; continued = tt; few = omega arith }

-- a varint that was read is spelled by its bytes
pub varint_found : (bytes : List ℕ) (v n : ℕ) → varint_at bytes ≡ Some (v, n) → IsVarint (take n bytes) v
unfolding varint_at
varint_found bytes v n e = from_found [] bytes 0 0 v n read-start e

pub varint_none : (bytes : List ℕ) → varint_at bytes ≡ None → EndsInside bytes
unfolding varint_at
varint_none bytes e = from_none [] bytes 0 0 read-start e

-- bytes that continue are read one after another
over_front : (front rest : List ℕ) (k high : ℕ) → AllByRecursion Continues front → k + length front ≤ 8 → varint_from k high (front ++ rest) ≡ varint_from (k + length front) (sevens front high) rest
over_front [] rest k high all le = ap (λ n. varint_from n high rest) (sym (add-zero k))
over_front (b ∷ bs) rest k high all le =
    let other : eqb k 8 ≡ false = ne_eqb k 8 (omega arith) in
    let more : ltb b 128 ≡ false = le-ltb b 128 all.0 in
    let on : (k + 1) + length bs ≡ k + length (b ∷ bs) = omega arith in
    rw (other, more) (over_front bs rest (k + 1) (high * 128 + b % 128) all.1 (omega arith) ∙ ap (λ n. varint_from n (sevens bs (high * 128 + b % 128)) rest) on)

-- the last byte of a spelling is read
again_end : (front : List ℕ) (last : ℕ) (rest : List ℕ) (v n : ℕ) → AllByRecursion Continues front → n ≡ length front + 1 → EndsEarly front last v ⊎ EndsNinth front last v → varint_from 0 0 (front ++ last ∷ rest) ≡ Some (v, n)
again_end front last rest v n all len (inl early) =
    let other : eqb (0 + length front) 8 ≡ false = ne_eqb (0 + length front) 8 (omega (arith, early.short)) in
    let ends : ltb last 128 ≡ true = lt-ltb last 128 early.ends in
    let len-is : (0 + length front) + 1 ≡ n = omega arith in
    over_front front (last ∷ rest) 0 0 all (omega (arith, early.short))
    ∙ rw (other, ends) (ap (λ x. Some (x, (0 + length front) + 1)) (sym early.number) ∙ ap (λ x. Some (v, x)) len-is)
again_end front last rest v n all len (inr ninth) =
    let there : eqb (0 + length front) 8 ≡ true = eq-eqb (0 + length front) 8 (omega (arith, ninth.eight)) in
    let len-is : 9 ≡ n = omega (arith, ninth.eight) in
    over_front front (last ∷ rest) 0 0 all (omega (arith, ninth.eight))
    ∙ rw there (ap (λ x. Some (x, 9)) (sym ninth.number) ∙ ap (λ x. Some (v, x)) len-is)

-- a spelling is read, whatever follows it
pub varint_again : (bytes rest : List ℕ) (v : ℕ) → IsVarint bytes v → varint_at (bytes ++ rest) ≡ Some (v, length bytes)
unfolding varint_at
varint_again bytes rest v s =
    let len : length bytes ≡ length s.front + 1 = ap length s.parts ∙ length-append s.front (s.last ∷ []) in
    let apart : bytes ++ rest ≡ s.front ++ (s.last ∷ rest) = ap (λ (t : List ℕ). t ++ rest) s.parts ∙ append_assoc s.front (s.last ∷ []) rest in
    ap (varint_from 0 0) apart ∙ again_end s.front s.last rest v (length bytes) s.continued len s.end

pub varint_inside : (bytes : List ℕ) → EndsInside bytes → varint_at bytes ≡ None
unfolding varint_at
varint_inside bytes i =
    ap (varint_from 0 0) (sym (append-nil bytes)) ∙ over_front bytes [] 0 0 i.continued (omega (arith, i.short))

-- ---- what a call answered

pub read_found : (bytes : List ℕ) (read : Option (ℕ × ℕ)) → read ≡ varint_at bytes → IfSome read (λ v. IsVarint (take v.1 bytes) v.0)
read_found bytes None e = tt
read_found bytes (Some v) e = varint_found bytes v.0 v.1 (sym e)

pub read_only : (bytes : List ℕ) (read : Option (ℕ × ℕ)) → read ≡ varint_at bytes → IsReadWhole bytes read
read_only bytes read e s rest v spelled parts = e ∙ ap varint_at parts ∙ varint_again s rest v spelled

is_none : {A : Type 0} (read : Option A) → IsNone read → read ≡ None
is_none None h = refl
is_none (Some v) h = absurd cc

pub read_none : (bytes : List ℕ) (read : Option (ℕ × ℕ)) → read ≡ varint_at bytes → IsNone read ↔ EndsInside bytes
read_none bytes read e =
    (λ h. varint_none bytes (sym e ∙ is_none read h), λ h. let none : read ≡ None = e ∙ varint_inside bytes h in rw none refl)

-- ---- no spelling begins another

pub no_more : (s rest : List ℕ) (v w : ℕ) → IsVarint s v → IsVarint (s ++ rest) w → rest ≡ []
no_more s rest v w one two =
    let whole : varint_at (s ++ rest) ≡ Some (w, length (s ++ rest)) = ap varint_at (sym (append-nil (s ++ rest))) ∙ varint_again (s ++ rest) [] w two in
    let p = some_is v (length s) w (length (s ++ rest)) (sym (varint_again s rest v one) ∙ whole) in
    nil_from_length rest (omega (arith, p.1, length-append s rest))

-- what spells a number has a byte
pub varint_some : (bytes : List ℕ) (v : ℕ) → IsVarint bytes v → 1 ≤ length bytes
varint_some bytes v s = omega (arith, ap length s.parts, length-append s.front (s.last ∷ []))
