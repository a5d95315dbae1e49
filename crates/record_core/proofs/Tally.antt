-- What serial types say together, one after another.
use Rattle.std.proofs.Common.{◌≡◌, ◌<◌, ◌≤◌, ℕ, ◌+◌, Bool, true, false, ltb, ◌||◌, List, [], ◌∷◌, ◌++◌, length, drop, Option, Some, refl, sym, ap, subst, ◌∙◌, inl, inr, arith, length-append, ltb-true, lt-ltb, le-ltb}
use Rattle.std.proofs.lemmas.List.Sums.{sum_by_push}
use Rattle.std.proofs.lemmas.List.Folds.{list_any-append}
use Rattle.std.proofs.lemmas.Bool.{cases_Bool}
use Rattle.std.specs.List.{list_any}
use Rattle.varint_core.specs.Varint.{varint_at}
use Rattle.record_core.specs.declared.spans.Tally.{Tally}
use Rattle.record_core.specs.Record.{body_len, bodies_len, is_reserved}
use Rattle.record_core.specs.Tally.{within, more_within, tally_of}
use Rattle.record_core.proofs.Types.{Split, split_start, split_next}

-- the serial types before a place are told
pub record Told (room : ℕ) (bytes : List ℕ) (at : ℕ) (told : Tally) : Type 0 where
  pub done : List ℕ
  pub fuel : ℕ
  pub split : Split bytes at done fuel
  pub is : told ≡ tally_of room done

-- a tally with one serial type more
pub record Adds (room : ℕ) (old new : Tally) (t : ℕ) : Type 0 where
  pub fields : new.fields ≡ old.fields + 1
  pub reserved : new.reserved ≡ (old.reserved || is_reserved t)
  pub bodies : new.bodies ≡ more_within room old.bodies (body_len t)

within_both : (room a b : ℕ) → more_within room (within room a) b ≡ within room (a + b)
within_both room a b =
    elim (cases_Bool (ltb room a)) [
      | inl over ↦ let long : ltb room (a + b) ≡ true = lt-ltb room (a + b) (omega (arith, ltb-true room a over)) in rw (over, long) refl
      | inr there ↦ rw there refl
    ]

or_false : (a : Bool) → (a || false) ≡ a
or_false true = refl
or_false false = refl

same_tally : (r : Tally) (n : ℕ) (b : Bool) (o : Option ℕ) → r.fields ≡ n → r.reserved ≡ b → r.bodies ≡ o → r ≡ record { fields = n; reserved = b; bodies = o }
same_tally r n b o f g h =
    let make : ℕ → Bool → Option ℕ → Tally = λ x y z. record { fields = x; reserved = y; bodies = z } in
    ap (λ x. make x r.reserved r.bodies) f ∙ ap (λ y. make n y r.bodies) g ∙ ap (make n b) h

tally_more : (room : ℕ) (done : List ℕ) (t : ℕ) (r : Tally) → Adds room (tally_of room done) r t → r ≡ tally_of room (done ++ t ∷ [])
tally_more room done t r a =
    same_tally r _ _ _ (a.fields ∙ sym (length-append done (t ∷ [])))
    (a.reserved ∙ ap (λ b. list_any is_reserved done || b) (sym (or_false (is_reserved t))) ∙ sym (list_any-append is_reserved done (t ∷ [])))
    (a.bodies ∙ within_both room (bodies_len done) (body_len t) ∙ ap (within room) (sym (sum_by_push body_len done t)))

pub told_start : (room : ℕ) (bytes : List ℕ) → Told room bytes 0 (record { fields = 0; reserved = false; bodies = Some 0 })
told_start room bytes =
    let there : ltb room 0 ≡ false = le-ltb room 0 (omega arith) in
    record { done = []; fuel = length bytes; split = split_start bytes; is = same_tally _ _ _ _ refl refl (rw there refl) }

pub told_next : (room : ℕ) (bytes : List ℕ) (at t n : ℕ) (old new : Tally) → Told room bytes at old → at < length bytes → varint_at (drop at bytes) ≡ Some (t, n) → 1 ≤ n → at + n ≤ length bytes → Adds room old new t → Told room bytes (at + n) new
told_next room bytes at t n old new w some e one fits adds =
    let s = split_next bytes at w.done w.fuel t n w.split some e one fits in
    let same = subst (λ o. Adds room o new t) w.is adds in
    record { done = w.done ++ t ∷ []; fuel = s.0; split = s.1; is = tally_more room w.done t new same }
