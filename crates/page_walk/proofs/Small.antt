-- A record gives few values, and no more bytes than its payload has.
use Rattle.std.proofs.Common.{◌≡◌, ◌≤◌, ◌⊎◌, inl, inr, ℕ, suc, ◌+◌, ◌-◌, ◌*◌, ◌%◌, ◌==◌, Bool, true, false, Option, Some, None, List, [], ◌∷◌, ◌++◌, length, take, drop, refl, sym, ◌∙◌, ap, subst, arith, length-take}
use Rattle.std.specs.Prelude.{ℤ, nat_lt, sum_by, Result, Ok, Err}
use Rattle.std.specs.List.{list_any}
use Rattle.std.proofs.lemmas.Bool.{cases_Bool}
use Rattle.std.proofs.lemmas.Bool.Decides.{nat_tests}
use Rattle.std.proofs.lemmas.List.Sums.{sum_by-cons}
use Rattle.page_lists.specs.Table.{Table}
use Rattle.record_core.specs.declared.faults.RecordFault.{RecordFault}
use Rattle.record_core.specs.declared.values.Value.{Value}
use Rattle.record_core.specs.Record.{Header, body_len, value_len, value_of, values_of, bodies_len, header_at, checked, and_then, is_reserved, record_of, values_at}
use Rattle.cell_reader.specs.Inside.{HasOverflow}
use Rattle.overflow_chain.specs.Turn.{Takes}
use Rattle.page_walk.specs.Bounds.{ArePages, IsSmall}
use Rattle.page_walk.specs.Cells.{Outcome, read_as}

-- a value holds no more bytes than its body
value_short : (t : ℕ) (body : List ℕ) → value_len (value_of t body) ≤ length body
unfolding value_of
value_short t body = elim (cases_Bool (t == 0)) [
  | inl a ↦ rw a (omega arith)
  | inr a ↦ rw a (elim (cases_Bool (nat_lt t 7)) [
    | inl b ↦ rw b (omega arith)
    | inr b ↦ rw b (elim (cases_Bool (t == 7)) [
      | inl d ↦ rw d (omega arith)
      | inr d ↦ rw d (elim (cases_Bool (t == 8)) [
        | inl e ↦ rw e (omega arith)
        | inr e ↦ rw e (elim (cases_Bool (t == 9)) [
          | inl f ↦ rw f (omega arith)
          | inr f ↦ rw f (elim (cases_Bool (t % 2 == 0)) [
            | inl g ↦ rw g (omega arith)
            | inr g ↦ rw g (omega arith)
          ])
        ])
      ])
    ])
  ])
]

values_short : (ts : List ℕ) (bodies : List ℕ) → sum_by value_len (values_of ts bodies) ≤ bodies_len ts
values_short [] bodies = omega arith
values_short (t ∷ ts) bodies =
    omega (
      arith,
      value_short t (take (body_len t) bodies),
      length-take (body_len t) bodies,
      values_short ts (drop (body_len t) bodies),
      sum_by-cons value_len (value_of t (take (body_len t) bodies))
          (values_of ts (drop (body_len t) bodies)),
      sum_by-cons body_len t ts,
    )

values_many : (ts : List ℕ) (bodies : List ℕ) → length (values_of ts bodies) ≡ length ts
values_many [] bodies = refl
values_many (t ∷ ts) bodies = ap (λ n. suc n) (values_many ts (drop (body_len t) bodies))

-- what a checked header says
record IsChecked (payload : List ℕ) (h : Header) : Type 0 where
  few : length h.types ≤ 1996
  there : h.size + bodies_len h.types ≤ length payload

checked_is : (payload : List ℕ) (h k : Header) → checked payload h ≡ Ok k → (h ≡ k) × IsChecked payload h
unfolding checked
checked_is payload h k e = elim (cases_Bool (nat_lt 1996 (length h.types))) [
  | inl a ↦ let bad = rw a at e in cc
  | inr a ↦ let e2 = rw a at e in elim (cases_Bool (list_any is_reserved h.types)) [
    | inl b ↦ let bad = rw b at e2 in cc
    | inr b ↦ let e3 = rw b at e2 in elim (cases_Bool (nat_lt (length payload) (h.size + bodies_len h.types))) [
      | inl d ↦ let bad = rw d at e3 in cc
      | inr d ↦ let last = rw d at e3 in
          (cc, record { few = grind (arith, nat_tests); there = grind (arith, nat_tests) })
    ]
  ]
]

-- the bounds of a record's values
pub record IsShort (payload : List ℕ) (vs : List Value) : Type 0 where
  pub few : length vs ≤ 1996
  pub short : sum_by value_len vs ≤ length payload

pub record_short : (payload : List ℕ) (vs : List Value) → record_of payload ≡ Ok vs → IsShort payload vs
record_short payload vs e = by_header (header_at payload) e
  where
    by_checked : (h : Header) (r : Result Header RecordFault) → checked payload h ≡ r
        → and_then r (λ k. Ok (values_at payload k)) ≡ Ok vs → IsShort payload vs
    by_checked h (Err fault) c e = absurd (cc)
    by_checked h (Ok k) c e =
        let two = checked_is payload h k c in
        let same : values_of k.types (drop k.size payload) ≡ vs = cc in
        let types : length h.types ≡ length k.types = ap (λ (x : Header). length x.types) two.0 in
        let bodies : bodies_len h.types ≡ bodies_len k.types = ap (λ (x : Header). bodies_len x.types) two.0 in
        let few : length h.types ≤ 1996 = two.1.few in
        let there : h.size + bodies_len h.types ≤ length payload = two.1.there in
        subst (λ (ws : List Value). IsShort payload ws) same (record {
          few = omega (arith, values_many k.types (drop k.size payload));
          short = omega (arith, values_short k.types (drop k.size payload));
        })

    by_header : (r : Result Header RecordFault)
        → and_then (and_then r (checked payload)) (λ h. Ok (values_at payload h)) ≡ Ok vs → IsShort payload vs
    by_header (Err fault) e = absurd (cc)
    by_header (Ok h) e = by_checked h (checked payload h) refl e

pub read_small : (usable pages page i : ℕ) (rowid : Option ℤ) (chain payload : List ℕ) → ArePages pages chain
    → length payload ≤ pages * usable → IsSmall usable pages page (read_as page i rowid chain (record_of payload))
read_small usable pages page i rowid chain payload are le = by_read (record_of payload) refl
  where
    by_read : (r : Result (List Value) RecordFault) → record_of payload ≡ r → IsSmall usable pages page (read_as page i rowid chain r)
    by_read (Ok vs) e = let s = record_short payload vs e in
        record { on_page = refl; few = s.few; short = omega (arith, s.short); chain = are }
    by_read (Err fault) e = are

-- the pages that an entry took are pages of the file
pub taken_pages : (need pages : ℕ) (old new : Table) (none chain local payload : List ℕ) → Takes need old new none chain local payload
    → none ≡ [] → old.pages ≡ pages → ArePages pages chain
taken_pages need pages old new none chain local payload took empty same =
    subst (λ (k : ℕ). ArePages k chain) same
    (subst (λ (ps : List ℕ). ArePages old.pages ps) (sym (took.pages_are ∙ ap (λ ps. ps ++ took.taken) empty)) took.inside)

-- an entry that is read gives no more than its payload has
pub entry_small : (usable pages page i n total need : ℕ) (rowid : Option ℤ) (overflow : Option ℕ) (old new : Table)
    (none chain local payload bytes : List ℕ) (o : Outcome) → o ≡ read_as page i rowid chain (record_of bytes) → bytes ≡ payload
    → Takes need old new none chain local payload → none ≡ [] → old.pages ≡ pages → length local ≡ n
    → HasOverflow overflow n total → need ≡ total - n → total ≤ pages * usable → IsSmall usable pages page o
entry_small usable pages page i n total need rowid overflow old new none chain local payload bytes o is seen took empty same len has e most =
    let part : n ≤ total = most_local overflow has in
    subst (λ (x : Outcome). IsSmall usable pages page x) (sym is)
    (read_small usable pages page i rowid chain bytes (taken_pages need pages old new none chain local payload took empty same)
    (omega (arith, ap length seen, took.room, len, e, most, part)))
  where
    most_local : (overflow : Option ℕ) → HasOverflow overflow n total → n ≤ total
    most_local None h = omega (arith, h)
    most_local (Some q) h = omega (arith, h)
