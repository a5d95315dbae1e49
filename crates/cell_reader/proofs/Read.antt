-- A cell that is read is spelled by its bytes.
use Rattle.std.proofs.Common.{◌≡◌, ◌≢◌, ◌<◌, ◌≤◌, ◌⊎◌, inl, inr, ℕ, ◌+◌, ◌-◌, ◌*◌, Bool, true, false, ◌||◌, ◌==◌, Option, Some, None, Result, Ok, Err, List, [], ◌∷◌, ◌++◌, length, drop, take, nat_lt, nat_le, if◌then◌else◌, refl, sym, ap, subst, ◌∙◌, arith, append_assoc, append-nil, length-append, length-take, length-drop, drop_at, drop-drop, take_at, take-append-drop, eq-eqb, eqb-true, ltb-false}
use Rattle.std.specs.Prelude.{IfSome}
use Rattle.std.specs.Bool.{MatchBool}
use Rattle.std.proofs.lemmas.Option.{none-some, same_Some}
use Rattle.std.proofs.lemmas.Bool.{cases_Bool, or_parts, true≢false}
use Rattle.std.proofs.lemmas.Bool.Decides.{nat_tests}
use Rattle.byteorder.specs.Endian.{big_number}
use Rattle.varint_core.specs.Varint.{IsVarint, varint_at}
use Rattle.varint_core.proofs.Laws.{varint_found}
use Rattle.cell_reader.specs.declared.shapes.Kind.{Kind}
use Rattle.cell_reader.specs.declared.shapes.Kind.TheVariants.{Table, Index}
use Rattle.cell_reader.specs.declared.cells.CellFault.{CellFault}
use Rattle.cell_reader.specs.declared.cells.CellFault.TheVariants.{Cut, Length}
use Rattle.cell_reader.specs.declared.parts.Numbers.{Numbers}
use Rattle.cell_reader.specs.declared.parts.Parts.{Parts}
use Rattle.cell_reader.specs.Cell.{and_varint, cell_parts, local_len, numbers_behind, numbers_of, parts_from, parts_with, size_of, with_payload, without_payload}
use Rattle.cell_reader.specs.Inside.{has_payload}
use Rattle.cell_reader.specs.Shape.{u32_at}
use Rattle.cell_reader.specs.Spelling.{AreNumbers, IsBare, IsCell, IsChild, IsKey, IsNothing, IsNumber, IsOverflow, IsRightLong, IsTotal}
use Rattle.cell_reader.proofs.Ranges.{Within, varint_within}
use Rattle.cell_reader.proofs.Spelled.{four_only}

-- the varints behind a child number, by kind
abbrev AreRead : Kind → Bool → List ℕ → List ℕ → Numbers → Type 0
AreRead Table true first second n = (t : ℕ) × (r : ℕ) × (n.total ≡ Some t) × (n.rowid ≡ Some r) × IsVarint first t × IsVarint second r
AreRead Table false first second n = (r : ℕ) × (n.total ≡ None) × (n.rowid ≡ Some r) × (first ≡ []) × IsVarint second r
AreRead Index leaf first second n = (t : ℕ) × (n.total ≡ Some t) × (n.rowid ≡ None) × IsVarint first t × (second ≡ [])

-- the numbers that begin the bytes, and what stands behind them
record Begins (kind : Kind) (leaf : Bool) (c : Option ℕ) (before tail : List ℕ) (n : Numbers) : Type 0 where
  first : List ℕ
  second : List ℕ
  rest : List ℕ
  parts : tail ≡ first ++ (second ++ rest)
  child : n.child ≡ c
  len : n.len ≡ length before + length first + length second
  numbers : AreRead kind leaf first second n

-- a varint that begins the bytes
record Front (bytes : List ℕ) (v a : ℕ) : Type 0 where
  spelled : IsVarint (take a bytes) v
  long : length (take a bytes) ≡ a

front_of : (bytes : List ℕ) (v : ℕ × ℕ) → varint_at bytes ≡ Some v → Front bytes v.0 v.1
front_of bytes v e =
    let w : Within (length bytes) v = subst (λ (o : Option (ℕ × ℕ)). IfSome o (Within (length bytes))) e (varint_within bytes) in
    record { spelled = varint_found bytes v.0 v.1 e; long = omega (arith, length-take v.1 bytes, w.1) }

-- the numbers of a table leaf
leaf_read : (c : Option ℕ) (before tail : List ℕ) (n : Numbers) → numbers_behind Table true c (length before) (before ++ tail) ≡ Some n
    → Begins Table true c before tail n
unfolding numbers_behind
leaf_read c before tail n e = at (varint_at (drop (length before) (before ++ tail))) refl e
  where
    second_at : (v : ℕ × ℕ) → varint_at tail ≡ Some v → (o : Option (ℕ × ℕ)) → varint_at (drop (length before + v.1) (before ++ tail)) ≡ o
        → and_varint o (λ rowid b. Some (record { child = c; rowid = Some rowid; total = Some v.0; len = length before + v.1 + b })) ≡ Some n
        → Begins Table true c before tail n
    second_at v f None g e = absurd (none-some n e)
    second_at v f (Some w) g e =
        let a = front_of tail v f in
        let there : drop (length before + v.1) (before ++ tail) ≡ drop v.1 tail =
        sym (drop-drop v.1 (length before) (before ++ tail)) ∙ ap (drop v.1) (drop_at before tail (length before) refl) in
        let b = front_of (drop v.1 tail) w (ap varint_at (sym there) ∙ g) in
        let is = same_Some _ n e in
        record {
          first = take v.1 tail;
          second = take w.1 (drop v.1 tail);
          rest = drop w.1 (drop v.1 tail);
          parts = sym (take-append-drop v.1 tail) ∙ ap (λ (xs : List ℕ). take v.1 tail ++ xs) (sym (take-append-drop w.1 (drop v.1 tail)));
          child = ap (λ (m : Numbers). m.child) (sym is);
          len = ap (λ (m : Numbers). m.len) (sym is) ∙ omega (arith, a.long, b.long);
          numbers = (v.0, w.0, ap (λ (m : Numbers). m.total) (sym is), ap (λ (m : Numbers). m.rowid) (sym is), a.spelled, b.spelled);
        }

    at : (o : Option (ℕ × ℕ)) → varint_at (drop (length before) (before ++ tail)) ≡ o
        → and_varint o (λ total a. and_varint (varint_at (drop (length before + a) (before ++ tail))) (λ rowid b.
        Some (record { child = c; rowid = Some rowid; total = Some total; len = length before + a + b }))) ≡ Some n
        → Begins Table true c before tail n
    at None f e = absurd (none-some n e)
    at (Some v) f e = second_at v (ap varint_at (sym (drop_at before tail (length before) refl)) ∙ f)
        (varint_at (drop (length before + v.1) (before ++ tail))) refl e

key_read : (c : Option ℕ) (before tail : List ℕ) (n : Numbers) → numbers_behind Table false c (length before) (before ++ tail) ≡ Some n
    → Begins Table false c before tail n
unfolding numbers_behind
key_read c before tail n e = at (varint_at (drop (length before) (before ++ tail))) refl e
  where
    at : (o : Option (ℕ × ℕ)) → varint_at (drop (length before) (before ++ tail)) ≡ o
        → and_varint o (λ key a. Some (record { child = c; rowid = Some key; total = None; len = length before + a })) ≡ Some n
        → Begins Table false c before tail n
    at None f e = absurd (none-some n e)
    at (Some v) f e =
        let a = front_of tail v (ap varint_at (sym (drop_at before tail (length before) refl)) ∙ f) in
        let is = same_Some _ n e in
        record {
          first = [];
          second = take v.1 tail;
          rest = drop v.1 tail;
          parts = sym (take-append-drop v.1 tail);
          child = ap (λ (m : Numbers). m.child) (sym is);
          len = ap (λ (m : Numbers). m.len) (sym is) ∙ omega (arith, a.long);
          numbers = (v.0, ap (λ (m : Numbers). m.total) (sym is), ap (λ (m : Numbers). m.rowid) (sym is), refl, a.spelled);
        }

index_read : (leaf : Bool) (c : Option ℕ) (before tail : List ℕ) (n : Numbers) → numbers_behind Index leaf c (length before) (before ++ tail) ≡ Some n
    → Begins Index leaf c before tail n
unfolding numbers_behind
index_read leaf c before tail n e = at (varint_at (drop (length before) (before ++ tail))) refl e
  where
    at : (o : Option (ℕ × ℕ)) → varint_at (drop (length before) (before ++ tail)) ≡ o
        → and_varint o (λ total a. Some (record { child = c; rowid = None; total = Some total; len = length before + a })) ≡ Some n
        → Begins Index leaf c before tail n
    at None f e = absurd (none-some n e)
    at (Some v) f e =
        let a = front_of tail v (ap varint_at (sym (drop_at before tail (length before) refl)) ∙ f) in
        let is = same_Some _ n e in
        record {
          first = take v.1 tail;
          second = [];
          rest = drop v.1 tail;
          parts = sym (take-append-drop v.1 tail);
          child = ap (λ (m : Numbers). m.child) (sym is);
          len = ap (λ (m : Numbers). m.len) (sym is) ∙ omega (arith, a.long);
          numbers = (v.0, ap (λ (m : Numbers). m.total) (sym is), ap (λ (m : Numbers). m.rowid) (sym is), a.spelled, refl);
        }

behind_read : (kind : Kind) (leaf : Bool) (c : Option ℕ) (before tail : List ℕ) (n : Numbers)
    → numbers_behind kind leaf c (length before) (before ++ tail) ≡ Some n → Begins kind leaf c before tail n
behind_read Table true = leaf_read
behind_read Table false = key_read
behind_read Index leaf = index_read leaf

-- the child number, and what begins behind it
record Opened (kind : Kind) (leaf : Bool) (bytes : List ℕ) (n : Numbers) : Type 0 where
  child : List ℕ
  tail : List ℕ
  number : Option ℕ
  parts : bytes ≡ child ++ tail
  is : IsChild leaf child number
  begins : Begins kind leaf number child tail n

opened : (kind : Kind) (leaf : Bool) (bytes : List ℕ) (n : Numbers) → numbers_of kind leaf bytes ≡ Some n → Opened kind leaf bytes n
unfolding numbers_of
opened kind true bytes n e = record {
  child = [];
  tail = bytes;
  number = None;
  parts = refl;
  is = record { none = refl; number = refl };
  begins = behind_read kind true None [] bytes n e;
}
opened kind false bytes n e = elim (cases_Bool (nat_lt (length bytes) 4)) [
  | inl short ↦ absurd (none-some n (rw short at e))
  | inr long ↦
      let f = rw long at e in
      let le : 4 ≤ length bytes = ltb-false (length bytes) 4 long in
      let four : length (take 4 bytes) ≡ 4 = omega (arith, length-take 4 bytes) in
      let split : take 4 bytes ++ drop 4 bytes ≡ bytes = take-append-drop 4 bytes in
      let number : big_number 4 bytes ≡ big_number 4 (take 4 bytes) = ap (big_number 4) (sym split) ∙ four_only (take 4 bytes) (drop 4 bytes) four in
      let g = subst (λ (xs : List ℕ). numbers_behind kind false (Some (big_number 4 bytes)) 4 xs ≡ Some n) (sym split) f in
      let h = subst (λ k. numbers_behind kind false (Some (big_number 4 bytes)) k (take 4 bytes ++ drop 4 bytes) ≡ Some n) (sym four) g in
      record {
        child = take 4 bytes;
        tail = drop 4 bytes;
        number = Some (big_number 4 bytes);
        parts = sym split;
        is = record { four = four; number = ap (λ k. Some k) number };
        begins = behind_read kind false (Some (big_number 4 bytes)) (take 4 bytes) (drop 4 bytes) n h;
      }
]

-- ---- the payload

abbrev ok_parts : Parts → Result Parts CellFault
ok_parts p = Ok p

-- what a cell with a payload has behind its numbers
record Filled (usable : ℕ) (kind : Kind) (bytes : List ℕ) (n : Numbers) (total : ℕ) (p : Parts) : Type 0 where
  child : p.child ≡ n.child
  rowid : p.rowid ≡ n.rowid
  total_is : p.total ≡ total
  from : p.from ≡ n.len
  kept : p.kept ≡ local_len kind usable total
  size : p.size ≡ size_of n.len (local_len kind usable total) total
  fits : p.size ≤ length bytes
  overflow : p.overflow ≡ (if local_len kind usable total == total then None else Some (u32_at bytes (n.len + local_len kind usable total)))

filled : (usable : ℕ) (kind : Kind) (bytes : List ℕ) (n : Numbers) (total : ℕ) (p : Parts) → with_payload usable kind bytes n total ≡ Ok p
    → Filled usable kind bytes n total p
unfolding with_payload
filled usable kind bytes n total p e =
    elim (cases_Bool (nat_lt (length bytes) (size_of n.len (local_len kind usable total) total))) [
      | inl short ↦ let bad = rw short at e in absurd (cc)
      | inr long ↦
          let is = rw long at e in
          let le = ltb-false (length bytes) (size_of n.len (local_len kind usable total) total) long in
          let q = made_is p _ is in
          record {
            child = ap (λ (x : Parts). x.child) q;
            rowid = ap (λ (x : Parts). x.rowid) q;
            total_is = ap (λ (x : Parts). x.total) q;
            from = ap (λ (x : Parts). x.from) q;
            kept = ap (λ (x : Parts). x.kept) q;
            size = ap (λ (x : Parts). x.size) q;
            fits = let s = ap (λ (x : Parts). x.size) q in omega (arith, s, le);
            overflow = ap (λ (x : Parts). x.overflow) q;
          }
    ]
  where
    made_is : (p q : Parts) → ok_parts q ≡ ok_parts p → p ≡ q
    made_is p q e = cc

-- the bytes in three parts: the numbers, the local bytes and the overflow number, and what follows
cut_all : (child first second rest : List ℕ) (kept more : ℕ)
    → child ++ (first ++ (second ++ rest))
    ≡ (child ++ (first ++ (second ++ (take kept rest ++ take more (drop kept rest))))) ++ drop more (drop kept rest)
cut_all child first second rest kept more =
    ap (λ (xs : List ℕ). child ++ (first ++ (second ++ xs)))
    (sym (take-append-drop kept rest) ∙ ap (λ (xs : List ℕ). take kept rest ++ xs) (sym (take-append-drop more (drop kept rest))))
    ∙ simp append_assoc

all_parts : (kind : Kind) (leaf : Bool) (bytes : List ℕ) (n : Numbers) (o : Opened kind leaf bytes n)
    → bytes ≡ o.child ++ (o.begins.first ++ (o.begins.second ++ o.begins.rest))
all_parts kind leaf bytes n o = o.parts ∙ ap (λ (xs : List ℕ). o.child ++ xs) o.begins.parts

rest_len : (kind : Kind) (leaf : Bool) (bytes : List ℕ) (n : Numbers) (o : Opened kind leaf bytes n) → length bytes ≡ n.len + length o.begins.rest
rest_len kind leaf bytes n o = ap length (all_parts kind leaf bytes n o)
    ∙ omega (
      arith,
      o.begins.len,
      length-append o.child (o.begins.first ++ (o.begins.second ++ o.begins.rest)),
      length-append o.begins.first (o.begins.second ++ o.begins.rest),
      length-append o.begins.second o.begins.rest,
    )

-- what stands behind the numbers
behind_numbers : (kind : Kind) (leaf : Bool) (bytes : List ℕ) (n : Numbers) (o : Opened kind leaf bytes n) (k : ℕ)
    → drop (n.len + k) bytes ≡ drop k o.begins.rest
behind_numbers kind leaf bytes n o k =
    let front = (o.child ++ o.begins.first) ++ o.begins.second in
    let whole : bytes ≡ front ++ o.begins.rest = all_parts kind leaf bytes n o ∙ simp append_assoc in
    let len : length front ≡ n.len = omega (arith, o.begins.len, length-append (o.child ++ o.begins.first) o.begins.second, length-append o.child o.begins.first) in
    sym (drop-drop k n.len bytes) ∙ ap (λ (xs : List ℕ). drop k (drop n.len xs)) whole ∙ ap (drop k) (drop_at front o.begins.rest n.len len)

-- a cell of these sizes
made_of : (usable : ℕ) (kind : Kind) (leaf : Bool) (bytes : List ℕ) (n : Numbers) (p : Parts) (o : Opened kind leaf bytes n) (more : ℕ)
    → p.from ≡ n.len → p.child ≡ n.child → p.size ≡ n.len + p.kept + more → p.size ≤ length bytes
    → AreNumbers usable kind leaf o.begins.first o.begins.second p
    → IsOverflow (take more (drop p.kept o.begins.rest)) p → IsCell usable kind leaf (take p.size bytes) p
made_of usable kind leaf bytes n p o more from child size fits numbers ends =
    let rest = o.begins.rest in
    let cell = o.child ++ (o.begins.first ++ (o.begins.second ++ (take p.kept rest ++ take more (drop p.kept rest)))) in
    let local : length (take p.kept rest) ≡ p.kept = omega (arith, length-take p.kept rest, rest_len kind leaf bytes n o) in
    let over : length (take more (drop p.kept rest)) ≡ more =
    omega (arith, length-take more (drop p.kept rest), length-drop p.kept rest, rest_len kind leaf bytes n o) in
    let len : length cell ≡ p.size =
    omega (
      arith,
      o.begins.len,
      local,
      over,
      length-append o.child (o.begins.first ++ (o.begins.second ++ (take p.kept rest ++ take more (drop p.kept rest)))),
      length-append o.begins.first (o.begins.second ++ (take p.kept rest ++ take more (drop p.kept rest))),
      length-append o.begins.second (take p.kept rest ++ take more (drop p.kept rest)),
      length-append (take p.kept rest) (take more (drop p.kept rest)),
    ) in
    let whole : bytes ≡ cell ++ drop more (drop p.kept rest) =
    all_parts kind leaf bytes n o ∙ cut_all o.child o.begins.first o.begins.second rest p.kept more in
    let taken : take p.size bytes ≡ cell = ap (take p.size) whole ∙ take_at cell (drop more (drop p.kept rest)) p.size len in
    record {
      child = o.child;
      first = o.begins.first;
      second = o.begins.second;
      local = take p.kept rest;
      over = take more (drop p.kept rest);
      parts = taken;
      begins = subst (λ c. IsChild leaf o.child c) (sym o.begins.child ∙ sym child) o.is;
      numbers = numbers;
      from = from ∙ o.begins.len;
      kept = sym local;
      ends = ends;
      size = sym (ap length taken ∙ len);
    }

-- a cell whose payload is read
read_payload : (usable : ℕ) (kind : Kind) (leaf : Bool) (bytes : List ℕ) (n : Numbers) (total : ℕ) (p : Parts) (o : Opened kind leaf bytes n)
    → Filled usable kind bytes n total p → AreNumbers usable kind leaf o.begins.first o.begins.second p
    → IsCell usable kind leaf (take p.size bytes) p
read_payload usable kind leaf bytes n total p o f numbers =
    elim (cases_Bool (local_len kind usable total == total)) [
      | inl same ↦
          let size : p.size ≡ n.len + p.kept + 0 =
          f.size ∙ ap (λ (b : Bool). if b then n.len + local_len kind usable total else n.len + local_len kind usable total + 4) same ∙ omega (arith, f.kept) in
          made_of usable kind leaf bytes n p o 0 f.from f.child size f.fits numbers
          (inl (
            f.kept ∙ eqb-true (local_len kind usable total) total same ∙ sym f.total_is,
            record {
              none = refl;
              number = f.overflow ∙ ap (λ (b : Bool). if b then None else Some (u32_at bytes (n.len + local_len kind usable total))) same;
            },
          ))
      | inr other ↦
          let size : p.size ≡ n.len + p.kept + 4 =
          f.size ∙ ap (λ (b : Bool). if b then n.len + local_len kind usable total else n.len + local_len kind usable total + 4) other ∙ omega (arith, f.kept) in
          let tail = drop p.kept o.begins.rest in
          let four : length (take 4 tail) ≡ 4 =
          omega (arith, length-take 4 tail, length-drop p.kept o.begins.rest, rest_len kind leaf bytes n o, size, f.fits) in
          let there : u32_at bytes (n.len + local_len kind usable total) ≡ big_number 4 (take 4 tail) =
          ap (big_number 4) (ap (λ k. drop (n.len + k) bytes) (sym f.kept) ∙ behind_numbers kind leaf bytes n o p.kept ∙ sym (take-append-drop 4 tail))
          ∙ four_only (take 4 tail) (drop 4 tail) four in
          made_of usable kind leaf bytes n p o 4 f.from f.child size f.fits numbers
          (inr (
            λ e. true≢false (sym (eq-eqb (local_len kind usable total) total (sym f.kept ∙ e ∙ f.total_is)) ∙ other),
            record {
              four = four;
              number = f.overflow ∙ ap (λ (b : Bool). if b then None else Some (u32_at bytes (n.len + local_len kind usable total))) other ∙ ap (λ k. Some k) there;
            },
          ))
    ]

-- ---- all cells

-- the length of a payload was tested
right_long : (usable limit : ℕ) (kind : Kind) (bytes : List ℕ) (n : Numbers) (t : ℕ) (p : Parts)
    → parts_with usable limit kind bytes n (Some t) ≡ Ok p → (1 ≤ t) × (t ≤ limit) × (with_payload usable kind bytes n t ≡ Ok p)
right_long usable limit kind bytes n t p e =
    elim (cases_Bool ((t == 0) || nat_lt limit t)) [
      | inl bad ↦ let f = rw bad at e in absurd (cc)
      | inr fine ↦
          let two = or_parts (t == 0) (nat_lt limit t) fine in
          (some t two.0, ltb-false limit t two.1, rw fine at e)
    ]
  where
    some : (t : ℕ) → (t == 0) ≡ false → 1 ≤ t
    some t h = grind (arith, nat_tests)

-- a cell without a payload
bare : (usable : ℕ) (bytes : List ℕ) (n : Numbers) (p : Parts) (o : Opened Table false bytes n) → without_payload n ≡ p
    → IsCell usable Table false (take p.size bytes) p
bare usable bytes n p o e =
    let k = o.begins.numbers in
    let kept : p.kept ≡ 0 = ap (λ (x : Parts). x.kept) (sym e) in
    let total : p.total ≡ 0 = ap (λ (x : Parts). x.total) (sym e) in
    let size : p.size ≡ n.len = ap (λ (x : Parts). x.size) (sym e) in
    made_of usable Table false bytes n p o 0 (ap (λ (x : Parts). x.from) (sym e)) (ap (λ (x : Parts). x.child) (sym e))
    (size ∙ omega (arith, kept)) (omega (arith, size, rest_len Table false bytes n o)) (
      record { none = k.3; total = total; local = kept },
      record { value = k.0; spelled = k.4; number = ap (λ (x : Parts). x.rowid) (sym e) ∙ k.2 },
    )
    (inl (kept ∙ sym total, record { none = refl; number = ap (λ (x : Parts). x.overflow) (sym e) }))

parts_is : (p q : Parts) → ok_parts p ≡ ok_parts q → p ≡ q
parts_is p q e = cc

by_kind : (usable limit : ℕ) (kind : Kind) (leaf : Bool) (bytes : List ℕ) (n : Numbers) (p : Parts) (o : Opened kind leaf bytes n)
    → parts_with usable limit kind bytes n n.total ≡ Ok p → IsCell usable kind leaf (take p.size bytes) p × IsRightLong kind leaf limit p
by_kind usable limit Table true bytes n p o e =
    let k = o.begins.numbers in
    let r = right_long usable limit Table bytes n k.0 p (ap (parts_with usable limit Table bytes n) (sym k.2) ∙ e) in
    let f = filled usable Table bytes n k.0 p r.2 in (
      read_payload usable Table true bytes n k.0 p o f (
        record { spelled = subst (λ t. IsVarint o.begins.first t) (sym f.total_is) k.4; local = f.kept ∙ ap (local_len Table usable) (sym f.total_is) },
        record { value = k.1; spelled = k.5; number = f.rowid ∙ k.3 },
      ),
      (omega (arith, r.0, f.total_is), omega (arith, r.1, f.total_is)),
    )
by_kind usable limit Table false bytes n p o e =
    let k = o.begins.numbers in
    (bare usable bytes n p o (parts_is (without_payload n) p (ap (parts_with usable limit Table bytes n) (sym k.1) ∙ e)), tt)
by_kind usable limit Index leaf bytes n p o e =
    let k = o.begins.numbers in
    let r = right_long usable limit Index bytes n k.0 p (ap (parts_with usable limit Index bytes n) (sym k.1) ∙ e) in
    let f = filled usable Index bytes n k.0 p r.2 in (
      read_payload usable Index leaf bytes n k.0 p o f (
        record { spelled = subst (λ t. IsVarint o.begins.first t) (sym f.total_is) k.3; local = f.kept ∙ ap (local_len Index usable) (sym f.total_is) },
        record { none = k.4; number = f.rowid ∙ k.2 },
      ),
      (omega (arith, r.0, f.total_is), omega (arith, r.1, f.total_is)),
    )

pub read_spelled : (usable limit : ℕ) (kind : Kind) (leaf : Bool) (bytes : List ℕ) (p : Parts) → cell_parts usable limit kind leaf bytes ≡ Ok p
    → IsCell usable kind leaf (take p.size bytes) p × IsRightLong kind leaf limit p
unfolding cell_parts
read_spelled usable limit kind leaf bytes p e = at (numbers_of kind leaf bytes) refl e
  where
    at : (o : Option Numbers) → numbers_of kind leaf bytes ≡ o → parts_from usable limit kind bytes o ≡ Ok p
        → IsCell usable kind leaf (take p.size bytes) p × IsRightLong kind leaf limit p
    at None f e = absurd (cc)
    at (Some n) f e = by_kind usable limit kind leaf bytes n p (opened kind leaf bytes n f) e
