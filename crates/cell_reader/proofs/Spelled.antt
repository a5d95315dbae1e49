-- A cell that is spelled is read back.
use Rattle.std.proofs.Common.{◌≡◌, ◌≢◌, ◌<◌, ◌≤◌, ◌⊎◌, inl, inr, ℕ, ◌+◌, ◌*◌, Bool, true, false, ◌||◌, ◌==◌, Option, Some, None, Result, Ok, Err, List, [], ◌∷◌, ◌++◌, length, drop, nat_lt, nat_le, if◌then◌else◌, refl, sym, ap, subst, ◌∙◌, arith, append_assoc, length-append, drop_at, eqb-true, eq-eqb, ne_eqb, le-ltb, lt-ltb}
use Rattle.std.specs.Bool.{MatchBool}
use Rattle.std.specs.List.{slice_range}
use Rattle.std.proofs.lemmas.Bool.{cases_Bool, or_from, true≢false}
use Rattle.std.proofs.lemmas.Bool.Decides.{nat_tests}
use Rattle.byteorder.specs.Endian.{big_number}
use Rattle.varint_core.specs.Varint.{IsVarint, varint_at}
use Rattle.varint_core.proofs.Laws.{varint_again, varint_some}
use Rattle.cell_reader.specs.declared.shapes.Kind.{Kind}
use Rattle.cell_reader.specs.declared.shapes.Kind.TheVariants.{Table, Index}
use Rattle.cell_reader.specs.declared.shapes.PageShape.{PageShape}
use Rattle.cell_reader.specs.declared.cells.CellFault.{CellFault}
use Rattle.cell_reader.specs.declared.parts.Numbers.{Numbers}
use Rattle.cell_reader.specs.declared.parts.Parts.{Parts}
use Rattle.cell_reader.specs.Cell.{and_varint, cell_of, cell_parts, local_len, numbers_behind, numbers_of, parts_from, parts_with, pointer_of, size_of, view_at, view_of, with_payload, without_payload}
use Rattle.cell_reader.specs.Inside.{has_payload}
use Rattle.cell_reader.specs.Shape.{u32_at}
use Rattle.cell_reader.specs.Spelling.{AreNumbers, IsBare, IsCell, IsChild, IsKey, IsNothing, IsNumber, IsOverflow, IsRightLong, IsTotal}

-- four bytes give the number, whatever follows them
pub four_only : (bytes rest : List ℕ) → length bytes ≡ 4 → big_number 4 (bytes ++ rest) ≡ big_number 4 bytes
four_only [] rest e = absurd (omega arith)
four_only (a ∷ []) rest e = absurd (omega arith)
four_only (a ∷ b ∷ []) rest e = absurd (omega arith)
four_only (a ∷ b ∷ c ∷ []) rest e = absurd (omega arith)
four_only (a ∷ b ∷ c ∷ d ∷ []) rest e = refl
four_only (a ∷ b ∷ c ∷ d ∷ x ∷ xs) rest e = absurd (omega arith)

-- ---- the numbers that begin a cell

-- what a varint behind others gives
varint_there : (before s rest : List ℕ) (v at : ℕ) → IsVarint s v → at ≡ length before
    → varint_at (drop at (before ++ (s ++ rest))) ≡ Some (v, length s)
varint_there before s rest v at is e = ap varint_at (drop_at before (s ++ rest) at (sym e)) ∙ varint_again s rest v is

abbrev numbers : Option ℕ → Option ℕ → Option ℕ → ℕ → Numbers
numbers child rowid total len = record { child = child; rowid = rowid; total = total; len = len }

leaf_behind : (child : Option ℕ) (before first second tail : List ℕ) (total rowid : ℕ) → IsVarint first total → IsVarint second rowid
    → numbers_behind Table true child (length before) (before ++ (first ++ (second ++ tail)))
    ≡ Some (numbers child (Some rowid) (Some total) (length before + length first + length second))
unfolding numbers_behind
leaf_behind child before first second tail total rowid a b =
    let one = varint_there before first (second ++ tail) total (length before) a refl in
    let two : varint_at (drop (length before + length first) (before ++ (first ++ (second ++ tail)))) ≡ Some (rowid, length second) =
    ap (λ (xs : List ℕ). varint_at (drop (length before + length first) xs)) (sym (append_assoc before first (second ++ tail)))
    ∙ varint_there (before ++ first) second tail rowid (length before + length first) b (sym (length-append before first)) in
    rw (one, two) refl

key_behind : (child : Option ℕ) (before second tail : List ℕ) (key : ℕ) → IsVarint second key
    → numbers_behind Table false child (length before) (before ++ (second ++ tail))
    ≡ Some (numbers child (Some key) None (length before + length second))
unfolding numbers_behind
key_behind child before second tail key a = rw (varint_there before second tail key (length before) a refl) refl

index_behind : (leaf : Bool) (child : Option ℕ) (before first tail : List ℕ) (total : ℕ) → IsVarint first total
    → numbers_behind Index leaf child (length before) (before ++ (first ++ tail))
    ≡ Some (numbers child None (Some total) (length before + length first))
unfolding numbers_behind
index_behind leaf child before first tail total a = rw (varint_there before first tail total (length before) a refl) refl

-- the numbers behind the child number
numbers_with : (kind : Kind) (leaf : Bool) (child : List ℕ) (tail : List ℕ) (c : Option ℕ) (n : Numbers) → IsChild leaf child c
    → numbers_behind kind leaf c (length child) (child ++ tail) ≡ Some n → numbers_of kind leaf (child ++ tail) ≡ Some n
unfolding numbers_of
numbers_with kind true child tail c n is e =
    let none : child ≡ [] = is.none in
    let at = ap length none in
    subst (λ (o : Option ℕ). numbers_behind kind true o 0 (child ++ tail) ≡ Some n) is.number
    (subst (λ k. numbers_behind kind true c k (child ++ tail) ≡ Some n) at e)
numbers_with kind false child tail c n is e =
    let long : nat_lt (length (child ++ tail)) 4 ≡ false = le-ltb (length (child ++ tail)) 4 (omega (arith, length-append child tail, is.four)) in
    let number : c ≡ Some (big_number 4 (child ++ tail)) = is.number ∙ ap (λ k. Some k) (sym (four_only child tail is.four)) in
    rw long (subst (λ (o : Option ℕ). numbers_behind kind false o 4 (child ++ tail) ≡ Some n) number
    (subst (λ k. numbers_behind kind false c k (child ++ tail) ≡ Some n) is.four e))

-- ---- the payload

made : (p : Parts) (child rowid : Option ℕ) (total from kept size : ℕ) (overflow : Option ℕ) → p.child ≡ child → p.rowid ≡ rowid
    → p.total ≡ total → p.from ≡ from → p.kept ≡ kept → p.size ≡ size → p.overflow ≡ overflow
    → record { child = child; rowid = rowid; total = total; from = from; kept = kept; size = size; overflow = overflow } ≡ p
made p child rowid total from kept size overflow a b c d e f g =
    sym (λ i. record { child = a i; rowid = b i; total = c i; from = d i; kept = e i; size = f i; overflow = g i })

-- what stands behind the numbers and the local bytes
ends_at : (front local over rest : List ℕ) (from kept : ℕ) → from ≡ length front → kept ≡ length local
    → drop (from + kept) ((front ++ (local ++ over)) ++ rest) ≡ over ++ rest
ends_at front local over rest from kept a b =
    ap (drop (from + kept)) (append_assoc front (local ++ over) rest ∙ ap (λ (xs : List ℕ). front ++ xs) (append_assoc local over rest)
    ∙ sym (append_assoc front local (over ++ rest)))
    ∙ drop_at (front ++ local) (over ++ rest) (from + kept) (omega (arith, length-append front local))

payload_back : (usable : ℕ) (kind : Kind) (front local over rest : List ℕ) (n : Numbers) (p : Parts) → n.len ≡ length front
    → p.from ≡ n.len → p.child ≡ n.child → p.rowid ≡ n.rowid → p.kept ≡ local_len kind usable p.total → p.kept ≡ length local
    → IsOverflow over p → p.size ≡ length (front ++ (local ++ over))
    → with_payload usable kind ((front ++ (local ++ over)) ++ rest) n p.total ≡ Ok p
unfolding with_payload
payload_back usable kind front local over rest n p len from child rowid is kept (inl (all, none)) size =
    let same : (local_len kind usable p.total == p.total) ≡ true = eq-eqb (local_len kind usable p.total) p.total (sym is ∙ all) in
    let empty : length over ≡ 0 = ap length none.none in
    let whole : p.size ≡ n.len + local_len kind usable p.total =
    size ∙ omega (arith, length-append front (local ++ over), length-append local over) in
    let fits : nat_lt (length ((front ++ (local ++ over)) ++ rest)) (n.len + local_len kind usable p.total) ≡ false =
    le-ltb (length ((front ++ (local ++ over)) ++ rest)) (n.len + local_len kind usable p.total)
    (omega (arith, length-append (front ++ (local ++ over)) rest, length-append front (local ++ over), length-append local over)) in
    rw (same, fits) (ap (λ x. Ok x) (made p n.child n.rowid p.total n.len (local_len kind usable p.total) (n.len + local_len kind usable p.total) None
    child rowid refl from is whole none.number))
payload_back usable kind front local over rest n p len from child rowid is kept (inr (some, four)) size =
    let same : (local_len kind usable p.total == p.total) ≡ false = ne_eqb (local_len kind usable p.total) p.total (λ e. some (is ∙ e)) in
    let long : length over ≡ 4 = four.four in
    let whole : p.size ≡ n.len + local_len kind usable p.total + 4 =
    size ∙ omega (arith, length-append front (local ++ over), length-append local over) in
    let fits : nat_lt (length ((front ++ (local ++ over)) ++ rest)) (n.len + local_len kind usable p.total + 4) ≡ false =
    le-ltb (length ((front ++ (local ++ over)) ++ rest)) (n.len + local_len kind usable p.total + 4)
    (omega (arith, length-append (front ++ (local ++ over)) rest, length-append front (local ++ over), length-append local over)) in
    let there : u32_at ((front ++ (local ++ over)) ++ rest) (n.len + local_len kind usable p.total) ≡ big_number 4 over =
    ap (big_number 4) (ends_at front local over rest n.len (local_len kind usable p.total) len (sym is ∙ kept)) ∙ four_only over rest four.four in
    rw (same, fits) (ap (λ x. Ok x) (made p n.child n.rowid p.total n.len (local_len kind usable p.total) (n.len + local_len kind usable p.total + 4)
    (Some (u32_at ((front ++ (local ++ over)) ++ rest) (n.len + local_len kind usable p.total)))
    child rowid refl from is whole (four.number ∙ ap (λ k. Some k) (sym there))))

-- the length of a payload is tested first
tested : (usable limit : ℕ) (kind : Kind) (bytes : List ℕ) (n : Numbers) (p : Parts) → n.total ≡ Some p.total → 1 ≤ p.total → p.total ≤ limit
    → with_payload usable kind bytes n p.total ≡ Ok p → parts_with usable limit kind bytes n n.total ≡ Ok p
tested usable limit kind bytes n p is some most e =
    let zero : (p.total == 0) ≡ false = ne_eqb p.total 0 (λ z. absurd (omega (arith, z))) in
    let over : nat_lt limit p.total ≡ false = le-ltb limit p.total most in
    let fine : ((p.total == 0) || nat_lt limit p.total) ≡ false = or_from (p.total == 0) (nat_lt limit p.total) zero over in
    ap (parts_with usable limit kind bytes n) is ∙ rw fine e

-- a cell with its numbers
from_numbers : (usable limit : ℕ) (kind : Kind) (leaf : Bool) (bytes : List ℕ) (n : Numbers) (p : Parts)
    → numbers_of kind leaf bytes ≡ Some n → parts_with usable limit kind bytes n n.total ≡ Ok p → cell_parts usable limit kind leaf bytes ≡ Ok p
unfolding cell_parts
from_numbers usable limit kind leaf bytes n p e f = ap (parts_from usable limit kind bytes) e ∙ f

-- the bytes in front of the local ones, and the others
regroup : (child first second local over rest : List ℕ)
    → (child ++ (first ++ (second ++ (local ++ over)))) ++ rest ≡ child ++ (first ++ (second ++ ((local ++ over) ++ rest)))
regroup child first second local over rest = simp append_assoc

fronted : (child first second local over : List ℕ)
    → child ++ (first ++ (second ++ (local ++ over))) ≡ (child ++ (first ++ second)) ++ (local ++ over)
fronted child first second local over = simp append_assoc

front_len : (child first second : List ℕ) → length (child ++ (first ++ second)) ≡ length child + length first + length second
front_len child first second = omega (arith, length-append child (first ++ second), length-append first second)

-- what a spelled cell has in front of its local bytes
record HasFront (kind : Kind) (leaf : Bool) (child first second local over rest : List ℕ) (p : Parts) (n : Numbers) : Type 0 where
  read : numbers_of kind leaf ((child ++ (first ++ (second ++ (local ++ over)))) ++ rest) ≡ Some n
  len : n.len ≡ length (child ++ (first ++ second))
  child_is : p.child ≡ n.child
  rowid_is : p.rowid ≡ n.rowid

-- ---- the four kinds

back_with_payload : (usable limit : ℕ) (kind : Kind) (leaf : Bool) (child first second local over rest : List ℕ) (p : Parts) (n : Numbers)
    → HasFront kind leaf child first second local over rest p n → n.total ≡ Some p.total → p.kept ≡ local_len kind usable p.total
    → p.from ≡ length child + length first + length second → p.kept ≡ length local → IsOverflow over p
    → p.size ≡ length (child ++ (first ++ (second ++ (local ++ over)))) → 1 ≤ p.total → p.total ≤ limit
    → cell_parts usable limit kind leaf ((child ++ (first ++ (second ++ (local ++ over)))) ++ rest) ≡ Ok p
back_with_payload usable limit kind leaf child first second local over rest p n f total is from kept ends size some most =
    let front = child ++ (first ++ second) in
    let bytes = fronted child first second local over in
    let len : p.from ≡ n.len = from ∙ sym (f.len ∙ front_len child first second) in
    let back = payload_back usable kind front local over rest n p f.len len f.child_is f.rowid_is is kept ends (size ∙ ap length bytes) in
    let there : with_payload usable kind ((child ++ (first ++ (second ++ (local ++ over)))) ++ rest) n p.total ≡ Ok p =
    ap (λ (xs : List ℕ). with_payload usable kind (xs ++ rest) n p.total) bytes ∙ back in
    from_numbers usable limit kind leaf ((child ++ (first ++ (second ++ (local ++ over)))) ++ rest) n p f.read
    (tested usable limit kind ((child ++ (first ++ (second ++ (local ++ over)))) ++ rest) n p total some most there)

pub reads_back : (usable limit : ℕ) (kind : Kind) (leaf : Bool) (s rest : List ℕ) (p : Parts) → IsCell usable kind leaf s p
    → IsRightLong kind leaf limit p → cell_parts usable limit kind leaf (s ++ rest) ≡ Ok p
reads_back usable limit kind leaf s rest p c right =
    subst (λ (xs : List ℕ). cell_parts usable limit kind leaf (xs ++ rest) ≡ Ok p) (sym c.parts)
    (by_kind kind leaf c.begins c.numbers right)
  where
    no_over : IsOverflow c.over p → p.kept ≡ p.total → (length c.over ≡ 0) × (p.overflow ≡ None)
    no_over (inl w) e = (ap length w.1.none, w.1.number)
    no_over (inr w) e = absurd (w.0 e)

    by_kind : (kind : Kind) (leaf : Bool) → IsChild leaf c.child p.child → AreNumbers usable kind leaf c.first c.second p → IsRightLong kind leaf limit p
        → cell_parts usable limit kind leaf ((c.child ++ (c.first ++ (c.second ++ (c.local ++ c.over)))) ++ rest) ≡ Ok p
    by_kind Table true begins are right =
        let key = are.1 in
        let n = numbers p.child (Some key.value) (Some p.total) (length c.child + length c.first + length c.second) in
        back_with_payload usable limit Table true c.child c.first c.second c.local c.over rest p n
        (record {
          read = ap (numbers_of Table true) (regroup c.child c.first c.second c.local c.over rest)
              ∙ numbers_with Table true c.child (c.first ++ (c.second ++ ((c.local ++ c.over) ++ rest))) p.child n begins
              (leaf_behind p.child c.child c.first c.second ((c.local ++ c.over) ++ rest) p.total key.value are.0.spelled key.spelled);
          len = sym (front_len c.child c.first c.second);
          child_is = refl;
          rowid_is = key.number;
        }) refl are.0.local c.from c.kept c.ends (c.size ∙ ap length c.parts) right.0 right.1
    by_kind Table false begins are right =
        let key = are.1 in
        let bare = are.0 in
        let n = numbers p.child (Some key.value) None (length c.child + length c.second) in
        let none : c.first ≡ [] = bare.none in
        let no_local : length c.local ≡ 0 = sym c.kept ∙ bare.local in
        let over : (length c.over ≡ 0) × (p.overflow ≡ None) = no_over c.ends (bare.local ∙ sym bare.total) in
        let skip : (c.child ++ (c.first ++ (c.second ++ (c.local ++ c.over)))) ++ rest ≡ c.child ++ (c.second ++ ((c.local ++ c.over) ++ rest)) =
        regroup c.child c.first c.second c.local c.over rest
        ∙ ap (λ (xs : List ℕ). c.child ++ (xs ++ (c.second ++ ((c.local ++ c.over) ++ rest)))) none in
        from_numbers usable limit Table false ((c.child ++ (c.first ++ (c.second ++ (c.local ++ c.over)))) ++ rest) n p
        (ap (numbers_of Table false) skip
        ∙ numbers_with Table false c.child (c.second ++ ((c.local ++ c.over) ++ rest)) p.child n begins
        (key_behind p.child c.child c.second ((c.local ++ c.over) ++ rest) key.value key.spelled))
        (ap (λ x. Ok x) (made p p.child (Some key.value) 0 (length c.child + length c.second) 0 (length c.child + length c.second) None
        refl key.number bare.total (c.from ∙ omega (arith, ap length none)) bare.local
        (c.size ∙ ap length c.parts ∙ omega (
          arith,
          ap length none,
          no_local,
          over.0,
          length-append c.child (c.first ++ (c.second ++ (c.local ++ c.over))),
          length-append c.first (c.second ++ (c.local ++ c.over)),
          length-append c.second (c.local ++ c.over),
          length-append c.local c.over,
        ))
        over.1))
    by_kind Index leaf begins are right =
        let n = numbers p.child None (Some p.total) (length c.child + length c.first) in
        let none : c.second ≡ [] = are.1.none in
        let skip : (c.child ++ (c.first ++ (c.second ++ (c.local ++ c.over)))) ++ rest ≡ c.child ++ (c.first ++ ((c.local ++ c.over) ++ rest)) =
        regroup c.child c.first c.second c.local c.over rest
        ∙ ap (λ (xs : List ℕ). c.child ++ (c.first ++ (xs ++ ((c.local ++ c.over) ++ rest)))) none in
        back_with_payload usable limit Index leaf c.child c.first c.second c.local c.over rest p n
        (record {
          read = ap (numbers_of Index leaf) skip
              ∙ numbers_with Index leaf c.child (c.first ++ ((c.local ++ c.over) ++ rest)) p.child n begins
              (index_behind leaf p.child c.child c.first ((c.local ++ c.over) ++ rest) p.total are.0.spelled);
          len = omega (arith, ap length none, front_len c.child c.first c.second);
          child_is = refl;
          rowid_is = are.1.number;
        }) refl are.0.local c.from c.kept c.ends (c.size ∙ ap length c.parts) right.0 right.1

-- so it is on its page, wherever it stands
pub reads_on_page : (page : List ℕ) (usable pages : ℕ) (shape : PageShape) (i : ℕ) (s rest : List ℕ) (p : Parts)
    → shape.array_end ≤ pointer_of page shape i → pointer_of page shape i + 1 ≤ usable
    → slice_range page (pointer_of page shape i) usable ≡ s ++ rest → IsCell usable shape.kind shape.leaf s p
    → IsRightLong shape.kind shape.leaf (pages * usable) p
    → cell_of page usable pages shape i ≡ Ok (view_at (pointer_of page shape i) p)
unfolding cell_of
reads_on_page page usable pages shape i s rest p behind inside there is right =
    let start = pointer_of page shape i in
    let low : nat_lt start shape.array_end ≡ false = le-ltb start shape.array_end behind in
    let high : nat_le usable start ≡ false = grind (arith, nat_tests) in
    let fine : (nat_lt start shape.array_end || nat_le usable start) ≡ false = or_from (nat_lt start shape.array_end) (nat_le usable start) low high in
    rw fine (ap (λ (xs : List ℕ). view_of start (cell_parts usable (pages * usable) shape.kind shape.leaf xs)) there
    ∙ ap (view_of start) (reads_back usable (pages * usable) shape.kind shape.leaf s rest p is right))
