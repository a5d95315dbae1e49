-- A written cell is read back.
use Rattle.std.proofs.Common.{◌≡◌, ◌<◌, ◌≤◌, ℕ, ◌+◌, ◌^◌, Bool, true, false, ◌||◌, List, [], ◌++◌, length, take, drop, nat_eq, nat_lt, refl, sym, ap, ◌∙◌, arith, append_assoc, length-append, length-take}
use Rattle.std.specs.Prelude.{if◌then◌else◌, Option, Some, None, Ok, Err}
use Rattle.std.proofs.Math.Seq.{drop-append_seam, drop-append-add}
use Rattle.std.proofs.lemmas.Bool.Decides.{nat_tests}
use Rattle.byteorder.specs.Endian.{big_bytes, big_number}
use Rattle.byteorder.specs.Numbers.{big_number-reads_back, length-bytes_high_first}
use Rattle.varint_core.specs.Shortest.{spell}
use Rattle.varint_core.specs.Varint.{varint_at}
use Rattle.varint_core.proofs.Laws.{varint_again}
use Rattle.varint_core.proofs.Spelled.{spell_is}
use Rattle.cell_reader.specs.declared.shapes.Kind.{Kind}
use Rattle.cell_reader.specs.declared.shapes.Kind.TheVariants.{Table, Index}
use Rattle.cell_reader.specs.declared.parts.Numbers.{Numbers}
use Rattle.cell_reader.specs.declared.parts.Parts.{Parts}
use Rattle.cell_reader.specs.declared.cells.CellFault.TheVariants.{Cut}
use Rattle.cell_reader.specs.Cell.{cell_parts, local_len, numbers_behind, numbers_of, parts_from, parts_with, size_of, with_payload, without_payload}
use Rattle.cell_reader.specs.Inside.{has_payload}
use Rattle.cell_reader.specs.Shape.{u32_at}
use Rattle.tree_writer.specs.Cells.{Laid, cell_bytes, head_part, kept_of, link, number_part, payload_part}
use Rattle.tree_writer.proofs.Lens.{local_le, local_none}
use Rattle.written_trees.specs.Laws.{CellsReadBack}
use Rattle.written_trees.specs.Written.{IsWritten, parts_in, rowid_in}

-- a number that is spelled is read back
varint_back : (v : ℕ) (rest : List ℕ) → v < 2 ^ 64 → varint_at (spell v ++ rest) ≡ Some (v, length (spell v))
varint_back v rest lt = varint_again (spell v) rest v (spell_is v lt)

-- the numbers of a cell behind its child, as they are read
numbers_in : Kind → Bool → Laid → Option ℕ → ℕ → Numbers
numbers_in kind leaf c child at = record {
  child = child;
  rowid = rowid_in kind c;
  total = if has_payload kind leaf then Some (length c.body) else None;
  len = at + length (number_part kind leaf c);
}

behind_back : (kind : Kind) (leaf : Bool) (c : Laid) (child : Option ℕ) (front rest : List ℕ) → c.rowid < 2 ^ 64 → length c.body < 2 ^ 64
    → numbers_behind kind leaf child (length front) (front ++ (number_part kind leaf c ++ rest)) ≡ Some (numbers_in kind leaf c child (length front))
unfolding numbers_behind numbers_in
behind_back Table true c child front rest r b =
    let s1 = spell (length c.body) in
    let s2 = spell c.rowid in
    let bytes : List ℕ = front ++ ((s1 ++ s2) ++ rest) in
    let one : varint_at (drop (length front) bytes) ≡ Some (length c.body, length s1)
    = ap varint_at (drop-append_seam front ((s1 ++ s2) ++ rest) ∙ append_assoc s1 s2 rest) ∙ varint_back (length c.body) (s2 ++ rest) b in
    let two : varint_at (drop (length front + length s1) bytes) ≡ Some (c.rowid, length s2)
    = ap varint_at (drop-append-add front ((s1 ++ s2) ++ rest) (length s1) ∙ ap (drop (length s1)) (append_assoc s1 s2 rest) ∙ drop-append_seam s1 (s2 ++ rest)) ∙ varint_back c.rowid rest r in
    let len : length front + length s1 + length s2 ≡ length front + length (s1 ++ s2) = omega (arith, length-append s1 s2) in
    rw (one, two, len) refl
behind_back Table false c child front rest r b =
    let one : varint_at (drop (length front) (front ++ (spell c.rowid ++ rest))) ≡ Some (c.rowid, length (spell c.rowid))
    = ap varint_at (drop-append_seam front (spell c.rowid ++ rest)) ∙ varint_back c.rowid rest r in
    rw one refl
behind_back Index leaf c child front rest r b =
    let one : varint_at (drop (length front) (front ++ (spell (length c.body) ++ rest))) ≡ Some (length c.body, length (spell (length c.body)))
    = ap varint_at (drop-append_seam front (spell (length c.body) ++ rest)) ∙ varint_back (length c.body) rest b in
    rw one refl

-- the numbers of a cell, as they are read
all_numbers : Kind → Bool → Laid → Numbers
all_numbers kind leaf c = record {
  child = if leaf then None else Some c.child;
  rowid = rowid_in kind c;
  total = if has_payload kind leaf then Some (length c.body) else None;
  len = length (head_part kind leaf c);
}

pub not_less : (n m : ℕ) → m ≤ n → nat_lt n m ≡ false
not_less n m le = grind (arith, nat_tests)

numbers_back : (kind : Kind) (leaf : Bool) (c : Laid) (rest : List ℕ) → c.child < 256 ^ 4 → c.rowid < 2 ^ 64 → length c.body < 2 ^ 64
    → numbers_of kind leaf (head_part kind leaf c ++ rest) ≡ Some (all_numbers kind leaf c)
unfolding numbers_of numbers_in all_numbers
numbers_back kind true c rest k r b =
    let e = behind_back kind true c None [] rest r b in
    let f : ℕ → Numbers = λ n. record { child = None; rowid = rowid_in kind c; total = if has_payload kind true then Some (length c.body) else None; len = n } in
    e ∙ ap (λ n. Some (f n)) (omega arith)
numbers_back kind false c rest k r b =
    let child = big_bytes 4 c.child in
    let apart : head_part kind false c ++ rest ≡ child ++ (number_part kind false c ++ rest) = append_assoc child (number_part kind false c) rest in
    let four : length child ≡ 4 = length-bytes_high_first 4 c.child in
    let long : nat_lt (length (head_part kind false c ++ rest)) 4 ≡ false
    = not_less (length (head_part kind false c ++ rest)) 4 (omega (arith, ap length apart, length-append child (number_part kind false c ++ rest), four)) in
    let number : big_number 4 (head_part kind false c ++ rest) ≡ c.child = ap (big_number 4) apart ∙ big_number-reads_back 4 c.child (number_part kind false c ++ rest) k in
    let len : length child + length (number_part kind false c) ≡ length (head_part kind false c) = omega (arith, length-append child (number_part kind false c)) in
    let f : ℕ → Numbers = λ n. record { child = Some c.child; rowid = rowid_in kind c; total = if has_payload kind false then Some (length c.body) else None; len = n } in
    let e : numbers_behind kind false (Some c.child) 4 (head_part kind false c ++ rest) ≡ Some (f (length (head_part kind false c)))
    = ap (numbers_behind kind false (Some c.child) 4) apart
    ∙ ap (λ n. numbers_behind kind false (Some c.child) n (child ++ (number_part kind false c ++ rest))) (sym four)
    ∙ behind_back kind false c (Some c.child) child rest r b ∙ ap (λ n. Some (f n)) len in
    rw (long, number) e

-- the payload of a cell behind its numbers
pub record Payload (usable : ℕ) (kind : Kind) (leaf : Bool) (c : Laid) (bytes : List ℕ) : Type 0 where
  pub long : nat_lt (length bytes) (size_of (length (head_part kind leaf c)) (kept_of usable kind c.body) (length c.body)) ≡ false
  pub next : nat_eq (kept_of usable kind c.body) (length c.body) ≡ false → u32_at bytes (length (head_part kind leaf c) + kept_of usable kind c.body) ≡ c.next

pub payload_there : (usable : ℕ) (kind : Kind) (leaf : Bool) (c : Laid) (rest : List ℕ) → 480 ≤ usable → c.next < 256 ^ 4
    → Payload usable kind leaf c (cell_bytes usable kind leaf c ++ rest)
unfolding cell_bytes
payload_there usable kind leaf c rest least small =
    let kept = kept_of usable kind c.body in
    let head = head_part kind leaf c in
    let local = take kept c.body in
    let le = local_le kind usable (length c.body) least in
    let len : length local ≡ kept = omega (arith, length-take kept c.body) in
    let whole : (head ++ payload_part usable kind c) ++ rest ≡ head ++ (local ++ (link kept (length c.body) c.next ++ rest))
    = append_assoc head (payload_part usable kind c) rest ∙ ap (λ (t : List ℕ). head ++ t) (append_assoc local (link kept (length c.body) c.next) rest) in
    let all : length ((head ++ payload_part usable kind c) ++ rest) ≡ length head + (kept + (length (link kept (length c.body) c.next) + length rest))
    = omega (
      arith,
      ap length whole,
      length-append head (local ++ (link kept (length c.body) c.next ++ rest)),
      length-append local (link kept (length c.body) c.next ++ rest),
      length-append (link kept (length c.body) c.next) rest,
      len,
    ) in
    record {
      long = not_less (length ((head ++ payload_part usable kind c) ++ rest)) (size_of (length head) kept (length c.body)) (size_le (nat_eq kept (length c.body)) (length head) kept (length rest) c.next (length ((head ++ payload_part usable kind c) ++ rest)) all);
      next = λ e.
          let linked : link kept (length c.body) c.next ≡ big_bytes 4 c.next = rw e refl in
          let place : drop (length head + kept) ((head ++ payload_part usable kind c) ++ rest) ≡ big_bytes 4 c.next ++ rest
          = ap (drop (length head + kept)) whole ∙ drop-append-add head (local ++ (link kept (length c.body) c.next ++ rest)) kept
          ∙ ap (λ n. drop n (local ++ (link kept (length c.body) c.next ++ rest))) (sym len) ∙ drop-append_seam local (link kept (length c.body) c.next ++ rest)
          ∙ ap (λ (t : List ℕ). t ++ rest) linked in
          ap (big_number 4) place ∙ big_number-reads_back 4 c.next rest small;
    }
  where
    size_le : (b : Bool) (from kept more next all : ℕ) → all ≡ from + (kept + (length (if b then [] else big_bytes 4 next) + more)) → (if b then from + kept else from + kept + 4) ≤ all
    size_le true from kept more next all e = omega arith
    size_le false from kept more next all e = omega (arith, e, length-bytes_high_first 4 next)

payload_back : (usable : ℕ) (kind : Kind) (leaf : Bool) (c : Laid) (bytes : List ℕ) → Payload usable kind leaf c bytes
    → with_payload usable kind bytes (all_numbers kind leaf c) (length c.body) ≡ Ok (parts_in usable kind leaf c)
unfolding with_payload all_numbers
payload_back usable kind leaf c bytes p =
    finish (nat_eq (kept_of usable kind c.body) (length c.body)) p.long p.next
  where
    made : Bool → ℕ → Parts
    made b q = record {
      child = if leaf then None else Some c.child;
      rowid = rowid_in kind c;
      total = length c.body;
      from = length (head_part kind leaf c);
      kept = kept_of usable kind c.body;
      size = if b then length (head_part kind leaf c) + kept_of usable kind c.body else length (head_part kind leaf c) + kept_of usable kind c.body + 4;
      overflow = if b then None else Some q;
    }

    finish : (b : Bool) → nat_lt (length bytes) (if b then length (head_part kind leaf c) + kept_of usable kind c.body else length (head_part kind leaf c) + kept_of usable kind c.body + 4) ≡ false
        → (b ≡ false → u32_at bytes (length (head_part kind leaf c) + kept_of usable kind c.body) ≡ c.next)
        → (if nat_lt (length bytes) (if b then length (head_part kind leaf c) + kept_of usable kind c.body else length (head_part kind leaf c) + kept_of usable kind c.body + 4) then Err Cut
        else Ok (made b (u32_at bytes (length (head_part kind leaf c) + kept_of usable kind c.body)))) ≡ Ok (made b c.next)
    finish true long next = rw long refl
    finish false long next = rw (long, next refl) refl

-- a key cell has no payload
bare_back : (usable limit : ℕ) (kind : Kind) (leaf : Bool) (c : Laid) → 480 ≤ usable → c.body ≡ [] → without_payload (all_numbers kind leaf c) ≡ parts_in usable kind leaf c
unfolding all_numbers
bare_back usable limit kind leaf c least none =
    let kept : kept_of usable kind c.body ≡ 0 = ap (λ (t : List ℕ). local_len kind usable (length t)) none ∙ local_none kind usable least in
    let total : length c.body ≡ 0 = ap length none in
    let f : ℕ → ℕ → Parts = λ k t. record {
      child = if leaf then None else Some c.child;
      rowid = rowid_in kind c;
      total = t;
      from = length (head_part kind leaf c);
      kept = k;
      size = size_of (length (head_part kind leaf c)) k t;
      overflow = if nat_eq k t then None else Some c.next;
    } in
    let g : ℕ → Parts = λ n. record {
      child = if leaf then None else Some c.child;
      rowid = rowid_in kind c;
      total = 0;
      from = length (head_part kind leaf c);
      kept = 0;
      size = n;
      overflow = None;
    } in
    ap g (omega arith) ∙ sym (ap (λ k. f k (length c.body)) kept ∙ ap (f 0) total)

test_false : (total limit : ℕ) → 1 ≤ total → total ≤ limit → (nat_eq total 0 || nat_lt limit total) ≡ false
test_false total limit one le = grind (arith, nat_tests)

by_payload : (usable limit : ℕ) (kind : Kind) (leaf : Bool) (c : Laid) (rest : List ℕ) (b : Bool) → has_payload kind leaf ≡ b → 480 ≤ usable → IsWritten limit kind leaf c
    → parts_with usable limit kind (cell_bytes usable kind leaf c ++ rest) (all_numbers kind leaf c) (if b then Some (length c.body) else None) ≡ Ok (parts_in usable kind leaf c)
by_payload usable limit kind leaf c rest true e least w =
    let t : (nat_eq (length c.body) 0 || nat_lt limit (length c.body)) ≡ false = test_false (length c.body) limit (w.some e) w.most in
    rw t (payload_back usable kind leaf c (cell_bytes usable kind leaf c ++ rest) (payload_there usable kind leaf c rest least w.next))
by_payload usable limit kind leaf c rest false e least w = ap Ok (bare_back usable limit kind leaf c least (w.none e))

pub cell_reads : CellsReadBack
unfolding cell_parts cell_bytes all_numbers
cell_reads usable limit kind leaf c rest least w =
    let apart : cell_bytes usable kind leaf c ++ rest ≡ head_part kind leaf c ++ (payload_part usable kind c ++ rest) = append_assoc (head_part kind leaf c) (payload_part usable kind c) rest in
    ap (parts_from usable limit kind (cell_bytes usable kind leaf c ++ rest))
    (ap (numbers_of kind leaf) apart ∙ numbers_back kind leaf c (payload_part usable kind c ++ rest) w.child w.rowid w.large)
    ∙ by_payload usable limit kind leaf c rest (has_payload kind leaf) refl least w
