-- The lengths of cells as they are written.
use Rattle.std.proofs.Common.{◌≡◌, ◌<◌, ◌≤◌, ℕ, zero, suc, ◌+◌, ◌-◌, ◌*◌, ◌/◌, ◌%◌, ◌^◌, Bool, true, false, Option, Some, None, List, [], ◌∷◌, ◌++◌, length, take, drop, get_or, map, sum_by, nat_le, nat_lt, nat_eq, refl, sym, ap, ◌∙◌, subst, arith, length-append, length-take, length-drop}
use Rattle.std.specs.Prelude.{if◌then◌else◌, replicate, max}
use Rattle.std.proofs.lemmas.Bool.Decides.{nat_tests}
use Rattle.std.proofs.lemmas.List.{length-replicate}
use Rattle.byteorder.specs.Endian.{big_bytes}
use Rattle.byteorder.specs.Numbers.{length-bytes_high_first}
use Rattle.varint_core.specs.Shortest.{spell, varint_len}
use Rattle.varint_core.proofs.Spelled.{len_is, length-spell}
use Rattle.cell_reader.specs.declared.shapes.Kind.{Kind}
use Rattle.cell_reader.specs.declared.shapes.Kind.TheVariants.{Table, Index}
use Rattle.cell_reader.specs.Cell.{least_local, local_len, most_local}
use Rattle.tree_writer.specs.Entry.{Entry, Item, raw_of}
use Rattle.tree_writer.specs.Cells.{Laid, cell_bytes, cell_len, child_part, head_part, kept_of, laid_of, link, need_of, number_len, number_part, numbers_of_lens, over_count, payload_len, payload_part, slot_len}
use Rattle.tree_writer.specs.Page.{slot, slot_size}

pick_le : (b c : Bool) (total wanted least : ℕ) → (b ≡ false → wanted ≤ total) → (b ≡ false → least ≤ total)
    → (if b then total else (if c then wanted else least)) ≤ total
pick_le true c total wanted least w l = omega arith
pick_le false true total wanted least w l = w refl
pick_le false false total wanted least w l = l refl

least_most : (kind : Kind) (usable : ℕ) → 480 ≤ usable → least_local usable ≤ most_local kind usable
least_most Table usable least = omega arith
least_most Index usable least = omega arith

-- no more bytes are local than there are
pub local_le : (kind : Kind) (usable total : ℕ) → 480 ≤ usable → local_len kind usable total ≤ total
unfolding local_len
local_le kind usable total least =
    pick_le (nat_le total (most_local kind usable))
    (nat_le (least_local usable + (total - least_local usable) % (usable - 4)) (most_local kind usable))
    total (least_local usable + (total - least_local usable) % (usable - 4)) (least_local usable)
    (λ e. let h = over e in let m = mod_le (total - least_local usable) (usable - 4) in omega arith) (λ e. let h = over e in omega arith)
  where
    over : nat_le total (most_local kind usable) ≡ false → least_local usable ≤ total
    over e = let l = least_most kind usable least in let h : most_local kind usable < total = grind (arith, nat_tests) in omega arith

    mod_le : (n m : ℕ) → n % m ≤ n
    mod_le n m = omega arith

pick_most : (b c : Bool) (total wanted least most : ℕ) → (b ≡ true → total ≤ most) → (c ≡ true → wanted ≤ most) → least ≤ most
    → (if b then total else (if c then wanted else least)) ≤ most
pick_most true c total wanted least most t w l = t refl
pick_most false true total wanted least most t w l = w refl
pick_most false false total wanted least most t w l = l

-- a payload's local bytes fit its page
pub local_most : (kind : Kind) (usable total : ℕ) → 480 ≤ usable → local_len kind usable total ≤ most_local kind usable
unfolding local_len
local_most kind usable total least =
    pick_most (nat_le total (most_local kind usable))
    (nat_le (least_local usable + (total - least_local usable) % (usable - 4)) (most_local kind usable))
    total (least_local usable + (total - least_local usable) % (usable - 4)) (least_local usable) (most_local kind usable)
    (λ e. grind (arith, nat_tests)) (λ e. grind (arith, nat_tests)) (least_most kind usable least)

-- a payload of no bytes has none that are local
pub local_none : (kind : Kind) (usable : ℕ) → 480 ≤ usable → local_len kind usable 0 ≡ 0
local_none kind usable least = let h = local_le kind usable 0 least in omega arith

length-child : (leaf : Bool) (child : ℕ) → length (child_part leaf child) ≡ (if leaf then 0 else 4)
length-child true child = refl
length-child false child = length-bytes_high_first 4 child

length-number : (kind : Kind) (leaf : Bool) (c : Laid) (rowid : Option _) → c.rowid ≡ raw_of rowid
    → length (number_part kind leaf c) ≡ numbers_of_lens kind leaf (length c.body) rowid
length-number Table true c rowid e = length-append (spell (length c.body)) (spell c.rowid)
    ∙ ap (λ n. n + length (spell c.rowid)) (length-spell (length c.body)) ∙ ap (λ n. varint_len (length c.body) + n) (length-spell c.rowid ∙ ap varint_len e)
length-number Table false c rowid e = length-spell c.rowid ∙ ap varint_len e
length-number Index leaf c rowid e = length-spell (length c.body)

length-link : (kept total next : ℕ) → kept + length (link kept total next) ≡ payload_len kept total
length-link kept total next = by (nat_eq kept total)
  where
    by : (b : Bool) → kept + length (if b then [] else big_bytes 4 next) ≡ (if b then kept else kept + 4)
    by true = omega arith
    by false = ap (λ n. kept + n) (length-bytes_high_first 4 next)

length-payload : (usable : ℕ) (kind : Kind) (c : Laid) → 480 ≤ usable
    → length (payload_part usable kind c) ≡ payload_len (kept_of usable kind c.body) (length c.body)
length-payload usable kind c least =
    let kept = kept_of usable kind c.body in
    let le = local_le kind usable (length c.body) least in
    let front : length (take kept c.body) ≡ kept = omega (arith, length-take kept c.body) in
    length-append (take kept c.body) (link kept (length c.body) c.next)
    ∙ ap (λ n. n + length (link kept (length c.body) c.next)) front ∙ length-link kept (length c.body) c.next

-- the length of a written cell
pub length-cell : (usable : ℕ) (kind : Kind) (leaf : Bool) (number : ℕ → ℕ) (k : ℕ) (x : Item) → 480 ≤ usable
    → length (cell_bytes usable kind leaf (laid_of number k x)) ≡ cell_len usable kind leaf x.entry
unfolding cell_bytes cell_len
length-cell usable kind leaf number k x least =
    let c = laid_of number k x in
    omega (
      arith,
      length-append (head_part kind leaf c) (payload_part usable kind c),
      length-append (child_part leaf c.child) (number_part kind leaf c),
      length-child leaf c.child,
      length-number kind leaf c x.entry.rowid refl,
      length-payload usable kind c least,
    )

pub length-slot : (cell : List ℕ) → slot_size cell ≡ slot_len (length cell)
length-slot cell = omega (arith, length-append cell (replicate (4 - length cell) 0), length-replicate {A = ℕ} (4 - length cell) 0)

pub slot_of_cell : (usable : ℕ) (kind : Kind) (leaf : Bool) (number : ℕ → ℕ) (k : ℕ) (x : Item) → 480 ≤ usable
    → slot_size (cell_bytes usable kind leaf (laid_of number k x)) ≡ slot_len (cell_len usable kind leaf x.entry)
slot_of_cell usable kind leaf number k x least =
    length-slot (cell_bytes usable kind leaf (laid_of number k x)) ∙ ap slot_len (length-cell usable kind leaf number k x least)
