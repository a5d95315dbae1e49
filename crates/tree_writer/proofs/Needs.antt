-- The room that cells need on a page, and the pages that entries need.
use Rattle.std.proofs.Common.{◌≡◌, ◌<◌, ◌≤◌, ◌⊎◌, inl, inr, ℕ, zero, suc, ◌+◌, ◌-◌, ◌*◌, ◌/◌, ◌%◌, ◌^◌, Bool, true, false, List, [], ◌∷◌, length, map, nat_le, nat_eq, sum_by, refl, sym, ap, ◌∙◌, subst, arith}
use Rattle.std.specs.Prelude.{if◌then◌else◌, max}
use Rattle.std.specs.List.{AllByRecursion}
use Rattle.std.proofs.Math.Nat.{div-mul-le_self, mul-le-mul_left}
use Rattle.std.proofs.lemmas.Bool.Decides.{nat_tests}
use Rattle.std.proofs.lemmas.List.Sums.{sum_by-cons}
use Rattle.varint_core.specs.Shortest.{varint_len}
use Rattle.varint_core.proofs.Spelled.{IsLen, len_is}
use Rattle.cell_reader.specs.declared.shapes.Kind.{Kind}
use Rattle.cell_reader.specs.declared.shapes.Kind.TheVariants.{Table, Index}
use Rattle.cell_reader.specs.Cell.{least_local, local_len, most_local}
use Rattle.tree_writer.specs.Cells.{cell_len, item_overs, kept_of, overs, need_of, number_len, numbers_of_lens, over_count, payload_len, slot_len}
use Rattle.tree_writer.specs.Entry.{AreEntries, Entry, HasBytes, Item, entry_at, leaf_item, raw_of, weight}
use Rattle.tree_writer.specs.Levels.{room_in}
use Rattle.tree_writer.proofs.Chaining.{small_div}
use Rattle.tree_writer.proofs.Lens.{local_le, local_most, local_none}

numbers_most : (kind : Kind) (leaf : Bool) (e : Entry) → number_len kind leaf e ≤ 18
numbers_most Table true e = let a = (len_is (length e.bytes)).most in let b = (len_is (raw_of e.rowid)).most in omega (arith, a, b)
numbers_most Table false e = let b = (len_is (raw_of e.rowid)).most in omega (arith, b)
numbers_most Index leaf e = let a = (len_is (length e.bytes)).most in omega (arith, a)

index_numbers : (leaf : Bool) (e : Entry) → number_len Index leaf e ≤ 9
index_numbers leaf e = (len_is (length e.bytes)).most

payload_most : (kept total : ℕ) → payload_len kept total ≤ kept + 4
payload_most kept total = by (nat_eq kept total)
  where
    by : (b : Bool) → (if b then kept else kept + 4) ≤ kept + 4
    by true = omega arith
    by false = omega arith

child_most : (leaf : Bool) → (if leaf then 0 else 4) ≤ 4
child_most true = omega arith
child_most false = omega arith

-- an entry has room on a leaf
pub leaf_fits : (usable : ℕ) (kind : Kind) (x : Item) → 480 ≤ usable → need_of usable kind true x ≤ room_in usable true
unfolding cell_len
leaf_fits usable Table x least =
    let e = x.entry in
    omega (arith, numbers_most Table true e, payload_most (kept_of usable Table e.bytes) (length e.bytes), local_most Table usable (length e.bytes) least)
leaf_fits usable Index x least =
    let e = x.entry in
    omega (arith, index_numbers true e, payload_most (kept_of usable Index e.bytes) (length e.bytes), local_most Index usable (length e.bytes) least)

-- any two index cells have room on a page
pub index_half : (usable : ℕ) (leaf : Bool) (x : Item) → 480 ≤ usable → 2 * need_of usable Index leaf x ≤ usable - 12
unfolding cell_len
index_half usable leaf x least =
    let e = x.entry in
    let m = local_most Index usable (length e.bytes) least in
    omega (arith, child_most leaf, index_numbers leaf e, payload_most (kept_of usable Index e.bytes) (length e.bytes), m)

-- so have any two keys
pub key_half : (usable : ℕ) (x : Item) → 480 ≤ usable → x.entry.bytes ≡ [] → 2 * need_of usable Table false x ≤ usable - 12
unfolding cell_len
key_half usable x least none =
    let e = x.entry in
    let kept : kept_of usable Table e.bytes ≡ 0 = ap (λ (t : List ℕ). local_len Table usable (length t)) none ∙ local_none Table usable least in
    omega (arith, (len_is (raw_of e.rowid)).most, payload_most (kept_of usable Table e.bytes) (length e.bytes), kept)

over_pick : (b c : Bool) (total wanted least : ℕ) → (if b then total else (if c then wanted else least)) < total → b ≡ false
over_pick true c total wanted least lt = absurd (omega arith)
over_pick false c total wanted least lt = refl

-- a payload that is not all local is long
over_some : (usable : ℕ) (kind : Kind) (total : ℕ) → 512 ≤ usable → local_len kind usable total < total → 95 ≤ total
unfolding local_len
over_some usable kind total least lt =
    let e = over_pick (nat_le total (most_local kind usable)) (nat_le (least_local usable + (total - least_local usable) % (usable - 4)) (most_local kind usable))
    total (least_local usable + (total - least_local usable) % (usable - 4)) (least_local usable) lt in
    let h : most_local kind usable < total = grind (arith, nat_tests) in
    omega (arith, many kind)
  where
    many : (k : Kind) → 94 ≤ most_local k usable
    many Table = omega arith
    many Index = omega arith

same_or_less : (n m : ℕ) → n ≤ m → (n ≡ m) ⊎ (n < m)
same_or_less n m le = by (m - n) refl
  where
    by : (d : ℕ) → m - n ≡ d → (n ≡ m) ⊎ (n < m)
    by zero e = inl (omega arith)
    by (suc d) e = inr (omega arith)

over_most : (q d n total : ℕ) → 508 ≤ d → 95 ≤ total → n ≤ total + d - 1 → q * d ≤ n → 16 * q ≤ total
over_most zero d n total dd tt' nn h = omega arith
over_most (suc q) d n total dd tt' nn h =
    let few = mul-le-mul_left q dd in
    let step : suc q * d ≡ q * d + d = omega arith in
    omega (arith, few, step)

-- an entry weighs sixteen times the pages that it may need
pub entry_pages : (usable : ℕ) (kind : Kind) (e : Entry) → 512 ≤ usable → 1 ≤ length e.bytes → 16 * (2 + over_count usable kind e) ≤ weight e
unfolding over_count
entry_pages usable kind e least some =
    let least' : 480 ≤ usable = omega arith in
    let kept = kept_of usable kind e.bytes in
    let n : ℕ = length e.bytes - kept + (usable - 5) in
    let d = div-mul-le_self n (usable - 4) in
    elim (same_or_less kept (length e.bytes) (local_le kind usable (length e.bytes) least')) [
      | inl same ↦ let none : n / (usable - 4) ≡ 0 = small_div (n / (usable - 4)) (usable - 4) (omega (arith, d, same)) in omega (arith, none)
      | inr less ↦ let q : 16 * (n / (usable - 4)) ≤ length e.bytes = over_most (n / (usable - 4)) (usable - 4) n (length e.bytes) (omega arith) (over_some usable kind (length e.bytes) least less) (omega arith) d in omega (arith, q)
    ]

pub entries_pages : (usable : ℕ) (kind : Kind) (es : List Entry) → 512 ≤ usable → AllByRecursion HasBytes es
    → 16 * (2 * length es + overs usable kind (map leaf_item es)) ≤ sum_by weight es
entries_pages usable kind [] least some = omega arith
entries_pages usable kind (e ∷ es) least some =
    omega (arith, entry_pages usable kind e least some.0, entries_pages usable kind es least some.1, sum_by-cons weight e es, sum_by-cons (item_overs usable kind) (leaf_item e) (map leaf_item es))

pub entry_small : (es : List Entry) (i : ℕ) → length (entry_at es i).bytes ≤ sum_by weight es
entry_small [] i = omega arith
entry_small (e ∷ es) zero = omega (arith, sum_by-cons weight e es)
entry_small (e ∷ es) (suc i) = omega (arith, entry_small es i, sum_by-cons weight e es)

-- entries are few, and so are their overflow pages
pub record Few (usable : ℕ) (kind : Kind) (es : List Entry) : Type 0 where
  pub pages : 2 * length es + overs usable kind (map leaf_item es) ≤ 2 ^ 31
  pub small : (i : ℕ) → length (entry_at es i).bytes < 2 ^ 36

pub few_entries : (usable : ℕ) (kind : Kind) (es : List Entry) → 512 ≤ usable → AreEntries es → Few usable kind es
few_entries usable kind es least a = record {
  pages = omega (arith, entries_pages usable kind es least a.some, a.load);
  small = λ i. omega (arith, entry_small es i, a.load);
}
