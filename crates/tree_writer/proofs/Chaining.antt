-- Which overflow page has an index.
use Rattle.std.proofs.Common.{◌≡◌, ◌<◌, ◌≤◌, ℕ, zero, suc, ◌+◌, ◌-◌, ◌*◌, ◌/◌, ◌^◌, Bool, true, false, List, [], ◌∷◌, ◌++◌, length, take, drop, get_or, sum_by, nat_eq, refl, sym, ap, ◌∙◌, subst, arith, length-append, length-take, length-drop, drop-drop, add-one}
use Rattle.std.specs.Prelude.{if◌then◌else◌, min, replicate}
use Rattle.std.specs.List.{slice_range}
use Rattle.std.proofs.Math.Nat.{div-mul-le_self, mul-le-mul_right}
use Rattle.std.proofs.Math.ListN.{get_or-append}
use Rattle.std.proofs.Math.Seq.{get_or-append_right}
use Rattle.std.proofs.lemmas.List.{take_all, drop-take}
use Rattle.std.proofs.lemmas.List.Sums.{sum_by_more, sum_by_more_le}
use Rattle.byteorder.specs.Endian.{big_bytes}
use Rattle.cell_reader.specs.declared.shapes.Kind.{Kind}
use Rattle.cell_reader.specs.Inside.{has_payload}
use Rattle.tree_writer.specs.declared.sizes.Size.{Size}
use Rattle.tree_writer.specs.Entry.{Entry, Item, entry_at, key_of, no_item}
use Rattle.tree_writer.specs.Cells.{chain_pages, chains_from, item_overs, kept_of, over_count, over_page, over_pages, overs}
use Rattle.tree_writer.specs.Plan.{part_of, size_item}
use Rattle.tree_writer.proofs.Lists.{at_head, at_end}
use Rattle.tree_writer.proofs.Lens.{local_le, local_none}

pub length-over : (usable : ℕ) (number : ℕ → ℕ) (k n : ℕ) (bytes : List ℕ) → length (over_pages usable number k n bytes) ≡ n
length-over usable number k zero bytes = refl
length-over usable number k (suc n) bytes = ap suc (length-over usable number (k + 1) n (drop (usable - 4) bytes))

pub small_div : (q d : ℕ) → q * d < d → q ≡ 0
small_div zero d lt = refl
small_div (suc q) d lt = absurd (omega arith)

-- a key has no overflow pages
pub key_alone : (usable : ℕ) (kind : Kind) (e : Entry) → 480 ≤ usable → over_count usable kind (key_of e) ≡ 0
unfolding over_count
key_alone usable kind e least =
    let none = local_none kind usable least in
    let n : ℕ = length (key_of e).bytes - kept_of usable kind (key_of e).bytes + (usable - 5) in
    small_div (n / (usable - 4)) (usable - 4) (omega (arith, div-mul-le_self n (usable - 4), none))

-- what has overflow pages is the whole entry
pub part_whole : (usable : ℕ) (kind : Kind) (leaf : Bool) (e : Entry) → 480 ≤ usable → 0 < over_count usable kind (part_of kind leaf e) → part_of kind leaf e ≡ e
part_whole usable kind leaf e least some = by (has_payload kind leaf) some
  where
    by : (b : Bool) → 0 < over_count usable kind (if b then e else key_of e) → (if b then e else key_of e) ≡ e
    by true some = refl
    by false some = absurd (let none = key_alone usable kind e least in omega arith)

-- what is kept while the cell of an overflow page is looked for
pub record Chaining (usable : ℕ) (kind : Kind) (items : List Item) (first k at i : ℕ) : Type 0 where
  pub at_is : at ≡ first + overs usable kind (take i items)
  pub low : at ≤ k
  pub pages : (number : ℕ → ℕ) → get_or (chains_from usable kind number first items) (k - first) [] ≡ get_or (chains_from usable kind number at (drop i items)) (k - at) []

pub chaining_start : (usable : ℕ) (kind : Kind) (items : List Item) (first k : ℕ) → first ≤ k → Chaining usable kind items first k first 0
chaining_start usable kind items first k low = record { at_is = omega arith; low = low; pages = λ number. refl }

-- the pages from cell i on, seen at its own
chains_at : (usable : ℕ) (kind : Kind) (items : List Item) (i at : ℕ) → i < length items → (number : ℕ → ℕ)
    → chains_from usable kind number at (drop i items)
    ≡ chain_pages usable kind number at (get_or items i no_item).entry ++ chains_from usable kind number (at + item_overs usable kind (get_or items i no_item)) (drop (i + 1) items)
chains_at usable kind items i at lt number = ap (chains_from usable kind number at) (at_head no_item items i lt)

pub length-chain : (usable : ℕ) (kind : Kind) (number : ℕ → ℕ) (k : ℕ) (e : Entry) → length (chain_pages usable kind number k e) ≡ over_count usable kind e
length-chain usable kind number k e = length-over usable number k (over_count usable kind e) (drop (kept_of usable kind e.bytes) e.bytes)

pub chaining_more : (usable : ℕ) (kind : Kind) (leaf : Bool) (items : List Item) (first k at i : ℕ) (s : Size) → Chaining usable kind items first k at i
    → i < length items → s ≡ size_item usable kind leaf (get_or items i no_item) → at + s.overs ≤ k → Chaining usable kind items first k (at + s.overs) (i + 1)
chaining_more usable kind leaf items first k at i s c lt is past =
    let x = get_or items i no_item in
    let o : s.overs ≡ item_overs usable kind x = ap (λ (t : Size). t.overs) is in
    record {
      at_is = omega (arith, c.at_is, o, sum_by_more (item_overs usable kind) items i no_item lt);
      low = past;
      pages = λ number.
          let pages = chain_pages usable kind number at x.entry in
          let rest = chains_from usable kind number (at + item_overs usable kind x) (drop (i + 1) items) in
          let len : length pages ≡ item_overs usable kind x = length-chain usable kind number at x.entry in
          let le : length pages ≤ k - at = omega (arith, len, o) in
          let place : k - at - length pages ≡ k - (at + s.overs) = omega (arith, len, o) in
          c.pages number ∙ ap (λ t. get_or t (k - at) []) (chains_at usable kind items i at lt number)
          ∙ get_or-append_right pages rest (k - at) [] le ∙ ap (λ n. get_or rest n []) place
          ∙ ap (λ n. get_or (chains_from usable kind number (at + n) (drop (i + 1) items)) (k - (at + s.overs)) []) (sym o);
    }

-- the cell is found
pub record Found (usable : ℕ) (kind : Kind) (es : List Entry) (items : List Item) (first k at entry : ℕ) (s : Size) : Type 0 where
  pub many : s.overs ≡ over_count usable kind (entry_at es entry)
  pub end : at + s.overs ≤ first + overs usable kind items
  pub pages : (number : ℕ → ℕ) → get_or (chains_from usable kind number first items) (k - first) [] ≡ get_or (chain_pages usable kind number at (entry_at es entry)) (k - at) []

pub chaining_found : (usable : ℕ) (kind : Kind) (leaf : Bool) (es : List Entry) (items : List Item) (first k at i child entry : ℕ) (s : Size) → 480 ≤ usable
    → Chaining usable kind items first k at i → i < length items → s ≡ size_item usable kind leaf (get_or items i no_item)
    → get_or items i no_item ≡ record { child = child; entry = part_of kind leaf (entry_at es entry) } → k < at + s.overs
    → Found usable kind es items first k at entry s
chaining_found usable kind leaf es items first k at i child entry s least c lt is item high =
    let x = get_or items i no_item in
    let o : s.overs ≡ item_overs usable kind x = ap (λ (t : Size). t.overs) is in
    let e : x.entry ≡ part_of kind leaf (entry_at es entry) = ap (λ (t : Item). t.entry) item in
    let oe : over_count usable kind x.entry ≡ over_count usable kind (part_of kind leaf (entry_at es entry)) = ap (over_count usable kind) e in
    let whole : part_of kind leaf (entry_at es entry) ≡ entry_at es entry = part_whole usable kind leaf (entry_at es entry) least (omega (arith, c.low, o, oe)) in
    record {
      many = o ∙ ap (over_count usable kind) (e ∙ whole);
      end = omega (arith, c.at_is, o, sum_by_more_le (item_overs usable kind) items i no_item lt);
      pages = λ number.
          let pages = chain_pages usable kind number at x.entry in
          let rest = chains_from usable kind number (at + item_overs usable kind x) (drop (i + 1) items) in
          let len : length pages ≡ item_overs usable kind x = length-chain usable kind number at x.entry in
          let here : k - at < length pages = omega (arith, len, o, c.low) in
          c.pages number ∙ ap (λ t. get_or t (k - at) []) (chains_at usable kind items i at lt number)
          ∙ get_or-append pages rest [] (k - at) here
          ∙ ap (λ (t : Entry). get_or (chain_pages usable kind number at t) (k - at) []) (e ∙ whole);
    }

-- ---- the page itself

-- overflow page r of n
pub over_at : (usable : ℕ) (number : ℕ → ℕ) (k n r : ℕ) (bytes : List ℕ) → r < n
    → get_or (over_pages usable number k n bytes) r [] ≡ over_page usable number (k + r) (nat_eq (n - 1 - r) 0) (drop (r * (usable - 4)) bytes)
over_at usable number k zero r bytes lt = absurd (omega arith)
over_at usable number k (suc n) zero bytes lt =
    let a : k ≡ k + 0 = omega arith in
    let b : n ≡ suc n - 1 - 0 = omega arith in
    let c : 0 ≡ 0 * (usable - 4) = omega arith in
    ap (λ m. over_page usable number m (nat_eq n 0) bytes) a ∙ ap (λ m. over_page usable number (k + 0) (nat_eq m 0) bytes) b
    ∙ ap (λ m. over_page usable number (k + 0) (nat_eq (suc n - 1 - 0) 0) (drop m bytes)) c
over_at usable number k (suc n) (suc r) bytes lt =
    let a : k + 1 + r ≡ k + suc r = omega arith in
    let b : n - 1 - r ≡ suc n - 1 - suc r = omega arith in
    let c : (usable - 4) + r * (usable - 4) ≡ suc r * (usable - 4) = omega arith in
    over_at usable number (k + 1) n r (drop (usable - 4) bytes) (omega arith)
    ∙ ap (λ m. over_page usable number m (nat_eq (n - 1 - r) 0) (drop (r * (usable - 4)) (drop (usable - 4) bytes))) a
    ∙ ap (λ m. over_page usable number (k + suc r) (nat_eq m 0) (drop (r * (usable - 4)) (drop (usable - 4) bytes))) b
    ∙ ap (λ (t : List ℕ). over_page usable number (k + suc r) (nat_eq (suc n - 1 - suc r) 0) t)
    (drop-drop (r * (usable - 4)) (usable - 4) bytes ∙ ap (λ m. drop m bytes) c)

pub chaining_room : (usable : ℕ) (kind : Kind) (leaf : Bool) (items : List Item) (first k at i : ℕ) (s : Size) → Chaining usable kind items first k at i
    → i < length items → s ≡ size_item usable kind leaf (get_or items i no_item) → at + s.overs ≤ first + overs usable kind items
chaining_room usable kind leaf items first k at i s c lt is =
    let o : s.overs ≡ item_overs usable kind (get_or items i no_item) = ap (λ (t : Size). t.overs) is in
    omega (arith, c.at_is, o, sum_by_more_le (item_overs usable kind) items i no_item lt)

-- an overflow page has a byte of its payload at least
pub over_inside : (usable : ℕ) (kind : Kind) (e : Entry) (r : ℕ) → 480 ≤ usable → r < over_count usable kind e → kept_of usable kind e.bytes + r * (usable - 4) < length e.bytes
unfolding over_count
over_inside usable kind e r least lt =
    let n : ℕ = length e.bytes - kept_of usable kind e.bytes + (usable - 5) in
    let all = div-mul-le_self n (usable - 4) in
    let one = mul-le-mul_right (usable - 4) lt in
    let step : suc r * (usable - 4) ≡ r * (usable - 4) + (usable - 4) = omega arith in
    let le = local_le kind usable (length e.bytes) least in
    omega (arith, all, one, step)

-- the page that is put is the one of the chain
pub over_written : (usable : ℕ) (kind : Kind) (number : ℕ → ℕ) (e : Entry) (first k : ℕ) (content to : List ℕ) (next : ℕ)
    → first ≤ k → k < first + over_count usable kind e
    → content ≡ take (usable - 4) (drop (kept_of usable kind e.bytes + (k - first) * (usable - 4)) e.bytes)
    → next ≡ (if nat_eq (over_count usable kind e - 1 - (k - first)) 0 then 0 else number (k + 1))
    → to ≡ big_bytes 4 next ++ (content ++ replicate (usable - 4 - length content) 0)
    → to ≡ get_or (chain_pages usable kind number first e) (k - first) []
over_written usable kind number e first k content to next low high c n t =
    let kept = kept_of usable kind e.bytes in
    let r = k - first in
    let bytes = drop kept e.bytes in
    let body : drop (kept + r * (usable - 4)) e.bytes ≡ drop (r * (usable - 4)) bytes
    = sym (drop-drop (r * (usable - 4)) kept e.bytes) in
    let content_of = c ∙ ap (take (usable - 4)) body in
    let zeros : usable - 4 - length content ≡ usable - 4 - length (drop (r * (usable - 4)) bytes)
    = omega (arith, ap length content_of, length-take (usable - 4) (drop (r * (usable - 4)) bytes)) in
    let place : k ≡ first + r = omega arith in
    t ∙ ap (λ m. big_bytes 4 next ++ (content ++ replicate m 0)) zeros
    ∙ ap (λ (s : List ℕ). big_bytes 4 next ++ (s ++ replicate (usable - 4 - length (drop (r * (usable - 4)) bytes)) 0)) content_of
    ∙ ap (λ m. big_bytes 4 m ++ (take (usable - 4) (drop (r * (usable - 4)) bytes) ++ replicate (usable - 4 - length (drop (r * (usable - 4)) bytes)) 0)) n
    ∙ ap (λ m. over_page usable number m (nat_eq (over_count usable kind e - 1 - r) 0) (drop (r * (usable - 4)) bytes)) place
    ∙ sym (over_at usable number first (over_count usable kind e) r bytes (omega arith))
