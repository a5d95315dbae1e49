-- A page as it is put down, piece by piece.
use Rattle.std.specs.Prelude.{if◌then◌else◌, replicate}
use Rattle.std.proofs.Common.{◌≡◌, ◌<◌, ◌≤◌, ℕ, zero, suc, ◌+◌, ◌-◌, ◌*◌, ◌^◌, Bool, true, false, Option, Some, None, List, [], ◌∷◌, ◌++◌, length, take, drop, get_or, map, sum_by, sum, refl, sym, ap, ◌∙◌, subst, arith, append_assoc, append-nil, length-append, length-take, length-drop}
use Rattle.std.proofs.lemmas.List.{get_or-take, get_or-drop, get_or-map, length-map, take_all}
use Rattle.std.proofs.lemmas.List.Sums.{sum_by_more, sum_by_more_le, sum_by-cons}
use Rattle.byteorder.specs.Endian.{big_bytes}
use Rattle.cell_reader.specs.declared.shapes.Kind.{Kind}
use Rattle.cell_reader.specs.declared.shapes.Kind.TheVariants.{Table, Index}
use Rattle.cell_reader.specs.Inside.{has_payload}
use Rattle.tree_writer.specs.declared.cells.Cell.{Cell}
use Rattle.tree_writer.specs.declared.plans.PagePlan.{PagePlan}
use Rattle.tree_writer.specs.declared.sizes.Size.{Size}
use Rattle.tree_writer.specs.Entry.{Entry, Item, entry_at, key_of, leaf_item, no_entry, no_item, raw_of}
use Rattle.tree_writer.specs.Cells.{Laid, cell_bytes, cell_len, item_overs, laid_from, laid_of, need_of, overs, slot_len}
use Rattle.tree_writer.specs.Layout.{cells_for}
use Rattle.tree_writer.specs.Levels.{needs, room_in}
use Rattle.cell_reader.specs.Shape.{header_len}
use Rattle.tree_writer.specs.Page.{content, header, page_bytes, pointers, slot, slot_size, stack, top_of}
use Rattle.tree_writer.specs.Plan.{laid_by, part_of, size_item, slot_for}
use Rattle.tree_writer.specs.Planned.{IsHeld}
use Rattle.tree_writer.proofs.Lists.{at_head, at_end, get_here}
use Rattle.tree_writer.proofs.Lens.{slot_of_cell}

-- ---- sums of slots

pub needs_slots : (usable : ℕ) (kind : Kind) (leaf : Bool) (items : List Item)
    → needs usable kind leaf items ≡ 2 * length items + sum (map (slot_for usable kind leaf) items)
needs_slots usable kind leaf [] = refl
needs_slots usable kind leaf (x ∷ xs) =
    omega (arith, sum_by-cons (need_of usable kind leaf) x xs, sum_by-cons (λ n. n) (slot_for usable kind leaf x) (map (slot_for usable kind leaf) xs), needs_slots usable kind leaf xs)

pub slots_of : (usable : ℕ) (kind : Kind) (leaf : Bool) (number : ℕ → ℕ) (k : ℕ) (items : List Item) → 480 ≤ usable
    → map slot_size (cells_for usable kind leaf number k items) ≡ map (slot_for usable kind leaf) items
slots_of usable kind leaf number k [] least = refl
slots_of usable kind leaf number k (x ∷ xs) least =
    ap (λ n. n ∷ map slot_size (cells_for usable kind leaf number (k + item_overs usable kind x) xs)) (slot_of_cell usable kind leaf number k x least)
    ∙ ap (λ (t : List ℕ). slot_for usable kind leaf x ∷ t) (slots_of usable kind leaf number (k + item_overs usable kind x) xs least)

pub length-stack : (cells : List (List ℕ)) → length (stack cells) ≡ sum (map slot_size cells)
length-stack [] = refl
length-stack (cell ∷ cells) =
    omega (arith, length-append (stack cells) (slot cell), length-stack cells, sum_by-cons (λ n. n) (slot_size cell) (map slot_size cells))

pub stack_len : (usable : ℕ) (kind : Kind) (leaf : Bool) (number : ℕ → ℕ) (k : ℕ) (items : List Item) → 480 ≤ usable
    → length (stack (cells_for usable kind leaf number k items)) ≡ sum (map (slot_for usable kind leaf) items)
stack_len usable kind leaf number k items least =
    length-stack (cells_for usable kind leaf number k items) ∙ ap sum (slots_of usable kind leaf number k items least)

pub length-cells : (usable : ℕ) (kind : Kind) (leaf : Bool) (number : ℕ → ℕ) (k : ℕ) (items : List Item) → length (cells_for usable kind leaf number k items) ≡ length items
length-cells usable kind leaf number k [] = refl
length-cells usable kind leaf number k (x ∷ xs) = ap suc (length-cells usable kind leaf number (k + item_overs usable kind x) xs)

-- ---- pointers

pub record Pointing (usable : ℕ) (lens : List ℕ) (old to : List ℕ) (from at end i : ℕ) : Type 0 where
  pub at_is : at ≡ from + 2 * i
  pub end_is : end + sum (take i lens) ≡ usable
  pub front : take at to ++ pointers end (drop i lens) ≡ take from old ++ pointers usable lens

pub pointing_start : (usable : ℕ) (lens to : List ℕ) (from : ℕ) → Pointing usable lens to to from from usable 0
pointing_start usable lens to from = record { at_is = omega arith; end_is = omega arith; front = refl }

pub pointing_more : (usable : ℕ) (lens old to to' : List ℕ) (from at at' end i len : ℕ) → Pointing usable lens old to from at end i
    → i < length lens → len ≡ get_or lens i 0 → len ≤ end → at' ≡ at + 2 → take at' to' ≡ take at to ++ big_bytes 2 (end - len)
    → Pointing usable lens old to' from at' (end - len) (i + 1)
pointing_more usable lens old to to' from at at' end i len p lt is le next put =
    let head : drop i lens ≡ len ∷ drop (i + 1) lens = at_head 0 lens i lt ∙ ap (λ n. n ∷ drop (i + 1) lens) (sym is) in
    record {
      at_is = omega (arith, p.at_is);
      end_is = omega (arith, p.end_is, sum_by_more (λ n. n) lens i 0 lt);
      front = ap (λ (t : List ℕ). t ++ pointers (end - len) (drop (i + 1) lens)) put
          ∙ append_assoc (take at to) (big_bytes 2 (end - len)) (pointers (end - len) (drop (i + 1) lens))
          ∙ sym (ap (λ (t : List ℕ). take at to ++ pointers end t) head) ∙ p.front;
    }

pub pointing_done : (usable : ℕ) (lens old to : List ℕ) (from at end i : ℕ) → Pointing usable lens old to from at end i → length lens ≤ i
    → take at to ≡ take from old ++ pointers usable lens
pointing_done usable lens old to from at end i p le =
    sym (append-nil (take at to)) ∙ sym (ap (λ (t : List ℕ). take at to ++ pointers end t) (at_end lens i le)) ∙ p.front

-- the slot of a cell is above the header, and no cell is without bytes
pub record SlotFits (usable : ℕ) (kind : Kind) (leaf : Bool) (items : List Item) (i end : ℕ) (s : Size) : Type 0 where
  pub here : i < length (map (slot_for usable kind leaf) items)
  pub is : s.need - 2 ≡ get_or (map (slot_for usable kind leaf) items) i 0
  pub two : 2 ≤ s.need
  pub fits : s.need - 2 ≤ end
  pub short : end - (s.need - 2) < 65536

pub slot_fits : (usable : ℕ) (kind : Kind) (leaf : Bool) (items : List Item) (i end : ℕ) (s : Size) → usable ≤ 65536 → needs usable kind leaf items ≤ usable
    → i < length items → s ≡ size_item usable kind leaf (get_or items i no_item) → end + sum (take i (map (slot_for usable kind leaf) items)) ≡ usable
    → SlotFits usable kind leaf items i end s
slot_fits usable kind leaf items i end s most fit lt is sums =
    let lens = map (slot_for usable kind leaf) items in
    let here : i < length lens = omega (arith, length-map items (slot_for usable kind leaf)) in
    let n : s.need ≡ 2 + slot_for usable kind leaf (get_or items i no_item) = ap (λ (t : Size). t.need) is in
    let len : get_or lens i 0 ≡ slot_for usable kind leaf (get_or items i no_item) = get_or-map (slot_for usable kind leaf) items i no_item 0 lt in
    let four : 4 ≤ slot_for usable kind leaf (get_or items i no_item) = omega arith in
    let more = sum_by_more_le (λ m. m) lens i 0 here in
    let all = needs_slots usable kind leaf items in
    record {
      here = here;
      is = omega (arith, n, len);
      two = omega (arith, n);
      fits = omega (arith, n, len, more, all, sums);
      short = omega (arith, n, len, more, all, sums, four);
    }

-- ---- cells

-- what is kept while cells are put from the last to the first
pub record Stacking (usable : ℕ) (kind : Kind) (leaf : Bool) (number : ℕ → ℕ) (items : List Item) (first next i : ℕ) (old to : List ℕ) (from at : ℕ) : Type 0 where
  pub within : i ≤ length items
  pub next_is : next ≡ first + overs usable kind (take i items)
  pub room : at + sum (map (slot_for usable kind leaf) (take i items)) ≡ length to
  pub front : take at to ≡ take from old ++ stack (cells_for usable kind leaf number next (drop i items))

pub stacking_start : (usable : ℕ) (kind : Kind) (leaf : Bool) (number : ℕ → ℕ) (items : List Item) (first next i : ℕ) (to : List ℕ) (from : ℕ) → i ≡ length items
    → next ≡ first + overs usable kind items → from + sum (map (slot_for usable kind leaf) items) ≡ length to
    → Stacking usable kind leaf number items first next i to to from from
stacking_start usable kind leaf number items first next i to from e n room =
    let all : take i items ≡ items = take_all i items (omega arith) in
    record {
      within = omega arith;
      next_is = n ∙ ap (λ (t : List Item). first + overs usable kind t) (sym all);
      room = ap (λ (t : List Item). from + sum (map (slot_for usable kind leaf) t)) all ∙ room;
      front = sym (append-nil (take from to)) ∙ sym (ap (λ (t : List Item). take from to ++ stack (cells_for usable kind leaf number next t)) (at_end items i (omega arith)));
    }

-- the sums up to cell i, and of cell i
pub record CellSums (usable : ℕ) (kind : Kind) (leaf : Bool) (items : List Item) (i : ℕ) (s : Size) : Type 0 where
  pub overs_are : overs usable kind (take (i + 1) items) ≡ overs usable kind (take i items) + s.overs
  pub slots_are : sum (map (slot_for usable kind leaf) (take (i + 1) items)) ≡ sum (map (slot_for usable kind leaf) (take i items)) + slot_for usable kind leaf (get_or items i no_item)

map_take : {X Y : Type 0} (f : X → Y) (n : ℕ) (xs : List X) → map f (take n xs) ≡ take n (map f xs)
map_take f zero xs = refl
map_take f (suc n) [] = refl
map_take f (suc n) (x ∷ xs) = ap (λ (t : List _). f x ∷ t) (map_take f n xs)

pub cell_sums : (usable : ℕ) (kind : Kind) (leaf : Bool) (items : List Item) (i : ℕ) (s : Size) → i < length items
    → s ≡ size_item usable kind leaf (get_or items i no_item) → CellSums usable kind leaf items i s
cell_sums usable kind leaf items i s lt is =
    let o : s.overs ≡ item_overs usable kind (get_or items i no_item) = ap (λ (t : Size). t.overs) is in
    let f = slot_for usable kind leaf in
    let here : i < length (map f items) = omega (arith, length-map items f) in
    record {
      overs_are = omega (arith, o, sum_by_more (item_overs usable kind) items i no_item lt);
      slots_are = ap sum (map_take f (i + 1) items) ∙ sum_by_more (λ n. n) (map f items) i 0 here
          ∙ ap (λ n. sum (take i (map f items)) + n) (get_or-map f items i no_item 0 lt) ∙ ap (λ (t : List ℕ). sum t + f (get_or items i no_item)) (sym (map_take f i items));
    }

-- the payload that stands at the front
pub body_is : (kind : Kind) (leaf : Bool) (es : List Entry) (entry len : ℕ) (scratch : List ℕ) → IsHeld es (Some entry) scratch
    → len ≡ length (part_of kind leaf (entry_at es entry)).bytes → take len scratch ≡ (part_of kind leaf (entry_at es entry)).bytes
body_is kind leaf es entry len scratch held is = by (has_payload kind leaf) is
  where
    by : (b : Bool) → len ≡ length (if b then entry_at es entry else key_of (entry_at es entry)).bytes
        → take len scratch ≡ (if b then entry_at es entry else key_of (entry_at es entry)).bytes
    by true e = ap (λ n. take n scratch) e ∙ held
    by false e = ap (λ n. take n scratch) e

rowid_same : (b : Bool) (e : Entry) → (if b then e else key_of e).rowid ≡ e.rowid
rowid_same true e = refl
rowid_same false e = refl

-- the cell that is put is the item's
pub laid_same : (kind : Kind) (leaf : Bool) (number : ℕ → ℕ) (k : ℕ) (x : Item) (child : ℕ) (e : Entry) (cell : Cell) (body : List ℕ)
    → x ≡ record { child = child; entry = part_of kind leaf e } → cell.child ≡ number child → cell.rowid ≡ raw_of e.rowid → cell.next ≡ number k
    → body ≡ (part_of kind leaf e).bytes → laid_by cell body ≡ laid_of number k x
laid_same kind leaf number k x child e cell body is c r n b =
    let f : ℕ → ℕ → List ℕ → ℕ → Laid = λ c r b n. record { child = c; rowid = r; body = b; next = n } in
    ap (λ m. f m cell.rowid body cell.next) c
    ∙ ap (λ m. f (number child) m body cell.next) (r ∙ ap raw_of (sym (rowid_same (has_payload kind leaf) e)))
    ∙ ap (λ t. f (number child) (raw_of (part_of kind leaf e).rowid) t cell.next) b
    ∙ ap (f (number child) (raw_of (part_of kind leaf e).rowid) (part_of kind leaf e).bytes) n
    ∙ ap (laid_of number k) (sym is)

pub stacking_more : (usable : ℕ) (kind : Kind) (leaf : Bool) (number : ℕ → ℕ) (items : List Item) (first next i j : ℕ) (old to to' : List ℕ) (from at at' : ℕ) (s : Size) (laid : Laid)
    → 480 ≤ usable → Stacking usable kind leaf number items first next j old to from at → j ≡ i + 1 → s ≡ size_item usable kind leaf (get_or items i no_item)
    → laid ≡ laid_of number (next - s.overs) (get_or items i no_item)
    → length to' ≡ length to → at' ≡ at + length (slot (cell_bytes usable kind leaf laid)) → take at' to' ≡ take at to ++ slot (cell_bytes usable kind leaf laid)
    → Stacking usable kind leaf number items first (next - s.overs) i old to' from at'
stacking_more usable kind leaf number items first next i j old to to' from at at' s laid least sj ji is same len end put =
    let st = subst (λ n. Stacking usable kind leaf number items first next n old to from at) ji sj in
    let lt : i < length items = omega (arith, st.within) in
    let x = get_or items i no_item in
    let sums = cell_sums usable kind leaf items i s lt is in
    let o : s.overs ≡ item_overs usable kind x = ap (λ (t : Size). t.overs) is in
    let before : next - s.overs ≡ first + overs usable kind (take i items) = omega (arith, st.next_is, sums.overs_are) in
    let behind : next - s.overs + item_overs usable kind x ≡ next = omega (arith, st.next_is, sums.overs_are, o) in
    let slot_is : length (slot (cell_bytes usable kind leaf laid)) ≡ slot_for usable kind leaf x
    = ap (λ (l : Laid). length (slot (cell_bytes usable kind leaf l))) same ∙ slot_of_cell usable kind leaf number (next - s.overs) x least in
    record {
      within = omega (arith, lt);
      next_is = before;
      room = omega (arith, st.room, sums.slots_are, end, slot_is, len);
      front = put ∙ ap (λ (t : List ℕ). t ++ slot (cell_bytes usable kind leaf laid)) st.front
          ∙ append_assoc (take from old) (stack (cells_for usable kind leaf number next (drop (i + 1) items))) (slot (cell_bytes usable kind leaf laid))
          ∙ ap (λ (l : Laid). take from old ++ (stack (cells_for usable kind leaf number next (drop (i + 1) items)) ++ slot (cell_bytes usable kind leaf l))) same
          ∙ ap (λ n. take from old ++ (stack (cells_for usable kind leaf number n (drop (i + 1) items)) ++ slot (cell_bytes usable kind leaf (laid_of number (next - s.overs) x)))) (sym behind)
          ∙ sym (ap (λ (t : List Item). take from old ++ stack (cells_for usable kind leaf number (next - s.overs) t)) (at_head no_item items i lt));
    }

pub stacking_done : (usable : ℕ) (kind : Kind) (leaf : Bool) (number : ℕ → ℕ) (items : List Item) (first next i : ℕ) (old to : List ℕ) (from at : ℕ)
    → Stacking usable kind leaf number items first next i old to from at → i ≡ 0
    → to ≡ take from old ++ stack (cells_for usable kind leaf number first items)
stacking_done usable kind leaf number items first next i old to from at st e =
    let none : take i items ≡ [] = ap (λ n. take n items) e in
    let next_is : next ≡ first = st.next_is ∙ ap (λ (t : List Item). first + overs usable kind t) none ∙ omega arith in
    let end : at ≡ length to = sym (ap (λ (t : List Item). at + sum (map (slot_for usable kind leaf) t)) none ∙ omega arith) ∙ st.room in
    sym (take_all at to (omega arith)) ∙ st.front
    ∙ ap (λ n. take from old ++ stack (cells_for usable kind leaf number n (drop i items))) next_is
    ∙ ap (λ n. take from old ++ stack (cells_for usable kind leaf number first (drop n items))) e

-- there is room for one cell more
pub stacking_room : (usable : ℕ) (kind : Kind) (leaf : Bool) (number : ℕ → ℕ) (items : List Item) (first next i j : ℕ) (old to : List ℕ) (from at : ℕ) (s : Size) (laid : Laid)
    → 480 ≤ usable → Stacking usable kind leaf number items first next j old to from at → j ≡ i + 1 → s ≡ size_item usable kind leaf (get_or items i no_item)
    → laid ≡ laid_of number (next - s.overs) (get_or items i no_item) → at + length (slot (cell_bytes usable kind leaf laid)) ≤ length to
stacking_room usable kind leaf number items first next i j old to from at s laid least sj ji is same =
    let st = subst (λ n. Stacking usable kind leaf number items first next n old to from at) ji sj in
    let sums = cell_sums usable kind leaf items i s (omega (arith, st.within)) is in
    let slot_is : length (slot (cell_bytes usable kind leaf laid)) ≡ slot_for usable kind leaf (get_or items i no_item)
    = ap (λ (l : Laid). length (slot (cell_bytes usable kind leaf l))) same ∙ slot_of_cell usable kind leaf number (next - s.overs) (get_or items i no_item) least in
    omega (arith, st.room, sums.slots_are, slot_is)

-- ---- the whole page

pub slots_least : (usable : ℕ) (kind : Kind) (leaf : Bool) (items : List Item) → 4 * length items ≤ sum (map (slot_for usable kind leaf) items)
slots_least usable kind leaf [] = omega arith
slots_least usable kind leaf (x ∷ xs) =
    let rest = slots_least usable kind leaf xs in
    let four : 4 ≤ slot_for usable kind leaf x = omega arith in
    omega (arith, sum_by-cons (λ n. n) (slot_for usable kind leaf x) (map (slot_for usable kind leaf) xs))

-- how the parts of a page stand: behind the front its header, the pointers, the gap, and the cells
pub record Stands (usable : ℕ) (kind : Kind) (leaf : Bool) (number : ℕ → ℕ) (k : ℕ) (items : List Item) (front need : ℕ) : Type 0 where
  pub few : length items < 65536
  pub content_is : usable + 2 * length items - need ≡ content usable (cells_for usable kind leaf number k items)
  pub gap : front + header_len leaf + 2 * length items ≤ usable + 2 * length items - need
  pub whole : usable + 2 * length items - need + length (stack (cells_for usable kind leaf number k items)) ≡ usable
  pub enough : need ≤ usable + 2 * length items

pub page_stands : (usable : ℕ) (kind : Kind) (leaf : Bool) (number : ℕ → ℕ) (k : ℕ) (items : List Item) (front need : ℕ) → 480 ≤ usable → usable ≤ 65536
    → need ≡ needs usable kind leaf items → front + needs usable kind leaf items ≤ room_in usable leaf → Stands usable kind leaf number k items front need
page_stands usable kind leaf number k items front need least most is fits =
    let all = needs_slots usable kind leaf items in
    let four = slots_least usable kind leaf items in
    let len = stack_len usable kind leaf number k items least in
    let head = heads leaf in
    record {
      few = omega (arith, all, four, head.0, head.1);
      content_is = omega (arith, all, len, is, head.0, head.1);
      gap = omega (arith, all, is, head.0, head.1);
      whole = omega (arith, all, len, is, head.0, head.1);
      enough = omega (arith, all, is, head.0, head.1);
    }
  where
    heads : (b : Bool) → (8 ≤ header_len b) × (header_len b ≤ 12)
    heads true = (omega arith, omega arith)
    heads false = (omega arith, omega arith)

pub page_done : (front : List ℕ) (type usable : ℕ) (cells : List (List ℕ)) (right : List ℕ) (count start zeros : ℕ) (lens t1 t2 t3 t4 : List ℕ)
    → t1 ≡ front ++ header type count start right → t2 ≡ t1 ++ pointers usable lens → t3 ≡ t2 ++ replicate zeros 0 → t4 ≡ t3 ++ stack cells
    → count ≡ length cells → start ≡ content usable cells → lens ≡ map slot_size cells → zeros ≡ start - length t2
    → t4 ≡ page_bytes front type usable cells right
unfolding page_bytes
page_done front type usable cells right count start zeros lens t1 t2 t3 t4 e1 e2 e3 e4 c s l z =
    let top : t2 ≡ top_of front type usable cells right
    = e2 ∙ ap (λ (t : List ℕ). t ++ pointers usable lens) e1 ∙ append_assoc front (header type count start right) (pointers usable lens)
    ∙ ap (λ n. front ++ (header type n start right ++ pointers usable lens)) c
    ∙ ap (λ n. front ++ (header type (length cells) n right ++ pointers usable lens)) s
    ∙ ap (λ (t : List ℕ). front ++ (header type (length cells) (content usable cells) right ++ pointers usable t)) l in
    e4 ∙ ap (λ (t : List ℕ). t ++ stack cells) e3 ∙ append_assoc t2 (replicate zeros 0) (stack cells)
    ∙ ap (λ n. t2 ++ (replicate n 0 ++ stack cells)) (z ∙ ap (λ n. n - length t2) s)
    ∙ ap (λ (t : List ℕ). t ++ (replicate (content usable cells - length t) 0 ++ stack cells)) top
