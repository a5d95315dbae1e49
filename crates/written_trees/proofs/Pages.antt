-- A written page says its cells.
use Rattle.std.proofs.Common.{◌≡◌, ◌<◌, ◌≤◌, ℕ, ◌+◌, ◌-◌, ◌*◌, ◌^◌, ◌%◌, Bool, true, false, ◌||◌, List, [], ◌∷◌, ◌++◌, length, take, drop, map, nat_lt, nat_le, refl, sym, ap, ◌∙◌, subst, arith, append_assoc, append-nil, length-append, length-drop, length-take, drop-drop}
use Rattle.std.specs.Prelude.{if◌then◌else◌, Some, None, Ok, replicate, slice_index, slice_range}
use Rattle.std.specs.List.{AllByRecursion, list_all}
use Rattle.std.proofs.Math.Seq.{drop-append-add, get_or-append_seam}
use Rattle.std.proofs.lemmas.Bool.Decides.{nat_tests}
use Rattle.std.proofs.lemmas.List.{drop_at, length-map, length-replicate, take_all, take_at}
use Rattle.byteorder.specs.Endian.{big_bytes, big_number}
use Rattle.byteorder.specs.Numbers.{big_number-reads_back, length-bytes_high_first}
use Rattle.cell_reader.specs.declared.shapes.Kind.{Kind}
use Rattle.cell_reader.specs.declared.shapes.Kind.TheVariants.{Table, Index}
use Rattle.cell_reader.specs.declared.shapes.PageShape.{PageShape}
use Rattle.cell_reader.specs.declared.cells.CellView.{CellView}
use Rattle.cell_reader.specs.Cell.{cell_of, size_of, view_at}
use Rattle.cell_reader.specs.Screen.{are_apart, screened_from, verdicts}
use Rattle.cell_reader.specs.Shape.{head_of, header_len, right_of, shape_at, shape_of, type_of, u16_at, u32_at}
use Rattle.tree_forms.specs.Node.{Held, held_of, node_of, node_on, said_by}
use Rattle.tree_writer.specs.Cells.{Laid, cell_bytes, head_part, kept_of, link}
use Rattle.tree_writer.specs.Page.{content, header, page_bytes, pointers, slot, slot_size, stack, top_of, type_byte}
use Rattle.tree_writer.proofs.Lens.{length-slot, local_le}
use Rattle.written_trees.specs.Laws.{PagesSayTheirCells}
use Rattle.written_trees.specs.Written.{IsPage, IsWritten, laid_node, laid_page, parts_in, said}
use Rattle.written_trees.proofs.Cells.{cell_reads, not_less, payload_there}

-- ---- cells from one on

-- the cells that are left fall from `end` down to `least`, and their pointers stand from `at` on
record Falls (page : List ℕ) (cells : List (List ℕ)) (end at least : ℕ) : Type 0 where
  pre : List ℕ
  tail : List ℕ
  more : List ℕ
  page_is : page ≡ pre ++ (stack cells ++ tail)
  end_is : length pre + length (stack cells) ≡ end
  pointers_are : drop at page ≡ pointers end (map slot_size cells) ++ more
  above : least ≤ length pre

falls_more : (page c : List ℕ) (cs : List (List ℕ)) (end at least : ℕ) → Falls page (c ∷ cs) end at least → Falls page cs (end - slot_size c) (at + 2) least
falls_more page c cs end at least w =
    let low = end - slot_size c in
    let len = length-append (stack cs) (slot c) in
    record {
      pre = w.pre;
      tail = slot c ++ w.tail;
      more = w.more;
      page_is = w.page_is ∙ ap (λ (t : List ℕ). w.pre ++ t) (append_assoc (stack cs) (slot c) w.tail);
      end_is = omega (arith, w.end_is, len);
      pointers_are = sym (drop-drop 2 at page) ∙ ap (drop 2) (w.pointers_are ∙ append_assoc (big_bytes 2 low) (pointers low (map slot_size cs)) w.more)
          ∙ drop_at (big_bytes 2 low) (pointers low (map slot_size cs) ++ w.more) 2 (length-bytes_high_first 2 low);
      above = w.above;
    }

-- the first of the cells that are left
record First (page c : List ℕ) (end at least : ℕ) : Type 0 where
  tail : List ℕ
  pointer : u16_at page at ≡ end - slot_size c
  place : drop (end - slot_size c) page ≡ slot c ++ tail
  above : least ≤ end - slot_size c
  four : 4 ≤ slot_size c
  fits : slot_size c ≤ end

first_of : (page c : List ℕ) (cs : List (List ℕ)) (end at least : ℕ) → end ≤ 65536 → Falls page (c ∷ cs) end at least → First page c end at least
first_of page c cs end at least most w =
    let low = end - slot_size c in
    let len = length-append (stack cs) (slot c) in
    let four : 4 ≤ slot_size c = omega (arith, length-slot c) in
    let whole : page ≡ (w.pre ++ stack cs) ++ (slot c ++ w.tail)
    = w.page_is ∙ ap (λ (t : List ℕ). w.pre ++ t) (append_assoc (stack cs) (slot c) w.tail) ∙ sym (append_assoc w.pre (stack cs) (slot c ++ w.tail)) in
    let lens : length (w.pre ++ stack cs) ≡ low = omega (arith, w.end_is, len, length-append w.pre (stack cs)) in
    record {
      tail = w.tail;
      pointer = ap (big_number 2) (w.pointers_are ∙ append_assoc (big_bytes 2 low) (pointers low (map slot_size cs)) w.more)
          ∙ big_number-reads_back 2 low (pointers low (map slot_size cs) ++ w.more) (omega (arith, four, most, w.end_is, len));
      place = ap (drop low) whole ∙ drop_at (w.pre ++ stack cs) (slot c ++ w.tail) low lens;
      above = omega (arith, w.above, lens, length-append w.pre (stack cs));
      four = four;
      fits = omega (arith, w.end_is, len);
    }

-- a cell at its place is accepted where the accepted cells before it stand above it
record Seen (page : List ℕ) (usable pages : ℕ) (shape : PageShape) (c : Laid) (i end : ℕ) : Type 0 where
  view : CellView
  is : cell_of page usable pages shape i ≡ Ok view
  says : held_of page view ≡ said usable shape.kind shape.leaf c
  start_is : view.start ≡ end - slot_size (cell_bytes usable shape.kind shape.leaf c)
  end_le : view.end ≤ end

-- the bytes of a cell, piece by piece
pieces : (usable : ℕ) (kind : Kind) (leaf : Bool) (c : Laid) (zeros tail : List ℕ) → (cell_bytes usable kind leaf c ++ zeros) ++ tail
    ≡ head_part kind leaf c ++ (take (kept_of usable kind c.body) c.body ++ (link (kept_of usable kind c.body) (length c.body) c.next ++ (zeros ++ tail)))
unfolding cell_bytes
pieces usable kind leaf c zeros tail =
    let head = head_part kind leaf c in
    let local = take (kept_of usable kind c.body) c.body in
    let over = link (kept_of usable kind c.body) (length c.body) c.next in
    append_assoc (head ++ (local ++ over)) zeros tail ∙ append_assoc head (local ++ over) (zeros ++ tail)
    ∙ ap (λ (t : List ℕ). head ++ t) (append_assoc local over (zeros ++ tail))

held_is : (page : List ℕ) (usable : ℕ) (kind : Kind) (leaf : Bool) (c : Laid) (start : ℕ) (zeros tail : List ℕ) → 480 ≤ usable
    → drop start page ≡ (cell_bytes usable kind leaf c ++ zeros) ++ tail → held_of page (view_at start (parts_in usable kind leaf c)) ≡ said usable kind leaf c
unfolding view_at
held_is page usable kind leaf c start zeros tail least place =
    let head = head_part kind leaf c in
    let kept = kept_of usable kind c.body in
    let local = take kept c.body in
    let rest = link kept (length c.body) c.next ++ (zeros ++ tail) in
    let f : List ℕ → Held = λ t. record (said usable kind leaf c) { local = t } in
    let from : drop (start + length head) page ≡ local ++ rest
    = sym (drop-drop (length head) start page) ∙ ap (drop (length head)) (place ∙ pieces usable kind leaf c zeros tail) ∙ drop_at head (local ++ rest) (length head) refl in
    let n : start + length head + kept - (start + length head) ≡ kept = omega arith in
    let len : length local ≡ kept = omega (arith, length-take kept c.body, local_le kind usable (length c.body) least) in
    ap f (ap (λ m. take m (drop (start + length head) page)) n ∙ ap (take kept) from ∙ take_at local rest kept len)

size_most : (usable : ℕ) (kind : Kind) (leaf : Bool) (c : Laid) → 480 ≤ usable → c.next < 256 ^ 4
    → size_of (length (head_part kind leaf c)) (kept_of usable kind c.body) (length c.body) ≤ length (cell_bytes usable kind leaf c)
size_most usable kind leaf c least next =
    let p = payload_there usable kind leaf c [] least next in
    let len : length (cell_bytes usable kind leaf c ++ []) ≡ length (cell_bytes usable kind leaf c) = ap length (append-nil (cell_bytes usable kind leaf c)) in
    under (length (cell_bytes usable kind leaf c ++ [])) (size_of (length (head_part kind leaf c)) (kept_of usable kind c.body) (length c.body)) (length (cell_bytes usable kind leaf c)) p.long len
  where
    under : (a b n : ℕ) → nat_lt a b ≡ false → a ≡ n → b ≤ n
    under a b n e same = let h : b ≤ a = grind (arith, nat_tests) in omega arith

seen : (page : List ℕ) (usable pages : ℕ) (shape : PageShape) (c : Laid) (cs : List (List ℕ)) (i end : ℕ) → length page ≡ usable → 480 ≤ usable → usable ≤ 65536 → end ≤ usable
    → IsWritten (pages * usable) shape.kind shape.leaf c
    → Falls page (cell_bytes usable shape.kind shape.leaf c ∷ cs) end (shape.head + header_len shape.leaf + 2 * i) shape.array_end → Seen page usable pages shape c i end
unfolding cell_of view_at
seen page usable pages shape c cs i end long least most le w falls =
    let cell = cell_bytes usable shape.kind shape.leaf c in
    let h = first_of page cell cs end (shape.head + header_len shape.leaf + 2 * i) shape.array_end (omega arith) falls in
    let start = end - slot_size cell in
    let zeros : List ℕ = replicate (4 - length cell) 0 in
    let slice : slice_range page start usable ≡ cell ++ (zeros ++ h.tail)
    = take_all (usable - start) (drop start page) (omega (arith, length-drop start page, long)) ∙ h.place ∙ append_assoc cell zeros h.tail in
    let reads = cell_reads usable (pages * usable) shape.kind shape.leaf c (zeros ++ h.tail) least w in
    let test : (nat_lt start shape.array_end || nat_le usable start) ≡ false = inside start shape.array_end usable h.above (omega (arith, h.four, h.fits, le)) in
    record {
      view = view_at start (parts_in usable shape.kind shape.leaf c);
      is = rw (h.pointer, test, slice, reads) refl;
      says = held_is page usable shape.kind shape.leaf c start zeros h.tail least h.place;
      start_is = refl;
      end_le = let s = size_most usable shape.kind shape.leaf c least w.next in omega (arith, s, length-slot cell, h.fits);
    }
  where
    inside : (start low usable : ℕ) → low ≤ start → start < usable → (nat_lt start low || nat_le usable start) ≡ false
    inside start low usable le lt = grind (arith, nat_tests)

all_apart : (v : CellView) (end : ℕ) (held : List CellView) → v.end ≤ end → AllByRecursion (λ (w : CellView). end ≤ w.start) held → list_all (are_apart v) held ≡ true
all_apart v end [] le above = refl
all_apart v end (w ∷ ws) le above =
    let test : nat_le v.end w.start ≡ true = tested v.end w.start (omega (arith, le, above.0)) in
    rw (test, all_apart v end ws le above.1) refl
  where
    tested : (a b : ℕ) → a ≤ b → nat_le a b ≡ true
    tested a b le = grind (arith, nat_tests)

all_lower : (end low : ℕ) (held : List CellView) → low ≤ end → AllByRecursion (λ (w : CellView). end ≤ w.start) held → AllByRecursion (λ (w : CellView). low ≤ w.start) held
all_lower end low [] le above = tt
all_lower end low (w ∷ ws) le above = (omega (arith, above.0), all_lower end low ws le above.1)

said_from : (page : List ℕ) (usable pages : ℕ) (shape : PageShape) (cs : List Laid) (i end : ℕ) (held : List CellView) → length page ≡ usable → 480 ≤ usable → usable ≤ 65536 → end ≤ usable
    → AllByRecursion (IsWritten (pages * usable) shape.kind shape.leaf) cs
    → Falls page (map (cell_bytes usable shape.kind shape.leaf) cs) end (shape.head + header_len shape.leaf + 2 * i) shape.array_end
    → AllByRecursion (λ (w : CellView). end ≤ w.start) held
    → said_by page (screened_from (cell_of page usable pages shape) (length cs) i held) ≡ Some (map (said usable shape.kind shape.leaf) cs)
said_from page usable pages shape [] i end held long least most le w falls above = refl
said_from page usable pages shape (c ∷ cs) i end held long least most le w falls above =
    let cell = cell_bytes usable shape.kind shape.leaf c in
    let cells = map (cell_bytes usable shape.kind shape.leaf) cs in
    let s = seen page usable pages shape c cells i end long least most le w.0 falls in
    let low = end - slot_size cell in
    let next : Falls page cells low (shape.head + header_len shape.leaf + 2 * (i + 1)) shape.array_end
    = subst (λ n. Falls page cells low n shape.array_end) (omega arith) (falls_more page cell cells end (shape.head + header_len shape.leaf + 2 * i) shape.array_end falls) in
    let free = all_apart s.view end held s.end_le above in
    let more = said_from page usable pages shape cs (i + 1) low (s.view ∷ held) long least most (omega arith) w.1 next
    (omega (arith, s.start_is), all_lower end low held (omega arith) above) in
    rw (s.is, free, more, s.says) refl

-- ---- the bytes of a page

length-pointers : (end : ℕ) (sizes : List ℕ) → length (pointers end sizes) ≡ 2 * length sizes
length-pointers end [] = refl
length-pointers end (size ∷ sizes) =
    omega (arith, length-append (big_bytes 2 (end - size)) (pointers (end - size) sizes), length-bytes_high_first 2 (end - size), length-pointers (end - size) sizes)

pub record Stands (page : List ℕ) (head type usable fixed : ℕ) (cells : List (List ℕ)) (right : List ℕ) : Type 0 where
  pub long : length page ≡ usable
  type_is : slice_index page head ≡ type
  count : u16_at page (head + 3) ≡ length cells
  more : List ℕ
  right_is : drop (head + 8) page ≡ right ++ more
  falls : Falls page cells usable (head + fixed) (head + fixed + 2 * length cells)

pub stands : (front : List ℕ) (type usable fixed : ℕ) (cells : List (List ℕ)) (right : List ℕ) → usable ≤ 65536 → fixed ≡ 8 + length right
    → length front + fixed + 2 * length cells + length (stack cells) ≤ usable → Stands (page_bytes front type usable cells right) (length front) type usable fixed cells right
unfolding page_bytes
stands front type usable fixed cells right most f room =
    let cnt = big_bytes 2 (length cells) in
    let at = big_bytes 2 (content usable cells % 65536) in
    let ptrs = pointers usable (map slot_size cells) in
    let top = top_of front type usable cells right in
    let gap : List ℕ = replicate (content usable cells - length top) 0 in
    let rest = gap ++ stack cells in
    let fixed_part : List ℕ = type ∷ (0 ∷ (0 ∷ (cnt ++ (at ++ (0 ∷ []))))) in
    let header_is : header type (length cells) (content usable cells) right ≡ fixed_part ++ right
    = ap (λ (t : List ℕ). type ∷ (0 ∷ (0 ∷ t))) (sym (append_assoc cnt (at ++ (0 ∷ [])) right ∙ ap (λ (t : List ℕ). cnt ++ t) (append_assoc at (0 ∷ []) right))) in
    let top_is : top ≡ (front ++ fixed_part) ++ (right ++ ptrs)
    = ap (λ (t : List ℕ). front ++ (t ++ ptrs)) header_is ∙ ap (λ (t : List ℕ). front ++ t) (append_assoc fixed_part right ptrs)
    ∙ sym (append_assoc front fixed_part (right ++ ptrs)) in
    let whole : top ++ rest ≡ (front ++ fixed_part) ++ (right ++ (ptrs ++ rest))
    = ap (λ (t : List ℕ). t ++ rest) top_is ∙ append_assoc (front ++ fixed_part) (right ++ ptrs) rest
    ∙ ap (λ (t : List ℕ). (front ++ fixed_part) ++ t) (append_assoc right ptrs rest) in
    let plain : top ++ rest ≡ front ++ (type ∷ (0 ∷ (0 ∷ (cnt ++ ((at ++ (0 ∷ [])) ++ (right ++ (ptrs ++ rest)))))))
    = whole ∙ append_assoc front fixed_part (right ++ (ptrs ++ rest))
    ∙ ap (λ (t : List ℕ). front ++ (type ∷ (0 ∷ (0 ∷ t)))) (append_assoc cnt (at ++ (0 ∷ [])) (right ++ (ptrs ++ rest))) in
    let eight : length (front ++ fixed_part) ≡ length front + 8
    = omega (
      arith,
      length-append front fixed_part,
      length-append cnt (at ++ (0 ∷ [])),
      length-append at (0 ∷ []),
      length-bytes_high_first 2 (length cells),
      length-bytes_high_first 2 (content usable cells % 65536),
    ) in
    let ptrs_len : length ptrs ≡ 2 * length cells = length-pointers usable (map slot_size cells) ∙ ap (λ n. 2 * n) (length-map cells slot_size) in
    let top_len : length top ≡ length front + fixed + 2 * length cells
    = ap length top_is ∙ omega (arith, length-append (front ++ fixed_part) (right ++ ptrs), length-append right ptrs, eight, ptrs_len, f) in
    let gap_len : length gap ≡ content usable cells - length top = length-replicate {A = ℕ} (content usable cells - length top) 0 in
    let few : length cells < 256 ^ 2 = omega (arith, room, most) in
    record {
      long = omega (arith, length-append top rest, length-append gap (stack cells), gap_len, top_len, room);
      type_is = ap (λ (t : List ℕ). slice_index t (length front)) plain
          ∙ get_or-append_seam front type (0 ∷ (0 ∷ (cnt ++ ((at ++ (0 ∷ [])) ++ (right ++ (ptrs ++ rest)))))) 0;
      count = ap (λ (t : List ℕ). u16_at t (length front + 3)) plain
          ∙ ap (big_number 2) (drop-append-add front (type ∷ (0 ∷ (0 ∷ (cnt ++ ((at ++ (0 ∷ [])) ++ (right ++ (ptrs ++ rest))))))) 3)
          ∙ big_number-reads_back 2 (length cells) ((at ++ (0 ∷ [])) ++ (right ++ (ptrs ++ rest))) few;
      more = ptrs ++ rest;
      right_is = ap (drop (length front + 8)) whole ∙ drop_at (front ++ fixed_part) (right ++ (ptrs ++ rest)) (length front + 8) eight;
      falls = record {
        pre = top ++ gap;
        tail = [];
        more = rest;
        page_is = sym (append_assoc top gap (stack cells)) ∙ ap (λ (t : List ℕ). (top ++ gap) ++ t) (sym (append-nil (stack cells)));
        end_is = omega (arith, length-append top gap, gap_len, top_len, room);
        pointers_are =
            let apart : top ++ rest ≡ ((front ++ fixed_part) ++ right) ++ (ptrs ++ rest) = whole ∙ sym (append_assoc (front ++ fixed_part) right (ptrs ++ rest)) in
            ap (drop (length front + fixed)) apart
            ∙ drop_at ((front ++ fixed_part) ++ right) (ptrs ++ rest) (length front + fixed) (omega (arith, length-append (front ++ fixed_part) right, eight, f));
        above = omega (arith, length-append top gap, top_len);
      };
    }

-- ---- what the page says

type_back : (kind : Kind) (leaf : Bool) → type_of (type_byte kind leaf) ≡ Some (kind, leaf)
type_back Table true = refl
type_back Table false = refl
type_back Index true = refl
type_back Index false = refl

shape_back : (page : List ℕ) (head usable : ℕ) (kind : Kind) (leaf : Bool) (n : ℕ) → slice_index page head ≡ type_byte kind leaf → u16_at page (head + 3) ≡ n
    → head + header_len leaf + 2 * n ≤ usable
    → shape_at page head usable ≡ Some (record { kind = kind; leaf = leaf; cells = n; head = head; array_end = head + header_len leaf + 2 * n })
unfolding shape_at
shape_back page head usable kind leaf n type count room =
    let test : nat_lt usable (head + header_len leaf + 2 * n) ≡ false = not_less usable (head + header_len leaf + 2 * n) room in
    rw (count, type, type_back kind leaf, test) refl

right_back : (page : List ℕ) (shape : PageShape) (right : ℕ) (more : List ℕ) → right < 256 ^ 4
    → drop (shape.head + 8) page ≡ (if shape.leaf then [] else big_bytes 4 right) ++ more → right_of page shape ≡ (if shape.leaf then None else Some right)
right_back page shape right more small is = by shape.leaf is
  where
    by : (leaf : Bool) → drop (shape.head + 8) page ≡ (if leaf then [] else big_bytes 4 right) ++ more
        → (if leaf then None else Some (u32_at page (shape.head + 8))) ≡ (if leaf then None else Some right)
    by true e = refl
    by false e = ap Some (ap (big_number 4) e ∙ big_number-reads_back 4 right more small)

pub length-right : (leaf : Bool) (right : ℕ) → header_len leaf ≡ 8 + length (if leaf then [] else big_bytes 4 right)
length-right true right = refl
length-right false right = omega (arith, length-bytes_high_first 4 right)

node_back : (front : List ℕ) (p usable pages : ℕ) (kind : Kind) (leaf : Bool) (cells : List Laid) (right : ℕ) → 480 ≤ usable → usable ≤ 65536 → length front ≡ head_of p
    → IsPage (head_of p) usable (pages * usable) kind leaf cells right
    → let page = laid_page front usable kind leaf cells right in node_on page usable pages (shape_of page p usable) ≡ Some (laid_node usable kind leaf cells right)
unfolding verdicts
node_back front p usable pages kind leaf cells right least most head ok =
    let bytes = map (cell_bytes usable kind leaf) cells in
    let end = if leaf then [] else big_bytes 4 right in
    let page = laid_page front usable kind leaf cells right in
    let len : length bytes ≡ length cells = length-map cells (cell_bytes usable kind leaf) in
    let s : Stands page (head_of p) (type_byte kind leaf) usable (header_len leaf) bytes end
    = subst (λ n. Stands page n (type_byte kind leaf) usable (header_len leaf) bytes end) head
    (stands front (type_byte kind leaf) usable (header_len leaf) bytes end most (length-right leaf right) (omega (arith, len, head, ok.room))) in
    let shape : PageShape = record { kind = kind; leaf = leaf; cells = length cells; head = head_of p; array_end = head_of p + header_len leaf + 2 * length cells } in
    let has_shape : shape_of page p usable ≡ Some shape = shape_back page (head_of p) usable kind leaf (length cells) s.type_is (s.count ∙ len) (omega (arith, ok.room)) in
    let falls : Falls page bytes usable (head_of p + header_len leaf + 2 * 0) (head_of p + header_len leaf + 2 * length cells)
    = subst (λ n. Falls page bytes usable n (head_of p + header_len leaf + 2 * length cells)) (omega arith)
    (subst (λ n. Falls page bytes usable (head_of p + header_len leaf) (head_of p + header_len leaf + 2 * n)) len s.falls) in
    let cells_are = said_from page usable pages shape cells 0 usable [] s.long least most (omega arith) ok.each falls tt in
    let right_is = right_back page shape right s.more ok.child s.right_is in
    rw (has_shape, cells_are, right_is) refl

pub page_says : PagesSayTheirCells
unfolding node_of
page_says f p front kind leaf cells right least most there head ok is =
    rw there (ap (λ (page : List ℕ). node_on page f.usable f.pages (shape_of page p f.usable)) is
    ∙ node_back front p f.usable f.pages kind leaf cells right least most head ok)
