-- The accepted cells of a page have room behind its array of cell pointers, and each has two bytes at least.
use Rattle.std.proofs.Common.{◌≡◌, ◌<◌, ◌≤◌, inl, inr, ℕ, zero, suc, ◌+◌, ◌-◌, ◌*◌, Bool, true, false, not, Option, Some, None, List, [], ◌∷◌, ◌++◌, length, take, drop, get_or, replicate, nat_le, nat_lt, refl, sym, ◌∙◌, ap, subst, arith}
use Rattle.std.specs.Prelude.{◌&&◌, slice_index, if◌then◌else◌, ◌||◌, ◌==◌, IfSome, IfOk, Result, Ok, Err}
use Rattle.std.specs.List.{list_all, slice_range}
use Rattle.std.proofs.lemmas.Bool.{cases_Bool}
use Rattle.std.proofs.lemmas.Bool.Decides.{nat_tests}
use Rattle.std.proofs.lemmas.List.{drop-drop, get_or-replicate, length-replicate, take-append-drop}
use Rattle.varint_core.specs.Varint.{varint_at}
use Rattle.cell_reader.specs.declared.shapes.Kind.{Kind}
use Rattle.cell_reader.specs.declared.shapes.Kind.TheVariants.{Table, Index}
use Rattle.cell_reader.specs.declared.shapes.PageShape.{PageShape}
use Rattle.cell_reader.specs.declared.cells.CellView.{CellView}
use Rattle.cell_reader.specs.declared.cells.CellFault.{CellFault}
use Rattle.cell_reader.specs.declared.cells.CellFault.TheVariants.{Pointer}
use Rattle.cell_reader.specs.declared.parts.Numbers.{Numbers}
use Rattle.cell_reader.specs.declared.parts.Parts.{Parts}
use Rattle.cell_reader.specs.Cell.{and_varint, numbers_behind, numbers_of, size_of, with_payload, parts_with, parts_from, cell_parts, view_at, view_of, pointer_of, cell_of, local_len}
use Rattle.cell_reader.specs.Cover.{IsRange, is_free, marked_from, marked_on, marks_with, with_range}
use Rattle.cell_reader.specs.Inside.{HasArray}
use Rattle.cell_reader.specs.Screen.{Verdict, Accepts, Faulty, Overlaps, verdicts}
use Rattle.cell_reader.specs.Shape.{head_of, header_len, shape_at, shape_with, type_of, u16_at}
use Rattle.page_room.specs.Room.{HasRoom, PagesHaveRoom, accepted, locals, number_bytes}
use Rattle.cell_reader.proofs.Marks.{length_set, set_mark}
use Rattle.cell_reader.proofs.Ranges.{Within, cell_range, page_marked, varint_within}

-- ---- a cell

-- the same of any cell: a payload has a byte besides
abbrev least : Kind → Option ℕ → ℕ
least kind None = 2
least kind (Some total) = number_bytes kind

abbrev IsWide : Kind → Numbers → Type 0
IsWide kind n = least kind n.total ≤ n.len

behind_varint : (o : Option (ℕ × ℕ)) (g : ℕ → ℕ → Option Numbers) (P : Numbers → Type 0) (len : ℕ)
    → IfSome o (Within len) → ((v a : ℕ) → 1 ≤ a → IfSome (g v a) P) → IfSome (and_varint o g) P
behind_varint None g P len h more = tt
behind_varint (Some v) g P len h more = more v.0 v.1 h.0

behind_wide : (kind : Kind) (leaf : Bool) (child : Option ℕ) (at : ℕ) (bytes : List ℕ) → (leaf ≡ false → 1 ≤ at)
    → IfSome (numbers_behind kind leaf child at bytes) (IsWide kind)
unfolding numbers_behind
behind_wide Table true child at bytes some =
    behind_varint (varint_at (drop at bytes)) _ (IsWide Table) _ (varint_within (drop at bytes)) (λ total a one.
    behind_varint (varint_at (drop (at + a) bytes)) _ (IsWide Table) _ (varint_within (drop (at + a) bytes)) (λ rowid b two. omega (arith, one, two)))
behind_wide Table false child at bytes some =
    behind_varint (varint_at (drop at bytes)) _ (IsWide Table) _ (varint_within (drop at bytes)) (λ key a one. omega (arith, one, some refl))
behind_wide Index leaf child at bytes some =
    behind_varint (varint_at (drop at bytes)) _ (IsWide Index) _ (varint_within (drop at bytes)) (λ total a one. omega (arith, one))

numbers_wide : (kind : Kind) (leaf : Bool) (bytes : List ℕ) → IfSome (numbers_of kind leaf bytes) (IsWide kind)
unfolding numbers_of
numbers_wide kind true bytes = behind_wide kind true None 0 bytes (λ e. absurd cc)
numbers_wide kind false bytes =
    elim (cases_Bool (nat_lt (length bytes) 4)) [
      | inl e ↦ rw e tt
      | inr e ↦ rw e (behind_wide kind false _ 4 bytes (λ same. omega arith))
    ]

some_bytes : (kind : Kind) → (1 ≤ number_bytes kind) × (number_bytes kind ≤ 2)
some_bytes Table = (omega arith, omega arith)
some_bytes Index = (omega arith, omega arith)

-- a cell has two bytes, and its local bytes stand behind its numbers
abbrev HasTwo : Kind → Parts → Type 0
HasTwo kind p = (2 ≤ p.size) × (p.kept + number_bytes kind ≤ p.size)

payload_two : (usable : ℕ) (kind : Kind) (bytes : List ℕ) (n : Numbers) (total : ℕ) → number_bytes kind ≤ n.len → 1 ≤ total
    → IfOk (with_payload usable kind bytes n total) (HasTwo kind)
unfolding with_payload
payload_two usable kind bytes n total some more =
    let one = (some_bytes kind).0 in
    let two : (2 ≤ size_of n.len (local_len kind usable total) total) × (local_len kind usable total + number_bytes kind ≤ size_of n.len (local_len kind usable total) total) =
    elim (cases_Bool (local_len kind usable total == total)) [
      | inl e ↦ let all : local_len kind usable total ≡ total = grind (arith, nat_tests, e) in
          rw e (omega (arith, one, some, more, all), omega (arith, some))
      | inr e ↦ rw e (omega (arith, one, some), omega (arith, some))
    ] in
    elim (cases_Bool (nat_lt (length bytes) (size_of n.len (local_len kind usable total) total))) [
      | inl e ↦ rw e tt
      | inr e ↦ rw e two
    ]

parts_two : (usable limit : ℕ) (kind : Kind) (leaf : Bool) (bytes : List ℕ)
    → IfOk (cell_parts usable limit kind leaf bytes) (HasTwo kind)
unfolding cell_parts
parts_two usable limit kind leaf bytes = from (numbers_of kind leaf bytes) (numbers_wide kind leaf bytes)
  where
    with : (n : Numbers) (total : Option ℕ) → least kind total ≤ n.len → IfOk (parts_with usable limit kind bytes n total) (HasTwo kind)
    with n None wide = (wide, omega (arith, wide, (some_bytes kind).1))
    with n (Some total) wide =
        elim (cases_Bool ((total == 0) || nat_lt limit total)) [
          | inl e ↦ rw e tt
          | inr e ↦ rw e (payload_two usable kind bytes n total wide (some_total total (nat_lt limit total) e))
        ]
      where
        some_total : (n : ℕ) (b : Bool) → ((n == 0) || b) ≡ false → 1 ≤ n
        some_total zero b none = absurd cc
        some_total (suc n) b none = omega arith

    from : (o : Option Numbers) → IfSome o (IsWide kind) → IfOk (parts_from usable limit kind bytes o) (HasTwo kind)
    from None h = tt
    from (Some n) h = with n n.total h

-- a cell behind the first `front` bytes of a page of this kind, with two bytes at least: its numbers and its local bytes
pub record IsBehind (kind : Kind) (front usable : ℕ) (v : CellView) : Type 0 where
  pub behind : front ≤ v.start
  pub two : v.start + 2 ≤ v.end
  pub within : v.end ≤ usable
  pub local : v.local_end - v.local_start + number_bytes kind ≤ v.end - v.start

view_behind : (kind : Kind) (front usable start : ℕ) (r : Result Parts CellFault) → front ≤ start → IfOk r (HasTwo kind) → IfOk (view_of start r) (IsRange usable)
    → IfOk (view_of start r) (IsBehind kind front usable)
unfolding view_at
view_behind kind front usable start (Err fault) low two range = tt
view_behind kind front usable start (Ok p) low two range = record {
  behind = low;
  two = omega (arith, two.0);
  within = range.1;
  local = omega (arith, two.1);
}

first_false : (a b : Bool) → (a || b) ≡ false → a ≡ false
first_false true b none = absurd cc
first_false false b none = refl

not_below : (start front : ℕ) (b : Bool) → (nat_lt start front || b) ≡ false → front ≤ start
not_below start front b none = let low : nat_lt start front ≡ false = first_false (nat_lt start front) b none in grind (arith, nat_tests, low)

-- each cell of a page is one behind its array of cell pointers
pub cell_behind : (page : List ℕ) (usable pages : ℕ) (shape : PageShape) (i : ℕ)
    → IfOk (cell_of page usable pages shape i) (IsBehind shape.kind shape.array_end usable)
unfolding cell_of
cell_behind page usable pages shape i =
    from (nat_lt (pointer_of page shape i) shape.array_end || nat_le usable (pointer_of page shape i)) refl (cell_range page usable pages shape i)
  where
    read : Result CellView CellFault
    read = view_of (pointer_of page shape i) (cell_parts usable (pages * usable) shape.kind shape.leaf (slice_range page (pointer_of page shape i) usable))

    from : (b : Bool) → (nat_lt (pointer_of page shape i) shape.array_end || nat_le usable (pointer_of page shape i)) ≡ b
        → IfOk (if b then Err Pointer else read) (IsRange usable) → IfOk (if b then Err Pointer else read) (IsBehind shape.kind shape.array_end usable)
    from true e range = tt
    from false e range =
        view_behind shape.kind shape.array_end usable (pointer_of page shape i) _ (not_below (pointer_of page shape i) shape.array_end (nat_le usable (pointer_of page shape i)) e)
        (parts_two usable (pages * usable) shape.kind shape.leaf (slice_range page (pointer_of page shape i) usable)) range

-- ---- marks

-- how many marks are set
abbrev trues : List Bool → ℕ
trues [] = 0
trues (true ∷ m) = suc (trues m)
trues (false ∷ m) = trues m

trues-append : (xs ys : List Bool) → trues (xs ++ ys) ≡ trues xs + trues ys
trues-append [] ys = omega arith
trues-append (true ∷ xs) ys = omega (arith, trues-append xs ys)
trues-append (false ∷ xs) ys = trues-append xs ys

trues-set : (n : ℕ) → trues (replicate n true) ≡ n
trues-set zero = refl
trues-set (suc n) = omega (arith, trues-set n)

trues-none : (m : List Bool) → list_all not m ≡ true → trues m ≡ 0
trues-none [] none = refl
trues-none (true ∷ m) none = absurd cc
trues-none (false ∷ m) none = trues-none m none

-- a front that is not set has room
front_room : (front : ℕ) (m : List Bool) → front ≤ length m → ((k : ℕ) → k < front → get_or m k false ≡ false) → trues m + front ≤ length m
front_room zero [] most none = omega arith
front_room zero (true ∷ m) most none = omega (arith, front_room zero m (omega arith) (λ k lt. absurd (omega (arith, lt))))
front_room zero (false ∷ m) most none = omega (arith, front_room zero m (omega arith) (λ k lt. absurd (omega (arith, lt))))
front_room (suc front) [] most none = absurd (omega (arith, most))
front_room (suc front) (true ∷ m) most none = let bad : true ≡ false = none 0 (omega arith) in absurd cc
front_room (suc front) (false ∷ m) most none =
    omega (arith, front_room front m (omega (arith, most)) (λ k lt. none (suc k) (omega (arith, lt))))

-- a free range that is set
trues-range : (m : List Bool) (s e : ℕ) → s ≤ e → is_free m s e ≡ true → trues (with_range m s e) ≡ trues m + (e - s)
trues-range m s e le free =
    let whole : trues m ≡ trues (take s m) + trues (drop s m) =
    ap trues (sym (take-append-drop s m)) ∙ trues-append (take s m) (drop s m) in
    let rest : trues (drop s m) ≡ trues (take (e - s) (drop s m)) + trues (drop (e - s) (drop s m)) =
    ap trues (sym (take-append-drop (e - s) (drop s m))) ∙ trues-append (take (e - s) (drop s m)) (drop (e - s) (drop s m)) in
    let behind : trues (drop (e - s) (drop s m)) ≡ trues (drop e m) = ap trues (drop-drop (e - s) s m) ∙ ap (λ (n : ℕ). trues (drop n m)) (omega (arith, le)) in
    omega (
      arith,
      whole,
      rest,
      behind,
      trues-none (take (e - s) (drop s m)) free,
      trues-append (take s m) (replicate (e - s) true ++ drop e m),
      trues-append (replicate (e - s) true) (drop e m),
      trues-set (e - s),
    )

-- ---- the accepted cells of a page

-- the bytes of the accepted cells
abbrev sizes : List Verdict → ℕ
sizes [] = 0
sizes (Accepts v ∷ vs) = (v.end - v.start) + sizes vs
sizes (Faulty fault ∷ vs) = sizes vs
sizes (Overlaps ∷ vs) = sizes vs

-- the accepted cells of n have room beside the marks that are set and behind the front of the page
record HaveRoom (kind : Kind) (front usable n : ℕ) (m : List Bool) (vs : List Verdict) : Type 0 where
  room : sizes vs + trues m + front ≤ usable
  two : 2 * accepted vs ≤ sizes vs
  local : locals vs + accepted vs * number_bytes kind ≤ sizes vs
  most : accepted vs ≤ n

-- the marks of a page whose front is not set
record AreMarks (front usable : ℕ) (m : List Bool) : Type 0 where
  len : length m ≡ usable
  free : (k : ℕ) → k < front → get_or m k false ≡ false

marks_more : (kind : Kind) (front usable : ℕ) (m : List Bool) (v : CellView) → AreMarks front usable m → IsBehind kind front usable v
    → AreMarks front usable (with_range m v.start v.end)
marks_more kind front usable m v are behind = record {
  len = length_set m v.start v.end (omega (arith, behind.two)) (omega (arith, are.len, behind.within)) ∙ are.len;
  free = λ k lt. set_mark m v.start v.end k (omega (arith, behind.two)) (omega (arith, are.len, behind.within))
      ∙ unset k (omega (arith, lt, behind.behind)) (are.free k lt);
}
  where
    unset : (k : ℕ) → k < v.start → get_or m k false ≡ false → ((nat_le v.start k && nat_lt k v.end) || get_or m k false) ≡ false
    unset k lt none = let low : nat_le v.start k ≡ false = grind (arith, nat_tests, lt) in rw (low, none) refl

pub more_bytes : (n b : ℕ) → suc n * b ≡ n * b + b
more_bytes n b = grind arith

one_more : (kind : Kind) (front usable n : ℕ) (m : List Bool) (r : Result CellView CellFault) (more : List Bool → List Verdict) → IfOk r (IsBehind kind front usable)
    → ((m' : List Bool) → AreMarks front usable m' → HaveRoom kind front usable n m' (more m')) → AreMarks front usable m
    → HaveRoom kind front usable (suc n) m (marked_on r m ∷ more (marks_with (marked_on r m) m))
one_more kind front usable n m (Err fault) more ok rec are =
    let rest : HaveRoom kind front usable n m (more m) = rec m are in
    record { room = rest.room; two = rest.two; local = rest.local; most = omega (arith, rest.most) }
one_more kind front usable n m (Ok v) more behind rec are = by_free (is_free m v.start v.end) refl
  where
    by_free : (b : Bool) → is_free m v.start v.end ≡ b
        → HaveRoom kind front usable (suc n) m ((if b then Accepts v else Overlaps) ∷ more (marks_with (if b then Accepts v else Overlaps) m))
    by_free true free =
        let rest : HaveRoom kind front usable n (with_range m v.start v.end) (more (with_range m v.start v.end)) =
        rec (with_range m v.start v.end) (marks_more kind front usable m v are behind) in
        record {
          room = omega (arith, rest.room, trues-range m v.start v.end (omega (arith, behind.two)) free);
          two = omega (arith, rest.two, behind.two);
          local = omega (arith, rest.local, behind.local, more_bytes (accepted (more (with_range m v.start v.end))) (number_bytes kind));
          most = omega (arith, rest.most);
        }
    by_free false taken =
        let rest : HaveRoom kind front usable n m (more m) = rec m are in
        record { room = rest.room; two = rest.two; local = rest.local; most = omega (arith, rest.most) }

marked_room : (kind : Kind) (front usable : ℕ) (cell : ℕ → Result CellView CellFault) → ((j : ℕ) → IfOk (cell j) (IsBehind kind front usable)) → front ≤ usable
    → (n i : ℕ) (m : List Bool) → AreMarks front usable m → HaveRoom kind front usable n m (marked_from cell n i m)
marked_room kind front usable cell behind low zero i m are = record {
  room = omega (arith, front_room front m (omega (arith, are.len, low)) are.free, are.len);
  two = omega arith;
  local = omega arith;
  most = omega arith;
}
marked_room kind front usable cell behind low (suc n) i m are =
    one_more kind front usable n m (cell i) (marked_from cell n (i + 1)) (behind i) (λ m' are'. marked_room kind front usable cell behind low n (i + 1) m' are') are

header_least : (leaf : Bool) → 8 ≤ header_len leaf
header_least true = omega arith
header_least false = omega arith

-- the pointer array of a page with a shape ends inside its usable bytes
array_with : (usable head cells : ℕ) (t : Option (Kind × Bool)) → IfSome (shape_with usable head cells t) (HasArray usable)
array_with usable head cells None = tt
array_with usable head cells (Some t) =
    elim (cases_Bool (nat_lt usable (head + header_len t.1 + 2 * cells))) [
      | inl e ↦ rw e tt
      | inr e ↦ rw e (record { ends = refl; within = grind (arith, nat_tests, e) })
    ]

has_array : (page : List ℕ) (head usable : ℕ) → IfSome (shape_at page head usable) (HasArray usable)
unfolding shape_at
has_array page head usable = array_with usable head (u16_at page (head + 3)) (type_of (slice_index page head))

-- ---- pages

shape_room : (page : List ℕ) (usable pages : ℕ) (shape : PageShape) → HasArray usable shape
    → HasRoom shape.kind usable (verdicts page usable pages shape)
shape_room page usable pages shape array =
    let none : AreMarks shape.array_end usable (replicate usable false) = record {
      len = length-replicate usable false;
      free = λ k lt. get_or-replicate usable k false false (omega (arith, lt, array.within));
    } in
    let room : HaveRoom shape.kind shape.array_end usable shape.cells (replicate usable false) (verdicts page usable pages shape) =
    subst (HaveRoom shape.kind shape.array_end usable shape.cells (replicate usable false)) (page_marked page usable pages shape)
    (marked_room shape.kind shape.array_end usable (cell_of page usable pages shape) (cell_behind page usable pages shape) array.within shape.cells 0 _ none) in
    record {
      cells = omega (arith, room.room, room.two, room.most, array.ends);
      bytes = omega (arith, room.room, room.local);
      whole = omega (arith, room.room, room.local, room.most, array.ends, header_least shape.leaf);
    }

pub page_room : PagesHaveRoom
page_room page number usable pages shape is =
    let array : HasArray usable shape = subst (λ (o : Option PageShape). IfSome o (HasArray usable)) is (has_array page (head_of number) usable) in
    shape_room page usable pages shape array
