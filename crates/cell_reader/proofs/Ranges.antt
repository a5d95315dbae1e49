-- Each cell without a fault has bytes, all of them usable.
use Rattle.std.proofs.Common.{◌⊎◌, inl, inr, ◌%◌, ◌≡◌, ◌<◌, ◌≤◌, ℕ, zero, suc, ◌+◌, ◌-◌, ◌*◌, Bool, true, false, Option, Some, None, List, [], ◌∷◌, length, take, drop, refl, arith, length-drop, length-take}
use Rattle.std.specs.Prelude.{nat_lt, nat_le, ◌||◌, ◌==◌, if◌then◌else◌, IfSome, IfOk, Result, Ok, Err, replicate}
use Rattle.std.specs.List.{slice_range}
use Rattle.std.proofs.lemmas.Bool.{cases_Bool}
use Rattle.std.proofs.lemmas.Bool.Decides.{nat_tests}
use Rattle.varint_core.specs.Varint.{varint_from, varint_at}
use Rattle.cell_reader.specs.declared.shapes.Kind.{Kind}
use Rattle.cell_reader.specs.declared.shapes.Kind.TheVariants.{Table, Index}
use Rattle.cell_reader.specs.declared.shapes.PageShape.{PageShape}
use Rattle.cell_reader.specs.declared.cells.CellView.{CellView}
use Rattle.cell_reader.specs.declared.cells.CellFault.{CellFault}
use Rattle.cell_reader.specs.declared.parts.Numbers.{Numbers}
use Rattle.cell_reader.specs.declared.parts.Parts.{Parts}
use Rattle.cell_reader.specs.Cell.{and_varint, numbers_behind, numbers_of, size_of, with_payload, parts_with, parts_from, cell_parts, view_at, view_of, pointer_of, cell_of, local_len}
use Rattle.cell_reader.specs.Cover.{IsRange, marked_from}
use Rattle.cell_reader.specs.Screen.{verdicts}
use Rattle.cell_reader.proofs.Marks.{covers_none, marked_screened}
use Rattle.cell_reader.proofs.Places.{range_fits}

-- a varint has a byte, and the bytes have all of it
abbrev pub Within : ℕ → ℕ × ℕ → Type 0
Within len v = (1 ≤ v.1) × (v.1 ≤ len)

varint_from_within : (k high : ℕ) (s : List ℕ) → IfSome (varint_from k high s) (λ v. (k < v.1) × (v.1 ≤ k + length s))
varint_from_within k high [] = tt
varint_from_within k high (b ∷ s) =
    elim (cases_Bool (k == 8)) [
      | inl e ↦ rw e (grind (arith, nat_tests), grind (arith, nat_tests))
      | inr e ↦ rw e (elim (cases_Bool (nat_lt b 128)) [
        | inl f ↦ rw f (omega arith, omega arith)
        | inr f ↦ rw f (later (varint_from (k + 1) (high * 128 + b % 128) s)
            (varint_from_within (k + 1) (high * 128 + b % 128) s))
      ])
    ]
  where
    later : (o : Option (ℕ × ℕ)) → IfSome o (λ v. (k + 1 < v.1) × (v.1 ≤ k + 1 + length s))
        → IfSome o (λ v. (k < v.1) × (v.1 ≤ k + suc (length s)))
    later None h = tt
    later (Some v) h = (omega (arith, h.0), omega (arith, h.1))

pub varint_within : (s : List ℕ) → IfSome (varint_at s) (Within (length s))
unfolding varint_at
varint_within s = start (varint_from 0 0 s) (varint_from_within 0 0 s)
  where
    start : (o : Option (ℕ × ℕ)) → IfSome o (λ v. (0 < v.1) × (v.1 ≤ 0 + length s)) → IfSome o (Within (length s))
    start None h = tt
    start (Some v) h = (omega (arith, h.0), omega (arith, h.1))

-- numbers that take a byte, and all of them within that many
abbrev Taken : ℕ → Numbers → Type 0
Taken len n = (0 < n.len) × (n.len ≤ len)

and_within : (o : Option (ℕ × ℕ)) (f : ℕ → ℕ → Option Numbers) (P : Numbers → Type 0) (len : ℕ)
    → IfSome o (Within len) → ((v a : ℕ) → 1 ≤ a → a ≤ len → IfSome (f v a) P) → IfSome (and_varint o f) P
and_within None f P len h g = tt
and_within (Some v) f P len h g = g v.0 v.1 h.0 h.1

behind_within : (kind : Kind) (leaf : Bool) (child : Option ℕ) (at : ℕ) (bytes : List ℕ) → at ≤ length bytes
    → IfSome (numbers_behind kind leaf child at bytes) (Taken (length bytes))
unfolding numbers_behind
behind_within Table true child at bytes le =
    and_within (varint_at (drop at bytes)) _ _ _ (varint_within (drop at bytes)) (λ total a some most.
    and_within (varint_at (drop (at + a) bytes)) _ _ _ (varint_within (drop (at + a) bytes)) (λ rowid b more last.
    (omega arith, omega (arith, length-drop at bytes, length-drop (at + a) bytes))))
behind_within Table false child at bytes le =
    and_within (varint_at (drop at bytes)) _ _ _ (varint_within (drop at bytes)) (λ key a some most.
    (omega arith, omega (arith, length-drop at bytes)))
behind_within Index leaf child at bytes le =
    and_within (varint_at (drop at bytes)) _ _ _ (varint_within (drop at bytes)) (λ total a some most.
    (omega arith, omega (arith, length-drop at bytes)))

numbers_within : (kind : Kind) (leaf : Bool) (bytes : List ℕ) → IfSome (numbers_of kind leaf bytes) (Taken (length bytes))
unfolding numbers_of
numbers_within kind true bytes = behind_within kind true None 0 bytes (omega arith)
numbers_within kind false bytes =
    elim (cases_Bool (nat_lt (length bytes) 4)) [
      | inl e ↦ rw e tt
      | inr e ↦ rw e (behind_within kind false _ 4 bytes (grind (arith, nat_tests)))
    ]

-- a cell that takes a byte, and all of it within that many
abbrev Sized : ℕ → Parts → Type 0
Sized len p = (0 < p.size) × (p.size ≤ len)

payload_sized : (usable : ℕ) (kind : Kind) (bytes : List ℕ) (n : Numbers) (total : ℕ) → Taken (length bytes) n
    → IfOk (with_payload usable kind bytes n total) (Sized (length bytes))
unfolding with_payload
payload_sized usable kind bytes n total taken =
    let more : n.len ≤ size_of n.len (local_len kind usable total) total =
    elim (cases_Bool (local_len kind usable total == total)) [
      | inl e ↦ rw e (omega arith)
      | inr e ↦ rw e (omega arith)
    ] in
    let some : 0 < n.len = taken.0 in
    elim (cases_Bool (nat_lt (length bytes) (size_of n.len (local_len kind usable total) total))) [
      | inl e ↦ rw e tt
      | inr e ↦ rw e (omega arith, grind (arith, nat_tests))
    ]

parts_sized : (usable limit : ℕ) (kind : Kind) (leaf : Bool) (bytes : List ℕ)
    → IfOk (cell_parts usable limit kind leaf bytes) (Sized (length bytes))
unfolding cell_parts
parts_sized usable limit kind leaf bytes = from (numbers_of kind leaf bytes) (numbers_within kind leaf bytes)
  where
    with : (n : Numbers) (total : Option ℕ) → Taken (length bytes) n
        → IfOk (parts_with usable limit kind bytes n total) (Sized (length bytes))
    with n None taken = taken
    with n (Some total) taken =
        elim (cases_Bool ((total == 0) || nat_lt limit total)) [
          | inl e ↦ rw e tt
          | inr e ↦ rw e (payload_sized usable kind bytes n total taken)
        ]

    from : (o : Option Numbers) → IfSome o (Taken (length bytes))
        → IfOk (parts_from usable limit kind bytes o) (Sized (length bytes))
    from None h = tt
    from (Some n) h = with n n.total h

view_range : (usable start len : ℕ) (r : Result Parts CellFault) → start + len ≤ usable → IfOk r (Sized len)
    → IfOk (view_of start r) (IsRange usable)
unfolding view_at
view_range usable start len (Err fault) le h = tt
view_range usable start len (Ok p) le h = (omega (arith, h.0), omega (arith, h.0, h.1))

below : (b : Bool) (usable start : ℕ) → (b || nat_le usable start) ≡ false → start ≤ usable
below true usable start h = cc
below false usable start h = grind (arith, nat_tests)

-- each cell of a page has bytes, all of them usable
pub cell_range : (page : List ℕ) (usable pages : ℕ) (shape : PageShape) (i : ℕ)
    → IfOk (cell_of page usable pages shape i) (IsRange usable)
unfolding cell_of
cell_range page usable pages shape i =
    elim (cases_Bool (nat_lt (pointer_of page shape i) shape.array_end || nat_le usable (pointer_of page shape i))) [
      | inl e ↦ rw e tt
      | inr e ↦ rw e (view_range usable (pointer_of page shape i) _ _
          (range_fits page (pointer_of page shape i) usable
          (below (nat_lt (pointer_of page shape i) shape.array_end) usable (pointer_of page shape i) e))
          (parts_sized usable (pages * usable) shape.kind shape.leaf (slice_range page (pointer_of page shape i) usable)))
    ]

-- the verdicts on a page's cells by the marks of a walk over them
pub page_marked : (page : List ℕ) (usable pages : ℕ) (shape : PageShape)
    → marked_from (cell_of page usable pages shape) shape.cells 0 (replicate usable false) ≡ verdicts page usable pages shape
unfolding verdicts
page_marked page usable pages shape =
    marked_screened usable (cell_of page usable pages shape) (cell_range page usable pages shape) shape.cells 0 _ []
    (covers_none usable)
