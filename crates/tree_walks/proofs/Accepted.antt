-- What holds of each accepted cell of a page: its local bytes are on the page, and a cell has a payload exactly
-- where the cells of its page have one.
use Rattle.std.proofs.Common.{◌≡◌, ◌≤◌, ℕ, zero, suc, ◌+◌, ◌-◌, ◌*◌, Bool, true, false, None, Result, Ok, Err, List, [], ◌∷◌, ◌++◌, length, map, take, drop, refl, sym, ap, ◌∙◌, subst, inl, inr, arith, length-append}
use Rattle.std.specs.Prelude.{nat_lt, nat_le, ◌||◌}
use Rattle.std.specs.Bool.{MatchBool}
use Rattle.std.specs.List.{AllByRecursion, list_all, slice_range}
use Rattle.std.proofs.lemmas.Bool.{cases_Bool}
use Rattle.std.proofs.lemmas.List.{length-take, length-drop}
use Rattle.cell_reader.specs.declared.cells.CellFault.{CellFault}
use Rattle.cell_reader.specs.declared.cells.CellView.{CellView}
use Rattle.cell_reader.specs.declared.parts.Parts.{Parts}
use Rattle.cell_reader.specs.declared.shapes.Kind.{Kind}
use Rattle.cell_reader.specs.declared.shapes.Kind.TheVariants.{Table, Index}
use Rattle.cell_reader.specs.declared.shapes.PageShape.{PageShape}
use Rattle.cell_reader.specs.Cell.{cell_of, cell_parts, pointer_of, view_at, view_of}
use Rattle.cell_reader.specs.Inside.{has_payload}
use Rattle.cell_reader.specs.Screen.{Accepts, Overlaps, are_apart, held_with, screened_from, verdict_on, verdicts}
use Rattle.cell_reader.specs.Spelling.{IsCell, IsOverflow, IsRightLong}
use Rattle.cell_reader.proofs.Read.{read_spelled}
use Rattle.page_walk.proofs.Rowids.{accepted_read}

-- a cell of a page whose cells have a payload or have none
pub record Sits (payload : Bool) (page : List ℕ) (v : CellView) : Type 0 where
  pub total : MatchBool payload (1 ≤ v.total) (v.total ≡ 0)
  pub over : payload ≡ false → v.overflow ≡ None
  pub local : length (slice_range page v.local_start v.local_end) ≡ v.local_end - v.local_start

-- bytes that are within what is there
within_range : (page : List ℕ) (start usable from kept size : ℕ) → from + kept ≤ size → size ≤ length (slice_range page start usable)
    → length (slice_range page (start + from) (start + from + kept)) ≡ (start + from + kept) - (start + from)
within_range page start usable from kept size fits there =
    omega (
      arith,
      fits,
      there,
      length-take (usable - start) (drop start page),
      length-drop start page,
      length-take ((start + from + kept) - (start + from)) (drop (start + from) page),
      length-drop (start + from) page,
    )

-- a cell without a payload names no overflow page
none_over : (bytes : List ℕ) (p : Parts) → p.kept ≡ p.total → IsOverflow bytes p → p.overflow ≡ None
none_over bytes p all (inl is) = is.1.number
none_over bytes p all (inr is) = absurd (is.0 all)

total_of : (usable limit : ℕ) (kind : Kind) (leaf : Bool) (bytes : List ℕ) (p : Parts) → IsCell usable kind leaf bytes p → IsRightLong kind leaf limit p
    → MatchBool (has_payload kind leaf) (1 ≤ p.total) (p.total ≡ 0)
total_of usable limit Table true bytes p is long = long.0
total_of usable limit Table false bytes p is long = is.numbers.0.total
total_of usable limit Index leaf bytes p is long = long.0

over_of : (usable : ℕ) (kind : Kind) (leaf : Bool) (bytes : List ℕ) (p : Parts) → IsCell usable kind leaf bytes p
    → has_payload kind leaf ≡ false → p.overflow ≡ None
over_of usable Table true bytes p is none = absurd (cc)
over_of usable Table false bytes p is none = none_over is.over p (is.numbers.0.local ∙ sym is.numbers.0.total) is.ends
over_of usable Index leaf bytes p is none = absurd (cc)

parts_sit : (page : List ℕ) (usable limit start : ℕ) (kind : Kind) (leaf : Bool) (p : Parts)
    → cell_parts usable limit kind leaf (slice_range page start usable) ≡ Ok p → Sits (has_payload kind leaf) page (view_at start p)
unfolding view_at
parts_sit page usable limit start kind leaf p read =
    let bytes : List ℕ = slice_range page start usable in
    let both = read_spelled usable limit kind leaf bytes p read in
    let is : IsCell usable kind leaf (take p.size bytes) p = both.0 in
    let joined : length (take p.size bytes) ≡ length is.child + (length is.first + (length is.second + (length is.local + length is.over))) =
    ap length is.parts
    ∙ omega (
      arith,
      length-append is.child (is.first ++ (is.second ++ (is.local ++ is.over))),
      length-append is.first (is.second ++ (is.local ++ is.over)),
      length-append is.second (is.local ++ is.over),
      length-append is.local is.over,
    ) in
    let fits : p.from + p.kept ≤ p.size = omega (arith, is.from, is.kept, is.size, joined) in
    let there : p.size ≤ length bytes = omega (arith, is.size, length-take p.size bytes) in
    record {
      total = total_of usable limit kind leaf (take p.size bytes) p is both.1;
      over = over_of usable kind leaf (take p.size bytes) p is;
      local = within_range page start usable p.from p.kept p.size fits there;
    }

from_view : (page : List ℕ) (usable limit start : ℕ) (kind : Kind) (leaf : Bool) (v : CellView) (r : Result Parts CellFault)
    → cell_parts usable limit kind leaf (slice_range page start usable) ≡ r → view_of start r ≡ Ok v → Sits (has_payload kind leaf) page v
from_view page usable limit start kind leaf v (Err fault) read is = absurd (cc)
from_view page usable limit start kind leaf v (Ok p) read is =
    let same : view_at start p ≡ v = cc in
    subst (Sits (has_payload kind leaf) page) same (parts_sit page usable limit start kind leaf p read)

-- a cell without a fault sits so
pub cell_sits : (page : List ℕ) (usable pages : ℕ) (shape : PageShape) (i : ℕ) (v : CellView) → cell_of page usable pages shape i ≡ Ok v
    → Sits (has_payload shape.kind shape.leaf) page v
unfolding cell_of
cell_sits page usable pages shape i v is =
    let start : ℕ = pointer_of page shape i in
    let read : Result Parts CellFault = cell_parts usable (pages * usable) shape.kind shape.leaf (slice_range page start usable) in
    elim (cases_Bool (nat_lt start shape.array_end || nat_le usable start)) [
      | inl out ↦ absurd (outside (rw out at is))
      | inr here ↦ from_view page usable (pages * usable) start shape.kind shape.leaf v read refl (rw here at is)
    ]
  where
    outside : {fault : CellFault} → Err fault ≡ Ok v → ⊥
    outside e = cc

-- cells that are all accepted have no fault
pub all_screened : (P : CellView → Type 0) (cell : ℕ → Result CellView CellFault) → ((i : ℕ) (v : CellView) → cell i ≡ Ok v → P v)
    → (n i : ℕ) (held views : List CellView) → screened_from cell n i held ≡ map Accepts views → AllByRecursion P views
all_screened P cell good zero i held [] is = tt
all_screened P cell good zero i held (v ∷ views) is = absurd (cc)
all_screened P cell good (suc n) i held [] is = tt
all_screened P cell good (suc n) i held (v ∷ views) is =
    let first : verdict_on (cell i) held ≡ Accepts v = cc in
    let later : screened_from cell n (i + 1) (held_with (verdict_on (cell i) held) held) ≡ map Accepts views = cc in
    (good i v (accepted_read (cell i) held v first), all_screened P cell good n (i + 1) (held_with (verdict_on (cell i) held) held) views later)

pub all_sit : (page : List ℕ) (usable pages : ℕ) (shape : PageShape) (views : List CellView) → verdicts page usable pages shape ≡ map Accepts views
    → AllByRecursion (Sits (has_payload shape.kind shape.leaf) page) views
unfolding verdicts
all_sit page usable pages shape views is =
    all_screened (Sits (has_payload shape.kind shape.leaf) page) (cell_of page usable pages shape)
    (λ i v read. cell_sits page usable pages shape i v read) shape.cells 0 [] views is
