-- A row has a rowid or none by the kind of its page.
use Rattle.std.proofs.Common.{◌≡◌, ℕ, zero, suc, ◌+◌, ◌*◌, Bool, true, false, ◌||◌, Option, Some, None, Result, Ok, Err, List, [], slice_get, nat_lt, nat_le, refl, sym, ◌∙◌, ap, subst, arith}
use Rattle.std.specs.Prelude.{is_some, if◌then◌else◌}
use Rattle.std.specs.List.{list_all, slice_range}
use Rattle.std.specs.Option.{option_map}
use Rattle.page_access.specs.Pages.{page_at}
use Rattle.cell_reader.specs.declared.shapes.Kind.{Kind}
use Rattle.cell_reader.specs.declared.shapes.Kind.TheVariants.{Table, Index}
use Rattle.cell_reader.specs.declared.shapes.PageShape.{PageShape}
use Rattle.cell_reader.specs.declared.cells.CellView.{CellView}
use Rattle.cell_reader.specs.declared.cells.CellFault.{CellFault}
use Rattle.cell_reader.specs.declared.cells.CellFault.TheVariants.{Pointer}
use Rattle.cell_reader.specs.declared.parts.Parts.{Parts}
use Rattle.cell_reader.specs.Cell.{cell_of, cell_parts, pointer_of, view_at, view_of}
use Rattle.cell_reader.specs.Inside.{has_payload}
use Rattle.cell_reader.specs.Screen.{Verdict, Accepts, Overlaps, are_apart, held_with, screened_from, verdict_on, verdicts}
use Rattle.cell_reader.specs.Spelling.{AreNumbers}
use Rattle.cell_reader.proofs.Read.{read_spelled}
use Rattle.page_walk.specs.Laws.{RowidsAreByKind}
use Rattle.page_walk.specs.Page.{shape_on, verdicts_in}

-- an accepted cell is one that is read
pub accepted_read : (r : Result CellView CellFault) (held : List CellView) (v : CellView) → verdict_on r held ≡ Accepts v → r ≡ Ok v
accepted_read (Err fault) held v e = absurd cc
accepted_read (Ok w) held v e = by_test (list_all (are_apart w) held) e
  where
    by_test : (b : Bool) → (if b then Accepts w else Overlaps) ≡ Accepts v → ◌≡◌ {A = Result CellView CellFault} (Ok w) (Ok v)
    by_test true e = cc
    by_test false e = absurd cc

cell_there : (cell : ℕ → Result CellView CellFault) (n i : ℕ) (held : List CellView) (j : ℕ) (v : CellView)
    → slice_get (screened_from cell n i held) j ≡ Some (Accepts v) → cell (i + j) ≡ Ok v
cell_there cell zero i held j v e = absurd cc
cell_there cell (suc n) i held zero v e =
    let same : i + 0 ≡ i = omega arith in
    ap cell same ∙ accepted_read (cell i) held v cc
cell_there cell (suc n) i held (suc j) v e =
    let same : i + suc j ≡ i + 1 + j = omega arith in
    ap cell same ∙ cell_there cell n (i + 1) (held_with (verdict_on (cell i) held) held) j v e

-- a rowid, or none
record IsByKind (kind : Kind) {A : Type 0} (rowid : Option A) : Type 0 where
  table : kind ≡ Table → is_some rowid ≡ true
  index : kind ≡ Index → rowid ≡ None

by_numbers : (usable : ℕ) (kind : Kind) (leaf : Bool) (first second : List ℕ) (p : Parts) → has_payload kind leaf ≡ true
    → AreNumbers usable kind leaf first second p → IsByKind kind p.rowid
by_numbers usable Table true first second p pay n = record { table = λ e. ap is_some n.1.number; index = λ e. absurd cc }
by_numbers usable Table false first second p pay n = absurd cc
by_numbers usable Index leaf first second p pay n = record { table = λ e. absurd cc; index = λ e. n.1.number }

signed : {B : Type 0} (number : ℕ → B) (kind : Kind) (o : Option ℕ) → IsByKind kind o → IsByKind kind (option_map number o)
signed number kind None is = record { table = λ e. is.table e; index = λ e. refl }
signed number kind (Some n) is = record { table = λ e. refl; index = λ e. absurd (let no = is.index e in cc) }

-- a cell that is read has its rowid by the kind of its page
rowid_of : (page : List ℕ) (usable pages : ℕ) (shape : PageShape) (i : ℕ) (v : CellView) → has_payload shape.kind shape.leaf ≡ true
    → cell_of page usable pages shape i ≡ Ok v → IsByKind shape.kind v.rowid
unfolding cell_of view_at
rowid_of page usable pages shape i v pay e =
    by_test (nat_lt (pointer_of page shape i) shape.array_end || nat_le usable (pointer_of page shape i)) e
  where
    bytes : List ℕ
    bytes = slice_range page (pointer_of page shape i) usable

    by_parts : (r : Result Parts CellFault) → cell_parts usable (pages * usable) shape.kind shape.leaf bytes ≡ r
        → view_of (pointer_of page shape i) r ≡ Ok v → IsByKind shape.kind v.rowid
    by_parts (Err fault) is e = absurd cc
    by_parts (Ok p) is e =
        let same : view_at (pointer_of page shape i) p ≡ v = cc in
        let spelled = read_spelled usable (pages * usable) shape.kind shape.leaf bytes p is in
        subst (λ (w : CellView). IsByKind shape.kind w.rowid) same
        (signed _ shape.kind p.rowid (by_numbers usable shape.kind shape.leaf spelled.0.first spelled.0.second p pay spelled.0.numbers))

    by_test : (b : Bool) → (if b then Err Pointer
        else view_of (pointer_of page shape i) (cell_parts usable (pages * usable) shape.kind shape.leaf bytes)) ≡ Ok v
        → IsByKind shape.kind v.rowid
    by_test true e = absurd cc
    by_test false e = by_parts (cell_parts usable (pages * usable) shape.kind shape.leaf bytes) refl e

pub rowids_are_by_kind : RowidsAreByKind
unfolding verdicts
rowids_are_by_kind f row e =
    let page : List ℕ = page_at f row.page in
    let got : slice_get (verdicts page f.usable f.pages e.shape) row.cell ≡ Some (Accepts e.view) =
    ap (λ (xs : List Verdict). slice_get xs row.cell) (sym (ap (verdicts_in f row.page) e.has_shape)) ∙ e.accepted in
    let same : 0 + row.cell ≡ row.cell = omega arith in
    let cell : cell_of page f.usable f.pages e.shape row.cell ≡ Ok e.view =
    sym (ap (cell_of page f.usable f.pages e.shape) same)
    ∙ cell_there (cell_of page f.usable f.pages e.shape) e.shape.cells 0 [] row.cell e.view got in
    let is = rowid_of page f.usable f.pages e.shape row.cell e.view e.has_record cell in
    let kind_is : option_map (λ (s : PageShape). s.kind) (shape_on f row.page) ≡ Some e.shape.kind =
    ap (option_map (λ (s : PageShape). s.kind)) e.has_shape in
    record {
      table = λ kind. ap is_some e.rowid ∙ is.table (let both = sym kind_is ∙ kind in cc);
      index = λ kind. e.rowid ∙ is.index (let both = sym kind_is ∙ kind in cc);
    }
