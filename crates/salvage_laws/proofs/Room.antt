-- The cells of pages have room on them, and their payloads on them and on the pages of their chains.
use Rattle.std.proofs.Common.{◌≡◌, ◌≤◌, ℕ, suc, ◌+◌, ◌-◌, ◌*◌, Bool, true, false, Option, Some, None, List, [], ◌∷◌, ◌++◌, length, drop, slice_get, refl, sym, ◌∙◌, ap, subst, arith, length-append, length-take}
use Rattle.std.specs.Prelude.{if◌then◌else◌, IfSome, Result, Ok, Err}
use Rattle.std.specs.List.{AllByRecursion, range_with_len, slice_range, sum_by}
use Rattle.std.proofs.lemmas.List.FromFn.{length-range_with_len}
use Rattle.std.proofs.lemmas.List.Sums.{sum_by-append, sum_by-cons}
use Rattle.page_access.specs.Pages.{File, page_at}
use Rattle.page_lists.specs.Lists.{count, minus}
use Rattle.page_lists.specs.Table.{is_page}
use Rattle.page_lists.proofs.Counts.{count-append, length-minus}
use Rattle.record_core.specs.declared.faults.RecordFault.{RecordFault}
use Rattle.record_core.specs.declared.values.Value.{Value}
use Rattle.record_core.specs.Record.{record_of}
use Rattle.cell_reader.specs.declared.cells.CellView.{CellView}
use Rattle.cell_reader.specs.declared.shapes.PageShape.{PageShape}
use Rattle.cell_reader.specs.Inside.{has_payload}
use Rattle.cell_reader.specs.Screen.{Verdict, Accepts, Faulty, Overlaps, verdicts}
use Rattle.overflow_chain.specs.Chain.{contents}
use Rattle.overflow_chain.specs.declared.ChainEnd.{ChainEnd}
use Rattle.overflow_chain.specs.declared.ChainEnd.TheVariants.{Whole, Broken}
use Rattle.page_walk.specs.Cells.{Outcome, Row, bytes_from, chains_of, end_from, ended_as, entry_at, missing, outcome_at, outcomes_from, outcomes_in, outcomes_on, outcomes_with, read_as, turn_from}
use Rattle.page_walk.specs.Evidence.{Evidence, IsRest}
use Rattle.page_walk.specs.Page.{screened_as, shape_on, verdicts_in, verdicts_on}
use Rattle.page_walk.specs.Rows.{rows_of}
use Rattle.page_walk.specs.Turns.{left_by, turns_on}
use Rattle.page_walk.proofs.Witness.{rows_append}
use Rattle.raw_schema.specs.Schema.{cells_in}
use Rattle.tree_uses.specs.Trees.{Tree, chains_in, pages_in, turns_in}
use Rattle.use_order.specs.Apart.{row_chains}
use Rattle.use_order.specs.Laws.{table_cells}
use Rattle.salvage_laws.specs.Room.{payload_bytes, payload_of}
use Rattle.page_room.specs.Room.{HasRoom, accepted, locals}
use Rattle.page_room.proofs.Pages.{contents_len, pages_more}
use Rattle.page_room.proofs.Sizes.{page_room}

-- the local bytes of a cell with this verdict
abbrev local_of : Option Verdict → ℕ
local_of None = 0
local_of (Some (Accepts v)) = v.local_end - v.local_start
local_of (Some (Faulty fault)) = 0
local_of (Some Overlaps) = 0

-- those of the row's cell
abbrev pub local_bytes : File → Row → ℕ
local_bytes f row = local_of (slice_get (verdicts_on f row.page) row.cell)

-- ---- the rows of a page

-- these rows are no more than so many cells, and have no more local bytes than these
record FitIn (f : File) (cells bytes : ℕ) (rows : List Row) : Type 0 where
  few : length rows ≤ cells
  small : sum_by (local_bytes f) rows ≤ bytes

fit_none : (f : File) (n m : ℕ) → FitIn f n m []
fit_none f n m = record { few = omega arith; small = omega arith }

fit_append : (f : File) (n m i j : ℕ) (xs ys : List Row) → FitIn f n m xs → FitIn f i j ys → FitIn f (n + i) (m + j) (xs ++ ys)
fit_append f n m i j xs ys first next = record {
  few = omega (arith, first.few, next.few, length-append xs ys);
  small = omega (arith, first.small, next.small, sum_by-append (local_bytes f) xs ys);
}

entry_fits : (f : File) (p i : ℕ) (v : CellView) (unused : List ℕ) → slice_get (verdicts_on f p) i ≡ Some (Accepts v)
    → FitIn f 1 (v.local_end - v.local_start) (rows_of (entry_at f (page_at f p) p i v unused ∷ []))
unfolding entry_at
entry_fits f p i v unused got = by_end (end_from f (missing v) v.overflow unused)
  where
    by_read : (r : Result (List Value) RecordFault)
        → FitIn f 1 (v.local_end - v.local_start) (rows_of (read_as p i v.rowid (turn_from f (missing v) v.overflow unused) r ∷ []))
    by_read (Err fault) = fit_none f 1 (v.local_end - v.local_start)
    by_read (Ok vs) = record {
      few = omega arith;
      small = omega (
        arith,
        ap local_of got,
        sum_by-cons (local_bytes f) (record { page = p; cell = i; rowid = v.rowid; chain = turn_from f (missing v) v.overflow unused; fields = vs }) [],
      );
    }

    by_end : (end : ChainEnd) → FitIn f 1 (v.local_end - v.local_start) (rows_of (ended_as p i v.rowid (turn_from f (missing v) v.overflow unused)
        (slice_range (page_at f p) v.local_start v.local_end ++ bytes_from f (missing v) v.overflow unused) end ∷ []))
    by_end Whole = by_read (record_of (slice_range (page_at f p) v.local_start v.local_end ++ bytes_from f (missing v) v.overflow unused))
    by_end (Broken q why) = fit_none f 1 (v.local_end - v.local_start)

one_fits : (f : File) (p i : ℕ) (payload : Bool) (v : Verdict) (unused : List ℕ) → slice_get (verdicts_on f p) i ≡ Some v
    → FitIn f (accepted (v ∷ [])) (locals (v ∷ [])) (rows_of (outcome_at f (page_at f p) p payload i (screened_as v) unused))
one_fits f p i true (Accepts w) unused got =
    let fits = entry_fits f p i w unused got in
    record { few = fits.few; small = omega (arith, fits.small) }
one_fits f p i false (Accepts w) unused got = fit_none f _ _
one_fits f p i payload (Faulty fault) unused got = fit_none f _ _
one_fits f p i payload Overlaps unused got = fit_none f _ _

first_and_rest : (v : Verdict) (vs : List Verdict) → (accepted (v ∷ vs) ≡ accepted (v ∷ []) + accepted vs) × (locals (v ∷ vs) ≡ locals (v ∷ []) + locals vs)
first_and_rest (Accepts w) vs = (omega arith, omega arith)
first_and_rest (Faulty fault) vs = (omega arith, omega arith)
first_and_rest Overlaps vs = (omega arith, omega arith)

from_fits : (f : File) (p i : ℕ) (payload : Bool) (vs : List Verdict) (unused : List ℕ)
    → ((j : ℕ) → slice_get vs j ≡ slice_get (verdicts_on f p) (i + j))
    → FitIn f (accepted vs) (locals vs) (rows_of (outcomes_from f (page_at f p) p payload i vs unused))
from_fits f p i payload [] unused same = fit_none f 0 0
from_fits f p i payload (v ∷ vs) unused same =
    let first : List Outcome = outcome_at f (page_at f p) p payload i (screened_as v) unused in
    let later : List ℕ = minus unused (chains_of first) in
    let rest : List Outcome = outcomes_from f (page_at f p) p payload (i + 1) vs later in
    let none : i + 0 ≡ i = omega arith in
    let got : slice_get (verdicts_on f p) i ≡ Some v = ap (slice_get (verdicts_on f p)) (sym none) ∙ sym (same 0) in
    let both : FitIn f (accepted (v ∷ []) + accepted vs) (locals (v ∷ []) + locals vs) (rows_of first ++ rows_of rest) =
    fit_append f (accepted (v ∷ [])) (locals (v ∷ [])) (accepted vs) (locals vs) (rows_of first) (rows_of rest) (one_fits f p i payload v unused got)
    (from_fits f p (i + 1) payload vs later (λ j. let on : i + suc j ≡ i + 1 + j = omega arith in
    same (suc j) ∙ ap (slice_get (verdicts_on f p)) on)) in
    subst (FitIn f (accepted (v ∷ vs)) (locals (v ∷ vs))) (sym (rows_append first rest))
    (record { few = omega (arith, both.few, (first_and_rest v vs).0); small = omega (arith, both.small, (first_and_rest v vs).1) })

-- a page has four usable bytes for each of its rows, and one for each of their local bytes
record PageFits (f : File) (rows : List Row) : Type 0 where
  cells : 4 * length rows ≤ f.usable
  bytes : sum_by (local_bytes f) rows ≤ f.usable

shape_fits : (f : File) (p : ℕ) (unused : List ℕ) (s : Option PageShape) → shape_on f p ≡ s
    → PageFits f (rows_of (outcomes_with f p s unused))
unfolding outcomes_in
shape_fits f p unused None e = record { cells = omega arith; bytes = omega arith }
shape_fits f p unused (Some shape) e =
    let fits : FitIn f (accepted (verdicts (page_at f p) f.usable f.pages shape)) (locals (verdicts (page_at f p) f.usable f.pages shape))
    (rows_of (outcomes_from f (page_at f p) p (has_payload shape.kind shape.leaf) 0 (verdicts (page_at f p) f.usable f.pages shape) unused)) =
    from_fits f p 0 (has_payload shape.kind shape.leaf) (verdicts (page_at f p) f.usable f.pages shape) unused
    (λ j. let none : j ≡ 0 + j = omega arith in
    ap (λ (vs : List Verdict). slice_get vs j) (sym (ap (verdicts_in f p) e)) ∙ ap (slice_get (verdicts_on f p)) none) in
    let room : HasRoom shape.kind f.usable (verdicts (page_at f p) f.usable f.pages shape) = page_room (page_at f p) p f.usable f.pages shape e in
    record { cells = omega (arith, fits.few, room.cells); bytes = omega (arith, fits.small, room.bytes) }

page_fits : (f : File) (p : ℕ) (unused : List ℕ) → PageFits f (rows_of (outcomes_on f p unused))
page_fits f p unused = shape_fits f p unused (shape_on f p) refl

-- ---- the rows of pages

-- so many pages have room for these rows and their local bytes
pub record PagesFit (f : File) (pages : ℕ) (rows : List Row) : Type 0 where
  pub cells : 4 * length rows ≤ pages * f.usable
  pub bytes : sum_by (local_bytes f) rows ≤ pages * f.usable

pub pages_append : (f : File) (n m : ℕ) (xs ys : List Row) → PagesFit f n xs → PagesFit f m ys → PagesFit f (n + m) (xs ++ ys)
pages_append f n m xs ys first next = record {
  cells = omega (arith, first.cells, next.cells, length-append xs ys, pages_more n m f.usable);
  bytes = omega (arith, first.bytes, next.bytes, sum_by-append (local_bytes f) xs ys, pages_more n m f.usable);
}

one_page : (f : File) (rows : List Row) → PageFits f rows → PagesFit f 1 rows
one_page f rows fits = record { cells = omega (arith, fits.cells); bytes = omega (arith, fits.bytes) }

pub turns_fit : (f : File) (ps unused : List ℕ) → PagesFit f (length ps) (cells_in (turns_on f ps unused))
turns_fit f [] unused = record { cells = omega arith; bytes = omega arith }
turns_fit f (p ∷ ps) unused =
    let here : List Row = rows_of (outcomes_on f p unused) in
    let rest : List Row = cells_in (turns_on f ps (left_by f p unused)) in
    subst (λ (n : ℕ). PagesFit f n (here ++ rest)) (omega arith)
    (pages_append f 1 (length ps) here rest (one_page f here (page_fits f p unused)) (turns_fit f ps (left_by f p unused)))

-- the same of the turns of trees, each over the pages that those before left
pub trees_fit : (f : File) (ts : List Tree) (unused : List ℕ) → PagesFit f (length (pages_in ts)) (table_cells (turns_in f ts unused))
trees_fit f [] unused = record { cells = omega arith; bytes = omega arith }
trees_fit f (t ∷ ts) unused =
    let these : List (ℕ × List Outcome) = turns_on f t.pages unused in
    let left : List ℕ = minus unused (chains_in these) in
    subst (λ (n : ℕ). PagesFit f n (cells_in these ++ table_cells (turns_in f ts left))) (sym (length-append t.pages (pages_in ts)))
    (pages_append f (length t.pages) (length (pages_in ts)) (cells_in these) (table_cells (turns_in f ts left))
    (turns_fit f t.pages unused) (trees_fit f ts left))

-- ---- payloads

rest_len : (f : File) (need : ℕ) (overflow : Option ℕ) (chain rest : List ℕ) → IsRest f need overflow chain rest → length rest ≤ length chain * f.usable
rest_len f need None chain rest is = omega (arith, ap length is.1)
rest_len f need (Some q) chain rest is = omega (arith, ap length is.bytes_are, length-take need (contents f chain), contents_len f chain)

payload_len : (f : File) (row : Row) (e : Evidence f row) → length (payload_of f row e) ≤ local_bytes f row + length row.chain * f.usable
payload_len f row e =
    omega (
      arith,
      length-append (slice_range (page_at f row.page) e.view.local_start e.view.local_end) e.rest,
      length-take (e.view.local_end - e.view.local_start) (drop e.view.local_start (page_at f row.page)),
      rest_len f (missing e.view) e.view.overflow row.chain e.rest e.chain,
      ap local_of e.accepted,
    )

pub payloads_len : (f : File) (rows : List Row) (shown : AllByRecursion (Evidence f) rows)
    → payload_bytes f rows shown ≤ sum_by (local_bytes f) rows + length (row_chains rows) * f.usable
payloads_len f [] shown = omega arith
payloads_len f (row ∷ rows) shown =
    let more : length (row.chain ++ row_chains rows) * f.usable ≡ length row.chain * f.usable + length (row_chains rows) * f.usable =
    ap (λ (n : ℕ). n * f.usable) (length-append row.chain (row_chains rows)) ∙ pages_more (length row.chain) (length (row_chains rows)) f.usable in
    omega (arith, payload_len f row shown.0, payloads_len f rows shown.1, sum_by-cons (local_bytes f) row rows, more)
