-- Each readable cell of a page has its evidence.
use Rattle.std.proofs.Common.{◌≡◌, ◌≤◌, ℕ, suc, ◌+◌, ◌==◌, Bool, true, false, Option, Some, None, List, [], ◌∷◌, ◌++◌, refl, sym, ◌∙◌, ap, subst, arith}
use Rattle.std.specs.Prelude.{nat_le, if◌then◌else◌, slice_get, IfSome, OnOk, Result, Ok, Err}
use Rattle.std.proofs.lemmas.Bool.{and_from, le-leb}
use Rattle.std.specs.List.{AllByRecursion, flat_map, slice_range}
use Rattle.page_access.specs.Pages.{File, page_at}
use Rattle.page_lists.specs.Lists.{count, minus, without}
use Rattle.page_access.specs.Files.{file_of}
use Rattle.page_access.specs.declared.geometry.Geometry.{Geometry}
use Rattle.page_lists.specs.Table.{Table, IsPartition, is_page, unused}
use Rattle.page_lists.proofs.Uses.{count-list_at}
use Rattle.record_core.specs.declared.faults.RecordFault.{RecordFault}
use Rattle.record_core.specs.declared.values.Value.{Value}
use Rattle.record_core.specs.Record.{record_of}
use Rattle.record_core.proofs.Found.{record_found}
use Rattle.cell_reader.specs.declared.shapes.PageShape.{PageShape}
use Rattle.cell_reader.specs.declared.cells.CellView.{CellView}
use Rattle.cell_reader.specs.Inside.{has_payload}
use Rattle.cell_reader.specs.Screen.{Verdict, Accepts, Faulty, Overlaps, verdicts}
use Rattle.overflow_chain.specs.declared.ChainEnd.{ChainEnd}
use Rattle.overflow_chain.specs.declared.ChainEnd.TheVariants.{Whole, Broken}
use Rattle.overflow_chain.proofs.Longest.{whole_turn_is_chain}
use Rattle.page_walk.specs.Bounds.{ArePages}
use Rattle.page_walk.specs.Cells.{Row, Outcome, Read, Unread, missing, turn_from, bytes_from, end_from, read_as, ended_as, entry_at, outcome_at, outcomes_from, outcomes_in, outcomes_on, outcomes_with, chains_of}
use Rattle.page_walk.specs.Evidence.{Evidence, IsRest, AreOnce, ReadableHaveEvidence}
use Rattle.page_walk.specs.Page.{screened_as, shape_on, verdicts_on, verdicts_in}
use Rattle.page_walk.specs.Rows.{rows_of}
use Rattle.page_walk.specs.Turns.{left_by, turns_on}
use Rattle.page_walk.proofs.Going.{all_append}
use Rattle.page_walk.proofs.Small.{record_short}

one_fewer : (q p x : ℕ) (xs : List ℕ) (b : Bool) → count q (without p xs) ≤ count q xs
    → count q (if b then xs else x ∷ without p xs) ≤ count q (x ∷ xs)
one_fewer q p x xs true h = omega arith
one_fewer q p x xs false h = omega (arith, h)

fewer_without : (q p : ℕ) (xs : List ℕ) → count q (without p xs) ≤ count q xs
fewer_without q p [] = omega arith
fewer_without q p (x ∷ xs) = one_fewer q p x xs (x == p) (fewer_without q p xs)

pub fewer_minus : (q : ℕ) (xs ps : List ℕ) → count q (minus xs ps) ≤ count q xs
fewer_minus q xs [] = omega arith
fewer_minus q xs (p ∷ ps) = omega (arith, fewer_minus q (without p xs) ps, fewer_without q p xs)

pub rows_append : (xs ys : List Outcome) → rows_of (xs ++ ys) ≡ rows_of xs ++ rows_of ys
rows_append [] ys = refl
rows_append (Read row ∷ xs) ys = ap (λ (rs : List Row). row ∷ rs) (rows_append xs ys)
rows_append (Unread u ∷ xs) ys = rows_append xs ys

-- a whole turn gives the rest of the payload
rest_is : (f : File) (need : ℕ) (overflow : Option ℕ) (unused : List ℕ) → AreOnce f.pages unused
    → end_from f need overflow unused ≡ Whole
    → IsRest f need overflow (turn_from f need overflow unused) (bytes_from f need overflow unused)
rest_is f need None unused once e = (refl, refl)
rest_is f need (Some q) unused once e = (whole_turn_is_chain f q need unused once).is_chain e

-- the cell of a page that is reached
record Reached (f : File) (p : ℕ) (shape : PageShape) (i : ℕ) (v : CellView) : Type 0 where
  of_file : is_page f.pages p ≡ true
  has_shape : shape_on f p ≡ Some shape
  has_record : has_payload shape.kind shape.leaf ≡ true
  accepted : slice_get (verdicts_on f p) i ≡ Some (Accepts v)

entry_evidence : (f : File) (p : ℕ) (shape : PageShape) (i : ℕ) (v : CellView) (unused : List ℕ) → AreOnce f.pages unused
    → Reached f p shape i v → AllByRecursion (Evidence f) (rows_of (entry_at f (page_at f p) p i v unused ∷ []))
unfolding entry_at
entry_evidence f p shape i v unused once at =
    by_end (end_from f (missing v) v.overflow unused) refl
  where
    by_read : (r : Result (List Value) RecordFault) → record_of (slice_range (page_at f p) v.local_start v.local_end ++ bytes_from f (missing v) v.overflow unused) ≡ r
        → end_from f (missing v) v.overflow unused ≡ Whole
        → AllByRecursion (Evidence f) (rows_of (read_as p i v.rowid (turn_from f (missing v) v.overflow unused) r ∷ []))
    by_read (Err fault) e w = tt
    by_read (Ok vs) e w = (
      record {
        shape = shape;
        view = v;
        rest = bytes_from f (missing v) v.overflow unused;
        of_file = at.of_file;
        has_shape = at.has_shape;
        has_record = at.has_record;
        accepted = at.accepted;
        chain = rest_is f (missing v) v.overflow unused once w;
        values = record_found _ vs e;
        few = (record_short _ vs e).few;
        rowid = refl;
      },
      tt,
    )

    by_end : (end : ChainEnd) → end_from f (missing v) v.overflow unused ≡ end
        → AllByRecursion (Evidence f) (rows_of (ended_as p i v.rowid (turn_from f (missing v) v.overflow unused)
        (slice_range (page_at f p) v.local_start v.local_end ++ bytes_from f (missing v) v.overflow unused) end ∷ []))
    by_end Whole w = by_read (record_of (slice_range (page_at f p) v.local_start v.local_end ++ bytes_from f (missing v) v.overflow unused)) refl w
    by_end (Broken q why) w = tt

one_evidence : (f : File) (p : ℕ) (shape : PageShape) (payload : Bool) (i : ℕ) (v : Verdict) (unused : List ℕ)
    → is_page f.pages p ≡ true → AreOnce f.pages unused → shape_on f p ≡ Some shape → has_payload shape.kind shape.leaf ≡ payload
    → slice_get (verdicts_on f p) i ≡ Some v
    → AllByRecursion (Evidence f) (rows_of (outcome_at f (page_at f p) p payload i (screened_as v) unused))
one_evidence f p shape true i (Accepts w) unused page once has pay got =
    entry_evidence f p shape i w unused once (record { of_file = page; has_shape = has; has_record = pay; accepted = got })
one_evidence f p shape false i (Accepts w) unused page once has pay got = tt
one_evidence f p shape payload i (Faulty fault) unused page once has pay got = tt
one_evidence f p shape payload i Overlaps unused page once has pay got = tt

from_evidence : (f : File) (p : ℕ) (shape : PageShape) (payload : Bool) (i : ℕ) (vs : List Verdict) (unused : List ℕ)
    → is_page f.pages p ≡ true → AreOnce f.pages unused → shape_on f p ≡ Some shape → has_payload shape.kind shape.leaf ≡ payload
    → ((j : ℕ) → slice_get vs j ≡ slice_get (verdicts_on f p) (i + j))
    → AllByRecursion (Evidence f) (rows_of (outcomes_from f (page_at f p) p payload i vs unused))
from_evidence f p shape payload i [] unused page once has pay same = tt
from_evidence f p shape payload i (v ∷ vs) unused page once has pay same =
    let later : List ℕ = minus unused (chains_of (outcome_at f (page_at f p) p payload i (screened_as v) unused)) in
    let none : i + 0 ≡ i = omega arith in
    let got : slice_get (verdicts_on f p) i ≡ Some v = ap (slice_get (verdicts_on f p)) (sym none) ∙ sym (same 0) in
    subst (AllByRecursion (Evidence f))
    (sym (rows_append (outcome_at f (page_at f p) p payload i (screened_as v) unused)
    (outcomes_from f (page_at f p) p payload (i + 1) vs later)))
    (all_append (Evidence f) _ _ (one_evidence f p shape payload i v unused page once has pay got)
    (from_evidence f p shape payload (i + 1) vs later page
    (λ q. omega (arith, once q, fewer_minus q unused (chains_of (outcome_at f (page_at f p) p payload i (screened_as v) unused))))
    has pay (λ j. let on : i + suc j ≡ i + 1 + j = omega arith in
    same (suc j) ∙ ap (slice_get (verdicts_on f p)) on)))

shape_evidence : (f : File) (p : ℕ) (unused : List ℕ) (s : Option PageShape) → is_page f.pages p ≡ true → AreOnce f.pages unused → shape_on f p ≡ s
    → AllByRecursion (Evidence f) (rows_of (outcomes_with f p s unused))
unfolding outcomes_in
shape_evidence f p unused None page once e = tt
shape_evidence f p unused (Some shape) page once e =
    from_evidence f p shape (has_payload shape.kind shape.leaf) 0 (verdicts (page_at f p) f.usable f.pages shape) unused page once e refl
    (λ j. let none : j ≡ 0 + j = omega arith in
    ap (λ (vs : List Verdict). slice_get vs j) (sym (ap (verdicts_in f p) e)) ∙ ap (slice_get (verdicts_on f p)) none)

pub readable_have_evidence : ReadableHaveEvidence
readable_have_evidence f p unused page once = shape_evidence f p unused (shape_on f p) page once refl

-- the unused pages of a table are pages of the file, each once
pub unused_once : (t : Table) (pages : ℕ) → IsPartition t → t.pages ≡ pages → AreOnce pages (unused t)
unused_once t pages each same q =
    subst (λ (n : ℕ). count q (unused t) ≤ (if is_page n q then 1 else 0)) same
    (subst (λ (n : ℕ). count q (unused t) ≤ n) (each q) (count-list_at q 0 t.lists))

-- what holds whatever was answered, where the source tells its bytes
pub evidence_told : {A E : Type 0} (r : Result A E) (o : Option (List ℕ)) (geo : Geometry) (p : ℕ) (t : Table) → 1 ≤ p → p ≤ geo.pages → IsPartition t
    → t.pages ≡ geo.pages
    → OnOk r (IfSome o (λ all. AllByRecursion (Evidence (file_of all geo)) (rows_of (outcomes_on (file_of all geo) p (unused t)))))
evidence_told (Err e) o geo p t low high each same = tt
evidence_told (Ok a) None geo p t low high each same = tt
evidence_told (Ok a) (Some all) geo p t low high each same =
    readable_have_evidence (file_of all geo) p (unused t) (and_from (nat_le 1 p) (nat_le p geo.pages) (le-leb 1 p low) (le-leb p geo.pages high)) (unused_once t geo.pages each same)

-- each readable cell of pages has its evidence, whatever the pages before left
pub pages_have_evidence : (f : File) (ps unused : List ℕ) → ArePages f.pages ps → AreOnce f.pages unused
    → AllByRecursion (Evidence f) (flat_map (λ (t : ℕ × List Outcome). rows_of t.1) (turns_on f ps unused))
pages_have_evidence f [] unused are once = tt
pages_have_evidence f (p ∷ ps) unused are once =
    all_append (Evidence f) (rows_of (outcomes_on f p unused)) _
    (readable_have_evidence f p unused (and_from (nat_le 1 p) (nat_le p f.pages) (le-leb 1 p are.0.0) (le-leb p f.pages are.0.1)) once)
    (pages_have_evidence f ps (left_by f p unused) are.1
    (λ q. omega (arith, once q, fewer_minus q unused (chains_of (outcomes_on f p unused)))))
