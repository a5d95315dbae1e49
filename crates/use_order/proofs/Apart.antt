-- The rows of pages, at their turns, share no cell and no page of their chains.
use Rattle.std.proofs.Common.{◌≡◌, ◌<◌, ◌≤◌, inl, inr, ℕ, ◌+◌, ◌==◌, ◌&&◌, Bool, true, false, Option, Some, None, List, [], ◌∷◌, ◌++◌, map, refl, ap, arith}
use Rattle.std.specs.Prelude.{ℤ, if◌then◌else◌, Result, Ok, Err}
use Rattle.std.specs.List.{AllByRecursion}
use Rattle.std.proofs.lemmas.Bool.{cases_Bool}
use Rattle.std.proofs.lemmas.Bool.Decides.{nat_tests}
use Rattle.std.proofs.lemmas.Grind.{flat_map-append}
use Rattle.page_access.specs.Pages.{File, page_at}
use Rattle.page_lists.specs.Lists.{count, minus}
use Rattle.page_lists.proofs.Counts.{at_most_one, count-append}
use Rattle.record_core.specs.declared.faults.RecordFault.{RecordFault}
use Rattle.record_core.specs.declared.values.Value.{Value}
use Rattle.record_core.specs.Record.{record_of}
use Rattle.cell_reader.specs.declared.cells.CellView.{CellView}
use Rattle.cell_reader.specs.declared.shapes.PageShape.{PageShape}
use Rattle.cell_reader.specs.Inside.{has_payload}
use Rattle.cell_reader.specs.Screen.{Verdict, verdicts}
use Rattle.overflow_chain.specs.declared.ChainEnd.{ChainEnd}
use Rattle.overflow_chain.specs.declared.ChainEnd.TheVariants.{Whole, Broken}
use Rattle.page_walk.specs.declared.causes.CellCause.{CellCause}
use Rattle.page_walk.specs.Cells.{Outcome, Read, Row, Unread, chains_of, end_from, ended_as, entry_at, missing, outcome_at, outcomes_from, outcomes_in, outcomes_on, outcomes_with, read_as, turn_from}
use Rattle.page_walk.specs.Laws.{Rises, number_of}
use Rattle.page_walk.specs.Page.{screened_as, shape_on}
use Rattle.page_walk.specs.Rows.{rows_of}
use Rattle.page_walk.specs.Turns.{chains_on, left_by, turns_on}
use Rattle.page_walk.proofs.Chains.{cells_rise}
use Rattle.page_walk.proofs.Going.{all_append}
use Rattle.raw_schema.specs.Schema.{cells_in}
use Rattle.use_order.specs.Apart.{once_at, row_chains, row_pages, times_at}

-- ---- the cells of a page stand on it

abbrev OnPage : ℕ → Outcome → Type 0
OnPage p (Read row) = row.page ≡ p
OnPage p (Unread u) = Unit {0}

read_on : (p i : ℕ) (rowid : Option ℤ) (chain : List ℕ) (fields : Result (List Value) RecordFault) → OnPage p (read_as p i rowid chain fields)
read_on p i rowid chain (Ok fields) = refl
read_on p i rowid chain (Err fault) = tt

ended_on : (p i : ℕ) (rowid : Option ℤ) (chain payload : List ℕ) (end : ChainEnd) → OnPage p (ended_as p i rowid chain payload end)
ended_on p i rowid chain payload Whole = read_on p i rowid chain (record_of payload)
ended_on p i rowid chain payload (Broken at why) = tt

entry_on : (f : File) (page : List ℕ) (p i : ℕ) (v : CellView) (unused : List ℕ) → OnPage p (entry_at f page p i v unused)
unfolding entry_at
entry_on f page p i v u = ended_on p i v.rowid (turn_from f (missing v) v.overflow u) _ (end_from f (missing v) v.overflow u)

at_on : (f : File) (page : List ℕ) (p : ℕ) (payload : Bool) (i : ℕ) (r : Result CellView CellCause) (unused : List ℕ)
    → AllByRecursion (OnPage p) (outcome_at f page p payload i r unused)
at_on f page p payload i (Err cause) u = (tt, tt)
at_on f page p true i (Ok v) u = (entry_on f page p i v u, tt)
at_on f page p false i (Ok v) u = tt

from_on : (f : File) (page : List ℕ) (p : ℕ) (payload : Bool) (i : ℕ) (vs : List Verdict) (unused : List ℕ)
    → AllByRecursion (OnPage p) (outcomes_from f page p payload i vs unused)
from_on f page p payload i [] u = tt
from_on f page p payload i (v ∷ vs) u =
    all_append (OnPage p) (outcome_at f page p payload i (screened_as v) u) _ (at_on f page p payload i (screened_as v) u)
    (from_on f page p payload (i + 1) vs (minus u (chains_of (outcome_at f page p payload i (screened_as v) u))))

with_on : (f : File) (p : ℕ) (shape : Option PageShape) (unused : List ℕ) → AllByRecursion (OnPage p) (outcomes_with f p shape unused)
unfolding outcomes_in
with_on f p None u = tt
with_on f p (Some shape) u = from_on f (page_at f p) p (has_payload shape.kind shape.leaf) 0 (verdicts (page_at f p) f.usable f.pages shape) u

outcomes_stand : (f : File) (p : ℕ) (unused : List ℕ) → AllByRecursion (OnPage p) (outcomes_on f p unused)
outcomes_stand f p u = with_on f p (shape_on f p) u

-- ---- each cell stands once

-- a cell that no row is
not_here : (p q i : ℕ) (row : Row) → row.page ≡ p → (p == q) ≡ false → once_at q i row ≡ 0
not_here p q i row on other = rw (on, other) refl

elsewhere : (p q i : ℕ) (os : List Outcome) → AllByRecursion (OnPage p) os → (p == q) ≡ false → times_at q i (rows_of os) ≡ 0
elsewhere p q i [] on other = refl
elsewhere p q i (Read row ∷ os) on other = omega (arith, not_here p q i row on.0 other, elsewhere p q i os on.1 other)
elsewhere p q i (Unread u ∷ os) on other = elsewhere p q i os on.1 other

not_yet : (q i : ℕ) (row : Row) → i < row.cell → once_at q i row ≡ 0
not_yet q i row lt = grind (arith, nat_tests, lt)

before_all : (q i least : ℕ) (os : List Outcome) → Rises least (map number_of os) → i < least → times_at q i (rows_of os) ≡ 0
before_all q i least [] rise lt = refl
before_all q i least (Read row ∷ os) rise lt =
    omega (arith, not_yet q i row (omega (arith, rise.0, lt)), before_all q i (row.cell + 1) os rise.1 (omega (arith, rise.0, lt)))
before_all q i least (Unread u ∷ os) rise lt = before_all q i (u.cell + 1) os rise.1 (omega (arith, rise.0, lt))

only_here : (q i : ℕ) (row : Row) → (row.cell == i) ≡ false → once_at q i row ≡ 0
only_here q i row other = grind (arith, nat_tests, other)

at_most_once : (q i least : ℕ) (os : List Outcome) → Rises least (map number_of os) → times_at q i (rows_of os) ≤ 1
at_most_once q i least [] rise = omega arith
at_most_once q i least (Read row ∷ os) rise =
    elim (cases_Bool (row.cell == i)) [
      | inl is ↦ omega (
        arith,
        at_most_one ((row.page == q) && (row.cell == i)),
        before_all q i (row.cell + 1) os rise.1 (grind (arith, nat_tests, is)),
      )
      | inr isnt ↦ omega (arith, only_here q i row isnt, at_most_once q i (row.cell + 1) os rise.1)
    ]
at_most_once q i least (Unread u ∷ os) rise = at_most_once q i (u.cell + 1) os rise.1

page_times : (f : File) (p q i : ℕ) (unused : List ℕ) → times_at q i (rows_of (outcomes_on f p unused)) ≤ (if p == q then 1 else 0)
page_times f p q i u =
    elim (cases_Bool (p == q)) [
      | inl is ↦ rw is (at_most_once q i 0 (outcomes_on f p u) (cells_rise f p u))
      | inr isnt ↦ omega (arith, elsewhere p q i (outcomes_on f p u) (outcomes_stand f p u) isnt)
    ]

times-append : (q i : ℕ) (xs ys : List Row) → times_at q i (xs ++ ys) ≡ times_at q i xs + times_at q i ys
times-append q i [] ys = omega arith
times-append q i (x ∷ xs) ys = omega (arith, times-append q i xs ys)

pub turns_times : (f : File) (ps : List ℕ) (q i : ℕ) (unused : List ℕ) → times_at q i (cells_in (turns_on f ps unused)) ≤ count q ps
turns_times f [] q i u = omega arith
turns_times f (p ∷ ps) q i u =
    omega (
      arith,
      times-append q i (rows_of (outcomes_on f p u)) (cells_in (turns_on f ps (left_by f p u))),
      page_times f p q i u,
      turns_times f ps q i (left_by f p u),
    )

-- ---- the chains of rows are among those of all cells

row_chains_few : (q : ℕ) (os : List Outcome) → count q (row_chains (rows_of os)) ≤ count q (chains_of os)
row_chains_few q [] = omega arith
row_chains_few q (Read row ∷ os) =
    omega (arith, count-append q row.chain (row_chains (rows_of os)), count-append q row.chain (chains_of os), row_chains_few q os)
row_chains_few q (Unread u ∷ os) = omega (arith, count-append q u.chain (chains_of os), row_chains_few q os)

row_chains-append : (xs ys : List Row) → row_chains (xs ++ ys) ≡ row_chains xs ++ row_chains ys
row_chains-append xs ys = flat_map-append (λ (r : Row). r.chain) xs ys

pub turns_chains : (f : File) (ps : List ℕ) (q : ℕ) (unused : List ℕ) → count q (row_chains (cells_in (turns_on f ps unused))) ≤ count q (chains_on f ps unused)
turns_chains f [] q u = omega arith
turns_chains f (p ∷ ps) q u =
    let here : List Row = rows_of (outcomes_on f p u) in
    let rest : List Row = cells_in (turns_on f ps (left_by f p u)) in
    omega (
      arith,
      ap (count q) (row_chains-append here rest),
      count-append q (row_chains here) (row_chains rest),
      count-append q (chains_of (outcomes_on f p u)) (chains_on f ps (left_by f p u)),
      row_chains_few q (outcomes_on f p u),
      turns_chains f ps q (left_by f p u),
    )

-- ---- rows stand on the pages that have turns

other_page : (p q : ℕ) (row : Row) → row.page ≡ p → (p == q) ≡ false → ◌≡◌ {A = ℕ} (if row.page == q then 1 else 0) 0
other_page p q row on other = rw (on, other) refl

pages_elsewhere : (p q : ℕ) (os : List Outcome) → AllByRecursion (OnPage p) os → (p == q) ≡ false → count q (row_pages (rows_of os)) ≡ 0
pages_elsewhere p q [] on other = refl
pages_elsewhere p q (Read row ∷ os) on other = omega (arith, other_page p q row on.0 other, pages_elsewhere p q os on.1 other)
pages_elsewhere p q (Unread u ∷ os) on other = pages_elsewhere p q os on.1 other

row_pages-append : (xs ys : List Row) → row_pages (xs ++ ys) ≡ row_pages xs ++ row_pages ys
row_pages-append [] ys = refl
row_pages-append (x ∷ xs) ys = ap (λ (ps : List ℕ). x.page ∷ ps) (row_pages-append xs ys)

not_counted : (p q n : ℕ) → (if p == q then 1 else 0) + n ≡ 0 → ((p == q) ≡ false) × (n ≡ 0)
not_counted p q n none =
    elim (cases_Bool (p == q)) [
      | inl is ↦ absurd (omega (arith, none, ap {B = ℕ} (λ (b : Bool). if b then 1 else 0) is))
      | inr isnt ↦ (isnt, omega (arith, none))
    ]

pub turns_pages : (f : File) (ps : List ℕ) (q : ℕ) (unused : List ℕ) → count q ps ≡ 0 → count q (row_pages (cells_in (turns_on f ps unused))) ≡ 0
turns_pages f [] q u none = refl
turns_pages f (p ∷ ps) q u none =
    let here : List Row = rows_of (outcomes_on f p u) in
    let rest : List Row = cells_in (turns_on f ps (left_by f p u)) in
    let apart : ((p == q) ≡ false) × (count q ps ≡ 0) = not_counted p q (count q ps) none in
    omega (
      arith,
      ap (count q) (row_pages-append here rest),
      count-append q (row_pages here) (row_pages rest),
      pages_elsewhere p q (outcomes_on f p u) (outcomes_stand f p u) apart.0,
      turns_pages f ps q (left_by f p u) apart.1,
    )
