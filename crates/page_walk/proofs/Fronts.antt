-- What the cells of a page gave where they end early: a front of what all of them give.
use Rattle.std.proofs.Common.{◌≡◌, ◌<◌, ℕ, ◌+◌, ◌-◌, Bool, true, Option, Some, Result, Ok, List, [], ◌++◌, length, map, take, drop, refl, sym, ◌∙◌, ap, subst, append_assoc, append-nil}
use Rattle.std.specs.Prelude.{IfSome}
use Rattle.std.proofs.lemmas.Grind.{flat_map-append}
use Rattle.std.proofs.lemmas.List.{append_cancel_left, map-append, take-append-drop}
use Rattle.std.proofs.Math.Seq.{take-length}
use Rattle.std.proofs.lemmas.Option.{IfSome_then}
use Rattle.page_access.specs.declared.geometry.Geometry.{Geometry}
use Rattle.page_access.specs.Files.{file_of}
use Rattle.page_access.specs.Pages.{page_at}
use Rattle.page_access.proofs.Told.{always_told, both_told}
use Rattle.page_lists.specs.Lists.{minus}
use Rattle.page_lists.specs.Table.{MovesFront, Table, all_moved, unused}
use Rattle.page_lists.proofs.Uses.{all_moved-append}
use Rattle.cell_reader.specs.declared.shapes.PageShape.{PageShape}
use Rattle.cell_reader.specs.declared.cells.CellView.{CellView}
use Rattle.cell_reader.specs.Cell.{cell_of}
use Rattle.cell_reader.specs.Cover.{marked_from, marked_on, marks_with}
use Rattle.cell_reader.specs.Inside.{has_payload}
use Rattle.cell_reader.specs.Screen.{Verdict}
use Rattle.cell_reader.specs.Shape.{shape_of}
use Rattle.overflow_chain.specs.Turn.{TurnsFront, turn_of}
use Rattle.overflow_chain.specs.declared.TheConstants.{OVERFLOW_LIST}
use Rattle.overflow_chain.proofs.Turns.{front_is}
use Rattle.page_walk.specs.declared.causes.CellCause.{CellCause}
use Rattle.page_walk.specs.declared.outcomes.CellOutcome.{CellOutcome}
use Rattle.page_walk.specs.declared.outcomes.TakenCell.{TakenCell}
use Rattle.page_walk.specs.Cells.{Outcome, Row, chain_of, chains_of, entry_at, missing, outcome_at, outcome_of, outcomes_from, outcomes_in, outcomes_on, outcomes_with, row_of, turn_from}
use Rattle.page_walk.specs.Page.{screened_as, shape_on}
use Rattle.page_walk.specs.Rows.{AddsFront, GainsFront, rows_of, taken_in}
use Rattle.page_walk.proofs.Chains.{entry_chain}
use Rattle.page_walk.proofs.Going.{Going, to_come}
use Rattle.page_walk.proofs.Names.{marked_step}
use Rattle.page_walk.proofs.Sorting.{rows_seen}

-- nothing was added, and no page moved
pub adds_none : {X : Type 0} (o : Option (List ℕ)) (more : List ℕ → List X) (xs : List X) → IfSome o (λ all. AddsFront (more all) xs xs)
adds_none o more xs = always_told (λ all. AddsFront (more all) xs xs) o (λ all. (0, sym (append-nil xs)))

pub moves_none : (o : Option (List ℕ)) (ps : List ℕ → List ℕ) (l : ℕ) (t : Table) → IfSome o (λ all. MovesFront (ps all) l t t)
moves_none o ps l t = always_told (λ all. MovesFront (ps all) l t t) o (λ all. (0, refl))

-- the pages that an entry's chain took
pub rest_front : (o : Option (List ℕ)) (geo : Geometry) (v : CellView) (first need : ℕ) (old new : Table) (pages pages' to to' : List ℕ)
    → v.overflow ≡ Some first → need ≡ missing v
    → IfSome o (λ all. TurnsFront (file_of all geo) first need old new pages pages' to to')
    → IfSome o (λ all. MovesFront (turn_from (file_of all geo) (missing v) v.overflow (unused old)) OVERFLOW_LIST old new)
rest_front o geo v first need old new pages pages' to to' is same =
    λ known. IfSome_then o
    {P = λ all. TurnsFront (file_of all geo) first need old new pages pages' to to'}
    {Q = λ all. MovesFront (turn_from (file_of all geo) (missing v) v.overflow (unused old)) OVERFLOW_LIST old new}
    known
    (λ all t.
    subst (λ (q : Option ℕ). MovesFront (turn_from (file_of all geo) (missing v) q (unused old)) OVERFLOW_LIST old new) (sym is)
    (subst (λ (n : ℕ). MovesFront (turn_of (file_of all geo) first n (unused old)) OVERFLOW_LIST old new) same t.moved))

-- the same as those of the entry's cell
pub cell_front : (o : Option (List ℕ)) (geo : Geometry) (page : List ℕ) (p i l : ℕ) (payload : Bool) (cell : Result CellView CellCause)
    (v : CellView) (old new : Table) → cell ≡ Ok v → payload ≡ true
    → IfSome o (λ all. MovesFront (turn_from (file_of all geo) (missing v) v.overflow (unused old)) l old new)
    → IfSome o (λ all. MovesFront (chains_of (outcome_at (file_of all geo) page p payload i cell (unused old))) l old new)
cell_front o geo page p i l payload cell v old new is pay =
    λ known. IfSome_then o
    {P = λ all. MovesFront (turn_from (file_of all geo) (missing v) v.overflow (unused old)) l old new}
    {Q = λ all. MovesFront (chains_of (outcome_at (file_of all geo) page p payload i cell (unused old))) l old new}
    known
    (λ all m.
    let f = file_of all geo in
    subst (λ (c : Result CellView CellCause). MovesFront (chains_of (outcome_at f page p payload i c (unused old))) l old new) (sym is)
    (subst (λ (b : Bool). MovesFront (chains_of (outcome_at f page p b i (Ok v) (unused old))) l old new) (sym pay)
    (subst (λ (ps : List ℕ). MovesFront ps l old new)
    (sym (append-nil (chain_of (entry_at f page p i v (unused old))) ∙ entry_chain f page p i v (unused old))) m)))

-- all pages moved
pub front_all : (ps : List ℕ) (l : ℕ) (old new : Table) → new ≡ all_moved ps l old → MovesFront ps l old new
front_all ps l old new all = (length ps, all ∙ ap (λ (qs : List ℕ). all_moved qs l old) (sym (take-length ps)))

-- some pages moved, and then a front of the next ones
pub then_front : (now next later all : List ℕ) (l : ℕ) (old new new' : Table) → new ≡ all_moved now l old → MovesFront next l new new'
    → now ++ (next ++ later) ≡ all → MovesFront all l old new'
then_front now next later all l old new new' table (k, more) e =
    let front : List ℕ = now ++ take k next in
    let parts : front ++ (drop k next ++ later) ≡ all =
    append_assoc now (take k next) (drop k next ++ later)
    ∙ ap (λ (xs : List ℕ). now ++ xs) (sym (append_assoc (take k next) (drop k next) later)
    ∙ ap (λ (xs : List ℕ). xs ++ later) (take-append-drop k next))
    ∙ e in (
      length front,
      more
          ∙ ap (all_moved (take k next) l) table
          ∙ sym (all_moved-append now (take k next) l old)
          ∙ ap (λ (ps : List ℕ). all_moved ps l old) (front_is front (drop k next ++ later) all parts),
    )

module _ {S : Type 0} {told attached : S → Option (List ℕ)} {faults reads : S → ℕ} {geo : Geometry} {bytes : List ℕ}
    {shape : PageShape} {page : ℕ} {src0 src : S} {old new : Table} {before now : List CellOutcome} {i : ℕ} {marks : List Bool}
    (was : Going told attached faults reads geo bytes shape page src0 src old new before now i marks) where
  -- what the cells gave, and what those to come will give
  going_parts : IfSome (told src0) (λ all. map outcome_of was.more ++ to_come all geo bytes shape page i marks (unused new)
      ≡ outcomes_in (file_of all geo) bytes page shape (unused old))
  going_parts =
      IfSome_then (told src0)
      {P = λ all. map outcome_of now ++ to_come all geo bytes shape page i marks (unused new)
      ≡ map outcome_of before ++ outcomes_in (file_of all geo) bytes page shape (unused old)}
      {Q = λ all. map outcome_of was.more ++ to_come all geo bytes shape page i marks (unused new)
      ≡ outcomes_in (file_of all geo) bytes page shape (unused old)}
      was.rest
      (λ all r.
      let rest : List Outcome = to_come all geo bytes shape page i marks (unused new) in
      append_cancel_left (map outcome_of before) (map outcome_of was.more ++ rest) (outcomes_in (file_of all geo) bytes page shape (unused old))
      (sym (append_assoc (map outcome_of before) (map outcome_of was.more) rest)
      ∙ ap (λ (xs : List Outcome). xs ++ rest) (sym (map-append outcome_of before was.more) ∙ sym (ap (map outcome_of) was.all))
      ∙ r))

  -- a front of the page's outcomes is there
  pub going_front : (now' : List CellOutcome) → now' ≡ now
      → IfSome (told src0) (λ all. AddsFront (outcomes_in (file_of all geo) bytes page shape (unused old)) (map outcome_of before) (map outcome_of now'))
  going_front now' same =
      IfSome_then (told src0)
      {P = λ all. map outcome_of was.more ++ to_come all geo bytes shape page i marks (unused new)
      ≡ outcomes_in (file_of all geo) bytes page shape (unused old)}
      {Q = λ all. AddsFront (outcomes_in (file_of all geo) bytes page shape (unused old)) (map outcome_of before) (map outcome_of now')}
      going_parts
      (λ all e. (
        length (map outcome_of was.more),
        ap (map outcome_of) (same ∙ was.all)
            ∙ map-append outcome_of before was.more
            ∙ ap (λ (xs : List Outcome). map outcome_of before ++ xs) (front_is (map outcome_of was.more) (to_come all geo bytes shape page i marks (unused new))
            (outcomes_in (file_of all geo) bytes page shape (unused old)) e),
      ))

  -- and a front of the pages that they take has moved
  pub going_table : IfSome (told src0) (λ all. MovesFront (chains_of (outcomes_in (file_of all geo) bytes page shape (unused old))) OVERFLOW_LIST old new)
  going_table =
      IfSome_then (told src0)
      {P = λ all. map outcome_of was.more ++ to_come all geo bytes shape page i marks (unused new)
      ≡ outcomes_in (file_of all geo) bytes page shape (unused old)}
      {Q = λ all. MovesFront (chains_of (outcomes_in (file_of all geo) bytes page shape (unused old))) OVERFLOW_LIST old new}
      going_parts
      (λ all e.
      let rest : List Outcome = to_come all geo bytes shape page i marks (unused new) in (
        length (chains_of (map outcome_of was.more)),
        was.table
            ∙ ap (λ (ps : List ℕ). all_moved ps OVERFLOW_LIST old) (front_is (chains_of (map outcome_of was.more)) (chains_of rest)
            (chains_of (outcomes_in (file_of all geo) bytes page shape (unused old)))
            (sym (flat_map-append chain_of (map outcome_of was.more) rest) ∙ ap chains_of e)),
      ))

  -- the same where the next cell took a front of its own pages
  pub going_table_more : (new' : Table) (cell : Result CellView CellCause) → i < shape.cells
      → cell ≡ screened_as (marked_on (cell_of bytes geo.usable geo.pages shape i) marks)
      → IfSome (told src) (λ all. MovesFront
      (chains_of (outcome_at (file_of all geo) bytes page (has_payload shape.kind shape.leaf) i cell (unused new))) OVERFLOW_LIST new new')
      → IfSome (told src0) (λ all. MovesFront (chains_of (outcomes_in (file_of all geo) bytes page shape (unused old))) OVERFLOW_LIST old new')
  going_table_more new' cell lt named front =
      both_told (λ all. map outcome_of was.more ++ to_come all geo bytes shape page i marks (unused new)
      ≡ outcomes_in (file_of all geo) bytes page shape (unused old))
      (λ all. MovesFront (chains_of (outcome_at (file_of all geo) bytes page (has_payload shape.kind shape.leaf) i cell (unused new))) OVERFLOW_LIST new new')
      (λ all. MovesFront (chains_of (outcomes_in (file_of all geo) bytes page shape (unused old))) OVERFLOW_LIST old new')
      (told src0) (told src) was.kept.told
      (λ all e m.
      let f = file_of all geo in
      let payload : Bool = has_payload shape.kind shape.leaf in
      let verdict : Verdict = marked_on (cell_of bytes geo.usable geo.pages shape i) marks in
      let here : List Outcome = outcome_at f bytes page payload i (screened_as verdict) (unused new) in
      let vs : List Verdict = marked_from (cell_of bytes geo.usable geo.pages shape) (shape.cells - (i + 1)) (i + 1) (marks_with verdict marks) in
      let later : List Outcome = outcomes_from f bytes page payload (i + 1) vs (minus (unused new) (chains_of here)) in
      let step : to_come all geo bytes shape page i marks (unused new) ≡ here ++ later =
      ap (λ (xs : List Verdict). outcomes_from f bytes page payload i xs (unused new))
      (marked_step (cell_of bytes geo.usable geo.pages shape) shape.cells i marks lt) in
      then_front (chains_of (map outcome_of was.more)) (chains_of here) (chains_of later)
      (chains_of (outcomes_in f bytes page shape (unused old))) OVERFLOW_LIST old new new' was.table
      (subst (λ (c : Result CellView CellCause). MovesFront (chains_of (outcome_at f bytes page payload i c (unused new))) OVERFLOW_LIST new new') named m)
      (ap (λ (xs : List ℕ). chains_of (map outcome_of was.more) ++ xs) (sym (flat_map-append chain_of here later))
      ∙ sym (flat_map-append chain_of (map outcome_of was.more) (here ++ later))
      ∙ ap (λ (os : List Outcome). chains_of (map outcome_of was.more ++ os)) (sym step)
      ∙ ap chains_of e))
      going_parts front

-- what is said of the outcomes of a page's bytes is said of the page's outcomes
pub on_page : (P : List ℕ → List Outcome → Type 0) (o o' : Option (List ℕ)) (geo : Geometry) (p : ℕ) (bytes : List ℕ) (shape : PageShape)
    (unused : List ℕ) → o' ≡ o → IfSome o (λ all. bytes ≡ page_at (file_of all geo) p) → shape_of bytes p geo.usable ≡ Some shape
    → IfSome o' (λ all. P all (outcomes_in (file_of all geo) bytes p shape unused))
    → IfSome o (λ all. P all (outcomes_on (file_of all geo) p unused))
on_page P o o' geo p bytes shape unused told =
    λ is has h.
    both_told (λ all. bytes ≡ page_at (file_of all geo) p) (λ all. P all (outcomes_in (file_of all geo) bytes p shape unused))
    (λ all. P all (outcomes_on (file_of all geo) p unused)) o o' told
    (λ all e h.
    let f = file_of all geo in
    let seen : shape_on f p ≡ Some shape = ap (λ (xs : List ℕ). shape_of xs p f.usable) (sym e) ∙ has in
    subst (λ (s : Option PageShape). P all (outcomes_with f p s unused)) (sym seen)
    (subst (λ (xs : List ℕ). P all (outcomes_in f xs p shape unused)) e h)) is h

-- a front of the rows, where a front of the cells that are read was added
pub rows_front : (o : Option (List ℕ)) (outs : List ℕ → List Outcome) (none os : List CellOutcome) (old new : List TakenCell) → none ≡ []
    → IfSome o (λ all. map outcome_of os ≡ map outcome_of none ++ outs all) → GainsFront (taken_in os) old new
    → IfSome o (λ all. AddsFront (rows_of (outs all)) (map row_of old) (map row_of new))
rows_front o outs none os old new empty value gains =
    IfSome_then o
    {P = λ all. map outcome_of os ≡ map outcome_of none ++ outs all}
    {Q = λ all. AddsFront (rows_of (outs all)) (map row_of old) (map row_of new)}
    value
    (λ all e.
    let same : map outcome_of os ≡ outs all = e ∙ ap (λ (xs : List CellOutcome). map outcome_of xs ++ outs all) empty in
    let parts : map row_of gains.front ++ map row_of gains.rest ≡ rows_of (outs all) =
    sym (map-append row_of gains.front gains.rest) ∙ ap (map row_of) (sym gains.parts) ∙ rows_seen os ∙ ap rows_of same in (
      length (map row_of gains.front),
      ap (map row_of) gains.all
          ∙ map-append row_of old gains.front
          ∙ ap (λ (rs : List Row). map row_of old ++ rs) (front_is (map row_of gains.front) (map row_of gains.rest) (rows_of (outs all)) parts),
    ))
