-- The pages whose cells are sorted, and those to come.
use Rattle.std.proofs.Common.{◌≡◌, ◌∙◌, ◌≤◌, ℕ, Bool, true, false, Option, List, [], ◌∷◌, ◌++◌, length, map, refl, ap, subst, sym, arith}
use Rattle.std.specs.Prelude.{IfSome, if◌then◌else◌, is_none}
use Rattle.std.specs.List.{AllByRecursion, flat_map}
use Rattle.std.proofs.lemmas.List.{length-map, map-append}
use Rattle.std.proofs.lemmas.List.Elements.{filter-append, filter_map-append}
use Rattle.std.proofs.lemmas.Option.{IfSome_then}
use Rattle.page_walk.specs.declared.outcomes.TakenCell.{TakenCell}
use Rattle.page_walk.specs.declared.rows.PageNotes.{PageNotes}
use Rattle.page_walk.specs.declared.turns.PageTurn.{PageTurn}
use Rattle.page_access.specs.Files.{file_of}
use Rattle.page_access.specs.declared.geometry.Geometry.{Geometry}
use Rattle.page_access.proofs.Told.{always_told}
use Rattle.page_lists.specs.Table.{IsPartition, Table, all_moved, unused}
use Rattle.overflow_chain.specs.declared.TheConstants.{OVERFLOW_LIST}
use Rattle.page_walk.specs.Bounds.{ArePages}
use Rattle.page_walk.specs.Cells.{Outcome, Row, outcome_of, row_of}
use Rattle.page_walk.specs.Evidence.{Evidence}
use Rattle.page_walk.specs.InTurn.{IsSmallTurn, pages_of_turn, turn_of}
use Rattle.page_walk.specs.Turns.{chains_on, turns_on}
use Rattle.page_walk.proofs.InTurn.{chains_are}
use Rattle.page_walk.proofs.Witness.{pages_have_evidence, unused_once}
use Rattle.page_walk.specs.Rows.{rows_of}
use Rattle.raw_schema.specs.declared.rows.SchemaRow.{SchemaRow}
use Rattle.raw_schema.specs.Rows.{entry_of}
use Rattle.raw_schema.specs.Schema.{bad_in, cells_in, entries_in, noted}
use Rattle.raw_schema.proofs.Lists.{gathered}
use Rattle.raw_schema.proofs.Sorting.{others}

-- a cell that is a row or is none, and then others
one_seen : (t : TakenCell) (ts : List TakenCell) (b : Bool) → map row_of (others ts) ≡ bad_in (map row_of ts)
    → map row_of (if b then t ∷ others ts else others ts) ≡ (if b then row_of t ∷ bad_in (map row_of ts) else bad_in (map row_of ts))
one_seen t ts true later = ap (λ (rs : List Row). row_of t ∷ rs) later
one_seen t ts false later = later

-- the cells that are no rows, as the definitions have them
pub others_seen : (ts : List TakenCell) → map row_of (others ts) ≡ bad_in (map row_of ts)
others_seen [] = refl
others_seen (t ∷ ts) = one_seen t ts (is_none (entry_of (row_of t))) (others_seen ts)

-- what is there, and what the pages to come give, are all that all pages give
pub record SortingTurns (all left : List PageTurn) (rows : List SchemaRow) (bad : List TakenCell) (notes : List (ℕ × PageNotes)) : Type 0 where
  pub few : AllByRecursion (λ (t : PageTurn). length t.outcomes.items ≤ 32768) left
  pub rows_are : rows ++ entries_in (cells_in (map turn_of left)) ≡ entries_in (cells_in (map turn_of all))
  pub bad_are : map row_of bad ++ bad_in (cells_in (map turn_of left)) ≡ bad_in (cells_in (map turn_of all))
  pub notes_are : notes ++ flat_map noted (map turn_of left) ≡ flat_map noted (map turn_of all)

-- one more page is sorted
pub turns_more : {all left : List PageTurn} {rows : List SchemaRow} {bad : List TakenCell} {notes : List (ℕ × PageNotes)}
    (t : PageTurn) (rest : List PageTurn) (rows' : List SchemaRow) (bad' : List TakenCell) (notes' : List (ℕ × PageNotes))
    → SortingTurns all left rows bad notes → left ≡ t ∷ rest → rows' ≡ rows ++ entries_in (rows_of (turn_of t).1)
    → map row_of bad' ≡ map row_of bad ++ bad_in (rows_of (turn_of t).1) → notes' ≡ notes ++ noted (turn_of t)
    → SortingTurns all rest rows' bad' notes'
turns_more {all} {left} {rows} {bad} {notes} t rest rows' bad' notes' was next entered seen noted_too = record {
  few = (subst (AllByRecursion (λ (x : PageTurn). length x.outcomes.items ≤ 32768)) next was.few).1;
  rows_are = gathered rows rows' (entries_in (rows_of (turn_of t).1)) (entries_in (cells_in (map turn_of rest))) _ entered
      (ap (λ (es : List SchemaRow). rows ++ es) (sym (filter_map-append entry_of (rows_of (turn_of t).1) (cells_in (map turn_of rest))))
      ∙ ap (λ (ts : List PageTurn). rows ++ entries_in (cells_in (map turn_of ts))) (sym next) ∙ was.rows_are);
  bad_are = gathered (map row_of bad) (map row_of bad') (bad_in (rows_of (turn_of t).1)) (bad_in (cells_in (map turn_of rest))) _ seen
      (ap (λ (rs : List Row). map row_of bad ++ rs) (sym (filter-append (λ (row : Row). is_none (entry_of row)) (rows_of (turn_of t).1) (cells_in (map turn_of rest))))
      ∙ ap (λ (ts : List PageTurn). map row_of bad ++ bad_in (cells_in (map turn_of ts))) (sym next) ∙ was.bad_are);
  notes_are = gathered notes notes' (noted (turn_of t)) (flat_map noted (map turn_of rest)) _ noted_too
      (ap (λ (ts : List PageTurn). notes ++ flat_map noted (map turn_of ts)) (sym next) ∙ was.notes_are);
}

-- the cells that are no rows were appended
pub bad_appended : (bad bad' cells : List TakenCell) (rs : List Row) → bad' ≡ bad ++ others cells → map row_of cells ≡ rs
    → map row_of bad' ≡ map row_of bad ++ bad_in rs
bad_appended bad bad' cells rs left seen =
    ap (map row_of) left ∙ map-append row_of bad (others cells)
    ∙ ap (λ (xs : List Row). map row_of bad ++ xs) (others_seen cells ∙ ap bad_in seen)

-- what is a function of the turns, where they are told
pub of_turns : {X : Type 0} (give : List (ℕ × List Outcome) → X) (o : Option (List ℕ)) (geo : Geometry) (ps ps' u : List ℕ) (ts : List (ℕ × List Outcome)) (x : X)
    → ps' ≡ ps → IfSome o (λ all. ts ≡ turns_on (file_of all geo) ps' u) → x ≡ give ts → IfSome o (λ all. x ≡ give (turns_on (file_of all geo) ps u))
of_turns give o geo ps ps' u ts x same told is =
    IfSome_then o {P = λ all. ts ≡ turns_on (file_of all geo) ps' u} {Q = λ all. x ≡ give (turns_on (file_of all geo) ps u)}
    told
    (λ all e. is ∙ ap give e ∙ ap (λ (qs : List ℕ). give (turns_on (file_of all geo) qs u)) same)

-- the table after the chains of the turns moved
pub table_of_turns : (o : Option (List ℕ)) (geo : Geometry) (ps ps' : List ℕ) (old new : Table) (ts : List (ℕ × List Outcome)) → ps' ≡ ps
    → IfSome o (λ all. ts ≡ turns_on (file_of all geo) ps' (unused old)) → new ≡ all_moved (flat_map pages_of_turn ts) OVERFLOW_LIST old
    → IfSome o (λ all. new ≡ all_moved (chains_on (file_of all geo) ps (unused old)) OVERFLOW_LIST old)
table_of_turns o geo ps ps' old new ts same told moved =
    IfSome_then o
    {P = λ all. new ≡ all_moved (flat_map pages_of_turn (turns_on (file_of all geo) ps (unused old))) OVERFLOW_LIST old}
    {Q = λ all. new ≡ all_moved (chains_on (file_of all geo) ps (unused old)) OVERFLOW_LIST old}
    (of_turns (λ (xs : List (ℕ × List Outcome)). all_moved (flat_map pages_of_turn xs) OVERFLOW_LIST old) o geo ps ps' (unused old) ts new same told moved)
    (λ all e. e ∙ ap (λ (qs : List ℕ). all_moved qs OVERFLOW_LIST old) (chains_are (file_of all geo) ps (unused old)))

-- the cells of the pages have their evidence, where the bytes are told
pub evidence_of_turns : (o : Option (List ℕ)) (geo : Geometry) (ps : List ℕ) (t : Table) → ArePages geo.pages ps → IsPartition t → t.pages ≡ geo.pages
    → IfSome o (λ all. AllByRecursion (Evidence (file_of all geo)) (cells_in (turns_on (file_of all geo) ps (unused t))))
evidence_of_turns o geo ps t are each same =
    always_told (λ all. AllByRecursion (Evidence (file_of all geo)) (cells_in (turns_on (file_of all geo) ps (unused t)))) o
    (λ all. pages_have_evidence (file_of all geo) ps (unused t) are (unused_once t geo.pages each same))

-- no page has more cells than its notes can count
pub turns_few : (usable pages : ℕ) (ts : List PageTurn) → usable ≤ 65536 → AllByRecursion (IsSmallTurn usable pages) (map turn_of ts)
    → AllByRecursion (λ (t : PageTurn). length t.outcomes.items ≤ 32768) ts
turns_few usable pages [] le all = tt
turns_few usable pages (t ∷ ts) le all =
    (omega (arith, length-map t.outcomes.items outcome_of, all.0.few, le), turns_few usable pages ts le all.1)
