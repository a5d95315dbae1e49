-- The rows of the schema of a well-formed file are found, in order, and no cell of its tree is anything else.
use Rattle.std.proofs.Common.{◌≡◌, ◌≤◌, ℕ, ◌+◌, ◌==◌, Option, Some, None, List, [], ◌∷◌, ◌++◌, length, map, refl, sym, ap, ◌∙◌, inl, inr, arith}
use Rattle.std.specs.Prelude.{ℤ, filter, is_none, option_and_then}
use Rattle.std.specs.List.{AllByRecursion, AllZip, filter_map, flat_map}
use Rattle.std.proofs.lemmas.Bool.{cases_Bool}
use Rattle.std.proofs.lemmas.List.{map-append}
use Rattle.std.proofs.lemmas.List.Elements.{filter-append, filter_map-append}
use Rattle.page_access.specs.Pages.{File}
use Rattle.page_walk.specs.declared.outcomes.Place.{Place}
use Rattle.page_walk.specs.declared.rows.PageNotes.{PageNotes}
use Rattle.page_walk.specs.Cells.{Read, Row}
use Rattle.page_walk.specs.Rows.{causes_of, rows_of}
use Rattle.record_core.specs.declared.values.Value.{Value}
use Rattle.record_core.proofs.Again.{record_again}
use Rattle.raw_schema.specs.declared.rows.SchemaKind.{SchemaKind}
use Rattle.raw_schema.specs.declared.rows.SchemaRow.{SchemaRow}
use Rattle.raw_schema.specs.Rows.{entry_of, kind_named, root_in, row_in, row_with, sql_in, text_in}
use Rattle.raw_schema.specs.Schema.{cells_in, noted}
use Rattle.tree_forms.specs.Node.{Held}
use Rattle.tree_forms.specs.Payload.{payload_of}
use Rattle.tree_forms.specs.Tree.{bare}
use Rattle.tree_walks.specs.Read.{HasRecord, fields_of, read_on, row_at, rows_from, rows_on, values_in}
use Rattle.tree_walks.specs.Rows.{all_entries, cells_on, entries_in}
use Rattle.well_formed.specs.Stored.{SpellsEntry, no_place}
use Rattle.well_formed_uses.specs.Rows.{all_unplaced, unplaced}

-- ---- pages whose cells are all read

rows_read : (rs : List Row) → rows_of (map Read rs) ≡ rs
rows_read [] = refl
rows_read (r ∷ rs) = ap (λ (xs : List Row). r ∷ xs) (rows_read rs)

none_unread : (rs : List Row) → causes_of (map Read rs) ≡ []
none_unread [] = refl
none_unread (r ∷ rs) = none_unread rs

pub cells_read : (f : File) (ps : List ℕ) → cells_in (map (read_on f) ps) ≡ flat_map (rows_on f) ps
cells_read f [] = refl
cells_read f (p ∷ ps) = ap (λ (xs : List Row). xs ++ cells_in (map (read_on f) ps)) (rows_read (rows_on f p)) ∙ ap (λ (xs : List Row). rows_on f p ++ xs) (cells_read f ps)

one_noted : (p : ℕ) (rs : List Row) → noted (p, map Read rs) ≡ []
one_noted p rs = let none : length (causes_of (map Read rs)) ≡ 0 = ap length (none_unread rs) in rw none refl

pub no_notes : (f : File) (ps : List ℕ) → flat_map noted (map (read_on f) ps) ≡ []
no_notes f [] = refl
no_notes f (p ∷ ps) = ap (λ (xs : List (ℕ × PageNotes)). xs ++ flat_map noted (map (read_on f) ps)) (one_noted p (rows_on f p)) ∙ no_notes f ps

-- ---- a row of the schema wherever it stands

abbrev placed : Place → SchemaRow → SchemaRow
placed place row = record row { place = place }

moved_with : (place : Place) (kind : Option SchemaKind) (name tbl : Option (List ℕ)) (root : Option ℤ) (sql : Option (Option (List ℕ))) (row : SchemaRow)
    → row_with no_place kind name tbl root sql ≡ Some row → row_with place kind name tbl root sql ≡ Some (placed place row)
moved_with place None name tbl root sql row is = absurd (cc)
moved_with place (Some k) None tbl root sql row is = absurd (cc)
moved_with place (Some k) (Some n) None root sql row is = absurd (cc)
moved_with place (Some k) (Some n) (Some t) None sql row is = absurd (cc)
moved_with place (Some k) (Some n) (Some t) (Some r) None row is = absurd (cc)
moved_with place (Some k) (Some n) (Some t) (Some r) (Some s) row is =
    let same : record { kind = k; name = n; tbl = t; root = r; sql = s; place = no_place } ≡ row = cc in
    ap (λ (x : SchemaRow). Some (placed place x)) same

-- the values of a row of the schema are five, and wherever they stand they are the same row
record IsFive (place : Place) (values : List Value) (row : SchemaRow) : Type 0 where
  few : length values ≤ 1996
  moved : row_in place values ≡ Some (placed place row)

five : (place : Place) (values : List Value) (row : SchemaRow) → row_in no_place values ≡ Some row → IsFive place values row
five place [] row is = absurd (cc)
five place (a ∷ []) row is = absurd (cc)
five place (a ∷ b ∷ []) row is = absurd (cc)
five place (a ∷ b ∷ c ∷ []) row is = absurd (cc)
five place (a ∷ b ∷ c ∷ d ∷ []) row is = absurd (cc)
five place (a ∷ b ∷ c ∷ d ∷ e ∷ []) row is = record { few = omega arith; moved = moved_with place (option_and_then kind_named (text_in a)) (text_in b) (text_in c) (root_in d) (sql_in e) row is }
five place (a ∷ b ∷ c ∷ d ∷ e ∷ g ∷ values) row is = absurd (cc)

-- ---- a cell

read_fields : (f : File) (h : Held) (r : HasRecord f h) → fields_of f h ≡ r.values
read_fields f h r = ap values_in (record_again (payload_of f h) r.values r.spelled r.few)

spelled_record : (f : File) (h : Held) (row : SchemaRow) → SpellsEntry f h row → HasRecord f h
spelled_record f h row s = record { values = s.values; spelled = s.fields; few = (five no_place s.values row s.is_row).few }

spelled_row : (f : File) (p i : ℕ) (h : Held) (row : SchemaRow) → SpellsEntry f h row
    → entry_of (row_at f p i h) ≡ Some (placed (record { page = p; cell = i }) row)
unfolding spelled_record
spelled_row f p i h row s =
    let place : Place = record { page = p; cell = i } in
    ap (row_in place) (read_fields f h (spelled_record f h row s)) ∙ (five place s.values row s.is_row).moved

-- the place of a row that has none
unplaced_row : (f : File) (h : Held) (row : SchemaRow) → SpellsEntry f h row → unplaced row ≡ row
unplaced_row f h row s =
    let again : row_in no_place s.values ≡ Some (placed no_place row) = (five no_place s.values row s.is_row).moved in
    let both : Some (unplaced row) ≡ Some row = sym again ∙ s.is_row in cc

-- ---- the cells of pages

pub spelled_bare : (f : File) (cells : List Held) (rows : List SchemaRow) → AllZip (SpellsEntry f) cells rows → AllZip (SpellsEntry f) (map bare cells) rows
unfolding payload_of
spelled_bare f [] [] all = tt
spelled_bare f [] (row ∷ rows) all = absurd all
spelled_bare f (h ∷ cells) [] all = absurd all
spelled_bare f (h ∷ cells) (row ∷ rows) all =
    (record { values = all.0.values; fields = all.0.fields; is_row = all.0.is_row }, spelled_bare f cells rows all.1)

spelled_back : (f : File) (h : Held) (row : SchemaRow) → SpellsEntry f (bare h) row → SpellsEntry f h row
unfolding payload_of
spelled_back f h row s = record { values = s.values; fields = s.fields; is_row = s.is_row }

pub records_there : (f : File) (cells : List Held) (rows : List SchemaRow) → AllZip (SpellsEntry f) cells rows → AllByRecursion (HasRecord f) cells
records_there f [] [] all = tt
records_there f [] (row ∷ rows) all = absurd all
records_there f (h ∷ cells) [] all = absurd all
records_there f (h ∷ cells) (row ∷ rows) all = (spelled_record f h row all.0, records_there f cells rows all.1)

-- the rows of some cells, and those of the cells behind them
record ComeBack (f : File) (cells : List Row) (rest : List Held) (rows : List SchemaRow) : Type 0 where
  left : List SchemaRow
  others : AllZip (SpellsEntry f) rest left
  rows_are : rows ≡ all_unplaced (filter_map entry_of cells) ++ left
  none_bad : filter (λ (r : Row). is_none (entry_of r)) cells ≡ []

one_more : (f : File) (p i : ℕ) (h : Held) (row : SchemaRow) (more : List Row) (rest : List Held) (rows : List SchemaRow)
    → SpellsEntry f h row → ComeBack f more rest rows → ComeBack f (row_at f p i h ∷ more) rest (row ∷ rows)
one_more f p i h row more rest rows s found =
    let is : entry_of (row_at f p i h) ≡ Some (placed (record { page = p; cell = i }) row) = spelled_row f p i h row s in
    record {
      left = found.left;
      others = found.others;
      rows_are = rw is (ap (λ (x : SchemaRow). x ∷ rows) (sym (unplaced_row f h row s)) ∙ ap (λ (xs : List SchemaRow). unplaced row ∷ xs) found.rows_are);
      none_bad = rw is found.none_bad;
    }

first_found : (f : File) (p i : ℕ) (h : Held) (more : List Row) (entries rest : List Held) (rows : List SchemaRow)
    → ((rs : List SchemaRow) → AllZip (SpellsEntry f) (entries ++ rest) rs → ComeBack f more rest rs)
    → AllZip (SpellsEntry f) (bare h ∷ (entries ++ rest)) rows → ComeBack f (row_at f p i h ∷ more) rest rows
first_found f p i h more entries rest [] below all = absurd all
first_found f p i h more entries rest (row ∷ rs) below all = one_more f p i h row more rest rs (spelled_back f h row all.0) (below rs all.1)

-- the cells of a page
on_page : (f : File) (p i : ℕ) (hs : List Held) (rest : List Held) (rows : List SchemaRow) → AllZip (SpellsEntry f) (entries_in hs ++ rest) rows
    → ComeBack f (rows_from f p i hs) rest rows
on_page f p i [] rest rows all = record { left = rows; others = all; rows_are = refl; none_bad = refl }
on_page f p i (h ∷ hs) rest rows all =
    elim (cases_Bool (h.total == 0)) [
      | inl none ↦
          let later : AllZip (SpellsEntry f) (entries_in hs ++ rest) rows = rw none at all in
          rw none (on_page f p (i + 1) hs rest rows later)
      | inr some ↦
          let later : AllZip (SpellsEntry f) (bare h ∷ (entries_in hs ++ rest)) rows = rw some at all in
          rw some (first_found f p i h (rows_from f p (i + 1) hs) (entries_in hs) rest rows (λ rs more. on_page f p (i + 1) hs rest rs more) later)
    ]

-- the rows that the cells of pages spell are those that are found in them
pub record AreFound (f : File) (cells : List Row) (rows : List SchemaRow) : Type 0 where
  pub rows_are : all_unplaced (filter_map entry_of cells) ≡ rows
  pub none_bad : filter (λ (r : Row). is_none (entry_of r)) cells ≡ []

pub pages_found : (f : File) (ps : List ℕ) (rows : List SchemaRow) → AllZip (SpellsEntry f) (all_entries f ps) rows → AreFound f (flat_map (rows_on f) ps) rows
pages_found f [] [] all = record { rows_are = refl; none_bad = refl }
pages_found f [] (row ∷ rows) all = absurd all
pages_found f (p ∷ ps) rows all =
    let here = on_page f p 0 (cells_on f p) (all_entries f ps) rows all in
    let later = pages_found f ps here.left here.others in
    record {
      rows_are = ap all_unplaced (filter_map-append entry_of (rows_on f p) (flat_map (rows_on f) ps))
          ∙ map-append unplaced (filter_map entry_of (rows_on f p)) (filter_map entry_of (flat_map (rows_on f) ps))
          ∙ ap (λ (xs : List SchemaRow). all_unplaced (filter_map entry_of (rows_on f p)) ++ xs) later.rows_are
          ∙ sym here.rows_are;
      none_bad = filter-append (λ (r : Row). is_none (entry_of r)) (rows_on f p) (flat_map (rows_on f) ps)
          ∙ ap (λ (xs : List Row). xs ++ filter (λ (r : Row). is_none (entry_of r)) (flat_map (rows_on f) ps)) here.none_bad
          ∙ later.none_bad;
    }
