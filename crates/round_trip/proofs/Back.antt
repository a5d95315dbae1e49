-- All tables of a well-formed file in scope come back, and nothing else is found.
use Rattle.std.proofs.Common.{◌≡◌, ℕ, Option, Some, None, List, [], ◌∷◌, ◌++◌, length, map, slice_get, take, drop, refl, sym, ap, ◌∙◌, subst, inl, inr}
use Rattle.std.specs.List.{AllByRecursion, flat_map}
use Rattle.std.proofs.lemmas.Grind.{flat_map-append}
use Rattle.std.proofs.lemmas.List.{drop_at, length-map, map-append, take_at}
use Rattle.page_access.specs.Pages.{File}
use Rattle.page_lists.proofs.Moves.{count_pages}
use Rattle.page_walk.specs.Cells.{Outcome, Read, Row}
use Rattle.page_walk.specs.Walk.{kinds_of}
use Rattle.page_walk.specs.declared.rows.PageNotes.{PageNotes}
use Rattle.page_walk.proofs.Going.{all_append}
use Rattle.raw_schema.specs.declared.rows.SchemaRow.{SchemaRow}
use Rattle.raw_schema.specs.Schema.{cells_in, noted}
use Rattle.schema_texts.specs.Readings.{IsReading, table_names}
use Rattle.schema_texts.specs.declared.readings.Reading.{Reading}
use Rattle.schema_texts.specs.declared.readings.Reading.TheVariants as readings
use Rattle.schema_texts.specs.declared.readings.TableReading.{TableReading}
use Rattle.table_parts.specs.Parts.{IsPart}
use Rattle.table_shape.specs.Names.{is_named}
use Rattle.tree_uses.specs.Trees.{Tree, pages_in, pages_of, split_turns}
use Rattle.tree_uses.proofs.Splits.{split_are}
use Rattle.tree_walks.specs.Read.{HasRecord, read_on, rows_on}
use Rattle.tree_walks.specs.Rows.{all_entries, entries_on}
use Rattle.tree_walks.proofs.Turning.{all_split}
use Rattle.salvaged_tables.specs.Fates.{AreFates, Failed, IsFate, TableFate, failed_of, failed_on, failed_one, lost_of, root_of, table_of}
use Rattle.salvaged_tables.specs.Laws.{all_lost}
use Rattle.well_formed.specs.Database.{TableRows}
use Rattle.well_formed.specs.Header.{file_in}
use Rattle.well_formed.specs.Tables.{AreNames}
use Rattle.well_formed.specs.Tables as formed
use Rattle.well_formed_uses.specs.Rows.{all_unplaced, unplaced}
use Rattle.well_formed_uses.specs.Trees.{StoredTree, pages_if}
use Rattle.well_formed_uses.proofs.Left.{none_is_left}
use Rattle.well_formed_uses.proofs.Phases.{same_joined}
use Rattle.well_formed_uses.proofs.Schema.{cells_read, no_notes}
use Rattle.well_formed_uses.proofs.Unplaced.{row_same}
use Rattle.well_formed_uses.proofs.Uses.{before_turns, uses_of}
use Rattle.well_formed_uses.proofs.Wanting.{RowIs, TableRow, TableRowsOf, tables_if, tables_of, tree_if, trees_of, virtual_read}
use Rattle.round_trip.specs.Laws.{FilesComeBack, PagesAreAll, as_rows}
use Rattle.round_trip.specs.Scope.{IsFaultless}
use Rattle.round_trip.proofs.Sound.{stored_read}
use Rattle.round_trip.proofs.Table.{PartIs, table_back, tree_rows, virtual_back}

abbrev pub IsSound : TableRows → Type 0
IsSound t = IsFaultless t.text

-- ---- the turns of the tables' cells

split_map : {X : Type 0} (g : ℕ → X) (trees : List Tree) → split_turns trees (map g (pages_in trees)) ≡ map (λ (t : Tree). map g t.pages) trees
split_map g [] = refl
split_map {X} g (t ∷ trees) =
    let joined : map g (t.pages ++ pages_in trees) ≡ map g t.pages ++ map g (pages_in trees) = map-append g t.pages (pages_in trees) in
    let len : length (map g t.pages) ≡ length t.pages = length-map t.pages g in
    ap (λ (xs : List X). take (length t.pages) xs ∷ split_turns trees (drop (length t.pages) xs)) joined
    ∙ ap (λ (xs : List X). xs ∷ split_turns trees (drop (length t.pages) (map g t.pages ++ map g (pages_in trees)))) (take_at (map g t.pages) (map g (pages_in trees)) (length t.pages) len)
    ∙ ap (λ (xs : List X). map g t.pages ∷ split_turns trees xs) (drop_at (map g t.pages) (map g (pages_in trees)) (length t.pages) len)
    ∙ ap (λ (xss : List (List X)). map g t.pages ∷ xss) (split_map g trees)

-- the records of all cells can be read
row_records : (f : File) (row : SchemaRow) (r : TableReading) (x : RowIs f row r) → AllByRecursion IsSound (tables_if x) → AllByRecursion (HasRecord f) (all_entries f (pages_if f (tree_if x)))
row_records f row r (inl s) sound = (tree_rows f row s.t s.used s.is sound.0).records
row_records f row r (inr virtual) sound = tt

all_records : (f : File) (all : List SchemaRow) (rs : List TableReading) (rows : TableRowsOf f all rs) → AllByRecursion IsSound (tables_of f all rs rows)
    → AllByRecursion (HasRecord f) (all_entries f (flat_map (pages_if f) (trees_of f all rs rows)))
all_records f all [] rows sound = tt
all_records f all (r ∷ rs) rows sound =
    let split = all_split IsSound (tables_if rows.0.is) (tables_of f all rs rows.1) sound in
    let here : List ℕ = pages_if f (tree_if rows.0.is) in
    let later : List ℕ = flat_map (pages_if f) (trees_of f all rs rows.1) in
    subst (AllByRecursion (HasRecord f)) (sym (flat_map-append (entries_on f) here later))
    (all_append (HasRecord f) (all_entries f here) (all_entries f later) (row_records f rows.0.row r rows.0.is split.0) (all_records f all rs rows.1 split.1))

-- ---- one table

-- what becomes of a table row: these tables, and nothing else
record OneBack (x : TableFate) (tables : List TableRows) : Type 0 where
  part : PartIs x.row x.part tables
  noted_none : flat_map noted x.turns ≡ []
  failed_none : failed_of x ≡ []

none_failed : (root p : ℕ) (rs : List Row) → flat_map (failed_one root p) (map Read rs) ≡ []
none_failed root p [] = refl
none_failed root p (r ∷ rs) = none_failed root p rs

pages_failed : (f : File) (root : ℕ) (ps : List ℕ) → flat_map (failed_on root) (map (read_on f) ps) ≡ []
pages_failed f root [] = refl
pages_failed f root (p ∷ ps) = ap (λ (xs : List Failed). xs ++ flat_map (failed_on root) (map (read_on f) ps)) (none_failed root p (rows_on f p)) ∙ pages_failed f root ps

-- the row of a fate is that of its reading
same_row : (rows all : List SchemaRow) (j : ℕ) (x row : SchemaRow) → all_unplaced rows ≡ all → slice_get rows j ≡ Some x → slice_get all j ≡ Some row → unplaced x ≡ row
same_row rows all j x row same found there =
    let both : Some (unplaced x) ≡ Some row = sym (row_same rows j x found) ∙ ap (λ (rs : List SchemaRow). slice_get rs j) same ∙ there in cc

read_of : (f : File) (all : List SchemaRow) (r : TableReading) (m : TableRow f all r)
    → IsReading (kinds_of f) f.pages m.row (is_named m.row.name (table_names (take r.row all))) r.reading
read_of f all r m =
    let both : Some m.read.row ≡ Some m.row = sym m.read.row_is ∙ m.there in
    let same : m.read.row ≡ m.row = cc in
    subst (λ (x : SchemaRow). IsReading (kinds_of f) f.pages x (is_named x.name (table_names (take r.row all))) r.reading) same m.read.reading

one_part : (f : File) (rows all : List SchemaRow) (r : TableReading) (m : TableRow f all r) (t : Tree) (ts : List (ℕ × List Outcome)) (x : TableFate)
    → all_unplaced rows ≡ all → AreNames (formed.table_names all) → IsFate rows r t ts x → ts ≡ map (read_on f) t.pages
    → t.pages ≡ pages_if f (tree_if m.is) → AllByRecursion IsSound (tables_if m.is) → PartIs x.row x.part (tables_if m.is)
one_part f rows all r m t ts x same names fate turns pages sound = by_row m.is pages sound
  where
    cells : cells_in ts ≡ flat_map (rows_on f) t.pages
    cells = ap cells_in turns ∙ cells_read f t.pages

    row_is : unplaced x.row ≡ m.row
    row_is = same_row rows all r.row x.row m.row same fate.row_is m.there

    by_row : (z : RowIs f m.row r) → t.pages ≡ pages_if f (tree_if z) → AllByRecursion IsSound (tables_if z) → PartIs x.row x.part (tables_if z)
    by_row (inl s) own good =
        let read = stored_read f (kinds_of f) all r.row m.row s.t s.used r.reading s.is names m.there m.sort good.0 (read_of f all r m) in
        table_back f x.row m.row s.t s.used s.is (cells_in ts) r.reading x.part row_is (tree_rows f m.row s.t s.used s.is good.0)
        (cells ∙ ap (flat_map (rows_on f)) own) read.found read.reading_is read.shape_is fate.part_is
    by_row (inr virtual) own good =
        let v = virtual_read (kinds_of f) f.pages m.row (is_named m.row.name (table_names (take r.row all))) r.reading virtual (read_of f all r m) in
        let none : cells_in ts ≡ [] = cells ∙ ap (flat_map (rows_on f)) own in
        virtual_back x.row v.cause None x.part
        (subst (λ (rs : List Row). IsPart (readings.Unread v.cause None) rs x.part) none
        (subst (λ (z : Reading). IsPart z (cells_in ts) x.part) v.reading_is fate.part_is))

one_back : (f : File) (rows all : List SchemaRow) (r : TableReading) (m : TableRow f all r) (t : Tree) (ts : List (ℕ × List Outcome)) (x : TableFate)
    → all_unplaced rows ≡ all → AreNames (formed.table_names all) → IsFate rows r t ts x → ts ≡ map (read_on f) t.pages
    → t.pages ≡ pages_if f (tree_if m.is) → AllByRecursion IsSound (tables_if m.is) → OneBack x (tables_if m.is)
one_back f rows all r m t ts x same names fate turns pages sound =
    let seen : x.turns ≡ map (read_on f) t.pages = fate.turns_are ∙ turns in
    record {
      part = one_part f rows all r m t ts x same names fate turns pages sound;
      noted_none = ap (flat_map noted) seen ∙ no_notes f t.pages;
      failed_none = ap (flat_map (failed_on (root_of x.pages))) seen ∙ pages_failed f (root_of x.pages) t.pages;
    }

-- ---- all tables

record AllBack (tables : List TableRows) (fates : List TableFate) : Type 0 where
  tables_are : map as_rows (flat_map table_of fates) ≡ tables
  none_lost : all_lost fates ≡ []
  no_roots : flat_map lost_of fates ≡ []
  none_noted : flat_map (λ (x : TableFate). flat_map noted x.turns) fates ≡ []
  none_failed : flat_map failed_of fates ≡ []

one_more : (x : TableFate) (fates : List TableFate) (here tables : List TableRows) → OneBack x here → AllBack tables fates → AllBack (here ++ tables) (x ∷ fates)
one_more x fates here tables one all = record {
  tables_are = map-append as_rows (table_of x) (flat_map table_of fates)
      ∙ ap (λ (ts : List TableRows). ts ++ map as_rows (flat_map table_of fates)) one.part.tables_are
      ∙ ap (λ (ts : List TableRows). here ++ ts) all.tables_are;
  none_lost = ap (λ (rs : List Row). rs ++ all_lost fates) one.part.none_lost ∙ all.none_lost;
  no_roots = ap (λ (rs : List Row). map (λ (r : Row). (root_of x.pages, r)) rs ++ flat_map lost_of fates) one.part.none_lost ∙ all.no_roots;
  none_noted = ap (λ (ns : List (ℕ × PageNotes)). ns ++ flat_map (λ (y : TableFate). flat_map noted y.turns) fates) one.noted_none ∙ all.none_noted;
  none_failed = ap (λ (xs : List Failed). xs ++ flat_map failed_of fates) one.failed_none ∙ all.none_failed;
}

all_back : (f : File) (rows all : List SchemaRow) (rs : List TableReading) (ms : TableRowsOf f all rs) (tables : List Tree)
    (turns : List (List (ℕ × List Outcome))) (fates : List TableFate) → all_unplaced rows ≡ all → AreNames (formed.table_names all)
    → AreFates rows rs tables turns fates → turns ≡ map (λ (t : Tree). map (read_on f) t.pages) tables
    → map pages_of tables ≡ map (pages_if f) (trees_of f all rs ms) → AllByRecursion IsSound (tables_of f all rs ms)
    → AllBack (tables_of f all rs ms) fates
all_back f rows all [] ms [] [] [] same names are turned pages sound =
    record { tables_are = refl; none_lost = refl; no_roots = refl; none_noted = refl; none_failed = refl }
all_back f rows all (r ∷ rs) ms (t ∷ tables) (ts ∷ turns) (x ∷ fates) same names are turned pages sound =
    let split = all_split IsSound (tables_if ms.0.is) (tables_of f all rs ms.1) sound in
    let here : ts ≡ map (read_on f) t.pages = cc in
    let later : turns ≡ map (λ (u : Tree). map (read_on f) u.pages) tables = cc in
    let own : t.pages ≡ pages_if f (tree_if ms.0.is) = cc in
    let others : map pages_of tables ≡ map (pages_if f) (trees_of f all rs ms.1) = cc in
    one_more x fates (tables_if ms.0.is) (tables_of f all rs ms.1)
    (one_back f rows all r ms.0 t ts x same names are.0 here own split.0)
    (all_back f rows all rs ms.1 tables turns fates same names are.1 later others split.1)
all_back f rows all rs ms tables turns fates same names are turned pages sound = absurd are

pub pages_are_all : PagesAreAll
pages_are_all n q = count_pages n q

pub files_come_back : FilesComeBack
files_come_back bytes db s fates scope are =
    let f : File = file_in bytes in
    let w = s.formed in
    let unused : List ℕ = s.unused in
    let rs : List TableReading = s.readings in
    let tables : List Tree = s.tables in
    let indexes : List Tree = s.indexes in
    let turns : List (List (ℕ × List Outcome)) = s.turns in
    let u = uses_of bytes db s in
    let m = u.tables_match in
    let os : List (Option StoredTree) = trees_of f w.rows rs m.rows in
    let same : all_unplaced s.rows ≡ w.rows = ap all_unplaced s.order.rows_are ∙ u.schema.rows_are in
    let sound : AllByRecursion IsSound (tables_of f w.rows rs m.rows) = subst (AllByRecursion IsSound) m.tables_are scope.texts in
    let joined : pages_in tables ≡ flat_map (pages_if f) os = same_joined pages_of (pages_if f) tables os u.tables_are in
    let records : AllByRecursion (HasRecord f) (all_entries f (pages_in tables)) =
    subst (λ (ps : List ℕ). AllByRecursion (HasRecord f) (all_entries f ps)) (sym joined) (all_records f w.rows rs m.rows sound) in
    let d : List ℕ = before_turns f unused tables indexes in
    let seen : turns ≡ map (λ (t : Tree). map (read_on f) t.pages) tables =
    s.order.turns_are ∙ sym (split_are f tables d) ∙ ap (split_turns tables) (u.turned.turns records) ∙ split_map (read_on f) tables in
    let back = all_back f s.rows w.rows rs m.rows tables turns fates same w.tables.names are seen u.tables_are sound in
    record {
      back = record {
        tables = back.tables_are ∙ sym m.tables_are;
        none_lost = back.none_lost;
        no_roots = back.no_roots;
        none_noted = back.none_noted;
        none_failed = back.none_failed;
      };
      none_bad = u.schema.none_bad;
      none_unread = u.schema.no_notes;
      left = none_is_left bytes db s scope.few;
    }
