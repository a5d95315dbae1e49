-- The tables that are built can be written.
use Rattle.std.proofs.Common.{◌≡◌, inl, inr, ℕ, ◌+◌, Bool, true, false, not, ◌||◌, if◌then◌else◌, Option, Some, None, List, [], ◌∷◌, ◌++◌, length, map, take, refl, sym, ◌∙◌, ap, subst, arith, append_assoc, append-nil, length-append, Vec, Global}
use Rattle.std.specs.Prelude.{is_some, unwrap_or, slice_get}
use Rattle.std.specs.List.{AllByRecursion, IsDistinct, flat_map}
use Rattle.std.specs.Str.{bytes_eq}
use Rattle.std.proofs.lemmas.Bool.{cases_Bool}
use Rattle.std.proofs.lemmas.List.{map-append}
use Rattle.std.proofs.lemmas.List.Folds.{list_any-append}
use Rattle.std.proofs.lemmas.Map.Keys.{IsDistinct-cons}
use Rattle.std.proofs.lemmas.Slice.Eq.{bytes_eq-Decides}
use Rattle.cell_reader.specs.declared.shapes.Kind.{Kind}
use Rattle.create_reader.specs.Outcome.{IsTableText}
use Rattle.create_reader.proofs.One.{is_related, is_valid}
use Rattle.db_builder.specs.Valid.{IsTable}
use Rattle.page_walk.specs.Cells.{Outcome, Row, row_of}
use Rattle.page_walk.proofs.Going.{all_append}
use Rattle.raw_schema.specs.declared.rows.SchemaRow.{SchemaRow}
use Rattle.report_text.specs.declared.causes.UnreadCause.TheVariants as causes
use Rattle.schema_texts.specs.Readings.{AreReadings, HasShape, IsReading, IsReadingIn, bar, is_table, table_names, tables_from}
use Rattle.schema_texts.specs.declared.readings.Reading.{Reading}
use Rattle.schema_texts.specs.declared.readings.Reading.TheVariants as readings
use Rattle.schema_texts.specs.declared.readings.TableReading.{TableReading}
use Rattle.table_fill.specs.Fates.{held}
use Rattle.table_fill.proofs.Good.{rows_good}
use Rattle.table_parts.specs.declared.parts.TablePart.{TablePart}
use Rattle.table_parts.specs.declared.parts.TablePart.TheVariants.{Built, Unread}
use Rattle.table_parts.specs.Parts.{IsPart}
use Rattle.table_shape.specs.Keys.{AreRows, StoredRow, keys_of}
use Rattle.table_shape.specs.Names.{is_named, is_reserved, same_name}
use Rattle.table_shape.specs.Seen.{row_seen, shape_seen}
use Rattle.table_shape.specs.Shape.{Shape, has_real_key}
use Rattle.table_shape.specs.declared.rows.OutRow.{OutRow}
use Rattle.table_shape.specs.declared.rows.OutTable.{OutTable}
use Rattle.tree_uses.specs.Trees.{Tree}
use Rattle.salvaged_tables.specs.declared.places.Placed.{Placed}
use Rattle.salvaged_tables.specs.declared.salvage.SalvagedTables.{SalvagedTables}
use Rattle.salvaged_tables.specs.Fates.{AreFates, IsFate, StoredTable, TableFate, built_table, stored_row, table_of, table_with}
use Rattle.salvaged_tables.specs.Salvaged.{AreValid, HavePlaces, IsSalvage, rows_at, stored_tables}
use Rattle.salvaged_tables.proofs.Bare.{rowids_are, stored, stored_are_rows}
use Rattle.salvaged_tables.proofs.Items.{front, nothing, some_same}

-- ---- a table of a fate

-- a table that can be written, as definitions see it
record IsStored (t : StoredTable) : Type 0 where
  text : IsTableText t.text t.shape
  name : t.shape.name ≡ t.name
  unreserved : is_reserved t.name ≡ false
  no_real : has_real_key t.shape ≡ false
  rowids : AllByRecursion (λ (row : StoredRow). is_some row.rowid ≡ not t.shape.without_rowid) (map held t.rows)
  rows : AreRows (keys_of t.shape) (map held t.rows)

-- where no cause bars a table, none of them holds
no_bar : (real named reserved double : Bool) → (if real then Some causes.Real
    else (if not named then Some causes.Name
    else (if reserved then Some causes.Reserved
    else (if double then Some causes.Double else None)))) ≡ None
    → (real ≡ false) × (named ≡ true) × (reserved ≡ false) × (double ≡ false)
no_bar true named reserved double is = absurd (cc)
no_bar false false reserved double is = absurd (cc)
no_bar false true true double is = absurd (cc)
no_bar false true false true is = absurd (cc)
no_bar false true false false is = (refl, refl, refl, refl)

text_is : (sql : Option (List ℕ)) (shape : Shape) → HasShape sql shape → IsTableText (unwrap_or sql []) shape
text_is None shape has = absurd has
text_is (Some sql) shape has = is_related sql shape has

held_stored : (without : Bool) (rows : List Row) → map held (map (stored_row without) rows) ≡ map (stored without) (map held rows)
held_stored without [] = refl
held_stored without (r ∷ rows) = ap (λ (rs : List StoredRow). stored without (held r) ∷ rs) (held_stored without rows)

table_stored : (row : SchemaRow) (shape : Shape) (rows : List Row) (double : Bool) → HasShape row.sql shape → bar shape row.name double ≡ None
    → AreRows (keys_of shape) (map held rows) → IsStored (table_with row shape rows)
table_stored row shape rows double has free good =
    let free : (has_real_key shape ≡ false) × (bytes_eq row.name shape.name ≡ true) × (is_reserved row.name ≡ false) × (double ≡ false) =
    no_bar (has_real_key shape) (bytes_eq row.name shape.name) (is_reserved row.name) double free in
    let text : IsTableText (unwrap_or row.sql []) shape = text_is row.sql shape has in
    let same : map (stored shape.without_rowid) (map held rows) ≡ map held (map (stored_row shape.without_rowid) rows) =
    sym (held_stored shape.without_rowid rows) in
    record {
      text = text;
      name = sym ((bytes_eq-Decides row.name shape.name).0 free.1);
      unreserved = free.2;
      no_real = free.0;
      rowids = subst (AllByRecursion (λ (r : StoredRow). is_some r.rowid ≡ not shape.without_rowid)) same
          (rowids_are shape (map held rows) good.fit);
      rows = subst (AreRows (keys_of shape)) same
          (stored_are_rows shape (map held rows) (is_valid (unwrap_or row.sql []) shape text) good);
    }

part_stored : (kinds : List (Option Kind)) (pages : ℕ) (row : SchemaRow) (double : Bool) (reading : Reading) (cells : List Row) (part : TablePart)
    → IsReading kinds pages row double reading → IsPart reading cells part → AllByRecursion IsStored (built_table row part)
part_stored kinds pages row double reading cells (Unread cause given) says is = tt
part_stored kinds pages row double (readings.Unread why kind) cells (Built shape rows left) says is = absurd is
part_stored kinds pages row double (readings.Shape s) cells (Built shape rows left) says is = (
  subst (λ (sh : Shape). IsStored (table_with row sh (map row_of rows.items))) (sym is.0)
      (table_stored row (shape_seen s) (map row_of rows.items) double says.0 says.1
      (subst (λ (rs : List Row). AreRows (keys_of (shape_seen s)) (map held rs)) (sym is.1.rows_are)
      (rows_good (keys_of (shape_seen s)) cells is.1.ordered))),
  tt,
)

-- the row of a reading is that of its fate
fate_stored : (kinds : List (Option Kind)) (pages : ℕ) (rows : List SchemaRow) (r : TableReading) (t : Tree) (turns : List (ℕ × List Outcome)) (f : TableFate)
    → IsReadingIn kinds pages rows r → IsFate rows r t turns f → AllByRecursion IsStored (table_of f)
fate_stored kinds pages rows r t turns f says is =
    let same : says.row ≡ f.row = some_same says.row f.row (sym says.row_is ∙ is.row_is) in
    subst (λ (row : SchemaRow). AllByRecursion IsStored (built_table row f.part)) same
    (part_stored kinds pages says.row _ r.reading _ f.part says.reading is.part_is)

fates_stored : (kinds : List (Option Kind)) (pages : ℕ) (rows : List SchemaRow) (rs : List TableReading) (trees : List Tree)
    (turns : List (List (ℕ × List Outcome))) (fates : List TableFate) → AllByRecursion (IsReadingIn kinds pages rows) rs
    → AreFates rows rs trees turns fates → AllByRecursion IsStored (flat_map table_of fates)
fates_stored kinds pages rows [] [] [] [] say are = tt
fates_stored kinds pages rows (r ∷ rs) (t ∷ trees) (ts ∷ turns) (f ∷ fates) say are =
    all_append IsStored (table_of f) (flat_map table_of fates) (fate_stored kinds pages rows r t ts f say.0 are.0)
    (fates_stored kinds pages rows rs trees turns fates say.1 are.1)
fates_stored kinds pages rows rs trees turns fates say are = absurd are

-- ---- the tables of the program

held_placed : (rows : List OutRow) (places : List Placed) → length rows ≡ length places → map held (rows_at rows places) ≡ map row_seen rows
held_placed [] places even = refl
held_placed (o ∷ rows) [] even = absurd (omega (arith, even))
held_placed (o ∷ rows) (p ∷ places) even = ap (λ (rs : List StoredRow). row_seen o ∷ rs) (held_placed rows places (omega (arith, even)))

tables_are : (tables : List OutTable) (places : List (Vec Placed Global)) → HavePlaces tables places
    → AllByRecursion IsStored (stored_tables tables places) → AllByRecursion IsTable tables
tables_are [] places even all = tt
tables_are (t ∷ tables) [] even all = absurd (nothing _ _ even)
tables_are (t ∷ tables) (p ∷ places) even all =
    let both : (length t.rows.items ≡ length p.items) × HavePlaces tables places = front _ _ _ _ even in
    let same : map held (rows_at t.rows.items p.items) ≡ map row_seen t.rows.items = held_placed t.rows.items p.items both.0 in (
      record {
        text = all.0.text;
        name = all.0.name;
        unreserved = all.0.unreserved;
        no_real = all.0.no_real;
        rowids = subst (AllByRecursion (λ (r : StoredRow). is_some r.rowid ≡ not t.shape.without_rowid)) same all.0.rowids;
        rows = subst (AreRows (keys_of (shape_seen t.shape))) same all.0.rows;
      },
      tables_are tables places both.1 all.1,
    )

-- ---- their names

abbrev pub stored_names : List StoredTable → List (List ℕ)
stored_names tables = map (λ (t : StoredTable). t.name) tables

pub names_seen : (tables : List OutTable) (places : List (Vec Placed Global)) → HavePlaces tables places
    → stored_names (stored_tables tables places) ≡ map (λ (t : OutTable). t.name) tables
names_seen [] places even = refl
names_seen (t ∷ tables) [] even = absurd (nothing _ _ even)
names_seen (t ∷ tables) (p ∷ places) even = ap (λ (ns : List (List ℕ)). t.name ∷ ns) (names_seen tables places (front _ _ _ _ even).1)

-- names that none of these is, and no two of which are the same
record AreNew (known names : List (List ℕ)) : Type 0 where
  new : AllByRecursion (λ (n : List ℕ). is_named n known ≡ false) names
  distinct : IsDistinct same_name names

no_names : (known : List (List ℕ)) → AreNew known []
unfolding IsDistinct
no_names known = record { new = tt; distinct = tt }

neither : (a b : Bool) → (a || (b || false)) ≡ false → (a ≡ false) × (b ≡ false)
neither true b is = absurd (cc)
neither false true is = absurd (cc)
neither false false is = (refl, refl)

not_known : (known : List (List ℕ)) (last name : List ℕ) → is_named name (known ++ last ∷ []) ≡ false
    → (is_named name known ≡ false) × (same_name last name ≡ false)
not_known known last name is =
    neither (is_named name known) (same_name last name)
    (sym (list_any-append (λ (other : List ℕ). same_name other name) known (last ∷ [])) ∙ is)

known_less : (known names : List (List ℕ)) (last : List ℕ) → AllByRecursion (λ (n : List ℕ). is_named n (known ++ last ∷ []) ≡ false) names
    → AllByRecursion (λ (n : List ℕ). is_named n known ≡ false) names × AllByRecursion (λ (n : List ℕ). same_name last n ≡ false) names
known_less known [] last all = (tt, tt)
known_less known (n ∷ names) last all =
    let one : (is_named n known ≡ false) × (same_name last n ≡ false) = not_known known last n all.0 in
    let rest : AllByRecursion (λ (n : List ℕ). is_named n known ≡ false) names × AllByRecursion (λ (n : List ℕ). same_name last n ≡ false) names =
    known_less known names last all.1 in ((one.0, rest.0), (one.1, rest.1))

-- the names of the tables from one row on, whether its table is built or not
part_names : (kinds : List (Option Kind)) (pages : ℕ) (row : SchemaRow) (known : List (List ℕ)) (reading : Reading) (cells : List Row) (part : TablePart)
    (names : List (List ℕ)) → IsReading kinds pages row (is_named row.name known) reading → IsPart reading cells part
    → AreNew (known ++ row.name ∷ []) names → AreNew known (stored_names (built_table row part) ++ names)
part_names kinds pages row known reading cells (Unread cause given) names says is new =
    record { new = (known_less known names row.name new.new).0; distinct = new.distinct }
part_names kinds pages row known (readings.Unread why kind) cells (Built shape rows left) names says is new = absurd is
part_names kinds pages row known (readings.Shape s) cells (Built shape rows left) names says is new =
    let both : AllByRecursion (λ (n : List ℕ). is_named n known ≡ false) names × AllByRecursion (λ (n : List ℕ). same_name row.name n ≡ false) names =
    known_less known names row.name new.new in
    record {
      new = ((no_bar (has_real_key (shape_seen s)) (bytes_eq row.name s.name) (is_reserved row.name) (is_named row.name known) says.1).3, both.0);
      distinct = IsDistinct-cons same_name row.name names both.1 new.distinct;
    }

-- table rows are read in order, those before known by name
names_append : (xs ys : List SchemaRow) → table_names (xs ++ ys) ≡ table_names xs ++ table_names ys
names_append [] ys = refl
names_append (x ∷ xs) ys =
    elim (cases_Bool (is_table x.kind)) [
      | inl is ↦ rw is (ap (λ (ns : List (List ℕ)). x.name ∷ ns) (names_append xs ys))
      | inr isnt ↦ rw isnt (names_append xs ys)
    ]

-- a row behind others is found by their number, and they are those in front of it
found : (before : List SchemaRow) (row : SchemaRow) (rest : List SchemaRow) → slice_get (before ++ row ∷ rest) (length before) ≡ Some row
found [] row rest = refl
found (b ∷ before) row rest = found before row rest

before_is : (before rest : List SchemaRow) → take (length before) (before ++ rest) ≡ before
before_is [] rest = refl
before_is (b ∷ before) rest = ap (λ (rs : List SchemaRow). b ∷ rs) (before_is before rest)

-- what the rows behind those before give, where the rest is gone over
abbrev NamesFrom : List (Option Kind) → ℕ → List SchemaRow → List (List ℕ) → List ℕ → Type 0
NamesFrom kinds pages all known numbers = (rs : List TableReading) (trees : List Tree) (turns : List (List (ℕ × List Outcome))) (fates : List TableFate)
    → map (λ (r : TableReading). r.row) rs ≡ numbers → AllByRecursion (IsReadingIn kinds pages all) rs → AreFates all rs trees turns fates
    → AreNew known (stored_names (flat_map table_of fates))

none_from : (kinds : List (Option Kind)) (pages : ℕ) (all : List SchemaRow) (known : List (List ℕ)) → NamesFrom kinds pages all known []
none_from kinds pages all known (r ∷ rs) trees turns fates numbers say are = absurd (nothing _ _ numbers)
none_from kinds pages all known [] [] [] [] numbers say are = no_names known
none_from kinds pages all known [] trees turns fates numbers say are = absurd are

table_from : (kinds : List (Option Kind)) (pages : ℕ) (all before : List SchemaRow) (row : SchemaRow) (rest : List SchemaRow) (numbers : List ℕ)
    → all ≡ before ++ row ∷ rest → NamesFrom kinds pages all (table_names before ++ row.name ∷ []) numbers
    → NamesFrom kinds pages all (table_names before) (length before ∷ numbers)
table_from kinds pages all before row rest numbers split more [] trees turns fates same say are = absurd (nothing _ _ (sym same))
table_from kinds pages all before row rest numbers split more (r ∷ rs) (t ∷ trees) (ts ∷ turns) (f ∷ fates) same say are =
    let both : (r.row ≡ length before) × (map (λ (r : TableReading). r.row) rs ≡ numbers) = front _ _ _ _ same in
    let at : slice_get all r.row ≡ Some row =
    ap (slice_get all) both.0 ∙ ap (λ (rows : List SchemaRow). slice_get rows (length before)) split ∙ found before row rest in
    let front_is : take r.row all ≡ before =
    ap (λ (n : ℕ). take n all) both.0 ∙ ap (take (length before)) split ∙ before_is before (row ∷ rest) in
    let read : say.0.row ≡ row = some_same say.0.row row (sym say.0.row_is ∙ at) in
    let kept : row ≡ f.row = some_same row f.row (sym at ∙ are.0.row_is) in
    let says : IsReading kinds pages row (is_named row.name (table_names before)) r.reading =
    subst (λ (w : SchemaRow). IsReading kinds pages w (is_named w.name (table_names before)) r.reading) read
    (subst (λ (rows : List SchemaRow). IsReading kinds pages say.0.row (is_named say.0.row.name (table_names rows)) r.reading) front_is say.0.reading) in
    subst (AreNew (table_names before)) (sym (map-append (λ (t : StoredTable). t.name) (table_of f) (flat_map table_of fates)))
    (subst (λ (w : SchemaRow). AreNew (table_names before) (stored_names (built_table w f.part) ++ stored_names (flat_map table_of fates))) kept
    (part_names kinds pages row (table_names before) r.reading _ f.part (stored_names (flat_map table_of fates)) says are.0.part_is
    (more rs trees turns fates both.1 say.1 are.1)))
table_from kinds pages all before row rest numbers split more rs trees turns fates same say are = absurd are

names_from : (kinds : List (Option Kind)) (pages : ℕ) (all before rest : List SchemaRow) → all ≡ before ++ rest
    → NamesFrom kinds pages all (table_names before) (tables_from (length before) rest)
names_from kinds pages all before [] split = none_from kinds pages all (table_names before)
names_from kinds pages all before (row ∷ rest) split =
    let next : NamesFrom kinds pages all (table_names (before ++ row ∷ [])) (tables_from (length (before ++ row ∷ [])) rest) =
    names_from kinds pages all (before ++ row ∷ []) rest (split ∙ sym (append_assoc before (row ∷ []) rest)) in
    let longer : length (before ++ row ∷ []) ≡ length before + 1 = length-append before (row ∷ []) in
    let more : NamesFrom kinds pages all (table_names before ++ table_names (row ∷ [])) (tables_from (length before + 1) rest) =
    subst (λ (n : ℕ). NamesFrom kinds pages all (table_names before ++ table_names (row ∷ [])) (tables_from n rest)) longer
    (subst (λ (known : List (List ℕ)). NamesFrom kinds pages all known (tables_from (length (before ++ row ∷ [])) rest)) (names_append before (row ∷ [])) next) in
    elim (cases_Bool (is_table row.kind)) [
      | inl is ↦
          let here : tables_from (length before) (row ∷ rest) ≡ length before ∷ tables_from (length before + 1) rest = rw is refl in
          let named : table_names (row ∷ []) ≡ row.name ∷ [] = rw is refl in
          subst (NamesFrom kinds pages all (table_names before)) (sym here)
          (table_from kinds pages all before row rest (tables_from (length before + 1) rest) split
          (subst (λ (names : List (List ℕ)). NamesFrom kinds pages all (table_names before ++ names) (tables_from (length before + 1) rest)) named more))
      | inr isnt ↦
          let here : tables_from (length before) (row ∷ rest) ≡ tables_from (length before + 1) rest = rw isnt refl in
          let named : table_names (row ∷ []) ≡ [] = rw isnt refl in
          subst (NamesFrom kinds pages all (table_names before)) (sym here)
          (subst (λ (known : List (List ℕ)). NamesFrom kinds pages all known (tables_from (length before + 1) rest))
          (ap (λ (names : List (List ℕ)). table_names before ++ names) named ∙ append-nil (table_names before)) more)
    ]

-- ---- both

pub valid_tables : (kinds : List (Option Kind)) (pages : ℕ) (rows : List SchemaRow) (rs : List TableReading) (trees : List Tree)
    (turns : List (List (ℕ × List Outcome))) (v : SalvagedTables) → AreReadings kinds pages rows rs → IsSalvage rows rs trees turns v
    → AreValid v.tables.items
valid_tables kinds pages rows rs trees turns v say is =
    let new : AreNew [] (stored_names (flat_map table_of is.fates)) =
    names_from kinds pages rows [] rows refl rs trees turns is.fates say.numbers say.readings is.are in
    record {
      tables_are = tables_are v.tables.items v.places.items is.salvaged.places
          (subst (AllByRecursion IsStored) (sym is.salvaged.tables) (fates_stored kinds pages rows rs trees turns is.fates say.readings is.are));
      names = subst (IsDistinct same_name)
          (ap stored_names (sym is.salvaged.tables) ∙ names_seen v.tables.items v.places.items is.salvaged.places) new.distinct;
    }
