-- The trees that the rows of the schema of a well-formed file want are those that it has.
use Rattle.std.proofs.Common.{◌≡◌, ◌≤◌, ℕ, suc, ◌+◌, ◌-◌, Bool, true, false, Option, Some, None, List, [], ◌∷◌, ◌++◌, map, slice_get, take, refl, sym, ap, ◌∙◌, subst, inl, inr, arith}
use Rattle.std.specs.Prelude.{◌⊎◌, ℤ, pos, filter, nat_le, option_and_then}
use Rattle.std.specs.List.{AllByRecursion, AllZip, concat, flat_map}
use Rattle.std.proofs.lemmas.Bool.{and_parts, cases_Bool, false≢true, leb-true}
use Rattle.std.proofs.lemmas.List.FromFn.{get_or-map-range_with_len}
use Rattle.page_access.specs.Pages.{File}
use Rattle.page_lists.specs.Lists.{count}
use Rattle.page_lists.specs.Table.{is_page}
use Rattle.page_lists.proofs.Counts.{count-append}
use Rattle.cell_reader.specs.declared.shapes.Kind.{Kind}
use Rattle.create_grammar.specs.Said.{is_virtual}
use Rattle.create_reader.specs.Outcome.{IsCreate, IsTableText}
use Rattle.create_reader.proofs.One.{is_related, one_shape}
use Rattle.page_walk.specs.Kinds.{kind_at}
use Rattle.page_walk.specs.Walk.{kind_on, kinds_of, page_named}
use Rattle.page_walk.proofs.Found.{kind_of_page}
use Rattle.raw_schema.specs.declared.rows.SchemaKind.{SchemaKind}
use Rattle.raw_schema.specs.declared.rows.SchemaKind.TheVariants.{Table, Index, View, Trigger}
use Rattle.raw_schema.specs.declared.rows.SchemaRow.{SchemaRow}
use Rattle.report_text.specs.declared.causes.UnreadCause.{UnreadCause}
use Rattle.report_text.specs.declared.causes.UnreadCause.TheVariants as causes
use Rattle.schema_texts.specs.Readings.{AreReadings, HasNoShape, HasShape, IsReading, IsReadingIn, IsRefused, is_table, kind_at_root, kind_of, kind_without, table_names, tables_from}
use Rattle.schema_texts.specs.declared.readings.Reading.{Reading}
use Rattle.schema_texts.specs.declared.readings.Reading.TheVariants as readings
use Rattle.schema_texts.specs.declared.readings.TableReading.{TableReading}
use Rattle.table_shape.specs.Names.{is_named}
use Rattle.table_shape.specs.Seen.{shape_seen}
use Rattle.table_shape.specs.Shape.{Shape}
use Rattle.tree_walks.proofs.Children.{root_of}
use Rattle.use_order.specs.Order.{kind_read, table_tree}
use Rattle.well_formed.specs.Database.{TableRows}
use Rattle.well_formed.specs.Tables.{AreTables, IsTable, is_of, is_stored, is_virtual_sql, tree_kind}
use Rattle.well_formed_uses.specs.Trees.{IsWanted, StoredTree, chains_if, own_chains, own_pages, pages_if}
use Rattle.well_formed_uses.proofs.Stored.{stored_is, tree_in}

-- ---- kinds

root_kind : (f : File) (q : ℕ) → is_page f.pages q ≡ true → kind_at_root (kinds_of f) f.pages (pos q) ≡ kind_on f q
root_kind f q page =
    let named : page_named f.pages (pos q) ≡ Some q = rw page refl in
    ap (option_and_then (kind_at (kinds_of f))) named ∙ kind_of_page f q page

-- ---- the text of a table that has a tree

-- the shape of a table is that of its text
pub text_shape : (f : File) (row : SchemaRow) (t : TableRows) (used : List ℕ) (is : IsTable f row t used) (s : Shape) → HasShape row.sql s → s ≡ is.shape
text_shape f row t used is s has =
    let create : IsCreate t.text s = subst (λ (o : Option (List ℕ)). HasShape o s) is.text has in
    one_shape t.text s is.shape (is_related t.text s create) is.shape_is

-- it is not virtual
not_virtual : (text : List ℕ) (shape : Shape) → IsTableText text shape → is_virtual text ≡ true → ⊥
not_virtual text shape is virtual = false≢true (sym is.plain ∙ virtual)

kind_of_text : (f : File) (text : List ℕ) (shape : Shape) (root : ℕ) (cause : UnreadCause) → IsTableText text shape → is_page f.pages root ≡ true
    → IsRefused text cause → kind_without (kinds_of f) f.pages (pos root) cause ≡ kind_on f root
kind_of_text f text shape root causes.Text is page refused = root_kind f root page
kind_of_text f text shape root causes.Virtual is page refused = absurd (not_virtual text shape is refused)
kind_of_text f text shape root (causes.Form at) is page refused = root_kind f root page
kind_of_text f text shape root causes.Generated is page refused = root_kind f root page
kind_of_text f text shape root causes.Limit is page refused = root_kind f root page
kind_of_text f text shape root causes.Key is page refused = root_kind f root page
kind_of_text f text shape root causes.Real is page refused = root_kind f root page
kind_of_text f text shape root causes.Name is page refused = root_kind f root page
kind_of_text f text shape root causes.Reserved is page refused = root_kind f root page
kind_of_text f text shape root causes.Double is page refused = root_kind f root page
kind_of_text f text shape root (causes.Unordered place) is page refused = root_kind f root page

-- whatever its text says, the tree that it wants has its kind
pub stored_kind : (f : File) (row : SchemaRow) (t : TableRows) (used : List ℕ) (double : Bool) (reading : Reading) (is : IsTable f row t used)
    → IsReading (kinds_of f) f.pages row double reading → kind_read reading ≡ Some (tree_kind is.shape)
stored_kind f row t used double (readings.Shape s) is read =
    ap (λ (x : Shape). Some (kind_of x)) (text_shape f row t used is (shape_seen s) read.0)
stored_kind f row t used double (readings.Unread cause kind) is (inl barred) =
    barred.kind_is ∙ ap (λ (x : Shape). Some (kind_of x)) (text_shape f row t used is barred.shape barred.has_shape)
stored_kind f row t used double (readings.Unread cause kind) is (inr shapeless) =
    let root = root_of f (tree_kind is.shape) is.root is.stored.tree.depth is.root is.stored.tree.is_tree in
    shapeless.kind_is
    ∙ ap (λ (z : ℤ). kind_without (kinds_of f) f.pages z cause) is.root_is
    ∙ kind_of_text f t.text is.shape is.root cause is.shape_is root.0 (subst (λ (o : Option (List ℕ)). HasNoShape o cause) is.text shapeless.no_shape)
    ∙ root.1

-- ---- the text of a virtual table

virtual_shape : (sql : Option (List ℕ)) (s : Shape) → is_virtual_sql sql ≡ true → HasShape sql s → ⊥
virtual_shape None s virtual has = has
virtual_shape (Some text) s virtual has = false≢true (sym has.plain ∙ virtual)

virtual_cause : (text : List ℕ) (cause : UnreadCause) → is_virtual text ≡ true → IsRefused text cause → cause ≡ causes.Virtual
virtual_cause text causes.Text virtual refused = absurd refused
virtual_cause text causes.Virtual virtual refused = refl
virtual_cause text (causes.Form at) virtual refused = absurd (false≢true (sym refused.plain ∙ virtual))
virtual_cause text causes.Generated virtual refused = absurd (false≢true (sym refused.plain ∙ virtual))
virtual_cause text causes.Limit virtual refused = absurd (false≢true (sym refused.plain ∙ virtual))
virtual_cause text causes.Key virtual refused = absurd (false≢true (sym refused.plain ∙ virtual))
virtual_cause text causes.Real virtual refused = absurd refused
virtual_cause text causes.Name virtual refused = absurd refused
virtual_cause text causes.Reserved virtual refused = absurd refused
virtual_cause text causes.Double virtual refused = absurd refused
virtual_cause text (causes.Unordered place) virtual refused = absurd refused

no_shape_cause : (sql : Option (List ℕ)) (cause : UnreadCause) → is_virtual_sql sql ≡ true → HasNoShape sql cause → cause ≡ causes.Virtual
no_shape_cause None cause virtual none = absurd (false≢true virtual)
no_shape_cause (Some text) cause virtual none = virtual_cause text cause virtual none

-- a virtual table is not read, and wants no tree
pub record IsVirtual (reading : Reading) : Type 0 where
  pub cause : UnreadCause
  pub reading_is : reading ≡ readings.Unread cause None

pub virtual_read : (ks : List (Option Kind)) (pages : ℕ) (row : SchemaRow) (double : Bool) (reading : Reading) → is_virtual_sql row.sql ≡ true
    → IsReading ks pages row double reading → IsVirtual reading
virtual_read ks pages row double (readings.Shape s) virtual read = absurd (virtual_shape row.sql (shape_seen s) virtual read.0)
virtual_read ks pages row double (readings.Unread cause kind) virtual (inl barred) = absurd (virtual_shape row.sql barred.shape virtual barred.has_shape)
virtual_read ks pages row double (readings.Unread cause kind) virtual (inr shapeless) =
    let is : cause ≡ causes.Virtual = no_shape_cause row.sql cause virtual shapeless.no_shape in
    let none : kind ≡ None = shapeless.kind_is ∙ ap (kind_without ks pages row.root) is in
    record { cause = cause; reading_is = ap (λ (k : Option Kind). readings.Unread cause k) none }

-- ---- the table rows of the schema, each with the tree that it has

-- the same sorts by both words for them
table_sort : (kind : SchemaKind) → is_of Table kind ≡ is_table kind
table_sort Table = refl
table_sort Index = refl
table_sort View = refl
table_sort Trigger = refl

-- a table row: what its text says, and the table with its pages; or it is virtual
pub record StoredRow (f : File) (row : SchemaRow) (r : TableReading) : Type 0 where
  pub t : TableRows
  pub used : List ℕ
  pub is : IsTable f row t used

abbrev pub RowIs : File → SchemaRow → TableReading → Type 0
RowIs f row r = StoredRow f row r ⊎ (is_virtual_sql row.sql ≡ true)

-- a table row, its number among all rows, its reading, and its table
pub record TableRow (f : File) (all : List SchemaRow) (r : TableReading) : Type 0 where
  pub row : SchemaRow
  pub there : slice_get all r.row ≡ Some row
  pub sort : is_table row.kind ≡ true
  pub read : IsReadingIn (kinds_of f) f.pages all r
  pub is : RowIs f row r

abbrev pub tree_if : {f : File} {row : SchemaRow} {r : TableReading} → RowIs f row r → Option StoredTree
tree_if (inl s) = Some (tree_in s.is.stored)
tree_if (inr virtual) = None

abbrev pub tables_if : {f : File} {row : SchemaRow} {r : TableReading} → RowIs f row r → List TableRows
tables_if (inl s) = s.t ∷ []
tables_if (inr virtual) = []

-- the readings with the rows that they are of
abbrev pub TableRowsOf : File → List SchemaRow → List TableReading → Type 0
TableRowsOf f all [] = Unit {0}
TableRowsOf f all (r ∷ rs) = TableRow f all r × TableRowsOf f all rs

abbrev pub trees_of : (f : File) (all : List SchemaRow) (rs : List TableReading) → TableRowsOf f all rs → List (Option StoredTree)
trees_of f all [] rows = []
trees_of f all (r ∷ rs) rows = tree_if rows.0.is ∷ trees_of f all rs rows.1

abbrev pub tables_of : (f : File) (all : List SchemaRow) (rs : List TableReading) → TableRowsOf f all rs → List TableRows
tables_of f all [] rows = []
tables_of f all (r ∷ rs) rows = tables_if rows.0.is ++ tables_of f all rs rows.1

one_reading : (all : List SchemaRow) (f : File) (r : TableReading) (row : SchemaRow) → slice_get all r.row ≡ Some row
    → (read : IsReadingIn (kinds_of f) f.pages all r) → (read.row ≡ row)
one_reading all f r row there read = let both : Some read.row ≡ Some row = sym read.row_is ∙ there in cc

tree_wanted : (f : File) (all : List SchemaRow) (r : TableReading) (w : TableRow f all r) → IsWanted f (table_tree r) (tree_if w.is)
tree_wanted f all r w = by_row w.is
  where
    same : w.read.row ≡ w.row
    same = one_reading all f r w.row w.there w.read

    by_row : (x : RowIs f w.row r) → IsWanted f (table_tree r) (tree_if x)
    by_row (inl s) = (
      w.read.root_is ∙ ap (λ (x : SchemaRow). x.root) same ∙ s.is.root_is,
      stored_kind f w.row s.t s.used (is_named w.read.row.name (table_names (take r.row all))) r.reading s.is
          (subst (λ (x : SchemaRow). IsReading (kinds_of f) f.pages x (is_named w.read.row.name (table_names (take r.row all))) r.reading) same w.read.reading),
      (stored_is s.is.stored).grown,
    )
    by_row (inr virtual) =
        let v = virtual_read (kinds_of f) f.pages w.read.row (is_named w.read.row.name (table_names (take r.row all))) r.reading
        (ap (λ (x : SchemaRow). is_virtual_sql x.sql) same ∙ virtual) w.read.reading in
        ap kind_read v.reading_is

pub trees_wanted : (f : File) (all : List SchemaRow) (rs : List TableReading) (rows : TableRowsOf f all rs)
    → AllZip (IsWanted f) (map table_tree rs) (trees_of f all rs rows)
trees_wanted f all [] rows = tt
trees_wanted f all (r ∷ rs) rows = (tree_wanted f all r rows.0, trees_wanted f all rs rows.1)

-- the table rows with their tables, and the pages of these
pub record Matched (f : File) (all : List SchemaRow) (rs : List TableReading) (tables : List TableRows) (used : List (List ℕ)) : Type 0 where
  pub rows : TableRowsOf f all rs
  pub tables_are : tables ≡ tables_of f all rs rows
  pub used_are : (q : ℕ) → count q (concat used) ≡ count q (flat_map (pages_if f) (trees_of f all rs rows)) + count q (flat_map (chains_if f) (trees_of f all rs rows))

-- one row more
virtual_more : (f : File) (all : List SchemaRow) (r : TableReading) (rs : List TableReading) (tables : List TableRows) (used : List (List ℕ)) (row : SchemaRow)
    → slice_get all r.row ≡ Some row → is_table row.kind ≡ true → IsReadingIn (kinds_of f) f.pages all r → is_virtual_sql row.sql ≡ true
    → Matched f all rs tables used → Matched f all (r ∷ rs) tables used
virtual_more f all r rs tables used row there sort read virtual m = record {
  rows = (record { row = row; there = there; sort = sort; read = read; is = inr virtual }, m.rows);
  tables_are = m.tables_are;
  used_are = m.used_are;
}

stored_more : (f : File) (all : List SchemaRow) (r : TableReading) (rs : List TableReading) (t : TableRows) (tables : List TableRows) (x : List ℕ) (used : List (List ℕ)) (row : SchemaRow)
    → slice_get all r.row ≡ Some row → is_table row.kind ≡ true → IsReadingIn (kinds_of f) f.pages all r → IsTable f row t x
    → Matched f all rs tables used → Matched f all (r ∷ rs) (t ∷ tables) (x ∷ used)
stored_more f all r rs t tables x used row there sort read is m =
    let tree : StoredTree = tree_in is.stored in
    let w = stored_is is.stored in
    record {
      rows = (record { row = row; there = there; sort = sort; read = read; is = inl (record { t = t; used = x; is = is }) }, m.rows);
      tables_are = ap (λ (ts : List TableRows). t ∷ ts) m.tables_are;
      used_are = λ q. omega (
        arith,
        count-append q x (concat used),
        w.used_are q,
        m.used_are q,
        count-append q (own_pages f tree) (flat_map (pages_if f) (trees_of f all rs m.rows)),
        count-append q (own_chains f tree) (flat_map (chains_if f) (trees_of f all rs m.rows)),
      );
    }

-- the readings of the rows from row i on
record Behind (f : File) (all rows : List SchemaRow) (i : ℕ) (rs : List TableReading) : Type 0 where
  numbers : map (λ (r : TableReading). r.row) rs ≡ tables_from i rows
  read : AllByRecursion (IsReadingIn (kinds_of f) f.pages all) rs
  same : (j : ℕ) → slice_get rows j ≡ slice_get all (i + j)

next_rows : (f : File) (all : List SchemaRow) (row : SchemaRow) (rows : List SchemaRow) (i : ℕ) (rs : List TableReading)
    → map (λ (r : TableReading). r.row) rs ≡ tables_from (i + 1) rows → AllByRecursion (IsReadingIn (kinds_of f) f.pages all) rs
    → ((j : ℕ) → slice_get (row ∷ rows) j ≡ slice_get all (i + j)) → Behind f all rows (i + 1) rs
next_rows f all row rows i rs numbers read same = record {
  numbers = numbers;
  read = read;
  same = λ j. let on : i + suc j ≡ i + 1 + j = omega arith in same (suc j) ∙ ap (slice_get all) on;
}

here_is : (all : List SchemaRow) (row : SchemaRow) (rows : List SchemaRow) (i : ℕ) (r : TableReading) → r.row ≡ i
    → ((j : ℕ) → slice_get (row ∷ rows) j ≡ slice_get all (i + j)) → slice_get all r.row ≡ Some row
here_is all row rows i r is same =
    let on : i + 0 ≡ i = omega arith in
    ap (slice_get all) (is ∙ sym on) ∙ sym (same 0)

-- a row of another sort
other_row : (row : SchemaRow) (rows : List SchemaRow) (i : ℕ) → is_table row.kind ≡ false → tables_from i (row ∷ rows) ≡ tables_from (i + 1) rows
other_row row rows i e = rw e refl

table_row : (row : SchemaRow) (rows : List SchemaRow) (i : ℕ) → is_table row.kind ≡ true → tables_from i (row ∷ rows) ≡ i ∷ tables_from (i + 1) rows
table_row row rows i e = rw e refl

stored_first : (row : SchemaRow) (rows : List SchemaRow) → is_table row.kind ≡ true → is_virtual_sql row.sql ≡ false → filter is_stored (row ∷ rows) ≡ row ∷ filter is_stored rows
stored_first row rows e plain = let sort : is_of Table row.kind ≡ true = table_sort row.kind ∙ e in rw (sort, plain) refl

virtual_first : (row : SchemaRow) (rows : List SchemaRow) → is_virtual_sql row.sql ≡ true → filter is_stored (row ∷ rows) ≡ filter is_stored rows
virtual_first row rows virtual = by_sort (is_of Table row.kind) refl
  where
    by_sort : (b : Bool) → is_of Table row.kind ≡ b → filter is_stored (row ∷ rows) ≡ filter is_stored rows
    by_sort true e = rw (e, virtual) refl
    by_sort false e = rw e refl

other_first : (row : SchemaRow) (rows : List SchemaRow) → is_table row.kind ≡ false → filter is_stored (row ∷ rows) ≡ filter is_stored rows
other_first row rows e = let sort : is_of Table row.kind ≡ false = table_sort row.kind ∙ e in rw sort refl

stored_table : (f : File) (all : List SchemaRow) (row : SchemaRow) (rows : List SchemaRow) (i : ℕ) (r : TableReading) (rs : List TableReading) (tables : List TableRows) (used : List (List ℕ))
    → ((ts : List TableRows) (us : List (List ℕ)) → AreTables f (filter is_stored rows) ts us → Matched f all rs ts us)
    → slice_get all r.row ≡ Some row → is_table row.kind ≡ true → IsReadingIn (kinds_of f) f.pages all r
    → AreTables f (row ∷ filter is_stored rows) tables used → Matched f all (r ∷ rs) tables used
stored_table f all row rows i r rs [] [] below there sort read are = absurd are
stored_table f all row rows i r rs [] (x ∷ used) below there sort read are = absurd are
stored_table f all row rows i r rs (t ∷ tables) [] below there sort read are = absurd are
stored_table f all row rows i r rs (t ∷ tables) (x ∷ used) below there sort read are =
    stored_more f all r rs t tables x used row there sort read are.0 (below tables used are.1)

one_table : (f : File) (all : List SchemaRow) (row : SchemaRow) (rows : List SchemaRow) (i : ℕ) (rs : List TableReading) (tables : List TableRows) (used : List (List ℕ))
    → ((others : List TableReading) (ts : List TableRows) (us : List (List ℕ)) → Behind f all rows (i + 1) others → AreTables f (filter is_stored rows) ts us → Matched f all others ts us)
    → map (λ (r : TableReading). r.row) rs ≡ i ∷ tables_from (i + 1) rows → AllByRecursion (IsReadingIn (kinds_of f) f.pages all) rs
    → ((j : ℕ) → slice_get (row ∷ rows) j ≡ slice_get all (i + j)) → is_table row.kind ≡ true
    → AreTables f (filter is_stored (row ∷ rows)) tables used → Matched f all rs tables used
one_table f all row rows i [] tables used below numbers read same table are = absurd (cc)
one_table f all row rows i (r ∷ rs) tables used below numbers read same table are =
    let number : r.row ≡ i = cc in
    let later : map (λ (x : TableReading). x.row) rs ≡ tables_from (i + 1) rows = cc in
    let there : slice_get all r.row ≡ Some row = here_is all row rows i r number same in
    let rest : Behind f all rows (i + 1) rs = next_rows f all row rows i rs later read.1 same in
    elim (cases_Bool (is_virtual_sql row.sql)) [
      | inl virtual ↦
          virtual_more f all r rs tables used row there table read.0 virtual
          (below rs tables used rest (subst (λ (xs : List SchemaRow). AreTables f xs tables used) (virtual_first row rows virtual) are))
      | inr plain ↦
          stored_table f all row rows i r rs tables used (λ ts us others. below rs ts us rest others) there table read.0
          (subst (λ (xs : List SchemaRow). AreTables f xs tables used) (stored_first row rows table plain) are)
    ]

matched_from : (f : File) (all rows : List SchemaRow) (i : ℕ) (rs : List TableReading) (tables : List TableRows) (used : List (List ℕ))
    → Behind f all rows i rs → AreTables f (filter is_stored rows) tables used → Matched f all rs tables used
matched_from f all [] i [] [] [] b are = record { rows = tt; tables_are = refl; used_are = λ q. refl }
matched_from f all [] i [] [] (x ∷ used) b are = absurd are
matched_from f all [] i [] (t ∷ tables) used b are = absurd are
matched_from f all [] i (r ∷ rs) tables used b are = absurd (let none : r.row ∷ map (λ (x : TableReading). x.row) rs ≡ [] = b.numbers in cc)
matched_from f all (row ∷ rows) i rs tables used b are =
    elim (cases_Bool (is_table row.kind)) [
      | inl table ↦
          one_table f all row rows i rs tables used (λ others ts us behind these. matched_from f all rows (i + 1) others ts us behind these)
          (b.numbers ∙ table_row row rows i table) b.read b.same table are
      | inr other ↦
          matched_from f all rows (i + 1) rs tables used (next_rows f all row rows i rs (b.numbers ∙ other_row row rows i other) b.read b.same)
          (subst (λ (xs : List SchemaRow). AreTables f xs tables used) (other_first row rows other) are)
    ]

pub matched : (f : File) (all : List SchemaRow) (rs : List TableReading) (tables : List TableRows) (used : List (List ℕ))
    → AreReadings (kinds_of f) f.pages all rs → AreTables f (filter is_stored all) tables used → Matched f all rs tables used
matched f all rs tables used readings are =
    matched_from f all all 0 rs tables used (record { numbers = readings.numbers; read = readings.readings; same = λ j. let none : j ≡ 0 + j = omega arith in ap (slice_get all) none }) are
