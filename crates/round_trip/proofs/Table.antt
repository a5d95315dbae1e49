-- A table of a well-formed file in scope comes back.
use Rattle.std.proofs.Common.{◌≡◌, ◌≤◌, ℕ, Bool, true, false, Option, Some, None, List, [], ◌∷◌, length, map, refl, sym, ap, ◌∙◌, subst, unwrap_or}
use Rattle.std.specs.Prelude.{ℤ, if◌then◌else◌}
use Rattle.std.specs.List.{AllByRecursion, flat_map}
use Rattle.std.specs.List.Sorted.{IsPermutation}
use Rattle.std.proofs.lemmas.List.Sorted.{IsPermutation-map, IsPermutation-sym}
use Rattle.page_access.specs.Pages.{File}
use Rattle.cell_reader.specs.declared.shapes.Kind.{Kind}
use Rattle.cell_reader.specs.declared.shapes.Kind.TheVariants as kinds
use Rattle.page_walk.specs.Cells.{Row, row_of}
use Rattle.raw_schema.specs.declared.rows.SchemaRow.{SchemaRow}
use Rattle.schema_texts.specs.declared.readings.Reading.{Reading}
use Rattle.schema_texts.specs.declared.readings.Reading.TheVariants as readings
use Rattle.table_fill.specs.Chosen.{left_seen}
use Rattle.table_fill.specs.Fates.{Left, held}
use Rattle.table_fill.specs.Laws.{Stays}
use Rattle.table_fill.proofs.Staying.{rows_stay}
use Rattle.table_parts.specs.declared.parts.TablePart.{TablePart}
use Rattle.table_parts.specs.declared.parts.TablePart.TheVariants as parts
use Rattle.table_parts.specs.Laws.{lost_cells}
use Rattle.table_parts.specs.Parts.{IsPart}
use Rattle.table_shape.specs.Keys.{AreRows, Keys, StoredRow, keys_of}
use Rattle.table_shape.specs.Seen.{shape_seen}
use Rattle.table_shape.specs.Shape.{Shape}
use Rattle.report_text.specs.declared.causes.UnreadCause.{UnreadCause}
use Rattle.table_shape.specs.declared.shapes.TableShape.{TableShape}
use Rattle.tree_forms.specs.Node.{Held, node_of}
use Rattle.tree_forms.specs.Tree.{IsTree, bare}
use Rattle.tree_walks.specs.Read.{HasRecord, rows_on}
use Rattle.tree_walks.specs.Rows.{all_entries}
use Rattle.salvaged_tables.specs.Fates.{built_table, stored_row}
use Rattle.well_formed.specs.Database.{TableRows}
use Rattle.well_formed.specs.Tables.{IsTable, tree_kind}
use Rattle.well_formed_uses.specs.Rows.{unplaced}
use Rattle.well_formed_uses.specs.Trees.{StoredTree, own_pages}
use Rattle.well_formed_uses.proofs.Stored.{all_moved, stored_is, tree_in}
use Rattle.round_trip.specs.Laws.{as_rows}
use Rattle.round_trip.specs.Scope.{IsFaultless}
use Rattle.round_trip.specs.Values.{row_in}
use Rattle.round_trip.proofs.Lifting.{Lifted, lifted}
use Rattle.round_trip.proofs.Rowless.{IsRowless, tree_rowless}
use Rattle.round_trip.proofs.Sound.{few_columns}
use Rattle.round_trip.proofs.Values.{bare_held, bare_records, pages_held, spelled_records, spelled_rows}

-- ---- rows

-- a table that is stored as its rows, with no rowids WITHOUT ROWID
kept_rows : (rows : List Row) → map held (map (stored_row false) rows) ≡ map held rows
kept_rows [] = refl
kept_rows (r ∷ rows) = ap (λ (rs : List StoredRow). held r ∷ rs) (kept_rows rows)

bare_rows : (rows : List Row) → AllByRecursion (λ (r : StoredRow). r.rowid ≡ None) (map held rows) → map held (map (stored_row true) rows) ≡ map held rows
bare_rows [] none = refl
bare_rows (r ∷ rows) none =
    ap (λ (n : Option ℤ). record { rowid = n; fields = r.fields } ∷ map held (map (stored_row true) rows)) (sym none.0)
    ∙ ap (λ (rs : List StoredRow). held r ∷ rs) (bare_rows rows none.1)

same_rows : (b : Bool) (rows : List Row) → (b ≡ true → AllByRecursion (λ (r : StoredRow). r.rowid ≡ None) (map held rows)) → map held (map (stored_row b) rows) ≡ map held rows
same_rows true rows none = bare_rows rows (none refl)
same_rows false rows none = kept_rows rows

-- the rows of rowless cells
rowless_rows : (f : File) (hs : List Held) → AllByRecursion IsRowless hs → AllByRecursion (λ (r : StoredRow). r.rowid ≡ None) (map (row_in f) hs)
rowless_rows f [] all = tt
rowless_rows f (h ∷ hs) all = (all.0, rowless_rows f hs all.1)

bare_rowless : (hs : List Held) → AllByRecursion IsRowless (map bare hs) → AllByRecursion IsRowless hs
bare_rowless [] all = tt
bare_rowless (h ∷ hs) all = (all.0, bare_rowless hs all.1)

-- ---- the cells of a table's tree

-- the records of the cells can be read, and the rows among them are those of the table in another order
pub record TreeRows (f : File) (row : SchemaRow) (t : TableRows) (used : List ℕ) (is : IsTable f row t used) : Type 0 where
  pub records : AllByRecursion (HasRecord f) (all_entries f (own_pages f (tree_in is.stored)))
  pub rows_are : IsPermutation (map held (flat_map (rows_on f) (own_pages f (tree_in is.stored)))) t.rows
  pub rowless : is.shape.without_rowid ≡ true → AllByRecursion (λ (r : StoredRow). r.rowid ≡ None) t.rows

pub tree_rows : (f : File) (row : SchemaRow) (t : TableRows) (used : List ℕ) (is : IsTable f row t used) → IsFaultless t.text → TreeRows f row t used is
tree_rows f row t used is sound =
    let tree : StoredTree = tree_in is.stored in
    let w = stored_is is.stored in
    let entries : List Held = all_entries f (own_pages f tree) in
    let few : length is.shape.columns ≤ 1996 = few_columns t.text is.shape is.shape_is sound in
    let keys : Keys = keys_of is.shape in
    let rows : map (row_in f) is.cells ≡ t.rows = spelled_rows f keys is.cells t.rows is.rows is.are.fit few in
    let records : AllByRecursion (HasRecord f) (map bare is.cells) = bare_records f is.cells (spelled_records f keys is.cells t.rows is.rows is.are.fit few) in
    let moved : IsPermutation (map (row_in f) (map bare is.cells)) (map (row_in f) entries) = IsPermutation-map (row_in f) (map bare is.cells) entries w.cells_are in
    let moved' : IsPermutation t.rows (map (row_in f) entries) =
    subst (λ (rs : List StoredRow). IsPermutation rs (map (row_in f) entries)) (bare_held f is.cells ∙ rows) moved in
    record {
      records = all_moved (HasRecord f) (map bare is.cells) entries w.cells_are records;
      rows_are = subst (λ (rs : List StoredRow). IsPermutation rs t.rows) (sym (pages_held f (own_pages f tree)))
          (IsPermutation-sym t.rows (map (row_in f) entries) moved');
      rowless = λ without.
          let kind : tree_kind is.shape ≡ kinds.Index = ap {B = Kind} (λ (b : Bool). if b then kinds.Index else kinds.Table) without in
          let all : AllByRecursion IsRowless entries =
          tree_rowless f tree.depth tree.root (subst (λ (k : Kind). IsTree (node_of f) k tree.root tree.depth tree.root) kind w.grown.tree) in
          let back : AllByRecursion IsRowless (map bare is.cells) =
          all_moved IsRowless entries (map bare is.cells) (IsPermutation-sym (map bare is.cells) entries w.cells_are) all in
          subst (AllByRecursion (λ (r : StoredRow). r.rowid ≡ None)) rows (rowless_rows f is.cells (bare_rowless is.cells back));
    }

-- ---- what is built

-- the table comes back, and nothing is lost
pub record PartIs (x : SchemaRow) (part : TablePart) (tables : List TableRows) : Type 0 where
  pub tables_are : map as_rows (built_table x part) ≡ tables
  pub none_lost : lost_cells part ≡ []

none_left : (left : List Left) → left ≡ [] → map (λ (l : Left). l.row) left ≡ []
none_left left is = ap (map (λ (l : Left). l.row)) is

stored_text : (sql : Option (List ℕ)) (text : List ℕ) → sql ≡ Some text → unwrap_or sql [] ≡ text
stored_text sql text is = ap (λ (o : Option (List ℕ)). unwrap_or o []) is

pub table_back : (f : File) (x row : SchemaRow) (t : TableRows) (used : List ℕ) (is : IsTable f row t used) (cells : List Row) (reading : Reading) (part : TablePart)
    → unplaced x ≡ row → TreeRows f row t used is → cells ≡ flat_map (rows_on f) (own_pages f (tree_in is.stored))
    → (found : TableShape) → reading ≡ readings.Shape found → shape_seen found ≡ is.shape → IsPart reading cells part → PartIs x part (t ∷ [])
table_back f x row t used is cells reading part same rows cells_are found reading_is shape_is part_is =
    by_part part (subst (λ (r : Reading). IsPart r cells part) reading_is part_is)
  where
    moved : IsPermutation (map held cells) t.rows
    moved = subst (λ (rs : List Row). IsPermutation (map held rs) t.rows) (sym cells_are) rows.rows_are

    lift : Lifted held cells t.rows
    lift = lifted held cells t.rows moved

    stays : Stays (keys_of (shape_seen found)) cells lift.items
    stays = rows_stay (keys_of (shape_seen found)) cells lift.items lift.moved
        (subst (AreRows (keys_of (shape_seen found))) (sym lift.gives) (subst (λ (z : Shape). AreRows (keys_of z) t.rows) (sym shape_is) is.are))

    by_part : (p : TablePart) → IsPart (readings.Shape found) cells p → PartIs x p (t ∷ [])
    by_part (parts.Built shape stored left) is_so =
        let kept : map row_of stored.items ≡ lift.items = is_so.1.rows_are ∙ stays.rows_are in
        let none : map left_seen left.items ≡ [] = is_so.1.left_are ∙ stays.none_left in
        let shape_same : shape_seen shape ≡ is.shape = is_so.0 ∙ shape_is in
        let name : x.name ≡ t.name = ap (λ (r : SchemaRow). r.name) same ∙ is.name in
        let text : unwrap_or x.sql [] ≡ t.text = stored_text x.sql t.text (ap (λ (r : SchemaRow). r.sql) same ∙ is.text) in
        let held_are : map held (map (stored_row (shape_seen shape).without_rowid) (map row_of stored.items)) ≡ t.rows =
        ap (λ (rs : List Row). map held (map (stored_row (shape_seen shape).without_rowid) rs)) kept
        ∙ same_rows (shape_seen shape).without_rowid lift.items (λ without.
        subst (AllByRecursion (λ (r : StoredRow). r.rowid ≡ None)) (sym lift.gives) (rows.rowless (sym (ap (λ (z : Shape). z.without_rowid) shape_same) ∙ without)))
        ∙ lift.gives in
        record {
          tables_are = ap (λ (n : List ℕ). record {
            name = n;
            text = unwrap_or x.sql [];
            rows = map held (map (stored_row (shape_seen shape).without_rowid) (map row_of stored.items));
          } ∷ []) name
              ∙ ap (λ (z : List ℕ). record { name = t.name; text = z; rows = map held (map (stored_row (shape_seen shape).without_rowid) (map row_of stored.items)) } ∷ []) text
              ∙ ap (λ (rs : List StoredRow). record { name = t.name; text = t.text; rows = rs } ∷ []) held_are;
          none_lost = none_left (map left_seen left.items) none;
        }
    by_part (parts.Unread cause given) is_so = absurd (let wrong : None ≡ Some is_so.place = sym stays.ordered ∙ is_so.first in cc)

-- a virtual table is not built, and has no cells
pub virtual_back : (x : SchemaRow) (cause : UnreadCause) (kind : Option Kind) (part : TablePart) → IsPart (readings.Unread cause kind) [] part → PartIs x part []
virtual_back x cause kind (parts.Built shape stored left) is = absurd is
virtual_back x cause kind (parts.Unread why given) is = record { tables_are = refl; none_lost = is.1 }
