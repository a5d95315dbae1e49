-- A file spells at most one database: its bytes fix the header's numbers, the rows of the schema, and then each table.
use Rattle.std.proofs.Common.{◌≡◌, ◌∙◌, ◌≤◌, ◌⊎◌, inl, inr, ℕ, ◌*◌, ◌/◌, Bool, true, false, ℤ, pos, Option, Some, None, List, [], ◌∷◌, length, filter, refl, sym, ap, subst, arith}
use Rattle.std.specs.List.{AllZip}
use Rattle.page_access.specs.Pages.{File}
use Rattle.cell_reader.specs.declared.shapes.Kind.{Kind}
use Rattle.cell_reader.specs.declared.shapes.Kind.TheVariants as kinds
use Rattle.record_core.specs.declared.values.Value.{Value}
use Rattle.record_core.proofs.Again.{record_once}
use Rattle.create_reader.specs.Outcome.{IsTableText}
use Rattle.create_reader.proofs.One.{one_shape}
use Rattle.raw_schema.specs.declared.rows.SchemaRow.{SchemaRow}
use Rattle.raw_schema.specs.Rows.{row_in}
use Rattle.table_shape.specs.Keys.{StoredRow}
use Rattle.table_shape.specs.Shape.{Shape}
use Rattle.tree_forms.specs.Node.{Held, node_of}
use Rattle.tree_forms.specs.Payload.{own_of, payload_of}
use Rattle.tree_forms.specs.Tree.{entries}
use Rattle.tree_forms.proofs.Trees.{one_tree}
use Rattle.well_formed.specs.Database.{Database, TableRows, empty_database}
use Rattle.well_formed.specs.Header.{IsHeader, file_in}
use Rattle.well_formed.specs.Laws.{OneDatabase}
use Rattle.well_formed.specs.Spells.{IsSchema, IsWellFormed, Spells}
use Rattle.well_formed.specs.Stored.{IsStored, SpellsEntry, SpellsStored, no_place}
use Rattle.well_formed.specs.Tables.{AreTables, IsTable, is_stored, tree_kind}

-- root and kind fix the cells of a tree
one_stored : (f : File) (kind : Kind) (p : ℕ) (cells other : List Held) (used more : List ℕ) → IsStored f kind p cells used → IsStored f kind p other more → cells ≡ other
one_stored f kind p cells other used more a b =
    a.cells_are ∙ ap entries (one_tree (node_of f) (own_of f) kind p a.items b.items used more a.tree b.tree).0 ∙ sym b.cells_are

-- what R relates to each of the same cells is the same, where it is so of each cell
same_zipped : {X : Type 0} (R : Held → X → Type 0) → ((h : Held) (x y : X) → R h x → R h y → x ≡ y)
    → (cells : List Held) (xs ys : List X) → AllZip R cells xs → AllZip R cells ys → xs ≡ ys
same_zipped R one [] [] [] a b = refl
same_zipped R one [] [] (y ∷ ys) a b = absurd b
same_zipped R one [] (x ∷ xs) ys a b = absurd a
same_zipped R one (h ∷ hs) [] ys a b = absurd a
same_zipped R one (h ∷ hs) (x ∷ xs) [] a b = absurd b
same_zipped {X} R one (h ∷ hs) (x ∷ xs) (y ∷ ys) a b =
    ap (λ (z : X). z ∷ xs) (one h x y a.0 b.0) ∙ ap (λ (zs : List X). y ∷ zs) (same_zipped R one hs xs ys a.1 b.1)

one_entry : (f : File) (h : Held) (row other : SchemaRow) → SpellsEntry f h row → SpellsEntry f h other → row ≡ other
one_entry f h row other a b =
    let same : a.values ≡ b.values = record_once (payload_of f h) a.values b.values a.fields b.fields in
    let both : Some row ≡ Some other = sym a.is_row ∙ ap (row_in no_place) same ∙ b.is_row in
    cc

one_row : (f : File) (h : Held) (row other : StoredRow) → SpellsStored f h row → SpellsStored f h other → row ≡ other
one_row f h row other a b =
    ap (λ (r : Option ℤ). record { rowid = r; fields = row.fields }) (a.rowid ∙ sym b.rowid)
    ∙ ap (λ (vs : List Value). record { rowid = other.rowid; fields = vs }) (record_once (payload_of f h) row.fields other.fields a.fields b.fields)

-- the rows of a table are fixed by the shape and the root
one_rows : (f : File) (row : SchemaRow) (t u : TableRows) (used more : List ℕ) → IsTable f row t used → IsTable f row u more → t.rows ≡ u.rows
one_rows f row t u used more a b =
    let text : t.text ≡ u.text = let both : Some t.text ≡ Some u.text = sym a.text ∙ b.text in cc in
    let shape : a.shape ≡ b.shape = one_shape u.text a.shape b.shape (subst (λ (x : List ℕ). IsTableText x a.shape) text a.shape_is) b.shape_is in
    let root : a.root ≡ b.root = let both : pos a.root ≡ pos b.root = sym a.root_is ∙ b.root_is in cc in
    let moved : IsStored f (tree_kind b.shape) b.root a.cells used =
    subst (λ (s : Shape). IsStored f (tree_kind s) b.root a.cells used) shape (subst (λ (q : ℕ). IsStored f (tree_kind a.shape) q a.cells used) root a.stored) in
    let cells : a.cells ≡ b.cells = one_stored f (tree_kind b.shape) b.root a.cells b.cells used more moved b.stored in
    same_zipped (SpellsStored f) (one_row f) b.cells t.rows u.rows (subst (λ (hs : List Held). AllZip (SpellsStored f) hs t.rows) cells a.rows) b.rows

one_table : (f : File) (row : SchemaRow) (t u : TableRows) (used more : List ℕ) → IsTable f row t used → IsTable f row u more → t ≡ u
one_table f row t u used more a b =
    let text : t.text ≡ u.text = let both : Some t.text ≡ Some u.text = sym a.text ∙ b.text in cc in
    ap (λ (n : List ℕ). record { name = n; text = t.text; rows = t.rows }) (sym a.name ∙ b.name)
    ∙ ap (λ (x : List ℕ). record { name = u.name; text = x; rows = t.rows }) text
    ∙ ap (λ (rs : List StoredRow). record { name = u.name; text = u.text; rows = rs }) (one_rows f row t u used more a b)

one_tables : (f : File) (rows : List SchemaRow) (ts us : List TableRows) (used more : List (List ℕ)) → AreTables f rows ts used → AreTables f rows us more → ts ≡ us
one_tables f [] [] [] [] [] a b = refl
one_tables f [] [] [] [] (m ∷ more) a b = absurd b
one_tables f [] [] [] (x ∷ used) more a b = absurd a
one_tables f [] [] (u ∷ us) used more a b = absurd b
one_tables f [] (t ∷ ts) us used more a b = absurd a
one_tables f (row ∷ rows) [] us used more a b = absurd a
one_tables f (row ∷ rows) (t ∷ ts) us [] more a b = absurd a
one_tables f (row ∷ rows) (t ∷ ts) [] (x ∷ used) more a b = absurd b
one_tables f (row ∷ rows) (t ∷ ts) (u ∷ us) (x ∷ used) [] a b = absurd b
one_tables f (row ∷ rows) (t ∷ ts) (u ∷ us) (x ∷ used) (m ∷ more) a b =
    ap (λ (z : TableRows). z ∷ ts) (one_table f row t u x m a.0 b.0)
    ∙ ap (λ (zs : List TableRows). u ∷ zs) (one_tables f rows ts us used more a.1 b.1)

-- an empty file is not well-formed
not_empty : (db : Database) → IsWellFormed [] db → ⊥
unfolding file_in
not_empty db w = omega (arith, w.header.some, w.header.whole)

one_well_formed : (bytes : List ℕ) (db other : Database) → IsWellFormed bytes db → IsWellFormed bytes other → db ≡ other
one_well_formed bytes db other a b =
    let f = file_in bytes in
    let cells : a.schema.cells ≡ b.schema.cells =
    one_stored f kinds.Table 1 a.schema.cells b.schema.cells a.schema_used b.schema_used a.schema.stored b.schema.stored in
    let rows : a.rows ≡ b.rows =
    same_zipped (SpellsEntry f) (one_entry f) b.schema.cells a.rows b.rows
    (subst (λ (hs : List Held). AllZip (SpellsEntry f) hs a.rows) cells a.schema.are) b.schema.are in
    let tables : db.tables ≡ other.tables =
    one_tables f (filter is_stored b.rows) db.tables other.tables a.tables_used b.tables_used
    (subst (λ (rs : List SchemaRow). AreTables f (filter is_stored rs) db.tables a.tables_used) rows a.tables.tables) b.tables.tables in
    ap (λ (n : ℕ). record { user_version = n; application_id = db.application_id; tables = db.tables }) (sym a.header.user_version ∙ b.header.user_version)
    ∙ ap (λ (n : ℕ). record { user_version = other.user_version; application_id = n; tables = db.tables }) (sym a.header.application_id ∙ b.header.application_id)
    ∙ ap (λ (ts : List TableRows). record { user_version = other.user_version; application_id = other.application_id; tables = ts }) tables

pub one_database : OneDatabase
one_database bytes db other (inl a) (inl b) = a.1 ∙ sym b.1
one_database bytes db other (inl a) (inr b) = absurd (not_empty other (subst (λ (s : List ℕ). IsWellFormed s other) a.0 b))
one_database bytes db other (inr a) (inl b) = absurd (not_empty db (subst (λ (s : List ℕ). IsWellFormed s db) b.0 a))
one_database bytes db other (inr a) (inr b) = one_well_formed bytes db other a b
