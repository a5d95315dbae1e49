-- What the cells of a written tree spell: rows, index records, and rows of the schema.
use Rattle.std.proofs.Common.{◌≡◌, ℕ, ◌+◌, pos, List, [], ◌∷◌, map, refl, sym, ◌∙◌, subst}
use Rattle.std.specs.Prelude.{Some}
use Rattle.std.specs.List.{AllByRecursion, AllZip}
use Rattle.page_access.specs.Pages.{File}
use Rattle.cell_reader.specs.declared.shapes.Kind.{Kind}
use Rattle.record_core.specs.declared.values.Value.{Value}
use Rattle.record_core.specs.Shortest.{AllStored, IsWritable, record_bytes}
use Rattle.record_core.specs.Spelling.{IsRecord}
use Rattle.record_core.proofs.Least.{record_shortest}
use Rattle.raw_schema.specs.Rows.{row_in}
use Rattle.raw_schema.specs.declared.rows.SchemaRow.{SchemaRow}
use Rattle.table_shape.specs.Keys.{StoredRow}
use Rattle.tree_forms.specs.Node.{Held}
use Rattle.tree_forms.specs.Payload.{HasChain}
use Rattle.tree_forms.specs.Tree.{entries}
use Rattle.tree_writer.specs.Entry.{Entry}
use Rattle.written_trees.specs.Trees.{HoldEntries, HoldsEntry, IsTreeOf}
use Rattle.db_builder.specs.Layout.{numbered}
use Rattle.db_builder.specs.Trees.{index_entry, row_entry}
use Rattle.well_formed.specs.Stored.{IsStored, SpellsEntry, SpellsStored, SpellsValues, no_place}

-- ---- a written tree is one that a well-formed file stores

chains_of : (f : File) (hs : List Held) (es : List Entry) → HoldEntries f hs es → AllByRecursion (HasChain f) hs
chains_of f [] [] holds = tt
chains_of f [] (e ∷ es) holds = absurd holds
chains_of f (h ∷ hs) [] holds = absurd holds
chains_of f (h ∷ hs) (e ∷ es) holds = (holds.0.chain, chains_of f hs es holds.1)

pub tree_stored : (f : File) (kind : Kind) (root : ℕ) (es : List Entry) (pages : List ℕ) → (t : IsTreeOf f kind root es pages) → IsStored f kind root (entries t.items) t.used
tree_stored f kind root es pages t = record {
  items = t.items;
  tree = t.tree;
  order = t.order;
  cells_are = refl;
  chains = chains_of f (entries t.items) es t.holds;
}

-- ---- records

-- values that are read back from their record
pub record IsGood (values : List Value) : Type 0 where
  pub writable : IsWritable values
  pub stored : AllStored values

-- a cell that holds the record of values spells them
record_back : (f : File) (h : Held) (e : Entry) (values : List Value) → HoldsEntry f h e → e.bytes ≡ record_bytes values → IsGood values → SpellsValues f h values
record_back f h e values holds bytes good =
    subst (λ (b : List ℕ). IsRecord b values) (sym (holds.payload ∙ bytes)) (record_shortest values good.writable good.stored).spelled

-- rows
pub rows_back : (f : File) (hs : List Held) (rows : List StoredRow) → HoldEntries f hs (map row_entry rows) → AllByRecursion (λ (row : StoredRow). IsGood row.fields) rows
    → AllZip (SpellsStored f) hs rows
rows_back f [] [] holds good = tt
rows_back f [] (row ∷ rows) holds good = absurd holds
rows_back f (h ∷ hs) [] holds good = absurd holds
rows_back f (h ∷ hs) (row ∷ rows) holds good = (
  record { rowid = sym holds.0.rowid; fields = record_back f h (row_entry row) row.fields holds.0 refl good.0 },
  rows_back f hs rows holds.1 good.1,
)

-- records of an index
pub values_back : (f : File) (hs : List Held) (records : List (List Value)) → HoldEntries f hs (map index_entry records) → AllByRecursion IsGood records
    → AllZip (SpellsValues f) hs records
values_back f [] [] holds good = tt
values_back f [] (values ∷ records) holds good = absurd holds
values_back f (h ∷ hs) [] holds good = absurd holds
values_back f (h ∷ hs) (values ∷ records) holds good =
    (record_back f h (index_entry values) values holds.0 refl good.0, values_back f hs records holds.1 good.1)

-- rows of the schema, which are told by five values each
pub record IsRow (values : List Value) (row : SchemaRow) : Type 0 where
  pub good : IsGood values
  pub is_row : row_in no_place values ≡ Some row

pub schema_back : {X : Type 0} (f : File) (values : X → List Value) (row : X → SchemaRow) (k : ℕ) (hs : List Held) (xs : List X)
    → HoldEntries f hs (numbered k (map (λ x. record_bytes (values x)) xs)) → AllByRecursion (λ x. IsRow (values x) (row x)) xs → AllZip (SpellsEntry f) hs (map row xs)
schema_back f values row k [] [] holds are = tt
schema_back f values row k [] (x ∷ xs) holds are = absurd holds
schema_back f values row k (h ∷ hs) [] holds are = absurd holds
schema_back f values row k (h ∷ hs) (x ∷ xs) holds are = (
  record {
    values = values x;
    fields = record_back f h (record { rowid = Some (pos k); bytes = record_bytes (values x) }) (values x) holds.0 refl are.0.good;
    is_row = are.0.is_row;
  },
  schema_back f values row (k + 1) hs xs holds.1 are.1,
)
