-- The indexes of a well-formed file, and the rows of the schema without a tree (docs/FORMAT.md,
-- "A well-formed file"; fileformat2.html, 2.5 and 2.6).
use Rattle.std.specs.Prelude.{◌≡◌, ℕ, Bool, ◌&&◌, ◌||◌, pos, Option, List, [], ◌∷◌, ◌++◌, filter, is_none, is_some, map}
use Rattle.std.specs.List.{AllZip, flat_map}
use Rattle.std.specs.Str.{bytes_eq}
use Rattle.page_access.specs.Pages.{File}
use Rattle.cell_reader.specs.declared.shapes.Kind.TheVariants as kinds
use Rattle.create_reader.specs.Outcome.{IsTableText}
use Rattle.raw_schema.specs.declared.rows.SchemaKind.TheVariants.{Table, Index, View, Trigger}
use Rattle.raw_schema.specs.declared.rows.SchemaRow.{SchemaRow}
use Rattle.table_shape.specs.Entries.{entries_of}
use Rattle.table_shape.specs.Keys.{KeyParts, Keys, keys_of}
use Rattle.table_shape.specs.Names.{index_name}
use Rattle.table_shape.specs.Shape.{Shape}
use Rattle.tree_forms.specs.Node.{Held}
use Rattle.well_formed.specs.Database.{TableRows}
use Rattle.well_formed.specs.Stored.{IsStored, SpellsValues}
use Rattle.well_formed.specs.Tables.{is_of, is_virtual_sql}

-- the rows of the schema for automatic indexes, which have no text, and for other indexes
abbrev pub automatic_rows : List SchemaRow → List SchemaRow
automatic_rows rows = filter (λ row. is_of Index row.kind && is_none row.sql) rows

abbrev pub named_index_rows : List SchemaRow → List SchemaRow
named_index_rows rows = filter (λ row. is_of Index row.kind && is_some row.sql) rows

-- the rows for what has no tree: views, triggers and virtual tables
abbrev pub rootless_rows : List SchemaRow → List SchemaRow
rootless_rows rows =
    filter (λ row. is_of View row.kind || (is_of Trigger row.kind || (is_of Table row.kind && is_virtual_sql row.sql))) rows

-- a row of the schema is named as the automatic index of a table's key is
abbrev pub is_index_of : List ℕ → ℕ → SchemaRow → Bool
is_index_of table number row = bytes_eq row.name (index_name table number) && bytes_eq row.tbl table

-- among these rows exactly one is that of the key's automatic index, and its root's tree spells exactly the
-- entries of the key, in order
pub record IsKeyIndex (f : File) (rows : List SchemaRow) (t : TableRows) (keys : Keys) (key : KeyParts) (used : List ℕ) : Type 0 where
  pub row : SchemaRow
  pub one : filter (is_index_of t.name key.number) rows ≡ row ∷ []
  pub root : ℕ
  pub root_is : row.root ≡ pos root
  pub cells : List Held
  pub stored : IsStored f kinds.Index root cells used
  pub entries : AllZip (SpellsValues f) cells (entries_of keys key t.rows)

-- the same of some keys of a table, with the pages of each
abbrev pub AreKeyIndexes : File → List SchemaRow → TableRows → Keys → List KeyParts → List (List ℕ) → Type 0
AreKeyIndexes f rows t keys [] [] = Unit {0}
AreKeyIndexes f rows t keys (key ∷ more) (used ∷ others) =
    IsKeyIndex f rows t keys key used × AreKeyIndexes f rows t keys more others
AreKeyIndexes f rows t keys these used = ⊥

-- of all keys of a table, whose text says its shape
pub record HasIndexes (f : File) (rows : List SchemaRow) (t : TableRows) (used : List (List ℕ)) : Type 0 where
  pub shape : Shape
  pub shape_is : IsTableText t.text shape
  pub indexes : AreKeyIndexes f rows t (keys_of shape) (keys_of shape).keys used

-- of all tables
abbrev pub HaveIndexes : File → List SchemaRow → List TableRows → List (List (List ℕ)) → Type 0
HaveIndexes f rows [] [] = Unit {0}
HaveIndexes f rows (t ∷ ts) (used ∷ more) = HasIndexes f rows t used × HaveIndexes f rows ts more
HaveIndexes f rows ts used = ⊥

-- an index with a text has an index tree, of which no order is asked
pub record IsOtherIndex (f : File) (row : SchemaRow) (used : List ℕ) : Type 0 where
  pub root : ℕ
  pub root_is : row.root ≡ pos root
  pub cells : List Held
  pub stored : IsStored f kinds.Index root cells used
