-- Well-formed files, and the database that each spells (docs/FORMAT.md, "A well-formed file").
use Rattle.std.specs.Prelude.{◌≡◌, ◌⊎◌, ◌≤◌, ◌^◌, ℕ, pos, if◌then◌else◌, None, List, [], ◌++◌, filter, length}
use Rattle.std.specs.List.{AllByRecursion, AllZip, concat, flat_map}
use Rattle.page_access.specs.Pages.{File}
use Rattle.page_lists.specs.Lists.{count}
use Rattle.page_lists.specs.Table.{is_page}
use Rattle.cell_reader.specs.Shape.{u32_at}
use Rattle.cell_reader.specs.declared.shapes.Kind.TheVariants as kinds
use Rattle.page_size.specs.Fields.{header_of}
use Rattle.raw_schema.specs.declared.rows.SchemaRow.{SchemaRow}
use Rattle.tree_forms.specs.Node.{Held}
use Rattle.well_formed.specs.Database.{Database, empty_database}
use Rattle.well_formed.specs.Freelist.{AreTrunks, free_pages}
use Rattle.well_formed.specs.Header.{IsHeader, file_in, lock_pages}
use Rattle.well_formed.specs.Indexes.{HaveIndexes, IsOtherIndex, automatic_rows, named_index_rows, rootless_rows}
use Rattle.well_formed.specs.Stored.{IsStored, SpellsEntry}
use Rattle.well_formed.specs.Tables.{AreNames, AreTables, is_stored, table_names}

-- page 1 is the root of a table tree, each of whose cells spells a row of the schema
pub record IsSchema (f : File) (rows : List SchemaRow) (used : List ℕ) : Type 0 where
  pub cells : List Held
  pub stored : IsStored f kinds.Table 1 cells used
  pub are : AllZip (SpellsEntry f) cells rows

-- the tables of the schema, in its order, that are not virtual
pub record HasTables (f : File) (rows : List SchemaRow) (db : Database) (used : List (List ℕ)) : Type 0 where
  pub tables : AreTables f (filter is_stored rows) db.tables used
  pub names : AreNames (table_names rows)

-- the pages of the indexes of all tables, index by index
abbrev pub all_keys : List (List (List ℕ)) → List (List ℕ)
all_keys used = flat_map (λ (pages : List (List ℕ)). pages) used

-- each key of each table has its automatic index, and there is no other automatic index
pub record HasKeyIndexes (f : File) (rows : List SchemaRow) (db : Database) (used : List (List (List ℕ))) : Type 0 where
  pub indexes : HaveIndexes f (automatic_rows rows) db.tables used
  pub no_other : length (automatic_rows rows) ≡ length (all_keys used)

-- the other rows of the schema: indexes with a text, and what has no tree and names no root
pub record HasOthers (f : File) (rows : List SchemaRow) (used : List (List ℕ)) : Type 0 where
  pub indexes : AllZip (IsOtherIndex f) (named_index_rows rows) used
  pub rootless : AllByRecursion (λ row. row.root ≡ pos 0) (rootless_rows rows)

-- the freelist: its trunks and their leaves, as many as the header says
pub record IsFreelist (f : File) (trunks : List ℕ) : Type 0 where
  pub linked : AreTrunks f (header_of f.bytes).first_trunk trunks
  pub many : u32_at f.bytes 36 ≡ length (free_pages f trunks)

-- each page of the file has exactly one use: in a tree with its overflow chains, in the freelist, or as the
-- lock-byte page
abbrev pub AreUses : File → List ℕ → Type 0
AreUses f used = (q : ℕ) → count q used ≡ (if is_page f.pages q then 1 else 0)

-- a well-formed file with the database that it spells
pub record IsWellFormed (bytes : List ℕ) (db : Database) : Type 0 where
  pub header : IsHeader bytes db
  pub rows : List SchemaRow
  pub schema_used : List ℕ
  pub schema : IsSchema (file_in bytes) rows schema_used
  pub tables_used : List (List ℕ)
  pub tables : HasTables (file_in bytes) rows db tables_used
  pub keys_used : List (List (List ℕ))
  pub keys : HasKeyIndexes (file_in bytes) rows db keys_used
  pub others_used : List (List ℕ)
  pub others : HasOthers (file_in bytes) rows others_used
  pub trunks : List ℕ
  pub freelist : IsFreelist (file_in bytes) trunks
  pub uses : AreUses (file_in bytes) (schema_used ++ (concat tables_used ++ (concat (all_keys keys_used)
      ++ (concat others_used ++ (free_pages (file_in bytes) trunks ++ lock_pages (file_in bytes))))))

-- A list of bytes spells a database: it has no bytes, and the database no tables; or it is well-formed.
abbrev pub Spells : List ℕ → Database → Type 0
Spells bytes db = ((bytes ≡ []) × (db ≡ empty_database)) ⊎ IsWellFormed bytes db
