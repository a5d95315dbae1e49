-- What the columns of a schema row hold (docs/FORMAT.md, "The schema"; fileformat2.html, 2.6).
use Rattle.std.specs.Prelude.{◌≡◌, ◌↔◌, ℕ, ℤ, pos, Option, Some, None, List, [], ◌∷◌, codes}
use Rattle.record_core.specs.declared.values.Value.{Value}
use Rattle.record_core.specs.declared.values.Value.TheVariants.{Null, Whole, Real8, Text, Blob}
use Rattle.page_walk.specs.Cells.{Row}
use Rattle.raw_schema.specs.Rows.{entry_of}
use Rattle.raw_schema.specs.declared.rows.SchemaKind.{SchemaKind}
use Rattle.raw_schema.specs.declared.rows.SchemaKind.TheVariants.{Table, Index, View, Trigger}
use Rattle.raw_schema.specs.declared.rows.SchemaRow.{SchemaRow}

-- the word for what a row describes
abbrev pub kind_text : SchemaKind → List ℕ
kind_text Table = codes "table"
kind_text Index = codes "index"
kind_text View = codes "view"
kind_text Trigger = codes "trigger"

-- a value stands for this root page: it is the number, or NULL for 0
abbrev pub IsRootValue : Value → ℤ → Type 0
IsRootValue Null root = root ≡ pos 0
IsRootValue (Whole number) root = root ≡ number
IsRootValue (Real8 bytes) root = ⊥
IsRootValue (Text bytes) root = ⊥
IsRootValue (Blob bytes) root = ⊥

-- a value stands for this statement: it is the text, or NULL for none
abbrev pub IsSqlValue : Value → Option (List ℕ) → Type 0
IsSqlValue Null sql = sql ≡ None
IsSqlValue (Whole number) sql = ⊥
IsSqlValue (Real8 bytes) sql = ⊥
IsSqlValue (Text bytes) sql = sql ≡ Some bytes
IsSqlValue (Blob bytes) sql = ⊥

-- A readable cell spells a row of the schema: its record has exactly five values, which are the row's word, its name,
-- the name of its table, its root page and its statement; the row stands in that cell.
pub record SpellsRow (cell : Row) (row : SchemaRow) : Type 0 where
  pub root_value : Value
  pub sql_value : Value
  pub values : cell.fields ≡ Text (kind_text row.kind) ∷ Text row.name ∷ Text row.tbl ∷ root_value ∷ sql_value ∷ []
  pub root_is : IsRootValue root_value row.root
  pub sql_is : IsSqlValue sql_value row.sql
  pub page_is : row.place.page ≡ cell.page
  pub cell_is : row.place.cell ≡ cell.cell

-- the row that a cell is taken for is the one that it spells, and each row that a cell spells is taken
abbrev pub RowsAreSpelled : Type 0
RowsAreSpelled = (cell : Row) (row : SchemaRow) → (entry_of cell ≡ Some row) ↔ SpellsRow cell row
