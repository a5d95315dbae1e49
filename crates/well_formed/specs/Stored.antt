-- The cells of a tree with their payloads, and what they spell (docs/FORMAT.md, "Trees" and "Records";
-- fileformat2.html, 1.6 and 2.1).
use Rattle.std.specs.Prelude.{◌≡◌, ℕ, None, Some, List}
use Rattle.std.specs.List.{AllByRecursion}
use Rattle.page_access.specs.Pages.{File}
use Rattle.cell_reader.specs.declared.shapes.Kind.{Kind}
use Rattle.cell_reader.specs.declared.shapes.Kind.TheVariants.{Table}
use Rattle.page_walk.specs.declared.outcomes.Place.{Place}
use Rattle.record_core.specs.declared.values.Value.{Value}
use Rattle.record_core.specs.Spelling.{IsRecord}
use Rattle.raw_schema.specs.Rows.{row_in}
use Rattle.raw_schema.specs.declared.rows.SchemaRow.{SchemaRow}
use Rattle.table_shape.specs.Keys.{StoredRow}
use Rattle.tree_forms.specs.Node.{Held, node_of}
use Rattle.tree_forms.specs.Payload.{HasChain, own_of, payload_of}
use Rattle.tree_forms.specs.Tree.{InOrder, Tree, entries}

-- a tree of this kind has its root on page p; its entries are these cells in order, each with the overflow
-- chain of its payload; its pages and those of the chains are `used`; in a table tree rowids and keys rise
pub record IsStored (f : File) (kind : Kind) (p : ℕ) (cells : List Held) (used : List ℕ) : Type 0 where
  pub items : List Held
  pub tree : Tree (node_of f) (own_of f) kind p items used
  pub order : kind ≡ Table → InOrder None items
  pub cells_are : cells ≡ entries items
  pub chains : AllByRecursion (HasChain f) cells

-- the payload of a cell spells these values
abbrev pub SpellsValues : File → Held → List Value → Type 0
SpellsValues f h values = IsRecord (payload_of f h) values

-- a cell spells a row: its rowid, none in an index tree, and the values of its record
pub record SpellsStored (f : File) (h : Held) (row : StoredRow) : Type 0 where
  pub rowid : row.rowid ≡ h.rowid
  pub fields : SpellsValues f h row.fields

-- where a row of the schema stands plays no part here
abbrev pub no_place : Place
no_place = record { page = 0; cell = 0 }

-- a cell spells a row of the schema
pub record SpellsEntry (f : File) (h : Held) (row : SchemaRow) : Type 0 where
  pub values : List Value
  pub fields : SpellsValues f h values
  pub is_row : row_in no_place values ≡ Some row
