-- The tables of a well-formed file (docs/FORMAT.md, "A well-formed file"; fileformat2.html, 2.3, 2.4 and 2.6).
use Rattle.std.specs.Prelude.{◌≡◌, ℕ, Bool, true, false, not, ◌&&◌, if◌then◌else◌, pos, Option, Some, None, List, [], ◌∷◌, filter, map}
use Rattle.std.specs.List.{AllByRecursion, AllZip, IsDistinct}
use Rattle.page_access.specs.Pages.{File}
use Rattle.cell_reader.specs.declared.shapes.Kind.{Kind}
use Rattle.cell_reader.specs.declared.shapes.Kind.TheVariants as kinds
use Rattle.create_grammar.specs.Said.{is_virtual}
use Rattle.create_reader.specs.Outcome.{IsTableText}
use Rattle.raw_schema.specs.declared.rows.SchemaKind.{SchemaKind}
use Rattle.raw_schema.specs.declared.rows.SchemaKind.TheVariants.{Table, Index, View, Trigger}
use Rattle.raw_schema.specs.declared.rows.SchemaRow.{SchemaRow}
use Rattle.table_shape.specs.Keys.{AreRows, keys_of}
use Rattle.table_shape.specs.Names.{is_reserved, same_name}
use Rattle.table_shape.specs.Shape.{Shape, has_real_key}
use Rattle.tree_forms.specs.Node.{Held}
use Rattle.well_formed.specs.Database.{TableRows}
use Rattle.well_formed.specs.Stored.{IsStored, SpellsStored}

abbrev pub is_of : SchemaKind → SchemaKind → Bool
is_of Table Table = true
is_of Index Index = true
is_of View View = true
is_of Trigger Trigger = true
is_of kind other = false

-- the text of a virtual table
abbrev pub is_virtual_sql : Option (List ℕ) → Bool
is_virtual_sql None = false
is_virtual_sql (Some text) = is_virtual text

-- a row of the schema for a table that has a tree
abbrev pub is_stored : SchemaRow → Bool
is_stored row = is_of Table row.kind && not (is_virtual_sql row.sql)

-- the kind of a table's tree: an index tree WITHOUT ROWID (fileformat2.html, 2.4)
abbrev pub tree_kind : Shape → Kind
tree_kind s = if s.without_rowid then kinds.Index else kinds.Table

-- a row of the schema is that of a table: its text says the table's shape, no key column of which has REAL
-- affinity, and its root's tree spells the table's rows in order, which are rows of that shape
pub record IsTable (f : File) (row : SchemaRow) (t : TableRows) (used : List ℕ) : Type 0 where
  pub text : row.sql ≡ Some t.text
  pub name : row.name ≡ t.name
  pub shape : Shape
  pub shape_is : IsTableText t.text shape
  pub shape_name : shape.name ≡ t.name
  pub no_real : has_real_key shape ≡ false
  pub root : ℕ
  pub root_is : row.root ≡ pos root
  pub cells : List Held
  pub stored : IsStored f (tree_kind shape) root cells used
  pub rows : AllZip (SpellsStored f) cells t.rows
  pub are : AreRows (keys_of shape) t.rows

-- the same of all, with the pages of each
abbrev pub AreTables : File → List SchemaRow → List TableRows → List (List ℕ) → Type 0
AreTables f [] [] [] = Unit {0}
AreTables f (row ∷ rows) (t ∷ ts) (used ∷ more) = IsTable f row t used × AreTables f rows ts more
AreTables f rows ts used = ⊥

-- no table has a reserved name or the name of another, the case of ASCII letters ignored
pub record AreNames (names : List (List ℕ)) : Type 0 where
  pub apart : IsDistinct same_name names
  pub free : AllByRecursion (λ name. is_reserved name ≡ false) names

abbrev pub table_names : List SchemaRow → List (List ℕ)
table_names rows = map (λ row. row.name) (filter (λ row. is_of Table row.kind) rows)
