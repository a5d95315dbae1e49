-- What the text of a table row of the schema says of its table (docs/FORMAT.md, "Tables that are not built").
use Rattle.std.specs.Prelude.{◌≡◌, ◌⊎◌, ℕ, ◌+◌, ℤ, Bool, true, false, not, if◌then◌else◌, Option, Some, None, option_and_then, Result, Ok, Err, List, [], ◌∷◌, ◌++◌, map, filter, take, slice_get}
use Rattle.std.specs.List.{AllByRecursion}
use Rattle.std.specs.Str.{bytes_eq}
use Rattle.cell_reader.specs.declared.shapes.Kind.{Kind}
use Rattle.cell_reader.specs.declared.shapes.Kind.TheVariants as kinds
use Rattle.page_walk.specs.Kinds.{kind_at}
use Rattle.page_walk.specs.Walk.{page_named}
use Rattle.raw_schema.specs.declared.rows.SchemaKind.{SchemaKind}
use Rattle.raw_schema.specs.declared.rows.SchemaKind.TheVariants as sorts
use Rattle.raw_schema.specs.declared.rows.SchemaRow.{SchemaRow}
use Rattle.report_text.specs.declared.causes.UnreadCause.{UnreadCause}
use Rattle.report_text.specs.declared.causes.UnreadCause.TheVariants as causes
use Rattle.table_shape.specs.Names.{is_named, is_reserved}
use Rattle.table_shape.specs.declared.shapes.TableShape.{TableShape}
use Rattle.table_shape.specs.Seen.{shape_seen}
use Rattle.table_shape.specs.Shape.{Shape, has_real_key}
use Rattle.create_reader.specs.Outcome.{HasFault, IsCreate}
use Rattle.create_reader.specs.declared.faults.CreateFault.TheVariants as faults
use Rattle.schema_texts.specs.declared.readings.Reading.{Reading}
use Rattle.schema_texts.specs.declared.readings.Reading.TheVariants as readings
use Rattle.schema_texts.specs.declared.readings.TableReading.{TableReading}

abbrev pub is_table : SchemaKind → Bool
is_table sorts.Table = true
is_table sorts.Index = false
is_table sorts.View = false
is_table sorts.Trigger = false

-- the names of the table rows among rows of the schema
abbrev pub table_names : List SchemaRow → List (List ℕ)
table_names rows = map (λ (r : SchemaRow). r.name) (filter (λ (r : SchemaRow). is_table r.kind) rows)

-- ---- a text

-- a text has no shape for this cause
abbrev pub IsRefused : List ℕ → UnreadCause → Type 0
IsRefused sql causes.Virtual = HasFault sql faults.Virtual
IsRefused sql (causes.Form at) = HasFault sql (faults.Form at)
IsRefused sql causes.Generated = HasFault sql faults.Generated
IsRefused sql causes.Limit = HasFault sql faults.Limit
IsRefused sql causes.Key = HasFault sql faults.Key
IsRefused sql cause = ⊥

-- a row has this shape, or no shape for this cause
abbrev pub HasShape : Option (List ℕ) → Shape → Type 0
HasShape None shape = ⊥
HasShape (Some sql) shape = IsCreate sql shape

abbrev pub HasNoShape : Option (List ℕ) → UnreadCause → Type 0
HasNoShape None cause = cause ≡ causes.Text
HasNoShape (Some sql) cause = IsRefused sql cause

-- what a text says: a shape, or why there is none
abbrev pub IsText : Option (List ℕ) → Result TableShape UnreadCause → Type 0
IsText sql (Ok shape) = HasShape sql (shape_seen shape)
IsText sql (Err cause) = HasNoShape sql cause

-- ---- a table with a shape

-- why a table with a shape is not built, where it is so: the first of these that holds; `double` says that an earlier
-- table row has the name
abbrev pub bar : Shape → List ℕ → Bool → Option UnreadCause
bar shape name double =
    if has_real_key shape then Some causes.Real
    else (if not (bytes_eq name shape.name) then Some causes.Name
    else (if is_reserved name then Some causes.Reserved
    else (if double then Some causes.Double else None)))

-- the kind of the pages of a table
abbrev pub kind_of : Shape → Kind
kind_of shape = if shape.without_rowid then kinds.Index else kinds.Table

-- what becomes of a table with this shape
abbrev pub IsJudged : Shape → List ℕ → Bool → Reading → Type 0
IsJudged shape name double (readings.Shape s) = (shape_seen s ≡ shape) × (bar shape name double ≡ None)
IsJudged shape name double (readings.Unread cause kind) = (bar shape name double ≡ Some cause) × (kind ≡ Some (kind_of shape))

-- ---- a table without one

-- the kind of the page that a row names as its root
abbrev pub kind_at_root : List (Option Kind) → ℕ → ℤ → Option Kind
kind_at_root kinds pages root = option_and_then (kind_at kinds) (page_named pages root)

-- the kind of the tree of a table without a shape: its root page's; a virtual table has no tree
abbrev pub kind_without : List (Option Kind) → ℕ → ℤ → UnreadCause → Option Kind
kind_without kinds pages root causes.Virtual = None
kind_without kinds pages root cause = kind_at_root kinds pages root

-- ---- a row

-- a table with this shape is not built for this cause
pub record IsBarred (row : SchemaRow) (double : Bool) (cause : UnreadCause) (kind : Option Kind) : Type 0 where
  pub shape : Shape
  pub has_shape : HasShape row.sql shape
  pub cause_is : bar shape row.name double ≡ Some cause
  pub kind_is : kind ≡ Some (kind_of shape)

-- a table without a shape
pub record IsShapeless (kinds : List (Option Kind)) (pages : ℕ) (row : SchemaRow) (cause : UnreadCause) (kind : Option Kind) : Type 0 where
  pub no_shape : HasNoShape row.sql cause
  pub kind_is : kind ≡ kind_without kinds pages row.root cause

-- the reading of a table row, where an earlier table row has its name or none
abbrev pub IsReading : List (Option Kind) → ℕ → SchemaRow → Bool → Reading → Type 0
IsReading kinds pages row double (readings.Shape shape) =
    HasShape row.sql (shape_seen shape) × (bar (shape_seen shape) row.name double ≡ None)
IsReading kinds pages row double (readings.Unread cause kind) = IsBarred row double cause kind ⊎ IsShapeless kinds pages row cause kind

-- the reading of the row of this number
pub record IsReadingIn (kinds : List (Option Kind)) (pages : ℕ) (rows : List SchemaRow) (r : TableReading) : Type 0 where
  pub row : SchemaRow
  pub row_is : slice_get rows r.row ≡ Some row
  pub root_is : r.root ≡ row.root
  pub reading : IsReading kinds pages row (is_named row.name (table_names (take r.row rows))) r.reading

-- the numbers of the table rows among rows that are counted from i on
abbrev pub tables_from : ℕ → List SchemaRow → List ℕ
tables_from i [] = []
tables_from i (row ∷ rows) = (if is_table row.kind then i ∷ [] else []) ++ tables_from (i + 1) rows

-- the readings of all table rows, in schema order
pub record AreReadings (kinds : List (Option Kind)) (pages : ℕ) (rows : List SchemaRow) (rs : List TableReading) : Type 0 where
  pub numbers : map (λ (r : TableReading). r.row) rs ≡ tables_from 0 rows
  pub readings : AllByRecursion (IsReadingIn kinds pages rows) rs
