-- Rows of the schema table (docs/FORMAT.md, "The schema"; fileformat2.html, 2.6).
use Rattle.std.specs.Prelude.{ℕ, ℤ, pos, if◌then◌else◌, Option, Some, None, option_and_then, option_map, List, [], ◌∷◌, codes}
use Rattle.std.specs.Str.{bytes_eq}
use Rattle.record_core.specs.declared.values.Value.{Value}
use Rattle.record_core.specs.declared.values.Value.TheVariants.{Null, Whole, Real8, Text, Blob}
use Rattle.page_walk.specs.declared.outcomes.Place.{Place}
use Rattle.page_walk.specs.Cells.{Row}
use Rattle.raw_schema.specs.declared.rows.SchemaKind.{SchemaKind}
use Rattle.raw_schema.specs.declared.rows.SchemaKind.TheVariants.{Table, Index, View, Trigger}
use Rattle.raw_schema.specs.declared.rows.SchemaRow.{SchemaRow}

-- the kind that a word names
unfoldable pub kind_named : List ℕ → Option SchemaKind
kind_named word =
    if bytes_eq word (codes "table") then Some Table
    else (if bytes_eq word (codes "index") then Some Index
    else (if bytes_eq word (codes "view") then Some View
    else (if bytes_eq word (codes "trigger") then Some Trigger else None)))

-- a text
abbrev pub text_in : Value → Option (List ℕ)
text_in Null = None
text_in (Whole number) = None
text_in (Real8 bytes) = None
text_in (Text bytes) = Some bytes
text_in (Blob bytes) = None

-- the root page: a whole number, and 0 for NULL
abbrev pub root_in : Value → Option ℤ
root_in Null = Some (pos 0)
root_in (Whole number) = Some number
root_in (Real8 bytes) = None
root_in (Text bytes) = None
root_in (Blob bytes) = None

-- the text of the statement: a text, or none for NULL
abbrev pub sql_in : Value → Option (Option (List ℕ))
sql_in Null = Some None
sql_in (Whole number) = None
sql_in (Real8 bytes) = None
sql_in (Text bytes) = Some (Some bytes)
sql_in (Blob bytes) = None

-- the row of these five values, where each is what its column holds
abbrev pub row_with : Place → Option SchemaKind → Option (List ℕ) → Option (List ℕ) → Option ℤ → Option (Option (List ℕ)) → Option SchemaRow
row_with place kind name tbl root sql =
    option_and_then (λ k. option_and_then (λ n. option_and_then (λ t. option_and_then (λ r. option_map (λ s.
    record { kind = k; name = n; tbl = t; root = r; sql = s; place = place }) sql) root) tbl) name) kind

-- the row of the schema that the values of a cell are: type, name, table, root page and statement
abbrev pub row_in : Place → List Value → Option SchemaRow
row_in place (kind ∷ name ∷ tbl ∷ root ∷ sql ∷ []) =
    row_with place (option_and_then kind_named (text_in kind)) (text_in name) (text_in tbl) (root_in root) (sql_in sql)
row_in place fields = None

-- the row of the schema that a readable cell is, if it is one
abbrev pub entry_of : Row → Option SchemaRow
entry_of row = row_in (record { page = row.page; cell = row.cell }) row.fields
