-- The shape that a text means (docs/CREATE_TABLE.md, "The shape").
use Rattle.std.specs.Prelude.{ℕ, ◌+◌, ◌&&◌, if◌then◌else◌, Option, Some, None, Result, Ok, Err, List, [], ◌∷◌, map}
use Rattle.std.specs.List.{list_any, position_or_len}
use Rattle.create_reader.specs.declared.faults.CreateFault.{CreateFault}
use Rattle.create_reader.specs.declared.texts.ColumnText.{ColumnText}
use Rattle.create_reader.specs.Constraints.{Constraint, Table}
use Rattle.create_reader.specs.Faults.{first_fault}
use Rattle.create_reader.specs.Numbers.{makes_alias, numbered_of}
use Rattle.table_shape.specs.declared.columns.Column.{Column}
use Rattle.table_shape.specs.Names.{same_name}
use Rattle.table_shape.specs.Shape.{KeyColumns, Shape}

-- the number of the first column that has the name
abbrev pub place : List ColumnText → List ℕ → ℕ
place columns name = position_or_len (λ c. same_name c.name name) columns

abbrev pub places : List ColumnText → List (List ℕ) → List ℕ
places columns names = map (place columns) names

abbrev pub column_from : ColumnText → Column
column_from c = record { name = c.name; coll = c.coll; real = c.real }

-- the keys among the constraints that take a number, from the number n on: all but the primary key of a table
-- WITHOUT ROWID
abbrev pub keys_from : Table → ℕ → List Constraint → List KeyColumns
keys_from t n [] = []
keys_from t n (c ∷ cs) = if c.primary && t.without_rowid then keys_from t (n + 1) cs
    else record { columns = places t.columns c.names; number = n } ∷ keys_from t (n + 1) cs

-- the columns of the first PRIMARY KEY
abbrev pub primary_in : List ColumnText → List Constraint → List ℕ
primary_in columns [] = []
primary_in columns (c ∷ cs) = if c.primary then places columns c.names else primary_in columns cs

abbrev pub primary_of : Table → List ℕ
primary_of t = if t.without_rowid then primary_in t.columns (numbered_of t) else []

-- the column of the first constraint that makes its column the rowid
abbrev pub first_place : List ColumnText → List (List ℕ) → Option ℕ
first_place columns [] = None
first_place columns (name ∷ names) = Some (place columns name)

abbrev pub alias_from : Table → List Constraint → Option ℕ
alias_from t [] = None
alias_from t (c ∷ cs) = if makes_alias t c then first_place t.columns c.names else alias_from t cs

abbrev pub shape_of : Table → Shape
shape_of t = record {
  name = t.name;
  columns = map column_from t.columns;
  alias = alias_from t t.constraints;
  without_rowid = t.without_rowid;
  primary = primary_of t;
  keys = keys_from t 1 (numbered_of t);
  autoincrement = list_any (λ c. c.auto) t.constraints;
}

-- the first fault, or the shape
abbrev pub outcome : Option CreateFault → Shape → Result Shape CreateFault
outcome None shape = Ok shape
outcome (Some fault) shape = Err fault

abbrev pub create_of : Table → Result Shape CreateFault
create_of t = outcome (first_fault t) (shape_of t)
