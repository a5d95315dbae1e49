-- Which constraints take a number (docs/CREATE_TABLE.md, "Numbers of keys"; fileformat2.html, 2.6.2).
use Rattle.std.specs.Prelude.{ℕ, Bool, false, not, ◌&&◌, ◌||◌, nat_lt, if◌then◌else◌, Option, Some, None, List, [], ◌∷◌, ◌++◌, find, length, slice_get}
use Rattle.std.specs.Cmp.Lexicographic.{pointwise}
use Rattle.std.specs.List.{list_any}
use Rattle.create_reader.specs.declared.texts.ColumnText.{ColumnText}
use Rattle.create_reader.specs.Constraints.{Constraint, Table}
use Rattle.table_shape.specs.Names.{same_name}

-- the first column that has the name, ASCII case ignored
abbrev pub column_named : List ColumnText → List ℕ → Option ColumnText
column_named columns name = find (λ c. same_name c.name name) columns

-- the column of a list of one name
abbrev pub only_column : List ColumnText → List (List ℕ) → Option ColumnText
only_column columns [] = None
only_column columns (name ∷ []) = column_named columns name
only_column columns (name ∷ other ∷ names) = None

-- the one column of a constraint: that in which it stands, or the only one of its list
abbrev pub single_column : List ColumnText → Option ℕ → List (List ℕ) → Option ColumnText
single_column columns None names = only_column columns names
single_column columns (Some k) names = slice_get columns k

abbrev pub integer_in : Option ColumnText → Bool
integer_in None = false
integer_in (Some c) = c.integer

-- the constraint has one column, and its type is INTEGER
abbrev pub single_integer : List ColumnText → Constraint → Bool
single_integer columns c = integer_in (single_column columns c.own c.names)

-- the constraint makes its column the rowid
abbrev pub makes_alias : Table → Constraint → Bool
makes_alias t c = c.primary && (not t.without_rowid && single_integer t.columns c)

-- lists of the same names one by one
abbrev pub same_names : List (List ℕ) → List (List ℕ) → Bool
same_names a b = pointwise same_name a b

abbrev pub is_among : List Constraint → Constraint → Bool
is_among taken c = list_any (λ e. same_names e.names c.names) taken

-- whether a constraint takes a number, where these before it took one
abbrev pub takes : Table → List Constraint → Constraint → Bool
takes t taken c = (c.primary && t.without_rowid) || (not (makes_alias t c) && not (is_among taken c))

-- the constraints that take a number, in order; those of `taken` took one before
abbrev pub numbered : Table → List Constraint → List Constraint → List Constraint
numbered t taken [] = []
numbered t taken (c ∷ cs) = if takes t taken c then c ∷ numbered t (taken ++ c ∷ []) cs else numbered t taken cs

abbrev pub numbered_of : Table → List Constraint
numbered_of t = numbered t [] t.constraints

-- them, if they are at most 16
abbrev pub up_to_16 : List Constraint → Option (List Constraint)
up_to_16 cs = if nat_lt 16 (length cs) then None else Some cs
