-- Why a text of the grammar has no shape (docs/CREATE_TABLE.md, "Faults").
use Rattle.std.specs.Prelude.{ℕ, Bool, false, not, ◌&&◌, ◌||◌, ◌==◌, nat_lt, if◌then◌else◌, Option, Some, None, is_none, List, [], ◌∷◌, count_by, length, map}
use Rattle.std.specs.List.{list_any}
use Rattle.create_reader.specs.declared.faults.CreateFault.{CreateFault}
use Rattle.create_reader.specs.declared.faults.CreateFault.TheVariants.{Generated, Limit, Key}
use Rattle.create_reader.specs.declared.texts.ColumnText.{ColumnText}
use Rattle.create_reader.specs.Constraints.{Constraint, Table}
use Rattle.create_reader.specs.Numbers.{column_named, makes_alias, numbered_of, same_names, single_integer}
use Rattle.table_shape.specs.Names.{same_name}

-- over 1,996 columns, or over 16 constraints that take a number
abbrev pub over_limit : Table → Bool
over_limit t = nat_lt 1996 (length t.columns) || nat_lt 16 (length (numbered_of t))

-- two PRIMARY KEYs, or WITHOUT ROWID and none
abbrev pub primary_count : Table → ℕ
primary_count t = count_by (λ c. c.primary) t.constraints

abbrev pub wrong_primaries : Table → Bool
wrong_primaries t = nat_lt 1 (primary_count t) || (t.without_rowid && (primary_count t == 0))

-- AUTOINCREMENT in a PRIMARY KEY that does not make the rowid
abbrev pub auto_alone : Table → Bool
auto_alone t = list_any (λ c. c.auto && not (makes_alias t c)) t.constraints

-- a name that comes again
abbrev pub has_repeat : List (List ℕ) → Bool
has_repeat [] = false
has_repeat (name ∷ names) = list_any (same_name name) names || has_repeat names

-- two columns with one name
abbrev pub column_repeats : Table → Bool
column_repeats t = has_repeat (map (λ c. c.name) t.columns)

-- a list that names no column of the table, or one column twice
abbrev pub bad_list : List ColumnText → Constraint → Bool
bad_list columns c = (length c.names == 0)
    || (list_any (λ name. is_none (column_named columns name)) c.names || has_repeat c.names)

abbrev pub has_bad_list : Table → Bool
has_bad_list t = list_any (bad_list t.columns) t.constraints

-- DESC or COLLATE in a list, or DESC after the PRIMARY KEY of a column
abbrev pub has_marks : Table → Bool
has_marks t = list_any (λ c. c.marked) t.constraints

-- a key column with an unknown collation
abbrev pub lacks_coll : Option ColumnText → Bool
lacks_coll None = false
lacks_coll (Some c) = is_none c.coll

abbrev pub list_lacks_coll : List ColumnText → Constraint → Bool
list_lacks_coll columns c = list_any (λ name. lacks_coll (column_named columns name)) c.names

abbrev pub key_lacks_coll : Table → Bool
key_lacks_coll t = list_any (list_lacks_coll t.columns) (numbered_of t)

-- WITHOUT ROWID, the primary key is one column of type INTEGER, and there is another key
abbrev pub integer_beside_keys : Table → Bool
integer_beside_keys t = t.without_rowid && (nat_lt 1 (length (numbered_of t))
    && list_any (λ c. c.primary && single_integer t.columns c) t.constraints)

-- a constraint, and behind it the PRIMARY KEY with the same names
abbrev pub has_primary_like : Constraint → List Constraint → Bool
has_primary_like c cs = list_any (λ e. e.primary && same_names c.names e.names) cs

abbrev pub before_primary : List Constraint → Bool
before_primary [] = false
before_primary (c ∷ cs) = (not c.primary && has_primary_like c cs) || before_primary cs

-- WITHOUT ROWID, and a UNIQUE before the PRIMARY KEY has the same columns
abbrev pub unique_before : Table → Bool
unique_before t = t.without_rowid && before_primary (numbered_of t)

abbrev pub key_fault : Table → Bool
key_fault t = wrong_primaries t || (auto_alone t || (column_repeats t || (has_bad_list t
    || (has_marks t || (key_lacks_coll t || (integer_beside_keys t || unique_before t))))))

abbrev pub first_fault : Table → Option CreateFault
first_fault t = if t.generated then Some Generated
    else (if over_limit t then Some Limit else (if key_fault t then Some Key else None))
