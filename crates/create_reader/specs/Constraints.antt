-- The constraints PRIMARY KEY and UNIQUE of a text, and the whole text (docs/CREATE_TABLE.md, "Constraints").
use Rattle.std.specs.Prelude.{ℕ, ◌+◌, ◌-◌, Bool, ◌||◌, if◌then◌else◌, Option, Some, None, List, [], ◌∷◌}
use Rattle.std.specs.List.{before_first, list_any}
use Rattle.create_grammar.specs.declared.reading.Said.{Said}
use Rattle.create_grammar.specs.declared.roles.Role.TheVariants as role
use Rattle.create_grammar.specs.declared.spans.Word.{Word}
use Rattle.create_grammar.specs.declared.spans.WordKind.TheVariants.{Bad}
use Rattle.create_grammar.specs.Said.{is}
use Rattle.create_reader.specs.declared.texts.ColumnText.{ColumnText}
use Rattle.create_reader.specs.Columns.{columns_of}
use Rattle.create_reader.specs.Names.{name_of}

-- a constraint: whether it is a PRIMARY KEY, the column that it stands in, the names of its columns, whether it
-- has DESC or COLLATE, whether it has AUTOINCREMENT
pub record Constraint : Type 0 where
  pub primary : Bool
  pub own : Option ℕ
  pub names : List (List ℕ)
  pub marked : Bool
  pub auto : Bool

-- what a text says
pub record Table : Type 0 where
  pub name : List ℕ
  pub columns : List ColumnText
  pub constraints : List Constraint
  pub without_rowid : Bool
  pub generated : Bool

-- ---- constraints

abbrev pub is_of_column : Said → Bool
is_of_column w = is role.ColumnPrimary w || is role.ColumnUnique w

abbrev pub is_primary : Said → Bool
is_primary w = is role.ColumnPrimary w || is role.TablePrimary w

-- the first word of a PRIMARY KEY or UNIQUE
abbrev pub begins_constraint : Said → Bool
begins_constraint w = is_of_column w || (is role.TablePrimary w || is role.TableUnique w)

abbrev pub ends_part : Said → Bool
ends_part w = begins_constraint w || is role.ColumnName w

-- the words of a constraint behind its first one
abbrev pub own_part : List Said → List Said
own_part ws = before_first ends_part ws

-- the names in the list of a constraint
abbrev pub key_names : List ℕ → List Said → List (List ℕ)
key_names sql [] = []
key_names sql (w ∷ ws) = if is role.KeyName w then name_of sql w.word ∷ key_names sql ws else key_names sql ws

-- the columns of a constraint whose first word is w: the column k with this name, or a list of names
abbrev pub own_of : ℕ → Said → Option ℕ
own_of k w = if is_of_column w then Some k else None

abbrev pub names_of : List ℕ → Word → Said → List Said → List (List ℕ)
names_of sql column w ws = if is_of_column w then name_of sql column ∷ [] else key_names sql ws

pub record Part : Type 0 where
  pub number : ℕ
  pub column : Word
  pub first : Said

abbrev pub constraint_of : List ℕ → Part → List Said → Constraint
constraint_of sql p ws = record {
  primary = is_primary p.first;
  own = own_of p.number p.first;
  names = names_of sql p.column p.first ws;
  marked = list_any (is role.KeyMark) ws;
  auto = list_any (is role.Auto) ws;
}

-- all constraints behind n columns, of which `column` names the last
abbrev pub constraints_from : List ℕ → ℕ → Word → List Said → List Constraint
constraints_from sql n column [] = []
constraints_from sql n column (w ∷ ws) = if is role.ColumnName w then constraints_from sql (n + 1) w.word ws
    else (if begins_constraint w
    then constraint_of sql (record { number = n - 1; column = column; first = w }) (own_part ws)
    ∷ constraints_from sql n column ws
    else constraints_from sql n column ws)

-- ---- the whole text

abbrev pub table_name : List ℕ → List Said → List ℕ
table_name sql [] = []
table_name sql (w ∷ ws) = if is role.TableName w then name_of sql w.word else table_name sql ws

abbrev pub no_word : Word
no_word = record { kind = Bad; start = 0; end = 0 }

abbrev pub table_of : List ℕ → List Said → Table
table_of sql said = record {
  name = table_name sql said;
  columns = columns_of sql said;
  constraints = constraints_from sql 0 no_word said;
  without_rowid = list_any (is role.WithoutRowid) said;
  generated = list_any (is role.Generated) said;
}
