-- A text of the program as definitions see it.
use Rattle.std.specs.Prelude.{◌≡◌, ℕ, ◌-◌, ◌<◌, Option, Some, None, Bool, true, false, nat_eq, List, [], ◌∷◌, map, slice_get}
use Rattle.std.specs.List.{list_any}
use Rattle.create_reader.specs.declared.texts.ColumnText.{ColumnText}
use Rattle.create_reader.specs.declared.texts.ConstraintText.{ConstraintText}
use Rattle.create_reader.specs.declared.texts.KeyNames.{KeyNames}
use Rattle.create_reader.specs.declared.texts.KeyNames.TheVariants.{OfColumn, Listed}
use Rattle.create_reader.specs.declared.texts.TableText.{TableText}
use Rattle.create_grammar.specs.declared.spans.Word.{Word}
use Rattle.create_reader.specs.Constraints.{Constraint, Table}
use Rattle.create_reader.specs.Names.{name_of}
use Rattle.create_reader.specs.Numbers.{same_names}

-- the name of a column, if there is one
abbrev pub name_at : Option ColumnText → List (List ℕ)
name_at None = []
name_at (Some c) = c.name ∷ []

-- the names of a key, where these are the columns of the table
abbrev pub names_seen : List ColumnText → KeyNames → List (List ℕ)
names_seen columns (OfColumn k) = name_at (slice_get columns k)
names_seen columns (Listed names) = names.items

abbrev pub constraint_seen : List ColumnText → ConstraintText → Constraint
constraint_seen columns c = record {
  primary = c.primary;
  own = c.own;
  names = names_seen columns c.names;
  marked = c.marked;
  auto = c.auto;
}

abbrev pub constraints_seen : List ColumnText → List ConstraintText → List Constraint
constraints_seen columns cs = map (constraint_seen columns) cs

abbrev pub seen : TableText → Table
seen t = record {
  name = t.name;
  columns = t.columns.items;
  constraints = constraints_seen t.columns.items t.constraints.items;
  without_rowid = t.without_rowid;
  generated = t.generated;
}

-- of the n columns that begin before a constraint, the last one has the name that the word is
abbrev pub IsNamed : List ℕ → List ColumnText → ℕ → Word → Type 0
IsNamed sql columns n word = 0 < n → name_at (slice_get columns (n - 1)) ≡ name_of sql word ∷ []

-- what constraints of a column are known to have: the names of one that took a number before
abbrev pub IsKnown : List ColumnText → List Constraint → Option ℕ → Type 0
IsKnown columns taken None = Unit {0}
IsKnown columns taken (Some k) = list_any (λ e. same_names e.names (name_at (slice_get columns k))) taken ≡ true

abbrev pub is_of : Option ℕ → KeyNames → Bool
is_of None names = false
is_of (Some k) (OfColumn number) = nat_eq k number
is_of (Some k) (Listed names) = false
