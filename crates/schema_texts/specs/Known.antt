-- Names that were met, in a set that is searched in the time of a few comparisons.
use Rattle.std.specs.Prelude.{◌≡◌, ℕ, Bool, Option, List, Vec, [], ◌∷◌, ◌++◌, map, take, drop}
use Rattle.std.specs.declared.alloc.Global.{Global}
use Rattle.std.specs.BTreeSet.{BTreeSet, contains}
use Rattle.std.specs.List.{AllByRecursion, list_any}
use Rattle.std.specs.Str.{bytes_eq, str_to_ascii_lowercase}
use Rattle.cell_reader.specs.declared.shapes.Kind.{Kind}
use Rattle.raw_schema.specs.declared.rows.SchemaRow.{SchemaRow}
use Rattle.table_shape.specs.Names.{is_named}
use Rattle.create_reader.specs.Index.{name_cmp}
use Rattle.schema_texts.specs.Readings.{IsReadingIn, table_names, tables_from}
use Rattle.schema_texts.specs.declared.readings.TableReading.{TableReading}

-- the set has these names, their capitals made small, and no others
abbrev pub Knows : BTreeSet (Vec ℕ Global) → List (List ℕ) → Type 0
Knows set names = (name : Vec ℕ Global) → contains name_cmp set name
    ≡ list_any (λ (other : List ℕ). bytes_eq (str_to_ascii_lowercase other) name.items) names

-- whether the name is one of those that the set has
abbrev pub Meets : BTreeSet (Vec ℕ Global) → List ℕ → Bool → Type 0
Meets set name met = (before : List (List ℕ)) → Knows set before → met ≡ is_named name before

-- the new set has one name more
abbrev pub Learns : BTreeSet (Vec ℕ Global) → List ℕ → BTreeSet (Vec ℕ Global) → Type 0
Learns old name new = (before : List (List ℕ)) → Knows old before → Knows new (before ++ name ∷ [])

-- the table rows in front of row i are read, and their names are known
pub record AreRead (kinds : List (Option Kind)) (pages : ℕ) (rows : List SchemaRow) (i : ℕ) (names : BTreeSet (Vec ℕ Global))
    (rs : List TableReading) : Type 0 where
  pub numbers : map (λ (r : TableReading). r.row) rs ++ tables_from i (drop i rows) ≡ tables_from 0 rows
  pub readings : AllByRecursion (IsReadingIn kinds pages rows) rs
  pub known : Knows names (table_names (take i rows))
