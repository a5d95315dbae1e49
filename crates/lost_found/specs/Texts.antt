-- The text and the shape of the table of lost cells (docs/FORMAT.md, "The table of lost cells").
use Rattle.std.specs.Prelude.{ℕ, false, ◌==◌, if◌then◌else◌, Some, None, List, [], ◌∷◌, ◌++◌, codes, decimal, map}
use Rattle.std.specs.List.{flat_map, range_with_len}
use Rattle.key_order.specs.declared.Coll.TheVariants.{Binary}
use Rattle.table_shape.specs.declared.columns.Column.{Column}
use Rattle.table_shape.specs.Shape.{Shape}

-- ---- names in a text

-- each quote of a name is doubled
abbrev pub doubled : List ℕ → List ℕ
doubled [] = []
doubled (b ∷ name) = if b == 34 then 34 ∷ (34 ∷ doubled name) else b ∷ doubled name

-- a name between quotes
abbrev pub quoted : List ℕ → List ℕ
quoted name = codes "\"" ++ (doubled name ++ codes "\"")

-- ---- columns

-- the columns that tell where a cell comes from
abbrev pub first_names : List (List ℕ)
first_names = codes "rootpgno" ∷ (codes "pgno" ∷ (codes "nfield" ∷ (codes "id" ∷ [])))

-- the columns of n fields: c0, c1, c2, ..
abbrev pub field_name : ℕ → List ℕ
field_name i = codes "c" ++ decimal i

abbrev pub field_names : ℕ → List (List ℕ)
field_names n = map field_name (range_with_len 0 n)

-- further columns, behind others
abbrev pub behind_commas : List (List ℕ) → List ℕ
behind_commas names = flat_map (λ name. codes ", " ++ name) names

-- ---- the table with a name and the columns of n fields

abbrev pub lost_text : List ℕ → ℕ → List ℕ
lost_text name n = codes "CREATE TABLE " ++ (quoted name
    ++ (codes "(rootpgno INTEGER, pgno INTEGER, nfield INTEGER, id INTEGER"
    ++ (behind_commas (field_names n) ++ codes ")")))

-- a column of no key
abbrev pub plain_column : List ℕ → Column
plain_column name = record { name = name; coll = Some Binary; real = false }

abbrev pub lost_shape : List ℕ → ℕ → Shape
lost_shape name n = record {
  name = name;
  columns = map plain_column (first_names ++ field_names n);
  alias = None;
  without_rowid = false;
  primary = [];
  keys = [];
  autoincrement = false;
}
