-- A row of the schema is that of at most one key of one table, so that the rows of all keys are some of the rows.
use Rattle.std.proofs.Common.{◌≡◌, ◌≢◌, ◌<◌, ◌≤◌, inl, inr, ℕ, ◌^◌, Bool, true, false, ◌&&◌, List, [], ◌∷◌, filter, map, sum_by, refl, sym, ◌∙◌, arith}
use Rattle.std.specs.Prelude.{if◌then◌else◌}
use Rattle.std.specs.List.{AllByRecursion, IsDistinct}
use Rattle.std.specs.Str.{bytes_eq}
use Rattle.std.proofs.lemmas.Bool.{and_parts, cases_Bool}
use Rattle.std.proofs.lemmas.Slice.Eq.{bytes_eq-Decides}
use Rattle.raw_schema.specs.declared.rows.SchemaRow.{SchemaRow}
use Rattle.table_shape.specs.declared.rows.OutTable.{OutTable}
use Rattle.table_shape.specs.Keys.{KeyParts}
use Rattle.table_shape.specs.Names.{index_name, same_name}
use Rattle.db_builder.specs.Trees.{keys_in}
use Rattle.well_formed.specs.Indexes.{is_index_of}
use Rattle.layout_laws.proofs.Keys.{Rising, index_name_one, other_bytes}
use Rattle.layout_laws.proofs.Tables.{not_named}
use Rattle.well_formed_load.proofs.Sums.{AtMostOne, none_pass, sum_each, sum_once, sum_passed, sum_swapped, sum_where}

-- ---- a row and a key

-- the row of a key has its name and its table
pub of_key : (name : List ℕ) (n : ℕ) (row : SchemaRow) → is_index_of name n row ≡ true → (row.name ≡ index_name name n) × (row.tbl ≡ name)
of_key name n row hit =
    let both = and_parts (bytes_eq row.name (index_name name n)) (bytes_eq row.tbl name) hit in
    ((bytes_eq-Decides row.name (index_name name n)).0 both.0, (bytes_eq-Decides row.tbl name).0 both.1)

-- it is not that of another key
other_key : (name : List ℕ) (m n : ℕ) (row : SchemaRow) → m < 2 ^ 63 → n < 2 ^ 63 → m ≢ n → is_index_of name m row ≡ true → is_index_of name n row ≡ false
other_key name m n row small_m small_n other hit =
    let name_is = (of_key name m row hit).0 in
    let miss = other_bytes row.name (index_name name n) (λ e. other (index_name_one name m n small_m small_n (sym name_is ∙ e))) in
    rw miss refl

-- a row of no key of the table
other_table : (name : List ℕ) (n : ℕ) (row : SchemaRow) → bytes_eq row.tbl name ≡ false → is_index_of name n row ≡ false
other_table name n row miss = by (bytes_eq row.name (index_name name n))
  where
    by : (b : Bool) → (b && bytes_eq row.tbl name) ≡ false
    by true = miss
    by false = refl

-- ---- the keys of a table

later_keys : (name : List ℕ) (row : SchemaRow) (n low : ℕ) (keys : List KeyParts) → n < 2 ^ 63 → n ≤ low → Rising low keys → is_index_of name n row ≡ true
    → AllByRecursion (λ (key : KeyParts). is_index_of name key.number row ≡ false) keys
later_keys name row n low [] small le rise hit = tt
later_keys name row n low (key ∷ keys) small le rise hit = (
  other_key name n key.number row small rise.1.0 (let above = rise.0 in λ same. absurd (omega (arith, same, le, above))) hit,
  later_keys name row n key.number keys small (omega (arith, le, rise.0)) rise.1.1 hit,
)

keys_once : (name : List ℕ) (row : SchemaRow) (low : ℕ) (keys : List KeyParts) → Rising low keys → AtMostOne (λ (key : KeyParts). is_index_of name key.number row) keys
keys_once name row low [] rise = tt
keys_once name row low (key ∷ keys) rise =
    (λ hit. later_keys name row key.number key.number keys rise.1.0 (omega arith) rise.1.1 hit, keys_once name row key.number keys rise.1.1)

none_of_table : (name : List ℕ) (row : SchemaRow) (keys : List KeyParts) → bytes_eq row.tbl name ≡ false
    → AllByRecursion (λ (key : KeyParts). is_index_of name key.number row ≡ false) keys
none_of_table name row [] miss = tt
none_of_table name row (key ∷ keys) miss = (other_table name key.number row miss, none_of_table name row keys miss)

-- all that the keys of a table count of a row, and what the table counts of it
row_of_table : (g : SchemaRow → ℕ) (name : List ℕ) (keys : List KeyParts) → Rising 0 keys → (row : SchemaRow)
    → sum_by (λ (key : KeyParts). if is_index_of name key.number row then g row else 0) keys ≤ (if bytes_eq row.tbl name then g row else 0)
row_of_table g name keys rise row =
    elim (cases_Bool (bytes_eq row.tbl name)) [
      | inl e ↦
          let counted : (if bytes_eq row.tbl name then g row else 0) ≡ g row = rw e refl in
          omega (arith, counted, sum_once (λ (key : KeyParts). is_index_of name key.number row) (g row) keys (keys_once name row 0 keys rise))
      | inr e ↦ omega (arith, none_pass (λ (key : KeyParts). is_index_of name key.number row) (g row) keys (none_of_table name row keys e))
    ]

-- the rows of the automatic indexes of a table's keys, by a measure of rows
abbrev pub key_rows_sum : (SchemaRow → ℕ) → List SchemaRow → List ℕ → List KeyParts → ℕ
key_rows_sum g rows name keys = sum_by (λ (key : KeyParts). sum_by g (filter (is_index_of name key.number) rows)) keys

table_counts : (g : SchemaRow → ℕ) (rows : List SchemaRow) (name : List ℕ) (keys : List KeyParts) → Rising 0 keys
    → key_rows_sum g rows name keys ≤ sum_by (λ (row : SchemaRow). if bytes_eq row.tbl name then g row else 0) rows
table_counts g rows name keys rise =
    let f : KeyParts → SchemaRow → ℕ = λ key row. if is_index_of name key.number row then g row else 0 in
    omega (
      arith,
      sum_each (λ (key : KeyParts). sum_by g (filter (is_index_of name key.number) rows)) (λ key. sum_by (f key) rows) keys
          (λ key. omega (arith, sum_passed (is_index_of name key.number) g rows)),
      sum_swapped f (λ (row : SchemaRow). if bytes_eq row.tbl name then g row else 0) keys rows (row_of_table g name keys rise),
    )

-- ---- the tables

later_tables : (row : SchemaRow) (t : OutTable) (ts : List OutTable) → AllByRecursion (λ (name : List ℕ). same_name t.name name ≡ false) (map (λ (u : OutTable). u.name) ts)
    → bytes_eq row.tbl t.name ≡ true → AllByRecursion (λ (u : OutTable). bytes_eq row.tbl u.name ≡ false) ts
later_tables row t [] apart hit = tt
later_tables row t (u ∷ ts) apart hit = (
  other_bytes row.tbl u.name (λ e. not_named t.name u.name apart.0 (sym ((bytes_eq-Decides row.tbl t.name).0 hit) ∙ e)),
  later_tables row t ts apart.1 hit,
)

tables_once : (row : SchemaRow) (ts : List OutTable) → IsDistinct same_name (map (λ (t : OutTable). t.name) ts)
    → AtMostOne (λ (t : OutTable). bytes_eq row.tbl t.name) ts
unfolding IsDistinct
tables_once row [] apart = tt
tables_once row (t ∷ ts) apart = (λ hit. later_tables row t ts apart.0 hit, tables_once row ts apart.1)

-- the numbers of a table's keys rise, and fit
abbrev pub HasRising : OutTable → Type 0
HasRising t = Rising 0 (keys_in t).keys

-- the rows of all keys of all tables are no more than the rows
pub keys_count : (g : SchemaRow → ℕ) (rows : List SchemaRow) (ts : List OutTable) → IsDistinct same_name (map (λ (t : OutTable). t.name) ts)
    → AllByRecursion HasRising ts → sum_by (λ (t : OutTable). key_rows_sum g rows t.name (keys_in t).keys) ts ≤ sum_by g rows
keys_count g rows ts apart rise =
    let f : OutTable → SchemaRow → ℕ = λ t row. if bytes_eq row.tbl t.name then g row else 0 in
    omega (
      arith,
      sum_where HasRising (λ (t : OutTable). key_rows_sum g rows t.name (keys_in t).keys) (λ t. sum_by (f t) rows) ts rise
          (λ t up. table_counts g rows t.name (keys_in t).keys up),
      sum_swapped f g ts rows (λ row. sum_once (λ (t : OutTable). bytes_eq row.tbl t.name) (g row) ts (tables_once row ts apart)),
    )
