-- What the rows of a table and the entries of its keys add to the load, against what their cells take of the file.
use Rattle.std.proofs.Common.{◌≡◌, ◌<◌, ◌≤◌, ℕ, ◌*◌, Bool, true, false, List, [], ◌∷◌, length, map, filter, sum_by, refl, sym, ◌∙◌, arith, length-append}
use Rattle.std.specs.Prelude.{if◌then◌else◌, Some, None, Option, nat_lt}
use Rattle.std.specs.List.{AllByRecursion, AllZip}
use Rattle.std.proofs.lemmas.Bool.{and_parts}
use Rattle.std.proofs.lemmas.Bool.Decides.{nat_tests}
use Rattle.std.proofs.lemmas.List.{length-map}
use Rattle.std.proofs.lemmas.List.Sorted.{sum_by-IsPermutation}
use Rattle.page_access.specs.Pages.{File}
use Rattle.cell_reader.specs.declared.shapes.Kind.{Kind}
use Rattle.cell_reader.specs.declared.shapes.Kind.TheVariants as kinds
use Rattle.record_core.specs.declared.values.Value.{Value}
use Rattle.table_fill.proofs.Entries.{entries_rise}
use Rattle.table_shape.specs.declared.keys.KeyPart.{KeyPart}
use Rattle.table_shape.specs.declared.keys.Spot.TheVariants.{Rowid, Field}
use Rattle.table_shape.specs.Entries.{entries_of, entry_parts, follows, in_order}
use Rattle.table_shape.specs.Keys.{AreRows, StoredRow, first_of, fits, has_parts, has_spot, is_alias, key_of, keys_of, part_of, parts_of, rowid_part, value_at, values_of}
use Rattle.table_shape.specs.Shape.{IsKeyOf, IsShape, KeyColumns, Shape, stored_at}
use Rattle.tree_forms.specs.Node.{Held}
use Rattle.tree_forms.specs.Payload.{payload_of}
use Rattle.db_builder.specs.Load.{record_load}
use Rattle.db_builder.proofs.Fitting.{all_mapped}
use Rattle.db_builder.proofs.Sums.{sum_by-map}
use Rattle.well_formed.specs.Stored.{SpellsStored, SpellsValues}
use Rattle.well_formed.specs.Tables.{tree_kind}
use Rattle.well_formed_load.proofs.Records.{record_small}
use Rattle.well_formed_load.proofs.Sums.{sum_zipped}
use Rattle.well_formed_load.proofs.Trees.{cost}

-- ---- a record

-- an entry of an index tree has a value
abbrev pub HasValue : Kind → List Value → Type 0
HasValue kind values = kind ≡ kinds.Index → 1 ≤ length values

pub entry_costs : (f : File) (kind : Kind) (h : Held) (values : List Value) → SpellsValues f h values → HasValue kind values → record_load values ≤ 8 * cost f kind h
entry_costs f kinds.Table h values spelled some = omega (arith, record_small (payload_of f h) values spelled)
entry_costs f kinds.Index h values spelled some = omega (arith, record_small (payload_of f h) values spelled, some refl)

-- ---- the rows of a table

-- a row of a table WITHOUT ROWID has its primary key
first_there : (s : Shape) (row : StoredRow) (columns : List ℕ) → s.alias ≡ None → 0 < length columns → has_parts (map (part_of s) columns) row ≡ true → 1 ≤ length row.fields
first_there s row [] none some all = absurd (omega (arith, some))
first_there s row (c ∷ columns) none some all =
    let here : has_spot row (part_of s c).spot ≡ true = (and_parts (has_spot row (part_of s c).spot) (has_parts (map (part_of s) columns) row) all).0 in
    by s.alias none here
  where
    by : (alias : Option ℕ) → alias ≡ None → has_spot row (if is_alias alias c then Rowid else Field (stored_at s c)) ≡ true → 1 ≤ length row.fields
    by None e there = let lt : nat_lt (stored_at s c) (length row.fields) ≡ true = there in grind (arith, nat_tests, lt)
    by (Some k) e there = absurd cc

row_valued : (s : Shape) (row : StoredRow) → IsShape s → fits (keys_of s) row ≡ true → HasValue (tree_kind s) row.fields
row_valued s row is fit = by s.without_rowid refl (and_parts (has_parts (first_of s) row) _ (and_parts _ _ fit).1).0
  where
    by : (w : Bool) → s.without_rowid ≡ w → has_parts (if w then map (part_of s) s.primary else rowid_part ∷ []) row ≡ true
        → (if w then kinds.Index else kinds.Table) ≡ kinds.Index → 1 ≤ length row.fields
    by true w all same = first_there s row s.primary (is.without w).1 (is.without w).0 all
    by false w all same = absurd cc

rows_valued : (s : Shape) (rows : List StoredRow) → IsShape s → AllByRecursion (λ row. fits (keys_of s) row ≡ true) rows
    → AllByRecursion (λ (row : StoredRow). HasValue (tree_kind s) row.fields) rows
rows_valued s [] is fit = tt
rows_valued s (row ∷ rows) is fit = (row_valued s row is fit.0, rows_valued s rows is fit.1)

pub rows_cost : (f : File) (s : Shape) (cells : List Held) (rows : List StoredRow) → IsShape s → AreRows (keys_of s) rows → AllZip (SpellsStored f) cells rows
    → sum_by (λ (row : StoredRow). record_load row.fields) rows ≤ 8 * sum_by (cost f (tree_kind s)) cells
rows_cost f s cells rows is are zip =
    sum_zipped (SpellsStored f) (λ (row : StoredRow). HasValue (tree_kind s) row.fields) (cost f (tree_kind s)) (λ (row : StoredRow). record_load row.fields)
    (λ h row spelled some. entry_costs f (tree_kind s) h row.fields spelled.fields some) cells rows zip (rows_valued s rows is are.fit)

-- ---- the entries of a key

-- each row has its entry
entries_sum : (s : Shape) (key : KeyColumns) (rows : List StoredRow) → IsShape s → AreRows (keys_of s) rows
    → sum_by record_load (entries_of (keys_of s) (parts_of s key) rows) ≡ sum_by (λ row. record_load (values_of (entry_parts (keys_of s) (parts_of s key)) row)) rows
entries_sum s key rows is are =
    let parts = entry_parts (keys_of s) (parts_of s key) in
    let es = in_order (key_of parts) rows in
    let f : StoredRow → ℕ = λ row. record_load (values_of parts row) in
    let entry : List Value × StoredRow → List Value = λ e. values_of parts e.1 in
    let row : List Value × StoredRow → StoredRow = λ e. e.1 in
    sum_by-map record_load entry es ∙ sym (sum_by-map f row es) ∙ sum_by-IsPermutation f rows (map row es) (entries_rise s key rows is are).once

-- and each entry has the key's columns
entries_valued : (s : Shape) (key : KeyColumns) (rows : List StoredRow) → IsKeyOf s.columns key
    → AllByRecursion (HasValue kinds.Index) (entries_of (keys_of s) (parts_of s key) rows)
entries_valued s key rows is =
    let parts = entry_parts (keys_of s) (parts_of s key) in
    let own = map (part_of s) key.columns in
    let many : 1 ≤ length parts =
    omega (arith, is.some, length-append own (filter (λ p. follows own p.spot) (first_of s)), length-map key.columns (part_of s)) in
    all_mapped (HasValue kinds.Index) (λ (e : List Value × StoredRow). values_of parts e.1) (in_order (key_of parts) rows)
    (λ e same. omega (arith, many, length-map parts (λ (p : KeyPart). value_at e.1 p.spot)))

pub entries_cost : (f : File) (s : Shape) (key : KeyColumns) (cells : List Held) (rows : List StoredRow) → IsShape s → IsKeyOf s.columns key → AreRows (keys_of s) rows
    → AllZip (SpellsValues f) cells (entries_of (keys_of s) (parts_of s key) rows)
    → sum_by (λ row. record_load (values_of (entry_parts (keys_of s) (parts_of s key)) row)) rows ≤ 8 * sum_by (cost f kinds.Index) cells
entries_cost f s key cells rows is own are zip =
    omega (
      arith,
      entries_sum s key rows is are,
      sum_zipped (SpellsValues f) (HasValue kinds.Index) (cost f kinds.Index) record_load (λ h values spelled some. entry_costs f kinds.Index h values spelled some)
          cells (entries_of (keys_of s) (parts_of s key) rows) zip (entries_valued s key rows own),
    )
