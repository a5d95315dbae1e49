-- The table can be written: its name is free for it, and its rows fit and rise.
use Rattle.std.proofs.Common.{◌≡◌, refl, sym, ap, ◌∙◌, arith, inl, inr, ℕ, zero, suc, ◌+◌, ◌^◌, ◌<◌, ◌≤◌, pos, true, false, Some, List, [], ◌∷◌, ◌++◌, length, length-append, map, take, take-take, codes, lit<, lit≤, is_some, Less}
use Rattle.std.specs.Cmp.Lexicographic.{slice_cmp}
use Rattle.std.specs.List.{AllByRecursion, IsDistinct}
use Rattle.std.specs.List.Sorted.{IsStrictlySortedBy}
use Rattle.std.specs.Str.{str_to_ascii_lowercase}
use Rattle.std.proofs.lemmas.Bool.{cases_Bool, false_from_ne_true, le-ltb, lt-ltb, or_from, true≢false}
use Rattle.std.proofs.lemmas.List.{length-map, take-map}
use Rattle.std.proofs.lemmas.Slice.Eq.{bytes_eq-Decides}
use Rattle.key_order.specs.Order.{value_cmp}
use Rattle.page_walk.specs.Cells.{Row}
use Rattle.record_core.specs.declared.values.Value.{Value}
use Rattle.record_core.specs.declared.values.Value.TheVariants.{Whole}
use Rattle.table_shape.specs.Keys.{AreRows, Keys, StoredRow, clash, fits, key_of, keys_of, orderable_row, rowid_part}
use Rattle.table_shape.specs.Names.{begins_as_automatic, is_named, is_reserved, is_schema_name, same_name}
use Rattle.lost_found.specs.Names.{CanBeBase, begins_internal, free_from, lost_name, numbered}
use Rattle.lost_found.specs.Rows.{lost_row, lost_rows, most_fields}
use Rattle.lost_found.specs.Texts.{field_names, first_names, lost_shape, plain_column}
use Rattle.lost_found.proofs.Digits.{AreDigits, are_digits, digit_small}
use Rattle.lost_found.proofs.Text.{field_count}

-- ---- the name is not reserved

-- what is the same as a text that begins with `sqlite_` begins so
not_same : (name text : List ℕ) → str_to_ascii_lowercase (take 7 text) ≡ codes "sqlite_" → begins_internal name ≡ false → same_name name text ≡ false
not_same name text begins isnt = false_from_ne_true _ (λ is.
    let same : str_to_ascii_lowercase name ≡ str_to_ascii_lowercase text =
    (bytes_eq-Decides (str_to_ascii_lowercase name) (str_to_ascii_lowercase text)).0 is in
    let front : str_to_ascii_lowercase (take 7 name) ≡ codes "sqlite_" =
    sym (take-map _ 7 name) ∙ (ap (take 7) same ∙ (take-map _ 7 text ∙ begins)) in
    true≢false (sym ((bytes_eq-Decides (str_to_ascii_lowercase (take 7 name)) (codes "sqlite_")).1 front) ∙ isnt))

not_reserved : (name : List ℕ) → begins_internal name ≡ false → is_reserved name ≡ false
unfolding is_schema_name begins_as_automatic
not_reserved name isnt =
    let shorter : begins_internal (take 17 name) ≡ false =
    ap (λ (z : List ℕ). same_name z (codes "sqlite_")) (take-take 7 17 name (lit≤ tt)) ∙ isnt in
    or_from _ _ (or_from _ _ (not_same name (codes "sqlite_master") refl isnt)
    (or_from _ _ (not_same name (codes "sqlite_schema") refl isnt)
    (or_from _ _ (not_same name (codes "sqlite_temp_master") refl isnt) (not_same name (codes "sqlite_temp_schema") refl isnt))))
    (not_same (take 17 name) (codes "sqlite_autoindex_") refl shorter)

-- digits behind a name are no letters of what it begins with
without_digits : (text base ds : List ℕ) → AllByRecursion (λ p. 57 < p) text → AreDigits ds
    → str_to_ascii_lowercase (take (length text) (base ++ ds)) ≡ text → str_to_ascii_lowercase (take (length text) base) ≡ text
without_digits [] base ds letters digits e = refl
without_digits (p ∷ text) [] [] letters digits e = (let wrong : ⊥ = cc in absurd wrong)
without_digits (p ∷ text) [] (d ∷ ds) letters digits e =
    let head : str_to_ascii_lowercase (d ∷ []) ≡ p ∷ [] = cc in
    let same : d ∷ [] ≡ p ∷ [] = ap (λ z. z ∷ []) (sym (digit_small d digits.0)) ∙ head in
    let equal : d ≡ p = cc in
    let low = digits.0.1 in
    let high = letters.0 in
    absurd (omega (arith, equal, low, high))
without_digits (p ∷ text) (b ∷ base) ds letters digits e =
    let head : str_to_ascii_lowercase (b ∷ []) ≡ p ∷ [] = cc in
    let rest : str_to_ascii_lowercase (take (length text) (base ++ ds)) ≡ text = cc in
    λ i. head i ++ without_digits text base ds letters.1 digits rest i

numbered_internal : (base : List ℕ) (k : ℕ) → k < 2 ^ 64 → begins_internal base ≡ false → begins_internal (numbered base k) ≡ false
numbered_internal base k h isnt = false_from_ne_true _ (λ is.
    let front = (bytes_eq-Decides (str_to_ascii_lowercase (take 7 (numbered base k))) (codes "sqlite_")).0 is in
    let letters : AllByRecursion (λ p. 57 < p) (codes "sqlite_") = (lit< tt, (lit< tt, (lit< tt, (lit< tt, (lit< tt, (lit< tt, (lit< tt, tt))))))) in
    let short = without_digits (codes "sqlite_") base _ letters (are_digits k h) front in
    true≢false (sym ((bytes_eq-Decides (str_to_ascii_lowercase (take 7 base)) (codes "sqlite_")).1 short) ∙ isnt))

number_small : (n k : ℕ) (base : List ℕ) (names : List (List ℕ)) → free_from n k base names ≤ k + n
number_small zero k base names = omega arith
number_small (suc n) k base names =
    elim (cases_Bool (is_named (numbered base k) names)) [
      | inl is ↦ rw is (let rest = number_small n (k + 1) base names in omega (arith, rest))
      | inr isnt ↦ rw isnt (omega arith)
    ]

pub name_free : (base : List ℕ) (names : List (List ℕ)) → CanBeBase base → length names < 2 ^ 64 → is_reserved (lost_name base names) ≡ false
name_free base names can h =
    elim (cases_Bool (is_named base names)) [
      | inl is ↦
          let small = number_small (length names) 0 base names in
          rw is (not_reserved (numbered base (free_from (length names) 0 base names))
          (numbered_internal base (free_from (length names) 0 base names) (omega (arith, small, h)) can.not_internal))
      | inr isnt ↦ rw isnt (not_reserved base can.not_internal)
    ]

-- ---- the rows

-- what keys see of a row
abbrev pub seen : Row → StoredRow
seen r = record { rowid = r.rowid; fields = r.fields }

abbrev first_key : StoredRow → List Value
first_key = key_of (rowid_part ∷ [])

-- rows of a table with a rowid and no key
abbrev keyless : ℕ → Keys
keyless n = record { columns = n; first = rowid_part ∷ []; keys = [] }

below : (j k : ℕ) → j < k → slice_cmp value_cmp (Whole (pos j) ∷ []) (Whole (pos k) ∷ []) ≡ Less
below j k h = rw (lt-ltb j k h) refl

apart : (n j k : ℕ) (f g : List Value) → j < k
    → clash (keyless n) (record { rowid = Some (pos j); fields = f }) (record { rowid = Some (pos k); fields = g }) ≡ false
apart n j k f g h = rw (lt-ltb j k h) refl

all_above : (j k : ℕ) (cells : List (ℕ × Row)) → j < k
    → AllByRecursion (λ (key : List Value). slice_cmp value_cmp (Whole (pos j) ∷ []) key ≡ Less) (map first_key (map seen (lost_rows k cells)))
all_above j k [] h = tt
all_above j k (c ∷ cells) h = (below j k h, all_above j (k + 1) cells (omega (arith, h)))

all_apart : (n j : ℕ) (d : ℕ × Row) (k : ℕ) (cells : List (ℕ × Row)) → j < k
    → AllByRecursion (λ (row : StoredRow). clash (keyless n) (seen (lost_row j d)) row ≡ false) (map seen (lost_rows k cells))
all_apart n j d k [] h = tt
all_apart n j d k (c ∷ cells) h = (apart n j k (seen (lost_row j d)).fields (seen (lost_row k c)).fields h, all_apart n j d (k + 1) cells (omega (arith, h)))

rise : (k : ℕ) (cells : List (ℕ × Row)) → IsStrictlySortedBy (slice_cmp value_cmp) (map first_key (map seen (lost_rows k cells)))
unfolding IsStrictlySortedBy
rise k [] = tt
rise k (c ∷ cells) = (all_above k (k + 1) cells (omega arith), rise (k + 1) cells)

distinct : (n k : ℕ) (cells : List (ℕ × Row)) → IsDistinct (clash (keyless n)) (map seen (lost_rows k cells))
unfolding IsDistinct
distinct n k [] = tt
distinct n k (c ∷ cells) = (all_apart n k c (k + 1) cells (omega arith), distinct n (k + 1) cells)

fit : (n k : ℕ) (cells : List (ℕ × Row)) → 4 + most_fields cells ≤ n
    → AllByRecursion (λ (row : StoredRow). fits (keyless n) row ≡ true) (map seen (lost_rows k cells))
fit n k [] h = tt
fit n k (c ∷ cells) h =
    let few : length (seen (lost_row k c)).fields ≤ n = omega (arith, h) in
    (rw (le-ltb n (length (seen (lost_row k c)).fields) few) refl, fit n (k + 1) cells (omega (arith, h)))

orderly : (n k : ℕ) (cells : List (ℕ × Row)) → AllByRecursion (λ (row : StoredRow). orderable_row (keyless n) row ≡ true) (map seen (lost_rows k cells))
orderly n k [] = tt
orderly n k (c ∷ cells) = (refl, orderly n (k + 1) cells)

are_rows : (n : ℕ) (cells : List (ℕ × Row)) → 4 + most_fields cells ≤ n → AreRows (keyless n) (map seen (lost_rows 1 cells))
are_rows n cells h = record { fit = fit n 1 cells h; orderly = orderly n 1 cells; rise = rise 1 cells; apart = distinct n 1 cells }

-- the shape has four columns more than fields
column_count : (n : ℕ) → length (map plain_column (first_names ++ field_names n)) ≡ 4 + n
column_count n = length-map (first_names ++ field_names n) plain_column ∙ (length-append first_names (field_names n) ∙ ap (λ m. 4 + m) (field_count 0 n))

pub rows_are : (name : List ℕ) (cells : List (ℕ × Row)) → AreRows (keys_of (lost_shape name (most_fields cells))) (map seen (lost_rows 1 cells))
rows_are name cells = are_rows _ cells (omega (arith, column_count (most_fields cells)))

pub have_rowids : (k : ℕ) (cells : List (ℕ × Row)) → AllByRecursion (λ (row : StoredRow). is_some row.rowid ≡ true) (map seen (lost_rows k cells))
have_rowids k [] = tt
have_rowids k (c ∷ cells) = (refl, have_rowids (k + 1) cells)
