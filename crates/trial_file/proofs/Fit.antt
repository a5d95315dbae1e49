-- The rows are those of a table: they fit, rise, and do not clash.
use Rattle.std.proofs.Common.{◌≡◌, refl, sym, ap, ◌∙◌, arith, ℕ, zero, suc, ◌+◌, ◌^◌, ◌<◌, ◌≤◌, pos, true, false, List, [], ◌∷◌, map, is_some, nat_cmp, is_eq, Ordering, Less, Equal, Greater}
use Rattle.std.specs.Cmp.Lexicographic.{slice_cmp}
use Rattle.std.specs.List.{AllByRecursion, IsDistinct}
use Rattle.std.specs.List.Sorted.{IsStrictlySortedBy}
use Rattle.std.specs.Str.{bytes_eq}
use Rattle.std.proofs.lemmas.Bool.{false_from_ne_true, lt-ltb, or_from}
use Rattle.std.proofs.lemmas.Map.Text.{is_eq-slice_cmp}
use Rattle.std.proofs.lemmas.Slice.Eq.{bytes_eq-Decides}
use Rattle.key_order.specs.Order.{value_cmp}
use Rattle.record_core.specs.declared.values.Value.{Value}
use Rattle.record_core.specs.declared.values.Value.TheVariants.{Text, Whole}
use Rattle.table_shape.specs.Keys.{AreRows, Keys, StoredRow, clash, fits, key_of, keys_of, orderable_row, rowid_part}
use Rattle.trial_file.specs.Rows.{name_of, row_of, rows_from, rows_of}
use Rattle.trial_file.specs.Trial.{table_shape}
use Rattle.trial_file.proofs.Mixed.{name_differ}

abbrev pub keys : Keys
keys = keys_of table_shape

-- ---- two rows

texts_differ : (a b : List ℕ) → (a ≡ b → ⊥) → is_eq (slice_cmp value_cmp (Text a ∷ []) (Text b ∷ [])) ≡ false
texts_differ a b apart = by (slice_cmp nat_cmp a b) refl
  where
    no : bytes_eq a b ≡ false
    no = false_from_ne_true _ (λ is. apart ((bytes_eq-Decides a b).0 is))

    other : is_eq (slice_cmp nat_cmp a b) ≡ false
    other = is_eq-slice_cmp a b ∙ no

    by : (o : Ordering) → slice_cmp nat_cmp a b ≡ o → is_eq (slice_cmp value_cmp (Text a ∷ []) (Text b ∷ [])) ≡ false
    by Less e = rw e refl
    by Equal e = (let wrong : true ≡ false = sym (ap is_eq e) ∙ other in absurd cc)
    by Greater e = rw e refl

no_clash : (j k : ℕ) → j < k → k < 2 ^ 20 → clash keys (row_of j) (row_of k) ≡ false
no_clash j k lt small = or_from _ _ (rw (lt-ltb j k lt) refl) (or_from _ _ (texts_differ (name_of j) (name_of k) (name_differ j k lt small)) refl)

abbrev first_key : StoredRow → List Value
first_key = key_of (rowid_part ∷ [])

below : (j k : ℕ) → j < k → slice_cmp value_cmp (Whole (pos j) ∷ []) (Whole (pos k) ∷ []) ≡ Less
below j k h = rw (lt-ltb j k h) refl

-- ---- all rows

all_above : (j k n : ℕ) → j < k → AllByRecursion (λ (key : List Value). slice_cmp value_cmp (Whole (pos j) ∷ []) key ≡ Less) (map first_key (rows_from k n))
all_above j k zero h = tt
all_above j k (suc n) h = (below j k h, all_above j (k + 1) n (omega (arith, h)))

all_apart : (j k n : ℕ) → j < k → k + n ≤ 2 ^ 20 → AllByRecursion (λ (row : StoredRow). clash keys (row_of j) row ≡ false) (rows_from k n)
all_apart j k zero h small = tt
all_apart j k (suc n) h small = (no_clash j k h (omega (arith, small)), all_apart j (k + 1) n (omega (arith, h)) (omega (arith, small)))

rise : (k n : ℕ) → IsStrictlySortedBy (slice_cmp value_cmp) (map first_key (rows_from k n))
unfolding IsStrictlySortedBy
rise k zero = tt
rise k (suc n) = (all_above k (k + 1) n (omega arith), rise (k + 1) n)

distinct : (k n : ℕ) → k + n ≤ 2 ^ 20 → IsDistinct (clash keys) (rows_from k n)
unfolding IsDistinct
distinct k zero small = tt
distinct k (suc n) small = (all_apart k (k + 1) n (omega arith) (omega (arith, small)), distinct (k + 1) n (omega (arith, small)))

fit : (k n : ℕ) → AllByRecursion (λ (row : StoredRow). fits keys row ≡ true) (rows_from k n)
fit k zero = tt
fit k (suc n) = (refl, fit (k + 1) n)

orderly : (k n : ℕ) → AllByRecursion (λ (row : StoredRow). orderable_row keys row ≡ true) (rows_from k n)
orderly k zero = tt
orderly k (suc n) = (refl, orderly (k + 1) n)

pub rows_are : (n : ℕ) → n < 2 ^ 20 → AreRows keys (rows_of n)
rows_are n small = record { fit = fit 1 n; orderly = orderly 1 n; rise = rise 1 n; apart = distinct 1 n (omega (arith, small)) }

pub have_rowids : (k n : ℕ) → AllByRecursion (λ (row : StoredRow). is_some row.rowid ≡ true) (rows_from k n)
have_rowids k zero = tt
have_rowids k (suc n) = (refl, have_rowids (k + 1) n)
