-- The rowids of rows that rise by their rowids.
use Rattle.std.proofs.Common.{◌≡◌, ℤ, Bool, true, false, List, [], ◌∷◌, map, refl, subst, arith}
use Rattle.std.specs.Prelude.{Option, Some, None, is_some, ◌<ℤ◌, if◌then◌else◌, int_lt}
use Rattle.std.specs.Cmp.Lexicographic.{slice_cmp}
use Rattle.std.specs.List.{AllByRecursion}
use Rattle.std.specs.List.Sorted.{IsStrictlySortedBy}
use Rattle.std.specs.Ordering.{ordering_then}
use Rattle.std.specs.declared.cmp.Ordering.TheVariants.{Less, Equal, Greater}
use Rattle.std.proofs.lemmas.Int.{ints}
use Rattle.key_order.specs.declared.Coll.TheVariants.{Binary}
use Rattle.key_order.specs.Order.{folded, value_cmp}
use Rattle.record_core.specs.declared.values.Value.{Value}
use Rattle.record_core.specs.declared.values.Value.TheVariants.{Whole}
use Rattle.table_shape.specs.Keys.{StoredRow, key_of, number_of, rowid_part}
use Rattle.tree_writer.specs.Entry.{HaveNoRowids, RowidsRise}
use Rattle.db_builder.specs.Trees.{row_entry}

some_is : (z : Option ℤ) → is_some z ≡ true → (n : ℤ) × (z ≡ Some n)
some_is None h = absurd cc
some_is (Some n) h = (n, refl)

none_is : (z : Option ℤ) → is_some z ≡ false → z ≡ None
none_is None h = refl
none_is (Some n) h = absurd cc

-- whole numbers as keys are ordered by their values
whole_less : (a b : ℤ) → slice_cmp value_cmp (Whole a ∷ []) (Whole b ∷ []) ≡ Less → a <ℤ b
whole_less a b h = by (int_lt a b) refl (int_lt b a) h
  where
    by : (s : Bool) → int_lt a b ≡ s → (t : Bool) → ordering_then (ordering_then (if s then Less else (if t then Greater else Equal)) Equal) Equal ≡ Less → a <ℤ b
    by true e t h = grind (arith, ints)
    by false e true h = absurd cc
    by false e false h = absurd cc

-- keys that are above a rowid
abbrev AreAbove : Option ℤ → List (List Value) → Type 0
AreAbove None keys = Unit {0}
AreAbove (Some l) keys = AllByRecursion (λ key. slice_cmp value_cmp (Whole l ∷ []) key ≡ Less) keys

rises : (low : Option ℤ) (rows : List StoredRow) → AllByRecursion (λ (row : StoredRow). is_some row.rowid ≡ true) rows
    → IsStrictlySortedBy (slice_cmp value_cmp) (map (key_of (rowid_part ∷ [])) rows) → AreAbove low (map (key_of (rowid_part ∷ [])) rows) → RowidsRise low (map row_entry rows)
unfolding IsStrictlySortedBy
rises low [] all rise above = tt
rises None (r ∷ rs) all rise above =
    let z = some_is r.rowid all.0 in
    (z.0, z.1, tt, rises (Some z.0) rs all.1 rise.1 (subst (λ (q : Option ℤ). AllByRecursion (λ key. slice_cmp value_cmp (folded Binary (number_of q) ∷ []) key ≡ Less) (map (key_of (rowid_part ∷ [])) rs)) z.1 rise.0))
rises (Some l) (r ∷ rs) all rise above =
    let z = some_is r.rowid all.0 in (
      z.0,
      z.1,
      whole_less l z.0 (subst (λ (q : Option ℤ). slice_cmp value_cmp (Whole l ∷ []) (folded Binary (number_of q) ∷ []) ≡ Less) z.1 above.0),
      rises (Some z.0) rs all.1 rise.1 (subst (λ (q : Option ℤ). AllByRecursion (λ key. slice_cmp value_cmp (folded Binary (number_of q) ∷ []) key ≡ Less) (map (key_of (rowid_part ∷ [])) rs)) z.1 rise.0),
    )

-- rows that rise by their rowids have rising entries
pub rowids_rise : (rows : List StoredRow) → AllByRecursion (λ (row : StoredRow). is_some row.rowid ≡ true) rows
    → IsStrictlySortedBy (slice_cmp value_cmp) (map (key_of (rowid_part ∷ [])) rows) → RowidsRise None (map row_entry rows)
rowids_rise rows all rise = rises None rows all rise tt

-- rows without a rowid have entries without one
pub no_rowids : (rows : List StoredRow) → AllByRecursion (λ (row : StoredRow). is_some row.rowid ≡ false) rows → HaveNoRowids (map row_entry rows)
no_rowids [] all = tt
no_rowids (r ∷ rs) all = (none_is r.rowid all.0, no_rowids rs all.1)
