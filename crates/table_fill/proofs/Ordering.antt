-- Rows whose keys differ, in the order of their keys.
use Rattle.std.proofs.Common.{◌≡◌, refl, ap, ◌∙◌, Bool, false, List, [], ◌∷◌, map}
use Rattle.std.specs.Cmp.Lexicographic.{slice_cmp}
use Rattle.std.specs.List.{AllByRecursion, IsDistinct}
use Rattle.std.specs.List.Sorted.{IsPermutation, IsStrictlySortedBy}
use Rattle.std.specs.Ordering.{is_eq}
use Rattle.std.proofs.lemmas.List.Sorted.{IsPermutation-cons, IsPermutation-map, IsPermutation-refl, IsPermutation-trans}
use Rattle.std.proofs.lemmas.Map.Keys.{IsDistinct-head, IsDistinct-tail}
use Rattle.key_order.specs.Order.{value_cmp}
use Rattle.key_order.specs.Totals.{folds_total}
use Rattle.record_core.specs.declared.values.Value.{Value}
use Rattle.table_shape.specs.Entries.{in_order}
use Rattle.table_fill.proofs.Inserting.{IsNew, all_both, all_moved, all_from_map, insert_all, insert_moves, insert_sorted}

-- two rows have the same key
abbrev pub same_by : {A : Type 0} → (A → List Value) → A → A → Bool
same_by key a b = is_eq (slice_cmp value_cmp (key a) (key b))

-- the rows by their keys, in order
pub record Ordered {A : Type 0} (key : A → List Value) (rows : List A) (es : List (List Value × A)) : Type 0 where
  pub keyed : AllByRecursion (λ e. e.0 ≡ key e.1) es
  pub sorted : IsStrictlySortedBy (slice_cmp value_cmp) (map (λ e. e.0) es)
  pub moved : IsPermutation rows (map (λ e. e.1) es)

start : {A : Type 0} (key : A → List Value) → Ordered key [] []
unfolding IsStrictlySortedBy
start key = record { keyed = tt; sorted = tt; moved = IsPermutation-refl [] }

-- one row more, whose key is not among the others
more : {A : Type 0} (key : A → List Value) (r : A) (rows : List A) → Ordered key rows (in_order key rows)
    → AllByRecursion (λ y. same_by key r y ≡ false) rows → Ordered key (r ∷ rows) (in_order key (r ∷ rows))
more {A} key r rows done apart =
    let es = in_order key rows in
    let others : AllByRecursion (λ e. same_by key r e.1 ≡ false) es =
    all_from_map (λ y. same_by key r y ≡ false) (λ e. e.1) es (all_moved (λ y. same_by key r y ≡ false) rows (map (λ e. e.1) es) done.moved apart) in
    let new : IsNew folds_total (key r) es =
    all_both (λ (e : List Value × A). e.0 ≡ key e.1) (λ e. same_by key r e.1 ≡ false) (λ e. is_eq (slice_cmp value_cmp (key r) e.0) ≡ false)
    (λ e k s. ap (λ q. is_eq (slice_cmp value_cmp (key r) q)) k ∙ s) es done.keyed others in
    record {
      keyed = insert_all folds_total (λ (e : List Value × A). e.0 ≡ key e.1) es (key r) r new done.keyed refl;
      sorted = insert_sorted folds_total es (key r) r new done.sorted;
      moved = IsPermutation-trans (r ∷ rows) (r ∷ map (λ e. e.1) es) (map (λ e. e.1) (in_order key (r ∷ rows)))
          (IsPermutation-cons r rows (map (λ e. e.1) es) done.moved)
          (IsPermutation-map (λ (e : List Value × A). e.1) ((key r, r) ∷ es) (in_order key (r ∷ rows)) (insert_moves folds_total es (key r) r new));
    }

pub ordered : {A : Type 0} (key : A → List Value) (rows : List A) → IsDistinct (same_by key) rows → Ordered key rows (in_order key rows)
ordered key [] apart = start key
ordered key (r ∷ rows) apart =
    more key r rows (ordered key rows (IsDistinct-tail (same_by key) r rows apart)) (IsDistinct-head (same_by key) r rows apart)

-- the keys of the rows in order are those that stand beside them
pub keys_are : {A : Type 0} (key : A → List Value) (es : List (List Value × A)) → AllByRecursion (λ e. e.0 ≡ key e.1) es
    → map (λ e. e.0) es ≡ map key (map (λ e. e.1) es)
keys_are key [] keyed = refl
keys_are key (e ∷ es) keyed =
    let one : e.0 ≡ key e.1 = keyed.0 in
    let others = keys_are key es keyed.1 in
    λ i. one i ∷ others i
