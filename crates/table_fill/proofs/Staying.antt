-- Rows of a well-formed table, found in any order, are its rows.
use Rattle.std.proofs.Common.{◌≡◌, ◌⊎◌, inl, inr, refl, sym, ap, subst, ◌∙◌, Bool, true, false, ◌&&◌, None, List, [], ◌∷◌, ◌++◌, map, append-nil}
use Rattle.std.specs.Cmp.Lexicographic.{slice_cmp}
use Rattle.std.specs.List.{AllByRecursion, IsDistinct}
use Rattle.std.specs.List.Sorted.{IsPermutation, IsStrictlySortedBy}
use Rattle.std.specs.Ordering.{ordering_reverse}
use Rattle.std.specs.declared.cmp.Ordering.TheVariants.{Less}
use Rattle.std.proofs.lemmas.List.Sorted.{IsPermutation-map, IsPermutation-middle, IsPermutation-refl, IsPermutation-sym, IsPermutation-trans}
use Rattle.std.proofs.lemmas.Map.Keys.{IsDistinct-IsPermutation, IsDistinct-head, IsDistinct-tail, sorted_head, sorted_tail}
use Rattle.key_order.specs.Order.{value_cmp}
use Rattle.key_order.specs.Totals.{folds_total}
use Rattle.record_core.specs.declared.values.Value.{Value}
use Rattle.table_shape.specs.Entries.{in_order}
use Rattle.table_shape.specs.Keys.{AreRows, Keys, clash, fits, key_of, orderable_row}
use Rattle.page_walk.specs.Cells.{Row}
use Rattle.table_fill.specs.Fates.{Sorted, fate_of, first_unordered, held, nothing, row_key, rows_of, sorted_of, with_cells, with_fate}
use Rattle.table_fill.specs.Laws.{Stays}
use Rattle.table_fill.proofs.Clashing.{clash_back, is_kept}
use Rattle.table_fill.proofs.Good.{keys_differ, map_both}
use Rattle.table_fill.proofs.Inserting.{all_from_map, all_map, all_moved}
use Rattle.table_fill.proofs.Ordering.{keys_are, ordered}

-- ---- lists whose keys rise strictly and that have the same elements

abbrev IsIn : {A : Type 0} → A → List A → Type 0
IsIn z [] = ⊥
IsIn z (y ∷ ys) = (z ≡ y) ⊎ IsIn z ys

self : {A : Type 0} (xs : List A) → AllByRecursion (λ z. IsIn z xs) xs
self [] = tt
self {A} (x ∷ xs) = (inl refl, all_map (λ z. IsIn z xs) (λ z. IsIn z (x ∷ xs)) (λ z h. inr h) xs (self xs))

module _ {A : Type 0} (key : A → List Value) where
  below : (x : A) (ys : List A) → AllByRecursion (λ k. slice_cmp value_cmp (key x) k ≡ Less) (map key ys)
      → (z : A) → IsIn z ys → slice_cmp value_cmp (key x) (key z) ≡ Less
  below x [] up z h = absurd h
  below x (y ∷ ys) up z (inl e) = subst (λ (q : A). slice_cmp value_cmp (key x) (key q) ≡ Less) (sym e) up.0
  below x (y ∷ ys) up z (inr h) = below x ys up.1 z h

  never : (a b : List Value) → slice_cmp value_cmp a b ≡ Less → slice_cmp value_cmp b a ≡ Less → ⊥
  never a b lt gt = let both : Less ≡ ordering_reverse Less = sym lt ∙ folds_total.antisymm a b ∙ ap ordering_reverse gt in cc

  -- what is in a rising list is not its head where it is above it
  in_tail : (x y : A) (xs : List A) → AllByRecursion (λ z. slice_cmp value_cmp (key x) (key z) ≡ Less) xs → x ≡ y → (ys : List A)
      → AllByRecursion (λ z. IsIn z (y ∷ ys)) xs → AllByRecursion (λ z. IsIn z ys) xs
  in_tail x y [] up e ys all = tt
  in_tail x y (z ∷ xs) up e ys all = (one all.0, in_tail x y xs up.1 e ys all.1)
    where
      one : IsIn z (y ∷ ys) → IsIn z ys
      one (inl same) =
          let eq : slice_cmp value_cmp (key x) (key x) ≡ Less =
          subst (λ (q : A). slice_cmp value_cmp (key x) (key q) ≡ Less) (same ∙ sym e) up.0 in
          absurd (never (key x) (key x) eq eq)
      one (inr h) = h

  same_head : (x y : A) (xs ys : List A) → IsStrictlySortedBy (slice_cmp value_cmp) (map key (x ∷ xs))
      → IsStrictlySortedBy (slice_cmp value_cmp) (map key (y ∷ ys)) → IsIn x (y ∷ ys) → IsIn y (x ∷ xs) → x ≡ y
  same_head x y xs ys up high (inl e) b = e
  same_head x y xs ys up high (inr a) (inl e) = sym e
  same_head x y xs ys up high (inr a) (inr b) =
      absurd (never (key x) (key y)
      (below x xs (sorted_head (slice_cmp value_cmp) (key x) (map key xs) up) y b)
      (below y ys (sorted_head (slice_cmp value_cmp) (key y) (map key ys) high) x a))

  pub rises_same : (xs ys : List A) → IsStrictlySortedBy (slice_cmp value_cmp) (map key xs)
      → IsStrictlySortedBy (slice_cmp value_cmp) (map key ys) → AllByRecursion (λ z. IsIn z ys) xs
      → AllByRecursion (λ z. IsIn z xs) ys → xs ≡ ys
  rises_same [] [] up high a b = refl
  rises_same [] (y ∷ ys) up high a b = absurd b.0
  rises_same (x ∷ xs) [] up high a b = absurd a.0
  rises_same (x ∷ xs) (y ∷ ys) up high a b =
      let e = same_head x y xs ys up high a.0 b.0 in
      let xs_above : AllByRecursion (λ z. slice_cmp value_cmp (key x) (key z) ≡ Less) xs =
      all_from_map (λ k. slice_cmp value_cmp (key x) k ≡ Less) key xs (sorted_head (slice_cmp value_cmp) (key x) (map key xs) up) in
      let ys_above : AllByRecursion (λ z. slice_cmp value_cmp (key y) (key z) ≡ Less) ys =
      all_from_map (λ k. slice_cmp value_cmp (key y) k ≡ Less) key ys (sorted_head (slice_cmp value_cmp) (key y) (map key ys) high) in
      let others = rises_same xs ys (sorted_tail (slice_cmp value_cmp) (key x) (map key xs) up) (sorted_tail (slice_cmp value_cmp) (key y) (map key ys) high)
      (in_tail x y xs xs_above e ys a.1) (in_tail y x ys ys_above (sym e) xs b.1) in
      λ i. e i ∷ others i

-- ---- cells that fit and do not clash are all kept

-- cells that clash with none of the kept ones
abbrev AreFree : Keys → List Row → List Row → Type 0
AreFree t kept cells = AllByRecursion (λ r. AllByRecursion (λ k. clash t (held k) (held r) ≡ false) kept) cells

record AllStay (s : Sorted) (cells : List Row) (w : Sorted) : Type 0 where
  left : w.left ≡ s.left
  moved : IsPermutation (cells ++ s.kept) w.kept

free_more : (t : Keys) (r : Row) (kept cells : List Row) → AreFree t kept cells
    → AllByRecursion (λ y. clash t (held r) y ≡ false) (map held cells) → AreFree t (r ∷ kept) cells
free_more t r kept [] free apart = tt
free_more t r kept (c ∷ cells) free apart = ((apart.0, free.0), free_more t r kept cells free.1 apart.1)

all_stay : (t : Keys) (cells : List Row) (s : Sorted) → AllByRecursion (λ r. fits t (held r) ≡ true) cells
    → IsDistinct (clash t) (map held cells) → AreFree t s.kept cells → AllStay s cells (with_cells t s cells)
all_stay t [] s fit apart free = record { left = refl; moved = IsPermutation-refl s.kept }
all_stay t (r ∷ cells) s fit apart free =
    let kept : fate_of t s.kept r ≡ None = is_kept t s.kept r fit.0 free.0 in
    let next : Sorted = with_fate s r None in
    let done = all_stay t cells next fit.1 (IsDistinct-tail (clash t) (held r) (map held cells) apart)
    (free_more t r s.kept cells free.1 (IsDistinct-head (clash t) (held r) (map held cells) apart)) in
    subst (λ o. AllStay s (r ∷ cells) (with_cells t (with_fate s r o) cells)) (sym kept) (record {
      left = done.left;
      moved = IsPermutation-trans (r ∷ (cells ++ s.kept)) (cells ++ r ∷ s.kept) (with_cells t next cells).kept
          (IsPermutation-sym (cells ++ r ∷ s.kept) (r ∷ (cells ++ s.kept)) (IsPermutation-middle cells r s.kept)) done.moved;
    })

-- ---- all of it

nothing_clashes : (t : Keys) (cells : List Row) → AreFree t [] cells
nothing_clashes t [] = tt
nothing_clashes t (r ∷ cells) = (tt, nothing_clashes t cells)

none_unordered : (t : Keys) (cells : List Row) → AllByRecursion (λ r. orderable_row t (held r) ≡ true) cells → first_unordered t cells ≡ None
none_unordered t [] all = refl
none_unordered t (r ∷ cells) all = rw (all.0, and_false (fits t (held r))) (none_unordered t cells all.1)
  where
    and_false : (a : Bool) → (a && false) ≡ false
    and_false true = refl
    and_false false = refl

pub rows_stay : (t : Keys) (cells rows : List Row) → IsPermutation cells rows → AreRows t (map held rows) → Stays t cells rows
unfolding sorted_of
rows_stay t cells rows moved are =
    let back : IsPermutation rows cells = IsPermutation-sym cells rows moved in
    let fit : AllByRecursion (λ r. fits t (held r) ≡ true) cells =
    all_moved (λ r. fits t (held r) ≡ true) rows cells back (all_from_map (λ row. fits t row ≡ true) held rows are.fit) in
    let orderly : AllByRecursion (λ r. orderable_row t (held r) ≡ true) cells =
    all_moved (λ r. orderable_row t (held r) ≡ true) rows cells back (all_from_map (λ row. orderable_row t row ≡ true) held rows are.orderly) in
    let apart : IsDistinct (clash t) (map held cells) =
    IsDistinct-IsPermutation (clash t) (clash_back t) (map held rows) (map held cells) (IsPermutation-map held rows cells back) are.apart in
    let s = with_cells t nothing cells in
    let stay = all_stay t cells nothing fit apart (nothing_clashes t cells) in
    let kept : IsPermutation cells s.kept = subst (λ (xs : List Row). IsPermutation xs s.kept) (append-nil cells) stay.moved in
    let kept_apart : IsDistinct (clash t) (map held s.kept) =
    IsDistinct-IsPermutation (clash t) (clash_back t) (map held cells) (map held s.kept) (IsPermutation-map held cells s.kept kept) apart in
    let done = ordered (row_key t) s.kept (keys_differ t s.kept kept_apart) in
    let found = rows_of t s in
    let same : IsPermutation found rows =
    IsPermutation-trans found cells rows (IsPermutation-sym cells found (IsPermutation-trans cells s.kept found kept done.moved)) moved in
    let up : IsStrictlySortedBy (slice_cmp value_cmp) (map (row_key t) found) =
    subst (IsStrictlySortedBy (slice_cmp value_cmp)) (keys_are (row_key t) (in_order (row_key t) s.kept) done.keyed) done.sorted in
    let high : IsStrictlySortedBy (slice_cmp value_cmp) (map (row_key t) rows) =
    subst (IsStrictlySortedBy (slice_cmp value_cmp)) (map_both (key_of t.first) held rows) are.rise in
    record {
      ordered = none_unordered t cells orderly;
      rows_are = rises_same (row_key t) found rows up high
          (all_moved (λ z. IsIn z rows) rows found (IsPermutation-sym found rows same) (self rows))
          (all_moved (λ z. IsIn z found) found rows same (self found));
      none_left = stay.left;
    }
