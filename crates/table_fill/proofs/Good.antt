-- The rows are those of a well-formed table.
use Rattle.std.proofs.Common.{◌≡◌, refl, sym, ap, subst, ◌∙◌, Bool, true, false, not, ◌&&◌, Some, None, List, [], ◌∷◌, ◌++◌, map, inl, inr}
use Rattle.std.specs.Cmp.Lexicographic.{slice_cmp}
use Rattle.std.specs.List.{AllByRecursion, IsDistinct}
use Rattle.std.specs.List.Sorted.{IsPermutation, IsStrictlySortedBy}
use Rattle.std.proofs.lemmas.Bool.{cases_Bool, or_parts}
use Rattle.std.proofs.lemmas.List.Sorted.{IsPermutation-append_left, IsPermutation-map, IsPermutation-trans}
use Rattle.std.proofs.lemmas.Map.Keys.{IsDistinct-IsPermutation}
use Rattle.std.specs.List.{list_any}
use Rattle.key_order.specs.Order.{value_cmp}
use Rattle.table_shape.specs.Entries.{in_order}
use Rattle.table_shape.specs.Keys.{AreRows, Keys, clash, clash_by, fits, key_of, orderable_row, same_key}
use Rattle.page_walk.specs.declared.outcomes.Place.{Place}
use Rattle.page_walk.specs.Cells.{Row}
use Rattle.table_fill.specs.Fates.{Left, first_unordered, held, place_of, row_key, rows_of, sorted_of}
use Rattle.table_fill.proofs.Cells.{kept_good, kept_once}
use Rattle.table_fill.proofs.Clashing.{clash_back}
use Rattle.table_fill.proofs.Inserting.{all_moved, all_of_map}
use Rattle.table_fill.proofs.Ordering.{Ordered, keys_are, ordered, same_by}

-- what differs by one test differs by another
pub distinct_map : {X Y : Type 0} (e : Y → Y → Bool) (d : X → X → Bool) (f : X → Y)
    → ((x y : X) → e (f x) (f y) ≡ false → d x y ≡ false) → (xs : List X) → IsDistinct e (map f xs) → IsDistinct d xs
unfolding IsDistinct
distinct_map e d f h [] apart = tt
distinct_map {X} {Y} e d f h (x ∷ xs) apart = (from xs apart.0, distinct_map e d f h xs apart.1)
  where
    from : (ys : List X) → AllByRecursion (λ y. e (f x) y ≡ false) (map f ys) → AllByRecursion (λ y. d x y ≡ false) ys
    from [] all = tt
    from (y ∷ ys) all = (h x y all.0, from ys all.1)

-- rows that do not clash differ by the key that orders them
pub keys_differ : (t : Keys) (kept : List Row) → IsDistinct (clash t) (map held kept) → IsDistinct (same_by (row_key t)) kept
keys_differ t kept apart = distinct_map (clash t) (same_by (row_key t)) held
    (λ a b e. (or_parts (same_key t.first (held a) (held b)) (list_any (λ k. clash_by k.parts (held a) (held b)) t.keys) e).0) kept apart

-- the kept rows in order
pub kept_ordered : (t : Keys) (cells : List Row) → Ordered (row_key t) (sorted_of t cells).kept (in_order (row_key t) (sorted_of t cells).kept)
kept_ordered t cells = ordered (row_key t) (sorted_of t cells).kept (keys_differ t (sorted_of t cells).kept (kept_good t cells).apart)

pub each_once : (t : Keys) (cells : List Row)
    → IsPermutation cells (rows_of t (sorted_of t cells) ++ map (λ (l : Left). l.row) (sorted_of t cells).left)
each_once t cells =
    let s = sorted_of t cells in
    let left = map (λ (l : Left). l.row) s.left in
    IsPermutation-trans cells (s.kept ++ left) (rows_of t s ++ left) (kept_once t cells)
    (IsPermutation-append_left left s.kept (rows_of t s) (kept_ordered t cells).moved)

-- ---- the rows can be ordered

orderly_cells : (t : Keys) (cells : List Row) → first_unordered t cells ≡ None
    → AllByRecursion (λ r. fits t (held r) ≡ true → orderable_row t (held r) ≡ true) cells
orderly_cells t [] e = tt
orderly_cells t (r ∷ cells) e = elim (cases_Bool (fits t (held r) && not (orderable_row t (held r)))) [
  | inl hit ↦ absurd (found (place_of r) (rw hit at e))
  | inr miss ↦ (λ fit. ordered_there (fits t (held r)) (orderable_row t (held r)) miss fit, orderly_cells t cells (rw miss at e))
]
  where
    found : (p : Place) → Some p ≡ None → ⊥
    found p e = cc

    ordered_there : (a b : Bool) → (a && not b) ≡ false → a ≡ true → b ≡ true
    ordered_there true true e f = refl
    ordered_there true false e f = cc
    ordered_there false b e f = cc

front_all : {X : Type 0} (P : X → Type 0) (xs ys : List X) → AllByRecursion P (xs ++ ys) → AllByRecursion P xs
front_all P [] ys all = tt
front_all P (x ∷ xs) ys all = (all.0, front_all P xs ys all.1)

pub map_both : {X Y Z : Type 0} (f : Y → Z) (g : X → Y) (xs : List X) → map f (map g xs) ≡ map (λ x. f (g x)) xs
map_both f g [] = refl
map_both f g (x ∷ xs) = ap (λ zs. f (g x) ∷ zs) (map_both f g xs)

-- the rows of a table are good ones
pub rows_good : (t : Keys) (cells : List Row) → first_unordered t cells ≡ None → AreRows t (map held (rows_of t (sorted_of t cells)))
rows_good t cells e =
    let s = sorted_of t cells in
    let rows = rows_of t s in
    let es = in_order (row_key t) s.kept in
    let good = kept_good t cells in
    let done = kept_ordered t cells in
    let fit : AllByRecursion (λ r. fits t (held r) ≡ true) rows = all_moved (λ r. fits t (held r) ≡ true) s.kept rows done.moved good.fit in
    let orderly : AllByRecursion (λ r. fits t (held r) ≡ true → orderable_row t (held r) ≡ true) rows =
    front_all (λ r. fits t (held r) ≡ true → orderable_row t (held r) ≡ true) rows (map (λ (l : Left). l.row) s.left)
    (all_moved (λ r. fits t (held r) ≡ true → orderable_row t (held r) ≡ true) cells (rows ++ map (λ (l : Left). l.row) s.left) (each_once t cells) (orderly_cells t cells e)) in
    record {
      fit = all_of_map (λ row. fits t row ≡ true) held rows fit;
      orderly = all_of_map (λ row. orderable_row t row ≡ true) held rows (both rows fit orderly);
      rise = subst (IsStrictlySortedBy (slice_cmp value_cmp)) (keys_are (row_key t) es done.keyed ∙ sym (map_both (key_of t.first) held rows)) done.sorted;
      apart = IsDistinct-IsPermutation (clash t) (clash_back t) (map held s.kept) (map held rows)
          (IsPermutation-map held s.kept rows done.moved) good.apart;
    }
  where
    both : (rows : List Row) → AllByRecursion (λ r. fits t (held r) ≡ true) rows
        → AllByRecursion (λ r. fits t (held r) ≡ true → orderable_row t (held r) ≡ true) rows
        → AllByRecursion (λ r. orderable_row t (held r) ≡ true) rows
    both [] fit orderly = tt
    both (r ∷ rows) fit orderly = (orderly.0 fit.0, both rows fit.1 orderly.1)
