-- A list in another order, and what a function gives of it.
use Rattle.std.proofs.Common.{◌≡◌, ◌<◌, ℕ, zero, suc, List, [], ◌∷◌, length, map, get_or, refl, sym, ap, ◌∙◌, arith}
use Rattle.std.specs.Prelude.{slice_set, slice_index_or}
use Rattle.std.specs.List.{swap}
use Rattle.std.specs.List.Sorted.{IsPermutation}
use Rattle.std.proofs.lemmas.List.{length-map, map-set}
use Rattle.std.proofs.lemmas.List.Sorted.{IsPermutation-keeps, IsPermutation-refl, IsPermutation-swap, IsPermutation-trans}

at_map : {X Y : Type 0} (g : X → Y) (xs : List X) (k : ℕ) (d : X) → get_or (map g xs) k (g d) ≡ g (get_or xs k d)
at_map g [] k d = refl
at_map g (x ∷ xs) zero d = refl
at_map g (x ∷ xs) (suc k) d = at_map g xs k d

swap_map : {X Y : Type 0} (g : X → Y) (xs : List X) (i j : ℕ) → map g (swap xs i j) ≡ swap (map g xs) i j
swap_map g [] i j = refl
swap_map {X} {Y} g (x ∷ xs) i j =
    let all : List X = x ∷ xs in
    map-set g (slice_set all i (slice_index_or all j x)) j (slice_index_or all i x)
    ∙ ap (λ (ys : List Y). slice_set ys j (g (slice_index_or all i x))) (map-set g all i (slice_index_or all j x))
    ∙ ap (λ (y : Y). slice_set (slice_set (map g all) i y) j (g (slice_index_or all i x))) (sym (at_map g all j x))
    ∙ ap (λ (y : Y). slice_set (slice_set (map g all) i (slice_index_or (map g all) j (g x))) j y) (sym (at_map g all i x))

-- a list of which g gives these
pub record Lifted {X Y : Type 0} (g : X → Y) (xs : List X) (ys : List Y) : Type 0 where
  pub items : List X
  pub moved : IsPermutation xs items
  pub gives : map g items ≡ ys

swapped : {X Y : Type 0} (g : X → Y) (xs : List X) (ys : List Y) (i j : ℕ) → i < length ys → j < length ys → Lifted g xs ys → Lifted g xs (swap ys i j)
swapped {X} {Y} g xs ys i j first second l =
    let len : length l.items ≡ length ys = sym (length-map l.items g) ∙ ap length l.gives in
    record {
      items = swap l.items i j;
      moved = IsPermutation-trans xs l.items (swap l.items i j) l.moved
          (IsPermutation-swap l.items (swap l.items i j) i j (omega (arith, len, first)) (omega (arith, len, second)) refl);
      gives = swap_map g l.items i j ∙ ap (λ (zs : List Y). swap zs i j) l.gives;
    }

pub lifted : {X Y : Type 0} (g : X → Y) (xs : List X) (ys : List Y) → IsPermutation (map g xs) ys → Lifted g xs ys
lifted g xs ys moved =
    IsPermutation-keeps (map g xs) (Lifted g xs) (record { items = xs; moved = IsPermutation-refl xs; gives = refl })
    (λ l i j first second below. swapped g xs l i j first second below) ys moved
