-- Sums that stop at a bound, item after item.
use Rattle.std.proofs.Common.{◌≡◌, ◌≤◌, ◌<◌, ◌∙◌, ℕ, ◌+◌, min, List, drop, get_or, length, sum_by, ap, arith}
use Rattle.std.proofs.Math.ListN.{drop_of_length-le}
use Rattle.std.proofs.lemmas.List.Sums.{sum_by-drop_more}

-- one more is taken in, and nothing is left
pub count_next : {X : Type 0} (f : X → ℕ) (xs : List X) (i t now most : ℕ) (x d : X) (all : ℕ) → i < length xs → get_or xs i d ≡ x
    → now ≡ min (t + f x) most → min (t + sum_by f (drop i xs)) most ≡ all → min (now + sum_by f (drop (i + 1) xs)) most ≡ all
count_next f xs i t now most x d all lt is total before =
    let e : sum_by f (drop i xs) ≡ f x + sum_by f (drop (i + 1) xs) = sum_by-drop_more f xs i d lt ∙ ap (λ y. f y + sum_by f (drop (i + 1) xs)) is in
    omega (arith, e, total, before)

pub count_end : {X : Type 0} (f : X → ℕ) (xs : List X) (i t most all : ℕ) → length xs ≤ i → t ≤ most → min (t + sum_by f (drop i xs)) most ≡ all → t ≡ all
count_end f xs i t most all le small before =
    let e : sum_by f (drop i xs) ≡ 0 = ap (sum_by f) (drop_of_length-le xs le) in
    omega (arith, e, small, before)
