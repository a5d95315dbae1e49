-- A primary key has no more columns than its table.
use Rattle.std.proofs.Common.{◌≡◌, refl, sym, ◌⊎◌, inl, inr, arith, ℕ, ◌<◌, ◌≤◌, nat_eq, Bool, true, false, ◌||◌, List, [], ◌∷◌, length}
use Rattle.std.proofs.lemmas.Bool.{true≢false, eqb-true}
use Rattle.std.proofs.lemmas.Map.Steps.{length-le_from_distinct_below}
use Rattle.std.specs.List.{AllByRecursion, list_any}
use Rattle.table_shape.specs.Shape.{Shape, IsShape}

either_of : (a b : Bool) → (a || b) ≡ true → (a ≡ true) ⊎ (b ≡ true)
either_of true b h = inl refl
either_of false b h = inr h

step : (q x n : ℕ) (rest : Bool) → x < n → (rest ≡ true → q < n) → (nat_eq q x || rest) ≡ true → q < n
step q x n rest l f h = elim (either_of (nat_eq q x) rest h) [
  | inl e ↦ (let same = eqb-true q x e in omega (arith, l, same))
  | inr e ↦ f e
]

-- a number that stands among numbers below n is below n
below : (n : ℕ) (xs : List ℕ) → AllByRecursion (λ k. k < n) xs → (q : ℕ) → list_any (nat_eq q) xs ≡ true → q < n
below n [] a q h = absurd (true≢false (sym h))
below n (x ∷ xs) a q h = step q x n (list_any (nat_eq q) xs) a.0 (below n xs a.1 q) h

pub few_primary : (s : Shape) → IsShape s → length s.primary ≤ 2000
few_primary s h =
    let some = length-le_from_distinct_below s.primary (length s.columns) h.primary.distinct
    (below (length s.columns) s.primary h.primary.within) in
    omega (arith, some, h.few)
