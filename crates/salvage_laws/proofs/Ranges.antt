-- The cells of two rows with evidence on one page share no byte.
use Rattle.std.proofs.Common.{◌≡◌, ◌<◌, ◌≤◌, ◌⊎◌, inl, inr, ℕ, zero, suc, ◌+◌, true, false, Some, List, [], ◌∷◌, slice_get, nat_lt, sym, ◌∙◌, ap, subst, arith}
use Rattle.std.specs.List.{AllByRecursion}
use Rattle.std.proofs.lemmas.Bool.{cases_Bool}
use Rattle.std.proofs.lemmas.Bool.Decides.{nat_tests}
use Rattle.page_access.specs.Pages.{page_at}
use Rattle.cell_reader.specs.declared.cells.CellView.{CellView}
use Rattle.cell_reader.specs.Screen.{AreApart, Verdict, Accepts, Faulty, Overlaps, accepted_from}
use Rattle.cell_reader.proofs.Apart.{page_apart}
use Rattle.page_walk.specs.Page.{verdicts_in, verdicts_on}
use Rattle.salvage_laws.specs.Laws.{RangesAreApart}

-- the bytes of two cells
abbrev Apart : CellView → CellView → Type 0
Apart v w = (v.end ≤ w.start) ⊎ (w.end ≤ v.start)

same_cell : (v w : CellView) → Some (Accepts v) ≡ Some (Accepts w) → v ≡ w
same_cell v w e = cc

-- what holds of all accepted cells holds of the one at a place
holds_at : (P : CellView → Type 0) (i : ℕ) (vs : List Verdict) (j : ℕ) (w : CellView) → AllByRecursion (λ (c : ℕ × CellView). P c.1) (accepted_from i vs)
    → slice_get vs j ≡ Some (Accepts w) → P w
holds_at P i [] j w all e = absurd cc
holds_at P i (Accepts v ∷ vs) zero w all e = subst P (same_cell v w e) all.0
holds_at P i (Accepts v ∷ vs) (suc j) w all e = holds_at P (i + 1) vs j w all.1 e
holds_at P i (Faulty fault ∷ vs) zero w all e = absurd cc
holds_at P i (Faulty fault ∷ vs) (suc j) w all e = holds_at P (i + 1) vs j w all e
holds_at P i (Overlaps ∷ vs) zero w all e = absurd cc
holds_at P i (Overlaps ∷ vs) (suc j) w all e = holds_at P (i + 1) vs j w all e

-- two accepted cells at two places
apart_at : (i : ℕ) (vs : List Verdict) (j k : ℕ) (v w : CellView) → AreApart (accepted_from i vs) → j < k
    → slice_get vs j ≡ Some (Accepts v) → slice_get vs k ≡ Some (Accepts w) → Apart v w
apart_at i vs j zero v w apart lt first second = absurd (omega (arith, lt))
apart_at i [] j (suc k) v w apart lt first second = absurd cc
apart_at i (Accepts x ∷ vs) zero (suc k) v w apart lt first second =
    subst (λ (y : CellView). Apart y w) (same_cell x v first) (holds_at (Apart x) (i + 1) vs k w apart.0 second)
apart_at i (Accepts x ∷ vs) (suc j) (suc k) v w apart lt first second = apart_at (i + 1) vs j k v w apart.1 (omega (arith, lt)) first second
apart_at i (Faulty fault ∷ vs) zero (suc k) v w apart lt first second = absurd cc
apart_at i (Faulty fault ∷ vs) (suc j) (suc k) v w apart lt first second = apart_at (i + 1) vs j k v w apart (omega (arith, lt)) first second
apart_at i (Overlaps ∷ vs) zero (suc k) v w apart lt first second = absurd cc
apart_at i (Overlaps ∷ vs) (suc j) (suc k) v w apart lt first second = apart_at (i + 1) vs j k v w apart (omega (arith, lt)) first second

turned : (v w : CellView) → Apart v w → Apart w v
turned v w (inl before) = inr before
turned v w (inr behind) = inl behind

below : (i j : ℕ) → nat_lt i j ≡ true → i < j
below i j is = grind (arith, nat_tests, is)

equal : (i j : ℕ) → nat_lt i j ≡ false → nat_lt j i ≡ false → i ≡ j
equal i j first second = grind (arith, nat_tests, first, second)

pub ranges_are_apart : RangesAreApart
ranges_are_apart f a b x y same other =
    let vs : List Verdict = verdicts_on f a.page in
    let apart : AreApart (accepted_from 0 vs) =
    subst (λ (ws : List Verdict). AreApart (accepted_from 0 ws)) (sym (ap (verdicts_in f a.page) x.has_shape))
    (page_apart (page_at f a.page) f.usable f.pages x.shape) in
    let second : slice_get vs b.cell ≡ Some (Accepts y.view) = ap (λ (p : ℕ). slice_get (verdicts_on f p) b.cell) same ∙ y.accepted in
    elim (cases_Bool (nat_lt a.cell b.cell)) [
      | inl is ↦ apart_at 0 vs a.cell b.cell x.view y.view apart (below a.cell b.cell is) x.accepted second
      | inr isnt ↦ elim (cases_Bool (nat_lt b.cell a.cell)) [
        | inl is ↦ turned y.view x.view (apart_at 0 vs b.cell a.cell y.view x.view apart (below b.cell a.cell is) second x.accepted)
        | inr none ↦ absurd (other (equal a.cell b.cell isnt none))
      ]
    ]
