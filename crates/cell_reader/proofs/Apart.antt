-- No two accepted cells of a page share a byte.
use Rattle.std.proofs.Common.{◌≡◌, ◌≤◌, ◌⊎◌, inl, inr, ℕ, zero, suc, ◌+◌, Bool, true, false, ◌&&◌, ◌||◌, List, [], ◌∷◌, nat_le, refl, arith}
use Rattle.std.specs.Prelude.{if◌then◌else◌, Result, Ok, Err}
use Rattle.std.specs.List.{AllByRecursion, list_all}
use Rattle.std.proofs.lemmas.Bool.{and_parts}
use Rattle.std.proofs.lemmas.Bool.Decides.{nat_tests}
use Rattle.cell_reader.specs.declared.cells.CellView.{CellView}
use Rattle.cell_reader.specs.declared.cells.CellFault.{CellFault}
use Rattle.cell_reader.specs.declared.shapes.PageShape.{PageShape}
use Rattle.cell_reader.specs.Cell.{cell_of}
use Rattle.cell_reader.specs.Screen.{Verdict, Accepts, Faulty, Overlaps, are_apart, verdict_on, held_with, screened_from, accepted_cells, verdicts, accepted_from, IsApart, AreApart}

-- a cell is apart from a held one
abbrev FromView : CellView → ℕ × CellView → Type 0
FromView v a = (v.end ≤ a.1.start) ⊎ (a.1.end ≤ v.start)

-- each of the cells is apart from each held one
abbrev FromHeld : List CellView → List (ℕ × CellView) → Type 0
FromHeld held xs = AllByRecursion (λ a. AllByRecursion (λ h. FromView h a) held) xs

-- the head of the held ones, and the rest
firsts_of : (v : CellView) (held : List CellView) (xs : List (ℕ × CellView)) → FromHeld (v ∷ held) xs
    → AllByRecursion (FromView v) xs × FromHeld held xs
firsts_of v held [] h = (tt, tt)
firsts_of v held (x ∷ xs) h = let rest = firsts_of v held xs h.1 in ((h.0.0, rest.0), (h.0.1, rest.1))

two_sides : (v w : CellView) → are_apart v w ≡ true → (w.end ≤ v.start) ⊎ (v.end ≤ w.start)
two_sides v w h = grind (arith, nat_tests)

apart_from_all : (i : ℕ) (v : CellView) (held : List CellView) → list_all (are_apart v) held ≡ true
    → AllByRecursion (λ h. FromView h (i, v)) held
apart_from_all i v [] h = tt
apart_from_all i v (w ∷ held) h =
    let two = and_parts (are_apart v w) (list_all (are_apart v) held) h in
    (two_sides v w two.0, apart_from_all i v held two.1)

-- what a verdict says of the held cells
abbrev Fits : ℕ → Verdict → List CellView → Type 0
Fits i (Accepts v) held = AllByRecursion (λ h. FromView h (i, v)) held
Fits i (Faulty fault) held = Unit {0}
Fits i Overlaps held = Unit {0}

verdict_fits : (i : ℕ) (r : Result CellView CellFault) (held : List CellView) → Fits i (verdict_on r held) held
verdict_fits i (Err fault) held = tt
verdict_fits i (Ok v) held = go (list_all (are_apart v) held) (λ h. apart_from_all i v held h)
  where
    go : (b : Bool) → (b ≡ true → AllByRecursion (λ h. FromView h (i, v)) held)
        → Fits i (if b then Accepts v else Overlaps) held
    go true h = h refl
    go false h = tt

one_more : (i : ℕ) (w : Verdict) (held : List CellView) (rest : List Verdict) → Fits i w held
    → AreApart (accepted_from (i + 1) rest) × FromHeld (held_with w held) (accepted_from (i + 1) rest)
    → AreApart (accepted_from i (w ∷ rest)) × FromHeld held (accepted_from i (w ∷ rest))
one_more i (Accepts v) held rest fits more =
    let two = firsts_of v held (accepted_from (i + 1) rest) more.1 in ((two.0, more.0), (fits, two.1))
one_more i (Faulty fault) held rest fits more = more
one_more i Overlaps held rest fits more = more

apart_from : (cell : ℕ → Result CellView CellFault) (n i : ℕ) (held : List CellView)
    → AreApart (accepted_from i (screened_from cell n i held)) × FromHeld held (accepted_from i (screened_from cell n i held))
apart_from cell zero i held = (tt, tt)
apart_from cell (suc n) i held =
    one_more i (verdict_on (cell i) held) held _ (verdict_fits i (cell i) held)
    (apart_from cell n (i + 1) (held_with (verdict_on (cell i) held) held))

pub page_apart : (page : List ℕ) (usable pages : ℕ) (shape : PageShape)
    → AreApart (accepted_cells page usable pages shape)
unfolding verdicts
page_apart page usable pages shape = (apart_from (cell_of page usable pages shape) shape.cells 0 []).0
