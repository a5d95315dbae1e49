-- What holds of cells that were sorted out one after another.
use Rattle.std.proofs.Common.{◌≡◌, refl, sym, ap, subst, ◌∙◌, ℕ, true, false, not, Option, Some, None, List, [], ◌∷◌, ◌++◌, map, inl, inr, append_assoc, append-nil}
use Rattle.std.specs.Prelude.{filter}
use Rattle.std.specs.List.{AllByRecursion, IsDistinct}
use Rattle.std.specs.List.Sorted.{IsPermutation}
use Rattle.std.proofs.lemmas.Bool.{cases_Bool}
use Rattle.std.proofs.lemmas.List.Elements.{filter-append}
use Rattle.std.proofs.lemmas.List.Sorted.{IsPermutation-append_left, IsPermutation-cons, IsPermutation-middle, IsPermutation-refl, IsPermutation-sym, IsPermutation-to_front, IsPermutation-trans}
use Rattle.std.proofs.lemmas.Map.Keys.{IsDistinct-cons}
use Rattle.table_shape.specs.Keys.{KeyParts, Keys, StoredRow, clash, fits}
use Rattle.page_walk.specs.declared.outcomes.Place.{Place}
use Rattle.page_walk.specs.Cells.{Row}
use Rattle.table_fill.specs.declared.fates.Fate.{Fate}
use Rattle.table_fill.specs.declared.fates.Fate.TheVariants.{Clash, Misfit}
use Rattle.table_fill.specs.Chosen.{Clashed, clash_first, clashes_in, misfit_first, misfits_in}
use Rattle.table_fill.specs.Fates.{Left, Sorted, clash_among, clash_in, clash_or, fate_of, first_clash, held, left_row, nothing, same_among, sorted_of, with_cell, with_cells, with_fate}
use Rattle.table_fill.proofs.Clashing.{clash_back, kept_is}
use Rattle.table_fill.proofs.Inserting.{all_map, all_of_map}
use Rattle.table_fill.proofs.Taking.{map_push}

-- ---- one cell after another

by_cells : (t : Keys) (P : List Row → Sorted → Type 0)
    → ((done : List Row) (s : Sorted) (r : Row) → P done s → P (done ++ r ∷ []) (with_cell t s r))
    → (cells done : List Row) (s : Sorted) → P done s → P (done ++ cells) (with_cells t s cells)
by_cells t P step [] done s p = subst (λ (xs : List Row). P xs s) (sym (append-nil done)) p
by_cells t P step (r ∷ cells) done s p =
    subst (λ (xs : List Row). P xs (with_cells t (with_cell t s r) cells)) (append_assoc done (r ∷ []) cells)
    (by_cells t P step cells (done ++ r ∷ []) (with_cell t s r) (step done s r p))

pub sorted_has : (t : Keys) (P : List Row → Sorted → Type 0)
    → ((done : List Row) (s : Sorted) (r : Row) → P done s → P (done ++ r ∷ []) (with_cell t s r))
    → (cells : List Row) → P [] nothing → P cells (sorted_of t cells)
unfolding sorted_of
sorted_has t P step cells p = by_cells t P step cells [] nothing p

-- a cell is kept, or it has a fate
pub by_fate : (P : Sorted → Type 0) (t : Keys) (s : Sorted) (r : Row)
    → (fate_of t s.kept r ≡ None → P (with_fate s r None))
    → ((f : Fate) → fate_of t s.kept r ≡ Some f → P (with_fate s r (Some f))) → P (with_cell t s r)
by_fate P t s r kept left = go (fate_of t s.kept r) refl
  where
    go : (o : Option Fate) → fate_of t s.kept r ≡ o → P (with_fate s r o)
    go None e = kept e
    go (Some f) e = left f e

-- the cells before a cell decide on it
with_both : (t : Keys) (before after : List Row) (s : Sorted)
    → with_cells t s (before ++ after) ≡ with_cells t (with_cells t s before) after
with_both t [] after s = refl
with_both t (r ∷ before) after s = with_both t before after (with_cell t s r)

pub in_cell_order : (t : Keys) (before : List Row) (r : Row) (after : List Row)
    → sorted_of t (before ++ r ∷ after) ≡ with_cells t (with_cell t (sorted_of t before) r) after
unfolding sorted_of
in_cell_order t before r after = with_both t before (r ∷ after) nothing

-- ---- each cell once

abbrev left_rows : List Left → List Row
left_rows left = map (λ l. l.row) left

abbrev Once : List Row → Sorted → Type 0
Once done s = IsPermutation done (s.kept ++ left_rows s.left)

once_step : (t : Keys) (done : List Row) (s : Sorted) (r : Row) → Once done s → Once (done ++ r ∷ []) (with_cell t s r)
once_step t done s r p = by_fate (Once (done ++ r ∷ [])) t s r
    (λ e. IsPermutation-trans (done ++ r ∷ []) (r ∷ done) (r ∷ (s.kept ++ left_rows s.left)) (IsPermutation-to_front done r)
    (IsPermutation-cons r done (s.kept ++ left_rows s.left) p))
    (λ f e. subst (λ (xs : List Row). IsPermutation (done ++ r ∷ []) xs)
    (append_assoc s.kept (left_rows s.left) (r ∷ [])
    ∙ ap (λ (xs : List Row). s.kept ++ xs) (sym (map_push (λ (l : Left). l.row) s.left (left_row r f))))
    (IsPermutation-append_left (r ∷ []) done (s.kept ++ left_rows s.left) p))

pub kept_once : (t : Keys) (cells : List Row) → Once cells (sorted_of t cells)
kept_once t cells = sorted_has t Once (once_step t) cells (IsPermutation-refl [])

-- ---- the kept rows fit, and no two clash

pub record AreKept (t : Keys) (kept : List Row) : Type 0 where
  pub fit : AllByRecursion (λ k. fits t (held k) ≡ true) kept
  pub apart : IsDistinct (clash t) (map held kept)

kept_step : (t : Keys) (done : List Row) (s : Sorted) (r : Row) → AreKept t s.kept → AreKept t (with_cell t s r).kept
kept_step t done s r p = by_fate (λ w. AreKept t w.kept) t s r
    (λ e. let free = kept_is t s.kept r e in record {
      fit = (free.0, p.fit);
      apart = IsDistinct-cons (clash t) (held r) (map held s.kept)
          (all_of_map (λ y. clash t (held r) y ≡ false) held s.kept
          (all_map (λ k. clash t (held k) (held r) ≡ false) (λ k. clash t (held r) (held k) ≡ false)
          (λ k q. clash_back t (held r) (held k) ∙ q) s.kept free.1))
          p.apart;
    })
    (λ f e. p)

no_rows : (t : Keys) → AreKept t []
unfolding IsDistinct
no_rows t = record { fit = tt; apart = tt }

pub kept_good : (t : Keys) (cells : List Row) → AreKept t (sorted_of t cells).kept
kept_good t cells = sorted_has t (λ done s. AreKept t s.kept) (kept_step t) cells (no_rows t)

-- ---- misfits

-- a fate that a clash gives is a clash
abbrev NoMisfit : Option Fate → Type 0
NoMisfit None = Unit {0}
NoMisfit (Some (Clash earlier key)) = Unit {0}
NoMisfit (Some Misfit) = ⊥

or_clash : (o : Option Place) (n : ℕ) (rest : Option Fate) → NoMisfit rest → NoMisfit (clash_or o n rest)
or_clash None n rest h = h
or_clash (Some p) n rest h = tt

in_clash : (keys : List KeyParts) (kept : List Row) (row : StoredRow) → NoMisfit (clash_in keys kept row)
in_clash [] kept row = tt
in_clash (k ∷ keys) kept row = or_clash (clash_among k.parts kept row) k.number (clash_in keys kept row) (in_clash keys kept row)

first_clashes : (t : Keys) (kept : List Row) (row : StoredRow) → NoMisfit (first_clash t kept row)
first_clashes t kept row = or_clash (same_among t.first kept row) 0 (clash_in t.keys kept row) (in_clash t.keys kept row)

-- a cell that is no row is a misfit exactly where it does not fit
one_misfit : (t : Keys) (kept : List Row) (r : Row) (f : Fate) → fate_of t kept r ≡ Some f
    → misfits_in (left_row r f ∷ []) ≡ filter (λ q. not (fits t (held q))) (r ∷ [])
one_misfit t kept r f e = elim (cases_Bool (fits t (held r))) [
  | inl fit ↦ rw fit (clash_only f (subst NoMisfit (rw fit at e) (first_clashes t kept (held r))))
  | inr unfit ↦ rw unfit (misfit_only f (rw unfit at e))
]
  where
    clash_only : (f : Fate) → NoMisfit (Some f) → misfit_first r f [] ≡ []
    clash_only (Clash earlier key) h = refl
    clash_only Misfit h = absurd h

    misfit_only : (f : Fate) → Some Misfit ≡ Some f → misfit_first r f [] ≡ r ∷ []
    misfit_only (Clash earlier key) h = absurd (cc)
    misfit_only Misfit h = refl

misfits_both : (left : List Left) (l : Left) → misfits_in (left ++ l ∷ []) ≡ misfits_in left ++ misfits_in (l ∷ [])
misfits_both [] l = refl
misfits_both (m ∷ left) l = at_fate m.row m.fate (misfits_both left l)
  where
    at_fate : (r : Row) (f : Fate) → misfits_in (left ++ l ∷ []) ≡ misfits_in left ++ misfits_in (l ∷ [])
        → misfit_first r f (misfits_in (left ++ l ∷ [])) ≡ misfit_first r f (misfits_in left) ++ misfits_in (l ∷ [])
    at_fate r (Clash earlier key) h = h
    at_fate r Misfit h = ap (λ (xs : List Row). r ∷ xs) h

abbrev Misfits : Keys → List Row → Sorted → Type 0
Misfits t done s = misfits_in s.left ≡ filter (λ r. not (fits t (held r))) done

misfits_step : (t : Keys) (done : List Row) (s : Sorted) (r : Row) → Misfits t done s → Misfits t (done ++ r ∷ []) (with_cell t s r)
misfits_step t done s r p = by_fate (Misfits t (done ++ r ∷ [])) t s r
    (λ e. let none : filter (λ q. not (fits t (held q))) (r ∷ []) ≡ [] = rw (kept_is t s.kept r e).0 refl in
    p ∙ sym (filter-append (λ q. not (fits t (held q))) done (r ∷ [])
    ∙ ap (λ (xs : List Row). filter (λ q. not (fits t (held q))) done ++ xs) none ∙ append-nil (filter (λ q. not (fits t (held q))) done)))
    (λ f e. misfits_both s.left (left_row r f)
    ∙ ap (λ (xs : List Row). xs ++ misfits_in (left_row r f ∷ [])) p
    ∙ ap (λ (xs : List Row). filter (λ q. not (fits t (held q))) done ++ xs) (one_misfit t s.kept r f e)
    ∙ sym (filter-append (λ q. not (fits t (held q))) done (r ∷ [])))

pub misfits_are : (t : Keys) (cells : List Row) → Misfits t cells (sorted_of t cells)
misfits_are t cells = sorted_has t (Misfits t) (misfits_step t) cells refl

-- ---- the split

pub left_both : (left : List Left) → IsPermutation (map (λ l. l.row) left) (map (λ c. c.row) (clashes_in left) ++ misfits_in left)
left_both [] = IsPermutation-refl []
left_both (l ∷ left) = at_fate l.row l.fate (left_both left)
  where
    at_fate : (r : Row) (f : Fate) → IsPermutation (left_rows left) (map (λ (c : Clashed). c.row) (clashes_in left) ++ misfits_in left)
        → IsPermutation (r ∷ left_rows left) (map (λ (c : Clashed). c.row) (clash_first r f (clashes_in left)) ++ misfit_first r f (misfits_in left))
    at_fate r (Clash earlier key) h = IsPermutation-cons r _ _ h
    at_fate r Misfit h = IsPermutation-trans (r ∷ left_rows left) (r ∷ (map (λ (c : Clashed). c.row) (clashes_in left) ++ misfits_in left))
        (map (λ (c : Clashed). c.row) (clashes_in left) ++ r ∷ misfits_in left) (IsPermutation-cons r _ _ h)
        (IsPermutation-sym _ _ (IsPermutation-middle (map (λ (c : Clashed). c.row) (clashes_in left)) r (misfits_in left)))
