-- The listing of all cells, page by page, and the unused pages that each page leaves.
use Rattle.std.proofs.Common.{◌≡◌, ◌∙◌, ◌<◌, ◌≤◌, [], ℕ, suc, ◌+◌, ◌-◌, List, ◌++◌, length, drop, get_or, map, Option, Some, None, ap, arith, sym, lit≤}
use Rattle.std.specs.Prelude.{IfSome}
use Rattle.std.proofs.lemmas.List.{drop_more}
use Rattle.page_access.specs.Pages.{File}
use Rattle.page_lists.specs.Table.{Table, fresh, unused}
use Rattle.page_lists.proofs.Uses.{unused-all_moved}
use Rattle.page_walk.specs.Cells.{chains_of, outcome_of, outcomes_on}
use Rattle.page_walk.specs.declared.outcomes.CellOutcome.{CellOutcome}
use Rattle.page_walk.specs.Turns.{after_turns, left_by}
use Rattle.dbdata_list.specs.Listing.{data_text, page_data, pages_data}
use Rattle.dbdata_list.specs.Text.{outcome_text, outcomes_text}

-- the lines from a cell on
pub outcomes_more : (start : List ℕ) (i : ℕ) (cells : List CellOutcome) (c : CellOutcome) → c ≡ get_or cells i c → i < length cells →
    outcomes_text start (map outcome_of (drop i cells)) ≡ outcome_text start (outcome_of c) ++ outcomes_text start (map outcome_of (drop (i + 1) cells))
outcomes_more start i cells c is lt =
    ap (λ cs. outcomes_text start (map outcome_of cs)) (drop_more cells i c lt)
    ∙ ap (λ d. outcome_text start (outcome_of d) ++ outcomes_text start (map outcome_of (drop (i + 1) cells))) (sym is)

-- all pages, over a fresh table
pub data_all : (f : File) (t : Table) → t ≡ fresh f.pages 6 → data_text f ≡ pages_data f (f.pages - 0) 1 (unused t)
unfolding data_text
data_all f t e = let n : f.pages ≡ f.pages - 0 = omega arith in ap (λ m. pages_data f m 1 (unused (fresh f.pages 6))) n ∙ ap (λ u. pages_data f (f.pages - 0) 1 (unused u)) (sym e)

-- one page, and the later ones
pub data_more : (f : File) (n i : ℕ) (u : List ℕ) → i < n →
    pages_data f (n - i) (i + 1) u ≡ page_data f (i + 1) u ++ pages_data f (n - (i + 1)) (i + 1 + 1) (left_by f (i + 1) u)
data_more f n i u lt = let e : n - i ≡ suc (n - (i + 1)) = omega arith in ap (λ m. pages_data f m (i + 1) u) e

-- no page is left
pub data_none : (f : File) (n i p : ℕ) (u : List ℕ) → n ≤ i → pages_data f (n - i) p u ≡ []
data_none f n i p u le = let e : n - i ≡ 0 = omega (arith, le) in ap (λ m. pages_data f m p u) e

-- what the cells of a page leave
pub left_is : (told : Option (List ℕ)) (f : List ℕ → File) (p : ℕ) (old new : Table) → IfSome told (λ all. new ≡ after_turns (f all) p old)
    → IfSome told (λ all. unused new ≡ left_by (f all) p (unused old))
left_is None f p old new same = tt
left_is (Some all) f p old new same = ap unused same ∙ unused-all_moved (chains_of (outcomes_on (f all) p (unused old))) 4 old (lit≤ tt)
