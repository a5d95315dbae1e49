-- The pages that are touched are those of their list, each once.
use Rattle.std.proofs.Common.{refl, ◌≡◌, ◌≤◌, ◌⊎◌, ℕ, ◌+◌, Bool, true, false, List, [], ◌∷◌, length, sym, ◌∙◌, ap, inl, inr, arith}
use Rattle.std.specs.Prelude.{if◌then◌else◌}
use Rattle.std.specs.List.{flat_map, range_with_len}
use Rattle.std.proofs.lemmas.List.FromFn.{length-range_with_len}
use Rattle.page_access.specs.Pages.{File}
use Rattle.page_lists.specs.Lists.{IsPartOf, count, firsts, is_in, minus}
use Rattle.page_lists.specs.Table.{fresh, is_page}
use Rattle.page_lists.proofs.Counts.{at_most_one, count-append, count-firsts, count_in, firsts_part, in_from_count, in_or_not, in_part, length-minus}
use Rattle.page_lists.proofs.Moves.{count_pages}
use Rattle.orphan_trees.proofs.Lists.{page_of_unused}
use Rattle.page_walk.proofs.Levels.{firsts_in, in_firsts, levels_closed, levels_first, levels_once, levels_within, taken_or_left}
use Rattle.page_walk.specs.Evidence.{AreOnce}
use Rattle.page_walk.proofs.Queue.{Fuel}
use Rattle.clear_paths.specs.Clear.{AreTouched, Touched, all_pages, counted, named, numbers_on, numbers_with, outer, outer_numbers, outer_pages, touched}
use Rattle.clear_paths.specs.Laws.{CountsAreSame, TouchedAreListed}
use Rattle.clear_paths.proofs.Measures.{times_part}

-- the pages of a file are all there, each once
pub pages_once : (f : File) → AreOnce f.pages (all_pages f)
pages_once f q = omega (arith, count_pages f.pages q)

pub page_there : (f : File) (q : ℕ) → is_page f.pages q ≡ true → is_in q (all_pages f) ≡ true
page_there f q page = in_from_count q (all_pages f) (omega (arith, here))
  where
    here : count q (all_pages f) ≡ 1
    here = count_pages f.pages q ∙ ap (λ (b : Bool). if b then 1 else 0) page

page_if_there : (f : File) (q : ℕ) → is_in q (all_pages f) ≡ true → is_page f.pages q ≡ true
page_if_there f q there = page_of_unused f.pages q (all_pages f) (pages_once f) there

-- ---- the list

-- the pages that no position outside the pages names
abbrev inner_pages : File → List ℕ → List ℕ
inner_pages f roots = minus (all_pages f) (outer_pages f roots)

enough_fuel : (f : File) (roots level : List ℕ) → Fuel f.pages (inner_pages f roots) level
enough_fuel f roots [] = tt
enough_fuel f roots (p ∷ ps) =
    omega (
      arith,
      length-minus (all_pages f) (outer_pages f roots) (firsts_part (all_pages f) (outer_numbers roots)),
      length-range_with_len 1 f.pages,
    )

pub touched_once : (f : File) (roots : List ℕ) (q : ℕ) → count q (touched f roots) ≤ 1
unfolding touched
touched_once f roots q =
    omega (
      arith,
      levels_once (numbers_on f) f.pages (inner_pages f roots) (outer_pages f roots) q,
      count-firsts q (all_pages f) (outer_numbers roots),
      count_pages f.pages q,
      at_most_one (is_page f.pages q),
    )

-- what a touched page or a position outside the pages names is there
pub touched_there : (f : File) (roots : List ℕ) (q : ℕ) → Touched f roots q → is_in q (touched f roots) ≡ true
unfolding touched
touched_there f roots q (outer _ there page) =
    levels_first (numbers_on f) f.pages (inner_pages f roots) (outer_pages f roots) q
    (in_firsts q (all_pages f) (outer_numbers roots) (page_there f q page) there)
touched_there f roots q (named p _ t names page) =
    elim (taken_or_left q (all_pages f) (outer_numbers roots) (page_there f q page)) [
      | inl first ↦ levels_first (numbers_on f) f.pages (inner_pages f roots) (outer_pages f roots) q first
      | inr left ↦
          levels_closed (numbers_on f) f.pages (inner_pages f roots) (outer_pages f roots) p q
          (enough_fuel f roots (outer_pages f roots)) (touched_there f roots p t) names left
    ]

-- and nothing else is
pub there_touched : (f : File) (roots : List ℕ) (q : ℕ) → is_in q (touched f roots) ≡ true → Touched f roots q
unfolding touched
there_touched f roots q there =
    let top : List ℕ = outer_pages f roots in
    let inner : IsPartOf (inner_pages f roots) (all_pages f) = λ r. omega (arith, count-firsts r (all_pages f) (outer_numbers roots)) in
    levels_within (numbers_on f) (all_pages f) (Touched f roots)
    (λ p r t names page. named p r t names (page_if_there f r page)) f.pages (inner_pages f roots) top inner
    (λ r first. outer r (firsts_in r (all_pages f) (outer_numbers roots) first)
    (page_if_there f r (in_part r top (all_pages f) (firsts_part (all_pages f) (outer_numbers roots)) first))) q there

pub touched_are_listed : TouchedAreListed
touched_are_listed f roots = record {
  all = λ q. (there_touched f roots q, touched_there f roots q);
  once = touched_once f roots;
}

-- ---- the counts

-- a list of them is a part of each other
listed_part : (f : File) (roots xs ys : List ℕ) → AreTouched f roots xs → AreTouched f roots ys → IsPartOf xs ys
listed_part f roots xs ys a b q =
    elim (in_or_not q xs) [
      | inl w ↦ omega (arith, a.once q, count_in q ys ((b.all q).1 ((a.all q).0 w.0)))
      | inr w ↦ omega (arith, w.1)
    ]

pub counts_are_same : CountsAreSame
counts_are_same f roots pages are q =
    let listed : AreTouched f roots (touched f roots) = touched_are_listed f roots in
    omega (
      arith,
      count-append q (outer_numbers roots) (flat_map (numbers_on f) pages),
      count-append q (outer_numbers roots) (flat_map (numbers_on f) (touched f roots)),
      times_part (numbers_on f) pages (touched f roots) q (listed_part f roots pages (touched f roots) are listed),
      times_part (numbers_on f) (touched f roots) pages q (listed_part f roots (touched f roots) pages listed are),
    )
