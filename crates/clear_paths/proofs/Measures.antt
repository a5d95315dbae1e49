-- How often numbers are held on pages.
use Rattle.std.proofs.Common.{◌≡◌, ◌≤◌, ℕ, ◌+◌, List, [], ◌∷◌, ◌++◌, refl, ◌∙◌, ap, arith}
use Rattle.std.specs.List.{flat_map}
use Rattle.std.proofs.lemmas.Grind.{flat_map-append}
use Rattle.page_access.specs.Pages.{File}
use Rattle.page_lists.specs.Lists.{IsPartOf, count}
use Rattle.page_lists.proofs.Counts.{IsMeasure, count-append, measure-minus}
use Rattle.page_walk.specs.Pointers.{pointers_on}
use Rattle.clear_paths.specs.Clear.{next_on, numbers_on, overflows_on}

-- how often pages hold a number
abbrev pub times : (ℕ → List ℕ) → List ℕ → ℕ → ℕ
times names pages q = count q (flat_map names pages)

pub times-append : (names : ℕ → List ℕ) (xs ys : List ℕ) (q : ℕ) → times names (xs ++ ys) q ≡ times names xs q + times names ys q
times-append names xs ys q = ap (count q) (flat_map-append names xs ys) ∙ count-append q (flat_map names xs) (flat_map names ys)

pub measures : (holds : ℕ → List ℕ) (q : ℕ) → IsMeasure (λ xs. times holds xs q)
measures holds q = record { none = refl; append = λ xs ys. times-append holds xs ys q }

-- a part of the pages holds it no more often
pub times_part : (holds : ℕ → List ℕ) (xs ys : List ℕ) (q : ℕ) → IsPartOf xs ys → times holds xs q ≤ times holds ys q
times_part holds xs ys q part = omega (arith, measure-minus (λ zs. times holds zs q) (measures holds q) ys xs part)

-- all positions on a page are those of its pointers, of its cells' overflow numbers, and its first bytes
pub times_split : (f : File) (pages : List ℕ) (q : ℕ)
    → times (numbers_on f) pages q ≡ times (pointers_on f) pages q + times (overflows_on f) pages q + times (next_on f) pages q
times_split f [] q = refl
times_split f (p ∷ ps) q =
    omega (
      arith,
      count-append q (numbers_on f p) (flat_map (numbers_on f) ps),
      count-append q (pointers_on f p) (overflows_on f p ++ next_on f p),
      count-append q (overflows_on f p) (next_on f p),
      count-append q (pointers_on f p) (flat_map (pointers_on f) ps),
      count-append q (overflows_on f p) (flat_map (overflows_on f) ps),
      count-append q (next_on f p) (flat_map (next_on f) ps),
      times_split f ps q,
    )
