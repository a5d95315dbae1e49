-- Rows that are some of those that share nothing share nothing.
use Rattle.std.proofs.Common.{◌≡◌, ◌≤◌, ℕ, ◌==◌, List, [], ◌∷◌, ◌++◌, refl, arith}
use Rattle.std.specs.Prelude.{if◌then◌else◌}
use Rattle.std.specs.List.{sum_by}
use Rattle.std.specs.List.Sorted.{IsPermutation}
use Rattle.std.proofs.lemmas.List.Sorted.{sum_by-IsPermutation}
use Rattle.std.proofs.lemmas.List.Sums.{sum_by-append, sum_by-cons}
use Rattle.page_lists.specs.Lists.{count}
use Rattle.page_lists.proofs.Counts.{count-append}
use Rattle.page_walk.specs.Cells.{Row}
use Rattle.use_order.specs.Apart.{AreApart, once_at, row_chains, row_pages, times_at}

-- ---- what is counted, as a sum over the rows

abbrev in_chain : ℕ → Row → ℕ
in_chain q r = count q r.chain

abbrev on_page : ℕ → Row → ℕ
on_page q r = if r.page == q then 1 else 0

times_sum : (p i : ℕ) (rows : List Row) → times_at p i rows ≡ sum_by (once_at p i) rows
times_sum p i [] = refl
times_sum p i (r ∷ rows) = omega (arith, times_sum p i rows, sum_by-cons (once_at p i) r rows)

chains_sum : (q : ℕ) (rows : List Row) → count q (row_chains rows) ≡ sum_by (in_chain q) rows
chains_sum q [] = refl
chains_sum q (r ∷ rows) =
    omega (arith, count-append q r.chain (row_chains rows), chains_sum q rows, sum_by-cons (in_chain q) r rows)

pages_sum : (q : ℕ) (rows : List Row) → count q (row_pages rows) ≡ sum_by (on_page q) rows
pages_sum q [] = refl
pages_sum q (r ∷ rows) = omega (arith, pages_sum q rows, sum_by-cons (on_page q) r rows)

-- a sum over some of the rows is no greater
pub less : (n : Row → ℕ) (all xs ys : List Row) → IsPermutation all (xs ++ ys) → sum_by n xs ≤ sum_by n all
less n all xs ys moved = omega (arith, sum_by-IsPermutation n all (xs ++ ys) moved, sum_by-append n xs ys)

-- ---- some of the rows

pub some_apart : (all xs ys : List Row) → IsPermutation all (xs ++ ys) → AreApart all → AreApart xs
some_apart all xs ys moved apart = record {
  places = λ p i. omega (arith, times_sum p i all, times_sum p i xs, less (once_at p i) all xs ys moved, apart.places p i);
  chains = λ q. omega (arith, chains_sum q all, chains_sum q xs, less (in_chain q) all xs ys moved, apart.chains q);
  holds = λ q some. omega (
    arith,
    pages_sum q all,
    pages_sum q xs,
    less (on_page q) all xs ys moved,
    apart.holds q (omega (arith, some, chains_sum q all, chains_sum q xs, less (in_chain q) all xs ys moved)),
  );
}
