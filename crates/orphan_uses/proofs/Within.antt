-- Rows of some pages, whose chains are among others: as such they are counted over all parts of a file.
use Rattle.std.proofs.Common.{◌≡◌, ◌≤◌, ℕ, ◌+◌, Bool, true, false, List, [], ◌∷◌, ◌++◌, map, refl, ap, arith}
use Rattle.std.specs.Prelude.{filter}
use Rattle.std.proofs.lemmas.Bool.{cases_Bool}
use Rattle.std.proofs.lemmas.Grind.{flat_map-append}
use Rattle.std.proofs.lemmas.List.{map-append}
use Rattle.page_access.specs.Pages.{File}
use Rattle.page_lists.specs.Lists.{count}
use Rattle.page_lists.proofs.Counts.{count-append}
use Rattle.page_walk.specs.Cells.{Row}
use Rattle.page_walk.specs.Turns.{chains_on, turns_on}
use Rattle.raw_schema.specs.Schema.{cells_in}
use Rattle.use_order.specs.Apart.{AreApart, once_at, row_chains, row_pages, times_at}
use Rattle.use_order.proofs.Apart.{turns_chains, turns_pages, turns_times}

-- a cell is one of the rows no more often than its page is among `pages`, a page is in their chains no more often than
-- among `taken`, and none of them is on another page
pub record Within (pages taken : List ℕ) (rows : List Row) : Type 0 where
  pub places : (p i : ℕ) → times_at p i rows ≤ count p pages
  pub chains : (q : ℕ) → count q (row_chains rows) ≤ count q taken
  pub holds : (q : ℕ) → count q pages ≡ 0 → count q (row_pages rows) ≡ 0

-- the readable cells of pages at their turns
pub within_turns : (f : File) (ps unused : List ℕ) → Within ps (chains_on f ps unused) (cells_in (turns_on f ps unused))
within_turns f ps u = record {
  places = λ p i. turns_times f ps p i u;
  chains = λ q. turns_chains f ps q u;
  holds = λ q none. turns_pages f ps q u none;
}

times-append : (p i : ℕ) (xs ys : List Row) → times_at p i (xs ++ ys) ≡ times_at p i xs + times_at p i ys
times-append p i [] ys = omega arith
times-append p i (x ∷ xs) ys = omega (arith, times-append p i xs ys)

-- rows of some pages, and rows of others
pub within_append : (ps qs cs ds : List ℕ) (xs ys : List Row) → Within ps cs xs → Within qs ds ys → Within (ps ++ qs) (cs ++ ds) (xs ++ ys)
within_append ps qs cs ds xs ys first next = record {
  places = λ p i. omega (arith, times-append p i xs ys, count-append p ps qs, first.places p i, next.places p i);
  chains = λ q. omega (
    arith,
    ap (count q) (flat_map-append (λ (r : Row). r.chain) xs ys),
    count-append q (row_chains xs) (row_chains ys),
    count-append q cs ds,
    first.chains q,
    next.chains q,
  );
  holds = λ q none. omega (
    arith,
    ap (count q) (map-append (λ (r : Row). r.page) xs ys),
    count-append q (row_pages xs) (row_pages ys),
    count-append q ps qs,
    first.holds q (omega (arith, none, count-append q ps qs)),
    next.holds q (omega (arith, none, count-append q ps qs)),
  );
}

-- where no page has two uses, they share nothing
pub within_apart : (ps cs : List ℕ) (rows : List Row) → ((q : ℕ) → count q ps + count q cs ≤ 1) → Within ps cs rows → AreApart rows
within_apart ps cs rows once w = record {
  places = λ p i. omega (arith, w.places p i, once p);
  chains = λ q. omega (arith, w.chains q, once q);
  holds = λ q some. w.holds q (omega (arith, some, w.chains q, once q));
}
