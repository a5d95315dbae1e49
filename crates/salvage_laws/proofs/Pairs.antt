-- Two of the rows that share nothing: no cell, no byte and no page of their chains.
use Rattle.std.proofs.Common.{◌≡◌, ◌≤◌, inl, inr, ℕ, ◌+◌, List, [], ◌∷◌, refl, arith}
use Rattle.std.specs.List.{AllByRecursion, AllPairs}
use Rattle.std.proofs.lemmas.Bool.Decides.{nat_tests}
use Rattle.std.proofs.lemmas.List.Elements.{All-from_recursion}
use Rattle.std.proofs.lemmas.List.Kept.{AllPairs-cons}
use Rattle.page_access.specs.Pages.{File}
use Rattle.page_lists.specs.Lists.{count}
use Rattle.page_lists.proofs.Counts.{count-append, count_in, in_head, in_or_not, not_in_from_count}
use Rattle.page_walk.specs.Cells.{Row}
use Rattle.use_order.specs.Apart.{AreApart, once_at, row_chains, row_pages, times_at}
use Rattle.salvage_laws.specs.Laws.{KeptShareNothing, ShareNothing}
use Rattle.salvage_laws.specs.Stored.{kept_cells}
use Rattle.salvage_laws.proofs.Kept.{kept_are_apart}
use Rattle.salvage_laws.proofs.Ranges.{ranges_are_apart}

here_once : (x y : Row) → x.page ≡ y.page → x.cell ≡ y.cell → once_at x.page x.cell y ≡ 1
here_once x y page cell = grind (arith, nat_tests, page, cell)

-- a row and others, by what is counted of these
record IsApartFrom (x : Row) (ys : List Row) : Type 0 where
  times : times_at x.page x.cell ys ≡ 0
  chains : (q : ℕ) → count q x.chain + count q (row_chains ys) ≤ 1
  others : (q : ℕ) → 1 ≤ count q x.chain → count q (row_pages ys) ≡ 0
  own : count x.page (row_chains ys) ≡ 0

fewer : (x y : Row) (ys : List Row) → IsApartFrom x (y ∷ ys) → IsApartFrom x ys
fewer x y ys apart = record {
  times = omega (arith, apart.times);
  chains = λ q. omega (arith, apart.chains q, count-append q y.chain (row_chains ys));
  others = λ q some. omega (arith, apart.others q some);
  own = omega (arith, apart.own, count-append x.page y.chain (row_chains ys));
}

one_apart : (f : File) (x y : Row) (ys : List Row) → IsApartFrom x (y ∷ ys) → ShareNothing f x y
one_apart f x y ys apart = record {
  places = λ page cell. differ page cell;
  chains = λ q here. not_in_from_count q y.chain (omega (arith, apart.chains q, count_in q x.chain here, count-append q y.chain (row_chains ys)));
  holds = (
    not_in_from_count x.page y.chain (omega (arith, apart.own, count-append x.page y.chain (row_chains ys))),
    elim (in_or_not y.page x.chain) [
      | inl is ↦ absurd (omega (arith, apart.others y.page is.1, count_in y.page (y.page ∷ row_pages ys) (in_head y.page (row_pages ys))))
      | inr isnt ↦ isnt.0
    ],
  );
  bytes = λ a b same. ranges_are_apart f x y a b same (λ cell. differ same cell);
}
  where
    differ : x.page ≡ y.page → x.cell ≡ y.cell → ⊥
    differ page cell = omega (arith, apart.times, here_once x y page cell)

all_apart : (f : File) (x : Row) (ys : List Row) → IsApartFrom x ys → AllByRecursion (ShareNothing f x) ys
all_apart f x [] apart = tt
all_apart f x (y ∷ ys) apart = (one_apart f x y ys apart, all_apart f x ys (fewer x y ys apart))

-- ---- all pairs

rest_apart : (x : Row) (xs : List Row) → AreApart (x ∷ xs) → AreApart xs
rest_apart x xs apart = record {
  places = λ p i. omega (arith, apart.places p i);
  chains = λ q. omega (arith, apart.chains q, count-append q x.chain (row_chains xs));
  holds = λ q some. omega (arith, apart.holds q (omega (arith, some, count-append q x.chain (row_chains xs))));
}

first_apart : (x : Row) (xs : List Row) → AreApart (x ∷ xs) → IsApartFrom x xs
first_apart x xs apart = record {
  times = omega (arith, apart.places x.page x.cell, here_once x x refl refl);
  chains = λ q. omega (arith, apart.chains q, count-append q x.chain (row_chains xs));
  others = λ q some. omega (arith, apart.holds q (omega (arith, some, count-append q x.chain (row_chains xs))));
  own = elim (in_or_not x.page (row_chains xs)) [
    | inl is ↦ absurd (omega (
      arith,
      apart.holds x.page (omega (arith, is.1, count-append x.page x.chain (row_chains xs))),
      count_in x.page (x.page ∷ row_pages xs) (in_head x.page (row_pages xs)),
    ))
    | inr isnt ↦ isnt.1
  ];
}

no_pairs : (f : File) → AllPairs (ShareNothing f) []
no_pairs f i j d before within = absurd (omega (arith, within))

pairs_apart : (f : File) (rows : List Row) → AreApart rows → AllPairs (ShareNothing f) rows
pairs_apart f [] apart = no_pairs f
pairs_apart f (x ∷ xs) apart =
    AllPairs-cons (ShareNothing f) x xs (All-from_recursion (ShareNothing f x) xs (all_apart f x xs (first_apart x xs apart)))
    (pairs_apart f xs (rest_apart x xs apart))

pub kept_share_nothing : KeptShareNothing
kept_share_nothing f u trunk fates orphans cells s =
    pairs_apart f (kept_cells f u fates orphans cells) (kept_are_apart f u trunk fates orphans cells s)
