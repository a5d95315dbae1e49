-- Page numbers in a row, and the pages that stand at them.
use Rattle.std.proofs.Common.{◌≡◌, ◌<◌, ◌≤◌, ℕ, zero, suc, ◌+◌, Bool, true, false, List, [], ◌∷◌, ◌++◌, length, get_or, nat_eq, refl, ap, ◌∙◌, subst, arith}
use Rattle.std.specs.Prelude.{if◌then◌else◌}
use Rattle.std.proofs.lemmas.Bool.Decides.{nat_tests}
use Rattle.page_access.specs.Pages.{File, page_at}
use Rattle.page_lists.specs.Lists.{count}
use Rattle.page_lists.specs.Table.{is_page}
use Rattle.page_lists.proofs.Counts.{count-append}
use Rattle.written_trees.specs.Trees.{ArePageNumbers, HasPagesAt, numbers}

pub numbers_more : (number : ℕ → ℕ) (k a b : ℕ) → numbers number k (a + b) ≡ numbers number k a ++ numbers number (k + a) b
numbers_more number k zero b = ap (λ n. numbers number k n) zero_b ∙ ap (λ n. numbers number n b) place
  where
    zero_b : 0 + b ≡ b
    zero_b = omega arith

    place : k ≡ k + 0
    place = omega arith
numbers_more number k (suc a) b =
    let len : suc a + b ≡ suc (a + b) = omega arith in
    let place : k + 1 + a ≡ k + suc a = omega arith in
    ap (numbers number k) len ∙ ap (λ (t : List ℕ). number k ∷ t) (numbers_more number (k + 1) a b)
    ∙ ap (λ n. number k ∷ (numbers number (k + 1) a ++ numbers number n b)) place

-- how often a number stands in two runs, one behind the other
pub count-numbers : (number : ℕ → ℕ) (q k a b : ℕ) → count q (numbers number k (a + b)) ≡ count q (numbers number k a) + count q (numbers number (k + a) b)
count-numbers number q k a b = ap (count q) (numbers_more number k a b) ∙ count-append q (numbers number k a) (numbers number (k + a) b)

-- a number that is below all of a run is not in it, and each number of a run stands in it once
pub none_below : (number : ℕ → ℕ) → ((j : ℕ) → number j < number (j + 1)) → (q k n : ℕ) → q < number k → count q (numbers number k n) ≡ 0
none_below number rise q k zero lt = refl
none_below number rise q k (suc n) lt =
    let test : nat_eq (number k) q ≡ false = grind (arith, nat_tests) in
    let more = none_below number rise q (k + 1) n (omega (arith, rise k)) in
    rw test (omega (arith, more))

pub same_number : (p q : ℕ) → nat_eq p q ≡ true → p ≡ q
same_number p q e = grind (arith, nat_tests)

pub page_there : (n p : ℕ) → 1 ≤ p → p ≤ n → is_page n p ≡ true
page_there n p one le = grind (arith, nat_tests)

pub page_same : (n p q : ℕ) → nat_eq p q ≡ true → 1 ≤ p → p ≤ n → is_page n q ≡ true
page_same n p q e one le = subst (λ r. is_page n r ≡ true) (same_number p q e) (page_there n p one le)

run_once : (f : File) (number : ℕ → ℕ) → ((j : ℕ) → number j < number (j + 1)) → (q k n : ℕ) → 1 ≤ number k → ((j : ℕ) → j < k + n → number j ≤ f.pages)
    → count q (numbers number k n) ≤ (if is_page f.pages q then 1 else 0)
run_once f number rise q k zero some inside = omega arith
run_once f number rise q k (suc n) some inside =
    by (nat_eq (number k) q) refl (run_once f number rise q (k + 1) n (omega (arith, rise k)) (λ j lt. inside j (omega (arith, lt))))
  where
    by : (b : Bool) → nat_eq (number k) q ≡ b → count q (numbers number (k + 1) n) ≤ (if is_page f.pages q then 1 else 0)
        → (if b then 1 else 0) + count q (numbers number (k + 1) n) ≤ (if is_page f.pages q then 1 else 0)
    by true e more =
        let same = same_number (number k) q e in
        let none = none_below number rise q (k + 1) n (omega (arith, rise k, same)) in
        let page = page_same f.pages (number k) q e some (inside k (omega arith)) in
        rw page (omega (arith, none))
    by false e more = omega (arith, more)

-- numbers that rise are at least their index further
pub numbers_least : (number : ℕ → ℕ) → ((j : ℕ) → number j < number (j + 1)) → (m : ℕ) → m ≤ number 0 → (k : ℕ) → k + m ≤ number k
numbers_least number rise m least zero = omega (arith, least)
numbers_least number rise m least (suc k) =
    let below = numbers_least number rise m least k in
    let next : number k < number (k + 1) = rise k in
    let there : k + 1 + m ≤ number (k + 1) = omega arith in
    let place : k + 1 ≡ suc k = omega arith in
    subst (λ n. n + m ≤ number n) place there

-- page numbers of the file stand once
pub numbers_once : (f : File) (number : ℕ → ℕ) (total : ℕ) → ArePageNumbers f number total → (q k n : ℕ) → k + n ≤ total
    → count q (numbers number k n) ≤ (if is_page f.pages q then 1 else 0)
numbers_once f number total a q k n le =
    run_once f number a.rise q k n (omega (arith, numbers_least number a.rise 2 a.some k)) (λ j lt. a.inside j (omega (arith, lt)))

pub number_is_page : (f : File) (number : ℕ → ℕ) (total : ℕ) → ArePageNumbers f number total → (k : ℕ) → k < total → is_page f.pages (number k) ≡ true
number_is_page f number total a k lt =
    page_there f.pages (number k) (omega (arith, numbers_least number a.rise 2 a.some k)) (a.inside k lt)

-- ---- pages at their numbers

-- pages from index k on
abbrev pub Stand : File → (ℕ → ℕ) → ℕ → List (List ℕ) → Type 0
Stand f number k [] = Unit {0}
Stand f number k (page ∷ pages) = (page_at f (number k) ≡ page) × Stand f number (k + 1) pages

pub stand_apart : (f : File) (number : ℕ → ℕ) (k : ℕ) (xs ys : List (List ℕ)) → Stand f number k (xs ++ ys) → Stand f number k xs × Stand f number (k + length xs) ys
stand_apart f number k [] ys s = (tt, subst (λ n. Stand f number n ys) (omega arith) s)
stand_apart f number k (x ∷ xs) ys s =
    let r = stand_apart f number (k + 1) xs ys s.1 in
    ((s.0, r.0), subst (λ n. Stand f number n ys) (omega arith) r.1)

stand_from : (f : File) (number : ℕ → ℕ) (k : ℕ) (pages : List (List ℕ)) → ((i : ℕ) → i < length pages → page_at f (number (k + i)) ≡ get_or pages i []) → Stand f number k pages
stand_from f number k [] h = tt
stand_from f number k (page ∷ pages) h =
    let place : k + 0 ≡ k = omega arith in (
      subst (λ n. page_at f (number n) ≡ page) place (h 0 (omega arith)),
      stand_from f number (k + 1) pages (λ i lt. subst (λ n. page_at f (number n) ≡ get_or pages i []) (omega arith) (h (suc i) (omega (arith, lt)))),
    )

pub stand_all : (f : File) (number : ℕ → ℕ) (pages : List (List ℕ)) → HasPagesAt f number pages → Stand f number 0 pages
stand_all f number pages h = stand_from f number 0 pages (λ i lt. subst (λ n. page_at f (number n) ≡ get_or pages i []) (omega arith) (h i lt))
