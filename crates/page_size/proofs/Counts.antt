-- Testing and counting one number after another.
use Rattle.std.proofs.Common.{◌≡◌, ◌<◌, ◌≤◌, ◌∙◌, ℕ, suc, ◌+◌, ◌-◌, ◌*◌, Bool, true, false, ◌&&◌, if◌then◌else◌, List, ◌∷◌, length, count_by, Option, Some, None, IfSome, sym, ap, subst, refl, arith}
use Rattle.std.specs.Int.{from_bool}
use Rattle.std.specs.List.{list_all, range_with_len}
use Rattle.std.proofs.lemmas.List.Sums.{sum_by-cons}
use Rattle.std.proofs.Math.Nat.{mul-le-mul_right}
use Rattle.page_access.specs.Pages.{page_of}
use Rattle.page_size.specs.Score.{is_plausible, plausible_pages}

-- the numbers from a to below n begin with a
range_from : (a n : ℕ) → a < n → range_with_len a (n - a) ≡ a ∷ range_with_len (a + 1) (n - (a + 1))
range_from a n below = let e : n - a ≡ suc (n - (a + 1)) = omega arith in ap (λ k. range_with_len a k) e

-- the first of the numbers passes
pub all_next : (p : ℕ → Bool) (a n : ℕ) (whole : Bool) → a < n → p a ≡ true →
    list_all p (range_with_len a (n - a)) ≡ whole → list_all p (range_with_len (a + 1) (n - (a + 1))) ≡ whole
all_next p a n whole below passes rest =
    sym (ap (list_all p) (range_from a n below) ∙ ap (λ b. b && list_all p (range_with_len (a + 1) (n - (a + 1)))) passes) ∙ rest

-- the first of the numbers is counted, where it passes
count_next : (p : ℕ → Bool) (a n before now : ℕ) → a < n → now ≡ before + (if p a then 1 else 0) →
    now + count_by p (range_with_len (a + 1) (n - (a + 1))) ≡ before + count_by p (range_with_len a (n - a))
count_next p a n before now below now_is =
    let one = λ (x : ℕ). if p x then 1 else 0 in
    let rest = range_with_len (a + 1) (n - (a + 1)) in
    let e : count_by p (range_with_len a (n - a)) ≡ one a + count_by p rest = ap (count_by p) (range_from a n below) ∙ sum_by-cons one a rest in
    omega (arith, now_is, e)

-- one more page is counted, where the bytes are told
pub told_count : (o q : Option (List ℕ)) (size usable pages number before now : ℕ) (page : List ℕ) (found : Bool) → q ≡ o → number < pages + 1 →
    IfSome q (λ all. page ≡ page_of all size number) → found ≡ is_plausible page number usable pages → now ≡ before + (if found then 1 else 0) →
    IfSome o (λ all. before + count_by (λ p. is_plausible (page_of all size p) p usable pages) (range_with_len number (pages + 1 - number))
    ≡ plausible_pages all size usable pages) →
    IfSome o (λ all. now + count_by (λ p. is_plausible (page_of all size p) p usable pages) (range_with_len (number + 1) (pages + 1 - (number + 1)))
    ≡ plausible_pages all size usable pages)
told_count None q size usable pages number before now page found e below page_is found_is now_is counted = tt
told_count (Some all) q size usable pages number before now page found e below page_is found_is now_is counted =
    let here : page ≡ page_of all size number = subst (λ (x : Option (List ℕ)). IfSome x (λ all. page ≡ page_of all size number)) e page_is in
    count_next (λ p. is_plausible (page_of all size p) p usable pages) number (pages + 1) before now below
    (now_is ∙ ap (λ b. before + (if b then 1 else 0)) (found_is ∙ ap (λ t. is_plausible t number usable pages) here))
    ∙ counted

-- a test as a number
pub counts_once : (found : Bool) → from_bool found ≡ (if found then 1 else 0)
counts_once true = refl
counts_once false = refl

-- a test counts once at most
pub once : (found : Bool) → (if found then 1 else 0) ≤ 1
once true = omega arith
once false = omega arith

-- one more page takes one more read, where all pages are told
pub told_reads : (o q : Option (List ℕ)) (size pages number before here now : ℕ) → q ≡ o → number < pages + 1 →
    IfSome o (λ all. pages * size ≤ length all → here + 1 ≤ before + number) →
    IfSome q (λ all. number * size ≤ length all → now ≤ here + 1) →
    IfSome o (λ all. pages * size ≤ length all → now + 1 ≤ before + (number + 1))
told_reads None q size pages number before here now e below earlier later = tt
told_reads (Some all) q size pages number before here now e below earlier later =
    let page : number * size ≤ length all → now ≤ here + 1
    = subst (λ (x : Option (List ℕ)). IfSome x (λ all. number * size ≤ length all → now ≤ here + 1)) e later in
    λ whole.
    let fits : number * size ≤ pages * size = mul-le-mul_right size (omega arith) in
    omega (arith, page (omega (arith, fits)), earlier whole)
