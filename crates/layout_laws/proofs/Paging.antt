-- Pages one behind another, with zeros in place of the lock-byte page: each stands at its number in the file.
use Rattle.std.proofs.Common.{◌≡◌, ◌≢◌, ◌<◌, ℕ, suc, ◌+◌, ◌-◌, ◌*◌, nat_eq, true, false, List, [], ◌∷◌, ◌++◌, length, take, drop, replicate, refl, sym, ap, ◌∙◌, inl, inr, arith}
use Rattle.std.specs.List.{AllByRecursion}
use Rattle.std.proofs.lemmas.Bool.{cases_lt}
use Rattle.std.proofs.lemmas.Bool.Decides.{nat_tests}
use Rattle.std.proofs.lemmas.List.{append-nil, append_assoc, drop_at, length-append, length-replicate, take_at}
use Rattle.page_access.specs.Pages.{File, page_of, zero_filled}
use Rattle.tree_writer.specs.Numbers.{number_of}
use Rattle.written_trees.proofs.Numbers.{Stand}
use Rattle.db_builder.specs.Layout.{gap, lock_of, paged}
use Rattle.layout_laws.proofs.Numbering.{high, last_next, last_of, low}

-- ---- one page in the bytes of a file

pub page_there : (bytes front page rest : List ℕ) (size p : ℕ) → bytes ≡ front ++ (page ++ rest) → length front ≡ (p - 1) * size → length page ≡ size → page_of bytes size p ≡ page
unfolding page_of
page_there bytes front page rest size p is at whole =
    let behind : drop ((p - 1) * size) bytes ≡ page ++ rest = ap (drop ((p - 1) * size)) is ∙ drop_at front (page ++ rest) ((p - 1) * size) at in
    let cut : take size (drop ((p - 1) * size) bytes) ≡ page = ap (take size) behind ∙ take_at page rest size whole in
    let none : size - length page ≡ 0 = omega arith in
    ap (zero_filled size) cut ∙ ap (λ n. page ++ replicate n 0) none ∙ append-nil page

-- ---- zeros before the page behind the lock-byte page

gap_none : (size number : ℕ) → number ≢ lock_of size + 1 → length (gap size number) ≡ 0
gap_none size number other =
    let t : nat_eq number (lock_of size + 1) ≡ false = grind (arith, nat_tests) in
    rw t refl

gap_full : (size number : ℕ) → number ≡ lock_of size + 1 → length (gap size number) ≡ size
gap_full size number at =
    let t : nat_eq number (lock_of size + 1) ≡ true = grind (arith, nat_tests) in
    rw t (length-replicate size 0)

one_more : (m size : ℕ) → (m + 1) * size ≡ m * size + size
one_more m size = omega arith

-- the pages so far and these zeros end where the next page begins
gap_len : (size lock k : ℕ) → 2 < lock → lock ≡ lock_of size
    → last_of lock k * size + length (gap size (number_of 2 lock k)) ≡ (number_of 2 lock k - 1) * size
gap_len size lock k two is = elim (cases_lt (2 + k) lock) [
  | inl lt ↦
      let number = low 2 lock k lt in
      let same : last_of lock k ≡ number_of 2 lock k - 1 = omega (arith, number, low 1 lock k (omega arith)) in
      omega (arith, gap_none size (number_of 2 lock k) (omega (arith, number, lt, is)), ap (λ m. m * size) same)
  | inr le ↦ elim (cases_lt (1 + k) lock) [
    | inl less ↦
        let number = high 2 lock k (omega arith) le in
        let same : last_of lock k + 1 ≡ number_of 2 lock k - 1 = omega (arith, number, low 1 lock k less) in
        omega (arith, gap_full size (number_of 2 lock k) (omega (arith, number, le, less, is)), one_more (last_of lock k) size, ap (λ m. m * size) same)
    | inr more ↦
        let number = high 2 lock k (omega arith) le in
        let same : last_of lock k ≡ number_of 2 lock k - 1 = omega (arith, number, high 1 lock k (omega arith) more) in
        omega (arith, gap_none size (number_of 2 lock k) (omega (arith, number, more, is)), ap (λ m. m * size) same)
  ]
]

number_some : (lock k : ℕ) → 2 < lock → number_of 2 lock k ≡ number_of 2 lock k - 1 + 1
number_some lock k two = elim (cases_lt (2 + k) lock) [
  | inl lt ↦ omega (arith, low 2 lock k lt)
  | inr le ↦ omega (arith, high 2 lock k (omega arith) le)
]

-- ---- all pages

-- pages from index k on stand at their numbers, and the file ends behind the last
pub record StandAll (f : File) (lock k : ℕ) (pages : List (List ℕ)) : Type 0 where
  pub stand : Stand f (number_of 2 lock) k pages
  pub long : length f.bytes ≡ last_of lock (k + length pages) * f.size

pub pages_stand : (f : File) (lock k : ℕ) (front : List ℕ) (pages : List (List ℕ)) → 2 < lock → lock ≡ lock_of f.size
    → f.bytes ≡ front ++ paged f.size (number_of 2 lock) k pages → length front ≡ last_of lock k * f.size
    → AllByRecursion (λ (page : List ℕ). length page ≡ f.size) pages → StandAll f lock k pages
pages_stand f lock k front [] two is bytes len full = record {
  stand = tt;
  long = omega (arith, ap length bytes, length-append front [], len, ap (λ n. last_of lock n * f.size) (let e : k ≡ k + 0 = omega arith in e));
}
pages_stand f lock k front (page ∷ pages) two is bytes len full =
    let number = number_of 2 lock in
    let zeros = gap f.size (number k) in
    let rest = paged f.size number (k + 1) pages in
    let here : f.bytes ≡ (front ++ zeros) ++ (page ++ rest) = bytes ∙ sym (append_assoc front zeros (page ++ rest)) in
    let at : length (front ++ zeros) ≡ (number k - 1) * f.size = omega (arith, length-append front zeros, len, gap_len f.size lock k two is) in
    let next : f.bytes ≡ ((front ++ zeros) ++ page) ++ rest = here ∙ sym (append_assoc (front ++ zeros) page rest) in
    let end : length ((front ++ zeros) ++ page) ≡ last_of lock (k + 1) * f.size =
    omega (
      arith,
      length-append (front ++ zeros) page,
      at,
      full.0,
      one_more (number k - 1) f.size,
      ap (λ m. m * f.size) (number_some lock k two),
      ap (λ m. m * f.size) (last_next lock k (omega arith)),
    ) in
    let more = pages_stand f lock (k + 1) ((front ++ zeros) ++ page) pages two is next end full.1 in
    record {
      stand = (page_there f.bytes (front ++ zeros) page rest f.size (number k) here at full.0, more.stand);
      long = more.long ∙ ap (λ n. last_of lock n * f.size) (let e : k + 1 + length pages ≡ k + suc (length pages) = omega arith in e);
    }

-- ---- pages of one part and of another

pub paged-append : (size : ℕ) (number : ℕ → ℕ) (k : ℕ) (xs ys : List (List ℕ)) → paged size number k (xs ++ ys) ≡ paged size number k xs ++ paged size number (k + length xs) ys
paged-append size number k [] ys = ap (λ n. paged size number n ys) (let e : k ≡ k + 0 = omega arith in e)
paged-append size number k (x ∷ xs) ys =
    let rest = paged size number (k + 1) xs in
    let behind = paged size number (k + suc (length xs)) ys in
    ap (λ (t : List ℕ). gap size (number k) ++ (x ++ t)) (paged-append size number (k + 1) xs ys
    ∙ ap (λ n. rest ++ paged size number n ys) (let e : k + 1 + length xs ≡ k + suc (length xs) = omega arith in e))
    ∙ ap (λ (t : List ℕ). gap size (number k) ++ t) (sym (append_assoc x rest behind))
    ∙ sym (append_assoc (gap size (number k)) (x ++ rest) behind)

-- pages whose indexes count from another page on
pub paged_moved : (size : ℕ) (number whole : ℕ → ℕ) (before k : ℕ) (pages : List (List ℕ)) → ((j : ℕ) → number j ≡ whole (before + j))
    → paged size number k pages ≡ paged size whole (before + k) pages
paged_moved size number whole before k [] same = refl
paged_moved size number whole before k (page ∷ pages) same =
    ap (λ n. gap size n ++ (page ++ paged size number (k + 1) pages)) (same k)
    ∙ ap (λ (t : List ℕ). gap size (whole (before + k)) ++ (page ++ t)) (paged_moved size number whole before (k + 1) pages same
    ∙ ap (λ n. paged size whole n pages) (let e : before + (k + 1) ≡ before + k + 1 = omega arith in e))
