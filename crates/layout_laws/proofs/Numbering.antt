-- Page numbers behind page 1 that leave out the lock-byte page: those of one tree behind another, the last one, and that with page 1 and the lock-byte page they are all numbers of the file.
use Rattle.std.proofs.Common.{◌≡◌, ◌≢◌, ◌<◌, ◌≤◌, ℕ, zero, suc, ◌+◌, Bool, true, false, nat_le, nat_eq, List, [], ◌∷◌, refl, sym, ap, ◌∙◌, inl, inr, subst, arith}
use Rattle.std.specs.Prelude.{if◌then◌else◌}
use Rattle.std.proofs.lemmas.Bool.{cases_lt}
use Rattle.std.proofs.lemmas.Bool.Decides.{nat_tests}
use Rattle.page_lists.specs.Lists.{count}
use Rattle.page_lists.specs.Table.{is_page}
use Rattle.tree_writer.specs.Numbers.{number_of}
use Rattle.written_trees.specs.Trees.{numbers}
use Rattle.written_trees.proofs.Numbers.{count-numbers}

-- ---- a number before the lock-byte page, and behind it

pub low : (start lock k : ℕ) → start + k < lock → number_of start lock k ≡ start + k
low start lock k lt =
    let s : nat_le start lock ≡ true = grind (arith, nat_tests) in
    let t : nat_le lock (start + k) ≡ false = grind (arith, nat_tests) in
    rw (s, t) refl

pub high : (start lock k : ℕ) → start ≤ lock → lock ≤ start + k → number_of start lock k ≡ start + k + 1
high start lock k le more =
    let s : nat_le start lock ≡ true = grind (arith, nat_tests) in
    let t : nat_le lock (start + k) ≡ true = grind (arith, nat_tests) in
    rw (s, t) refl

pub past : (start lock k : ℕ) → lock < start → number_of start lock k ≡ start + k
past start lock k lt =
    let s : nat_le start lock ≡ false = grind (arith, nat_tests) in
    rw s refl

-- numbers of pages behind b others
pub number_more : (lock b j : ℕ) → 2 ≤ lock → number_of (number_of 2 lock b) lock j ≡ number_of 2 lock (b + j)
number_more lock b j two = elim (cases_lt (2 + b) lock) [
  | inl lt ↦ elim (cases_lt (2 + b + j) lock) [
    | inl less ↦
        let e : 2 + b + j ≡ 2 + (b + j) = omega arith in
        ap (λ s. number_of s lock j) (low 2 lock b lt) ∙ low (2 + b) lock j less ∙ e ∙ sym (low 2 lock (b + j) (omega arith))
    | inr le ↦
        let e : 2 + b + j + 1 ≡ 2 + (b + j) + 1 = omega arith in
        ap (λ s. number_of s lock j) (low 2 lock b lt) ∙ high (2 + b) lock j (omega arith) le ∙ e ∙ sym (high 2 lock (b + j) two (omega arith))
  ]
  | inr le ↦
      let e : 2 + b + 1 + j ≡ 2 + (b + j) + 1 = omega arith in
      ap (λ s. number_of s lock j) (high 2 lock b two le) ∙ past (2 + b + 1) lock j (omega arith) ∙ e ∙ sym (high 2 lock (b + j) two (omega arith))
]

-- the number of the last of k pages behind page 1, which is page 1 where there are none
abbrev pub last_of : ℕ → ℕ → ℕ
last_of lock k = number_of 1 lock k

pub last_none : (lock : ℕ) → 2 ≤ lock → last_of lock 0 ≡ 1
last_none lock two = low 1 lock 0 (omega arith)

pub last_next : (lock k : ℕ) → 2 ≤ lock → last_of lock (k + 1) ≡ number_of 2 lock k
last_next lock k two = elim (cases_lt (2 + k) lock) [
  | inl lt ↦
      let e : 1 + (k + 1) ≡ 2 + k = omega arith in
      low 1 lock (k + 1) (omega arith) ∙ e ∙ sym (low 2 lock k lt)
  | inr le ↦
      let e : 1 + (k + 1) + 1 ≡ 2 + k + 1 = omega arith in
      high 1 lock (k + 1) (omega arith) (omega arith) ∙ e ∙ sym (high 2 lock k two le)
]

-- no page has a number above the last
pub within_last : (lock i k : ℕ) → 2 ≤ lock → i < k → number_of 2 lock i ≤ last_of lock k
within_last lock i k two lt = elim (cases_lt (2 + i) lock) [
  | inl less ↦ elim (cases_lt (1 + k) lock) [
    | inl low_k ↦ omega (arith, low 2 lock i less, low 1 lock k low_k)
    | inr high_k ↦ omega (arith, low 2 lock i less, high 1 lock k (omega arith) high_k)
  ]
  | inr le ↦ omega (arith, high 2 lock i two le, high 1 lock k (omega arith) (omega arith))
]

-- ---- each number once

-- the lock-byte page, where a file of n pages has it
abbrev pub lock_list : ℕ → ℕ → List ℕ
lock_list lock n = if nat_le lock n then lock ∷ [] else []

-- 1 where a test holds
abbrev one_for : Bool → ℕ
one_for b = if b then 1 else 0

-- one more page
page_more : (n q : ℕ) → one_for (is_page (n + 1) q) ≡ one_for (is_page n q) + one_for (nat_eq (n + 1) q)
page_more n q = grind (arith, nat_tests)

first_page : (q : ℕ) → count q (1 ∷ []) ≡ one_for (is_page 1 q)
first_page q = grind (arith, nat_tests)

-- the lock-byte page's number stands where the last page is not below it
list_at : (lock n : ℕ) → lock ≤ n → lock_list lock n ≡ lock ∷ []
list_at lock n le =
    let t : nat_le lock n ≡ true = grind (arith, nat_tests) in
    rw t refl

list_none : (lock n : ℕ) → n < lock → lock_list lock n ≡ []
list_none lock n lt =
    let t : nat_le lock n ≡ false = grind (arith, nat_tests) in
    rw t refl

same_list : (lock n page : ℕ) → page ≡ n + 1 → page ≢ lock → lock_list lock page ≡ lock_list lock n
same_list lock n page next other = elim (cases_lt n lock) [
  | inl lt ↦ list_none lock page (omega (arith, next, other, lt)) ∙ sym (list_none lock n lt)
  | inr le ↦ list_at lock page (omega arith) ∙ sym (list_at lock n le)
]

-- the next page is the page behind the last one, unless that is the lock-byte page
step_over : (lock q n page : ℕ) → page ≡ n + 1 → page ≢ lock → count q (page ∷ []) + count q (lock_list lock page) + one_for (is_page n q)
    ≡ count q (lock_list lock n) + one_for (is_page page q)
step_over lock q n page next other =
    let same = ap (count q) (same_list lock n page next other) in
    let more = page_more n q in
    let test : one_for (nat_eq page q) ≡ one_for (nat_eq (n + 1) q) = ap (λ p. one_for (nat_eq p q)) next in
    let page_is : one_for (is_page page q) ≡ one_for (is_page (n + 1) q) = ap (λ p. one_for (is_page p q)) next in
    omega (arith, same, more, test, page_is)

step_past : (lock q n page : ℕ) → lock ≡ n + 1 → page ≡ n + 2 → count q (page ∷ []) + count q (lock_list lock page) + one_for (is_page n q)
    ≡ count q (lock_list lock n) + one_for (is_page page q)
step_past lock q n page at next =
    let now = ap (count q) (list_at lock page (omega arith)) in
    let before = ap (count q) (list_none lock n (omega arith)) in
    let here : lock ≡ n + 1 = at in
    let there : page ≡ n + 1 + 1 = omega arith in
    let one = page_more n q in
    let two = page_more (n + 1) q in
    let lock_is : one_for (nat_eq lock q) ≡ one_for (nat_eq (n + 1) q) = ap (λ p. one_for (nat_eq p q)) here in
    let test : one_for (nat_eq page q) ≡ one_for (nat_eq (n + 1 + 1) q) = ap (λ p. one_for (nat_eq p q)) there in
    let page_is : one_for (is_page page q) ≡ one_for (is_page (n + 1 + 1) q) = ap (λ p. one_for (is_page p q)) there in
    omega (arith, now, before, one, two, lock_is, test, page_is)

-- the next page in either case
step : (lock q k : ℕ) → 2 < lock → count q (number_of 2 lock k ∷ []) + count q (lock_list lock (last_of lock (k + 1))) + one_for (is_page (last_of lock k) q)
    ≡ count q (lock_list lock (last_of lock k)) + one_for (is_page (last_of lock (k + 1)) q)
step lock q k two =
    let page = number_of 2 lock k in
    subst (λ n. count q (page ∷ []) + count q (lock_list lock n) + one_for (is_page (last_of lock k) q) ≡ count q (lock_list lock (last_of lock k)) + one_for (is_page n q))
    (sym (last_next lock k (omega arith)))
    (elim (cases_lt (2 + k) lock) [
      | inl lt ↦ step_over lock q (last_of lock k) page (omega (arith, low 2 lock k lt, low 1 lock k (omega arith))) (omega (arith, low 2 lock k lt, lt))
      | inr le ↦ elim (cases_lt (1 + k) lock) [
        | inl less ↦ step_past lock q (last_of lock k) page (omega (arith, low 1 lock k less, le, less)) (omega (arith, high 2 lock k (omega arith) le, low 1 lock k less))
        | inr more ↦ step_over lock q (last_of lock k) page (omega (arith, high 2 lock k (omega arith) le, high 1 lock k (omega arith) more)) (omega (arith, high 2 lock k (omega arith) le))
      ]
    ])

-- page 1, k pages behind it and the lock-byte page have all numbers up to the last, each once
pub each_once : (lock k q : ℕ) → 2 < lock
    → count q (1 ∷ numbers (number_of 2 lock) 0 k) + count q (lock_list lock (last_of lock k)) ≡ one_for (is_page (last_of lock k) q)
each_once lock zero q two =
    let last = last_none lock (omega arith) in
    subst (λ n. count q (1 ∷ []) + count q (lock_list lock n) ≡ one_for (is_page n q)) (sym last)
    (omega (arith, first_page q, ap (count q) (list_none lock 1 (omega arith))))
each_once lock (suc k) q two =
    let before = each_once lock k q two in
    let number = number_of 2 lock in
    let run : count q (numbers number 0 (k + 1)) ≡ count q (numbers number 0 k) + count q (number (0 + k) ∷ []) = count-numbers number q 0 k 1 in
    let here : count q (number (0 + k) ∷ []) ≡ count q (number k ∷ []) = ap (λ i. count q (number i ∷ [])) (let e : 0 + k ≡ k = omega arith in e) in
    let more = step lock q k two in
    let next : k + 1 ≡ suc k = omega arith in
    subst (λ n. count q (1 ∷ numbers number 0 n) + count q (lock_list lock (last_of lock n)) ≡ (if is_page (last_of lock n) q then 1 else 0)) next
    (omega (arith, before, run, here, more))
