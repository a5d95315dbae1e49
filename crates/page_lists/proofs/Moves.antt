-- What a move of a page does to the lists.
use Rattle.std.proofs.Common.{◌≡◌, ℕ, zero, suc, ◌+◌, ◌<◌, ◌≤◌, true, false, ◌||◌, ◌==◌, if◌then◌else◌, List, [], ◌∷◌, ◌++◌, length, map, set, replicate, nat_le, refl, sym, ap, ◌∙◌, inl, inr, arith}
use Rattle.std.proofs.lemmas.Bool.{and_from, and_left, and_right, cases_lt, le-leb, lt-leb, ne_eqb}
use Rattle.std.proofs.lemmas.Bool.Decides.{eqb_tells, nat_tests}
use Rattle.std.proofs.lemmas.List.{length-map, length-set, append-nil}
use Rattle.std.specs.List.{concat, range_with_len}
use Rattle.page_lists.specs.Lists.{is_in, count, without}
use Rattle.page_lists.specs.Table.{Table, IsPartition, is_page, list_at, fresh, owner, moved_in, moved}
use Rattle.page_lists.proofs.Counts.{IsMeasure, counts, count-append, in_head, in_or_not, count_in, in_from_count, not_in_from_count, without_not_in, measure-without, is_in-without-other, is_in-append}

-- a page that no list has is taken out of none
none_out : (p : ℕ) (lists : List (List ℕ)) → count p (concat lists) ≡ 0 → map (without p) lists ≡ lists
none_out p [] h = refl
none_out p (xs ∷ lists) h =
    let sum = count-append p xs (concat lists) in
    let here : without p xs ≡ xs = without_not_in p xs (not_in_from_count p xs (omega arith)) in
    rw here (ap (λ (rest : List (List ℕ)). xs ∷ rest) (none_out p lists (omega arith)))

-- a page that stands once in all lists leaves the list that has it, and no other changes
pub out_of_owner : (p : ℕ) (lists : List (List ℕ)) → count p (concat lists) ≡ 1 → set lists (owner p lists) (without p (list_at (owner p lists) lists)) ≡ map (without p) lists
out_of_owner p [] h = absurd (omega (arith, h))
out_of_owner p (xs ∷ lists) h =
    let sum = count-append p xs (concat lists) in
    elim (in_or_not p xs) [
      | inl w ↦ rw w.0 (ap (λ (rest : List (List ℕ)). without p xs ∷ rest) (sym (none_out p lists (omega (arith, w.1)))))
      | inr w ↦
          let e : without p xs ≡ xs = without_not_in p xs w.0 in
          rw (w.0, e) (ap (λ (rest : List (List ℕ)). xs ∷ rest) (out_of_owner p lists (omega (arith, w.1))))
    ]

-- the list that has a page is one of the lists
pub owner_below : (p : ℕ) (lists : List (List ℕ)) → 1 ≤ count p (concat lists) → owner p lists < length lists
owner_below p [] h = absurd (omega (arith, h))
owner_below p (xs ∷ lists) h =
    let sum = count-append p xs (concat lists) in
    elim (in_or_not p xs) [
      | inl w ↦ rw w.0 (omega arith)
      | inr w ↦ rw w.0 (omega (arith, owner_below p lists (omega (arith, w.1))))
    ]

pub list_at_out : (p l : ℕ) (lists : List (List ℕ)) → list_at l (map (without p) lists) ≡ without p (list_at l lists)
list_at_out p l [] = refl
list_at_out p zero (xs ∷ lists) = refl
list_at_out p (suc l) (xs ∷ lists) = list_at_out p l lists

-- the measure of all lists, once a page was taken out
pub measure_out : (m : List ℕ → ℕ) → IsMeasure m → (p : ℕ) (lists : List (List ℕ)) → count p (concat lists) ≡ 1 → m (concat (map (without p) lists)) + m (p ∷ []) ≡ m (concat lists)
measure_out m is p [] h = absurd (omega (arith, h))
measure_out m is p (xs ∷ lists) h =
    let sum = count-append p xs (concat lists) in
    elim (in_or_not p xs) [
      | inl w ↦
          let rest : map (without p) lists ≡ lists = none_out p lists (omega (arith, w.1)) in
          rw rest (omega (arith, measure-without m is p xs w.0, is.append xs (concat lists), is.append (without p xs) (concat lists)))
      | inr w ↦
          let e : without p xs ≡ xs = without_not_in p xs w.0 in
          rw e (omega (arith, measure_out m is p lists (omega (arith, w.1)), is.append xs (concat lists), is.append xs (concat (map (without p) lists))))
    ]

-- the measure of all lists, once pages were put behind one of them
measure_put : (m : List ℕ → ℕ) → IsMeasure m → (lists : List (List ℕ)) (l : ℕ) (ys : List ℕ) → l < length lists → m (concat (set lists l (list_at l lists ++ ys))) ≡ m (concat lists) + m ys
measure_put m is [] l ys h = absurd (omega (arith, h))
measure_put m is (xs ∷ lists) zero ys h = omega (arith, is.append (xs ++ ys) (concat lists), is.append xs ys, is.append xs (concat lists))
measure_put m is (xs ∷ lists) (suc l) ys h =
    omega (arith, measure_put m is lists l ys (omega (arith, h)), is.append xs (concat (set lists l (list_at l lists ++ ys))), is.append xs (concat lists))

-- a move changes no measure of all lists
pub measure-moved : (m : List ℕ → ℕ) → IsMeasure m → (p l : ℕ) (lists : List (List ℕ)) → count p (concat lists) ≡ 1 → l < length lists → m (concat (moved_in p l lists)) ≡ m (concat lists)
measure-moved m is p l lists one h =
    let below : l < length (map (without p) lists) = rw length-map h in
    let put = measure_put m is (map (without p) lists) l (p ∷ []) below in
    let same : list_at l (map (without p) lists) ≡ without p (list_at l lists) = list_at_out p l lists in
    let put' = rw same at put in
    omega (arith, put', measure_out m is p lists one)

-- a page is in the list that it was moved to
owner_put : (p l : ℕ) (lists : List (List ℕ)) → count p (concat lists) ≡ 0 → l < length lists → owner p (set lists l (list_at l lists ++ p ∷ [])) ≡ l
owner_put p l [] none h = absurd (omega (arith, h))
owner_put p zero (xs ∷ lists) none h =
    let there : is_in p (xs ++ p ∷ []) ≡ true =
    in_from_count p (xs ++ p ∷ []) (omega (arith, count-append p xs (p ∷ []), count_in p (p ∷ []) (in_head p []))) in
    rw there refl
owner_put p (suc l) (xs ∷ lists) none h =
    let sum = count-append p xs (concat lists) in
    let no : is_in p xs ≡ false = not_in_from_count p xs (omega arith) in
    rw no (ap (λ (n : ℕ). suc n) (owner_put p l lists (omega arith) (omega (arith, h))))

-- any other page stays in its list
owner_out_other : (q p : ℕ) (lists : List (List ℕ)) → (p ≡ q → ⊥) → owner q (map (without p) lists) ≡ owner q lists
owner_out_other q p [] apart = refl
owner_out_other q p (xs ∷ lists) apart = rw (is_in-without-other q p xs apart, owner_out_other q p lists apart) refl

owner_put_other : (q p l : ℕ) (lists : List (List ℕ)) → (p ≡ q → ⊥) → owner q (set lists l (list_at l lists ++ p ∷ [])) ≡ owner q lists
owner_put_other q p l [] apart = refl
owner_put_other q p zero (xs ∷ lists) apart = rw (is_in-append q xs (p ∷ []), last_other q p xs apart) refl
  where
    last_other : (q p : ℕ) (xs : List ℕ) → (p ≡ q → ⊥) → (is_in q xs || is_in q (p ∷ [])) ≡ is_in q xs
    last_other q p xs apart = elim (eqb_tells p q) [ inl w ↦ absurd (apart w.1) | inr w ↦ rw w.0 (grind arith) ]
owner_put_other q p (suc l) (xs ∷ lists) apart = rw (owner_put_other q p l lists apart) refl

pub owner-moved : (p l : ℕ) (lists : List (List ℕ)) → count p (concat lists) ≡ 1 → l < length lists → owner p (moved_in p l lists) ≡ l
owner-moved p l lists one h =
    let below : l < length (map (without p) lists) = rw length-map h in
    let gone : count p (concat (map (without p) lists)) ≡ 0 = absent p lists one in
    rw (list_at_out p l lists) at (owner_put p l (map (without p) lists) gone below)
  where
    absent : (p : ℕ) (lists : List (List ℕ)) → count p (concat lists) ≡ 1 → count p (concat (map (without p) lists)) ≡ 0
    absent p lists one = omega (arith, measure_out (count p) (counts p) p lists one, count_in p (p ∷ []) (in_head p []), one)

pub owner-moved-other : (q p l : ℕ) (lists : List (List ℕ)) → (p ≡ q → ⊥) → owner q (moved_in p l lists) ≡ owner q lists
owner-moved-other q p l lists apart =
    (rw (list_at_out p l lists) at (owner_put_other q p l (map (without p) lists) apart)) ∙ owner_out_other q p lists apart

pub length-moved : (p l : ℕ) (lists : List (List ℕ)) → length (moved_in p l lists) ≡ length lists
length-moved p l lists = simp (length-set, length-map)

-- each page of the table stands once in its lists
pub stands_once : (t : Table) (p : ℕ) → IsPartition t → 1 ≤ p → p ≤ t.pages → count p (concat t.lists) ≡ 1
stands_once t p each low high = rw (and_from _ _ (le-leb 1 p low) (le-leb p t.pages high)) at (each p)

pub IsPartition-moved : (t : Table) (p l : ℕ) → IsPartition t → 1 ≤ p → p ≤ t.pages → l < length t.lists → IsPartition (moved p l t)
IsPartition-moved t p l each low high below q = measure-moved (count q) (counts q) p l t.lists (stands_once t p each low high) below ∙ each q

-- a page of a file is one of its numbers
pub page_bounds : (n p : ℕ) → is_page n p ≡ true → (1 ≤ p) × (p ≤ n)
page_bounds n p is = (grind (arith, nat_tests, is), grind (arith, nat_tests, is))

-- how often a number stands in a row of pages
count_row_below : (q a n : ℕ) → q < a → count q (range_with_len a n) ≡ 0
count_row_below q a zero h = refl
count_row_below q a (suc n) h =
    let other : (a == q) ≡ false = ne_eqb a q (λ e. omega (arith, e, h)) in
    rw other (omega (arith, count_row_below q (a + 1) n (omega (arith, h))))

count_row : (q a n : ℕ) → a ≤ q → q < a + n → count q (range_with_len a n) ≡ 1
count_row q a zero low high = absurd (omega (arith, low, high))
count_row q a (suc n) low high =
    elim (eqb_tells a q) [
      | inl w ↦ rw w.0 (omega (arith, count_row_below q (a + 1) n (omega (arith, w.1))))
      | inr w ↦ rw w.0 (omega (arith, count_row q (a + 1) n (omega (arith, low, w.1)) (omega (arith, high))))
    ]

count_row_above : (q a n : ℕ) → a + n ≤ q → count q (range_with_len a n) ≡ 0
count_row_above q a zero h = refl
count_row_above q a (suc n) h =
    let other : (a == q) ≡ false = ne_eqb a q (λ e. omega (arith, e, h)) in
    rw other (omega (arith, count_row_above q (a + 1) n (omega (arith, h))))

-- each page of a file stands once among its numbers
pub count_pages : (n q : ℕ) → count q (range_with_len 1 n) ≡ (if is_page n q then 1 else 0)
count_pages n q =
    elim (cases_lt q 1) [
      | inl below ↦ rw (and_left (nat_le 1 q) (nat_le q n) (lt-leb 1 q below)) (count_row_below q 1 n below)
      | inr low ↦
          elim (cases_lt n q) [
            | inl above ↦ rw (and_right (nat_le 1 q) (nat_le q n) (lt-leb q n above)) (count_row_above q 1 n (omega (arith, above)))
            | inr high ↦ rw (and_from (nat_le 1 q) (nat_le q n) (le-leb 1 q low) (le-leb q n high)) (count_row q 1 n low (omega (arith, high)))
          ]
    ]

no_pages : (more : ℕ) → concat (replicate more []) ≡ []
no_pages zero = refl
no_pages (suc more) = no_pages more

pub fresh_pages : (n more : ℕ) → concat (fresh n more).lists ≡ range_with_len 1 n
fresh_pages n more = rw (no_pages more) (append-nil (range_with_len 1 n))

pub IsPartition-fresh : (n more : ℕ) → IsPartition (fresh n more)
IsPartition-fresh n more q = rw (fresh_pages n more) (count_pages n q)

pub owner-fresh : (q n more : ℕ) → 1 ≤ q → q ≤ n → owner q (fresh n more).lists ≡ 0
owner-fresh q n more low high =
    let there : is_in q (range_with_len 1 n) ≡ true = in_from_count q (range_with_len 1 n) (omega (arith, count_row q 1 n low (omega (arith, high)))) in
    rw there refl
