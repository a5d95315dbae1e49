-- The end of a list of pages, read along the pages that come after each other.
use Rattle.std.proofs.Common.{◌≡◌, ◌≤◌, ◌<◌, ℕ, zero, suc, ◌+◌, ◌-◌, ◌==◌, Option, Some, None, List, [], ◌∷◌, ◌++◌, length, take, drop, slice_get, get_or, Bool, true, false, refl, sym, ◌∙◌, ap, subst, arith, inl, inr, length-append}
use Rattle.std.specs.Prelude.{if◌then◌else◌}
use Rattle.std.specs.List.{concat}
use Rattle.std.proofs.lemmas.Bool.{eq-eqb}
use Rattle.std.proofs.lemmas.Bool.Decides.{eqb_tells}
use Rattle.std.proofs.lemmas.List.{take_all, take_more}
use Rattle.std.proofs.lemmas.Option.{slice_get_within, get_or_from_slice_get, slice_get_cases}
use Rattle.page_lists.specs.Lists.{after, count}
use Rattle.page_lists.specs.Table.{Table, IsPartition, is_page, list_at, owner}
use Rattle.page_lists.proofs.Counts.{count-append}
use Rattle.page_lists.proofs.Moves.{stands_once}
use Rattle.page_lists.proofs.Spelled.{only_owner, owner_has}
use Rattle.page_lists.proofs.Uses.{count-list_at, page_at_most}
use Rattle.page_walk.specs.Taking.{tail}

-- no page stands twice in a table
pub at_most_once : (t : Table) (q : ℕ) → IsPartition t → count q (concat t.lists) ≤ 1
at_most_once t q each = at (is_page t.pages q) (each q)
  where
    at : (b : Bool) → count q (concat t.lists) ≡ (if b then 1 else 0) → count q (concat t.lists) ≤ 1
    at true e = omega (arith, e)
    at false e = omega (arith, e)

-- what stands at a place stands in the list
count_get : (xs : List ℕ) (i p : ℕ) → slice_get xs i ≡ Some p → 1 ≤ count p xs
count_get [] i p e = absurd cc
count_get (x ∷ xs) zero p e = let same : (x == p) ≡ true = eq-eqb x p cc in rw same (omega arith)
count_get (x ∷ xs) (suc i) p e = omega (arith, count_get xs i p e)

get_drop : (xs : List ℕ) (i k : ℕ) → slice_get (drop i xs) k ≡ slice_get xs (i + k)
get_drop xs zero k = let e : k ≡ 0 + k = omega arith in ap (slice_get xs) e
get_drop [] (suc i) k = refl
get_drop (x ∷ xs) (suc i) k = let e : suc (i + k) ≡ suc i + k = omega arith in get_drop xs i k ∙ ap (slice_get (x ∷ xs)) e

pub get_append : (xs ys : List ℕ) (i p : ℕ) → slice_get xs i ≡ Some p → slice_get (xs ++ ys) i ≡ Some p
get_append [] ys i p e = absurd cc
get_append (x ∷ xs) ys zero p e = e
get_append (x ∷ xs) ys (suc i) p e = get_append xs ys i p e

pub get_none : (xs : List ℕ) (i : ℕ) → slice_get xs i ≡ None → length xs ≤ i
get_none xs i e = elim ((slice_get_cases xs i).1) [ inl w ↦ absurd cc | inr w ↦ w.0 ]

-- a place with a page is one of the list
pub get_some : (xs : List ℕ) (i p : ℕ) → slice_get xs i ≡ Some p → (i < length xs) × (p ≡ get_or xs i p)
get_some xs i p e = (slice_get_within xs i p e, sym (get_or_from_slice_get xs i p p e))

-- a page that stands once begins the end of the list from its place on
tail_at : (xs : List ℕ) (i p : ℕ) → slice_get xs i ≡ Some p → count p xs ≤ 1 → tail p xs ≡ drop i xs
tail_at [] i p e few = absurd cc
tail_at (x ∷ xs) zero p e few = let same : (x == p) ≡ true = eq-eqb x p cc in rw same refl
tail_at (x ∷ xs) (suc i) p e few =
    elim (eqb_tells x p) [
      | inl w ↦ absurd (omega (arith, rw w.0 at few, count_get xs i p e))
      | inr w ↦ rw w.0 (tail_at xs i p e (omega (arith, few)))
    ]

-- the same behind other pages
pub tail_behind : (front xs : List ℕ) (i p : ℕ) → slice_get xs i ≡ Some p → count p (front ++ xs) ≤ 1 → tail p (front ++ xs) ≡ drop i xs
tail_behind [] xs i p e few = tail_at xs i p e few
tail_behind (y ∷ front) xs i p e few =
    elim (eqb_tells y p) [
      | inl w ↦ absurd (omega (arith, rw w.0 at few, count-append p front xs, count_get xs i p e))
      | inr w ↦ rw w.0 (tail_behind front xs i p e (omega (arith, few)))
    ]

-- the page after one is the second of the end that it begins
after_is : (p : ℕ) (xs : List ℕ) → after p xs ≡ slice_get (tail p xs) 1
after_is p [] = refl
after_is p (x ∷ xs) =
    elim (x == p) as (λ b. (if b then slice_get xs 0 else after p xs) ≡ slice_get (if b then x ∷ xs else tail p xs) 1) [
      | true ↦ refl
      | false ↦ after_is p xs
    ]

pub after_behind : (front xs : List ℕ) (i p : ℕ) → slice_get xs i ≡ Some p → count p (front ++ xs) ≤ 1
    → after p (front ++ xs) ≡ slice_get xs (i + 1)
after_behind front xs i p e few =
    after_is p (front ++ xs) ∙ ap (λ (ys : List ℕ). slice_get ys 1) (tail_behind front xs i p e few) ∙ get_drop xs i 1

-- a page of a list begins an end of it
tail_head : (q : ℕ) (xs : List ℕ) → 1 ≤ count q xs → slice_get (tail q xs) 0 ≡ Some q
tail_head q [] some = absurd (omega (arith, some))
tail_head q (x ∷ xs) some =
    elim (eqb_tells x q) [ inl w ↦ rw w.0 (ap (λ (p : ℕ). Some p) w.1) | inr w ↦ rw w.0 (tail_head q xs (omega (arith, rw w.0 at some))) ]

-- a list is what stands before a page, and its end from that page on
tail_part : (q : ℕ) (xs : List ℕ) → (front : List ℕ) × (front ++ tail q xs ≡ xs)
tail_part q [] = ([], refl)
tail_part q (x ∷ xs) =
    elim (x == q) as (λ b. (front : List ℕ) × (front ++ (if b then x ∷ xs else tail q xs) ≡ x ∷ xs)) [
      | true ↦ ([], refl)
      | false ↦ let rest = tail_part q xs in (x ∷ rest.0, ap (λ (ys : List ℕ). x ∷ ys) rest.1)
    ]

-- the list of a page
abbrev pub list_with : ℕ → Table → List ℕ
list_with q t = list_at (owner q t.lists) t.lists

-- a page of list l behind others: its list is l, and the next of it stands behind it there
pub record Stands (t : Table) (l p : ℕ) (xs : List ℕ) (i : ℕ) : Type 0 where
  pub least : 1 ≤ p
  pub most : p ≤ t.pages
  pub list_is : owner p t.lists ≡ l
  pub next : after p (list_with p t) ≡ slice_get xs (i + 1)
  pub rest : tail p (list_with p t) ≡ drop i xs

pub stands : (t : Table) (l p : ℕ) (front xs : List ℕ) (i : ℕ) → IsPartition t → list_at l t.lists ≡ front ++ xs
    → slice_get xs i ≡ Some p → Stands t l p xs i
stands t l p front xs i each is e =
    let here : 1 ≤ count p (list_at l t.lists) = omega (arith, ap (count p) is, count-append p front xs, count_get xs i p e) in
    let once : count p (concat t.lists) ≤ 1 = at_most_once t p each in
    let few : count p (front ++ xs) ≤ 1 = omega (arith, ap (count p) is, count-list_at p l t.lists, once) in
    let page = page_at_most t p each (omega (arith, here, count-list_at p l t.lists)) in
    let owned : l ≡ owner p t.lists = only_owner p l t.lists once here in
    let seen : list_with p t ≡ front ++ xs = ap (λ (k : ℕ). list_at k t.lists) (sym owned) ∙ is in
    record {
      least = page.0;
      most = page.1;
      list_is = sym owned;
      next = ap (after p) seen ∙ after_behind front xs i p e few;
      rest = ap (tail p) seen ∙ tail_behind front xs i p e few;
    }

-- pages of the end of a list are read, and this one is next
pub record Reading (t : Table) (first : ℕ) (pages : List ℕ) (here : Option ℕ) : Type 0 where
  pub so_far : pages ≡ take (length pages) (tail first (list_with first t))
  pub here_is : here ≡ slice_get (tail first (list_with first t)) (length pages)

-- before the first is read
pub reading_start : (t : Table) (first : ℕ) (none : List ℕ) → IsPartition t → 1 ≤ first → first ≤ t.pages → none ≡ []
    → Reading t first none (Some first)
reading_start t first none each least most empty =
    let some : 1 ≤ count first (concat t.lists) = omega (arith, stands_once t first each least most) in
    subst (λ (ns : List ℕ). Reading t first ns (Some first)) (sym empty)
    (record { so_far = refl; here_is = sym (tail_head first (list_with first t) (owner_has first t.lists some)) })

-- the page that is next stands in its list
pub reading_stands : (t : Table) (first p : ℕ) (pages : List ℕ) (here : Option ℕ) → IsPartition t → Reading t first pages here → here ≡ Some p
    → Stands t (owner first t.lists) p (tail first (list_with first t)) (length pages)
reading_stands t first p pages here each was is =
    let parts = tail_part first (list_with first t) in
    stands t (owner first t.lists) p parts.0 (tail first (list_with first t)) (length pages) each (sym parts.1) (sym was.here_is ∙ is)

pub reading_more : (t : Table) (first p : ℕ) (pages more : List ℕ) (here next : Option ℕ) → IsPartition t → Reading t first pages here → here ≡ Some p
    → more ≡ pages ++ p ∷ [] → next ≡ after p (list_with p t) → Reading t first more next
reading_more t first p pages more here next each was is pushed after_it =
    let all : List ℕ = tail first (list_with first t) in
    let n : ℕ = length pages in
    let has = get_some all n p (sym was.here_is ∙ is) in
    let one : n + 1 ≡ length more = omega (arith, ap length pushed, length-append pages (p ∷ [])) in
    record {
      so_far = pushed
          ∙ ap (λ (xs : List ℕ). xs ++ p ∷ []) was.so_far
          ∙ ap (λ (q : ℕ). take n all ++ q ∷ []) has.1
          ∙ sym (take_more all n p has.0)
          ∙ ap (λ (k : ℕ). take k all) one;
      here_is = after_it ∙ (reading_stands t first p pages here each was is).next ∙ ap (slice_get all) one;
    }

-- fewer are left to read
pub reading_less : (t : Table) (first p : ℕ) (pages more : List ℕ) (here : Option ℕ) → Reading t first pages here → here ≡ Some p
    → more ≡ pages ++ p ∷ [] → length (tail first (list_with first t)) - length more < length (tail first (list_with first t)) - length pages
reading_less t first p pages more here was is pushed =
    omega (arith, (get_some (tail first (list_with first t)) (length pages) p (sym was.here_is ∙ is)).0, ap length pushed, length-append pages (p ∷ []))

-- all are read
pub reading_end : (t : Table) (first : ℕ) (pages : List ℕ) (here : Option ℕ) → Reading t first pages here → here ≡ None
    → pages ≡ tail first (list_with first t)
reading_end t first pages here was is =
    was.so_far ∙ take_all (length pages) (tail first (list_with first t))
    (get_none (tail first (list_with first t)) (length pages) (sym was.here_is ∙ is))
