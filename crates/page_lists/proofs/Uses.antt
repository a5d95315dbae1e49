-- Moves of pages out of list 0, one after another: which pages stay there, and which list has the others.
use Rattle.std.proofs.Common.{◌≡◌, ◌≢◌, ℕ, zero, suc, ◌+◌, ◌<◌, ◌≤◌, Bool, true, false, if◌then◌else◌, ◌==◌, nat_le, List, [], ◌∷◌, ◌++◌, length, map, refl, sym, ap, ◌∙◌, subst, inl, inr, arith}
use Rattle.std.proofs.lemmas.Bool.{cases_Bool, false≢true, and_from, le-leb, ne_eqb}
use Rattle.std.proofs.lemmas.Bool.Decides.{eqb_tells}
use Rattle.std.proofs.lemmas.List.{append_assoc, append-nil, length-map, get_or-set_same, get_or-set_other}
use Rattle.std.specs.List.{concat}
use Rattle.page_lists.specs.Lists.{IsPartOf, is_in, count, without, minus}
use Rattle.page_lists.specs.Table.{Table, IsPartition, Moves, is_page, list_at, unused, owner, moved_in, moved, all_moved}
use Rattle.page_lists.proofs.Counts.{in_or_not, in_part, in_head, count_in, not_in_from_count, without_not_in, count-append, count-minus, part_append, part_none, part_one, part_rest}
use Rattle.page_lists.proofs.Moves.{IsPartition-moved, length-moved, list_at_out, owner-moved-other, page_bounds, stands_once}

-- List 0 loses the page that moves to another list.
pub unused-moved : (p l : ℕ) (t : Table) → 1 ≤ l → unused (moved p l t) ≡ without p (unused t)
unused-moved p l t over =
    let other : 0 ≢ l = λ e. omega (arith, e, over) in
    get_or-set_other (map (without p) t.lists) l 0 (without p (list_at l t.lists) ++ p ∷ []) [] other ∙ list_at_out p 0 t.lists

pub unused-all_moved : (ps : List ℕ) (l : ℕ) (t : Table) → 1 ≤ l → unused (all_moved ps l t) ≡ minus (unused t) ps
unused-all_moved [] l t over = refl
unused-all_moved (p ∷ ps) l t over = unused-all_moved ps l (moved p l t) over ∙ ap (λ (u : List ℕ). minus u ps) (unused-moved p l t over)

pub pages-all_moved : (ps : List ℕ) (l : ℕ) (t : Table) → (all_moved ps l t).pages ≡ t.pages
pages-all_moved [] l t = refl
pages-all_moved (p ∷ ps) l t = pages-all_moved ps l (moved p l t)

pub length-all_moved : (ps : List ℕ) (l : ℕ) (t : Table) → length (all_moved ps l t).lists ≡ length t.lists
length-all_moved [] l t = refl
length-all_moved (p ∷ ps) l t = length-all_moved ps l (moved p l t) ∙ length-moved p l t.lists

pub all_moved-append : (ps qs : List ℕ) (l : ℕ) (t : Table) → all_moved (ps ++ qs) l t ≡ all_moved qs l (all_moved ps l t)
all_moved-append [] qs l t = refl
all_moved-append (p ∷ ps) qs l t = all_moved-append ps qs l (moved p l t)

-- one list has a page no more often than all have it
pub count-list_at : (q l : ℕ) (lists : List (List ℕ)) → count q (list_at l lists) ≤ count q (concat lists)
count-list_at q l [] = omega arith
count-list_at q zero (xs ∷ lists) = omega (arith, count-append q xs (concat lists))
count-list_at q (suc l) (xs ∷ lists) = omega (arith, count-append q xs (concat lists), count-list_at q l lists)

-- nor do list 0 and another together
count_two : (q k : ℕ) (lists : List (List ℕ)) → 1 ≤ k → count q (list_at 0 lists) + count q (list_at k lists) ≤ count q (concat lists)
count_two q k [] over = omega arith
count_two q zero (xs ∷ lists) over = absurd (omega (arith, over))
count_two q (suc k) (xs ∷ lists) over = omega (arith, count-append q xs (concat lists), count-list_at q k lists)

-- what stands in a list of the table is a page of the file
pub page_at_most : (t : Table) (q : ℕ) → IsPartition t → 1 ≤ count q (concat t.lists) → (1 ≤ q) × (q ≤ t.pages)
page_at_most t q each some =
    elim (cases_Bool (is_page t.pages q)) [
      | inl is ↦ page_bounds t.pages q is
      | inr isnt ↦ absurd (omega (arith, some, each q, ap {B = ℕ} (λ (b : Bool). if b then 1 else 0) isnt))
    ]

-- so is what stands in list 0
pub unused_page : (t : Table) (q : ℕ) → IsPartition t → is_in q (unused t) ≡ true → (1 ≤ q) × (q ≤ t.pages)
unused_page t q each there = page_at_most t q each (omega (arith, count_in q (unused t) there, count-list_at q 0 t.lists))

pub unused_not_page : (t : Table) (q : ℕ) → IsPartition t → is_page t.pages q ≡ false → is_in q (unused t) ≡ false
unused_not_page t q each other =
    elim (in_or_not q (unused t)) [
      | inl w ↦ let page = unused_page t q each w.0 in absurd (false≢true (sym other ∙ and_from (nat_le 1 q) (nat_le q t.pages) (le-leb 1 q page.0) (le-leb q t.pages page.1)))
      | inr w ↦ w.0
    ]

-- a page is unused exactly where its list is list 0
pub owner-unused : (t : Table) (q : ℕ) → IsPartition t → 1 ≤ q → q ≤ t.pages → (owner q t.lists == 0) ≡ is_in q (unused t)
owner-unused t q each low high = by_lists q t.lists (omega (arith, stands_once t q each low high))
  where
    by_lists : (q : ℕ) (lists : List (List ℕ)) → 1 ≤ count q (concat lists) → (owner q lists == 0) ≡ is_in q (list_at 0 lists)
    by_lists q [] some = absurd (omega (arith, some))
    by_lists q (xs ∷ lists) some = elim (in_or_not q xs) [ inl w ↦ rw w.0 refl | inr w ↦ rw w.0 (ne_eqb (suc (owner q lists)) 0 (λ e. omega (arith, e))) ]

pub IsPartition-all_moved : (ps : List ℕ) (l : ℕ) (t : Table) → IsPartition t → 1 ≤ l → l < length t.lists → IsPartOf ps (unused t) → IsPartition (all_moved ps l t)
IsPartition-all_moved [] l t each over below part = each
IsPartition-all_moved (p ∷ ps) l t each over below part =
    let page = unused_page t p each (in_part p (p ∷ ps) (unused t) part (in_head p ps)) in
    let below' : l < length (moved_in p l t.lists) = rw length-moved below in
    let rest : IsPartOf ps (unused (moved p l t)) = rw (unused-moved p l t over) (part_rest p ps (unused t) part) in
    IsPartition-all_moved ps l (moved p l t) (IsPartition-moved t p l each page.0 page.1 below) over below' rest

-- an unused page is in no other list
pub unused_nowhere_else : (t : Table) (p k : ℕ) → IsPartition t → is_in p (unused t) ≡ true → 1 ≤ k → is_in p (list_at k t.lists) ≡ false
unused_nowhere_else t p k each there over =
    let page = unused_page t p each there in
    let two = count_two p k t.lists over in
    not_in_from_count p (list_at k t.lists) (omega (arith, two, stands_once t p each page.0 page.1, count_in p (unused t) there))

-- the list that they go to gains them at its end, in order
pub list_at-all_moved : (ps : List ℕ) (l : ℕ) (t : Table) → IsPartition t → 1 ≤ l → l < length t.lists → IsPartOf ps (unused t) → list_at l (all_moved ps l t).lists ≡ list_at l t.lists ++ ps
list_at-all_moved [] l t each over below part = sym (append-nil (list_at l t.lists))
list_at-all_moved (p ∷ ps) l t each over below part =
    let there = in_part p (p ∷ ps) (unused t) part (in_head p ps) in
    let page = unused_page t p each there in
    let below' : l < length (moved_in p l t.lists) = rw length-moved below in
    let inside : l < length (map (without p) t.lists) = rw length-map below in
    let rest : IsPartOf ps (unused (moved p l t)) = rw (unused-moved p l t over) (part_rest p ps (unused t) part) in
    let one : list_at l (moved_in p l t.lists) ≡ list_at l t.lists ++ p ∷ [] =
    get_or-set_same (map (without p) t.lists) l (without p (list_at l t.lists) ++ p ∷ []) [] inside
    ∙ ap (λ (xs : List ℕ). xs ++ p ∷ []) (without_not_in p (list_at l t.lists) (unused_nowhere_else t p l each there over)) in
    list_at-all_moved ps l (moved p l t) (IsPartition-moved t p l each page.0 page.1 below) over below' rest
    ∙ (ap (λ (xs : List ℕ). xs ++ ps) one ∙ append_assoc (list_at l t.lists) (p ∷ []) ps)

-- all other lists but list 0 stay
pub list_at-all_moved-other : (ps : List ℕ) (l k : ℕ) (t : Table) → IsPartition t → 1 ≤ l → l < length t.lists → IsPartOf ps (unused t) → 1 ≤ k → k ≢ l
    → list_at k (all_moved ps l t).lists ≡ list_at k t.lists
list_at-all_moved-other [] l k t each over below part k_over apart = refl
list_at-all_moved-other (p ∷ ps) l k t each over below part k_over apart =
    let there = in_part p (p ∷ ps) (unused t) part (in_head p ps) in
    let page = unused_page t p each there in
    let below' : l < length (moved_in p l t.lists) = rw length-moved below in
    let rest : IsPartOf ps (unused (moved p l t)) = rw (unused-moved p l t over) (part_rest p ps (unused t) part) in
    let one : list_at k (moved_in p l t.lists) ≡ list_at k t.lists =
    get_or-set_other (map (without p) t.lists) l k (without p (list_at l t.lists) ++ p ∷ []) [] apart
    ∙ (list_at_out p k t.lists ∙ without_not_in p (list_at k t.lists) (unused_nowhere_else t p k each there k_over)) in
    list_at-all_moved-other ps l k (moved p l t) (IsPartition-moved t p l each page.0 page.1 below) over below' rest k_over apart ∙ one

-- a page that does not move keeps its list
pub owner-all_moved-other : (q : ℕ) (ps : List ℕ) (l : ℕ) (t : Table) → is_in q ps ≡ false → owner q (all_moved ps l t).lists ≡ owner q t.lists
owner-all_moved-other q [] l t out = refl
owner-all_moved-other q (p ∷ ps) l t out =
    elim (eqb_tells p q) [
      | inl w ↦ let yes : (p == q) ≡ true = w.0 in absurd (false≢true (sym (rw yes at out)))
      | inr w ↦ owner-all_moved-other q ps l (moved p l t) (rw w.0 at out) ∙ owner-moved-other q p l t.lists w.1
    ]

pub Moves-none : (l : ℕ) (t : Table) → Moves l t t
Moves-none l t = record { taken = []; were_unused = part_none (unused t); all = refl; same_pages = refl; same_lists = refl }

pub Moves-one : (l : ℕ) (t : Table) (p : ℕ) → is_in p (unused t) ≡ true → Moves l t (moved p l t)
Moves-one l t p there = record { taken = p ∷ []; were_unused = part_one p (unused t) there; all = refl; same_pages = refl; same_lists = length-moved p l t.lists }

-- moves after moves are moves
pub Moves-append : (l : ℕ) (a b c : Table) → 1 ≤ l → Moves l a b → Moves l b c → Moves l a c
Moves-append l a b c over first more =
    let left : unused b ≡ minus (unused a) first.taken = rw first.all (unused-all_moved first.taken l a over) in
    let part : IsPartOf more.taken (minus (unused a) first.taken) = subst (λ (u : List ℕ). IsPartOf more.taken u) left more.were_unused in
    record {
      taken = first.taken ++ more.taken;
      were_unused = part_append (unused a) first.taken more.taken first.were_unused part;
      all = more.all ∙ (ap (λ (t : Table). all_moved more.taken l t) first.all ∙ sym (all_moved-append first.taken more.taken l a));
      same_pages = more.same_pages ∙ first.same_pages;
      same_lists = more.same_lists ∙ first.same_lists;
    }

pub Moves-partition : (l : ℕ) (a b : Table) → 1 ≤ l → l < length a.lists → Moves l a b → IsPartition a → IsPartition b
Moves-partition l a b over below moves each =
    subst IsPartition (sym moves.all) (IsPartition-all_moved moves.taken l a each over below moves.were_unused)

-- moves of these pages
pub Moves-all : (ps : List ℕ) (l : ℕ) (t : Table) → IsPartOf ps (unused t) → Moves l t (all_moved ps l t)
Moves-all ps l t part = record { taken = ps; were_unused = part; all = refl; same_pages = pages-all_moved ps l t; same_lists = length-all_moved ps l t }

-- moves make no page unused
pub Moves-unused : (l : ℕ) (a b : Table) → 1 ≤ l → Moves l a b → IsPartOf (unused b) (unused a)
Moves-unused l a b over moves q =
    let left : unused b ≡ minus (unused a) moves.taken = ap unused moves.all ∙ unused-all_moved moves.taken l a over in
    rw left (omega (arith, count-minus q (unused a) moves.taken moves.were_unused))
