-- How the lists of a page table are stored (docs/ARCHITECTURE.md, "Page lists"): each is a ring of links by page number,
-- in which 0 stands for both its ends.
use Rattle.std.specs.Prelude.{ℕ, zero, suc, ◌+◌, ◌-◌, ◌==◌, if◌then◌else◌, nat_le, Option, Some, None, List, [], ◌∷◌, slice_set, slice_index_or, replicate}
use Rattle.page_lists.specs.declared.rings.Link.{Link}
use Rattle.page_lists.specs.declared.rings.Ends.{Ends}

-- the link of each page, and the ends of each list
pub record State : Type 0 where
  pub links : List Link
  pub ends : List Ends

abbrev pub no_link : Link
no_link = record { list = 0; before = 0; after = 0 }

abbrev pub no_ends : Ends
no_ends = record { first = 0; last = 0; len = 0 }

-- the link of page p
abbrev pub link_at : State → ℕ → Link
link_at r p = slice_index_or r.links p no_link

-- the ends of list l
abbrev pub ends_at : State → ℕ → Ends
ends_at r l = slice_index_or r.ends l no_ends

-- the page after page a in a list with these ends; after 0 comes its first
abbrev pub after_in : State → Ends → ℕ → ℕ
after_in r e a = if a == 0 then e.first else (link_at r a).after

-- the page before page b in a list with these ends; before 0 comes its last
abbrev pub before_in : State → Ends → ℕ → ℕ
before_in r e b = if b == 0 then e.last else (link_at r b).before

-- so many pages from page p on
abbrev pub follow : (ℕ → ℕ) → ℕ → ℕ → List ℕ
follow next zero p = []
follow next (suc n) p = p ∷ follow next n (next p)

-- the list with these ends
abbrev pub spelled : State → Ends → List ℕ
spelled r e = follow (after_in r e) e.len e.first

abbrev pub with_link : ℕ → Link → State → State
with_link p link r = record r { links = slice_set r.links p link }

abbrev pub with_ends : ℕ → Ends → State → State
with_ends l e r = record r { ends = slice_set r.ends l e }

-- b comes after a in list l
abbrev pub with_after : ℕ → ℕ → ℕ → State → State
with_after l a b r =
    if a == 0 then with_ends l (record (ends_at r l) { first = b }) r else with_link a (record (link_at r a) { after = b }) r

-- a comes before b in list l
abbrev pub with_before : ℕ → ℕ → ℕ → State → State
with_before l b a r =
    if b == 0 then with_ends l (record (ends_at r l) { last = a }) r else with_link b (record (link_at r b) { before = a }) r

-- both
abbrev pub joined : ℕ → ℕ → ℕ → State → State
joined l a b r = with_before l b a (with_after l a b r)

-- list l has a page less, or one more
abbrev pub shorter : ℕ → State → State
shorter l r = with_ends l (record (ends_at r l) { len = (ends_at r l).len - 1 }) r

abbrev pub longer : ℕ → State → State
longer l r = with_ends l (record (ends_at r l) { len = (ends_at r l).len + 1 }) r

-- the list of page p is l
abbrev pub with_list : ℕ → ℕ → State → State
with_list p l r = with_link p (record (link_at r p) { list = l }) r

-- page p is taken out of its list l
abbrev pub taken_out : ℕ → ℕ → State → State
taken_out p l r = joined l (link_at r p).before (link_at r p).after (shorter l r)

-- page p is made the last of list l
abbrev pub put_in_last : ℕ → ℕ → State → State
put_in_last p l r = joined l p 0 (joined l (ends_at r l).last p (with_list p l (longer l r)))

-- the link of page p where the pages 1 to n stand in one list, rising
abbrev pub link_in_row : ℕ → ℕ → Link
link_in_row n p = record { list = 0; before = p - 1; after = if nat_le n p then 0 else p + 1 }

-- the ends of that list, and of `more` empty ones
abbrev pub ends_of_row : ℕ → ℕ → List Ends
ends_of_row n more = record { first = if nat_le n 0 then 0 else 1; last = n; len = n } ∷ replicate more no_ends

-- the page with this number, where it is not 0
abbrev pub some_page : ℕ → Option ℕ
some_page p = if p == 0 then None else Some p
