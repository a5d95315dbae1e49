-- A table of page lists, which hold each page once (docs/ARCHITECTURE.md, "Page lists").
use Rattle.std.specs.Prelude.{◌≡◌, ℕ, suc, nat_le, Bool, ◌&&◌, if◌then◌else◌, List, [], ◌∷◌, ◌++◌, length, map, slice_set, slice_index_or, replicate, take}
use Rattle.std.specs.List.{concat, range_with_len}
use Rattle.page_lists.specs.Lists.{IsPartOf, is_in, count, without}

-- the pages 1 to `pages` of a file, spread over numbered lists
pub record Table : Type 0 where
  pub pages : ℕ
  pub lists : List (List ℕ)

-- whether q is one of the pages 1 to n
abbrev pub is_page : ℕ → ℕ → Bool
is_page n q = nat_le 1 q && nat_le q n

-- the lists together hold each page exactly once, and nothing else
abbrev pub IsPartition : Table → Type 0
IsPartition t = (q : ℕ) → count q (concat t.lists) ≡ (if is_page t.pages q then 1 else 0)

-- list number l
abbrev pub list_at : ℕ → List (List ℕ) → List ℕ
list_at l lists = slice_index_or lists l []

-- the pages without a use: those of list 0
abbrev pub unused : Table → List ℕ
unused t = list_at 0 t.lists

-- the number of the first list that has page p
abbrev pub owner : ℕ → List (List ℕ) → ℕ
owner p [] = 0
owner p (xs ∷ lists) = if is_in p xs then 0 else suc (owner p lists)

-- all pages stand in list 0, rising, and `more` lists are empty
abbrev pub fresh : ℕ → ℕ → Table
fresh pages more = record { pages = pages; lists = range_with_len 1 pages ∷ replicate more [] }

-- the lists after page p left its list and became the last of list l
abbrev pub moved_in : ℕ → ℕ → List (List ℕ) → List (List ℕ)
moved_in p l lists = slice_set (map (without p) lists) l (without p (list_at l lists) ++ p ∷ [])

-- the table after page p left its list and became the last of list l
abbrev pub moved : ℕ → ℕ → Table → Table
moved p l t = record { pages = t.pages; lists = moved_in p l t.lists }

-- the table after these pages, one after another, became the last of list l
abbrev pub all_moved : List ℕ → ℕ → Table → Table
all_moved [] l t = t
all_moved (p ∷ ps) l t = all_moved ps l (moved p l t)

-- `new` is `old` after some unused pages, each once, became the last of list l
pub record Moves (l : ℕ) (old new : Table) : Type 0 where
  pub taken : List ℕ
  pub were_unused : IsPartOf taken (unused old)
  pub all : new ≡ all_moved taken l old
  pub same_pages : new.pages ≡ old.pages
  pub same_lists : length new.lists ≡ length old.lists

-- `new` is `old` after the first of these pages, however many, one after another became the last of list l
abbrev pub MovesFront : List ℕ → ℕ → Table → Table → Type 0
MovesFront pages l old new = (n : ℕ) × (new ≡ all_moved (take n pages) l old)
