-- Lists of page numbers, and how often a page stands in one (docs/ARCHITECTURE.md, "Page lists").
use Rattle.std.specs.Prelude.{ℕ, ◌+◌, ◌≤◌, ◌==◌, Bool, false, ◌||◌, if◌then◌else◌, List, [], ◌∷◌, Option, None, slice_get}

-- whether page q stands in the list
abbrev pub is_in : ℕ → List ℕ → Bool
is_in q [] = false
is_in q (p ∷ ps) = (p == q) || is_in q ps

-- how often page q stands in the list
abbrev pub count : ℕ → List ℕ → ℕ
count q [] = 0
count q (p ∷ ps) = (if p == q then 1 else 0) + count q ps

-- each page stands in `all` as often as in ps, or more often
abbrev pub IsPartOf : List ℕ → List ℕ → Type 0
IsPartOf ps all = (q : ℕ) → count q ps ≤ count q all

-- the list without the first q in it
abbrev pub without : ℕ → List ℕ → List ℕ
without q [] = []
without q (p ∷ ps) = if p == q then ps else p ∷ without q ps

-- the page that comes right after the first q, if any
abbrev pub after : ℕ → List ℕ → Option ℕ
after q [] = None
after q (p ∷ ps) = if p == q then slice_get ps 0 else after q ps

-- the pages of qs that stand in `unused`, each only once: where it comes first
abbrev pub firsts : List ℕ → List ℕ → List ℕ
firsts unused [] = []
firsts unused (q ∷ qs) = if is_in q unused then q ∷ firsts (without q unused) qs else firsts unused qs

-- `unused` without the pages of qs
abbrev pub minus : List ℕ → List ℕ → List ℕ
minus unused [] = unused
minus unused (q ∷ qs) = minus (without q unused) qs
