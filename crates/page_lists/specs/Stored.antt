-- The table that stored links spell, and what holds of them (docs/ARCHITECTURE.md, "Page lists").
use Rattle.std.specs.Prelude.{◌≡◌, ℕ, ◌+◌, ◌-◌, ◌^◌, ◌<◌, ◌≤◌, List, [], ◌∷◌, ◌⊎◌, length, map}
use Rattle.std.specs.List.{concat}
use Rattle.page_lists.specs.Table.{Table, IsPartition, list_at, owner}
use Rattle.page_lists.specs.Rings.{State, after_in, before_in, ends_at, link_at, spelled}
use Rattle.page_lists.specs.declared.PageTable.TheInside.{Inside}

-- the table that the fields hold
abbrev pub table_of : Inside → Table
table_of s = record { pages = s.pages; lists = map (spelled s.rings) s.rings.ends }

-- b comes right after a in the list that begins after x and ends before 0
abbrev pub Step : ℕ → ℕ → ℕ → List ℕ → Type 0
Step a b x [] = (a ≡ x) × (b ≡ 0)
Step a b x (y ∷ ys) = ((a ≡ x) × (b ≡ y)) ⊎ Step a b y ys

-- the links of list l lead along these pages, to and fro
abbrev pub IsLinked : State → ℕ → List ℕ → Type 0
IsLinked r l xs = (a b : ℕ) → Step a b 0 xs → (after_in r (ends_at r l) a ≡ b) × (before_in r (ends_at r l) b ≡ a)

-- the links spell the table, whose lists hold each page once
pub record Spells (r : State) (t : Table) : Type 0 where
  pub each : IsPartition t
  pub total : length (concat t.lists) ≡ t.pages
  pub small : t.pages < 2 ^ 32 - 1
  pub size : length r.links ≡ t.pages + 1
  pub same : length r.ends ≡ length t.lists
  pub linked : (l : ℕ) → IsLinked r l (list_at l t.lists)
  pub lens : (l : ℕ) → length (list_at l t.lists) ≡ (ends_at r l).len
  pub owners : (q : ℕ) → 1 ≤ q → q ≤ t.pages → (link_at r q).list ≡ owner q t.lists

-- what holds of the fields
abbrev pub IsSound : Inside → Type 0
IsSound s = Spells s.rings (table_of s)
