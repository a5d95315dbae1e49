-- What a walk gives, in words of children (docs/FORMAT.md, "Trees"; docs/ARCHITECTURE.md, "Order of use").
use Rattle.std.specs.Prelude.{◌≡◌, ◌≤◌, ◌↔◌, ℕ, ℤ, pos, true, Some, List, []}
use Rattle.page_access.specs.Pages.{File}
use Rattle.page_lists.specs.Lists.{count, is_in}
use Rattle.page_lists.specs.Table.{is_page}
use Rattle.cell_reader.specs.declared.shapes.Kind.{Kind}
use Rattle.page_walk.specs.Evidence.{AreOnce}
use Rattle.page_walk.specs.Walk.{IsChild, children, kind_on, walk}

-- the pages that a page reaches: itself, and each unused child of a page that it reaches
pub data Reach (f : File) (unused : List ℕ) (root : ℕ) : ℕ → Type 0 where
  start : Reach f unused root root
  child : (p q : ℕ) → Reach f unused root p → IsChild f p q → is_in q unused ≡ true → Reach f unused root q

-- a number may be the root of a tree: it is that of an unused page of the file, and of the wanted kind
pub record IsRoot (f : File) (unused : List ℕ) (kind : Kind) (r : ℕ) : Type 0 where
  pub of_file : is_page f.pages r ≡ true
  pub free : is_in r unused ≡ true
  pub kind_is : kind_on f r ≡ Some kind

-- the pages are those that r reaches, each once
pub record AreReached (f : File) (unused : List ℕ) (r : ℕ) (pages : List ℕ) : Type 0 where
  pub within : (q : ℕ) → is_in q pages ≡ true → Reach f unused r q
  pub all : (q : ℕ) → Reach f unused r q → is_in q pages ≡ true
  pub once : (q : ℕ) → count q pages ≤ 1

-- the pages of a tree: those that its root reaches, or none where there is no such root
pub record IsTree (f : File) (unused : List ℕ) (root : ℤ) (kind : Kind) (pages : List ℕ) : Type 0 where
  pub reached : (r : ℕ) → root ≡ pos r → IsRoot f unused kind r → AreReached f unused r pages
  pub none : ((r : ℕ) → root ≡ pos r → IsRoot f unused kind r → ⊥) → pages ≡ []

-- a walk gives the pages of the tree, whatever the pages name
abbrev pub WalkIsTree : Type 0
WalkIsTree = (f : File) (unused : List ℕ) (root : ℤ) (kind : Kind) → AreOnce f.pages unused →
    IsTree f unused root kind (walk f unused root kind)

-- the children as a list and as a relation are the same
abbrev pub ChildrenAreNamed : Type 0
ChildrenAreNamed = (f : File) (p q : ℕ) → (is_in q (children f p) ≡ true) ↔ IsChild f p q
