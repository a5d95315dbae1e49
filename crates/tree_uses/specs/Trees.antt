-- Trees that are walked one after another, and the turns of the cells on their pages (docs/ARCHITECTURE.md, "Order of
-- use").
use Rattle.std.specs.Prelude.{◌≡◌, ℕ, ℤ, Option, Some, None, List, [], ◌∷◌, map, take, drop, length}
use Rattle.std.specs.List.{flat_map}
use Rattle.page_access.specs.Pages.{File}
use Rattle.cell_reader.specs.declared.shapes.Kind.{Kind}
use Rattle.page_walk.specs.Bounds.{ArePages}
use Rattle.page_walk.specs.Cells.{Outcome}
use Rattle.page_walk.specs.InTurn.{in_turn, pages_of_turn, turn_of}
use Rattle.page_walk.specs.Turns.{turns_on}
use Rattle.page_walk.specs.Walk.{walk}
use Rattle.tree_uses.specs.declared.reads.TreeTurns.{TreeTurns}
use Rattle.tree_uses.specs.declared.walks.TreeUse.{TreeUse}
use Rattle.tree_uses.specs.declared.walks.WantedTree.{WantedTree}

-- a tree: the row of the schema whose it is, counted from 0, the list of its pages, and these, level by level
pub record Tree : Type 0 where
  pub row : ℕ
  pub list : ℕ
  pub pages : List ℕ

-- the same in the program's terms
abbrev pub tree_of : TreeUse → Tree
tree_of t = record { row = t.row; list = t.list; pages = t.pages.items }

-- the pages of a tree with this root, where there is one
abbrev pub walk_for : File → List ℕ → ℤ → Option Kind → List ℕ
walk_for f unused root None = []
walk_for f unused root (Some kind) = walk f unused root kind

-- a wanted tree, where these pages are unused
abbrev pub tree_for : File → ℕ → WantedTree → List ℕ → Tree
tree_for f list w unused = record { row = w.row; list = list; pages = walk_for f unused w.root w.kind }

abbrev pub pages_of : Tree → List ℕ
pages_of t = t.pages

-- the row of the schema whose tree it is or shall be
abbrev pub tree_row : Tree → ℕ
tree_row t = t.row

abbrev pub wanted_row : WantedTree → ℕ
wanted_row w = w.row

-- the wanted trees, each over the pages that those before left unused
abbrev pub walks : File → ℕ → List WantedTree → List ℕ → List Tree
walks f list wanted unused = in_turn (tree_for f list) pages_of wanted unused

-- the pages of trees, tree after tree
abbrev pub pages_in : List Tree → List ℕ
pages_in trees = flat_map pages_of trees

-- a tree of pages of the file
abbrev pub IsTreeOf : ℕ → Tree → Type 0
IsTreeOf pages t = ArePages pages t.pages

-- what becomes of the cells of a tree's pages
abbrev pub turns_of : TreeTurns → List (ℕ × List Outcome)
turns_of t = map turn_of t.turns.items

-- the pages that the chains of these cells took
abbrev pub chains_in : List (ℕ × List Outcome) → List ℕ
chains_in turns = flat_map pages_of_turn turns

-- the cells of a tree's pages at their turns
abbrev pub turns_for : File → Tree → List ℕ → List (ℕ × List Outcome)
turns_for f t unused = turns_on f t.pages unused

-- the same of trees, each over the pages that those before left unused
abbrev pub turns_in : File → List Tree → List ℕ → List (List (ℕ × List Outcome))
turns_in f trees unused = in_turn (turns_for f) chains_in trees unused

-- there is a turn for each page of each tree
abbrev pub HaveTurns : List Tree → List (List (ℕ × List Outcome)) → Type 0
HaveTurns trees turns = map (λ (ts : List (ℕ × List Outcome)). length ts) turns ≡ map (λ (t : Tree). length t.pages) trees

-- turns over the pages of trees, tree after tree, tree by tree
abbrev pub split_turns : {X : Type 0} → List Tree → List X → List (List X)
split_turns [] turns = []
split_turns (t ∷ trees) turns = take (length t.pages) turns ∷ split_turns trees (drop (length t.pages) turns)
