-- The pages of a tree row by row, and the cells and the overflow pages that they hold (docs/FORMAT.md,
-- "Trees"; docs/ARCHITECTURE.md, "Order of use").
use Rattle.std.specs.Prelude.{ℕ, zero, suc, ◌==◌, if◌then◌else◌, List, [], ◌∷◌, ◌++◌}
use Rattle.std.specs.List.{flat_map}
use Rattle.page_access.specs.Pages.{File}
use Rattle.page_walk.specs.Walk.{children}
use Rattle.tree_forms.specs.Node.{Held, cells_in, node_of}
use Rattle.tree_forms.specs.Payload.{chain_of}
use Rattle.tree_forms.specs.Tree.{bare}

-- a row of pages, and then the d rows below it
abbrev pub rows : (ℕ → List ℕ) → ℕ → List ℕ → List ℕ
rows below zero ps = ps
rows below (suc d) ps = ps ++ rows below d (flat_map below ps)

-- the pages of a tree of this depth, row by row
unfoldable pub tree_pages : File → ℕ → ℕ → List ℕ
tree_pages f depth p = rows (children f) depth (p ∷ [])

-- what a page with no overflow pages has of the file
abbrev pub alone : ℕ → List ℕ
alone p = p ∷ []

-- the cells of page p
abbrev pub cells_on : File → ℕ → List Held
cells_on f p = cells_in (node_of f p)

-- a cell without its child, where it has a payload
abbrev pub entry_in : Held → List Held
entry_in h = if h.total == 0 then [] else bare h ∷ []

-- the entries among cells, without their children
abbrev pub entries_in : List Held → List Held
entries_in hs = flat_map entry_in hs

-- the entries of page p, and those of pages
abbrev pub entries_on : File → ℕ → List Held
entries_on f p = entries_in (cells_on f p)

abbrev pub all_entries : File → List ℕ → List Held
all_entries f ps = flat_map (entries_on f) ps

-- the overflow pages of the cells of page p, and of those of pages
abbrev pub chains_at : File → ℕ → List ℕ
chains_at f p = flat_map (chain_of f) (cells_on f p)

abbrev pub all_chains : File → List ℕ → List ℕ
all_chains f ps = flat_map (chains_at f) ps
