-- How orphan trees are found: children of orphan pages are marked, and then the pages are passed over twice,
-- rising (docs/ARCHITECTURE.md, "Order of use").
use Rattle.std.specs.Prelude.{ℕ, ◌-◌, Bool, true, false, not, nat_lt, if◌then◌else◌, Option, None, List, [], ◌∷◌, length, filter, slice_set, slice_index_or}
use Rattle.std.specs.List.{range_with_len}
use Rattle.page_access.specs.Pages.{File}
use Rattle.page_lists.specs.Lists.{is_in}
use Rattle.cell_reader.specs.declared.shapes.Kind.{Kind}
use Rattle.page_walk.specs.Kinds.{kind_at}
use Rattle.page_walk.specs.Walk.{children}
use Rattle.orphan_trees.specs.Orphans.{Orphan, is_orphan}

-- the marks, one for each page from page 1 on, after these pages got theirs
abbrev pub with_marks : List ℕ → List Bool → List Bool
with_marks [] marks = marks
with_marks (p ∷ ps) marks = with_marks ps (slice_set marks (p - 1) true)

-- whether page p has its mark
abbrev pub has_mark : List Bool → ℕ → Bool
has_mark marks p = slice_index_or marks (p - 1) false

-- those of these pages that have no mark
abbrev pub unmarked : List Bool → List ℕ → List ℕ
unmarked marks ps = filter (λ p. not (has_mark marks p)) ps

-- those of the pages 1 to n, rising
abbrev pub roots_of : List Bool → ℕ → List ℕ
roots_of marks n = unmarked marks (range_with_len 1 n)

-- the kind of page p by these kinds, where it is unused
abbrev pub kind_unused : List (Option Kind) → List ℕ → ℕ → Option Kind
kind_unused kinds unused p = if is_in p unused then kind_at kinds p else None

-- the children of page p, where it is an orphan page
abbrev pub children_at : File → List ℕ → ℕ → List ℕ
children_at f unused p = if is_orphan f unused p then children f p else []

-- a tree has pages
abbrev pub has_pages : Orphan → Bool
has_pages t = nat_lt 0 (length t.pages)

-- those of the trees that have pages
abbrev pub found_in : List Orphan → List Orphan
found_in trees = filter has_pages trees
