-- The pages of a tree, level by level (docs/FORMAT.md, "Trees"; fileformat2.html, 1.6; docs/ARCHITECTURE.md, "Order of use").
use Rattle.std.specs.Prelude.{◌≡◌, ℕ, zero, suc, ℤ, pos, negsuc, Bool, true, false, ◌&&◌, if◌then◌else◌, Option, Some, None, option_map, List, [], ◌∷◌, ◌++◌, length, map, filter}
use Rattle.std.specs.List.{flat_map, range_with_len}
use Rattle.page_access.specs.Pages.{File}
use Rattle.page_lists.specs.Lists.{firsts, is_in, minus, without}
use Rattle.page_lists.specs.Table.{is_page}
use Rattle.cell_reader.specs.declared.shapes.Kind.{Kind}
use Rattle.cell_reader.specs.declared.shapes.Kind.TheVariants.{Table, Index}
use Rattle.cell_reader.specs.declared.shapes.PageShape.{PageShape}
use Rattle.page_walk.specs.Page.{shape_on}
use Rattle.page_walk.specs.Pointers.{pointers_on}

-- the kind of page p, or None where it has no shape
abbrev pub kind_on : File → ℕ → Option Kind
kind_on f p = option_map (λ (s : PageShape). s.kind) (shape_on f p)

-- the kinds of the pages 1 to n of a file
unfoldable pub kinds_of : File → List (Option Kind)
kinds_of f = map (kind_on f) (range_with_len 1 f.pages)

-- two pages have shapes of one kind
abbrev pub same_kind : Option Kind → Option Kind → Bool
same_kind (Some Table) (Some Table) = true
same_kind (Some Index) (Some Index) = true
same_kind (Some Table) (Some Index) = false
same_kind (Some Index) (Some Table) = false
same_kind (Some kind) None = false
same_kind None other = false

-- q is a child of p: the interior page p names it, and it is a page of the file that has p's kind
pub record IsChild (f : File) (p q : ℕ) : Type 0 where
  pub named : is_in q (pointers_on f p) ≡ true
  pub of_file : is_page f.pages q ≡ true
  pub kind_is : kind_on f q ≡ kind_on f p

-- the children of page p in the order in which it names them, as often as it does
unfoldable pub children : File → ℕ → List ℕ
children f p = filter (λ q. is_page f.pages q && same_kind (kind_on f q) (kind_on f p)) (pointers_on f p)

-- the next level: the first occurrences of those children of a level's pages that no level has yet
abbrev pub next_level : (ℕ → List ℕ) → List ℕ → List ℕ → List ℕ
next_level below unused level = firsts unused (flat_map below level)

-- a level and at most n levels below it, joined, where no level has the pages `unused` yet
abbrev pub levels : (ℕ → List ℕ) → ℕ → List ℕ → List ℕ → List ℕ
levels below n unused [] = []
levels below zero unused (p ∷ ps) = p ∷ ps
levels below (suc n) unused (p ∷ ps) = (p ∷ ps)
    ++ levels below n (minus unused (next_level below unused (p ∷ ps))) (next_level below unused (p ∷ ps))

-- all levels from an unused page down: each takes an unused page at least, so there are at most so many
abbrev pub levels_from : (ℕ → List ℕ) → List ℕ → ℕ → List ℕ
levels_from below unused root = levels below (length unused) (without root unused) (root ∷ [])

-- the page that a number names, where it is one of 1 to n
abbrev pub page_named : ℕ → ℤ → Option ℕ
page_named n (pos q) = if is_page n q then Some q else None
page_named n (negsuc q) = None

-- an unused page of the wanted kind, from which a tree is walked
abbrev pub is_root : File → List ℕ → Kind → ℕ → Bool
is_root f unused kind r = is_in r unused && same_kind (kind_on f r) (Some kind)

abbrev pub walk_from : File → List ℕ → Kind → Option ℕ → List ℕ
walk_from f unused kind None = []
walk_from f unused kind (Some r) = if is_root f unused kind r then levels_from (children f) unused r else []

-- the pages of the tree with this root and kind, level by level; none where the root is no number of 1 to n, or
-- its page has a use or another kind
unfoldable pub walk : File → List ℕ → ℤ → Kind → List ℕ
walk f unused root kind = walk_from f unused kind (page_named f.pages root)
