-- What a walk takes of the page numbers that it meets (docs/FORMAT.md, "Trees"; docs/ARCHITECTURE.md, "Order of use").
use Rattle.std.specs.Prelude.{ℕ, Bool, ◌==◌, ◌&&◌, if◌then◌else◌, Option, Some, List, [], ◌∷◌}
use Rattle.std.specs.List.{filter}
use Rattle.page_lists.specs.Lists.{firsts}
use Rattle.page_lists.specs.Table.{Table, is_page, unused}
use Rattle.cell_reader.specs.declared.shapes.Kind.{Kind}
use Rattle.page_walk.specs.Kinds.{kind_at}
use Rattle.page_walk.specs.Walk.{same_kind}

-- whether q is one of the pages 1 to n, and these kinds give it this kind
abbrev pub is_of_kind : List (Option Kind) → ℕ → Kind → ℕ → Bool
is_of_kind kinds n kind q = is_page n q && same_kind (kind_at kinds q) (Some kind)

-- the unused pages of the kind among these numbers, each only once: where it comes first
abbrev pub takes : List (Option Kind) → Kind → Table → List ℕ → List ℕ
takes kinds kind t qs = firsts (unused t) (filter (is_of_kind kinds t.pages kind) qs)

-- the pages of a list from the first q on
abbrev pub tail : ℕ → List ℕ → List ℕ
tail q [] = []
tail q (p ∷ ps) = if p == q then p ∷ ps else tail q ps
