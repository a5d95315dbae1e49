-- Row by row a tree has the pages, and what belongs to them, that it has by its children.
use Rattle.std.proofs.Common.{◌≡◌, ℕ, zero, suc, ◌+◌, List, [], ◌∷◌, ◌++◌, map, refl, sym, ap, ◌∙◌, arith, append-nil}
use Rattle.std.specs.List.{AllByRecursion, flat_map}
use Rattle.std.proofs.lemmas.Grind.{flat_map-append}
use Rattle.page_access.specs.Pages.{File}
use Rattle.page_lists.specs.Lists.{count}
use Rattle.page_lists.proofs.Counts.{count-append}
use Rattle.cell_reader.specs.declared.shapes.Kind.{Kind}
use Rattle.page_walk.specs.Walk.{children}
use Rattle.tree_forms.specs.Node.{Held, cells_in, child_of, node_of, right_in}
use Rattle.tree_forms.specs.Payload.{own_of}
use Rattle.tree_forms.specs.Tree.{IsTree, pages_of, row_pages}
use Rattle.tree_walks.specs.Rows.{all_chains, alone, chains_at, rows}
use Rattle.tree_walks.proofs.Children.{children_are}
use Rattle.tree_walks.proofs.Levels.{generation}

-- what a row of children gives, joined
pub row_joined : (F : ℕ → List ℕ) (hs : List Held) (right : ℕ) → row_pages F hs right ≡ flat_map F (map child_of hs ++ right ∷ [])
row_joined F [] right = sym (append-nil (F right))
row_joined F (h ∷ hs) right = ap (λ (xs : List ℕ). F (child_of h) ++ xs) (row_joined F hs right)

-- the pages of an interior page are its own and those of its children
pages_step : (f : File) (own : ℕ → List ℕ) (kind : Kind) (r d p : ℕ) → IsTree (node_of f) kind r (suc d) p
    → pages_of (node_of f) own (suc d) p ≡ own p ++ flat_map (pages_of (node_of f) own d) (children f p)
pages_step f own kind r d p t =
    let F : ℕ → List ℕ = pages_of (node_of f) own d in
    ap (λ (xs : List ℕ). own p ++ xs)
    (row_joined F (cells_in (node_of f p)) (right_in (node_of f p))
    ∙ ap (λ o. flat_map F (map child_of (cells_in o) ++ right_in o ∷ [])) t.1.is
    ∙ ap (flat_map F) (sym (children_are f kind r d p t)))

-- the same of a row of pages
row_step : (f : File) (own : ℕ → List ℕ) (kind : Kind) (r d q : ℕ) (ps : List ℕ) → AllByRecursion (IsTree (node_of f) kind r (suc d)) ps
    → count q (flat_map (pages_of (node_of f) own (suc d)) ps)
    ≡ count q (flat_map own ps) + count q (flat_map (pages_of (node_of f) own d) (flat_map (children f) ps))
row_step f own kind r d q [] trees = refl
row_step f own kind r d q (p ∷ ps) trees =
    let F : ℕ → List ℕ = pages_of (node_of f) own d in
    let here : pages_of (node_of f) own (suc d) p ≡ own p ++ flat_map F (children f p) = pages_step f own kind r d p trees.0 in
    omega (
      arith,
      count-append q (pages_of (node_of f) own (suc d) p) (flat_map (pages_of (node_of f) own (suc d)) ps),
      ap (count q) here,
      count-append q (own p) (flat_map F (children f p)),
      row_step f own kind r d q ps trees.1,
      count-append q (own p) (flat_map own ps),
      ap (count q) (flat_map-append F (children f p) (flat_map (children f) ps)),
      count-append q (flat_map F (children f p)) (flat_map F (flat_map (children f) ps)),
    )

pub rows_count : (f : File) (own : ℕ → List ℕ) (kind : Kind) (r d q : ℕ) (ps : List ℕ) → AllByRecursion (IsTree (node_of f) kind r d) ps
    → count q (flat_map (pages_of (node_of f) own d) ps) ≡ count q (flat_map own (rows (children f) d ps))
rows_count f own kind r zero q ps trees = refl
rows_count f own kind r (suc d) q ps trees =
    omega (
      arith,
      row_step f own kind r d q ps trees,
      rows_count f own kind r d q (flat_map (children f) ps) (generation f kind r d ps trees),
      ap (count q) (flat_map-append own ps (rows (children f) d (flat_map (children f) ps))),
      count-append q (flat_map own ps) (flat_map own (rows (children f) d (flat_map (children f) ps))),
    )

pub tree_count : (f : File) (own : ℕ → List ℕ) (kind : Kind) (r d p q : ℕ) → IsTree (node_of f) kind r d p
    → count q (pages_of (node_of f) own d p) ≡ count q (flat_map own (rows (children f) d (p ∷ [])))
tree_count f own kind r d p q t =
    sym (ap (count q) (append-nil (pages_of (node_of f) own d p))) ∙ rows_count f own kind r d q (p ∷ []) (t, tt)

pub all_alone : (ps : List ℕ) → flat_map alone ps ≡ ps
all_alone [] = refl
all_alone (p ∷ ps) = ap (λ (xs : List ℕ). p ∷ xs) (all_alone ps)

-- pages with their overflow pages
pub all_own : (f : File) (q : ℕ) (ps : List ℕ) → count q (flat_map (own_of f) ps) ≡ count q ps + count q (all_chains f ps)
unfolding own_of
all_own f q [] = refl
all_own f q (p ∷ ps) =
    omega (
      arith,
      count-append q (p ∷ chains_at f p) (flat_map (own_of f) ps),
      all_own f q ps,
      count-append q (chains_at f p) (all_chains f ps),
    )
