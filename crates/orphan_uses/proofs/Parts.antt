-- The pages of the freelist, those of the orphan trees and those of their cells' chains are among the unused pages.
use Rattle.std.proofs.Common.{◌≡◌, ◌≤◌, ℕ, zero, suc, ◌+◌, Bool, true, false, Option, Some, None, List, [], ◌∷◌, ◌++◌, length, map, take, refl, sym, ◌∙◌, ap, subst, arith, append-nil}
use Rattle.std.specs.Prelude.{if◌then◌else◌}
use Rattle.std.specs.List.{flat_map, range_with_len}
use Rattle.std.proofs.lemmas.Grind.{flat_map-append}
use Rattle.page_access.specs.Pages.{File}
use Rattle.page_lists.specs.Lists.{IsPartOf, count, is_in, minus}
use Rattle.page_lists.proofs.Counts.{at_most_one, count_in, length-minus, part_append, part_none}
use Rattle.page_lists.proofs.Moves.{count_pages}
use Rattle.page_walk.specs.Cells.{Outcome}
use Rattle.page_walk.specs.Turns.{chains_on, turns_on}
use Rattle.freelist_core.specs.Free.{free_pages, taken_at, taken_from}
use Rattle.freelist_core.specs.Trunk.{leaves_of, next_trunk}
use Rattle.freelist_core.proofs.Steps.{taken_part}
use Rattle.tree_uses.specs.Trees as trees
use Rattle.tree_uses.proofs.Splits.{trees_take_turns}
use Rattle.orphan_trees.specs.Orphans.{Orphan, behind_first, first_roots, is_orphan, least_tree, least_trees, orphan_pages, orphan_trees, pages_in, tree_at, tree_pages, trees_at}
use Rattle.orphan_trees.proofs.Lists.{count-filter}
use Rattle.orphan_trees.proofs.Rule.{trees_part}
use Rattle.orphan_trees.proofs.Walks.{orphan_parts, tree_part}
use Rattle.page_lists.specs.Table.{is_page}
use Rattle.orphan_uses.specs.Order.{free_of, orphan_turns}

-- ---- the freelist

chosen_part : (b : Bool) (ps unused : List ℕ) → (b ≡ true → IsPartOf ps unused) → IsPartOf (if b then ps else []) unused
chosen_part true ps u part = part refl
chosen_part false ps u part = part_none u

trunks_part : (f : File) (n : ℕ) (unused : List ℕ) (q : ℕ) → IsPartOf (taken_from f n unused q) unused
trunks_part f zero u q = part_none u
trunks_part f (suc n) u q =
    let these : List ℕ = taken_at f u q in
    let later : List ℕ = taken_from f n (minus u these) (next_trunk f q) in
    chosen_part (is_in q u) (these ++ later) u
    (λ is. part_append u these later (taken_part u q (leaves_of f q) is) (trunks_part f n (minus u these) (next_trunk f q)))

free_part : (f : File) (unused : List ℕ) (q : ℕ) → IsPartOf (free_pages f unused q) unused
unfolding free_pages
free_part f u q = trunks_part f (length u) u q

pub frees_part : (f : File) (unused : List ℕ) (trunk : Option ℕ) → IsPartOf (free_of f unused trunk) unused
frees_part f u None = part_none u
frees_part f u (Some q) = free_part f u q

-- ---- the orphan trees

one_part : (f : File) (unused ps : List ℕ) → IsPartOf (pages_in (map (λ root. tree_at f root unused) (take 1 ps))) unused
one_part f u [] = part_none u
one_part f u (p ∷ ps) = subst (λ qs. IsPartOf qs u) (sym (append-nil (tree_at f p u).pages)) (tree_part f u p)

least_part : (f : File) (n : ℕ) (unused : List ℕ) → IsPartOf (pages_in (least_trees f n unused)) unused
least_part f zero u = part_none u
least_part f (suc n) u =
    let left : List ℕ = minus u (pages_in (least_tree f u)) in
    subst (λ qs. IsPartOf qs u) (sym (flat_map-append tree_pages (least_tree f u) (least_trees f n left)))
    (part_append u (pages_in (least_tree f u)) (pages_in (least_trees f n left)) (one_part f u (orphan_pages f u)) (least_part f n left))

pub orphans_part : (f : File) (unused : List ℕ) → IsPartOf (pages_in (orphan_trees f unused)) unused
unfolding orphan_trees
orphans_part f u =
    let firsts : List Orphan = trees_at f (first_roots f u) u in
    let later : List Orphan = least_trees f f.pages (behind_first f u) in
    subst (λ qs. IsPartOf qs u) (sym (flat_map-append tree_pages firsts later))
    (part_append u (pages_in firsts) (pages_in later) (trees_part f (first_roots f u) u) (least_part f f.pages (behind_first f u)))

-- an orphan page is one of the unused pages
once_or_not : (b : Bool) (n m : ℕ) → n ≤ 1 → (b ≡ true → 1 ≤ m) → (if b then n else 0) ≤ m
once_or_not true n m few there = omega (arith, few, there refl)
once_or_not false n m few there = omega arith

pub orphans_few : (f : File) (unused : List ℕ) → length (orphan_pages f unused) ≤ length unused
orphans_few f u =
    omega (
      arith,
      length-minus u (orphan_pages f u) (λ q. omega (
        arith,
        count-filter (is_orphan f u) q (range_with_len 1 f.pages),
        once_or_not (is_orphan f u q) (count q (range_with_len 1 f.pages)) (count q u)
            (omega (arith, count_pages f.pages q, at_most_one (is_page f.pages q))) (λ is. count_in q u (orphan_parts f u q is).0),
      )),
    )

-- ---- the turns of their cells are those of their pages

as_tree : Orphan → trees.Tree
as_tree t = record { row = 0; list = 0; pages = t.pages }

as_turns : (f : File) (ts : List Orphan) (unused : List ℕ) → orphan_turns f ts unused ≡ trees.turns_in f (map as_tree ts) unused
unfolding as_tree
as_turns f [] u = refl
as_turns f (t ∷ ts) u =
    ap (λ (rest : List (List (ℕ × List Outcome))). turns_on f t.pages u ∷ rest) (as_turns f ts (minus u (trees.chains_in (turns_on f t.pages u))))

as_pages : (ts : List Orphan) → trees.pages_in (map as_tree ts) ≡ pages_in ts
unfolding as_tree
as_pages [] = refl
as_pages (t ∷ ts) = ap (λ (ps : List ℕ). t.pages ++ ps) (as_pages ts)

pub orphans_take_turns : (f : File) (ts : List Orphan) (unused : List ℕ)
    → flat_map (λ (ts : List (ℕ × List Outcome)). ts) (orphan_turns f ts unused) ≡ turns_on f (pages_in ts) unused
orphans_take_turns f ts u =
    ap (flat_map (λ (ts : List (ℕ × List Outcome)). ts)) (as_turns f ts u) ∙ (trees_take_turns f (map as_tree ts) u).turns
    ∙ ap (λ (ps : List ℕ). turns_on f ps u) (as_pages ts)

pub orphans_take_chains : (f : File) (ts : List Orphan) (unused : List ℕ)
    → flat_map trees.chains_in (orphan_turns f ts unused) ≡ chains_on f (pages_in ts) unused
orphans_take_chains f ts u =
    ap (flat_map trees.chains_in) (as_turns f ts u) ∙ (trees_take_turns f (map as_tree ts) u).chains
    ∙ ap (λ (ps : List ℕ). chains_on f ps u) (as_pages ts)
