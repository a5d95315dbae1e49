-- The walk of a root has the pages of a clear path from it.
use Rattle.std.proofs.Common.{◌≡◌, ◌≤◌, ℕ, ◌+◌, true, List, [], ◌∷◌, ◌++◌, sym, subst, arith}
use Rattle.std.specs.Prelude.{ℤ, pos}
use Rattle.std.specs.List.{AllByRecursion}
use Rattle.page_access.specs.Pages.{File}
use Rattle.page_lists.specs.Lists.{count, is_in}
use Rattle.page_lists.proofs.Counts.{count_in, in_from_count, in_head}
use Rattle.cell_reader.specs.declared.shapes.Kind.{Kind}
use Rattle.page_walk.specs.Cells.{Row}
use Rattle.page_walk.specs.Pointers.{pointers_on}
use Rattle.page_walk.specs.Reach.{AreReached, IsRoot, Reach, child, start}
use Rattle.page_walk.specs.Walk.{walk}
use Rattle.page_walk.proofs.Levels.{in_front}
use Rattle.page_walk.proofs.Trees.{walk_is_tree}
use Rattle.clear_paths.specs.Clear.{IsClear, IsClearPath, IsWay, Touched, named, next_on, outer, outer_numbers, overflows_on, root_number}
use Rattle.clear_paths.proofs.Moments.{Moment, Used, moment_once}
use Rattle.clear_paths.proofs.Room.{HasRoom, unused_by_outer, unused_by_pointer}

module _ {f : File} {roots : List ℕ} {d : Used} {u : List ℕ} (m : Moment f roots d u) (room : HasRoom f roots d) where
  -- from an unused page that is reached, down a way of clear pages
  way_reached : (top p : ℕ) (down : List ℕ) (q : ℕ) → Reach f u top p → is_in p u ≡ true → Touched f roots p → IsWay f p down q
      → AllByRecursion (IsClear f roots) down → Reach f u top q
  way_reached top p [] q reached free t way clear = subst (Reach f u top) way reached
  way_reached top p (c ∷ cs) q reached free t way clear =
      let free' : is_in c u ≡ true = unused_by_pointer m p c room clear.0 free t way.0.named in
      let t' : Touched f roots c = named p c t (in_front c (pointers_on f p) (overflows_on f p ++ next_on f p) way.0.named) way.0.of_file in
      way_reached top c cs q (child p c reached way.0 free') free' t' way.1 clear.1

  -- where the root was not looked at before
  pub way_walked : (root : ℤ) (kind : Kind) (row : Row)
      → ((q : ℕ) → count q d.seen + count q (root_number root) ≤ count q (outer_numbers roots))
      → IsClearPath f roots root kind row → is_in row.page (walk f u root kind) ≡ true
  way_walked root kind row more path =
      let r : ℕ = path.top in
      let is : is_in r (root_number root) ≡ true = subst (λ (z : ℤ). is_in r (root_number z) ≡ true) (sym path.root_is) (in_head r []) in
      let one : 1 ≤ count r (root_number root) = count_in r (root_number root) is in
      let free : is_in r u ≡ true = unused_by_outer m r room path.pages.0 (omega (arith, one, more r)) in
      let there : is_in r (outer_numbers roots) ≡ true = in_from_count r (outer_numbers roots) (omega (arith, one, more r)) in
      let t : Touched f roots r = outer r there path.pages.0.of_file in
      let root_is : IsRoot f u kind r = record { of_file = path.pages.0.of_file; free = free; kind_is = path.kind_is } in
      let are : AreReached f u r (walk f u root kind) = (walk_is_tree f u root kind (moment_once f roots d u m)).reached r path.root_is root_is in
      are.all row.page (way_reached r r path.down row.page start free t path.way path.pages.1)
