-- The parts of the order, put together.
use Rattle.std.proofs.Common.{◌≡◌, ℕ, Option, Some, None, List, refl, ◌∙◌, ap, arith}
use Rattle.std.specs.Prelude.{IfSome}
use Rattle.std.specs.List.{flat_map}
use Rattle.std.proofs.lemmas.Option.{IfSome_then}
use Rattle.page_access.specs.Files.{file_of}
use Rattle.page_access.specs.Pages.{File}
use Rattle.page_access.specs.declared.geometry.Geometry.{Geometry}
use Rattle.page_lists.specs.Lists.{minus}
use Rattle.page_lists.specs.Table.{Table, all_moved, unused}
use Rattle.page_lists.proofs.Uses.{unused-all_moved}
use Rattle.overflow_chain.specs.declared.TheConstants.{OVERFLOW_LIST}
use Rattle.page_walk.specs.Cells.{Outcome}
use Rattle.freelist_core.specs.declared.TheConstants.{FREE_LIST}
use Rattle.tree_uses.specs.Trees.{chains_in}
use Rattle.orphan_trees.specs.Orphans.{Orphan, orphan_trees, pages_in}
use Rattle.orphan_trees.specs.declared.TheConstants.{ORPHAN_LIST}
use Rattle.use_order.proofs.Ordered.{at_told}
use Rattle.orphan_uses.specs.Order.{AreOrphans, after_orphans, behind_free, free_of, orphan_turns}

pub unused_behind : (f : File) (t0 t1 : Table) (trunk : Option ℕ) → t1 ≡ all_moved (free_of f (unused t0) trunk) FREE_LIST t0
    → unused t1 ≡ behind_free f (unused t0) trunk
unused_behind f t0 t1 trunk moved = ap unused moved ∙ unused-all_moved (free_of f (unused t0) trunk) FREE_LIST t0 (omega arith)

pub in_order : (o o1 o2 : Option (List ℕ)) (geo : Geometry) (t0 t1 t2 : Table) (trunk : Option ℕ) (trees : List Orphan) (turns : List (List (ℕ × List Outcome)))
    → o1 ≡ o → o2 ≡ o → IfSome o (λ all. t1 ≡ all_moved (free_of (file_of all geo) (unused t0) trunk) FREE_LIST t0)
    → IfSome o1 (λ all. trees ≡ orphan_trees (file_of all geo) (unused t1)) → t2 ≡ all_moved (pages_in trees) ORPHAN_LIST t1
    → IfSome o2 (λ all. turns ≡ orphan_turns (file_of all geo) trees (unused t2))
    → IfSome o (λ all. AreOrphans (file_of all geo) (unused t0) trunk trees turns)
in_order None o1 o2 geo t0 t1 t2 trunk trees turns e1 e2 free found moved read = tt
in_order (Some all) o1 o2 geo t0 t1 t2 trunk trees turns e1 e2 free found moved read =
    let f : File = file_of all geo in
    let first : unused t1 ≡ behind_free f (unused t0) trunk = unused_behind f t0 t1 trunk free in
    let second : unused t2 ≡ minus (behind_free f (unused t0) trunk) (pages_in trees) =
    ap unused moved ∙ unused-all_moved (pages_in trees) ORPHAN_LIST t1 (omega arith) ∙ ap (λ (u : List ℕ). minus u (pages_in trees)) first in
    record {
      trees_are = at_told (λ bytes. trees ≡ orphan_trees (file_of bytes geo) (unused t1)) (Some all) o1 all e1 refl found ∙ ap (orphan_trees f) first;
      turns_are = at_told (λ bytes. turns ≡ orphan_turns (file_of bytes geo) trees (unused t2)) (Some all) o2 all e2 refl read ∙ ap (orphan_turns f trees) second;
    }

-- each of the pages stands in the list of its use
pub table_is : (o : Option (List ℕ)) (geo : Geometry) (t0 t1 t2 t3 : Table) (trunk : Option ℕ) (trees : List Orphan) (turns : List (List (ℕ × List Outcome)))
    → IfSome o (λ all. t1 ≡ all_moved (free_of (file_of all geo) (unused t0) trunk) FREE_LIST t0) → t2 ≡ all_moved (pages_in trees) ORPHAN_LIST t1
    → t3 ≡ all_moved (flat_map chains_in turns) OVERFLOW_LIST t2 → IfSome o (λ all. t3 ≡ after_orphans (file_of all geo) t0 trunk trees turns)
table_is o geo t0 t1 t2 t3 trunk trees turns free m2 m3 =
    IfSome_then o
    {P = λ all. t1 ≡ all_moved (free_of (file_of all geo) (unused t0) trunk) FREE_LIST t0}
    {Q = λ all. t3 ≡ after_orphans (file_of all geo) t0 trunk trees turns}
    free
    (λ all e. m3 ∙ ap (all_moved (flat_map chains_in turns) OVERFLOW_LIST) (m2 ∙ ap (all_moved (pages_in trees) ORPHAN_LIST) e))
