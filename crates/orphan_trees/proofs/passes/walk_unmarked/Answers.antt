use Rattle.std.proofs.Common.{◌∙◌, ℕ, ap, arith, map, subst, sym}
use Rattle.page_access.proofs.Keeps.{not_failed}
use Rattle.page_lists.proofs.Uses.{Moves-append}
use Rattle.page_walk.specs.Turns.{ReadsEach}
use Rattle.page_walk.proofs.Walking.{no_reads}
use Rattle.orphan_trees.specs.Orphans.{orphan_of}
use Rattle.orphan_trees.proofs.Sweeping.{sweeping_all, sweeping_bound, sweeping_front, sweeping_more, sweeping_moved, sweeping_part, sweeping_past, sweeping_value}
use Rattle.orphan_trees.proofs.passes.walk_unmarked.Goals as goal

pub loop-before-preserved-then-has_mark : goal.loop-before-preserved-then-has_mark
loop-before-preserved-then-has_mark g c = sweeping_past c.loop-before.invariant c.loop-before-test.true (sym c.has_mark.ensures ∙ c.if-has_mark.true)

pub loop-before-preserved : goal.loop-before-preserved
loop-before-preserved g c =
    sweeping_more (record { src = c.walk_orphan.new.src; cache = c.walk_orphan.new.cache; table = c.walk_orphan.new.table })
    (orphan_of c.in_ok-tree.tree) (map orphan_of c.push_found.new.to.items) c.loop-before.invariant c.loop-before-test.true
    (sym c.has_mark.ensures ∙ c.if-has_mark.false)
    (record {
      kept = c.walk_orphan.ensures.kept;
      steady = not_failed c.in_ok-tree.ensures.cause.steady;
      cached = c.walk_orphan.ensures.cached;
      moves = c.walk_orphan.ensures.moves;
      moved = c.in_ok-tree.ensures.moved;
      good = c.in_ok-tree.ensures.bound;
      read = c.in_ok-tree.ensures.reads;
      full = λ all. let same = c.walk_orphan.ensures.full all in (
        same.0,
        subst (λ (n : ℕ). ReadsEach (g.S.Source.bytes c.loop-before.src) c.args.geo.now c.loop-before.table c.walk_orphan.new.table
            (g.S.Source.reads c.loop-before.src) n 0) (sym (ap g.S.Source.reads same.1))
            (no_reads (g.S.Source.bytes c.loop-before.src) c.args.geo.now 6 c.loop-before.table c.walk_orphan.new.table
            (g.S.Source.reads c.loop-before.src) 0 (omega arith) c.walk_orphan.ensures.moves),
      );
      value = c.in_ok-tree.ensures.value;
    })
    c.walk_orphan.ensures.full c.in_ok-tree.ensures.part c.in_ok-push_found.ensures

pub returns-in_err-tree-clause-front : goal.returns-in_err-tree-clause-front
returns-in_err-tree-clause-front g c =
    sweeping_front c.walk_orphan.new.table c.loop-before.invariant c.loop-before-test.true (sym c.has_mark.ensures ∙ c.if-has_mark.false) c.walk_orphan.ensures.front

pub returns-in_err-push_found-clause-front : goal.returns-in_err-push_found-clause-front
returns-in_err-push_found-clause-front g c =
    sweeping_front c.walk_orphan.new.table c.loop-before.invariant c.loop-before-test.true (sym c.has_mark.ensures ∙ c.if-has_mark.false) c.walk_orphan.ensures.front

pub returns-in_err-tree-clause-moves : goal.returns-in_err-tree-clause-moves
returns-in_err-tree-clause-moves g c =
    Moves-append 6 c.args.table.now c.loop-before.table c.walk_orphan.new.table (omega arith) c.loop-before.invariant.steps.moves c.walk_orphan.ensures.moves

pub returns-in_err-push_found-clause-moves : goal.returns-in_err-push_found-clause-moves
returns-in_err-push_found-clause-moves g c =
    Moves-append 6 c.args.table.now c.loop-before.table c.walk_orphan.new.table (omega arith) c.loop-before.invariant.steps.moves c.walk_orphan.ensures.moves

pub returns-clause-value : goal.returns-clause-value
returns-clause-value g c = sweeping_value c.loop-before.invariant (omega arith)

pub returns-clause-moved : goal.returns-clause-moved
returns-clause-moved g c = sweeping_moved c.loop-before.invariant

pub returns-clause-part : goal.returns-clause-part
returns-clause-part g c = sweeping_part c.loop-before.invariant

pub returns-clause-bound : goal.returns-clause-bound
returns-clause-bound g c = sweeping_bound c.loop-before.invariant

pub returns-clause-front : goal.returns-clause-front
returns-clause-front g c = sweeping_all c.loop-before.invariant (omega arith)
