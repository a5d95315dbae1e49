use Rattle.std.proofs.Common.{◌∙◌, ◌+◌, length, drop, ap, sym, arith}
use Rattle.std.specs.List.{flat_map}
use Rattle.page_access.proofs.Gains.{front_as, front_end, front_out, front_start, front_step, writes_same}
use Rattle.page_access.proofs.Keeps.{KeepsSink-refl, KeepsSink-trans}
use Rattle.db_builder.specs.Layout.{lock_of, tree_bytes}
use Rattle.db_builder.specs.Prepared.{IsPlanned}
use Rattle.db_builder.proofs.Planned.{planned_by, zip_at, zip_end}
use Rattle.db_builder.proofs.writes.put_trees.Goals as goal

pub loop-tree-init : goal.loop-tree-init
loop-tree-init g c = (λ ps all. front_start _ _ _, KeepsSink-refl _ _ _ _)

pub put_tree-requires : goal.put_tree-requires
put_tree-requires g c =
    let z = zip_at (IsPlanned (length c.args.page.now) c.args.tables.now (length c.args.scratch.now)) c.loop-tree.tree-index c.requires.planned.0 c.args.trees.now c.tree-item.result
    c.requires.planned.1 (omega arith) c.tree-item.is in
    record {
      lock = c.requires.lock ∙ ap lock_of (sym c.loop-tree.auto.page);
      planned = (z.x, planned_by _ _ _ _ _ _ _ (sym c.loop-tree.auto.page) (sym c.loop-tree.auto.scratch) z.holds);
    }

pub loop-tree-preserved : goal.loop-tree-preserved
loop-tree-preserved g c = (
  λ ps all.
      let size = length c.args.page.now in
      let z = zip_at (IsPlanned size c.args.tables.now (length c.args.scratch.now)) c.loop-tree.tree-index ps c.args.trees.now c.tree-item.result
      all (omega arith) c.tree-item.is in
      front_step (flat_map (tree_bytes size) (drop (c.loop-tree.tree-index + 1) ps))
      (front_as (ap (flat_map (tree_bytes size)) z.is) (c.loop-tree.invariant.0 ps all))
      (writes_same (ap (λ s. tree_bytes s z.x) c.loop-tree.auto.page)
      (c.in_ok-put_tree.ensures.writes z.x (planned_by _ _ _ _ _ _ _ (sym c.loop-tree.auto.page) (sym c.loop-tree.auto.scratch) z.holds))),
  KeepsSink-trans c.loop-tree.invariant.1 c.in_ok-put_tree.ensures.kept,
)

pub returns-in_err-put_tree-clause-writes : goal.returns-in_err-put_tree-clause-writes
returns-in_err-put_tree-clause-writes g c = λ ps all.
    let size = length c.args.page.now in
    let z = zip_at (IsPlanned size c.args.tables.now (length c.args.scratch.now)) c.loop-tree.tree-index ps c.args.trees.now c.tree-item.result
    all (omega arith) c.tree-item.is in
    front_out (flat_map (tree_bytes size) (drop (c.loop-tree.tree-index + 1) ps)) c.from_residual.ensures.0
    (front_as (ap (flat_map (tree_bytes size)) z.is) (c.loop-tree.invariant.0 ps all))
    (writes_same (ap (λ s. tree_bytes s z.x) c.loop-tree.auto.page)
    (c.in_err-put_tree.ensures.writes z.x (planned_by _ _ _ _ _ _ _ (sym c.loop-tree.auto.page) (sym c.loop-tree.auto.scratch) z.holds)))

pub returns-clause-writes : goal.returns-clause-writes
returns-clause-writes g c = λ ps all.
    front_end (front_as (ap (flat_map (tree_bytes (length c.args.page.now))) (zip_end _ c.loop-tree.tree-index ps c.args.trees.now all (omega arith))) (c.loop-tree.invariant.0 ps all))
