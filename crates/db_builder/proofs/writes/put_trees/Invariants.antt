use Rattle.std.proofs.Common.{List, drop, length}
use Rattle.std.specs.List.{AllZip, flat_map}
use Rattle.page_access.specs.Outside.{KeepsSink}
use Rattle.page_access.proofs.Gains.{WroteFront}
use Rattle.db_builder.specs.Layout.{Placed, tree_bytes}
use Rattle.db_builder.specs.Prepared.{IsPlanned}
use Rattle.db_builder.proofs.writes.put_trees.Given as goal

-- the trees before this one are put
abbrev pub invariant-loop-tree : goal.invariant-loop-tree
invariant-loop-tree g l =
    let s = g.O.Sink in
    ((ps : List Placed) → AllZip (IsPlanned (length l.fn.page) l.tables (length l.fn.scratch)) ps l.trees
    → WroteFront (s.bytes l.initial.out) (s.bytes l.out) (s.faults l.initial.out) (s.faults l.out)
    (flat_map (tree_bytes (length l.fn.page)) (drop l.tree-index ps)) (flat_map (tree_bytes (length l.fn.page)) ps))
    × KeepsSink s.created s.finished s.faults l.initial.out l.out
