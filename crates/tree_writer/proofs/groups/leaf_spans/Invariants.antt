use Rattle.tree_writer.proofs.Grouping.{Leafing}
use Rattle.tree_writer.proofs.groups.leaf_spans.Given as goal

abbrev pub invariant-loop-size : goal.invariant-loop-size
invariant-loop-size l = Leafing l.sizes l.room l.spans.items l.span l.left l.size-index
