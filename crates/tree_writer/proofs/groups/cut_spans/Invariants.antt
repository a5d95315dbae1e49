use Rattle.tree_writer.proofs.Grouping.{Cutting}
use Rattle.tree_writer.proofs.groups.cut_spans.Given as goal

abbrev pub invariant-loop-i : goal.invariant-loop-i
invariant-loop-i l = Cutting l.sizes l.room l.spans.items l.span l.left l.i
