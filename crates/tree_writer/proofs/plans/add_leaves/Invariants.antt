use Rattle.tree_writer.proofs.Adding.{AddsLeaves}
use Rattle.tree_writer.proofs.plans.add_leaves.Given as goal

abbrev pub invariant-loop-span : goal.invariant-loop-span
invariant-loop-span l = AddsLeaves l.kind l.spans l.initial.pages.items l.pages.items l.index l.span-index
