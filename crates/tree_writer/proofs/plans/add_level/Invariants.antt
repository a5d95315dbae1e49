use Rattle.tree_writer.proofs.Adding.{AddsLevel}
use Rattle.tree_writer.proofs.plans.add_level.Given as goal

abbrev pub invariant-loop-span : goal.invariant-loop-span
invariant-loop-span l = AddsLevel l.spans l.initial.pages.items l.pages.items l.base l.initial.index l.index l.span-index
