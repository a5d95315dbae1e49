use Rattle.std.proofs.Common.{length, ◌-◌}
use Rattle.tree_writer.proofs.Raising.{Grows}
use Rattle.tree_writer.proofs.plans.raise.Given as goal

abbrev pub invariant-levels : goal.invariant-levels
invariant-levels g l = Grows l.usable l.kind l.top (g.N.Entries.entries l.entries) l.leaves l.base l.index l.pages.items

abbrev pub decreases-levels : goal.decreases-levels
decreases-levels g l = length l.pages.items - l.base
