use Rattle.std.proofs.Common.{◌≡◌, take, map, false}
use Rattle.tree_writer.specs.Plan.{size_item}
use Rattle.tree_writer.specs.Planned.{inner_item}
use Rattle.tree_writer.proofs.plans.line_sizes.Given as goal

abbrev pub invariant-loop-page : goal.invariant-loop-page
invariant-loop-page g l = l.sizes.items ≡ map (λ p. size_item l.usable l.kind false (inner_item l.kind (g.N.Entries.entries l.entries) p)) (take l.page-index l.below)
