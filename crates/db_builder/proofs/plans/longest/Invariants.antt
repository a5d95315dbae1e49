use Rattle.std.proofs.Common.{ℕ, ◌<◌, ◌≤◌, length}
use Rattle.tree_writer.specs.Entry.{entry_at}
use Rattle.db_builder.proofs.plans.longest.Given as goal

abbrev pub invariant-loop-i : goal.invariant-loop-i
invariant-loop-i g l = (k : ℕ) → k < l.i → length (entry_at (g.N.Entries.entries l.entries) k).bytes ≤ l.most
