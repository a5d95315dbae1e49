use Rattle.std.proofs.Common.{◌≡◌, drop, map}
use Rattle.create_reader.specs.Faults.{before_primary}
use Rattle.create_reader.specs.Views.{constraint_seen}
use Rattle.create_reader.proofs.causes.before_primary.Given as goal

abbrev pub invariant-loop-i : goal.invariant-loop-i
invariant-loop-i l = before_primary (map (λ k. constraint_seen l.columns k.now) (drop l.i l.taken)) ≡ before_primary (map (λ k. constraint_seen l.columns k.now) l.taken)
