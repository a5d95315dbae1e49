use Rattle.std.proofs.Common.{◌≡◌, drop, map}
use Rattle.create_reader.specs.Meaning.{primary_in}
use Rattle.create_reader.specs.Views.{constraint_seen}
use Rattle.create_reader.proofs.meaning.primary_in.Given as goal

abbrev pub invariant-loop-i : goal.invariant-loop-i
invariant-loop-i l = primary_in l.columns (map (λ k. constraint_seen l.columns k.now) (drop l.i l.taken)) ≡ primary_in l.columns (map (λ k. constraint_seen l.columns k.now) l.taken)
