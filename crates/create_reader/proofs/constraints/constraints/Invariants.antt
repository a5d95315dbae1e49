use Rattle.create_reader.proofs.Walk.{Walked}
use Rattle.create_reader.proofs.constraints.constraints.Given as goal

abbrev pub invariant-loop-i : goal.invariant-loop-i
invariant-loop-i l = Walked l.sql l.said l.columns (record { found = l.found.items; number = l.number; column = l.column; i = l.i })
