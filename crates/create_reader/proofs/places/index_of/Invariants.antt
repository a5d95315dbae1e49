use Rattle.std.proofs.Common.{◌≤◌, drop, length}
use Rattle.create_reader.specs.Index.{IsIndexFrom}
use Rattle.create_reader.proofs.places.index_of.Given as goal

abbrev pub decreases-loop-number : goal.decreases-loop-number
decreases-loop-number l = l.number

abbrev pub invariant-loop-number : goal.invariant-loop-number
invariant-loop-number l = (l.number ≤ length l.columns) × IsIndexFrom l.number (drop l.number l.columns) l.index
