use Rattle.std.proofs.Common.{◌≡◌, ◌+◌, ◌-◌, ◌++◌, map}
use Rattle.table_shape.specs.Seen.{row_seen}
use Rattle.trial_file.specs.Rows.{rows_from, rows_of}
use Rattle.trial_file.proofs.rows.rows_of.Given as goal

abbrev pub invariant-loop-number : goal.invariant-loop-number
invariant-loop-number l = map row_seen l.rows.items ++ rows_from (l.number + 1) (l.fn.count - l.number) ≡ rows_of l.fn.count
