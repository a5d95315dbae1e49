use Rattle.std.proofs.Common.{◌≡◌, drop, None}
use Rattle.create_reader.specs.Columns.{last_collate}
use Rattle.create_reader.proofs.columns.last_collate.Given as goal

abbrev pub invariant-loop-w : goal.invariant-loop-w
invariant-loop-w l = last_collate l.found (drop l.w-index l.own) ≡ last_collate None l.own
