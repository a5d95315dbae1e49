use Rattle.std.proofs.Common.{take}
use Rattle.lost_found.specs.Small.{HasSmall}
use Rattle.lost_found.proofs.names.small_names.Given as goal

abbrev pub invariant-loop-name : goal.invariant-loop-name
invariant-loop-name l = HasSmall (take l.name-index l.names) l.small
