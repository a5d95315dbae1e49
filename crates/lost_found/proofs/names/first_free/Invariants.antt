use Rattle.std.proofs.Common.{◌≡◌, ◌-◌, length}
use Rattle.lost_found.specs.Names.{free_from}
use Rattle.lost_found.proofs.names.first_free.Given as goal

abbrev pub invariant-loop-number : goal.invariant-loop-number
invariant-loop-number l =
    free_from (length l.names - l.number) l.number l.base l.names ≡ free_from (length l.names) 0 l.base l.names
