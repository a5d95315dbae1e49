use Rattle.std.proofs.Common.{◌≡◌, ◌&&◌, drop}
use Rattle.std.specs.List.{list_any}
use Rattle.create_reader.specs.Numbers.{single_integer}
use Rattle.create_reader.specs.Views.{constraints_seen}
use Rattle.create_reader.proofs.causes.has_integer_primary.Given as goal

abbrev pub invariant-loop-c : goal.invariant-loop-c
invariant-loop-c l = list_any (λ c. c.primary && single_integer l.columns c) (constraints_seen l.columns (drop l.c-index l.c-items)) ≡ list_any (λ c. c.primary && single_integer l.columns c) (constraints_seen l.columns l.c-items)
