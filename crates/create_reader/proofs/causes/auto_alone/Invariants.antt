use Rattle.std.proofs.Common.{◌≡◌, ◌&&◌, drop}
use Rattle.std.specs.List.{list_any}
use Rattle.create_reader.specs.Numbers.{makes_alias}
use Rattle.create_reader.specs.Views.{constraints_seen, seen}
use Rattle.std.proofs.Common.{not}
use Rattle.create_reader.proofs.causes.auto_alone.Given as goal

abbrev pub invariant-loop-c : goal.invariant-loop-c
invariant-loop-c l = list_any (λ c. c.auto && not (makes_alias (seen l.table) c)) (constraints_seen l.table.columns.items (drop l.c-index l.c-items)) ≡ list_any (λ c. c.auto && not (makes_alias (seen l.table) c)) (constraints_seen l.table.columns.items l.c-items)
