use Rattle.std.proofs.Common.{◌≡◌, drop}
use Rattle.create_reader.specs.Meaning.{alias_from}
use Rattle.create_reader.specs.Views.{constraints_seen, seen}
use Rattle.create_reader.proofs.meaning.alias_of.Given as goal

abbrev pub invariant-loop-c : goal.invariant-loop-c
invariant-loop-c l = alias_from (seen l.table) (constraints_seen l.table.columns.items (drop l.c-index l.c-items)) ≡ alias_from (seen l.table) (constraints_seen l.table.columns.items l.c-items)
