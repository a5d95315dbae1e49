use Rattle.std.proofs.Common.{◌≡◌, ◌≤◌, ◌++◌, drop, map, length}
use Rattle.create_reader.specs.Numbers.{numbered, numbered_of}
use Rattle.create_reader.specs.Views.{IsKnown, constraint_seen, constraints_seen, seen}
use Rattle.create_reader.proofs.numbers.numbered.Given as goal

abbrev pub invariant-loop-constraint : goal.invariant-loop-constraint
invariant-loop-constraint l = let found = map (λ k. constraint_seen l.table.columns.items k.now) l.found.items in
    (length l.found.items ≤ 16) × IsKnown l.table.columns.items found l.known × (found
    ++ numbered (seen l.table) found (constraints_seen l.table.columns.items (drop l.constraint-index l.constraint-items))
    ≡ numbered_of (seen l.table))
