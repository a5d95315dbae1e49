use Rattle.std.proofs.Common.{◌≡◌, ◌++◌, drop, map}
use Rattle.std.specs.List.{list_any}
use Rattle.create_reader.specs.Faults.{bad_list}
use Rattle.create_reader.specs.Meaning.{places}
use Rattle.create_reader.specs.Views.{constraint_seen}
use Rattle.create_reader.proofs.causes.lists.Given as goal

abbrev pub invariant-loop-c : goal.invariant-loop-c
invariant-loop-c l = (list_any (bad_list l.table.columns.items) (map (λ k. constraint_seen l.table.columns.items k.now) (drop l.c-index l.taken))
    ≡ list_any (bad_list l.table.columns.items) (map (λ k. constraint_seen l.table.columns.items k.now) l.taken))
    × (map (λ list. list.items) l.found.items
    ++ map (λ c. places l.table.columns.items c.names) (map (λ k. constraint_seen l.table.columns.items k.now) (drop l.c-index l.taken))
    ≡ map (λ c. places l.table.columns.items c.names) (map (λ k. constraint_seen l.table.columns.items k.now) l.taken))
