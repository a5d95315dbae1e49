use Rattle.std.proofs.Common.{◌≡◌, ◌<◌, ◌+◌, ◌++◌, ◌∷◌, List, length, map, take}
use Rattle.table_shape.specs.declared.rows.OutTable.{OutTable}
use Rattle.table_shape.specs.Keys.{parts_seen}
use Rattle.db_builder.specs.Layout.{pages_of_trees}
use Rattle.db_builder.specs.Prepared.{rows_at}
use Rattle.db_builder.specs.SoFar.{IsSoFar}
use Rattle.db_builder.specs.Trees.{Tree, key_tree, table_tree}
use Rattle.db_builder.proofs.planners.Planner.add_table.Given as goal

-- the table's own tree is taken in, and those of the keys before this one
abbrev pub invariant-loop-key : goal.invariant-loop-key
invariant-loop-key l =
    (l.self.page_size ≡ l.fn.self.page_size)
    × ((tables : List OutTable) (done : List Tree) → l.number < length tables → rows_at tables l.number ≡ l.table.rows.items → IsSoFar tables done l.fn.self
    → IsSoFar tables (done ++ table_tree l.table ∷ map (λ k. key_tree l.table (parts_seen k)) (take l.key-index l.key-items)) l.self)
    × (l.self.before ≡ l.fn.self.before
    + pages_of_trees l.fn.self.page_size (table_tree l.table ∷ map (λ k. key_tree l.table (parts_seen k)) (take l.key-index l.key-items)))
