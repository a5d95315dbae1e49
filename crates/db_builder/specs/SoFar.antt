-- Trees that are planned one behind another.
use Rattle.std.specs.Prelude.{◌≡◌, ◌<◌, ◌+◌, ◌^◌, ℕ, List, length}
use Rattle.std.specs.List.{AllZip}
use Rattle.table_shape.specs.declared.rows.OutRow.{OutRow}
use Rattle.table_shape.specs.declared.rows.OutTable.{OutTable}
use Rattle.tree_writer.specs.Trees.{tree_count}
use Rattle.db_builder.specs.declared.plans.MadeTree.{MadeTree}
use Rattle.db_builder.specs.declared.planners.Planner.{Planner}
use Rattle.db_builder.specs.Layout.{Placed, pages_of_trees, placed, start_of}
use Rattle.db_builder.specs.Prepared.{IsPlanned, rows_at}
use Rattle.db_builder.specs.Trees.{Tree}

-- trees that are planned so far
pub record IsSoFar (tables : List OutTable) (done : List Tree) (p : Planner) : Type 0 where
  pub planned : AllZip (IsPlanned p.page_size tables p.longest) (placed p.page_size 0 done) p.trees.items
  pub before : p.before ≡ pages_of_trees p.page_size done

-- a tree behind the pages of others
abbrev pub next_placed : Planner → Tree → Placed
next_placed p tree = record { start = start_of p.page_size p.before; tree = tree }

-- there are numbers for the pages of the next tree
abbrev pub HasPages : Planner → Tree → Type 0
HasPages p tree = p.before + tree_count p.page_size tree.kind tree.entries < 2 ^ 31

-- the next tree is planned, over rows that are those of a table with this number
pub record IsMade (p : Planner) (number : ℕ) (rows : List OutRow) (tree : Tree) (made : MadeTree) : Type 0 where
  pub planned : (tables : List OutTable) → number < length tables → rows_at tables number ≡ rows
      → IsPlanned p.page_size tables made.longest (next_placed p tree) made.tree
  pub count : made.tree.plan.count ≡ tree_count p.page_size tree.kind tree.entries
