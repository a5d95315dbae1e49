-- The uses of the pages of a file, as the program holds them.
use Rattle.std.specs.Prelude.{◌≡◌, ◌≤◌, ℕ, ◌*◌, ◌/◌, Option, List, length, map}
use Rattle.std.specs.List.{AllByRecursion}
use Rattle.cell_reader.specs.declared.shapes.Kind.{Kind}
use Rattle.page_access.specs.Pages.{File}
use Rattle.page_lists.specs.Table.{fresh}
use Rattle.page_walk.specs.Cells.{row_of}
use Rattle.page_walk.specs.InTurn.{IsSmallTurn}
use Rattle.raw_schema.specs.Bounds.{IsSmallCell}
use Rattle.tree_uses.specs.Trees.{HaveTurns, pages_in as tree_pages, tree_of, turns_of}
use Rattle.schema_texts.specs.Readings.{AreReadings}
use Rattle.use_order.specs.Order.{AreInOrder, AreMatched, AreTreesOf, IsSchema, after_uses, behind_uses}
use Rattle.use_order.specs.declared.uses.FileUses.{FileUses}
use Rattle.orphan_trees.specs.Orphans.{IsOrphanOf, orphan_of, pages_in as orphan_pages}
use Rattle.orphan_uses.specs.Order.{AreOrphans, HaveOrphanTurns, after_orphans}
use Rattle.orphan_uses.specs.declared.uses.OrphanUses.{OrphanUses}
use Rattle.salvage_core.specs.declared.uses.FoundUses.{FoundUses}
use Rattle.salvage_core.specs.Plan.{pages_in}

-- the uses are those of the file, over a table in which all its pages were unused
pub record AreUses (f : File) (trunk : Option ℕ) (u : FoundUses) : Type 0 where
  pub order : AreInOrder f (pages_in f) u.uses.schema.rows.items u.uses.readings.items
      (map tree_of u.uses.tables.items) (map tree_of u.uses.indexes.items) (map turns_of u.uses.turns.items)
  pub schema : IsSchema f (pages_in f) u.uses.schema
  pub orphans : AreOrphans f (behind_uses f (pages_in f) (map tree_of u.uses.tables.items)
      (map tree_of u.uses.indexes.items) (map turns_of u.uses.turns.items))
      trunk (map orphan_of u.orphans.trees.items) (map turns_of u.orphans.turns.items)
  pub moved : u.table ≡ after_orphans f (after_uses f (fresh f.pages 6) (map tree_of u.uses.tables.items)
      (map tree_of u.uses.indexes.items) (map turns_of u.uses.turns.items))
      trunk (map orphan_of u.orphans.trees.items) (map turns_of u.orphans.turns.items)

-- the texts of the table rows are read, by some kinds of the pages; each has a tree, and each tree few cells a page; the trees
-- have no more pages than the file, and a turn for each; and few readable cells of the schema's tree are no rows of it
pub record HaveReadings (usable pages : ℕ) (u : FileUses) : Type 0 where
  pub kinds : List (Option Kind)
  pub readings : AreReadings kinds pages u.schema.rows.items u.readings.items
  pub trees : length u.tables.items ≡ length u.readings.items
  pub turns : length u.turns.items ≡ length u.readings.items
  pub small : AllByRecursion (AllByRecursion (IsSmallTurn usable pages)) (map turns_of u.turns.items)
  pub bad : AllByRecursion (IsSmallCell usable pages) (map row_of u.schema.bad.items)
  pub matched : AreMatched u.schema.rows.items u.readings.items (map tree_of u.tables.items) (map tree_of u.indexes.items)
      (map turns_of u.turns.items)
  pub tables : AreTreesOf pages u.tables.items
  pub indexes : AreTreesOf pages u.indexes.items
  pub each : HaveTurns (map tree_of u.tables.items) (map turns_of u.turns.items)
  pub few : length (tree_pages (map tree_of u.tables.items)) ≤ pages
  pub few_bad : length u.schema.bad.items ≤ pages * (usable / 2)

-- each orphan tree is one of pages of the file, and has few cells a page; they have no more pages than the file, and a turn for
-- each
pub record HaveOrphans (usable pages : ℕ) (u : OrphanUses) : Type 0 where
  pub trees : AllByRecursion (IsOrphanOf pages) (map orphan_of u.trees.items)
  pub turns : length u.turns.items ≡ length u.trees.items
  pub small : AllByRecursion (AllByRecursion (IsSmallTurn usable pages)) (map turns_of u.turns.items)
  pub each : HaveOrphanTurns (map orphan_of u.trees.items) (map turns_of u.turns.items)
  pub few : length (orphan_pages (map orphan_of u.trees.items)) ≤ pages
