-- What holds of all that is gathered, whether the input tells its bytes or not.
use Rattle.std.specs.Prelude.{◌≡◌, ◌≤◌, ◌<◌, ◌^◌, ℕ, IsTrue, None, Option, Some, Result, Ok, Err, length, map, ⊤}
use Rattle.std.specs.List.{AllByRecursion}
use Rattle.page_access.specs.Pages.{is_page_size}
use Rattle.page_access.specs.declared.geometry.Geometry.{Geometry}
use Rattle.page_lists.specs.Table.{Table}
use Rattle.db_builder.specs.Valid.{IsValid}
use Rattle.table_shape.specs.declared.rows.OutTable.{OutTable}
use Rattle.tree_uses.specs.Trees.{tree_of}
use Rattle.use_order.specs.Order.{AreBelow, AreTreesOf}
use Rattle.orphan_trees.specs.Orphans.{IsOrphanOf, orphan_of}
use Rattle.orphan_cells.specs.Bounds.{IsRootOn}
use Rattle.salvaged_tables.specs.Bounds.{ArePlacesOn, IsOn}
use Rattle.salvaged_tables.specs.Salvaged.{HavePlaces}
use Rattle.salvaged_tables.specs.declared.places.FailedEntry.{FailedEntry}
use Rattle.salvage_core.specs.declared.faults.Fault.{Fault}
use Rattle.salvage_core.specs.declared.faults.Fault.TheVariants as faults
use Rattle.salvage_core.specs.declared.gathered.Gathered.{Gathered}

-- the pages of a file, none where there is no file
abbrev pub pages_of : Option Geometry → ℕ
pages_of None = 0
pages_of (Some geo) = geo.pages

-- The database can be written on pages of this size, and each of its tables has fewer than 2^32 rows; the table of uses has a
-- place for each page; each tree is that of a row of the schema; each row of each table has its place; and all pages that are
-- named, those of trees, of rows, and of cells that are not read, with their chains and roots, are pages of the table of uses.
pub record IsSound (g : Gathered) : Type 0 where
  pub valid : IsValid g.db
  pub few : AllByRecursion (λ (t : OutTable). length t.rows.items < 2 ^ 32) g.db.tables.items
  pub size : IsTrue (is_page_size g.page_size)
  pub least : 512 ≤ g.page_size
  pub most : g.page_size ≤ 65536
  pub uses : g.uses.pages ≡ pages_of g.geometry
  pub lists : length g.uses.lists ≡ 7
  pub below : AreBelow (length g.schema.items) (map tree_of g.trees.items)
  pub trees : AreTreesOf g.uses.pages g.trees.items
  pub orphans : AllByRecursion (IsOrphanOf g.uses.pages) (map orphan_of g.orphans.items)
  pub placed : HavePlaces g.db.tables.items g.places.items
  pub places : ArePlacesOn g.uses.pages g.places.items
  pub failed : AllByRecursion (λ (e : FailedEntry). IsOn g.uses.pages e.place.page e.chain.items) g.failed.items
  pub roots : AllByRecursion (λ (e : FailedEntry). IsRootOn g.uses.pages e.root) g.failed.items

-- a refusal of an input
abbrev pub OnlyOfInput : {A : Type 0} → Result A Fault → Type 0
OnlyOfInput (Err (faults.OutputTooLarge load)) = ⊥
OnlyOfInput (Err faults.OutputFault) = ⊥
OnlyOfInput (Err faults.ScriptFault) = ⊥
OnlyOfInput (Err faults.ReportFault) = ⊥
OnlyOfInput result = ⊤
