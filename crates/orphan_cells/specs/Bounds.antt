-- The pages that the cells of orphan trees name are pages of the file, and the cells have few fields (docs/ARCHITECTURE.md,
-- "Bounds").
use Rattle.std.specs.Prelude.{◌≤◌, ℕ, List, length}
use Rattle.std.specs.List.{AllByRecursion}
use Rattle.salvaged_tables.specs.Bounds.{IsOn}
use Rattle.salvaged_tables.specs.declared.places.FailedEntry.{FailedEntry}
use Rattle.salvaged_tables.specs.declared.places.LostCell.{LostCell}
use Rattle.orphan_cells.specs.declared.cells.OrphanCells.{OrphanCells}

-- a root is one of the pages 1 to `pages`
abbrev pub IsRootOn : ℕ → ℕ → Type 0
IsRootOn pages root = (1 ≤ root) × (root ≤ pages)

-- the cells, the pages of their chains and the roots of their trees are on pages 1 to `pages`
pub record AreOrphansOn (pages : ℕ) (v : OrphanCells) : Type 0 where
  pub lost : AllByRecursion (λ (l : LostCell). IsOn pages l.cell.place.page l.cell.chain.items) v.lost.items
  pub failed : AllByRecursion (λ (e : FailedEntry). IsOn pages e.place.page e.chain.items) v.failed.items
  pub lost_roots : AllByRecursion (λ (l : LostCell). IsRootOn pages l.root) v.lost.items
  pub failed_roots : AllByRecursion (λ (e : FailedEntry). IsRootOn pages e.root) v.failed.items

-- each lost cell has few fields
abbrev pub HaveFewFields : List LostCell → Type 0
HaveFewFields cells = AllByRecursion (λ (l : LostCell). length l.cell.fields.items ≤ 1996) cells
