-- What each orphan tree adds (docs/ARCHITECTURE.md, "Order of use").
use Rattle.std.specs.Prelude.{◌≡◌, ℕ, List, ◌++◌, map}
use Rattle.page_walk.specs.Cells.{Outcome}
use Rattle.table_parts.specs.Lines.{note_lines}
use Rattle.salvaged_tables.specs.Salvaged.{failed_seen, lost_seen}
use Rattle.orphan_cells.specs.Orphaned.{tree_failed, tree_lost, tree_notes}
use Rattle.orphan_cells.specs.declared.cells.OrphanCells.{OrphanCells}

-- there is what the cells of a tree with this root give
pub record GainsTree (root : ℕ) (turns : List (ℕ × List Outcome)) (old new : OrphanCells) : Type 0 where
  pub lost : map lost_seen new.lost.items ≡ map lost_seen old.lost.items ++ tree_lost root turns
  pub failed : map failed_seen new.failed.items ≡ map failed_seen old.failed.items ++ tree_failed root turns
  pub lines : new.lines.items ≡ old.lines.items ++ note_lines (tree_notes turns)
