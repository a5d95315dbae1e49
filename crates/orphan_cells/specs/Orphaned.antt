-- What the cells of orphan trees give: lost cells, the cells that are not read, and lines of the report
-- (docs/ARCHITECTURE.md, "Order of use"; docs/TEXTS.md, "The report").
use Rattle.std.specs.Prelude.{◌≡◌, ℕ, ◌-◌, ◌^◌, min, List, [], ◌∷◌, ◌++◌, length, map}
use Rattle.std.specs.List.{flat_map}
use Rattle.page_walk.specs.declared.rows.PageNotes.{PageNotes}
use Rattle.page_walk.specs.Cells.{Outcome, Row}
use Rattle.raw_schema.specs.Schema.{cells_in, noted}
use Rattle.report_text.specs.declared.ReportLine.{ReportLine}
use Rattle.report_text.specs.declared.ReportLine.TheVariants as lines
use Rattle.orphan_trees.specs.Orphans.{Orphan, pages_in}
use Rattle.table_parts.specs.Lines.{note_lines}
use Rattle.salvaged_tables.specs.Fates.{Failed, failed_on}
use Rattle.salvaged_tables.specs.Salvaged.{failed_seen, lost_seen}
use Rattle.orphan_cells.specs.declared.cells.OrphanCells.{OrphanCells}

-- the readable cells of a tree with this root, page after page in cell order, each with the root
abbrev pub tree_lost : ℕ → List (ℕ × List Outcome) → List (ℕ × Row)
tree_lost root turns = map (λ (r : Row). (root, r)) (cells_in turns)

-- its cells that are not read for their chain or their record
abbrev pub tree_failed : ℕ → List (ℕ × List Outcome) → List Failed
tree_failed root turns = flat_map (failed_on root) turns

-- its pages with unread cells
abbrev pub tree_notes : List (ℕ × List Outcome) → List (ℕ × PageNotes)
tree_notes turns = flat_map noted turns

-- those of orphan trees, tree after tree, where each has its turns
abbrev pub orphan_lost : List Orphan → List (List (ℕ × List Outcome)) → List (ℕ × Row)
orphan_lost (t ∷ trees) (ts ∷ turns) = tree_lost t.root ts ++ orphan_lost trees turns
orphan_lost trees turns = []

abbrev pub orphan_failed : List Orphan → List (List (ℕ × List Outcome)) → List Failed
orphan_failed (t ∷ trees) (ts ∷ turns) = tree_failed t.root ts ++ orphan_failed trees turns
orphan_failed trees turns = []

-- the number of pages of trees, as far as 64 bits count
abbrev pub page_count : List Orphan → ℕ
page_count trees = min (length (pages_in trees)) (2 ^ 64 - 1)

-- the line of the trees and their pages, and then those of the pages with unread cells
abbrev pub orphan_lines : List Orphan → List (List (ℕ × List Outcome)) → List ReportLine
orphan_lines trees turns = lines.Orphans (length trees) (page_count trees) ∷ note_lines (flat_map tree_notes turns)

-- what the cells of these trees give
pub record AreOrphanCells (trees : List Orphan) (turns : List (List (ℕ × List Outcome))) (v : OrphanCells) : Type 0 where
  pub lost_are : map lost_seen v.lost.items ≡ orphan_lost trees turns
  pub failed_are : map failed_seen v.failed.items ≡ orphan_failed trees turns
  pub lines_are : v.lines.items ≡ orphan_lines trees turns
