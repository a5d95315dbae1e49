-- The lines of a table in the report (docs/TEXTS.md, "The report").
use Rattle.std.specs.Prelude.{ℕ, Option, Some, None, List, [], ◌∷◌, ◌++◌, length, map}
use Rattle.std.specs.List.{flat_map}
use Rattle.page_walk.specs.declared.causes.CellCause.{CellCause}
use Rattle.page_walk.specs.declared.rows.PageNotes.{PageNotes}
use Rattle.page_walk.specs.Cells.{Row}
use Rattle.table_fill.specs.declared.fates.Fate.{Fate}
use Rattle.table_fill.specs.declared.fates.Fate.TheVariants.{Clash, Misfit}
use Rattle.table_fill.specs.Chosen.{left_seen}
use Rattle.table_fill.specs.Fates.{Left}
use Rattle.report_text.specs.declared.ReportLine.{ReportLine}
use Rattle.report_text.specs.declared.ReportLine.TheVariants as lines
use Rattle.table_parts.specs.declared.parts.TablePart.{TablePart}
use Rattle.table_parts.specs.declared.parts.TablePart.TheVariants.{Built, Unread}

-- the line of a cell that clashes, and of one that does not fit
abbrev pub clash_line : List ℕ → Row → Fate → List ReportLine
clash_line name row (Clash earlier key) = lines.Clash name row.page row.cell earlier.page earlier.cell key ∷ []
clash_line name row Misfit = []

abbrev pub misfit_line : List ℕ → Row → Fate → List ReportLine
misfit_line name row (Clash earlier key) = []
misfit_line name row Misfit = lines.Misfit name row.page row.cell ∷ []

-- those of the cells that are no rows, in cell order
abbrev pub clash_lines : List ℕ → List Left → List ReportLine
clash_lines name left = flat_map (λ (l : Left). clash_line name l.row l.fate) left

abbrev pub misfit_lines : List ℕ → List Left → List ReportLine
misfit_lines name left = flat_map (λ (l : Left). misfit_line name l.row l.fate) left

-- the line of a page with unread cells
abbrev pub note_line : ℕ → ℕ → Option (ℕ × CellCause) → List ReportLine
note_line page unread None = []
note_line page unread (Some first) = lines.Cells page unread first.0 first.1 ∷ []

abbrev pub note_lines : List (ℕ × PageNotes) → List ReportLine
note_lines notes = flat_map (λ (n : ℕ × PageNotes). note_line n.0 n.1.unread n.1.first) notes

-- the table's own line: how many rows, clashes, misfits and pages, or why it is not built
abbrev pub head_lines : List ℕ → ℕ → TablePart → List ReportLine
head_lines name pages (Built shape rows left) =
    lines.Table name (length rows.items) (length (clash_lines name (map left_seen left.items))) (length (misfit_lines name (map left_seen left.items))) pages
    ∷ (clash_lines name (map left_seen left.items) ++ misfit_lines name (map left_seen left.items))
head_lines name pages (Unread cause cells) = lines.Unread name (length cells.items) pages cause ∷ []

-- all lines of a table: its own, then the clashes, the misfits, and the pages with unread cells
abbrev pub table_lines : List ℕ → ℕ → TablePart → List (ℕ × PageNotes) → List ReportLine
table_lines name pages part notes = head_lines name pages part ++ note_lines notes
