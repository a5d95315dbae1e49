-- What the report tells of the cells that no table has (docs/FORMAT.md, "Keys and clashes"; docs/TEXTS.md,
-- "The report").
use Rattle.std.specs.Prelude.{◌≡◌, ◌<◌, ℕ, false, List, ◌∷◌, ◌++◌, length, map}
use Rattle.std.specs.List.{AllByRecursion, Contains}
use Rattle.page_walk.specs.declared.outcomes.Place.{Place}
use Rattle.page_walk.specs.Cells.{Row, row_of}
use Rattle.raw_schema.specs.Schema.{cells_in}
use Rattle.report_text.specs.declared.ReportLine.{ReportLine}
use Rattle.report_text.specs.declared.ReportLine.TheVariants as lines
use Rattle.table_shape.specs.Keys.{Keys, fits, keys_of}
use Rattle.table_shape.specs.Seen.{shape_seen}
use Rattle.table_fill.specs.declared.fates.Fate.{Fate}
use Rattle.table_fill.specs.declared.fates.Fate.TheVariants.{Clash, Misfit}
use Rattle.table_fill.specs.Chosen.{left_seen}
use Rattle.table_fill.specs.Fates.{Left, held, sorted_of}
use Rattle.table_fill.specs.Laws.{ClashBy, IsClash}
use Rattle.table_parts.specs.declared.parts.TablePart.{TablePart}
use Rattle.table_parts.specs.declared.parts.TablePart.TheVariants.{Built, Unread}
use Rattle.salvaged_tables.specs.Fates.{TableFate}

-- these lines are among all lines
abbrev pub AreAmong : List ReportLine → List ReportLine → Type 0
AreAmong some all = (line : ReportLine) → Contains some line → Contains all line

-- the line of a cell that is no row of its table, with the place and the key of a clash
abbrev pub lost_line : List ℕ → Row → Fate → ReportLine
lost_line name row (Clash earlier key) = lines.Clash name row.page row.cell earlier.page earlier.cell key
lost_line name row Misfit = lines.Misfit name row.page row.cell

-- a cell fits and clashes by this key with the row at `earlier`, one of the rows before it, and with none of
-- them by a lesser key
pub record IsClashing (t : Keys) (before : List Row) (r : Row) (earlier : Place) (key : ℕ) : Type 0 where
  pub clash : IsClash t before r earlier key
  pub least : (n : ℕ) → n < key → AllByRecursion (λ (k : Row). ClashBy t n (held k) (held r) → ⊥) before

-- why a cell is no row, where these rows of its table stand before it
abbrev pub IsReason : Keys → List Row → Row → Fate → Type 0
IsReason t before r (Clash earlier key) = IsClashing t before r earlier key
IsReason t before r Misfit = fits t (held r) ≡ false

-- A lost cell of a table that is built: the cells in front of it, of which those that are kept are rows of
-- the table; why it is none; and its line, which is among all lines.
pub record IsLost (all : List ReportLine) (name : List ℕ) (t : Keys) (cells rows : List Row) (l : Left)
    : Type 0 where
  pub front : List Row
  pub rest : List Row
  pub cells_are : cells ≡ front ++ l.row ∷ rest
  pub of_table : AllByRecursion (Contains rows) (sorted_of t front).kept
  pub reason : IsReason t (sorted_of t front).kept l.row l.fate
  pub line : Contains all (lost_line name l.row l.fate)

-- each cell that is no row of a table has its line; a table that is not built has its own, with the number of
-- its cells
abbrev pub IsToldPart : List ReportLine → List ℕ → ℕ → List Row → TablePart → Type 0
IsToldPart all name pages cells (Built shape rows left) =
    AllByRecursion (IsLost all name (keys_of (shape_seen shape)) cells (map row_of rows.items))
    (map left_seen left.items)
IsToldPart all name pages cells (Unread cause given) =
    Contains all (lines.Unread name (length cells) pages cause)

-- the same of a table row of the schema and the cells of its tree
abbrev pub IsTold : List ReportLine → TableFate → Type 0
IsTold all f = IsToldPart all f.row.name (length f.pages) (cells_in f.turns) f.part
