-- What holds of all cells that are written of a file, whatever its bytes are (docs/FORMAT.md, "Readable cells",
-- "Keys and clashes" and "The table of lost cells"; docs/ARCHITECTURE.md, "Order of use").
use Rattle.std.specs.Prelude.{◌≡◌, ◌≤◌, ◌⊎◌, ℕ, ◌+◌, true, false, if◌then◌else◌, Option, List, map}
use Rattle.std.specs.List.{AllByRecursion, AllPairs, flat_map, range_with_len}
use Rattle.std.specs.List.Sorted.{IsPermutation}
use Rattle.page_access.specs.Pages.{File}
use Rattle.page_lists.specs.Lists.{count, is_in}
use Rattle.page_lists.specs.Table.{is_page}
use Rattle.page_walk.specs.Cells.{Outcome, Row}
use Rattle.page_walk.specs.Evidence.{AreOnce, Evidence}
use Rattle.use_order.specs.Apart.{AreApart}
use Rattle.use_order.specs.Laws.{times_used}
use Rattle.use_order.specs.Order.{behind_uses}
use Rattle.report_text.specs.declared.ReportLine.{ReportLine}
use Rattle.table_shape.specs.Keys.{AreRows, keys_of}
use Rattle.table_fill.specs.Fates.{held}
use Rattle.salvaged_tables.specs.Fates.{StoredTable, TableFate, fate_lines, table_of}
use Rattle.salvaged_tables.specs.Laws.{all_rows}
use Rattle.orphan_trees.specs.Orphans.{Orphan}
use Rattle.orphan_uses.specs.Laws.{times_given}
use Rattle.salvage_laws.specs.Room.{FitFile}
use Rattle.salvage_laws.specs.Stored.{AreStored, chain_pages, kept_cells, readable_cells, stored_rows, tree_pages}
use Rattle.salvage_laws.specs.Told.{AreAmong, IsTold}

-- ---- the pages

-- the pages 1 to n of a file are pages of it, each once
abbrev pub PagesAreOnce : Type 0
PagesAreOnce = (f : File) → AreOnce f.pages (range_with_len 1 f.pages)

-- each page has one use at most, over all lists: in the schema's tree, the trees of tables and of indexes, the
-- freelist, the orphan trees, and the overflow chains; what is no page of the file has none
abbrev pub EachPageOnce : Type 0
EachPageOnce = (f : File) (unused : List ℕ) (trunk : Option ℕ) (fates : List TableFate) (orphans : List Orphan)
    (cells : List (List (ℕ × List Outcome))) (s : AreStored f unused trunk fates orphans cells) (q : ℕ)
    → times_used f unused s.tables s.indexes s.turns q
    + times_given f (behind_uses f unused s.tables s.indexes s.turns) trunk orphans cells q
    ≤ (if is_page f.pages q then 1 else 0)

-- ---- the cells

-- two rows share nothing: they are not one cell, no page is in the chains of both, none of them stands on a
-- page of the other's chain, and, with evidence, their cells share no byte
pub record ShareNothing (f : File) (a b : Row) : Type 0 where
  pub places : a.page ≡ b.page → a.cell ≡ b.cell → ⊥
  pub chains : (q : ℕ) → is_in q a.chain ≡ true → is_in q b.chain ≡ false
  pub holds : (is_in a.page b.chain ≡ false) × (is_in b.page a.chain ≡ false)
  pub bytes : (x : Evidence f a) (y : Evidence f b) → a.page ≡ b.page
      → (x.view.end ≤ y.view.start) ⊎ (y.view.end ≤ x.view.start)

-- the cells of two rows with evidence on one page share no byte
abbrev pub RangesAreApart : Type 0
RangesAreApart = (f : File) (a b : Row) (x : Evidence f a) (y : Evidence f b) → a.page ≡ b.page
    → (a.cell ≡ b.cell → ⊥) → (x.view.end ≤ y.view.start) ⊎ (y.view.end ≤ x.view.start)

-- the rows of a stored table fit it, rise strictly by rowid or primary key, and no two clash; their key
-- fields can be ordered
abbrev pub IsGood : StoredTable → Type 0
IsGood t = AreRows (keys_of t.shape) (map held t.rows)

-- What holds of the cells that are written of a file.
pub record SalvageHolds (f : File) (unused : List ℕ) (fates : List TableFate) (orphans : List Orphan)
    (cells : List (List (ℕ × List Outcome))) : Type 0 where
  -- each has its evidence in the file
  pub evidence : AllByRecursion (Evidence f) (kept_cells f unused fates orphans cells)
  -- any two share nothing
  pub pairs : AllPairs (ShareNothing f) (kept_cells f unused fates orphans cells)
  -- they are the readable cells, each once
  pub once : IsPermutation (readable_cells f unused fates cells) (kept_cells f unused fates orphans cells)
  -- the pages of the trees and of the overflow chains are pages of the file, each once
  pub uses : (q : ℕ) → count q (tree_pages f unused fates orphans) + count q (chain_pages f unused fates cells)
      ≤ (if is_page f.pages q then 1 else 0)
  -- the rows of each table are good rows of it
  pub good : AllByRecursion IsGood (flat_map table_of fates)
  -- they have room in the file: four usable bytes each, and one for each byte of their payloads
  pub room : FitFile f (kept_cells f unused fates orphans cells)

-- ---- the laws

-- a law of what is written
abbrev pub Always : (File → List ℕ → List TableFate → List Orphan → List (List (ℕ × List Outcome)) → Type 0) → Type 0
Always holds = (f : File) (unused : List ℕ) (trunk : Option ℕ) (fates : List TableFate) (orphans : List Orphan)
    (cells : List (List (ℕ × List Outcome)))
    → AreStored f unused trunk fates orphans cells → holds f unused fates orphans cells

-- all that is said above
abbrev pub SalvageAlwaysHolds : Type 0
SalvageAlwaysHolds = Always SalvageHolds

-- the rows of the tables that are built are cells as they were read
abbrev pub StoredAreCells : Type 0
StoredAreCells = Always (λ f u fates os cs. stored_rows (flat_map table_of fates) ≡ all_rows fates)

-- each cell that is written has its evidence in the file
abbrev pub KeptHaveEvidence : Type 0
KeptHaveEvidence = Always (λ f u fates os cs. AllByRecursion (Evidence f) (kept_cells f u fates os cs))

-- no two of them share a cell or a page of their chains, and no page of a chain holds one
abbrev pub KeptAreApart : Type 0
KeptAreApart = Always (λ f u fates os cs. AreApart (kept_cells f u fates os cs))

-- any two of them share nothing
abbrev pub KeptShareNothing : Type 0
KeptShareNothing = Always (λ f u fates os cs. AllPairs (ShareNothing f) (kept_cells f u fates os cs))

-- they are the readable cells, each once
abbrev pub EachCellOnce : Type 0
EachCellOnce = Always (λ f u fates os cs. IsPermutation (readable_cells f u fates cs) (kept_cells f u fates os cs))

-- they have room in the file: four usable bytes each, and one for each byte of their payloads
abbrev pub KeptFitFile : Type 0
KeptFitFile = Always (λ f u fates os cs. FitFile f (kept_cells f u fates os cs))

-- wherever the lines of the tables are told, each lost cell of a table that is built has its clash or misfit
-- among them, and each table that is not built its own line
abbrev pub LostAreTold : Type 0
LostAreTold = Always (λ f u fates os cs. (all : List ReportLine) → AreAmong (flat_map fate_lines fates) all
    → AllByRecursion (IsTold all) fates)

-- the rows of the tables that are built fit them, rise, and do not clash
abbrev pub StoredAreGood : Type 0
StoredAreGood = Always (λ f u fates os cs. AllByRecursion IsGood (flat_map table_of fates))
