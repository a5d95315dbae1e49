-- What holds of the uses of pages, whatever the bytes are (docs/ARCHITECTURE.md, "Order of use").
use Rattle.std.specs.Prelude.{◌≤◌, ℕ, ◌+◌, List}
use Rattle.std.specs.List.{AllByRecursion, flat_map}
use Rattle.page_access.specs.Pages.{File}
use Rattle.page_lists.specs.Lists.{count, minus}
use Rattle.page_walk.specs.Cells.{Outcome, Row}
use Rattle.page_walk.specs.Evidence.{AreOnce, Evidence}
use Rattle.page_walk.specs.Turns.{chains_on}
use Rattle.raw_schema.specs.Schema.{cells_in, schema_pages}
use Rattle.raw_schema.specs.declared.rows.SchemaRow.{SchemaRow}
use Rattle.tree_uses.specs.Trees.{Tree, chains_in, pages_in}
use Rattle.schema_texts.specs.declared.readings.TableReading.{TableReading}
use Rattle.use_order.specs.Apart.{AreApart}
use Rattle.use_order.specs.Order.{AreInOrder}

-- the pages of the chains that the schema's cells take
abbrev pub schema_chains : File → List ℕ → List ℕ
schema_chains f unused = chains_on f (schema_pages f unused) (minus unused (schema_pages f unused))

-- the pages that have a use: those of the schema's tree, of its chains, of the trees of tables and of indexes, and of the
-- chains of the tables' cells, as often as they do
abbrev pub times_used : File → List ℕ → List Tree → List Tree → List (List (ℕ × List Outcome)) → ℕ → ℕ
times_used f unused tables indexes turns q =
    count q (schema_pages f unused) + (count q (schema_chains f unused)
    + (count q (pages_in tables) + (count q (pages_in indexes) + count q (flat_map chains_in turns))))

-- the readable cells of the tables' trees, in order
abbrev pub table_cells : List (List (ℕ × List Outcome)) → List Row
table_cells turns = flat_map cells_in turns

-- each page has no use more often than it was unused: one use at most, where the unused pages are listed once
pub record UsesHold (f : File) (unused : List ℕ) (tables indexes : List Tree) (turns : List (List (ℕ × List Outcome))) : Type 0 where
  pub once : (q : ℕ) → times_used f unused tables indexes turns q ≤ count q unused
  -- each readable cell has its evidence
  pub evidence : AreOnce f.pages unused → AllByRecursion (Evidence f) (table_cells turns)
  -- no two of them share a cell or a page of their chains
  pub apart : AreOnce f.pages unused → AreApart (table_cells turns)

abbrev pub UsesAlwaysHold : Type 0
UsesAlwaysHold = (f : File) (unused : List ℕ) (rows : List SchemaRow) (rs : List TableReading) (tables indexes : List Tree)
    (turns : List (List (ℕ × List Outcome))) → AreInOrder f unused rows rs tables indexes turns → UsesHold f unused tables indexes turns
