-- The pages of the trees and of their cells' chains, and those that are left.
use Rattle.std.proofs.Common.{◌≡◌, ◌≤◌, ℕ, ◌+◌, List, [], ◌∷◌, ◌++◌, map, refl, sym, ◌∙◌, ap, subst, arith}
use Rattle.std.specs.Prelude.{Option, pos, if◌then◌else◌}
use Rattle.std.specs.List.{flat_map}
use Rattle.page_access.specs.Pages.{File}
use Rattle.page_lists.specs.Lists.{IsPartOf, count, minus}
use Rattle.page_lists.specs.Table.{is_page}
use Rattle.page_lists.proofs.Counts.{count-append, count-minus}
use Rattle.cell_reader.specs.declared.shapes.Kind.TheVariants as kinds
use Rattle.page_walk.specs.Cells.{Outcome, Row}
use Rattle.page_walk.specs.Evidence.{AreOnce}
use Rattle.page_walk.specs.Turns.{chains_on}
use Rattle.page_walk.proofs.Chains.{chains_are_unused, walks_are_unused}
use Rattle.raw_schema.specs.Schema.{cells_in, schema_pages}
use Rattle.raw_schema.specs.declared.rows.SchemaRow.{SchemaRow}
use Rattle.schema_texts.specs.declared.readings.TableReading.{TableReading}
use Rattle.tree_uses.specs.Trees as trees
use Rattle.tree_uses.proofs.Splits.{trees_are_unused, trees_take_turns}
use Rattle.use_order.specs.Laws.{schema_chains, table_cells, times_used}
use Rattle.use_order.specs.Order.{AreInOrder, behind_schema, behind_uses, index_trees, table_tree}
use Rattle.salvaged_tables.specs.Fates.{AreFates, TableFate}
use Rattle.salvaged_tables.specs.Laws.{all_cells}
use Rattle.orphan_trees.specs.Orphans.{Orphan, pages_in}
use Rattle.orphan_uses.specs.Laws.{OrphanUsesHold}
use Rattle.orphan_uses.proofs.Holding.{uses_hold}
use Rattle.salvage_laws.specs.Laws.{EachPageOnce}
use Rattle.salvage_laws.specs.Stored.{AreStored, chain_pages, tree_pages}

-- ---- what the schema, the tables and the indexes leave

pub used_and_left : (f : File) (u : List ℕ) (rows : List SchemaRow) (rs : List TableReading) (tables indexes : List trees.Tree)
    (turns : List (List (ℕ × List Outcome))) → AreInOrder f u rows rs tables indexes turns → (q : ℕ)
    → times_used f u tables indexes turns q + count q (behind_uses f u tables indexes turns) ≡ count q u
used_and_left f u rows rs tables indexes turns o q =
    let s : List ℕ = schema_pages f u in
    let a : List ℕ = minus u s in
    let b : List ℕ = behind_schema f u in
    let c : List ℕ = minus b (trees.pages_in tables) in
    let d : List ℕ = minus c (trees.pages_in indexes) in
    let third : IsPartOf (trees.pages_in tables) b =
    subst (λ (ts : List trees.Tree). IsPartOf (trees.pages_in ts) b) (sym o.tables_are) (trees_are_unused f _ (map table_tree rs) b) in
    let fourth : IsPartOf (trees.pages_in indexes) c =
    subst (λ (ts : List trees.Tree). IsPartOf (trees.pages_in ts) c) (sym o.indexes_are) (trees_are_unused f _ (index_trees 0 rows) c) in
    let chains : flat_map trees.chains_in turns ≡ chains_on f (trees.pages_in tables) d =
    ap (flat_map trees.chains_in) o.turns_are ∙ (trees_take_turns f tables d).chains in
    let fifth : IsPartOf (flat_map trees.chains_in turns) d =
    subst (λ (ps : List ℕ). IsPartOf ps d) (sym chains) (chains_are_unused f (trees.pages_in tables) d) in
    omega (
      arith,
      count-minus q u s (walks_are_unused f u (pos 1) kinds.Table).part,
      count-minus q a (schema_chains f u) (chains_are_unused f s a),
      count-minus q b (trees.pages_in tables) third,
      count-minus q c (trees.pages_in indexes) fourth,
      count-minus q d (flat_map trees.chains_in turns) fifth,
    )

-- the pages that are left are pages of the file, each once
pub left_once : (f : File) (u : List ℕ) (rows : List SchemaRow) (rs : List TableReading) (tables indexes : List trees.Tree)
    (turns : List (List (ℕ × List Outcome))) → AreInOrder f u rows rs tables indexes turns → AreOnce f.pages u
    → AreOnce f.pages (behind_uses f u tables indexes turns)
left_once f u rows rs tables indexes turns o once q = omega (arith, once q, used_and_left f u rows rs tables indexes turns o q)

pub each_page_once : EachPageOnce
each_page_once f u trunk fates orphans cells s q =
    let left : List ℕ = behind_uses f u s.tables s.indexes s.turns in
    let given : OrphanUsesHold f left trunk orphans cells = uses_hold f left trunk orphans cells s.orphans_are in
    omega (arith, s.once q, used_and_left f u s.rows s.readings s.tables s.indexes s.turns s.order q, given.once q)

-- ---- the trees of the fates

pub record SameTrees (tables : List trees.Tree) (turns : List (List (ℕ × List Outcome))) (fates : List TableFate) : Type 0 where
  pub pages : trees.pages_in tables ≡ flat_map (λ (t : TableFate). t.pages) fates
  pub chains : flat_map trees.chains_in turns ≡ flat_map (λ (t : TableFate). trees.chains_in t.turns) fates
  pub cells : table_cells turns ≡ all_cells fates

pub same_trees : (rows : List SchemaRow) (rs : List TableReading) (tables : List trees.Tree) (turns : List (List (ℕ × List Outcome)))
    (fates : List TableFate) → AreFates rows rs tables turns fates → SameTrees tables turns fates
same_trees rows [] [] [] [] are = record { pages = refl; chains = refl; cells = refl }
same_trees rows (r ∷ rs) (t ∷ tables) (ts ∷ turns) (f ∷ fates) are =
    let rest : SameTrees tables turns fates = same_trees rows rs tables turns fates are.1 in
    record {
      pages = ap (λ (ps : List ℕ). ps ++ trees.pages_in tables) (sym are.0.pages_are)
          ∙ ap (λ (ps : List ℕ). f.pages ++ ps) rest.pages;
      chains = ap (λ (us : List (ℕ × List Outcome)). trees.chains_in us ++ flat_map trees.chains_in turns) (sym are.0.turns_are)
          ∙ ap (λ (ps : List ℕ). trees.chains_in f.turns ++ ps) rest.chains;
      cells = ap (λ (us : List (ℕ × List Outcome)). cells_in us ++ table_cells turns) (sym are.0.turns_are)
          ∙ ap (λ (more : List Row). cells_in f.turns ++ more) rest.cells;
    }
same_trees rows rs tables turns fates are = absurd are

-- the pages that are read are pages of the file, each once
pub each_read_once : (f : File) (u : List ℕ) (trunk : Option ℕ) (fates : List TableFate) (orphans : List Orphan)
    (cells : List (List (ℕ × List Outcome))) → AreStored f u trunk fates orphans cells → (q : ℕ)
    → count q (tree_pages f u fates orphans) + count q (chain_pages f u fates cells) ≤ (if is_page f.pages q then 1 else 0)
each_read_once f u trunk fates orphans cells s q =
    let same : SameTrees s.tables s.turns fates = same_trees s.rows s.readings s.tables s.turns fates s.fates_are in
    let ps : List ℕ = flat_map (λ (t : TableFate). t.pages) fates in
    let cs : List ℕ = flat_map (λ (t : TableFate). trees.chains_in t.turns) fates in
    omega (
      arith,
      each_page_once f u trunk fates orphans cells s q,
      ap (count q) same.pages,
      ap (count q) same.chains,
      count-append q (schema_pages f u) (ps ++ pages_in orphans),
      count-append q ps (pages_in orphans),
      count-append q (schema_chains f u) (cs ++ flat_map trees.chains_in cells),
      count-append q cs (flat_map trees.chains_in cells),
    )
