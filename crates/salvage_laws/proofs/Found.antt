-- All readable cells: those of the schema's tree, of the tables' trees and of the orphan trees.
use Rattle.std.proofs.Common.{◌≡◌, ℕ, not, List, ◌++◌, refl, sym, subst, arith, append_assoc}
use Rattle.std.specs.Prelude.{Option, filter, is_none, pos}
use Rattle.std.specs.List.{AllByRecursion, flat_map}
use Rattle.std.specs.List.Sorted.{IsPermutation}
use Rattle.std.proofs.lemmas.List.Sorted.{IsPermutation-append_comm, IsPermutation-append_left, IsPermutation-append_right, IsPermutation-filter_both, IsPermutation-trans}
use Rattle.page_access.specs.Pages.{File}
use Rattle.page_lists.specs.Lists.{minus}
use Rattle.page_lists.specs.Table.{is_page}
use Rattle.page_lists.proofs.Counts.{at_most_one}
use Rattle.cell_reader.specs.declared.shapes.Kind.TheVariants as kinds
use Rattle.page_walk.specs.Cells.{Outcome, Row}
use Rattle.page_walk.specs.Evidence.{AreOnce, Evidence}
use Rattle.page_walk.proofs.Chains.{walks_are_unused}
use Rattle.page_walk.proofs.Going.{all_append}
use Rattle.page_walk.proofs.Witness.{pages_have_evidence}
use Rattle.raw_schema.specs.Rows.{entry_of}
use Rattle.raw_schema.specs.Schema.{bad_in, bad_rows, cells_in, schema_pages, schema_turns}
use Rattle.tree_uses.specs.Trees as trees
use Rattle.tree_uses.specs.Trees.{chains_in}
use Rattle.use_order.specs.Apart.{AreApart}
use Rattle.use_order.specs.Laws.{UsesHold, schema_chains}
use Rattle.use_order.specs.Order.{behind_uses}
use Rattle.use_order.proofs.Holding.{are_pages, uses_hold}
use Rattle.salvaged_tables.specs.Fates.{TableFate}
use Rattle.salvaged_tables.specs.Laws.{all_cells}
use Rattle.orphan_trees.specs.Orphans.{Orphan, pages_in}
use Rattle.orphan_trees.proofs.Lists.{once_left}
use Rattle.orphan_uses.specs.Laws.{OrphanUsesHold, orphan_rows}
use Rattle.orphan_uses.proofs.Holding.{orphans_within, tables_within, uses_hold as orphan_uses_hold}
use Rattle.orphan_uses.proofs.Within.{Within, within_append, within_apart, within_turns}
use Rattle.salvage_laws.specs.Stored.{AreStored, chain_pages, readable_cells, tree_pages}
use Rattle.salvage_laws.proofs.Uses.{SameTrees, each_read_once, left_once, same_trees}

-- all of them, with the rows of the schema
abbrev pub found_cells : File → List ℕ → List TableFate → List (List (ℕ × List Outcome)) → List Row
found_cells f u fates cells = cells_in (schema_turns f u) ++ (all_cells fates ++ orphan_rows cells)

-- the cells that are rows of the schema
abbrev pub good_in : List Row → List Row
good_in cells = filter (λ (row : Row). not (is_none (entry_of row))) cells

bad_are : (f : File) (u : List ℕ) → bad_rows f u ≡ bad_in (cells_in (schema_turns f u))
unfolding bad_rows
bad_are f u = refl

-- the last of two parts goes behind the rest
last_moved : (a b c : List Row) → IsPermutation ((a ++ b) ++ c) ((a ++ c) ++ b)
last_moved a b c =
    subst (λ (xs : List Row). IsPermutation xs ((a ++ c) ++ b)) (sym (append_assoc a b c))
    (subst (IsPermutation (a ++ (b ++ c))) (sym (append_assoc a c b))
    (IsPermutation-append_right a (b ++ c) (c ++ b) (IsPermutation-append_comm b c)))

-- they are the readable cells and the rows of the schema
pub found_are : (f : File) (u : List ℕ) (fates : List TableFate) (cells : List (List (ℕ × List Outcome)))
    → IsPermutation (found_cells f u fates cells) (readable_cells f u fates cells ++ good_in (cells_in (schema_turns f u)))
found_are f u fates cells =
    let all : List Row = cells_in (schema_turns f u) in
    let more : List Row = all_cells fates ++ orphan_rows cells in
    IsPermutation-trans (all ++ more) ((bad_rows f u ++ good_in all) ++ more) ((bad_rows f u ++ more) ++ good_in all)
    (IsPermutation-append_left more all (bad_rows f u ++ good_in all)
    (subst (λ (bad : List Row). IsPermutation all (bad ++ good_in all)) (sym (bad_are f u))
    (IsPermutation-filter_both (λ (row : Row). is_none (entry_of row)) (λ (row : Row). not (is_none (entry_of row))) (λ row. refl) all)))
    (last_moved (bad_rows f u) (good_in all) more)

-- ---- evidence

schema_evidence : (f : File) (u : List ℕ) → AreOnce f.pages u → AllByRecursion (Evidence f) (cells_in (schema_turns f u))
schema_evidence f u once =
    pages_have_evidence f (schema_pages f u) (minus u (schema_pages f u))
    (are_pages f.pages (schema_pages f u) u once (walks_are_unused f u (pos 1) kinds.Table).part)
    (once_left f.pages u (schema_pages f u) once)

pub found_evidence : (f : File) (u : List ℕ) (trunk : Option ℕ) (fates : List TableFate) (orphans : List Orphan) (cells : List (List (ℕ × List Outcome)))
    → AreStored f u trunk fates orphans cells → AllByRecursion (Evidence f) (found_cells f u fates cells)
found_evidence f u trunk fates orphans cells s =
    let left : List ℕ = behind_uses f u s.tables s.indexes s.turns in
    let used : UsesHold f u s.tables s.indexes s.turns = uses_hold f u s.rows s.readings s.tables s.indexes s.turns s.order in
    let given : OrphanUsesHold f left trunk orphans cells = orphan_uses_hold f left trunk orphans cells s.orphans_are in
    let same : SameTrees s.tables s.turns fates = same_trees s.rows s.readings s.tables s.turns fates s.fates_are in
    all_append (Evidence f) (cells_in (schema_turns f u)) (all_cells fates ++ orphan_rows cells) (schema_evidence f u s.once)
    (all_append (Evidence f) (all_cells fates) (orphan_rows cells)
    (subst (AllByRecursion (Evidence f)) same.cells (used.evidence s.once))
    (given.evidence (left_once f u s.rows s.readings s.tables s.indexes s.turns s.order s.once)))

-- ---- no two share anything

pub found_within : (f : File) (u : List ℕ) (trunk : Option ℕ) (fates : List TableFate) (orphans : List Orphan) (cells : List (List (ℕ × List Outcome)))
    → AreStored f u trunk fates orphans cells → Within (tree_pages f u fates orphans) (chain_pages f u fates cells) (found_cells f u fates cells)
found_within f u trunk fates orphans cells s =
    let left : List ℕ = behind_uses f u s.tables s.indexes s.turns in
    let same : SameTrees s.tables s.turns fates = same_trees s.rows s.readings s.tables s.turns fates s.fates_are in
    let ps : List ℕ = flat_map (λ (t : TableFate). t.pages) fates in
    let cs : List ℕ = flat_map (λ (t : TableFate). chains_in t.turns) fates in
    let tables : Within ps cs (all_cells fates) =
    subst (λ (qs : List ℕ). Within qs cs (all_cells fates)) same.pages
    (subst (λ (qs : List ℕ). Within (trees.pages_in s.tables) qs (all_cells fates)) same.chains
    (subst (Within (trees.pages_in s.tables) (flat_map chains_in s.turns)) same.cells
    (tables_within f u s.rows s.readings s.tables s.indexes s.turns s.order))) in
    within_append (schema_pages f u) (ps ++ pages_in orphans) (schema_chains f u) (cs ++ flat_map chains_in cells)
    (cells_in (schema_turns f u)) (all_cells fates ++ orphan_rows cells)
    (within_turns f (schema_pages f u) (minus u (schema_pages f u)))
    (within_append ps (pages_in orphans) cs (flat_map chains_in cells) (all_cells fates) (orphan_rows cells) tables
    (orphans_within f left trunk orphans cells s.orphans_are))

pub found_apart : (f : File) (u : List ℕ) (trunk : Option ℕ) (fates : List TableFate) (orphans : List Orphan) (cells : List (List (ℕ × List Outcome)))
    → AreStored f u trunk fates orphans cells → AreApart (found_cells f u fates cells)
found_apart f u trunk fates orphans cells s =
    within_apart (tree_pages f u fates orphans) (chain_pages f u fates cells) (found_cells f u fates cells)
    (λ q. omega (arith, each_read_once f u trunk fates orphans cells s q, at_most_one (is_page f.pages q)))
    (found_within f u trunk fates orphans cells s)
