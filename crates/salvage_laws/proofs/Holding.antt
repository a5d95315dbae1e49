-- The cells that are written and their payloads have room in the file; and all that holds of them.
use Rattle.std.proofs.Common.{◌≡◌, ◌≤◌, ℕ, ◌+◌, ◌*◌, List, [], ◌∷◌, ◌++◌, refl, length, sym, subst, arith, length-append}
use Rattle.std.specs.Prelude.{Option}
use Rattle.std.specs.List.{flat_map, sum_by}
use Rattle.std.specs.List.Sorted.{IsPermutation}
use Rattle.std.proofs.Math.Nat.{mul-le-mul_right}
use Rattle.std.proofs.lemmas.List.Sorted.{length_permutation}
use Rattle.std.proofs.lemmas.List.Sums.{sum_by-cons}
use Rattle.page_access.specs.Pages.{File}
use Rattle.page_lists.specs.Lists.{minus}
use Rattle.page_lists.proofs.Counts.{length-minus}
use Rattle.page_walk.specs.Cells.{Outcome, Row}
use Rattle.raw_schema.specs.Schema.{cells_in, schema_pages, schema_turns}
use Rattle.tree_uses.specs.Trees as trees
use Rattle.use_order.specs.Apart.{row_chains}
use Rattle.use_order.specs.Laws.{table_cells}
use Rattle.use_order.specs.Order.{behind_schema, behind_uses}
use Rattle.salvaged_tables.specs.Fates.{TableFate}
use Rattle.salvaged_tables.specs.Laws.{all_cells}
use Rattle.orphan_trees.specs.Orphans.{Orphan, pages_in}
use Rattle.orphan_uses.specs.Laws.{orphan_rows}
use Rattle.orphan_uses.specs.Order.{behind_free}
use Rattle.orphan_uses.proofs.Holding.{orphan_cells}
use Rattle.salvage_laws.specs.Laws.{KeptFitFile, SalvageAlwaysHolds}
use Rattle.salvage_laws.specs.Stored.{AreStored, chain_pages, kept_cells, tree_pages}
use Rattle.salvage_laws.proofs.Found.{found_cells, found_within, good_in}
use Rattle.salvage_laws.proofs.Good.{stored_are_good}
use Rattle.salvage_laws.proofs.Kept.{each_once, kept_and_good, kept_have_evidence}
use Rattle.salvage_laws.proofs.Pairs.{kept_share_nothing}
use Rattle.page_room.proofs.Pages.{few_pages, pages_more}
use Rattle.salvage_laws.proofs.Room.{PagesFit, local_bytes, pages_append, payloads_len, trees_fit, turns_fit}
use Rattle.salvage_laws.proofs.Sharing.{less}
use Rattle.salvage_laws.proofs.Uses.{SameTrees, each_read_once, same_trees}

-- the pages of the trees have room for all readable cells
tables_fit : (f : File) (u : List ℕ) (trunk : Option ℕ) (fates : List TableFate) (orphans : List Orphan) (cells : List (List (ℕ × List Outcome)))
    → AreStored f u trunk fates orphans cells → PagesFit f (length (flat_map (λ (t : TableFate). t.pages) fates)) (all_cells fates)
tables_fit f u trunk fates orphans cells s =
    let d : List ℕ = minus (minus (behind_schema f u) (trees.pages_in s.tables)) (trees.pages_in s.indexes) in
    let same : SameTrees s.tables s.turns fates = same_trees s.rows s.readings s.tables s.turns fates s.fates_are in
    subst (λ (ps : List ℕ). PagesFit f (length ps) (all_cells fates)) same.pages
    (subst (PagesFit f (length (trees.pages_in s.tables))) same.cells
    (subst (λ (tss : List (List (ℕ × List Outcome))). PagesFit f (length (trees.pages_in s.tables)) (table_cells tss)) (sym s.order.turns_are)
    (trees_fit f s.tables d)))

orphans_fit : (f : File) (u : List ℕ) (trunk : Option ℕ) (fates : List TableFate) (orphans : List Orphan) (cells : List (List (ℕ × List Outcome)))
    → AreStored f u trunk fates orphans cells → PagesFit f (length (pages_in orphans)) (orphan_rows cells)
orphans_fit f u trunk fates orphans cells s =
    let left : List ℕ = behind_uses f u s.tables s.indexes s.turns in
    subst (PagesFit f (length (pages_in orphans))) (sym (orphan_cells f left trunk orphans cells s.orphans_are))
    (turns_fit f (pages_in orphans) (minus (behind_free f left trunk) (pages_in orphans)))

found_fit : (f : File) (u : List ℕ) (trunk : Option ℕ) (fates : List TableFate) (orphans : List Orphan) (cells : List (List (ℕ × List Outcome)))
    → AreStored f u trunk fates orphans cells → PagesFit f (length (tree_pages f u fates orphans)) (found_cells f u fates cells)
found_fit f u trunk fates orphans cells s =
    let a : List ℕ = schema_pages f u in
    let b : List ℕ = flat_map (λ (t : TableFate). t.pages) fates in
    let len : length a + (length b + length (pages_in orphans)) ≡ length (tree_pages f u fates orphans) =
    omega (arith, length-append a (b ++ pages_in orphans), length-append b (pages_in orphans)) in
    subst (λ (n : ℕ). PagesFit f n (found_cells f u fates cells)) len
    (pages_append f (length a) (length b + length (pages_in orphans)) (cells_in (schema_turns f u)) (all_cells fates ++ orphan_rows cells)
    (turns_fit f a (minus u a))
    (pages_append f (length b) (length (pages_in orphans)) (all_cells fates) (orphan_rows cells)
    (tables_fit f u trunk fates orphans cells s) (orphans_fit f u trunk fates orphans cells s)))

-- the pages of chains, as a sum over the rows
abbrev chain_len : Row → ℕ
chain_len r = length r.chain

chains_len : (rows : List Row) → length (row_chains rows) ≡ sum_by chain_len rows
chains_len [] = refl
chains_len (r ∷ rows) = omega (arith, length-append r.chain (row_chains rows), chains_len rows, sum_by-cons chain_len r rows)

pub kept_fit : KeptFitFile
kept_fit f u trunk fates orphans cells s =
    let found : List Row = found_cells f u fates cells in
    let kept : List Row = kept_cells f u fates orphans cells in
    let good : List Row = good_in (cells_in (schema_turns f u)) in
    let ps : List ℕ = tree_pages f u fates orphans in
    let cs : List ℕ = chain_pages f u fates cells in
    let moved : IsPermutation found (kept ++ good) = kept_and_good f u trunk fates orphans cells s in
    let fit : PagesFit f (length ps) found = found_fit f u trunk fates orphans cells s in
    let few : length ps + length cs ≤ f.pages = few_pages f.pages ps cs (each_read_once f u trunk fates orphans cells s) in
    let most : (length ps + length cs) * f.usable ≤ f.pages * f.usable = mul-le-mul_right f.usable few in
    let chains : length (row_chains kept) ≤ length cs = omega (
      arith,
      length-minus cs (row_chains found) (found_within f u trunk fates orphans cells s).chains,
      chains_len found,
      chains_len kept,
      less chain_len found kept good moved,
    ) in
    record {
      cells = omega (
        arith,
        fit.cells,
        most,
        pages_more (length ps) (length cs) f.usable,
        length_permutation found (kept ++ good) moved,
        length-append kept good,
      );
      payloads = λ shown. omega (
        arith,
        fit.bytes,
        most,
        pages_more (length ps) (length cs) f.usable,
        less (local_bytes f) found kept good moved,
        payloads_len f kept shown,
        mul-le-mul_right f.usable chains,
      );
    }

pub salvage_holds : SalvageAlwaysHolds
salvage_holds f u trunk fates orphans cells s = record {
  evidence = kept_have_evidence f u trunk fates orphans cells s;
  pairs = kept_share_nothing f u trunk fates orphans cells s;
  once = each_once f u trunk fates orphans cells s;
  uses = each_read_once f u trunk fates orphans cells s;
  good = stored_are_good f u trunk fates orphans cells s;
  room = kept_fit f u trunk fates orphans cells s;
}
