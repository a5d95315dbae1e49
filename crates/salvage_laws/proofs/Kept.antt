-- The cells that are written are the readable cells, each once, and what holds of all cells holds of them.
use Rattle.std.proofs.Common.{◌≡◌, ℕ, List, [], ◌∷◌, ◌++◌, map, refl, sym, ◌∙◌, ap, subst, append_assoc}
use Rattle.std.specs.Prelude.{Option}
use Rattle.std.specs.List.{flat_map}
use Rattle.std.specs.List.Sorted.{IsPermutation}
use Rattle.std.proofs.lemmas.List.{map-append}
use Rattle.std.proofs.lemmas.List.Sorted.{IsPermutation-append_comm, IsPermutation-append_left, IsPermutation-append_right, IsPermutation-trans}
use Rattle.page_access.specs.Pages.{File}
use Rattle.page_lists.specs.Lists.{minus}
use Rattle.page_walk.specs.Cells.{Outcome, Row}
use Rattle.page_walk.specs.Evidence.{Evidence}
use Rattle.raw_schema.specs.Schema.{bad_rows, cells_in, schema_turns}
use Rattle.table_parts.specs.Laws as parts
use Rattle.tree_uses.specs.Trees.{chains_in}
use Rattle.use_order.specs.Order.{behind_uses}
use Rattle.salvaged_tables.specs.Fates.{TableFate, lost_of, root_of, table_of}
use Rattle.salvaged_tables.specs.Laws.{all_cells, all_lost, all_rows}
use Rattle.salvaged_tables.proofs.Once.{each_cell_once}
use Rattle.orphan_trees.specs.Orphans.{Orphan, pages_in}
use Rattle.orphan_uses.specs.Laws.{orphan_rows}
use Rattle.orphan_uses.specs.Order.{behind_free, orphan_turns, turns_at}
use Rattle.orphan_cells.specs.Orphaned.{orphan_lost, tree_lost}
use Rattle.salvage_laws.specs.Laws.{EachCellOnce, KeptAreApart, KeptHaveEvidence}
use Rattle.salvage_laws.specs.Stored.{AreStored, bad_lost, kept_cells, lost_cells, readable_cells, stored_rows}
use Rattle.salvage_laws.proofs.Cells.{stored_are_cells}
use Rattle.salvage_laws.proofs.Found.{found_apart, found_are, found_cells, found_evidence, good_in}
use Rattle.salvage_laws.proofs.Items.{all_part}
use Rattle.salvage_laws.proofs.Sharing.{some_apart}

-- ---- the rows of lost cells

abbrev lost_row : ℕ × Row → Row
lost_row l = l.1

with_root : (root : ℕ) (rows : List Row) → map lost_row (map (λ (r : Row). (root, r)) rows) ≡ rows
with_root root [] = refl
with_root root (r ∷ rows) = ap (λ (rs : List Row). r ∷ rs) (with_root root rows)

table_lost : (fates : List TableFate) → map lost_row (flat_map lost_of fates) ≡ all_lost fates
table_lost [] = refl
table_lost (f ∷ fates) =
    map-append lost_row (lost_of f) (flat_map lost_of fates)
    ∙ ap (λ (rows : List Row). rows ++ map lost_row (flat_map lost_of fates)) (with_root (root_of f.pages) (parts.lost_cells f.part))
    ∙ ap (λ (rows : List Row). parts.lost_cells f.part ++ rows) (table_lost fates)

-- each orphan tree has its turns
orphans_lost : (f : File) (trees : List Orphan) (u : List ℕ)
    → map lost_row (orphan_lost trees (orphan_turns f trees u)) ≡ orphan_rows (orphan_turns f trees u)
orphans_lost f [] u = refl
orphans_lost f (t ∷ trees) u =
    let these : List (ℕ × List Outcome) = turns_at f t u in
    let more : List (List (ℕ × List Outcome)) = orphan_turns f trees (minus u (chains_in these)) in
    map-append lost_row (tree_lost t.root these) (orphan_lost trees more)
    ∙ ap (λ (rows : List Row). rows ++ map lost_row (orphan_lost trees more)) (with_root t.root (cells_in these))
    ∙ ap (λ (rows : List Row). cells_in these ++ rows) (orphans_lost f trees (minus u (chains_in these)))

pub lost_are : (f : File) (bad : List Row) (fates : List TableFate) (orphans : List Orphan) (u : List ℕ)
    → map lost_row (lost_cells bad fates orphans (orphan_turns f orphans u)) ≡ bad ++ (all_lost fates ++ orphan_rows (orphan_turns f orphans u))
lost_are f bad fates orphans u =
    let cells : List (List (ℕ × List Outcome)) = orphan_turns f orphans u in
    map-append lost_row (bad_lost bad) (flat_map lost_of fates ++ orphan_lost orphans cells)
    ∙ ap (λ (rows : List Row). rows ++ map lost_row (flat_map lost_of fates ++ orphan_lost orphans cells)) (with_root 1 bad)
    ∙ ap (λ (rows : List Row). bad ++ rows)
    (map-append lost_row (flat_map lost_of fates) (orphan_lost orphans cells)
    ∙ ap (λ (rows : List Row). rows ++ map lost_row (orphan_lost orphans cells)) (table_lost fates)
    ∙ ap (λ (rows : List Row). all_lost fates ++ rows) (orphans_lost f orphans u))

-- ---- each once

-- the rows of tables go before the bad rows of the schema
rows_first : (bad rows lost more cells : List Row) → IsPermutation cells (rows ++ lost)
    → IsPermutation (bad ++ (cells ++ more)) (rows ++ (bad ++ (lost ++ more)))
rows_first bad rows lost more cells moved =
    IsPermutation-trans (bad ++ (cells ++ more)) (bad ++ ((rows ++ lost) ++ more)) (rows ++ (bad ++ (lost ++ more)))
    (IsPermutation-append_right bad (cells ++ more) ((rows ++ lost) ++ more) (IsPermutation-append_left more cells (rows ++ lost) moved))
    (subst (λ (xs : List Row). IsPermutation (bad ++ xs) (rows ++ (bad ++ (lost ++ more)))) (sym (append_assoc rows lost more))
    (subst (λ (xs : List Row). IsPermutation xs (rows ++ (bad ++ (lost ++ more)))) (append_assoc bad rows (lost ++ more))
    (subst (IsPermutation ((bad ++ rows) ++ (lost ++ more))) (append_assoc rows bad (lost ++ more))
    (IsPermutation-append_left (lost ++ more) (bad ++ rows) (rows ++ bad) (IsPermutation-append_comm bad rows)))))

pub each_once : EachCellOnce
each_once f u trunk fates orphans cells s =
    let left : List ℕ = behind_uses f u s.tables s.indexes s.turns in
    let v : List ℕ = minus (behind_free f left trunk) (pages_in orphans) in
    let bad : List Row = bad_rows f u in
    let lost : map lost_row (lost_cells bad fates orphans cells) ≡ bad ++ (all_lost fates ++ orphan_rows cells) =
    subst (λ (cs : List (List (ℕ × List Outcome))). map lost_row (lost_cells bad fates orphans cs) ≡ bad ++ (all_lost fates ++ orphan_rows cs))
    (sym s.orphans_are.turns_are) (lost_are f bad fates orphans v) in
    subst (λ (rows : List Row). IsPermutation (readable_cells f u fates cells) (stored_rows (flat_map table_of fates) ++ rows)) (sym lost)
    (subst (λ (rows : List Row). IsPermutation (readable_cells f u fates cells) (rows ++ (bad ++ (all_lost fates ++ orphan_rows cells))))
    (sym (stored_are_cells f u trunk fates orphans cells s))
    (rows_first bad (all_rows fates) (all_lost fates) (orphan_rows cells) (all_cells fates)
    (each_cell_once s.rows s.readings s.tables s.turns fates s.fates_are)))

-- with the rows of the schema they are all cells
pub kept_and_good : (f : File) (u : List ℕ) (trunk : Option ℕ) (fates : List TableFate) (orphans : List Orphan) (cells : List (List (ℕ × List Outcome)))
    → AreStored f u trunk fates orphans cells
    → IsPermutation (found_cells f u fates cells) (kept_cells f u fates orphans cells ++ good_in (cells_in (schema_turns f u)))
kept_and_good f u trunk fates orphans cells s =
    let good : List Row = good_in (cells_in (schema_turns f u)) in
    IsPermutation-trans (found_cells f u fates cells) (readable_cells f u fates cells ++ good) (kept_cells f u fates orphans cells ++ good)
    (found_are f u fates cells)
    (IsPermutation-append_left good (readable_cells f u fates cells) (kept_cells f u fates orphans cells) (each_once f u trunk fates orphans cells s))

-- ---- what holds of them

pub kept_have_evidence : KeptHaveEvidence
kept_have_evidence f u trunk fates orphans cells s =
    all_part (Evidence f) (found_cells f u fates cells) (kept_cells f u fates orphans cells) (good_in (cells_in (schema_turns f u)))
    (kept_and_good f u trunk fates orphans cells s) (found_evidence f u trunk fates orphans cells s)

pub kept_are_apart : KeptAreApart
kept_are_apart f u trunk fates orphans cells s =
    some_apart (found_cells f u fates cells) (kept_cells f u fates orphans cells) (good_in (cells_in (schema_turns f u)))
    (kept_and_good f u trunk fates orphans cells s) (found_apart f u trunk fates orphans cells s)
