-- Each readable cell of a table's tree is a row of the table or lost, once.
use Rattle.std.proofs.Common.{ℕ, List, [], ◌∷◌, ◌++◌, subst, sym, append_assoc}
use Rattle.std.specs.List.Sorted.{IsPermutation}
use Rattle.std.proofs.lemmas.List.Sorted.{IsPermutation-append, IsPermutation-append_comm, IsPermutation-append_left, IsPermutation-append_right, IsPermutation-refl, IsPermutation-trans}
use Rattle.page_walk.specs.Cells.{Outcome, Row}
use Rattle.raw_schema.specs.Schema.{cells_in}
use Rattle.table_parts.specs.Laws.{built_rows, lost_cells}
use Rattle.table_parts.proofs.Kept.{each_cell}
use Rattle.salvaged_tables.specs.Laws.{EachCellOnce, all_cells, all_lost, all_rows}

-- two pairs of lists, joined, are joined crosswise in another order
both_split : (a b c d : List Row) → IsPermutation ((a ++ b) ++ (c ++ d)) ((a ++ c) ++ (b ++ d))
both_split a b c d =
    let inner : IsPermutation (b ++ (c ++ d)) (c ++ (b ++ d)) =
    subst (λ (rows : List Row). IsPermutation rows (c ++ (b ++ d))) (append_assoc b c d)
    (subst (IsPermutation ((b ++ c) ++ d)) (append_assoc c b d)
    (IsPermutation-append_left d (b ++ c) (c ++ b) (IsPermutation-append_comm b c))) in
    subst (λ (rows : List Row). IsPermutation rows ((a ++ c) ++ (b ++ d))) (sym (append_assoc a b (c ++ d)))
    (subst (IsPermutation (a ++ (b ++ (c ++ d)))) (sym (append_assoc a c (b ++ d)))
    (IsPermutation-append_right a (b ++ (c ++ d)) (c ++ (b ++ d)) inner))

pub each_cell_once : EachCellOnce
each_cell_once rows [] [] [] [] are = IsPermutation-refl []
each_cell_once rows (r ∷ rs) (t ∷ trees) (ts ∷ turns) (f ∷ fates) are =
    IsPermutation-trans _ _ _
    (IsPermutation-append (cells_in f.turns) (built_rows f.part ++ lost_cells f.part) (all_cells fates) (all_rows fates ++ all_lost fates)
    (subst (λ (us : List (ℕ × List Outcome)). IsPermutation (cells_in us) (built_rows f.part ++ lost_cells f.part)) (sym are.0.turns_are)
    (each_cell r.reading (cells_in ts) f.part are.0.part_is))
    (each_cell_once rows rs trees turns fates are.1))
    (both_split (built_rows f.part) (lost_cells f.part) (all_rows fates) (all_lost fates))
each_cell_once rows rs trees turns fates are = absurd are
