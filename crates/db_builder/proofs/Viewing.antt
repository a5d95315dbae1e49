-- Entries over rows, and over records of the schema: what stands at a place.
use Rattle.std.proofs.Common.{◌≡◌, ℕ, zero, suc, ◌+◌, ◌<◌, pos, Some, List, [], ◌∷◌, length, map, get_or, sym, ap, ◌∙◌, refl, arith}
use Rattle.std.proofs.lemmas.List.{get_or-map, length-map}
use Rattle.table_shape.specs.declared.rows.OutRow.{OutRow}
use Rattle.table_shape.specs.Seen.{row_seen}
use Rattle.tree_writer.specs.Entry.{entry_at, no_entry}
use Rattle.db_builder.specs.declared.plans.PlannedTree.{PlannedTree}
use Rattle.db_builder.specs.Layout.{numbered}
use Rattle.db_builder.specs.Prepared.{record_in, records_of, schema_seen}
use Rattle.db_builder.specs.Trees.{row_entry}
use Rattle.db_builder.specs.Views.{no_row, row_at, row_entries}

-- a row that stands at a place
pub row_is : (rows : List OutRow) (i : ℕ) (r : OutRow) → i < length rows → r ≡ get_or rows i r → row_at rows i ≡ row_seen r
row_is rows i r lt is = get_or-map row_seen rows i r no_row lt ∙ ap row_seen (sym is)

pub rows_len : (rows : List OutRow) → length (row_entries rows) ≡ length rows
rows_len rows = length-map (map row_seen rows) row_entry ∙ length-map rows row_seen

pub entry_is : (rows : List OutRow) (i : ℕ) (r : OutRow) → i < length rows → r ≡ get_or rows i r → entry_at (row_entries rows) i ≡ row_entry (row_seen r)
entry_is rows i r lt is =
    get_or-map row_entry (map row_seen rows) i no_row no_entry (omega (arith, length-map rows row_seen, lt))
    ∙ ap row_entry (row_is rows i r lt is)

pub length-numbered : (k : ℕ) (xs : List (List ℕ)) → length (numbered k xs) ≡ length xs
length-numbered k [] = refl
length-numbered k (x ∷ xs) = ap suc (length-numbered (k + 1) xs)

pub schema_len : (trees : List PlannedTree) → length (schema_seen trees) ≡ length trees
schema_len trees = length-numbered 1 (records_of trees) ∙ length-map trees (λ (t : PlannedTree). t.record)

-- the entry at a place of numbered records
pub numbered_at : (k : ℕ) (xs : List (List ℕ)) (i n : ℕ) → i < length xs → n ≡ k + i → entry_at (numbered k xs) i ≡ record { rowid = Some (pos n); bytes = get_or xs i [] }
numbered_at k [] i n lt e = absurd (omega arith)
numbered_at k (x ∷ xs) zero n lt e = let same : n ≡ k = omega arith in ap (λ (m : ℕ). record { rowid = Some (pos m); bytes = x }) (sym same)
numbered_at k (x ∷ xs) (suc i) n lt e = numbered_at (k + 1) xs i n (omega arith) (omega arith)

pub schema_at : (trees : List PlannedTree) (i n : ℕ) → i < length trees → n ≡ i + 1 → entry_at (schema_seen trees) i ≡ record { rowid = Some (pos n); bytes = record_in trees i }
schema_at trees i n lt e = numbered_at 1 (records_of trees) i n (omega (arith, lt, length-map trees (λ (t : PlannedTree). t.record))) (omega arith)

pub record_is : (trees : List PlannedTree) (i : ℕ) (t : PlannedTree) → i < length trees → t ≡ get_or trees i t → record_in trees i ≡ t.record
record_is trees i t lt is = get_or-map (λ (x : PlannedTree). x.record) trees i t [] lt ∙ ap (λ (x : PlannedTree). x.record) (sym is)
