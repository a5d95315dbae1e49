-- Tables have few rows: there are few cells on a page, and the trees have no more pages than the file.
use Rattle.std.proofs.Common.{◌≡◌, ◌≤◌, ◌<◌, ℕ, ◌+◌, ◌*◌, ◌/◌, ◌^◌, List, [], ◌∷◌, ◌++◌, Vec, Global, length, map, refl, sym, ◌∙◌, ap, subst, arith, length-append}
use Rattle.std.specs.List.{AllByRecursion, flat_map}
use Rattle.std.proofs.Math.Nat.{add-mul, div-le_self, mul-le-mul_left, mul-le-mul_right}
use Rattle.std.proofs.lemmas.List.{length-map}
use Rattle.std.proofs.lemmas.List.Sorted.{length_permutation}
use Rattle.page_access.specs.Files.{max_input}
use Rattle.page_walk.specs.Cells.{Outcome, Read, Row, Unread, row_of}
use Rattle.page_walk.specs.InTurn.{IsSmallTurn}
use Rattle.page_walk.specs.declared.outcomes.TakenCell.{TakenCell}
use Rattle.page_walk.specs.Rows.{rows_of}
use Rattle.page_walk.proofs.Going.{all_append}
use Rattle.raw_schema.specs.Schema.{cells_in}
use Rattle.raw_schema.specs.declared.rows.SchemaRow.{SchemaRow}
use Rattle.raw_schema.proofs.Small.{cells_few}
use Rattle.tree_uses.specs.Trees.{Tree}
use Rattle.orphan_trees.specs.Orphans.{Orphan}
use Rattle.schema_texts.specs.declared.readings.TableReading.{TableReading}
use Rattle.table_parts.specs.declared.parts.TablePart.{TablePart}
use Rattle.table_parts.specs.declared.parts.TablePart.TheVariants as parts
use Rattle.table_parts.specs.Laws.{built_rows, lost_cells}
use Rattle.table_shape.specs.declared.rows.OutTable.{OutTable}
use Rattle.salvaged_tables.specs.Fates.{AreFates, StoredTable, TableFate, built_table, lost_of, root_of, stored_row, table_of}
use Rattle.salvaged_tables.specs.Laws.{all_cells, all_lost, all_rows}
use Rattle.salvaged_tables.specs.Salvaged.{HavePlaces, lost_seen, rows_at, stored_table, stored_tables}
use Rattle.salvaged_tables.specs.declared.places.LostCell.{LostCell}
use Rattle.salvaged_tables.specs.declared.places.Placed.{Placed}
use Rattle.salvaged_tables.proofs.Items.{front, nothing}
use Rattle.salvaged_tables.proofs.Once.{each_cell_once}
use Rattle.orphan_cells.specs.Orphaned.{orphan_lost, tree_lost}
use Rattle.lost_found.specs.Rows.{lost_rows}
use Rattle.salvage_laws.specs.Stored.{bad_lost}
use Rattle.salvage_core.specs.Lost.{lost_tables}
use Rattle.salvage_core.proofs.Losing.{rows_counted}

-- ---- the cells of trees

-- a tree has no more turns than pages
pub trees_few : {T : Type 0} (usable pages : ℕ) (pages_at : T → List ℕ) (trees : List T) (turns : List (List (ℕ × List Outcome)))
    → map (λ (ts : List (ℕ × List Outcome)). length ts) turns ≡ map (λ (t : T). length (pages_at t)) trees
    → AllByRecursion (AllByRecursion (IsSmallTurn usable pages)) turns → length (flat_map cells_in turns) ≤ length (flat_map pages_at trees) * (usable / 2)
trees_few {T} usable pages pages_at [] [] same small = omega arith
trees_few {T} usable pages pages_at [] (ts ∷ turns) same small = absurd (nothing _ _ same)
trees_few {T} usable pages pages_at (t ∷ trees) [] same small = absurd (nothing _ _ (sym same))
trees_few {T} usable pages pages_at (t ∷ trees) (ts ∷ turns) same small =
    let both : (length ts ≡ length (pages_at t)) × (map (λ (us : List (ℕ × List Outcome)). length us) turns ≡ map (λ (u : T). length (pages_at u)) trees) =
    front _ _ _ _ same in
    let here : length (cells_in ts) ≤ length (pages_at t) * (usable / 2) =
    subst (λ (n : ℕ). length (cells_in ts) ≤ n * (usable / 2)) both.0 (cells_few usable pages ts small.0) in
    let more : length (flat_map pages_at (t ∷ trees)) * (usable / 2)
    ≡ length (pages_at t) * (usable / 2) + length (flat_map pages_at trees) * (usable / 2) =
    ap (λ (n : ℕ). n * (usable / 2)) (length-append (pages_at t) (flat_map pages_at trees))
    ∙ add-mul (length (pages_at t)) (length (flat_map pages_at trees)) (usable / 2) in
    omega (arith, length-append (cells_in ts) (flat_map cells_in turns), here, trees_few usable pages pages_at trees turns both.1 small.1, more)

-- ---- the rows of the tables that are built

abbrev HasFew : ℕ → StoredTable → Type 0
HasFew n t = length t.rows ≤ n

all_fewer : (m n : ℕ) (ts : List StoredTable) → m ≤ n → AllByRecursion (HasFew m) ts → AllByRecursion (HasFew n) ts
all_fewer m n [] le few = tt
all_fewer m n (t ∷ ts) le few = (omega (arith, le, few.0), all_fewer m n ts le few.1)

fates_cells : (rows : List SchemaRow) (rs : List TableReading) (trees : List Tree) (turns : List (List (ℕ × List Outcome))) (fates : List TableFate)
    → AreFates rows rs trees turns fates → all_cells fates ≡ flat_map cells_in turns
fates_cells rows [] [] [] [] are = refl
fates_cells rows (r ∷ rs) (t ∷ trees) (ts ∷ turns) (f ∷ fates) are =
    ap (λ (us : List (ℕ × List Outcome)). cells_in us ++ all_cells fates) are.0.turns_are
    ∙ ap (λ (cells : List Row). cells_in ts ++ cells) (fates_cells rows rs trees turns fates are.1)
fates_cells rows rs trees turns fates are = absurd are

built_few : (row : SchemaRow) (part : TablePart) → AllByRecursion (HasFew (length (built_rows part))) (built_table row part)
built_few row (parts.Built shape rows left) =
    (omega (arith, length-map (map row_of rows.items) (stored_row shape.without_rowid)), tt)
built_few row (parts.Unread cause cells) = tt

tables_few : (fates : List TableFate) → AllByRecursion (HasFew (length (all_rows fates))) (flat_map table_of fates)
tables_few [] = tt
tables_few (f ∷ fates) =
    let both : length (all_rows (f ∷ fates)) ≡ length (built_rows f.part) + length (all_rows fates) = length-append (built_rows f.part) (all_rows fates) in
    all_append (HasFew (length (all_rows (f ∷ fates)))) (table_of f) (flat_map table_of fates)
    (all_fewer (length (built_rows f.part)) (length (all_rows (f ∷ fates))) (table_of f) (omega (arith, both)) (built_few f.row f.part))
    (all_fewer (length (all_rows fates)) (length (all_rows (f ∷ fates))) (flat_map table_of fates) (omega (arith, both)) (tables_few fates))

lost_counted : (fates : List TableFate) → length (flat_map lost_of fates) ≡ length (all_lost fates)
lost_counted [] = refl
lost_counted (f ∷ fates) = omega (
  arith,
  length-append (lost_of f) (flat_map lost_of fates),
  length-append (lost_cells f.part) (all_lost fates),
  length-map {B = ℕ × Row} (lost_cells f.part) (λ (r : Row). (root_of f.pages, r)),
  lost_counted fates,
)

-- the rows and the lost cells of tables whose trees have so many cells
pub record AreFew (n : ℕ) (fates : List TableFate) : Type 0 where
  pub tables : AllByRecursion (HasFew n) (flat_map table_of fates)
  pub lost : length (flat_map lost_of fates) ≤ n

pub fates_few : (n : ℕ) (rows : List SchemaRow) (rs : List TableReading) (trees : List Tree) (turns : List (List (ℕ × List Outcome)))
    (fates : List TableFate) → AreFates rows rs trees turns fates → length (flat_map cells_in turns) ≤ n → AreFew n fates
fates_few n rows rs trees turns fates are few =
    let all : length (all_rows fates) + length (all_lost fates) ≡ length (flat_map cells_in turns) =
    sym (length-append (all_rows fates) (all_lost fates))
    ∙ length_permutation (all_cells fates) (all_rows fates ++ all_lost fates) (each_cell_once rows rs trees turns fates are)
    ∙ ap (λ (cells : List Row). length cells) (fates_cells rows rs trees turns fates are) in
    record {
      tables = all_fewer (length (all_rows fates)) n (flat_map table_of fates) (omega (arith, all, few)) (tables_few fates);
      lost = omega (arith, all, few, lost_counted fates);
    }

-- ---- the lost cells

orphans_few : (trees : List Orphan) (turns : List (List (ℕ × List Outcome))) → length (orphan_lost trees turns) ≤ length (flat_map cells_in turns)
orphans_few [] turns = omega arith
orphans_few (t ∷ trees) [] = omega arith
orphans_few (t ∷ trees) (ts ∷ turns) = omega (
  arith,
  length-append (tree_lost t.root ts) (orphan_lost trees turns),
  length-append (cells_in ts) (flat_map cells_in turns),
  length-map {B = ℕ × Row} (cells_in ts) (λ (r : Row). (t.root, r)),
  orphans_few trees turns,
)

lost_len : (k : ℕ) (cells : List (ℕ × Row)) → length (lost_rows k cells) ≡ length cells
lost_len k [] = refl
lost_len k (c ∷ cells) = omega (arith, lost_len (k + 1) cells)

lost_few : (base : List ℕ) (names : List (List ℕ)) (cells : List (ℕ × Row)) → AllByRecursion (HasFew (length cells)) (lost_tables base names cells)
lost_few base names [] = tt
lost_few base names (c ∷ cells) = (omega (arith, lost_len 1 (c ∷ cells)), tt)

-- those of the schema's tree, of the tables' trees and of the orphan trees
pub lost_together : (n : ℕ) (bad : List TakenCell) (fates : List TableFate) (trees : List Orphan) (turns : List (List (ℕ × List Outcome)))
    (of_schema of_tables of_orphans first all : List LostCell) → length bad ≤ n → AreFew n fates → length (flat_map cells_in turns) ≤ n
    → map lost_seen of_schema ≡ bad_lost (map row_of bad) → map lost_seen of_tables ≡ flat_map lost_of fates
    → map lost_seen of_orphans ≡ orphan_lost trees turns → first ≡ of_schema ++ of_tables → all ≡ first ++ of_orphans → length all ≤ 3 * n
lost_together n bad fates trees turns of_schema of_tables of_orphans first all few_bad few few_orphans is_bad is_tables is_orphans one two =
    let a : length of_schema ≡ length bad =
    sym (length-map of_schema lost_seen) ∙ ap (λ (ls : List (ℕ × Row)). length ls) is_bad
    ∙ length-map {B = ℕ × Row} (map row_of bad) (λ (r : Row). (1, r)) ∙ length-map bad row_of in
    let b : length of_tables ≡ length (flat_map lost_of fates) =
    sym (length-map of_tables lost_seen) ∙ ap (λ (ls : List (ℕ × Row)). length ls) is_tables in
    let c : length of_orphans ≡ length (orphan_lost trees turns) =
    sym (length-map of_orphans lost_seen) ∙ ap (λ (ls : List (ℕ × Row)). length ls) is_orphans in
    let joined : length all ≡ length of_schema + length of_tables + length of_orphans =
    ap (λ (ls : List LostCell). length ls) two ∙ length-append first of_orphans
    ∙ ap (λ (m : ℕ). m + length of_orphans) (ap (λ (ls : List LostCell). length ls) one ∙ length-append of_schema of_tables) in
    omega (arith, a, b, c, joined, few_bad, few.lost, orphans_few trees turns, few_orphans)

-- ---- all tables

tables_seen : (n : ℕ) (tables : List OutTable) (places : List (Vec Placed Global)) → HavePlaces tables places
    → AllByRecursion (HasFew n) (stored_tables tables places) → AllByRecursion (λ (t : OutTable). length t.rows.items ≤ n) tables
tables_seen n [] places even few = tt
tables_seen n (t ∷ tables) [] even few = absurd (nothing _ _ even)
tables_seen n (t ∷ tables) (p ∷ places) even few =
    let both : (length t.rows.items ≡ length p.items) × HavePlaces tables places = front _ _ _ _ even in
    (omega (arith, few.0, rows_counted t.rows.items p.items both.0), tables_seen n tables places both.1 few.1)

all_below : (n m : ℕ) (tables : List OutTable) → n < m → AllByRecursion (λ (t : OutTable). length t.rows.items ≤ n) tables
    → AllByRecursion (λ (t : OutTable). length t.rows.items < m) tables
all_below n m [] lt few = tt
all_below n m (t ∷ tables) lt few = (omega (arith, lt, few.0), all_below n m tables lt few.1)

-- those that are built, and that of the lost cells
pub all_tables_few : (n : ℕ) (base : List ℕ) (names : List (List ℕ)) (lost : List LostCell) (tables : List OutTable) (places : List (Vec Placed Global))
    (fates : List TableFate) → 3 * n < 2 ^ 32 → AreFew n fates → length lost ≤ 3 * n → HavePlaces tables places
    → stored_tables tables places ≡ flat_map table_of fates ++ lost_tables base names (map lost_seen lost)
    → AllByRecursion (λ (t : OutTable). length t.rows.items < 2 ^ 32) tables
all_tables_few n base names lost tables places fates limit few lost_few_are even stored =
    all_below (3 * n) (2 ^ 32) tables limit (tables_seen (3 * n) tables places even (subst (AllByRecursion (HasFew (3 * n))) (sym stored)
    (all_append (HasFew (3 * n)) (flat_map table_of fates) (lost_tables base names (map lost_seen lost))
    (all_fewer n (3 * n) (flat_map table_of fates) (omega arith) few.tables)
    (all_fewer (length (map lost_seen lost)) (3 * n) (lost_tables base names (map lost_seen lost)) (omega (arith, length-map lost lost_seen, lost_few_are))
    (lost_few base names (map lost_seen lost))))))

-- ---- the pages

-- trees of the pages of a file have few cells together
pub cells_within : (usable pages cells some : ℕ) → cells ≤ some * (usable / 2) → some ≤ pages → cells ≤ pages * (usable / 2)
cells_within usable pages cells some few le = omega (arith, few, mul-le-mul_right (usable / 2) le)

-- three times as many are still fewer than 2^32
pub cells_limit : (usable pages size left : ℕ) → usable ≤ size → pages * size + left ≤ max_input → 3 * (pages * (usable / 2)) < 2 ^ 32
cells_limit usable pages size left most limit =
    let half : usable / 2 ≤ size = omega (arith, div-le_self usable 2, most) in
    omega (arith, limit, mul-le-mul_left pages half)
