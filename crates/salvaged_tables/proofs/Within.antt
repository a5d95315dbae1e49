-- The pages that salvaged tables name are pages of the file.
use Rattle.std.proofs.Common.{◌≡◌, ◌≤◌, ℕ, Bool, true, false, if◌then◌else◌, List, [], ◌∷◌, ◌++◌, length, map, sym, subst, arith, Vec, Global}
use Rattle.std.specs.List.{AllByRecursion, flat_map}
use Rattle.std.specs.List.Sorted.{IsPermutation}
use Rattle.std.proofs.lemmas.List.Elements.{All-from_recursion, recursion_from_All}
use Rattle.std.proofs.lemmas.List.Sorted.{All-permutation}
use Rattle.page_walk.specs.Bounds.{IsSmall}
use Rattle.page_walk.specs.Cells.{Outcome, Read, Row, Unread, row_of}
use Rattle.page_walk.specs.InTurn.{IsSmallTurn}
use Rattle.page_walk.specs.Rows.{rows_of}
use Rattle.page_walk.proofs.Going.{all_append}
use Rattle.raw_schema.specs.declared.rows.SchemaRow.{SchemaRow}
use Rattle.raw_schema.specs.Schema.{cells_in}
use Rattle.schema_texts.specs.declared.readings.TableReading.{TableReading}
use Rattle.table_parts.specs.declared.parts.TablePart.{TablePart}
use Rattle.table_parts.specs.declared.parts.TablePart.TheVariants as parts
use Rattle.table_parts.specs.Laws.{built_rows, lost_cells}
use Rattle.table_parts.proofs.Kept.{each_cell}
use Rattle.table_shape.specs.declared.rows.OutRow.{OutRow}
use Rattle.table_shape.specs.declared.rows.OutTable.{OutTable}
use Rattle.tree_uses.specs.Trees.{Tree}
use Rattle.salvaged_tables.specs.declared.places.Placed.{Placed}
use Rattle.salvaged_tables.specs.declared.salvage.SalvagedTables.{SalvagedTables}
use Rattle.salvaged_tables.specs.Bounds.{AreOnPages, IsOn}
use Rattle.salvaged_tables.specs.Fates.{AreFates, Failed, IsFate, StoredTable, TableFate, built_table, failed_of, failed_on, failed_one, has_failed, lost_of, root_of, stored_row, table_of}
use Rattle.salvaged_tables.specs.Salvaged.{HavePlaces, IsSalvage, failed_seen, lost_seen, rows_at, stored_tables}
use Rattle.salvaged_tables.specs.Steps.{AreFew}
use Rattle.salvaged_tables.proofs.Bare.{all_mapped}
use Rattle.salvaged_tables.proofs.Items.{front, nothing}

-- ---- lists

-- what holds of all that a function makes of items, holds so of these
pub all_unmapped : {X Y : Type 0} (P : Y → Type 0) (f : X → Y) (xs : List X) → AllByRecursion P (map f xs) → AllByRecursion (λ (x : X). P (f x)) xs
all_unmapped P f [] all = tt
all_unmapped P f (x ∷ xs) all = (all.0, all_unmapped P f xs all.1)

all_weakened : {X : Type 0} (P Q : X → Type 0) → ((x : X) → P x → Q x) → (xs : List X) → AllByRecursion P xs → AllByRecursion Q xs
all_weakened P Q less [] all = tt
all_weakened P Q less (x ∷ xs) all = (less x all.0, all_weakened P Q less xs all.1)

all_front : {X : Type 0} (P : X → Type 0) (xs ys : List X) → AllByRecursion P (xs ++ ys) → AllByRecursion P xs × AllByRecursion P ys
all_front P [] ys all = (tt, all)
all_front P (x ∷ xs) ys all =
    let rest : AllByRecursion P xs × AllByRecursion P ys = all_front P xs ys all.1 in ((all.0, rest.0), rest.1)

all_permuted : {X : Type 0} (P : X → Type 0) (xs ys : List X) → IsPermutation xs ys → AllByRecursion P xs → AllByRecursion P ys
all_permuted P xs ys moved all = recursion_from_All P ys (All-permutation P xs ys moved (All-from_recursion P xs all))

-- ---- cells

abbrev RowOn : ℕ → Row → Type 0
RowOn pages r = IsOn pages r.page r.chain

-- it has at most 1,996 fields besides
abbrev CellOn : ℕ → Row → Type 0
CellOn pages r = RowOn pages r × (length r.fields ≤ 1996)

abbrev FailedOn : ℕ → Failed → Type 0
FailedOn pages f = IsOn pages f.page f.chain

rows_on : (usable pages page : ℕ) (os : List Outcome) → 1 ≤ page → page ≤ pages → AllByRecursion (IsSmall usable pages page) os
    → AllByRecursion (CellOn pages) (rows_of os)
rows_on usable pages page [] least most small = tt
rows_on usable pages page (Read row ∷ os) least most small = (
  (
    record {
      least = subst (λ (p : ℕ). 1 ≤ p) (sym small.0.on_page) least;
      most = subst (λ (p : ℕ). p ≤ pages) (sym small.0.on_page) most;
      chain_on = small.0.chain;
    },
    small.0.few,
  ),
  rows_on usable pages page os least most small.1,
)
rows_on usable pages page (Unread u ∷ os) least most small = rows_on usable pages page os least most small.1

pub small_cells_on : (usable pages : ℕ) (turns : List (ℕ × List Outcome)) → AllByRecursion (IsSmallTurn usable pages) turns
    → AllByRecursion (CellOn pages) (cells_in turns)
small_cells_on usable pages [] small = tt
small_cells_on usable pages (t ∷ turns) small =
    all_append (CellOn pages) (rows_of t.1) (cells_in turns) (rows_on usable pages t.0 t.1 small.0.least small.0.most small.0.small)
    (small_cells_on usable pages turns small.1)

pub cells_on : (usable pages : ℕ) (turns : List (ℕ × List Outcome)) → AllByRecursion (IsSmallTurn usable pages) turns
    → AllByRecursion (RowOn pages) (cells_in turns)
cells_on usable pages turns small =
    all_weakened (CellOn pages) (RowOn pages) (λ r is. is.0) (cells_in turns) (small_cells_on usable pages turns small)

chosen_on : (pages : ℕ) (b : Bool) (f : Failed) → FailedOn pages f → AllByRecursion (FailedOn pages) (if b then f ∷ [] else [])
chosen_on pages true f is = (is, tt)
chosen_on pages false f is = tt

failures_on : (usable pages root page : ℕ) (os : List Outcome) → 1 ≤ page → page ≤ pages → AllByRecursion (IsSmall usable pages page) os
    → AllByRecursion (FailedOn pages) (flat_map (failed_one root page) os)
failures_on usable pages root page [] least most small = tt
failures_on usable pages root page (Read row ∷ os) least most small = failures_on usable pages root page os least most small.1
failures_on usable pages root page (Unread u ∷ os) least most small =
    all_append (FailedOn pages) (failed_one root page (Unread u)) (flat_map (failed_one root page) os)
    (chosen_on pages (has_failed u.cause) _ (record { least = least; most = most; chain_on = small.0 }))
    (failures_on usable pages root page os least most small.1)

pub all_failures_on : (usable pages root : ℕ) (turns : List (ℕ × List Outcome)) → AllByRecursion (IsSmallTurn usable pages) turns
    → AllByRecursion (FailedOn pages) (flat_map (failed_on root) turns)
all_failures_on usable pages root [] small = tt
all_failures_on usable pages root (t ∷ turns) small =
    all_append (FailedOn pages) (failed_on root t) (flat_map (failed_on root) turns)
    (failures_on usable pages root t.0 t.1 small.0.least small.0.most small.0.small) (all_failures_on usable pages root turns small.1)

-- ---- fates

abbrev TableOn : ℕ → StoredTable → Type 0
TableOn pages t = AllByRecursion (RowOn pages) t.rows

built_on : (pages : ℕ) (row : SchemaRow) (part : TablePart) → AllByRecursion (CellOn pages) (built_rows part)
    → AllByRecursion (TableOn pages) (built_table row part)
built_on pages row (parts.Built shape rows left) all =
    (all_mapped (CellOn pages) (RowOn pages) (stored_row shape.without_rowid) (map row_of rows.items) (λ r is. is.0) all, tt)
built_on pages row (parts.Unread cause cells) all = tt

-- what a fate gives is on pages of the file
record IsFateOn (pages : ℕ) (f : TableFate) : Type 0 where
  tables : AllByRecursion (TableOn pages) (table_of f)
  lost : AllByRecursion (λ (l : ℕ × Row). CellOn pages l.1) (lost_of f)
  failed : AllByRecursion (FailedOn pages) (failed_of f)

fate_on : (usable pages : ℕ) (rows : List SchemaRow) (r : TableReading) (t : Tree) (turns : List (ℕ × List Outcome)) (f : TableFate)
    → AllByRecursion (IsSmallTurn usable pages) turns → IsFate rows r t turns f → IsFateOn pages f
fate_on usable pages rows r t turns f small is =
    let both : AllByRecursion (CellOn pages) (built_rows f.part) × AllByRecursion (CellOn pages) (lost_cells f.part) =
    all_front (CellOn pages) (built_rows f.part) (lost_cells f.part)
    (all_permuted (CellOn pages) (cells_in turns) (built_rows f.part ++ lost_cells f.part) (each_cell r.reading (cells_in turns) f.part is.part_is)
    (small_cells_on usable pages turns small)) in
    record {
      tables = built_on pages f.row f.part both.0;
      lost = all_mapped (CellOn pages) (λ (l : ℕ × Row). CellOn pages l.1) (λ (r : Row). (root_of f.pages, r)) (lost_cells f.part) (λ r on. on) both.1;
      failed = subst (λ (ts : List (ℕ × List Outcome)). AllByRecursion (FailedOn pages) (flat_map (failed_on (root_of f.pages)) ts)) (sym is.turns_are)
          (all_failures_on usable pages (root_of f.pages) turns small);
    }

-- and so is what all of them give
record AreFatesOn (pages : ℕ) (fates : List TableFate) : Type 0 where
  tables : AllByRecursion (TableOn pages) (flat_map table_of fates)
  lost : AllByRecursion (λ (l : ℕ × Row). CellOn pages l.1) (flat_map lost_of fates)
  failed : AllByRecursion (FailedOn pages) (flat_map failed_of fates)

fates_on : (usable pages : ℕ) (rows : List SchemaRow) (rs : List TableReading) (trees : List Tree) (turns : List (List (ℕ × List Outcome)))
    (fates : List TableFate) → AllByRecursion (AllByRecursion (IsSmallTurn usable pages)) turns → AreFates rows rs trees turns fates
    → AreFatesOn pages fates
fates_on usable pages rows [] [] [] [] small are = record { tables = tt; lost = tt; failed = tt }
fates_on usable pages rows (r ∷ rs) (t ∷ trees) (ts ∷ turns) (f ∷ fates) small are =
    let one : IsFateOn pages f = fate_on usable pages rows r t ts f small.0 are.0 in
    let rest : AreFatesOn pages fates = fates_on usable pages rows rs trees turns fates small.1 are.1 in
    record {
      tables = all_append (TableOn pages) (table_of f) (flat_map table_of fates) one.tables rest.tables;
      lost = all_append (λ (l : ℕ × Row). CellOn pages l.1) (lost_of f) (flat_map lost_of fates) one.lost rest.lost;
      failed = all_append (FailedOn pages) (failed_of f) (flat_map failed_of fates) one.failed rest.failed;
    }
fates_on usable pages rows rs trees turns fates small are = absurd are

-- ---- the program's lists

-- the places of rows that are on pages of the file are
pub placed_on : (pages : ℕ) (rows : List OutRow) (places : List Placed) → length rows ≡ length places → AllByRecursion (λ (r : Row). IsOn pages r.page r.chain) (rows_at rows places)
    → AllByRecursion (λ (p : Placed). IsOn pages p.place.page p.chain.items) places
placed_on pages [] [] even all = tt
placed_on pages [] (p ∷ places) even all = absurd (omega (arith, even))
placed_on pages (o ∷ rows) [] even all = tt
placed_on pages (o ∷ rows) (p ∷ places) even all = (all.0, placed_on pages rows places (omega (arith, even)) all.1)

places_on : (pages : ℕ) (tables : List OutTable) (places : List (Vec Placed Global)) → HavePlaces tables places
    → AllByRecursion (TableOn pages) (stored_tables tables places)
    → AllByRecursion (λ (ps : Vec Placed Global). AllByRecursion (λ (p : Placed). IsOn pages p.place.page p.chain.items) ps.items) places
places_on pages [] [] even all = tt
places_on pages [] (p ∷ places) even all = absurd (nothing _ _ (sym even))
places_on pages (t ∷ tables) [] even all = tt
places_on pages (t ∷ tables) (p ∷ places) even all =
    let both : (length t.rows.items ≡ length p.items) × HavePlaces tables places = front _ _ _ _ even in
    (placed_on pages t.rows.items p.items both.0 all.0, places_on pages tables places both.1 all.1)

pub are_on_pages : (usable pages : ℕ) (rows : List SchemaRow) (rs : List TableReading) (trees : List Tree) (turns : List (List (ℕ × List Outcome)))
    (v : SalvagedTables) → AllByRecursion (AllByRecursion (IsSmallTurn usable pages)) turns → IsSalvage rows rs trees turns v → AreOnPages pages v
are_on_pages usable pages rows rs trees turns v small is =
    let on : AreFatesOn pages is.fates = fates_on usable pages rows rs trees turns is.fates small is.are in
    record {
      places = places_on pages v.tables.items v.places.items is.salvaged.places
          (subst (AllByRecursion (TableOn pages)) (sym is.salvaged.tables) on.tables);
      lost = all_unmapped (λ (l : ℕ × Row). CellOn pages l.1) lost_seen v.lost.items
          (subst (AllByRecursion (λ (l : ℕ × Row). CellOn pages l.1)) (sym is.salvaged.lost) on.lost);
      failed = all_unmapped (FailedOn pages) failed_seen v.failed.items
          (subst (AllByRecursion (FailedOn pages)) (sym is.salvaged.failed) on.failed);
    }

-- ---- what callers hand over

pub few_of : (usable pages : ℕ) (turns : List (ℕ × List Outcome)) → usable ≤ 65536 → AllByRecursion (IsSmallTurn usable pages) turns → AreFew turns
few_of usable pages [] most small = tt
few_of usable pages (t ∷ turns) most small = (omega (arith, most, small.0.few), few_of usable pages turns most small.1)

-- small turns have few cells, as `salvage_tables` requires
pub all_few : (usable pages : ℕ) (turns : List (List (ℕ × List Outcome))) → usable ≤ 65536
    → AllByRecursion (AllByRecursion (IsSmallTurn usable pages)) turns → AllByRecursion AreFew turns
all_few usable pages [] most small = tt
all_few usable pages (ts ∷ turns) most small = (few_of usable pages ts most small.0, all_few usable pages turns most small.1)
