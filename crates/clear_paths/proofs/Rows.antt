-- Each row on a clear path that fits is a row of its table, or its clash is told.
use Rattle.std.proofs.Common.{◌≡◌, ◌⊎◌, ℕ, true, false, Some, List, [], ◌∷◌, ◌++◌, length, map, take, drop, refl, sym, ◌∙◌, ap, subst, inl, inr, append-nil}
use Rattle.std.specs.List.{AllByRecursion, Contains, flat_map}
use Rattle.std.proofs.Math.Seq.{drop-append_seam, take-append_seam}
use Rattle.std.proofs.lemmas.Bool.{false≢true}
use Rattle.std.proofs.lemmas.Grind.{flat_map-append}
use Rattle.std.proofs.lemmas.List.{length-map}
use Rattle.std.proofs.lemmas.List.Elements.{All-contains, All-from_recursion, Contains-append_cases}
use Rattle.std.proofs.lemmas.List.Sorted.{Contains-permutation}
use Rattle.page_access.specs.Pages.{File}
use Rattle.cell_reader.specs.declared.shapes.Kind.{Kind}
use Rattle.page_walk.specs.Cells.{Outcome, Row, row_of}
use Rattle.page_walk.specs.declared.outcomes.Place.{Place}
use Rattle.raw_schema.specs.Schema.{cells_in}
use Rattle.raw_schema.specs.declared.rows.SchemaRow.{SchemaRow}
use Rattle.report_text.specs.declared.ReportLine.{ReportLine}
use Rattle.schema_texts.specs.Readings.{kind_of}
use Rattle.schema_texts.specs.declared.readings.Reading.{Reading}
use Rattle.schema_texts.specs.declared.readings.Reading.TheVariants as readings
use Rattle.schema_texts.specs.declared.readings.TableReading.{TableReading}
use Rattle.table_fill.specs.declared.fates.Fate.{Fate}
use Rattle.table_fill.specs.declared.fates.Fate.TheVariants.{Clash, Misfit}
use Rattle.table_fill.specs.Chosen.{left_seen}
use Rattle.table_fill.specs.Fates.{Left, held, left_row}
use Rattle.table_parts.specs.Laws.{built_rows, lost_cells}
use Rattle.table_parts.specs.Parts.{IsPart}
use Rattle.table_parts.specs.declared.parts.TablePart.{TablePart}
use Rattle.table_parts.specs.declared.parts.TablePart.TheVariants.{Built, Unread}
use Rattle.table_parts.proofs.Kept.{each_cell}
use Rattle.table_shape.specs.Keys.{Keys, fits, keys_of}
use Rattle.table_shape.specs.Seen.{shape_seen}
use Rattle.table_shape.specs.Shape.{Shape}
use Rattle.tree_uses.specs.Trees.{Tree}
use Rattle.use_order.specs.Order.{kind_read}
use Rattle.salvaged_tables.specs.Fates.{AreFates, StoredTable, TableFate, built_table, stored_row, table_of, table_with}
use Rattle.salvaged_tables.specs.Laws.{all_rows}
use Rattle.salvage_laws.specs.Stored.{stored_rows}
use Rattle.salvage_laws.specs.Told.{IsLost, IsTold, IsToldPart}
use Rattle.salvage_laws.proofs.Cells.{stored_are_cells}
use Rattle.salvage_laws.proofs.Telling.{lost_are_told}
use Rattle.clear_paths.specs.Clear.{IsClearPath, all_pages, roots_of}
use Rattle.clear_paths.specs.Laws.{ClearAreRead, ClearRowsAreBack, ClearRowsComeBack, IsToldClash}
use Rattle.clear_paths.proofs.Whole.{clear_are_read}

-- ---- what is told of a cell that fits

-- a cell that fits and is lost clashes
abbrev Clashes : List ReportLine → List ℕ → Keys → List Row → List Row → Row → Type 0
Clashes all name t cells rows row = fits t (held row) ≡ true
    → (earlier : Place) × (key : ℕ) × IsLost all name t cells rows (left_row row (Clash earlier key))

clash_of : (all : List ReportLine) (name : List ℕ) (t : Keys) (cells rows : List Row) (row : Row) (fate : Fate)
    → IsLost all name t cells rows (left_row row fate) → Clashes all name t cells rows row
clash_of all name t cells rows row (Clash earlier key) lost fit = (earlier, key, lost)
clash_of all name t cells rows row Misfit lost fit = absurd (false≢true (sym lost.reason ∙ fit))

clashes_of : (all : List ReportLine) (name : List ℕ) (t : Keys) (cells rows : List Row) (left : List Left)
    → AllByRecursion (IsLost all name t cells rows) left → AllByRecursion (Clashes all name t cells rows) (map (λ (l : Left). l.row) left)
clashes_of all name t cells rows [] lost = tt
clashes_of all name t cells rows (l ∷ left) lost =
    (clash_of all name t cells rows l.row l.fate lost.0, clashes_of all name t cells rows left lost.1)

-- ---- a table

-- a row on a clear path to this table's cells is back
abbrev AreBack : File → List ℕ → List ReportLine → SchemaRow → List Row → StoredTable → Type 0
AreBack f roots all row cells t = (r : Row) → IsClearPath f roots row.root (kind_of t.shape) r → fits (keys_of t.shape) (held r) ≡ true
    → Contains t.rows r ⊎ IsToldClash all t cells r

part_back : (f : File) (roots : List ℕ) (all : List ReportLine) (row : SchemaRow) (pages : ℕ) (cells : List Row) (reading : Reading)
    (part : TablePart) → IsPart reading cells part → IsToldPart all row.name pages cells part
    → stored_rows (built_table row part) ≡ built_rows part
    → ((kind : Kind) (r : Row) → kind_read reading ≡ Some kind → IsClearPath f roots row.root kind r → Contains cells r)
    → AllByRecursion (AreBack f roots all row cells) (built_table row part)
part_back f roots all row pages cells reading (Unread cause given) is told same read = tt
part_back f roots all row pages cells (readings.Unread why kind) (Built shape rows left) is told same read = absurd is
part_back f roots all row pages cells (readings.Shape s) (Built shape rows left) is told same read = (back, tt)
  where
    table : StoredTable
    table = table_with row (shape_seen shape) (map row_of rows.items)

    rows_are : (table_with row (shape_seen shape) (map row_of rows.items)).rows ≡ map row_of rows.items
    rows_are = sym (append-nil (table_with row (shape_seen shape) (map row_of rows.items)).rows) ∙ same

    back : AreBack f roots all row cells (table_with row (shape_seen shape) (map row_of rows.items))
    back r path fit =
        let there : Contains cells r = read (kind_of (shape_seen s)) r refl
        (subst (λ (x : Shape). IsClearPath f roots row.root (kind_of x) r) is.0 path) in
        let each : Contains (map row_of rows.items ++ map (λ (l : Left). l.row) (map left_seen left.items)) r =
        Contains-permutation cells _ r (each_cell (readings.Shape s) cells (Built shape rows left) is) there in
        elim (Contains-append_cases (map row_of rows.items) (map (λ (l : Left). l.row) (map left_seen left.items)) r each) [
          | inl kept ↦ inl (subst (λ (rs : List Row). Contains rs r) (sym rows_are) kept)
          | inr lost ↦
              let t : Keys = keys_of (shape_seen shape) in
              let clash = All-contains (Clashes all row.name t cells (map row_of rows.items)) (map (λ (l : Left). l.row) (map left_seen left.items)) r
              (All-from_recursion _ _ (clashes_of all row.name t cells (map row_of rows.items) (map left_seen left.items) told)) lost fit in
              inr (record {
                earlier = clash.0;
                key = clash.1;
                lost = subst (λ (rs : List Row). IsLost all row.name t cells rs (left_row r (Clash clash.0 clash.1))) (sym rows_are) clash.2;
              })
        ]

-- ---- all tables

abbrev HasPart : TableFate → Type 0
HasPart x = IsPart x.reading (cells_in x.turns) x.part

have_parts : (rows : List SchemaRow) (rs : List TableReading) (trees : List Tree) (turns : List (List (ℕ × List Outcome)))
    (fates : List TableFate) → AreFates rows rs trees turns fates → AllByRecursion HasPart fates
have_parts rows [] [] [] [] are = tt
have_parts rows (r ∷ rs) (t ∷ trees) (ts ∷ turns) (x ∷ fates) are = (
  subst (λ (reading : Reading). IsPart reading (cells_in x.turns) x.part) (sym are.0.reading_is)
      (subst (λ (us : List (ℕ × List Outcome)). IsPart r.reading (cells_in us) x.part) (sym are.0.turns_are) are.0.part_is),
  have_parts rows rs trees turns fates are.1,
)
have_parts rows rs trees turns fates are = absurd are

-- two lists that begin with lists of one length
same_fronts : (xs ys as' bs : List Row) → xs ++ as' ≡ ys ++ bs → length xs ≡ length ys → (xs ≡ ys) × (as' ≡ bs)
same_fronts xs ys as' bs same len = (
  sym (take-append_seam xs as') ∙ ap (λ (n : ℕ). take n (xs ++ as')) len ∙ ap (take (length ys)) same ∙ take-append_seam ys bs,
  sym (drop-append_seam xs as') ∙ ap (λ (n : ℕ). drop n (xs ++ as')) len ∙ ap (drop (length ys)) same ∙ drop-append_seam ys bs,
)

as_many : (row : SchemaRow) (part : TablePart) → length (stored_rows (built_table row part)) ≡ length (built_rows part)
as_many row (Built shape rows left) =
    ap length (append-nil (map (stored_row shape.without_rowid) (map row_of rows.items)))
    ∙ length-map (map row_of rows.items) (stored_row shape.without_rowid)
as_many row (Unread cause given) = refl

abbrev AreCells : TableFate → Type 0
AreCells x = stored_rows (table_of x) ≡ built_rows x.part

-- where all stored rows are cells as they were read, so are those of each table
each_are_cells : (fates : List TableFate) → stored_rows (flat_map table_of fates) ≡ all_rows fates → AllByRecursion AreCells fates
each_are_cells [] same = tt
each_are_cells (x ∷ fates) same =
    let split = same_fronts (stored_rows (table_of x)) (built_rows x.part) (stored_rows (flat_map table_of fates)) (all_rows fates)
    (sym (flat_map-append (λ (t : StoredTable). t.rows) (table_of x) (flat_map table_of fates)) ∙ same) (as_many x.row x.part) in
    (split.0, each_are_cells fates split.1)

all_back : (f : File) (roots : List ℕ) (all : List ReportLine) (fates : List TableFate) → AllByRecursion HasPart fates
    → AllByRecursion AreCells fates → AllByRecursion (IsTold all) fates → AllByRecursion (ClearAreRead f roots) fates
    → AllByRecursion (ClearRowsAreBack f roots all) fates
all_back f roots all [] parts are told read = tt
all_back f roots all (x ∷ fates) parts are told read = (
  part_back f roots all x.row (length x.pages) (cells_in x.turns) x.reading x.part parts.0 told.0 are.0 read.0,
  all_back f roots all fates parts.1 are.1 told.1 read.1,
)

pub rows_come_back : ClearRowsComeBack
rows_come_back f trunk fates orphans cells s all into =
    all_back f (roots_of s.rows) all fates (have_parts s.rows s.readings s.tables s.turns fates s.fates_are)
    (each_are_cells fates (stored_are_cells f (all_pages f) trunk fates orphans cells s))
    (lost_are_told f (all_pages f) trunk fates orphans cells s all into) (clear_are_read f trunk fates orphans cells s)
