-- The pages of a file are once; the rows of stored tables are cells as they were read.
use Rattle.std.proofs.Common.{◌≡◌, inl, inr, ℕ, Bool, true, false, Some, None, List, [], ◌∷◌, ◌++◌, map, refl, sym, ◌∙◌, ap, subst, arith, append-nil}
use Rattle.std.specs.Prelude.{ℤ, Option}
use Rattle.std.specs.List.{AllByRecursion, flat_map}
use Rattle.std.proofs.lemmas.Grind.{flat_map-append}
use Rattle.page_access.specs.Pages.{File}
use Rattle.page_lists.specs.Lists.{count, is_in, minus}
use Rattle.page_lists.specs.Table.{fresh}
use Rattle.page_lists.proofs.Counts.{count_in, in_head, in_or_not}
use Rattle.page_lists.proofs.Moves.{IsPartition-fresh}
use Rattle.cell_reader.specs.declared.shapes.Kind.TheVariants as kinds
use Rattle.page_walk.specs.Cells.{Outcome, Row, row_of}
use Rattle.page_walk.specs.Evidence.{Evidence}
use Rattle.page_walk.specs.Turns.{turns_on}
use Rattle.page_walk.proofs.Chains.{walks_are_unused}
use Rattle.page_walk.proofs.Rowids.{rowids_are_by_kind}
use Rattle.page_walk.proofs.Witness.{unused_once}
use Rattle.raw_schema.specs.declared.rows.SchemaRow.{SchemaRow}
use Rattle.raw_schema.specs.Schema.{cells_in}
use Rattle.schema_texts.specs.declared.readings.Reading.{Reading}
use Rattle.schema_texts.specs.declared.readings.Reading.TheVariants as readings
use Rattle.schema_texts.specs.declared.readings.TableReading.{TableReading}
use Rattle.schema_texts.specs.Readings.{kind_of}
use Rattle.table_parts.specs.declared.parts.TablePart.{TablePart}
use Rattle.table_parts.specs.declared.parts.TablePart.TheVariants as parts
use Rattle.table_parts.specs.Laws.{built_rows, lost_cells}
use Rattle.table_parts.specs.Parts.{IsPart}
use Rattle.table_parts.proofs.Kept.{each_cell}
use Rattle.table_shape.specs.Seen.{shape_seen}
use Rattle.table_shape.specs.Shape.{Shape}
use Rattle.tree_uses.specs.Trees.{Tree, chains_in, pages_in, tree_for, turns_in, walk_for, walks}
use Rattle.use_order.specs.Apart.{row_pages}
use Rattle.use_order.specs.Laws.{UsesHold, table_cells}
use Rattle.use_order.specs.Order.{behind_schema, kind_read, table_tree}
use Rattle.use_order.specs.declared.TheConstants.{TABLE_LIST}
use Rattle.use_order.proofs.Apart.{turns_pages}
use Rattle.use_order.proofs.Holding.{uses_hold}
use Rattle.salvaged_tables.specs.Fates.{AreFates, TableFate, built_table, stored_row, table_of}
use Rattle.salvaged_tables.specs.Laws.{all_rows}
use Rattle.salvage_laws.specs.Laws.{PagesAreOnce, StoredAreCells}
use Rattle.salvage_laws.specs.Stored.{stored_rows}
use Rattle.salvage_laws.proofs.Items.{all_both, all_front, all_part}

pub pages_are_once : PagesAreOnce
pages_are_once f = unused_once (fresh f.pages 6) f.pages (IsPartition-fresh f.pages 6) refl

-- ---- rows WITHOUT ROWID

kept_rows : (rows : List Row) → map (stored_row false) rows ≡ rows
kept_rows [] = refl
kept_rows (r ∷ rows) = ap (λ (rs : List Row). r ∷ rs) (kept_rows rows)

with_rowid : Row → Option ℤ → Row
with_rowid r rowid = record { page = r.page; cell = r.cell; rowid = rowid; chain = r.chain; fields = r.fields }

bare_rows : (rows : List Row) → AllByRecursion (λ (r : Row). r.rowid ≡ None) rows → map (stored_row true) rows ≡ rows
unfolding with_rowid
bare_rows [] none = refl
bare_rows (r ∷ rows) none =
    ap (λ (rowid : Option ℤ). with_rowid r rowid ∷ map (stored_row true) rows) (sym none.0)
    ∙ ap (λ (rs : List Row). r ∷ rs) (bare_rows rows none.1)

same_rows : (b : Bool) (rows : List Row) → (b ≡ true → AllByRecursion (λ (r : Row). r.rowid ≡ None) rows) → map (stored_row b) rows ≡ rows
same_rows true rows none = bare_rows rows (none refl)
same_rows false rows none = kept_rows rows

-- rows stand on pages that their pages are among
on_pages : (ps : List ℕ) (rows : List Row) → ((q : ℕ) → count q ps ≡ 0 → count q (row_pages rows) ≡ 0)
    → AllByRecursion (λ (r : Row). is_in r.page ps ≡ true) rows
on_pages ps [] none = tt
on_pages ps (r ∷ rows) none = (
  elim (in_or_not r.page ps) [
    | inl is ↦ is.0
    | inr isnt ↦ absurd (omega (arith, none r.page isnt.1, count_in r.page (r.page ∷ row_pages rows) (in_head r.page (row_pages rows))))
  ],
  on_pages ps rows (λ q zero. omega (arith, none q zero)),
)

-- ---- the table of a fate

kind_without : (s : Shape) → s.without_rowid ≡ true → kind_of s ≡ kinds.Index
kind_without s without = rw without refl

-- the rows of a table that is stored are cells as they were read
table_rows : (f : File) (row : SchemaRow) (reading : Reading) (cells : List Row) (u : List ℕ) (root : ℤ) (part : TablePart)
    → AllByRecursion (λ (r : Row). is_in r.page (walk_for f u root (kind_read reading)) ≡ true) cells → AllByRecursion (Evidence f) cells
    → IsPart reading cells part → stored_rows (built_table row part) ≡ built_rows part
table_rows f row (readings.Shape s) cells u root (parts.Built shape rows left) on there is =
    append-nil (map (stored_row shape.without_rowid) (map row_of rows.items)) ∙ same_rows shape.without_rowid (map row_of rows.items) none
  where
    none : shape.without_rowid ≡ true → AllByRecursion (λ (r : Row). r.rowid ≡ None) (map row_of rows.items)
    none without =
        let kind : kind_of (shape_seen s) ≡ kinds.Index =
        kind_without (shape_seen s) (ap (λ (x : Shape). x.without_rowid) (sym is.0) ∙ without) in
        all_part (λ (r : Row). r.rowid ≡ None) cells (map row_of rows.items) (lost_cells (parts.Built shape rows left))
        (each_cell (readings.Shape s) cells (parts.Built shape rows left) is)
        (all_both _ (Evidence f) (λ (r : Row). r.rowid ≡ None) cells
        (λ r here e. (rowids_are_by_kind f r e).index ((walks_are_unused f u root (kind_of (shape_seen s))).kinds r.page here ∙ ap Some kind)) on there)
table_rows f row (readings.Shape s) cells u root (parts.Unread cause given) on there is = refl
table_rows f row (readings.Unread why kind) cells u root (parts.Built shape rows left) on there is = absurd is
table_rows f row (readings.Unread why kind) cells u root (parts.Unread cause given) on there is = refl

-- ---- all tables

fates_rows : (f : File) (rows : List SchemaRow) (list : ℕ) (rs : List TableReading) (u v : List ℕ) (fates : List TableFate)
    → AllByRecursion (Evidence f) (table_cells (turns_in f (walks f list (map table_tree rs) u) v))
    → AreFates rows rs (walks f list (map table_tree rs) u) (turns_in f (walks f list (map table_tree rs) u) v) fates
    → stored_rows (flat_map table_of fates) ≡ all_rows fates
fates_rows f rows list [] u v [] there are = refl
fates_rows f rows list [] u v (x ∷ fates) there are = absurd are
fates_rows f rows list (r ∷ rs) u v [] there are = absurd are
fates_rows f rows list (r ∷ rs) u v (x ∷ fates) there are =
    let tree : Tree = tree_for f list (table_tree r) u in
    let turns : List (ℕ × List Outcome) = turns_on f tree.pages v in
    let both = all_front (Evidence f) (cells_in turns)
    (table_cells (turns_in f (walks f list (map table_tree rs) (minus u tree.pages)) (minus v (chains_in turns)))) there in
    flat_map-append _ (table_of x) (flat_map table_of fates)
    ∙ ap (λ (first : List Row). first ++ stored_rows (flat_map table_of fates))
    (table_rows f x.row r.reading (cells_in turns) u r.root x.part
    (on_pages tree.pages (cells_in turns) (λ q zero. turns_pages f tree.pages q v zero)) both.0 are.0.part_is)
    ∙ ap (λ (rest : List Row). built_rows x.part ++ rest)
    (fates_rows f rows list rs (minus u tree.pages) (minus v (chains_in turns)) fates both.1 are.1)

pub stored_are_cells : StoredAreCells
stored_are_cells f u trunk fates orphans cells s =
    let d : List ℕ = minus (minus (behind_schema f u) (pages_in s.tables)) (pages_in s.indexes) in
    let trees : List Tree = walks f TABLE_LIST (map table_tree s.readings) (behind_schema f u) in
    let same : s.turns ≡ turns_in f trees d = s.order.turns_are ∙ ap (λ (ts : List Tree). turns_in f ts d) s.order.tables_are in
    let held : UsesHold f u s.tables s.indexes s.turns = uses_hold f u s.rows s.readings s.tables s.indexes s.turns s.order in
    fates_rows f s.rows TABLE_LIST s.readings (behind_schema f u) d fates
    (subst (λ (tss : List (List (ℕ × List Outcome))). AllByRecursion (Evidence f) (table_cells tss)) same (held.evidence s.once))
    (subst (λ (tss : List (List (ℕ × List Outcome))). AreFates s.rows s.readings trees tss fates) same
    (subst (λ (ts : List Tree). AreFates s.rows s.readings ts s.turns fates) s.order.tables_are s.fates_are))
