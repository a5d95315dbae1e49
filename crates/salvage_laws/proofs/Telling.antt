-- The lines of the cells that no table has.
use Rattle.std.proofs.Common.{◌≡◌, ℕ, List, [], ◌∷◌, ◌++◌, length, map, sym, ◌∙◌, ap, subst}
use Rattle.std.specs.List.{AllByRecursion, Contains, flat_map}
use Rattle.std.proofs.lemmas.List.{length-map}
use Rattle.std.proofs.lemmas.List.Elements.{Contains-append_left, Contains-append_right}
use Rattle.std.proofs.lemmas.List.Sorted.{Contains-permutation}
use Rattle.page_walk.specs.Cells.{Outcome, Row, row_of}
use Rattle.page_walk.specs.declared.outcomes.TakenCell.{TakenCell}
use Rattle.raw_schema.specs.declared.rows.SchemaRow.{SchemaRow}
use Rattle.raw_schema.specs.Schema.{cells_in, noted}
use Rattle.report_text.specs.declared.ReportLine.{ReportLine}
use Rattle.report_text.specs.declared.ReportLine.TheVariants as lines
use Rattle.report_text.specs.declared.causes.UnreadCause.{UnreadCause}
use Rattle.schema_texts.specs.declared.readings.Reading.{Reading}
use Rattle.schema_texts.specs.declared.readings.Reading.TheVariants as readings
use Rattle.schema_texts.specs.declared.readings.TableReading.{TableReading}
use Rattle.table_shape.specs.Keys.{Keys, keys_of}
use Rattle.table_shape.specs.Seen.{shape_seen}
use Rattle.table_shape.specs.Shape.{Shape}
use Rattle.table_fill.specs.declared.fates.Fate.{Fate}
use Rattle.table_fill.specs.declared.fates.Fate.TheVariants.{Clash, Misfit}
use Rattle.table_fill.specs.Chosen.{AreSorted, left_seen}
use Rattle.table_fill.specs.Fates.{Left, rows_of, sorted_of}
use Rattle.table_fill.specs.Laws.{AreRising}
use Rattle.table_fill.proofs.Good.{kept_ordered}
use Rattle.table_fill.proofs.Inserting.{all_map}
use Rattle.table_fill.proofs.Named.{has_first, has_next, shapes_rise}
use Rattle.table_parts.specs.declared.parts.TablePart.{TablePart}
use Rattle.table_parts.specs.declared.parts.TablePart.TheVariants.{Built, Unread}
use Rattle.table_parts.specs.Lines.{clash_line, clash_lines, head_lines, misfit_line, misfit_lines, note_lines}
use Rattle.table_parts.specs.Parts.{IsPart}
use Rattle.tree_uses.specs.Trees.{Tree}
use Rattle.salvaged_tables.specs.Fates.{AreFates, TableFate, fate_lines}
use Rattle.salvage_laws.specs.Laws.{LostAreTold}
use Rattle.salvage_laws.specs.Told.{IsLost, IsTold, IsToldPart, lost_line}
use Rattle.salvage_laws.proofs.Items.{all_both}
use Rattle.salvage_laws.proofs.Judged.{IsDecided, are_decided, reason_of}

-- what each item gives is among what all give
flat_has : {A B : Type 0} (h : A → List B) (xs : List A) → AllByRecursion (λ (a : A). (y : B) → Contains (h a) y → Contains (flat_map h xs) y) xs
flat_has h [] = tt
flat_has {A} {B} h (a ∷ xs) = (
  λ y c. Contains-append_left (h a) (flat_map h xs) y c,
  all_map (λ (b : A). (y : B) → Contains (h b) y → Contains (flat_map h xs) y) (λ (b : A). (y : B) → Contains (h b) y → Contains (flat_map h (a ∷ xs)) y)
      (λ b so y c. Contains-append_right (h a) (flat_map h xs) y (so y c)) xs (flat_has h xs),
)

line_there : (name : List ℕ) (clashes misfits : List ReportLine) (row : Row) (fate : Fate)
    → ((y : ReportLine) → Contains (clash_line name row fate) y → Contains clashes y)
    → ((y : ReportLine) → Contains (misfit_line name row fate) y → Contains misfits y)
    → Contains (clashes ++ misfits) (lost_line name row fate)
line_there name clashes misfits row (Clash earlier key) first second =
    Contains-append_left clashes misfits (lost_line name row (Clash earlier key)) (first _ (has_first (lost_line name row (Clash earlier key)) []))
line_there name clashes misfits row Misfit first second =
    Contains-append_right clashes misfits (lost_line name row Misfit) (second _ (has_first (lost_line name row Misfit) []))

-- each cell that is no row has its line
lines_there : (name : List ℕ) (left : List Left)
    → AllByRecursion (λ (l : Left). Contains (clash_lines name left ++ misfit_lines name left) (lost_line name l.row l.fate)) left
lines_there name left =
    all_both _ _ (λ (l : Left). Contains (clash_lines name left ++ misfit_lines name left) (lost_line name l.row l.fate)) left
    (λ l first second. line_there name (clash_lines name left) (misfit_lines name left) l.row l.fate first second)
    (flat_has (λ (l : Left). clash_line name l.row l.fate) left) (flat_has (λ (l : Left). misfit_line name l.row l.fate) left)

all_lost : (all : List ReportLine) (name : List ℕ) (t : Keys) (cells rows : List Row) (left : List Left) → AreRising 0 t.keys
    → AreSorted t cells rows left → ((y : ReportLine) → Contains (clash_lines name left ++ misfit_lines name left) y → Contains all y)
    → AllByRecursion (IsLost all name t cells rows) left
all_lost all name t cells rows left up are into =
    all_both (IsDecided t cells (sorted_of t cells).kept) _ (IsLost all name t cells rows) left
    (λ l d line. record {
      front = d.front;
      rest = d.rest;
      cells_are = d.cells_are;
      of_table = all_map (Contains (sorted_of t cells).kept) (Contains rows) of_rows (sorted_of t d.front).kept d.of_kept;
      reason = reason_of t (sorted_of t d.front).kept l.row l.fate up d.fate;
      line = into (lost_line name l.row l.fate) line;
    })
    (subst (AllByRecursion (IsDecided t cells (sorted_of t cells).kept)) (sym are.left_are) (are_decided t cells)) (lines_there name left)
  where
    of_rows : (k : Row) → Contains (sorted_of t cells).kept k → Contains rows k
    of_rows k c = subst (λ (rs : List Row). Contains rs k) (sym are.rows_are)
        (Contains-permutation (sorted_of t cells).kept (rows_of t (sorted_of t cells)) k (kept_ordered t cells).moved c)

-- ---- a table

unread_line : (all : List ReportLine) (name : List ℕ) (pages : ℕ) (cause : UnreadCause) (given : List TakenCell) (cells : List Row)
    → map row_of given ≡ cells → ((y : ReportLine) → Contains (lines.Unread name (length given) pages cause ∷ []) y → Contains all y)
    → Contains all (lines.Unread name (length cells) pages cause)
unread_line all name pages cause given cells same into =
    let len : length given ≡ length cells = sym (length-map given row_of) ∙ ap length same in
    subst (λ (n : ℕ). Contains all (lines.Unread name n pages cause)) len
    (into (lines.Unread name (length given) pages cause) (has_first (lines.Unread name (length given) pages cause) []))

told_part : (all : List ReportLine) (name : List ℕ) (pages : ℕ) (reading : Reading) (cells : List Row) (part : TablePart)
    → ((y : ReportLine) → Contains (head_lines name pages part) y → Contains all y) → IsPart reading cells part
    → IsToldPart all name pages cells part
told_part all name pages (readings.Shape s) cells (Built shape rows left) into is =
    all_lost all name (keys_of (shape_seen shape)) cells (map row_of rows.items) (map left_seen left.items) (shapes_rise (shape_seen shape) shape.valid)
    (subst (λ (x : Shape). AreSorted (keys_of x) cells (map row_of rows.items) (map left_seen left.items)) (sym is.0) is.1)
    (λ y c. into y (has_next _ y (clash_lines name (map left_seen left.items) ++ misfit_lines name (map left_seen left.items)) c))
told_part all name pages (readings.Shape s) cells (Unread cause given) into is = unread_line all name pages cause given.items cells is.given_are into
told_part all name pages (readings.Unread why kind) cells (Built shape rows left) into is = absurd is
told_part all name pages (readings.Unread why kind) cells (Unread cause given) into is = unread_line all name pages cause given.items cells is.1 into

-- ---- all tables

told_fates : (all : List ReportLine) (rows : List SchemaRow) (rs : List TableReading) (tables : List Tree) (turns : List (List (ℕ × List Outcome)))
    (fates : List TableFate) → ((y : ReportLine) → Contains (flat_map fate_lines fates) y → Contains all y)
    → AreFates rows rs tables turns fates → AllByRecursion (IsTold all) fates
told_fates all rows [] [] [] [] into are = tt
told_fates all rows (r ∷ rs) (t ∷ tables) (ts ∷ turns) (f ∷ fates) into are = (
  told_part all f.row.name (length f.pages) r.reading (cells_in f.turns) f.part
      (λ y c. into y (Contains-append_left (fate_lines f) (flat_map fate_lines fates) y
      (Contains-append_left (head_lines f.row.name (length f.pages) f.part) (note_lines (flat_map noted f.turns)) y c)))
      (subst (λ (us : List (ℕ × List Outcome)). IsPart r.reading (cells_in us) f.part) (sym are.0.turns_are) are.0.part_is),
  told_fates all rows rs tables turns fates (λ y c. into y (Contains-append_right (fate_lines f) (flat_map fate_lines fates) y c)) are.1,
)
told_fates all rows rs tables turns fates into are = absurd are

pub lost_are_told : LostAreTold
lost_are_told f u trunk fates orphans cells s all into = told_fates all s.rows s.readings s.tables s.turns fates into s.fates_are
