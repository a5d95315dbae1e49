-- What is gained by a row, a table, a part and a fate.
use Rattle.std.proofs.Common.{◌≡◌, ◌≤◌, ℕ, Some, List, [], ◌∷◌, ◌++◌, length, map, refl, sym, ◌∙◌, ap, subst, arith, append-nil, length-append, Vec, Global}
use Rattle.std.specs.Prelude.{unwrap_or}
use Rattle.std.specs.List.{AllByRecursion, flat_map}
use Rattle.std.proofs.lemmas.List.{length-map}
use Rattle.page_walk.specs.Cells.{Row, outcome_of, row_of}
use Rattle.page_walk.specs.InTurn.{turn_of}
use Rattle.page_walk.specs.declared.outcomes.TakenCell.{TakenCell}
use Rattle.page_walk.specs.declared.turns.PageTurn.{PageTurn}
use Rattle.raw_schema.specs.declared.rows.SchemaRow.{SchemaRow}
use Rattle.raw_schema.specs.Schema.{cells_in, noted}
use Rattle.report_text.specs.declared.causes.UnreadCause.{UnreadCause}
use Rattle.schema_texts.specs.declared.readings.Reading.{Reading}
use Rattle.table_fill.specs.declared.fates.LeftCell.{LeftCell}
use Rattle.table_fill.specs.Chosen.{left_seen}
use Rattle.table_fill.specs.Fates.{Left}
use Rattle.table_parts.specs.declared.parts.TablePart.{TablePart}
use Rattle.table_parts.specs.declared.parts.TablePart.TheVariants.{Built, Unread}
use Rattle.table_parts.specs.Lines.{table_lines}
use Rattle.table_parts.specs.Parts.{IsPart}
use Rattle.table_shape.specs.Seen.{shape_seen}
use Rattle.table_shape.specs.declared.rows.OutRow.{OutRow}
use Rattle.table_shape.specs.declared.rows.OutTable.{OutTable}
use Rattle.table_shape.specs.declared.shapes.TableShape.{TableShape}
use Rattle.report_text.specs.declared.ReportLine.{ReportLine}
use Rattle.table_parts.specs.Laws.{lost_cells}
use Rattle.salvaged_tables.specs.declared.places.FailedEntry.{FailedEntry}
use Rattle.salvaged_tables.specs.declared.places.LostCell.{LostCell}
use Rattle.salvaged_tables.specs.declared.places.Placed.{Placed}
use Rattle.salvaged_tables.specs.declared.places.ScriptText.{ScriptText}
use Rattle.salvaged_tables.specs.declared.salvage.SalvagedTables.{SalvagedTables}
use Rattle.salvaged_tables.specs.Fates.{StoredTable, built_table, failed_on, part_text, root_of, stored_row, table_with, text_of}
use Rattle.salvaged_tables.specs.Salvaged.{HavePlaces, failed_seen, lost_seen, row_at, rows_at, stored_table, stored_tables}
use Rattle.salvaged_tables.specs.Steps.{AreFew, GainsPart, GainsRow, GainsTable, GainsTables}
use Rattle.salvaged_tables.proofs.Items.{front, nothing}

-- ---- a row

rows_more : (rows : List OutRow) (places : List Placed) (o : OutRow) (p : Placed) → length rows ≡ length places
    → rows_at (rows ++ o ∷ []) (places ++ p ∷ []) ≡ rows_at rows places ++ row_at o p ∷ []
rows_more [] [] o p even = refl
rows_more [] (q ∷ places) o p even = absurd (omega (arith, even))
rows_more (r ∷ rows) [] o p even = absurd (omega (arith, even))
rows_more (r ∷ rows) (q ∷ places) o p even = ap (λ (rs : List Row). row_at r q ∷ rs) (rows_more rows places o p (omega (arith, even)))

-- a row and its place are pushed
pub gains_row : (row : Row) (rows new_rows : List OutRow) (places new_places : List Placed) (o : OutRow) (p : Placed) → row_at o p ≡ row
    → new_rows ≡ rows ++ o ∷ [] → new_places ≡ places ++ p ∷ [] → GainsRow row rows places new_rows new_places
gains_row row rows new_rows places new_places o p same pushed placed = record {
  gained = λ even. ap (λ (rs : List OutRow). rows_at rs new_places) pushed ∙ ap (rows_at (rows ++ o ∷ [])) placed
      ∙ rows_more rows places o p even ∙ ap (λ (r : Row). rows_at rows places ++ r ∷ []) same;
  placed = λ even. omega (arith, even, ap length pushed, ap length placed, length-append rows (o ∷ []), length-append places (p ∷ []));
}

-- ---- a table

tables_more : (tables : List OutTable) (places : List (Vec Placed Global)) (t : OutTable) (p : Vec Placed Global) → HavePlaces tables places
    → stored_tables (tables ++ t ∷ []) (places ++ p ∷ []) ≡ stored_tables tables places ++ stored_table t p ∷ []
tables_more [] [] t p even = refl
tables_more [] (q ∷ places) t p even = absurd (nothing _ _ (sym even))
tables_more (u ∷ tables) [] t p even = absurd (nothing _ _ even)
tables_more (u ∷ tables) (q ∷ places) t p even =
    ap (λ (ts : List StoredTable). stored_table u q ∷ ts) (tables_more tables places t p (front _ _ _ _ even).1)

places_more : (tables : List OutTable) (places : List (Vec Placed Global)) (t : OutTable) (p : Vec Placed Global) → HavePlaces tables places
    → length t.rows.items ≡ length p.items → HavePlaces (tables ++ t ∷ []) (places ++ p ∷ [])
places_more [] [] t p even same = ap (λ (n : ℕ). n ∷ []) same
places_more [] (q ∷ places) t p even same = absurd (nothing _ _ (sym even))
places_more (u ∷ tables) [] t p even same = absurd (nothing _ _ even)
places_more (u ∷ tables) (q ∷ places) t p even same =
    let both : (length u.rows.items ≡ length q.items) × HavePlaces tables places = front _ _ _ _ even in
    ap (λ (n : ℕ). n ∷ map (λ (t : OutTable). length t.rows.items) (tables ++ t ∷ [])) both.0
    ∙ ap (λ (ns : List ℕ). length q.items ∷ ns) (places_more tables places t p both.1 same)

pub gains_pushed : (t : OutTable) (p : Vec Placed Global) (tables new_tables : List OutTable) (places new_places : List (Vec Placed Global))
    → length t.rows.items ≡ length p.items → new_tables ≡ tables ++ t ∷ [] → new_places ≡ places ++ p ∷ []
    → GainsTables (stored_table t p ∷ []) tables places new_tables new_places
gains_pushed t p tables new_tables places new_places even pushed placed = record {
  gained = λ was. ap (λ (ts : List OutTable). stored_tables ts new_places) pushed
      ∙ ap (stored_tables (tables ++ t ∷ [])) placed ∙ tables_more tables places t p was;
  placed = λ was. subst (λ (ts : List OutTable). HavePlaces ts new_places) (sym pushed)
      (subst (HavePlaces (tables ++ t ∷ [])) (sym placed) (places_more tables places t p was even));
}

-- a table and its places are pushed
pub gains_one : (row : SchemaRow) (shape : TableShape) (cells : List TakenCell) (tables new_tables : List OutTable)
    (places new_places : List (Vec Placed Global)) (name text : List ℕ) (rows : Vec OutRow Global) (p : Vec Placed Global)
    → name ≡ row.name → text ≡ unwrap_or row.sql [] → rows_at rows.items p.items ≡ map (stored_row shape.without_rowid) (map row_of cells)
    → length rows.items ≡ length p.items
    → new_tables ≡ tables ++ record { name = name; text = text; shape = shape; rows = rows } ∷ [] → new_places ≡ places ++ p ∷ []
    → GainsTables (table_with row (shape_seen shape) (map row_of cells) ∷ []) tables places new_tables new_places
gains_one row shape cells tables new_tables places new_places name text rows p name_is text_is rows_are even pushed placed =
    let t : OutTable = record { name = name; text = text; shape = shape; rows = rows } in
    let seen : stored_table t p ≡ table_with row (shape_seen shape) (map row_of cells) =
    ap (λ (n : List ℕ). record { name = n; text = text; shape = shape_seen shape; rows = rows_at rows.items p.items }) name_is
    ∙ ap (λ (x : List ℕ). record { name = row.name; text = x; shape = shape_seen shape; rows = rows_at rows.items p.items }) text_is
    ∙ ap (λ (rs : List Row). record { name = row.name; text = unwrap_or row.sql []; shape = shape_seen shape; rows = rs }) rows_are in
    subst (λ (one : StoredTable). GainsTables (one ∷ []) tables places new_tables new_places) seen
    (gains_pushed t p tables new_tables places new_places even pushed placed)

pub gains_none : (tables : List OutTable) (places : List (Vec Placed Global)) → GainsTables [] tables places tables places
gains_none tables places = record { gained = λ was. sym (append-nil (stored_tables tables places)); placed = λ was. was }

-- ---- a part

pub gains_built : (row : SchemaRow) (root : ℕ) (part : TablePart) (shape : TableShape) (rows : Vec TakenCell Global) (left : Vec LeftCell Global)
    (old new : SalvagedTables) → part ≡ Built shape rows left
    → GainsTables (table_with row (shape_seen shape) (map row_of rows.items) ∷ []) old.tables.items old.places.items new.tables.items new.places.items
    → map lost_seen new.lost.items ≡ map lost_seen old.lost.items
    ++ map (λ (r : Row). (root, r)) (map (λ (l : Left). l.row) (map left_seen left.items))
    → new.script ≡ old.script → new.failed ≡ old.failed → new.lines ≡ old.lines → GainsPart row root part old new
gains_built row root part shape rows left old new is gained lost script failed lines =
    subst (λ (p : TablePart). GainsPart row root p old new) (sym is) (record {
      tables = gained;
      lost = lost;
      script = ap (λ s. s.items) script ∙ sym (append-nil old.script.items);
      failed = failed;
      lines = lines;
    })

pub gains_unread : (row : SchemaRow) (root : ℕ) (part : TablePart) (cause : UnreadCause) (cells : Vec TakenCell Global)
    (old new : SalvagedTables) → part ≡ Unread cause cells → new.tables ≡ old.tables → new.places ≡ old.places
    → map lost_seen new.lost.items ≡ map lost_seen old.lost.items ++ map (λ (r : Row). (root, r)) (map row_of cells.items)
    → new.script.items ≡ old.script.items ++ text_of (Some row.name) row.sql → new.failed ≡ old.failed → new.lines ≡ old.lines
    → GainsPart row root part old new
gains_unread row root part cause cells old new is tables places lost script failed lines =
    subst (λ (p : TablePart). GainsPart row root p old new) (sym is) (record {
      tables = subst (λ (ts : Vec OutTable Global). GainsTables [] old.tables.items old.places.items ts.items new.places.items) (sym tables)
          (subst (λ (ps : Vec (Vec Placed Global) Global). GainsTables [] old.tables.items old.places.items old.tables.items ps.items) (sym places)
          (gains_none old.tables.items old.places.items));
      lost = lost;
      script = script;
      failed = failed;
      lines = lines;
    })

-- ---- a fate

pub few_turns : (turns : List PageTurn) → AreFew (map turn_of turns) → AllByRecursion (λ (t : PageTurn). length t.outcomes.items ≤ 32768) turns
few_turns [] few = tt
few_turns (t ∷ turns) few = (omega (arith, few.0, length-map t.outcomes.items outcome_of), few_turns turns few.1)

pub gains_table : (row : SchemaRow) (reading : Reading) (pages : List ℕ) (turns : List PageTurn) (root : ℕ) (part : TablePart)
    (old between new : SalvagedTables) → root ≡ root_of pages → IsPart reading (cells_in (map turn_of turns)) part
    → map failed_seen between.failed.items ≡ map failed_seen old.failed.items ++ flat_map (failed_on root) (map turn_of turns)
    → between.lines.items ≡ old.lines.items ++ table_lines row.name (length pages) part (flat_map noted (map turn_of turns))
    → between.tables ≡ old.tables → between.places ≡ old.places → between.lost ≡ old.lost → between.script ≡ old.script
    → GainsPart row root part between new → GainsTable row reading pages (map turn_of turns) old new
gains_table row reading pages turns root part old between new root_is part_is failed lines tables places lost script gains = record {
  part = part;
  part_is = part_is;
  gains = record {
    tables = subst (λ (ts : Vec OutTable Global). GainsTables (built_table row part) ts.items old.places.items new.tables.items new.places.items) tables
        (subst (λ (ps : Vec (Vec Placed Global) Global). GainsTables (built_table row part) between.tables.items ps.items new.tables.items new.places.items) places
        gains.tables);
    lost = gains.lost
        ∙ ap (λ (v : Vec LostCell Global). map lost_seen v.items ++ map (λ (r : Row). (root, r)) (lost_cells part)) lost
        ∙ ap (λ (n : ℕ). map lost_seen old.lost.items ++ map (λ (r : Row). (n, r)) (lost_cells part)) root_is;
    failed = ap (λ (v : Vec FailedEntry Global). map failed_seen v.items) gains.failed ∙ failed
        ∙ ap (λ (n : ℕ). map failed_seen old.failed.items ++ flat_map (failed_on n) (map turn_of turns)) root_is;
    script = gains.script ∙ ap (λ (v : Vec ScriptText Global). v.items ++ part_text row part) script;
    lines = ap (λ (v : Vec ReportLine Global). v.items) gains.lines ∙ lines;
  };
}
