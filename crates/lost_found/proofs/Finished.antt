-- The table is the one that is meant, and can be written.
use Rattle.std.proofs.Common.{◌≡◌, refl, sym, ap, ◌∙◌, subst, arith, ℕ, ◌^◌, ◌<◌, ◌≤◌, Bool, true, false, not, List, [], ◌∷◌, length, map, is_some, Vec, Global}
use Rattle.std.specs.List.{AllByRecursion}
use Rattle.create_reader.specs.Outcome.{IsTableText}
use Rattle.db_builder.specs.Valid.{IsTable}
use Rattle.page_walk.specs.Cells.{Row}
use Rattle.salvaged_tables.specs.Fates.{StoredTable}
use Rattle.salvaged_tables.specs.Salvaged.{lost_seen, rows_at, stored_table}
use Rattle.salvaged_tables.specs.declared.places.LostCell.{LostCell}
use Rattle.salvaged_tables.specs.declared.places.Placed.{Placed}
use Rattle.table_shape.specs.Keys.{AreRows, StoredRow, keys_of}
use Rattle.table_shape.specs.Names.{is_named, is_reserved}
use Rattle.table_shape.specs.Seen.{row_seen, shape_seen}
use Rattle.table_shape.specs.Shape.{Shape, has_real_key}
use Rattle.table_shape.specs.declared.rows.OutRow.{OutRow}
use Rattle.table_shape.specs.declared.rows.OutTable.{OutTable}
use Rattle.lost_found.specs.Few.{HasFewFields}
use Rattle.lost_found.specs.Lost.{lost_of}
use Rattle.lost_found.specs.Names.{CanBeBase, lost_name}
use Rattle.lost_found.specs.Rows.{lost_rows, most_fields}
use Rattle.lost_found.specs.Texts.{lost_shape, lost_text}
use Rattle.lost_found.proofs.Numbering.{has_first_name}
use Rattle.lost_found.proofs.Text.{text_says}
use Rattle.lost_found.proofs.Writable.{have_rowids, name_free, rows_are, seen}

pub table_is : (base : List ℕ) (names : List (List ℕ)) (cells : List (ℕ × Row)) (name text : List ℕ) (n : ℕ) (shape : Shape) (rows : List Row)
    → name ≡ lost_name base names → n ≡ most_fields cells → text ≡ lost_text name n → shape ≡ lost_shape name n → rows ≡ lost_rows 1 cells
    → ◌≡◌ {A = StoredTable} (record { name = name; text = text; shape = shape; rows = rows }) (lost_of base names cells)
table_is base names cells name text n shape rows called wide says shaped are =
    let texts : text ≡ lost_text (lost_name base names) (most_fields cells) = says ∙ λ i. lost_text (called i) (wide i) in
    let shapes : shape ≡ lost_shape (lost_name base names) (most_fields cells) = shaped ∙ λ i. lost_shape (called i) (wide i) in
    λ i. record { name = called i; text = texts i; shape = shapes i; rows = are i }

pub most_few : (cells : List LostCell) → AllByRecursion HasFewFields cells → most_fields (map lost_seen cells) ≤ 1996
most_few [] few = omega arith
most_few (c ∷ cells) few =
    let here = few.0 in
    let rest = most_few cells few.1 in
    omega (arith, here, rest)

placed_seen : (rows : List OutRow) (places : List Placed) → length rows ≡ length places → map seen (rows_at rows places) ≡ map row_seen rows
placed_seen [] places even = refl
placed_seen (o ∷ rows) [] even = absurd (omega (arith, even))
placed_seen (o ∷ rows) (p ∷ places) even = ap (λ (rs : List StoredRow). row_seen o ∷ rs) (placed_seen rows places (omega (arith, even)))

pub table_valid : (base : List ℕ) (names : List (List ℕ)) (cells : List (ℕ × Row)) (t : OutTable) (places : Vec Placed Global)
    → CanBeBase base → length names < 2 ^ 64 → most_fields cells ≤ 1996 → stored_table t places ≡ lost_of base names cells
    → length t.rows.items ≡ length places.items → IsTable t
table_valid base names cells t places can few small is even =
    let name : t.name ≡ lost_name base names = ap (λ (s : StoredTable). s.name) is in
    let text : t.text ≡ lost_text (lost_name base names) (most_fields cells) = ap (λ (s : StoredTable). s.text) is in
    let shape : shape_seen t.shape ≡ lost_shape (lost_name base names) (most_fields cells) = ap (λ (s : StoredTable). s.shape) is in
    let rows : map seen (lost_rows 1 cells) ≡ map row_seen t.rows.items =
    ap (map seen) (sym (ap (λ (s : StoredTable). s.rows) is)) ∙ placed_seen t.rows.items places.items even in
    let with_rowids : false ≡ t.shape.without_rowid = sym (ap (λ (s : Shape). s.without_rowid) shape) in
    record {
      text = subst (λ (sql : List ℕ). IsTableText sql (shape_seen t.shape)) (sym text)
          (subst (IsTableText (lost_text (lost_name base names) (most_fields cells))) (sym shape)
          (text_says (lost_name base names) (most_fields cells) small));
      name = ap (λ (s : Shape). s.name) shape ∙ sym name;
      unreserved = ap is_reserved name ∙ name_free base names can few;
      no_real = ap has_real_key shape;
      rowids = subst (λ (b : Bool). AllByRecursion (λ (row : StoredRow). is_some row.rowid ≡ not b) (map row_seen t.rows.items)) with_rowids
          (subst (AllByRecursion (λ (row : StoredRow). is_some row.rowid ≡ true)) rows (have_rowids 1 cells));
      rows = subst (λ (s : Shape). AreRows (keys_of s) (map row_seen t.rows.items)) (sym shape)
          (subst (AreRows (keys_of (lost_shape (lost_name base names) (most_fields cells)))) rows (rows_are (lost_name base names) cells));
    }

pub name_is_free : (base : List ℕ) (names : List (List ℕ)) (name : List ℕ) → length names < 2 ^ 64 → name ≡ lost_name base names
    → is_named name names ≡ false
name_is_free base names name few is = ap (λ (n : List ℕ). is_named n names) is ∙ (has_first_name base names few).free
