-- The table of the lost cells, added to others.
use Rattle.std.proofs.Common.{◌≡◌, ◌≤◌, ◌<◌, ℕ, ◌+◌, List, [], ◌∷◌, ◌++◌, length, map, refl, sym, ◌∙◌, ap, subst, arith, append-nil, Vec, Global}
use Rattle.std.specs.List.{AllByRecursion}
use Rattle.page_walk.specs.Cells.{Row}
use Rattle.page_walk.proofs.Going.{all_append}
use Rattle.report_text.specs.declared.ReportLine.{ReportLine}
use Rattle.report_text.specs.declared.ReportLine.TheVariants as lines
use Rattle.table_shape.specs.declared.rows.OutRow.{OutRow}
use Rattle.table_shape.specs.declared.rows.OutTable.{OutTable}
use Rattle.salvaged_tables.specs.Bounds.{ArePlacesOn, IsLostOn, IsOn}
use Rattle.salvaged_tables.specs.Fates.{StoredTable}
use Rattle.salvaged_tables.specs.Salvaged.{lost_seen, rows_at, stored_table}
use Rattle.salvaged_tables.specs.declared.places.LostCell.{LostCell}
use Rattle.salvaged_tables.specs.declared.places.Placed.{Placed}
use Rattle.salvaged_tables.proofs.Gaining.{gains_none, gains_pushed}
use Rattle.salvaged_tables.proofs.Within.{all_unmapped, placed_on}
use Rattle.lost_found.specs.Few.{HasFewFields}
use Rattle.lost_found.specs.Lost.{lost_of}
use Rattle.lost_found.specs.Rows.{lost_rows}
use Rattle.raw_schema.specs.Bounds.{IsSmallCell}
use Rattle.salvage_laws.specs.Stored.{bad_lost}
use Rattle.salvage_core.specs.Lost.{GainsLost, lost_line, lost_tables}

-- there is no lost cell
pub gains_nothing : (base : List ℕ) (names : List (List ℕ)) (lost : List LostCell) (tables : List OutTable) (places : List (Vec Placed Global))
    (ls : List ReportLine) → length lost ≡ 0 → GainsLost (lost_tables base names (map lost_seen lost)) tables places ls tables places ls
gains_nothing base names [] tables places ls none = record { tables_are = gains_none tables places; lines_are = sym (append-nil ls) }
gains_nothing base names (l ∷ lost) tables places ls none = absurd (omega (arith, none))

pub rows_counted : (rows : List OutRow) (places : List Placed) → length rows ≡ length places → length (rows_at rows places) ≡ length rows
rows_counted [] places even = refl
rows_counted (o ∷ rows) [] even = absurd (omega (arith, even))
rows_counted (o ∷ rows) (p ∷ places) even = omega (arith, rows_counted rows places (omega (arith, even)))

-- the table of some is pushed, with its places and its line
pub gains_lost : (base : List ℕ) (names : List (List ℕ)) (lost : List LostCell) (t : OutTable) (p : Vec Placed Global)
    (tables new_tables : List OutTable) (places new_places : List (Vec Placed Global)) (ls new_ls : List ReportLine) → 0 < length lost
    → stored_table t p ≡ lost_of base names (map lost_seen lost) → length t.rows.items ≡ length p.items
    → new_tables ≡ tables ++ t ∷ [] → new_places ≡ places ++ p ∷ [] → new_ls ≡ ls ++ lines.Lost t.name (length t.rows.items) ∷ []
    → GainsLost (lost_tables base names (map lost_seen lost)) tables places ls new_tables new_places new_ls
gains_lost base names [] t p tables new_tables places new_places ls new_ls some is even pushed placed told = absurd (omega (arith, some))
gains_lost base names (l ∷ lost) t p tables new_tables places new_places ls new_ls some is even pushed placed told =
    subst (λ (one : StoredTable). GainsLost (one ∷ []) tables places ls new_tables new_places new_ls) is (record {
      tables_are = gains_pushed t p tables new_tables places new_places even pushed placed;
      lines_are = told ∙ ap (λ (n : ℕ). ls ++ lines.Lost t.name n ∷ []) (sym (rows_counted t.rows.items p.items even));
    })

-- the rows stand where their cells do
lost_on : (pages k : ℕ) (lost : List LostCell) → AllByRecursion (IsLostOn pages) lost
    → AllByRecursion (λ (r : Row). IsOn pages r.page r.chain) (lost_rows k (map lost_seen lost))
lost_on pages k [] on = tt
lost_on pages k (l ∷ lost) on = (on.0.0, lost_on pages (k + 1) lost on.1)

pub lost_places_on : (pages : ℕ) (base : List ℕ) (names : List (List ℕ)) (lost : List LostCell) (t : OutTable) (p : Vec Placed Global)
    (places new_places : List (Vec Placed Global)) → stored_table t p ≡ lost_of base names (map lost_seen lost)
    → length t.rows.items ≡ length p.items → new_places ≡ places ++ p ∷ [] → ArePlacesOn pages places → AllByRecursion (IsLostOn pages) lost
    → ArePlacesOn pages new_places
lost_places_on pages base names lost t p places new_places is even placed was on =
    subst (ArePlacesOn pages) (sym placed)
    (all_append (λ (ps : Vec Placed Global). AllByRecursion (λ (q : Placed). IsOn pages q.place.page q.chain.items) ps.items) places (p ∷ []) was (
      placed_on pages t.rows.items p.items even
          (subst (λ (s : StoredTable). AllByRecursion (λ (r : Row). IsOn pages r.page r.chain) s.rows) (sym is) (lost_on pages 1 lost on)),
      tt,
    ))

-- ---- the lost cells of a file

abbrev CellOn : ℕ → ℕ × Row → Type 0
CellOn pages l = IsOn pages l.1.page l.1.chain × (length l.1.fields ≤ 1996)

bad_on : (usable pages : ℕ) (bad : List Row) → AllByRecursion (IsSmallCell usable pages) bad → AllByRecursion (CellOn pages) (bad_lost bad)
bad_on usable pages [] small = tt
bad_on usable pages (r ∷ bad) small = (
  (record { least = small.0.page_least; most = small.0.page_most; chain_on = small.0.row.chain }, small.0.row.few),
  bad_on usable pages bad small.1,
)

-- those of the schema's tree
pub schema_on : (usable pages : ℕ) (bad : List Row) (lost : List LostCell) → AllByRecursion (IsSmallCell usable pages) bad
    → map lost_seen lost ≡ bad_lost bad → AllByRecursion (IsLostOn pages) lost
schema_on usable pages bad lost small same =
    all_unmapped (CellOn pages) lost_seen lost (subst (AllByRecursion (CellOn pages)) (sym same) (bad_on usable pages bad small))

-- those of the orphan trees
pub orphans_on : (pages : ℕ) (lost : List LostCell) → AllByRecursion (λ (l : LostCell). IsOn pages l.cell.place.page l.cell.chain.items) lost
    → AllByRecursion HasFewFields lost → AllByRecursion (IsLostOn pages) lost
orphans_on pages [] on few = tt
orphans_on pages (l ∷ lost) on few = ((on.0, few.0), orphans_on pages lost on.1 few.1)

-- all together
pub joined_on : (pages : ℕ) (a b c first all : List LostCell) → AllByRecursion (IsLostOn pages) a → AllByRecursion (IsLostOn pages) b
    → AllByRecursion (IsLostOn pages) c → first ≡ a ++ b → all ≡ first ++ c → AllByRecursion (IsLostOn pages) all
joined_on pages a b c first all on_a on_b on_c one two =
    subst (AllByRecursion (IsLostOn pages)) (sym (two ∙ ap (λ (ls : List LostCell). ls ++ c) one))
    (all_append (IsLostOn pages) (a ++ b) c (all_append (IsLostOn pages) a b on_a on_b) on_c)

pub have_few : (pages : ℕ) (lost : List LostCell) → AllByRecursion (IsLostOn pages) lost → AllByRecursion HasFewFields lost
have_few pages [] on = tt
have_few pages (l ∷ lost) on = (on.0.1, have_few pages lost on.1)
