-- The whole file comes back: its lines tell all its rows, and none that is lost.
use Rattle.std.proofs.Common.{◌≡◌, refl, sym, ap, subst, arith, ℕ, ◌^◌, ◌<◌, ◌≤◌, List, [], ◌∷◌, length, map, sum_by}
use Rattle.std.specs.List.{AllByRecursion}
use Rattle.std.proofs.lemmas.List.{length-map}
use Rattle.std.proofs.lemmas.List.FromFn.{length-map-range_with_len}
use Rattle.std.proofs.lemmas.List.Sums.{sum_by-cons}
use Rattle.page_access.specs.Files.{max_input}
use Rattle.create_reader.specs.Outcome.{HasFault}
use Rattle.table_shape.specs.declared.rows.OutTable.{OutTable}
use Rattle.table_shape.specs.Seen.{row_seen}
use Rattle.db_builder.specs.declared.databases.OutDb.{OutDb}
use Rattle.layout_laws.specs.Written.{database_of, table_of}
use Rattle.well_formed.specs.Database.{Database, TableRows}
use Rattle.round_trip.specs.Scope.{IsFaultless, IsInScope}
use Rattle.salvage_core.specs.declared.gathered.Gathered.{Gathered}
use Rattle.salvage_core.specs.Back.{IsBack}
use Rattle.salvage_core.specs.Outcome.{rows_out}
use Rattle.trial_file.specs.Laws.{TextHasNoFault}
use Rattle.trial_file.specs.Rows.{row_of, rows_of}
use Rattle.trial_file.specs.Trial.{IsTrial}

-- ---- in scope

faultless : (n : ℕ) (db : OutDb) (made : IsTrial n db) → TextHasNoFault → IsFaultless made.table.text
faultless n db made none fault has =
    none made.table.shape fault made.table_is.shape (subst (λ (text : List ℕ). HasFault text fault) made.table_is.text has)

pub in_scope : (n : ℕ) (db : OutDb) (bytes : List ℕ) → IsTrial n db → TextHasNoFault → length bytes ≤ max_input → IsInScope bytes (database_of db)
in_scope n db bytes made none few = record {
  few = few;
  texts = subst (λ (ts : List OutTable). AllByRecursion (λ (t : TableRows). IsFaultless t.text) (map table_of ts)) (sym made.tables) (faultless n db made none, tt);
}

-- ---- numbers of rows

-- the rows of tables, as a file spells them
rows_spelled : (ts : List OutTable) → sum_by (λ (t : OutTable). length t.rows.items) ts ≡ sum_by (λ (t : TableRows). length t.rows) (map table_of ts)
rows_spelled [] = refl
rows_spelled (t ∷ ts) =
    let one = sum_by-cons (λ (t : OutTable). length t.rows.items) t ts in
    let two = sum_by-cons (λ (t : TableRows). length t.rows) (table_of t) (map table_of ts) in
    let rest = rows_spelled ts in
    omega (arith, one, two, rest, length-map t.rows.items row_seen)

-- a trial has n rows
rows_made : (n : ℕ) (db : OutDb) → IsTrial n db → sum_by (λ (t : TableRows). length t.rows) (map table_of db.tables.items) ≡ n
rows_made n db made =
    let tables : sum_by (λ (t : TableRows). length t.rows) (map table_of db.tables.items) ≡ sum_by (λ (t : TableRows). length t.rows) (table_of made.table ∷ []) =
    ap (λ (ts : List OutTable). sum_by (λ (t : TableRows). length t.rows) (map table_of ts)) made.tables in
    let one = sum_by-cons (λ (t : TableRows). length t.rows) (table_of made.table) [] in
    let rows = ap length made.table_is.rows in
    let count : length (rows_of n) ≡ n = length-map-range_with_len row_of 1 n in
    omega (arith, tables, one, rows, count)

-- all of them come back
pub rows_back : (n : ℕ) (db : OutDb) (g : Gathered) → n < 2 ^ 32 → IsTrial n db → IsBack (database_of db) g → rows_out g ≡ n
rows_back n db g few made back =
    let tables : map table_of g.db.tables.items ≡ map table_of db.tables.items = ap (λ (d : Database). d.tables) back.database in
    let same = ap (sum_by (λ (t : TableRows). length t.rows)) tables in
    omega (arith, few, back.none_lost, rows_spelled g.db.tables.items, same, rows_made n db made)
