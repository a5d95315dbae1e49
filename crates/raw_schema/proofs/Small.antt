-- Few and small cells give few and small rows.
use Rattle.std.proofs.Common.{◌≡◌, ◌≤◌, ℕ, suc, ◌+◌, ◌*◌, ◌/◌, if◌then◌else◌, Bool, true, false, Option, Some, None, List, [], ◌∷◌, length, map, filter, is_none, refl, sym, ap, subst, arith, length-append}
use Rattle.std.specs.Prelude.{option_and_then, sum_by}
use Rattle.std.specs.List.{AllByRecursion, cons_option}
use Rattle.std.proofs.Math.Nat.{add-mul}
use Rattle.std.proofs.lemmas.List.{length-map}
use Rattle.std.proofs.lemmas.List.Sums.{sum_by-cons}
use Rattle.record_core.specs.Record.{value_len}
use Rattle.record_core.specs.declared.values.Value.{Value}
use Rattle.record_core.specs.declared.values.Value.TheVariants.{Null, Whole, Real8, Text, Blob}
use Rattle.page_walk.specs.declared.outcomes.Place.{Place}
use Rattle.page_walk.specs.declared.outcomes.TakenCell.{TakenCell}
use Rattle.page_walk.specs.Bounds.{ArePages, IsSmall}
use Rattle.page_walk.specs.Cells.{Outcome, Read, Row, Unread, row_of}
use Rattle.page_walk.specs.InTurn.{IsSmallTurn}
use Rattle.page_walk.specs.Rows.{rows_of}
use Rattle.page_walk.proofs.Going.{all_append}
use Rattle.raw_schema.specs.declared.rows.SchemaRow.{SchemaRow}
use Rattle.raw_schema.specs.Bounds.{IsSmallCell, IsSmallEntry, IsSmallSchema, sql_len}
use Rattle.raw_schema.specs.Rows.{entry_of, kind_named, root_in, row_in, sql_in, text_in}
use Rattle.raw_schema.specs.Schema.{bad_in, cells_in, entries_in}
use Rattle.raw_schema.proofs.Spelled.{parts}

-- a text is the bytes of its value
text_len : (v : Value) (text : List ℕ) → text_in v ≡ Some text → length text ≤ value_len v
text_len Null text e = absurd (cc)
text_len (Whole number) text e = absurd (cc)
text_len (Real8 bytes) text e = absurd (cc)
text_len (Text bytes) text e = let same : bytes ≡ text = cc in omega (arith, ap length same)
text_len (Blob bytes) text e = absurd (cc)

-- so is the text of a statement
statement_len : (v : Value) (sql : Option (List ℕ)) → sql_in v ≡ Some sql → sql_len sql ≤ value_len v
statement_len Null sql e = let same : None ≡ sql = cc in omega (arith, ap sql_len same)
statement_len (Whole number) sql e = absurd (cc)
statement_len (Real8 bytes) sql e = absurd (cc)
statement_len (Text bytes) sql e = let same : Some bytes ≡ sql = cc in omega (arith, ap sql_len same)
statement_len (Blob bytes) sql e = absurd (cc)

-- the texts of a row are not longer than the values that it stands for
row_short : (place : Place) (fields : List Value) (row : SchemaRow) → row_in place fields ≡ Some row
    → (length row.name + length row.tbl + sql_len row.sql ≤ sum_by value_len fields) × (row.place ≡ place)
row_short place [] row e = absurd (cc)
row_short place (a ∷ []) row e = absurd (cc)
row_short place (a ∷ b ∷ []) row e = absurd (cc)
row_short place (a ∷ b ∷ c ∷ []) row e = absurd (cc)
row_short place (a ∷ b ∷ c ∷ d ∷ []) row e = absurd (cc)
row_short place (kind ∷ name ∷ tbl ∷ root ∷ sql ∷ []) row e =
    let h = parts place (option_and_then kind_named (text_in kind)) (text_in name) (text_in tbl) (root_in root) (sql_in sql) row e in (
      omega (
        arith,
        text_len name row.name h.name_there,
        text_len tbl row.tbl h.tbl_there,
        statement_len sql row.sql h.sql_there,
        sum_by-cons value_len kind (name ∷ tbl ∷ root ∷ sql ∷ []),
        sum_by-cons value_len name (tbl ∷ root ∷ sql ∷ []),
        sum_by-cons value_len tbl (root ∷ sql ∷ []),
        sum_by-cons value_len root (sql ∷ []),
        sum_by-cons value_len sql [],
      ),
      sym h.place_there,
    )
row_short place (a ∷ b ∷ c ∷ d ∷ e ∷ f ∷ rest) row h = absurd (cc)

-- a small cell gives a small row
entry_small : (usable pages : ℕ) (cell : Row) (row : SchemaRow) → entry_of cell ≡ Some row → IsSmallCell usable pages cell → IsSmallEntry usable pages row
entry_small usable pages cell row e small =
    let short = row_short (record { page = cell.page; cell = cell.cell }) cell.fields row e in
    record {
      texts = omega (arith, short.0, small.row.short);
      page_least = omega (arith, ap (λ (p : Place). p.page) short.1, small.page_least);
      page_most = omega (arith, ap (λ (p : Place). p.page) short.1, small.page_most);
    }

-- a cell, and then others
one_entry : (usable pages : ℕ) (cell : Row) (o : Option SchemaRow) (rest : List SchemaRow) → entry_of cell ≡ o
    → IsSmallCell usable pages cell → AllByRecursion (IsSmallEntry usable pages) rest
    → AllByRecursion (IsSmallEntry usable pages) (cons_option o rest)
one_entry usable pages cell None rest e small all = all
one_entry usable pages cell (Some row) rest e small all = (entry_small usable pages cell row e small, all)

-- small cells give small rows
entries_small : (usable pages : ℕ) (cells : List Row) → AllByRecursion (IsSmallCell usable pages) cells
    → AllByRecursion (IsSmallEntry usable pages) (entries_in cells)
entries_small usable pages [] all = tt
entries_small usable pages (cell ∷ cells) all =
    one_entry usable pages cell (entry_of cell) (entries_in cells) refl all.0 (entries_small usable pages cells all.1)

-- an element that a test keeps or not, and then others
one_kept : {X : Type 0} (P : X → Type 0) (x : X) (b : Bool) (xs : List X) → P x → AllByRecursion P xs
    → AllByRecursion P (if b then x ∷ xs else xs)
one_kept P x true xs here all = (here, all)
one_kept P x false xs here all = all

-- what holds of all holds of those that a test keeps
all_filter : {X : Type 0} (P : X → Type 0) (p : X → Bool) (xs : List X) → AllByRecursion P xs → AllByRecursion P (filter p xs)
all_filter P p [] all = tt
all_filter P p (x ∷ xs) all = one_kept P x (p x) (filter p xs) all.0 (all_filter P p xs all.1)

-- a cell is a row or is none
one_sorted : (cell : Row) (o : Option SchemaRow) (es : List SchemaRow) (cells : List Row)
    → length (cons_option o es) + length (if is_none o then cell ∷ cells else cells) ≡ length es + length cells + 1
one_sorted cell None es cells = omega arith
one_sorted cell (Some row) es cells = omega arith

-- each cell is sorted once
all_sorted : (cells : List Row) → length (entries_in cells) + length (bad_in cells) ≡ length cells
all_sorted [] = omega arith
all_sorted (cell ∷ cells) =
    omega (arith, one_sorted cell (entry_of cell) (entries_in cells) (bad_in cells), all_sorted cells)

-- the readable cells of a small turn are few and small
turn_cells : (usable pages page : ℕ) (os : List Outcome) → 1 ≤ page → page ≤ pages → AllByRecursion (IsSmall usable pages page) os
    → AllByRecursion (IsSmallCell usable pages) (rows_of os)
turn_cells usable pages page [] low high all = tt
turn_cells usable pages page (Read row ∷ os) low high all = (
  record {
    row = record { on_page = refl; few = all.0.few; short = all.0.short; chain = all.0.chain };
    page_least = omega (arith, all.0.on_page, low);
    page_most = omega (arith, all.0.on_page, high);
  },
  turn_cells usable pages page os low high all.1,
)
turn_cells usable pages page (Unread u ∷ os) low high all = turn_cells usable pages page os low high all.1

pub few_rows : (os : List Outcome) → length (rows_of os) ≤ length os
few_rows [] = omega arith
few_rows (Read row ∷ os) = omega (arith, few_rows os)
few_rows (Unread u ∷ os) = omega (arith, few_rows os)

cells_small : (usable pages : ℕ) (ts : List (ℕ × List Outcome)) → AllByRecursion (IsSmallTurn usable pages) ts
    → AllByRecursion (IsSmallCell usable pages) (cells_in ts)
cells_small usable pages [] all = tt
cells_small usable pages (t ∷ ts) all =
    all_append (IsSmallCell usable pages) (rows_of t.1) (cells_in ts)
    (turn_cells usable pages t.0 t.1 all.0.least all.0.most all.0.small) (cells_small usable pages ts all.1)

pub cells_few : (usable pages : ℕ) (ts : List (ℕ × List Outcome)) → AllByRecursion (IsSmallTurn usable pages) ts
    → length (cells_in ts) ≤ length ts * (usable / 2)
cells_few usable pages [] all = omega arith
cells_few usable pages (t ∷ ts) all =
    omega (arith, length-append (rows_of t.1) (cells_in ts), few_rows t.1, all.0.few, cells_few usable pages ts all.1, add-mul (length ts) 1 (usable / 2), next (length ts))
  where
    next : (n : ℕ) → suc n * (usable / 2) ≡ (n + 1) * (usable / 2)
    next n = let e : suc n ≡ n + 1 = omega arith in ap (λ (m : ℕ). m * (usable / 2)) e

-- what was sorted is small
pub schema_small : (usable pages : ℕ) (ts : List (ℕ × List Outcome)) (rows : List SchemaRow) (bad : List TakenCell) (tree tree' : List ℕ)
    → AllByRecursion (IsSmallTurn usable pages) ts → length ts ≡ length tree → tree' ≡ tree → ArePages pages tree → rows ≡ entries_in (cells_in ts)
    → map row_of bad ≡ bad_in (cells_in ts) → IsSmallSchema usable pages rows bad tree'
schema_small usable pages ts rows bad tree tree' small same_len same are rows_are bad_are =
    let cells = cells_small usable pages ts small in
    subst (λ (ps : List ℕ). IsSmallSchema usable pages rows bad ps) (sym same) (record {
      entries = subst (AllByRecursion (IsSmallEntry usable pages)) (sym rows_are) (entries_small usable pages (cells_in ts) cells);
      others = subst (AllByRecursion (IsSmallCell usable pages)) (sym bad_are)
          (all_filter (IsSmallCell usable pages) (λ (cell : Row). is_none (entry_of cell)) (cells_in ts) cells);
      few = subst (λ (n : ℕ). length rows + length bad ≤ n * (usable / 2)) same_len
          (omega (arith, ap length rows_are, ap length bad_are, length-map bad row_of, all_sorted (cells_in ts), cells_few usable pages ts small));
      on_pages = are;
    })
