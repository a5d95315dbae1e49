-- The cells that a loop has sorted, and those to come.
use Rattle.std.proofs.Common.{◌≡◌, ◌∙◌, List, [], ◌∷◌, ◌++◌, map, filter, is_none, ap, sym}
use Rattle.std.proofs.lemmas.List.Elements.{filter-append, filter_map-append}
use Rattle.page_walk.specs.declared.outcomes.TakenCell.{TakenCell}
use Rattle.page_walk.specs.Cells.{row_of}
use Rattle.raw_schema.specs.declared.rows.SchemaRow.{SchemaRow}
use Rattle.raw_schema.specs.Rows.{entry_of}
use Rattle.raw_schema.specs.Schema.{entries_in}
use Rattle.raw_schema.proofs.Lists.{gathered}

-- the cells that are no rows of the schema
abbrev pub others : List TakenCell → List TakenCell
others cells = filter (λ (t : TakenCell). is_none (entry_of (row_of t))) cells

-- what is there, and what the cells to come give, are all that was there and that all cells give
pub record Sorting (all left : List TakenCell) (rows0 rows : List SchemaRow) (bad0 bad : List TakenCell) : Type 0 where
  pub rows_are : rows ++ entries_in (map row_of left) ≡ rows0 ++ entries_in (map row_of all)
  pub bad_are : bad ++ others left ≡ bad0 ++ others all

-- before the first cell
pub sorting_start : (all left : List TakenCell) (rows : List SchemaRow) (bad : List TakenCell) → left ≡ all → Sorting all left rows rows bad bad
sorting_start all left rows bad e = record {
  rows_are = ap (λ (ts : List TakenCell). rows ++ entries_in (map row_of ts)) e;
  bad_are = ap (λ (ts : List TakenCell). bad ++ others ts) e;
}

-- one more cell is sorted
pub sorting_more : {all left : List TakenCell} {rows0 rows : List SchemaRow} {bad0 bad : List TakenCell}
    → (x : TakenCell) (rest : List TakenCell) (rows' : List SchemaRow) (bad' : List TakenCell)
    → Sorting all left rows0 rows bad0 bad → left ≡ x ∷ rest → rows' ≡ rows ++ entries_in (row_of x ∷ [])
    → bad' ≡ bad ++ others (x ∷ []) → Sorting all rest rows0 rows' bad0 bad'
sorting_more {all} {left} {rows0} {rows} {bad0} {bad} x rest rows' bad' was e entered kept = record {
  rows_are = gathered rows rows' (entries_in (row_of x ∷ [])) (entries_in (map row_of rest)) _ entered
      (ap (λ (es : List SchemaRow). rows ++ es) (sym (filter_map-append entry_of (row_of x ∷ []) (map row_of rest)))
      ∙ ap (λ (ts : List TakenCell). rows ++ entries_in (map row_of ts)) (sym e) ∙ was.rows_are);
  bad_are = gathered bad bad' (others (x ∷ [])) (others rest) _ kept
      (ap (λ (ts : List TakenCell). bad ++ ts) (sym (filter-append (λ (t : TakenCell). is_none (entry_of (row_of t))) (x ∷ []) rest))
      ∙ ap (λ (ts : List TakenCell). bad ++ others ts) (sym e) ∙ was.bad_are);
}
