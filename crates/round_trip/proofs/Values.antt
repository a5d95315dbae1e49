-- The rows that are read of a tree's pages are those that its cells spell.
use Rattle.std.proofs.Common.{◌≡◌, ◌≤◌, ℕ, ◌+◌, ◌==◌, true, not, ◌&&◌, nat_lt, Option, List, [], ◌∷◌, ◌++◌, length, map, refl, sym, ap, ◌∙◌, inl, inr, arith}
use Rattle.std.specs.Prelude.{ℤ}
use Rattle.std.specs.List.{AllByRecursion, AllZip, flat_map, list_all}
use Rattle.std.proofs.lemmas.Bool.{and_parts, cases_Bool, ltb-false, not-true}
use Rattle.std.proofs.lemmas.List.{map-append}
use Rattle.page_access.specs.Pages.{File}
use Rattle.record_core.specs.declared.values.Value.{Value}
use Rattle.record_core.proofs.Again.{record_again}
use Rattle.table_fill.specs.Fates.{held}
use Rattle.table_shape.specs.Keys.{Keys, StoredRow, fits, has_null, has_parts}
use Rattle.tree_forms.specs.Node.{Held}
use Rattle.tree_forms.specs.Payload.{payload_of}
use Rattle.tree_forms.specs.Tree.{bare}
use Rattle.tree_walks.specs.Read.{HasRecord, fields_of, rows_from, rows_on, values_in}
use Rattle.tree_walks.specs.Rows.{all_entries, cells_on, entries_in, entries_on}
use Rattle.well_formed.specs.Stored.{SpellsStored}
use Rattle.round_trip.specs.Values.{row_in}

-- ---- what is read of pages

cells_held : (f : File) (p i : ℕ) (hs : List Held) → map held (rows_from f p i hs) ≡ map (row_in f) (entries_in hs)
unfolding payload_of
cells_held f p i [] = refl
cells_held f p i (h ∷ hs) =
    elim (cases_Bool (h.total == 0)) [
      | inl none ↦ rw none (cells_held f p (i + 1) hs)
      | inr some ↦ rw some (ap (λ (rs : List StoredRow). row_in f h ∷ rs) (cells_held f p (i + 1) hs))
    ]

pub pages_held : (f : File) (ps : List ℕ) → map held (flat_map (rows_on f) ps) ≡ map (row_in f) (all_entries f ps)
pages_held f [] = refl
pages_held f (p ∷ ps) =
    map-append held (rows_on f p) (flat_map (rows_on f) ps)
    ∙ ap (λ (rs : List StoredRow). rs ++ map held (flat_map (rows_on f) ps)) (cells_held f p 0 (cells_on f p))
    ∙ ap (λ (rs : List StoredRow). map (row_in f) (entries_on f p) ++ rs) (pages_held f ps)
    ∙ sym (map-append (row_in f) (entries_on f p) (all_entries f ps))

pub bare_held : (f : File) (hs : List Held) → map (row_in f) (map bare hs) ≡ map (row_in f) hs
unfolding payload_of
bare_held f [] = refl
bare_held f (h ∷ hs) = ap (λ (rs : List StoredRow). row_in f h ∷ rs) (bare_held f hs)

-- ---- what cells spell

-- a row that fits has few fields
fields_few : (t : Keys) (row : StoredRow) → fits t row ≡ true → length row.fields ≤ t.columns
fields_few t row fit =
    let parts = and_parts (not (nat_lt t.columns (length row.fields))) (has_parts t.first row && (not (has_null t.first row) && list_all (λ k. has_parts k.parts row) t.keys)) fit in
    ltb-false t.columns (length row.fields) (not-true (nat_lt t.columns (length row.fields)) parts.0)

spelled_record : (f : File) (t : Keys) (h : Held) (row : StoredRow) → SpellsStored f h row → fits t row ≡ true → t.columns ≤ 1996 → HasRecord f h
spelled_record f t h row s fit few = record { values = row.fields; spelled = s.fields; few = omega (arith, fields_few t row fit, few) }

spelled_row : (f : File) (t : Keys) (h : Held) (row : StoredRow) → SpellsStored f h row → fits t row ≡ true → t.columns ≤ 1996 → row_in f h ≡ row
spelled_row f t h row s fit few =
    let fields : fields_of f h ≡ row.fields = ap values_in (record_again (payload_of f h) row.fields s.fields (omega (arith, fields_few t row fit, few))) in
    ap (λ (n : Option ℤ). record { rowid = n; fields = fields_of f h }) (sym s.rowid) ∙ ap (λ (vs : List Value). record { rowid = row.rowid; fields = vs }) fields

pub spelled_records : (f : File) (t : Keys) (cells : List Held) (rows : List StoredRow) → AllZip (SpellsStored f) cells rows → AllByRecursion (λ row. fits t row ≡ true) rows
    → t.columns ≤ 1996 → AllByRecursion (HasRecord f) cells
spelled_records f t [] [] all fit few = tt
spelled_records f t [] (row ∷ rows) all fit few = absurd all
spelled_records f t (h ∷ cells) [] all fit few = absurd all
spelled_records f t (h ∷ cells) (row ∷ rows) all fit few = (spelled_record f t h row all.0 fit.0 few, spelled_records f t cells rows all.1 fit.1 few)

pub spelled_rows : (f : File) (t : Keys) (cells : List Held) (rows : List StoredRow) → AllZip (SpellsStored f) cells rows → AllByRecursion (λ row. fits t row ≡ true) rows
    → t.columns ≤ 1996 → map (row_in f) cells ≡ rows
spelled_rows f t [] [] all fit few = refl
spelled_rows f t [] (row ∷ rows) all fit few = absurd all
spelled_rows f t (h ∷ cells) [] all fit few = absurd all
spelled_rows f t (h ∷ cells) (row ∷ rows) all fit few =
    ap (λ (r : StoredRow). r ∷ map (row_in f) cells) (spelled_row f t h row all.0 fit.0 few)
    ∙ ap (λ (rs : List StoredRow). row ∷ rs) (spelled_rows f t cells rows all.1 fit.1 few)

pub bare_records : (f : File) (hs : List Held) → AllByRecursion (HasRecord f) hs → AllByRecursion (HasRecord f) (map bare hs)
unfolding payload_of
bare_records f [] all = tt
bare_records f (h ∷ hs) all = (record { values = all.0.values; spelled = all.0.spelled; few = all.0.few }, bare_records f hs all.1)
