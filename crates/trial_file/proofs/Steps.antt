-- Steps of the loop over rows.
use Rattle.std.proofs.Common.{◌≡◌, sym, ap, ◌∙◌, arith, ℕ, suc, ◌+◌, ◌-◌, ◌<◌, ◌≤◌, List, [], ◌∷◌, ◌++◌, append_assoc, append-nil, map}
use Rattle.std.proofs.lemmas.List.{map-append}
use Rattle.table_shape.specs.declared.rows.OutRow.{OutRow}
use Rattle.table_shape.specs.Keys.{StoredRow}
use Rattle.table_shape.specs.Seen.{row_seen}
use Rattle.trial_file.specs.Rows.{row_of, rows_from}

-- one more row is there
pub rows_next : (rows new : List OutRow) (row : OutRow) (k n : ℕ) (whole : List StoredRow) → k < n → new ≡ rows ++ row ∷ []
    → row_seen row ≡ row_of (k + 1) → map row_seen rows ++ rows_from (k + 1) (n - k) ≡ whole
    → map row_seen new ++ rows_from (k + 1 + 1) (n - (k + 1)) ≡ whole
rows_next rows new row k n whole lt more is was =
    let rest = rows_from (k + 1 + 1) (n - (k + 1)) in
    let left : n - k ≡ suc (n - (k + 1)) = omega (arith, lt) in
    ap (λ (z : List OutRow). map row_seen z ++ rest) more
    ∙ (ap (λ (z : List StoredRow). z ++ rest) (map-append row_seen rows (row ∷ []))
    ∙ (append_assoc (map row_seen rows) (row_seen row ∷ []) rest
    ∙ (ap (λ (z : StoredRow). map row_seen rows ++ z ∷ rest) is
    ∙ (ap (λ m. map row_seen rows ++ rows_from (k + 1) m) (sym left) ∙ was))))

-- all are there
pub rows_end : (rows : List OutRow) (k n : ℕ) (whole : List StoredRow) → n ≤ k → map row_seen rows ++ rows_from (k + 1) (n - k) ≡ whole
    → map row_seen rows ≡ whole
rows_end rows k n whole le was =
    let none : n - k ≡ 0 = omega (arith, le) in
    sym (append-nil (map row_seen rows)) ∙ (ap (λ m. map row_seen rows ++ rows_from (k + 1) m) (sym none) ∙ was)
