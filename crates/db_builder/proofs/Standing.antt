-- The places of an index record, and the values that stand there.
use Rattle.std.proofs.Common.{◌≡◌, ◌≤◌, true, false, None, List, [], ◌∷◌, length, map, ap, ◌∙◌, refl}
use Rattle.std.proofs.lemmas.Bool.{true≢false}
use Rattle.record_core.specs.declared.values.Value.TheVariants.{Null}
use Rattle.table_shape.specs.declared.keys.KeyPart.{KeyPart}
use Rattle.table_shape.specs.declared.keys.Spot.{Spot}
use Rattle.table_shape.specs.declared.keys.Spot.TheVariants.{Rowid, Field}
use Rattle.table_shape.specs.declared.columns.Column.{Column}
use Rattle.table_shape.specs.Keys.{StoredRow, number_of, value_at, values_of}
use Rattle.table_shape.specs.Shape.{IsKeyOf, KeyColumns}
use Rattle.table_shape.proofs.Few.{few_primary}
use Rattle.db_builder.specs.Load.{place_of, placed_value}

-- a key has no more columns than its table
pub few_key : (columns : List Column) (key : KeyColumns) → length columns ≤ 2000 → IsKeyOf columns key → length key.columns ≤ 2000
few_key columns key few is = few_primary
    (record { name = []; columns = columns; alias = None; without_rowid = true; primary = key.columns; keys = []; autoincrement = false })
    (record { few = few; alias = tt; primary = is.are; keys = tt; rising = refl; without = λ e. (is.some, refl); with_rowid = λ e. absurd (true≢false e) })

value_placed : (row : StoredRow) (s : Spot) → placed_value (number_of row.rowid) Null row.fields (place_of s) ≡ value_at row s
value_placed row Rowid = refl
value_placed row (Field i) = refl

-- the values at the places of parts are those of the parts
pub values_placed : (row : StoredRow) (parts : List KeyPart) → map (placed_value (number_of row.rowid) Null row.fields) (map (λ p. place_of p.spot) parts) ≡ values_of parts row
values_placed row [] = refl
values_placed row (p ∷ parts) =
    ap (λ v. v ∷ map (placed_value (number_of row.rowid) Null row.fields) (map (λ p. place_of p.spot) parts)) (value_placed row p.spot)
    ∙ ap (λ vs. value_at row p.spot ∷ vs) (values_placed row parts)
