use Rattle.std.proofs.Common.{◌∙◌, ap, map, arith}
use Rattle.record_core.specs.declared.values.Value.TheVariants.{Null}
use Rattle.table_shape.specs.Entries.{entry_parts}
use Rattle.table_shape.specs.Keys.{number_of, parts_of, values_of}
use Rattle.table_shape.specs.Seen.{row_seen, shape_seen}
use Rattle.table_shape.specs.Shape.{key_seen}
use Rattle.db_builder.specs.Load.{placed_value, record_load}
use Rattle.db_builder.specs.Trees.{keys_in}
use Rattle.db_builder.proofs.Loading.{rows_end, rows_next}
use Rattle.db_builder.proofs.Standing.{values_placed}
use Rattle.db_builder.proofs.loads.key_load.Goals as goal

pub loop-row-preserved : goal.loop-row-preserved
loop-row-preserved c =
    let t = c.args.table.now in
    let parts = entry_parts (keys_in t) (parts_of (shape_seen t.shape) (key_seen c.args.key.now)) in
    let row = row_seen c.row-item.result in
    let found = c.as_slice.ensures.value ∙ c.places_of-places.ensures in (
      rows_next (λ row. record_load (values_of parts row)) _ _ _ c.loop-row.total c.entry_load.result _ _ _ c.as_slice-row-items.ensures.value c.loop-row-test.true c.row-item.is
          (c.entry_load.ensures
          ∙ ap (λ v. record_load (map (placed_value v Null row.fields) c.as_slice.result.now)) c.number_of.ensures
          ∙ ap (λ ps. record_load (map (placed_value (number_of row.rowid) Null row.fields) ps)) found ∙ ap record_load (values_placed row parts))
          c.saturating_add-total.ensures c.loop-row.invariant.0,
      omega (arith, c.saturating_add-total.ensures),
    )

pub returns : goal.returns
returns c =
    let t = c.args.table.now in
    let parts = entry_parts (keys_in t) (parts_of (shape_seen t.shape) (key_seen c.args.key.now)) in
    rows_end (λ row. record_load (values_of parts row)) _ _ _ _ _ c.as_slice-row-items.ensures.value (omega (arith, c.loop-row-test.false)) c.loop-row.invariant.1 c.loop-row.invariant.0
