use Rattle.std.proofs.Common.{◌∙◌, ap, length, arith}
use Rattle.table_shape.specs.Keys.{StoredRow}
use Rattle.db_builder.specs.Load.{record_load}
use Rattle.db_builder.proofs.Loading.{few_at, rows_end, rows_next}
use Rattle.db_builder.proofs.loads.rows_load.Goals as goal

pub entry_load-requires : goal.entry_load-requires
entry_load-requires c = omega (
  arith,
  ap length c.as_slice.ensures.value,
  few_at _ _ _ _ c.requires c.as_slice-row-items.ensures.value c.loop-row-test.true c.row-item.is,
)

pub loop-row-preserved : goal.loop-row-preserved
loop-row-preserved c = (
  rows_next (λ (row : StoredRow). record_load row.fields) _ _ _ c.loop-row.total c.entry_load.result _ _ _ c.as_slice-row-items.ensures.value c.loop-row-test.true c.row-item.is
      (c.entry_load.ensures ∙ ap record_load c.as_slice.ensures.value) c.saturating_add-total.ensures c.loop-row.invariant.0,
  omega (arith, c.saturating_add-total.ensures),
)

pub returns : goal.returns
returns c =
    rows_end (λ (row : StoredRow). record_load row.fields) _ _ _ _ _ c.as_slice-row-items.ensures.value (omega (arith, c.loop-row-test.false)) c.loop-row.invariant.1 c.loop-row.invariant.0
