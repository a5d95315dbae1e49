use Rattle.std.proofs.Common.{◌∙◌, List, ap, get_or, length, sym, arith}
use Rattle.table_shape.specs.declared.rows.OutTable.{OutTable}
use Rattle.db_builder.specs.Load.{table_load}
use Rattle.db_builder.proofs.Loading.{sat_end, sat_next}
use Rattle.db_builder.proofs.loads.load_of.Goals as goal

pub loop-table-preserved : goal.loop-table-preserved
loop-table-preserved c =
    let tables = c.args.db.now.tables.items in
    let items = c.as_slice-table-items.ensures.value in (
      sat_next table_load tables _ c.loop-table.total c.table_load.result _ c.table-item.result c.table-item.result _ (omega (arith, c.loop-table-test.true, ap length items))
          (sym (c.table-item.is ∙ ap (λ (ts : List OutTable). get_or ts c.loop-table.table-index c.table-item.result) items))
          (omega (arith, c.table_load.ensures)) c.saturating_add-total.ensures c.loop-table.invariant.0,
      omega (arith, c.saturating_add-total.ensures),
    )

pub returns : goal.returns
returns c =
    sat_end table_load c.args.db.now.tables.items _ _ _ (omega (arith, c.loop-table-test.false, ap length c.as_slice-table-items.ensures.value)) c.loop-table.invariant.1 c.loop-table.invariant.0
