use Rattle.std.proofs.Common.{arith}
use Rattle.table_shape.specs.Seen.{shape_seen}
use Rattle.db_builder.specs.Load.{key_load}
use Rattle.db_builder.proofs.Loading.{key_at, keys_end, keys_next}
use Rattle.db_builder.proofs.loads.table_load.Goals as goal

pub key_load-requires : goal.key_load-requires
key_load-requires c =
    let s = c.args.table.now.shape in
    key_at s.columns.items s.keys.items _ _ _ s.valid.keys c.as_slice-key-items.ensures.value c.loop-key-test.true c.key-item.is

pub loop-key-preserved : goal.loop-key-preserved
loop-key-preserved c =
    let t = c.args.table.now in (
      keys_next (key_load t) (shape_seen t.shape) _ _ _ c.loop-key.total c.key_load.result _ _ _ c.as_slice-key-items.ensures.value c.loop-key-test.true c.key-item.is
          c.key_load.ensures c.saturating_add-total.ensures c.loop-key.invariant.0,
      omega (arith, c.saturating_add-total.ensures),
    )

pub returns : goal.returns
returns c =
    let t = c.args.table.now in
    keys_end (key_load t) (shape_seen t.shape) _ _ _ _ _ c.as_slice-key-items.ensures.value (omega (arith, c.loop-key-test.false)) c.loop-key.invariant.1 c.loop-key.invariant.0
