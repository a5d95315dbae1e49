use Rattle.lost_found.proofs.Made.{valid_shape}
use Rattle.lost_found.proofs.shapes.lost_shape.Goals as goal

pub invariant_of-result : goal.invariant_of-result
invariant_of-result c = record {
  valid = valid_shape c.args.name.now c.in_ok-name.name c.args.fields c.in_ok-columns.columns.items c.new.result.items c.new-2.result.items
      c.requires c.in_ok-name.ensures c.in_ok-columns.ensures c.new.ensures.items c.new-2.ensures.items;
}
