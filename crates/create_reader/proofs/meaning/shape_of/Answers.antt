use Rattle.create_reader.specs.Views.{seen}
use Rattle.create_reader.proofs.Parts.{valid_made}
use Rattle.create_reader.proofs.meaning.shape_of.Goals as goal

pub invariant_of-result : goal.invariant_of-result
invariant_of-result c = record {
  valid = valid_made (seen c.args.table) c.in-Ok.made c.in-Ok-columns_from.columns.items c.in-Ok.ensures c.in-Ok-columns_from.ensures;
}
