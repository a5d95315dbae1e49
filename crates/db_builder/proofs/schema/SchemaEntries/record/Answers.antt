use Rattle.std.proofs.Common.{◌∙◌, ap, sym}
use Rattle.db_builder.specs.declared.plans.PlannedTree.{PlannedTree}
use Rattle.db_builder.proofs.Viewing.{record_is}
use Rattle.db_builder.proofs.schema.SchemaEntries.record.Goals as goal

pub returns : goal.returns
returns c =
    c.as_slice.ensures ∙ ap (λ (t : PlannedTree). t.record) (sym c.index-self-i.is)
    ∙ sym (record_is c.args.self.now.trees.now c.args.i c.index-self-i.result c.requires c.index-self-i.is)
