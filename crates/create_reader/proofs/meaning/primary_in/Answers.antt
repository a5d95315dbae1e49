use Rattle.std.proofs.Common.{◌∙◌}
use Rattle.create_reader.proofs.Lookup.{list_at}
use Rattle.create_reader.proofs.meaning.primary_in.Goals as goal

pub copied-requires : goal.copied-requires
copied-requires c = c.as_slice.ensures.value
    ∙ list_at c.args.columns.now c.args.lists.now c.args.taken.now c.requires c.loop-i.i c.index-lists-i.result c.index-taken-i.result
    c.loop-i-test.true c.index-lists-i.is c.index-taken-i.is
