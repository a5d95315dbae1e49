use Rattle.std.proofs.Common.{◌∙◌, List, ap, sym}
use Rattle.create_reader.specs.declared.texts.ColumnText.{ColumnText}
use Rattle.create_reader.specs.Meaning.{places}
use Rattle.create_reader.specs.Views.{names_seen}
use Rattle.create_reader.proofs.Lookup.{list_at}
use Rattle.create_reader.proofs.meaning.keys.Goals as goal

pub copied-requires : goal.copied-requires
copied-requires c = c.as_slice.ensures.value
    ∙ list_at c.args.table.now.columns.items c.args.lists.now c.args.taken.now c.requires.lists c.loop-i.i c.index-lists-i.result c.index-taken-i.result
    c.loop-i-test.true c.index-lists-i.is c.index-taken-i.is
    ∙ ap (λ (cs : List ColumnText). places cs (names_seen cs c.index-taken-i.result.now.names)) (sym c.as_slice-columns.ensures.value)
