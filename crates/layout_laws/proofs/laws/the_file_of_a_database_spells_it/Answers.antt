use Rattle.layout_laws.proofs.Spelling.{layout_spells}
use Rattle.layout_laws.proofs.laws.the_file_of_a_database_spells_it.Goals as goal

pub returns : goal.returns
returns c = layout_spells c.args.page_size c.args.db.now c.requires.size c.numbers_are_typed.ensures c.requires.valid c.requires.load
