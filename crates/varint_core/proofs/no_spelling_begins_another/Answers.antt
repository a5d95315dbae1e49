use Rattle.varint_core.proofs.Laws.{no_more}
use Rattle.varint_core.proofs.no_spelling_begins_another.Goals as goal

pub returns : goal.returns
returns c = no_more
