use Rattle.varint_core.proofs.Laws.{varint_again}
use Rattle.varint_core.proofs.writing.a_spelling_is_read_back.Goals as goal

pub returns : goal.returns
returns c = varint_again
