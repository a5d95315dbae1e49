use Rattle.record_core.proofs.Again.{record_again}
use Rattle.record_core.proofs.writing.a_record_is_read_back.Goals as goal

pub returns : goal.returns
returns c = record_again
