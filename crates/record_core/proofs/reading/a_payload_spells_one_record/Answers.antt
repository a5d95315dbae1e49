use Rattle.record_core.proofs.Again.{record_once}
use Rattle.record_core.proofs.reading.a_payload_spells_one_record.Goals as goal

pub returns : goal.returns
returns c = record_once
