use Rattle.raw_schema.proofs.Spelled.{rows_are_spelled}
use Rattle.raw_schema.proofs.laws.rows_are_spelled.Goals as goal

pub returns : goal.returns
returns c = rows_are_spelled
