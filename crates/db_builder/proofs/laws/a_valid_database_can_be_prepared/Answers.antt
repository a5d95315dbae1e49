use Rattle.db_builder.proofs.Preparing.{can_be_prepared}
use Rattle.db_builder.proofs.laws.a_valid_database_can_be_prepared.Goals as goal

pub returns : goal.returns
returns c = can_be_prepared
