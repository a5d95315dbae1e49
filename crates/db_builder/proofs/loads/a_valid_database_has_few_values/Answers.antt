use Rattle.db_builder.proofs.Preparing.{few_values}
use Rattle.db_builder.proofs.loads.a_valid_database_has_few_values.Goals as goal

pub returns : goal.returns
returns c = few_values
