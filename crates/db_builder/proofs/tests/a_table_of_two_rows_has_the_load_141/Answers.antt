use Rattle.db_builder.proofs.Preparing.{few_values}
use Rattle.db_builder.proofs.tests.a_table_of_two_rows_has_the_load_141.Goals as goal

pub load_of-requires : goal.load_of-requires
load_of-requires g c = few_values c.in_ok-db.db c.in_ok-db.ensures
