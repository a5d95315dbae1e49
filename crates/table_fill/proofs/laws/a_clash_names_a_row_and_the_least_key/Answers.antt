use Rattle.table_fill.proofs.Named.{fates_are, least, shapes_rise}
use Rattle.table_fill.proofs.laws.a_clash_names_a_row_and_the_least_key.Goals as goal

pub returns-clause-fates : goal.returns-clause-fates
returns-clause-fates c = fates_are

pub returns-clause-least : goal.returns-clause-least
returns-clause-least c = least

pub returns-clause-rising : goal.returns-clause-rising
returns-clause-rising c = shapes_rise
