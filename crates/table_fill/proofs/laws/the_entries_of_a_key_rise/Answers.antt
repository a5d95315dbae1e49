use Rattle.table_fill.proofs.Entries.{entries_rise}
use Rattle.table_fill.proofs.laws.the_entries_of_a_key_rise.Goals as goal

pub returns : goal.returns
returns c = entries_rise
