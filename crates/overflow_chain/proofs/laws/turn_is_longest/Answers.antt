use Rattle.overflow_chain.proofs.Longest.{turn_is_longest}
use Rattle.overflow_chain.proofs.laws.turn_is_longest.Goals as goal

pub returns : goal.returns
returns c = turn_is_longest
