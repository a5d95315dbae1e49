use Rattle.overflow_chain.proofs.Longest.{whole_turn_is_chain}
use Rattle.overflow_chain.proofs.laws.whole_turn_is_chain.Goals as goal

pub returns : goal.returns
returns c = whole_turn_is_chain
