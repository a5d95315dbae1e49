use Rattle.key_order.proofs.Laws.{folded_same, folded_equal}
use Rattle.key_order.proofs.equal_keys_are_folded_alike.Goals as goal

pub returns-clause-same : goal.returns-clause-same
returns-clause-same c = folded_same

pub returns-clause-equal : goal.returns-clause-equal
returns-clause-equal c = folded_equal
