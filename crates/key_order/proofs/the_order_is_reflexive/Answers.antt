use Rattle.key_order.proofs.Laws.{itself}
use Rattle.key_order.proofs.the_order_is_reflexive.Goals as goal

pub returns : goal.returns
returns c = itself
