use Rattle.key_order.proofs.Laws.{at_most}
use Rattle.key_order.proofs.the_order_is_transitive.Goals as goal

pub returns : goal.returns
returns c = at_most
