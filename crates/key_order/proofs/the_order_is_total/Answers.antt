use Rattle.key_order.proofs.Laws.{back, keys_total}
use Rattle.key_order.proofs.the_order_is_total.Goals as goal

pub returns-clause-back : goal.returns-clause-back
returns-clause-back c = back

pub returns-clause-laws : goal.returns-clause-laws
returns-clause-laws c = keys_total
