use Rattle.use_order.proofs.Holding.{uses_hold}
use Rattle.use_order.proofs.laws.each_page_has_one_use.Goals as goal

pub returns : goal.returns
returns c = uses_hold
