use Rattle.orphan_uses.proofs.Holding.{uses_hold}
use Rattle.orphan_uses.proofs.laws.each_left_page_has_one_use.Goals as goal

pub returns : goal.returns
returns c = uses_hold
