use Rattle.well_formed_uses.proofs.Own.{uses_take_own}
use Rattle.well_formed_uses.proofs.Tabled.{left_are_unused}
use Rattle.well_formed_uses.proofs.laws.each_use_takes_its_own_pages.Goals as goal

pub returns-clause-own : goal.returns-clause-own
returns-clause-own c = uses_take_own

pub returns-clause-left : goal.returns-clause-left
returns-clause-left c = left_are_unused
