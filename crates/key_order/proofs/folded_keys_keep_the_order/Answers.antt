use Rattle.std.proofs.Common.{refl}
use Rattle.key_order.specs.Totals.{folds_total}
use Rattle.key_order.proofs.folded_keys_keep_the_order.Goals as goal

pub returns-clause-order : goal.returns-clause-order
returns-clause-order c = λ colls a b. refl

pub returns-clause-laws : goal.returns-clause-laws
returns-clause-laws c = folds_total
