use Rattle.std.proofs.Common.{arith}
use Rattle.db_builder.proofs.Preparing.{can_be_prepared, few_values}
use Rattle.db_builder.proofs.plans.prepare.Goals as goal

pub load_of-load-requires : goal.load_of-load-requires
load_of-load-requires c = few_values c.args.db.now c.requires.valid

pub plan_file-requires-clause-can : goal.plan_file-requires-clause-can
plan_file-requires-clause-can c =
    can_be_prepared c.args.page_size c.args.db.now c.requires.least c.requires.most c.requires.valid
    (omega (arith, c.if-load-from.false, c.load_of-load.ensures, c.from.ensures, c.requires.limit))
