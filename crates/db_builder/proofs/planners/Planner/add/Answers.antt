use Rattle.std.proofs.Common.{◌+◌, ap, refl, arith}
use Rattle.db_builder.proofs.Taking.{taken}
use Rattle.db_builder.proofs.planners.Planner.add.Goals as goal

pub returns-clause-trees : goal.returns-clause-trees
returns-clause-trees c = λ tables done number tree lt is so.
    taken tables done number tree c.args.self.now _ c.args.made lt is so refl c.in_ok-push.ensures.items
    (ap (λ n. c.args.self.now.before + n) c.page_count-count.ensures.value) (omega (arith, c.max-self.ensures)) (omega (arith, c.max-self.ensures))
