use Rattle.std.proofs.Common.{refl}
use Rattle.create_grammar.proofs.Steps.{took_one}
use Rattle.create_grammar.proofs.pass.Pass.take.Goals as goal

pub returns-clause-took : goal.returns-clause-took
returns-clause-took c = λ w ws e. took_one c.args.self.now _ c.args.role w ws e refl refl c.in-Ok.ensures.items
