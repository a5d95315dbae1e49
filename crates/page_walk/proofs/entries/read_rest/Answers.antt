use Rattle.std.proofs.Common.{ap, ℕ, ◌-◌}
use Rattle.page_walk.proofs.Fronts.{rest_front}
use Rattle.page_walk.proofs.entries.read_rest.Goals as goal

pub returns-clause-front : goal.returns-clause-front
returns-clause-front g c =
    rest_front _ c.args.geo.now c.args.view.now c.args.first _ c.args.table.now c.read_chain.new.table _ _ _ _ c.requires.first
    (ap (λ (n : ℕ). c.args.view.now.total - n) c.from.ensures) c.read_chain.ensures.front
