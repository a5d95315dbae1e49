use Rattle.page_walk.proofs.InTurn.{turn_small}
use Rattle.page_walk.proofs.turns.turn_page.Goals as goal

pub returns-clause-small : goal.returns-clause-small
returns-clause-small g c =
    turn_small _ _ c.args.page c.new-outcomes.result.items c.cells_with.new.to.items c.new-outcomes.ensures.items c.in_ok-cells_with.ensures.adds
    c.requires.page_least c.requires.page_most
