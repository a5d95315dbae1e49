use Rattle.std.proofs.Common.{◌∙◌, sym, ap}
use Rattle.page_size.specs.Score.{winner}
use Rattle.page_size.proofs.Ranks.{winner_usable}
use Rattle.page_size.proofs.finds.scored_sizing.Goals as goal

pub returns-clause-usable : goal.returns-clause-usable
returns-clause-usable g c =
    winner_usable _ _ _ (ap winner (sym c.deref.ensures.value) ∙ sym c.best.ensures ∙ c.in-Some.is) c.in_ok-scores.ensures.usable
