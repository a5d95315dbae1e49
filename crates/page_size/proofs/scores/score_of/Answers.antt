use Rattle.std.proofs.lemmas.Result.{IfOk-weaker}
use Rattle.page_size.proofs.Ranks.{told_score}
use Rattle.page_size.proofs.scores.score_of.Goals as goal

pub returns-in-Some-clause-value : goal.returns-in-Some-clause-value
returns-in-Some-clause-value g c = IfOk-weaker c.count_plausible.result _ _ (λ n. told_score _ _ _ _ _ _ _ n c.in-Some.ensures.found) c.count_plausible.ensures.value
