use Rattle.std.proofs.Common.{ap, sym, ◌∙◌, length, refl}
use Rattle.page_walk.proofs.Sorting.{sorting_start, sorting_more}
use Rattle.page_walk.proofs.rows.sort_outcomes.Goals as goal

pub loop-outcome-init : goal.loop-outcome-init
loop-outcome-init c =
    let made = c.into_iter-outcome-iterator.ensures.into_iter_gives in
    sorting_start _ _ _ _ _ made.0 (ap length made.0 ∙ (sym c.args.outcomes.ok.0 ∙ sym made.1)) c.requires refl

pub loop-outcome-preserved : goal.loop-outcome-preserved
loop-outcome-preserved c =
    sorting_more _ _ _ _ _ _ c.in-Some.outcome _ _ _ _ c.loop-outcome.invariant c.in-Some.ensures.steps.0
    c.in-Some.ensures.steps.1 c.in_ok-notes.ensures.rows c.in_ok-notes.ensures.notes
