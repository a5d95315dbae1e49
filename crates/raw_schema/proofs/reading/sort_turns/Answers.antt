use Rattle.raw_schema.proofs.Turns.{turns_more}
use Rattle.raw_schema.proofs.reading.sort_turns.Goals as goal

pub loop-turn-preserved : goal.loop-turn-preserved
loop-turn-preserved c =
    turns_more c.in-Some.turn _ _ _ _ c.loop-turn.invariant c.in-Some.ensures.steps.0 c.in_ok-sort_turn.ensures.rows
    c.in_ok-sort_turn.ensures.bad c.in_ok-sort_turn.ensures.notes
