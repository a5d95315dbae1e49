use Rattle.std.proofs.Common.{◌≡◌, ◌-◌, ◌∙◌, length, length-take, length-drop, drop, rules, arith}
use Rattle.page_access.proofs.Parts.{told_next, told_turn}
use Rattle.page_access.proofs.loads.read_full.Goals as goal

pub loop-done-preserved : goal.loop-done-preserved
loop-done-preserved g c =
    let loop = c.loop-done in
    let fits : length c.read_at.new.to ≡ length loop.to - loop.done
    = omega (arith, c.read_at.auto.to, length-take (length loop.to - loop.done) (drop loop.done loop.to), length-drop loop.done loop.to) in
    record {
      inside = search rules;
      same_length = search rules;
      kept = search rules;
      steady = c.in_ok-count.ensures.cause.steady ∙ loop.invariant.steady;
      read = told_next _ _ _ _ _ _ _ loop.invariant.kept.told loop.invariant.inside fits loop.invariant.read c.in_ok-count.ensures.value;
      turn = told_turn _ _ _ _ _ _ _ _ _ _ loop.invariant.kept.told (omega arith) c.if-count-eq0.false (omega (arith, fits))
          c.in_ok-count.ensures.value loop.invariant.turn c.in_ok-count.ensures.reads;
    }
