use Rattle.std.proofs.Common.{arith, ap, ◌∙◌, length}
use Rattle.create_grammar.proofs.pass.Pass.inside.Goals as goal

pub loop-turn-preserved : goal.loop-turn-preserved
loop-turn-preserved c = record {
  some = omega (arith, c.if-depth-eq0.false);
  small = omega (arith, c.in-Ok.ensures.depth, c.loop-turn.invariant.small);
  place = omega (arith, c.in-Ok.ensures.at, c.loop-turn.invariant.place);
  words = ap length c.in-Ok.ensures.sorts ∙ c.loop-turn.invariant.words;
  goes = λ new result d. c.loop-turn.invariant.goes new result (c.in-Ok.ensures.goes new result d);
}
