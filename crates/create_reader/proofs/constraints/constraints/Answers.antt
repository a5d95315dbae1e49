use Rattle.std.proofs.Common.{◌+◌, sym, ap, ◌∙◌, rules}
use Rattle.std.proofs.lemmas.List.{take_rest}
use Rattle.create_reader.specs.Constraints.{own_part}
use Rattle.create_reader.proofs.Walk.{word_here, column_next, other_next, constraint_next}
use Rattle.create_reader.proofs.constraints.constraints.Goals as goal

pub loop-i-preserved-then-is : goal.loop-i-preserved-then-is
loop-i-preserved-then-is c = column_next _ _ _ _ _ (word_here c.args.said.now c.loop-i.i _ c.loop-i-test.true)
    (sym c.is.ensures ∙ c.if-is.true) c.loop-i.invariant

pub loop-i-preserved-then-not-begins_constraint : goal.loop-i-preserved-then-not-begins_constraint
loop-i-preserved-then-not-begins_constraint c = other_next _ _ _ _ _ (word_here c.args.said.now c.loop-i.i _ c.loop-i-test.true)
    (sym c.is.ensures ∙ c.if-is.false) (search rules) c.loop-i.invariant

pub loop-i-preserved : goal.loop-i-preserved
loop-i-preserved c = constraint_next _ _ _ _ _ _ _ _ (word_here c.args.said.now c.loop-i.i _ c.loop-i-test.true)
    (sym c.is.ensures ∙ c.if-is.false) (search rules)
    (c.in_ok-constraint_of.ensures c.args.columns.now c.loop-i.invariant.named)
    (c.own_part.ensures ∙ ap own_part (take_rest c.args.said.now (c.loop-i.i + 1)))
    c.in_ok-push.ensures.items c.loop-i.invariant
