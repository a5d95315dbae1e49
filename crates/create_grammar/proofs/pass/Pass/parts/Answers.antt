use Rattle.std.proofs.Common.{sym, arith, length}
use Rattle.create_grammar.specs.Grammar.{column, table_constraint}
use Rattle.create_grammar.specs.Classes.{class_of}
use Rattle.create_grammar.specs.declared.classes.Class.TheVariants.{One}
use Rattle.create_grammar.specs.declared.sorts.Sort.TheVariants.{Comma}
use Rattle.create_grammar.proofs.Many.{runs_more, runs_out, runs_later, runs_end, runs_last}
use Rattle.create_grammar.proofs.pass.Pass.parts.Goals as goal

pub returns-then-not-next_is : goal.returns-then-not-next_is
returns-then-not-next_is c = runs_end 0 (class_of (One Comma)) column table_constraint
    c.loop-turn._turn (length c.args.self.now.sorts.now) _ _ c.loop-turn-test.true c.loop-turn.invariant
    (sym c.if-not-next_is.ensures)

pub returns-then-not-next_is-2 : goal.returns-then-not-next_is-2
returns-then-not-next_is-2 c = runs_later 0 (class_of (One Comma)) column table_constraint
    c.loop-turn._turn (length c.args.self.now.sorts.now) _ _ c.word.new.self _ c.in-Ok.field-0 _
    c.loop-turn-test.true c.loop-turn.invariant (sym c.if-not-next_is.ensures) c.in-Ok.ensures
    (sym c.if-not-next_is-2.ensures) c.table_constraints.ensures

pub returns-in-Err-column : goal.returns-in-Err-column
returns-in-Err-column c = runs_out 0 (class_of (One Comma)) column table_constraint
    c.loop-turn._turn (length c.args.self.now.sorts.now) _ _ c.word.new.self _ c.in-Ok.field-0 c.in-Err-column.stop
    c.loop-turn-test.true c.loop-turn.invariant (sym c.if-not-next_is.ensures) c.in-Ok.ensures
    (sym c.if-not-next_is-2.ensures) c.in-Err-column.ensures

pub returns : goal.returns
returns c = runs_last 0 (class_of (One Comma)) column table_constraint _ _ _ (omega (arith, c.loop-turn-test.false)) c.loop-turn.invariant

pub loop-turn-preserved : goal.loop-turn-preserved
loop-turn-preserved c = runs_more 0 (class_of (One Comma)) column table_constraint
    c.loop-turn._turn (length c.args.self.now.sorts.now) _ _ c.word.new.self _ c.in-Ok.field-0 c.in-Ok-column.field-0
    c.loop-turn-test.true c.loop-turn.invariant (sym c.if-not-next_is.ensures) c.in-Ok.ensures
    (sym c.if-not-next_is-2.ensures) c.in-Ok-column.ensures
