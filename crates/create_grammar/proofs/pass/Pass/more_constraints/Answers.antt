use Rattle.std.proofs.Common.{sym, length}
use Rattle.create_grammar.specs.Grammar.{◌▷◌, comma, table_constraint}
use Rattle.create_grammar.proofs.Many.{many_end, many_out, many_more}
use Rattle.create_grammar.proofs.pass.Pass.more_constraints.Goals as goal

pub returns-then-not-next_is : goal.returns-then-not-next_is
returns-then-not-next_is c = many_end (comma ▷ table_constraint) c.loop-turn._turn (length c.args.self.now.sorts.now) _ _
    c.loop-turn-test.true c.loop-turn.invariant (sym c.if-not-next_is.ensures)

pub returns-in-Err : goal.returns-in-Err
returns-in-Err c = many_out (comma ▷ table_constraint) c.loop-turn._turn (length c.args.self.now.sorts.now) _ _ _ c.in-Err.stop
    c.loop-turn-test.true c.loop-turn.invariant (sym c.if-not-next_is.ensures) c.in-Err.ensures

pub loop-turn-preserved : goal.loop-turn-preserved
loop-turn-preserved c = many_more (comma ▷ table_constraint) c.loop-turn._turn (length c.args.self.now.sorts.now) _ _ _ c.in-Ok.field-0
    c.loop-turn-test.true c.loop-turn.invariant (sym c.if-not-next_is.ensures) c.in-Ok.ensures
