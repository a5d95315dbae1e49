use Rattle.std.proofs.Common.{sym, ◌∙◌}
use Rattle.create_reader.proofs.Holds.{holds_next, holds_here}
use Rattle.create_reader.proofs.columns.holds.Goals as goal

pub returns-then-begins : goal.returns-then-begins
returns-then-begins c = sym (sym c.loop-i.invariant ∙ holds_here c.args.part.now c.args.bytes.now c.loop-i.i c.begins.result
    c.loop-i-test.true c.begins.ensures c.if-begins.true)

pub loop-i-preserved : goal.loop-i-preserved
loop-i-preserved c = holds_next c.args.part.now c.args.bytes.now c.loop-i.i c.begins.result c.loop-i-test.true
    c.begins.ensures c.if-begins.false ∙ c.loop-i.invariant
