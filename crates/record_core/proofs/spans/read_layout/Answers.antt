use Rattle.std.proofs.Common.{sym}
use Rattle.record_core.proofs.Causes.{layout_fault}
use Rattle.record_core.proofs.Headers.{layout_has}
use Rattle.record_core.proofs.spans.read_layout.Goals as goal

pub returns-clause-values : goal.returns-clause-values
returns-clause-values c = layout_has c.args.payload.now c.layout_at.result (sym c.layout_at.ensures.exact)

pub returns-clause-no_memory : goal.returns-clause-no_memory
returns-clause-no_memory c = layout_fault c.args.payload.now c.layout_at.result c.layout_at.ensures.exact
