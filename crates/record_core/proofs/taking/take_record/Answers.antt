use Rattle.record_core.proofs.Found.{answer_found}
use Rattle.record_core.proofs.Causes.{answer_fault}
use Rattle.record_core.proofs.Again.{answer_only}
use Rattle.record_core.proofs.taking.take_record.Goals as goal

pub returns-clause-found : goal.returns-clause-found
returns-clause-found c = answer_found (λ v. v.items) c.args.payload.items c.take.result c.take.ensures.exact

pub returns-clause-only : goal.returns-clause-only
returns-clause-only c = answer_only (λ v. v.items) c.args.payload.items c.take.result c.take.ensures.exact

pub returns-clause-fault : goal.returns-clause-fault
returns-clause-fault c = answer_fault (λ v. v.items) c.args.payload.items c.take.result c.take.ensures.exact
