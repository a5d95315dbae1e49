use Rattle.std.proofs.Common.{◌∙◌, arith}
use Rattle.varint_core.proofs.Spelled.{shortest_len}
use Rattle.varint_core.proofs.writing.varint_len.Goals as goal

pub returns-clause-shortest : goal.returns-clause-shortest
returns-clause-shortest c = λ s is. c.len_of.ensures.exact ∙ shortest_len s c.args.v (omega arith) is
