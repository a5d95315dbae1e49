use Rattle.std.proofs.Common.{ℕ, List, sym, subst, arith}
use Rattle.varint_core.specs.Shortest.{IsShortest}
use Rattle.varint_core.proofs.Spelled.{spell_shortest}
use Rattle.varint_core.proofs.writing.write_varint.Goals as goal

pub returns-clause-shortest : goal.returns-clause-shortest
returns-clause-shortest c = subst (λ (s : List ℕ). IsShortest s c.args.v) (sym c.spelling_of.ensures) (spell_shortest c.args.v (omega arith))
