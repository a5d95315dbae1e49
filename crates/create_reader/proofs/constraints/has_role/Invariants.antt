use Rattle.std.proofs.Common.{◌≡◌, drop}
use Rattle.std.specs.List.{list_any}
use Rattle.create_grammar.specs.Said.{is}
use Rattle.create_reader.proofs.constraints.has_role.Given as goal

abbrev pub invariant-loop-w : goal.invariant-loop-w
invariant-loop-w l = list_any (is l.role) (drop l.w-index l.said) ≡ list_any (is l.role) l.said
