use Rattle.std.proofs.Common.{◌≡◌, drop}
use Rattle.key_order.specs.Order.{keys_cmp}
use Rattle.key_order.proofs.compare.Given as goal

abbrev pub invariant-loop-i : goal.invariant-loop-i
invariant-loop-i g l =
    let a = g.F.Fields.values l.a in let b = g.F.Fields.values l.b in
    keys_cmp (drop l.i l.colls) (drop l.i a) (drop l.i b) ≡ keys_cmp l.colls a b
