use Rattle.page_walk.proofs.Names.{Naming}
use Rattle.page_walk.proofs.named.push_children.Given as goal

abbrev pub invariant-loop-i : goal.invariant-loop-i
invariant-loop-i l =
    Naming l.page l.geo.usable l.geo.pages l.shape l.fn.to.items l.to.items l.i l.accepted
