use Rattle.overflow_chain.proofs.Reading.{Reading}
use Rattle.overflow_chain.proofs.chains.read_chain.Given as goal

abbrev pub invariant-loop-missing : goal.invariant-loop-missing
invariant-loop-missing g l =
    Reading g.S.Source.bytes g.S.Source.attached g.S.Source.faults g.S.Source.reads l.geo l.first l.need l.initial.src l.src l.initial.table l.table
    l.initial.pages.items l.pages.items l.initial.to.items l.to.items l.missing l.at

abbrev pub decreases-loop-missing : goal.decreases-loop-missing
decreases-loop-missing g l = l.missing
