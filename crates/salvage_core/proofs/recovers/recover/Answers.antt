use Rattle.salvage_core.proofs.Ending.{ends_of}
use Rattle.salvage_core.proofs.recovers.recover.Goals as goal

pub returns-clause-ends : goal.returns-clause-ends
returns-clause-ends g c =
    ends_of c.args.opts.now (g.S.Source.bytes c.args.src.now) _ c.in_ok-gathered.gathered c.write_out.result c.in_ok-gathered.ensures.sound.valid c.in_ok-gathered.ensures.sound.placed c.in_ok-gathered.ensures.plan c.write_out.ensures.ends
