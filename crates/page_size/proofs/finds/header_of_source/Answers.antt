use Rattle.std.proofs.Common.{length-take, arith}
use Rattle.page_size.proofs.Front.{told_header}
use Rattle.page_size.proofs.finds.header_of_source.Goals as goal

pub returns-clause-value : goal.returns-clause-value
returns-clause-value g c =
    told_header _ c.args.len c.read_front.new.to _ (omega (arith, c.read_front.auto.to, c.min.ensures, length-take c.min.result c.args.first.now)) c.read_header.ensures.exact c.in_ok-read_front.ensures.front
