use Rattle.record_core.proofs.Apart.{joined_is}
use Rattle.record_core.proofs.taking.joined.Goals as goal

pub returns : goal.returns
returns c =
    joined_is c.args.payload.items c.args.apart c.in-Some.long c.cut-body.result.items c.text_or_blob.result c.requires c.in-Some.is c.cut-body.ensures c.text_or_blob.ensures
