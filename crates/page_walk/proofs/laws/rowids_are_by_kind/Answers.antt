use Rattle.page_walk.proofs.Rowids.{rowids_are_by_kind}
use Rattle.page_walk.proofs.laws.rowids_are_by_kind.Goals as goal

pub returns : goal.returns
returns c = rowids_are_by_kind
