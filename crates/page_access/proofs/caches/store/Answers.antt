use Rattle.page_access.proofs.Pairs.{none_of}
use Rattle.page_access.proofs.caches.store.Goals as goal

pub returns-clause-entries : goal.returns-clause-entries
returns-clause-entries c = rw (none_of c.args.page c.args.pairs.now.entries c.requires) at c.in_ok-put.ensures.entries
