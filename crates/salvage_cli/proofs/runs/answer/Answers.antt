use Rattle.salvage_cli.proofs.Ended.{unread_end, unread_few}
use Rattle.salvage_cli.proofs.runs.answer.Goals as goal

pub returns-in_err-listing-clause-ended : goal.returns-in_err-listing-clause-ended
returns-in_err-listing-clause-ended g c = unread_end _ _ _ c.in_err-listing.field-0.0 _ c.from_residual.ensures.1 c.in_err-listing.ensures.usage

pub returns-in_err-listing-clause-reads : goal.returns-in_err-listing-clause-reads
returns-in_err-listing-clause-reads g c = unread_few _ (g.S.Source.bytes c.args.src.now) (g.S.Source.reads c.args.src.now)
