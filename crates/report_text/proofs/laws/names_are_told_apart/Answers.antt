use Rattle.report_text.proofs.Apart.{names_are_told_apart}
use Rattle.report_text.proofs.laws.names_are_told_apart.Goals as goal

pub returns : goal.returns
returns c = names_are_told_apart
