use Rattle.salvage_laws.proofs.Uses.{each_page_once}
use Rattle.salvage_laws.proofs.laws.each_page_is_used_once.Goals as goal

pub returns : goal.returns
returns c = each_page_once
