use Rattle.std.proofs.Common.{◌∙◌}
use Rattle.create_grammar.proofs.Keywords.{keyword_found}
use Rattle.create_grammar.proofs.sorts.keyword.Goals as goal

pub returns : goal.returns
returns c = c.keyword_by_length.ensures ∙ keyword_found c.args.bytes.now
