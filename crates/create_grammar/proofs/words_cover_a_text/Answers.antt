use Rattle.create_grammar.proofs.Cuts.{words_cover}
use Rattle.create_grammar.proofs.words_cover_a_text.Goals as goal

pub returns : goal.returns
returns c = words_cover
