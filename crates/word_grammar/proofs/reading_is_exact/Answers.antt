use Rattle.word_grammar.proofs.Verdicts.{is_verdict}
use Rattle.word_grammar.proofs.reading_is_exact.Goals as goal

pub returns : goal.returns
returns c = is_verdict
