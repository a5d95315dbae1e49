use Rattle.written_trees.proofs.Serving.{numbers_serve}
use Rattle.written_trees.proofs.laws.the_numbers_of_a_numbering_serve.Goals as goal

pub returns : goal.returns
returns c = numbers_serve
