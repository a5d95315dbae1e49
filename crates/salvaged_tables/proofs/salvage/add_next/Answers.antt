use Rattle.std.proofs.Common.{◌∷◌, ◌+◌, ◌∙◌, ap, arith, drop, refl, sym}
use Rattle.std.proofs.lemmas.List.{drop_more}
use Rattle.std.proofs.lemmas.Result.{on_ok_weaker}
use Rattle.salvaged_tables.proofs.Goes.{goes_table}
use Rattle.salvaged_tables.proofs.salvage.add_next.Goals as goal

pub returns : goal.returns
returns c is =
    on_ok_weaker c.add_table.result (λ gains rows rs turns i at was.
    goes_table rows rs c.args.trees.now turns i c.args.left.now _ c.args.found.now c.add_table.new.found c.args.row.now c.in-Some.reading
    c.index-trees-left.result c.in-Some-next.turns c.deref.result.now is at c.in-Some.ensures.cases.0 c.in-Some.ensures.cases.1
    c.in-Some-next.ensures.cases.0 c.in-Some-next.ensures.cases.1
    (drop_more c.args.trees.now c.args.left.now.number c.index-trees-left.result (omega (arith, c.requires.enough, c.in-Some.ensures.cases.1))
    ∙ ap (λ t. t ∷ drop (c.args.left.now.number + 1) c.args.trees.now) (sym c.index-trees-left.is)) refl c.deref.ensures.value gains was)
    c.add_table.ensures
