use Rattle.std.proofs.Common.{sym, ◌∙◌, subst}
use Rattle.std.proofs.lemmas.Bool.{and_parts}
use Rattle.page_lists.specs.Lists.{is_in}
use Rattle.page_lists.specs.Table.{Table, Moves, unused}
use Rattle.page_lists.proofs.Uses.{Moves-one}
use Rattle.page_walk.specs.Taking.{is_of_kind}
use Rattle.page_walk.proofs.walks.take.Goals as goal

pub returns-clause-moves : goal.returns-clause-moves
returns-clause-moves c =
    let free = and_parts (is_of_kind c.args.survey.now c.args.table.now.pages c.args.kind c.args.page)
    (is_in c.args.page (unused c.args.table.now)) (sym c.is_free.ensures.value ∙ c.if-not-is_free.false) in
    subst (λ (t : Table). Moves c.args.list c.args.table.now t) (sym c.move_to_back.ensures.value)
    (Moves-one c.args.list c.args.table.now c.args.page free.1)
