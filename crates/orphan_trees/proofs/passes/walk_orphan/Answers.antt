use Rattle.std.proofs.Common.{◌≡◌, ◌∙◌, List, ℕ, None, [], rules, sym, w64}
use Rattle.page_lists.specs.Table.{unused}
use Rattle.orphan_trees.proofs.Surveyed.{tree_told, walk_front, walk_told}
use Rattle.std.proofs.lemmas.Int.{to_z-of_z}
use Rattle.page_access.proofs.Told.{always_told}
use Rattle.orphan_trees.proofs.passes.walk_orphan.Goals as goal

pub returns-in_default-clause-value : goal.returns-in_default-clause-value
returns-in_default-clause-value g c =
    tree_told (g.S.Source.bytes c.args.src.now) c.args.geo.now c.args.survey.now c.args.root None (unused c.args.table.now) c.new.result.items
    c.requires.low c.requires.high c.requires.kinds (sym c.kind.ensures ∙ c.in_default.is)
    (always_told (λ (all : List ℕ). c.new.result.items ≡ []) (g.S.Source.bytes c.args.src.now) (λ all. c.new.ensures.items))

pub returns-in_err-pages-clause-front : goal.returns-in_err-pages-clause-front
returns-in_err-pages-clause-front g c =
    walk_front (g.S.Source.bytes c.args.src.now) c.args.geo.now c.args.survey.now c.args.root _ c.in-Some.kind (unused c.args.table.now) 6
    c.args.table.now c.walk_tree.new.table c.requires.low c.requires.high c.requires.kinds (sym c.kind.ensures ∙ c.in-Some.is) (to_z-of_z w64 c.from.result (search rules) ∙ c.from.ensures) c.walk_tree.ensures.front

pub returns-clause-value : goal.returns-clause-value
returns-clause-value g c =
    walk_told (g.S.Source.bytes c.args.src.now) c.args.geo.now c.args.survey.now c.args.root _ c.in-Some.kind (unused c.args.table.now)
    c.in_ok-pages.pages.items c.requires.low c.requires.high c.requires.kinds (sym c.kind.ensures ∙ c.in-Some.is) (to_z-of_z w64 c.from.result (search rules) ∙ c.from.ensures) c.in_ok-pages.ensures.value

pub returns-clause-front : goal.returns-clause-front
returns-clause-front g c =
    walk_front (g.S.Source.bytes c.args.src.now) c.args.geo.now c.args.survey.now c.args.root _ c.in-Some.kind (unused c.args.table.now) 6
    c.args.table.now c.walk_tree.new.table c.requires.low c.requires.high c.requires.kinds (sym c.kind.ensures ∙ c.in-Some.is) (to_z-of_z w64 c.from.result (search rules) ∙ c.from.ensures) c.walk_tree.ensures.front
