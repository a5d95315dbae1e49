use Rattle.std.proofs.Common.{ℕ, List, map, take, false, length, ◌≡◌, ap, sym, ◌∙◌, arith}
use Rattle.tree_writer.specs.declared.plans.PagePlan.{PagePlan}
use Rattle.std.proofs.lemmas.List.{take_all}
use Rattle.tree_writer.specs.declared.sizes.Size.{Size}
use Rattle.tree_writer.specs.Plan.{size_item}
use Rattle.tree_writer.specs.Planned.{inner_item, no_page}
use Rattle.tree_writer.proofs.Adding.{front_more, map_map}
use Rattle.tree_writer.proofs.plans.line_sizes.Goals as goal

pub loop-page-preserved : goal.loop-page-preserved
loop-page-preserved g c =
    let es = g.N.Entries.entries c.args.entries.now in
    let f : PagePlan → Size = λ p. size_item c.args.usable c.args.kind false (inner_item c.args.kind es p) in
    c.in_ok-push.ensures.items ∙ front_more f c.args.below.now c.loop-page.page-index no_page c.loop-page.sizes.items c.size_of.result c.loop-page-test.true c.loop-page.invariant c.size_of.ensures

pub returns : goal.returns
returns g c =
    let es = g.N.Entries.entries c.args.entries.now in
    let f : PagePlan → Size = λ p. size_item c.args.usable c.args.kind false (inner_item c.args.kind es p) in
    let all : take c.loop-page.page-index c.args.below.now ≡ c.args.below.now = take_all c.loop-page.page-index c.args.below.now c.loop-page-test.false in
    c.loop-page.invariant ∙ ap (map f) all ∙ sym (map_map (size_item c.args.usable c.args.kind false) (inner_item c.args.kind es) c.args.below.now)
