use Rattle.std.proofs.Common.{ℕ, ◌+◌, arith, refl, ap, sym, ◌∙◌}
use Rattle.std.proofs.lemmas.List.{get_or_default}
use Rattle.tree_writer.specs.declared.plans.PagePlan.{PagePlan}
use Rattle.tree_writer.specs.Planned.{no_page, span_at}
use Rattle.tree_writer.proofs.Adding.{longer, adds_level, adds_level_start, adds_level_done, old_behind}
use Rattle.tree_writer.proofs.plans.add_level.Goals as goal

pub loop-span-preserved : goal.loop-span-preserved
loop-span-preserved c =
    let s = span_at c.args.spans.now c.loop-span.span-index in
    let there = c.requires.ends c.loop-span.span-index c.loop-span-test.true in
    let f : PagePlan → PagePlan = λ p. record { index = c.loop-span.index; first = c.args.base + s.first; cells = s.cells; behind = p.behind } in
    adds_level _ _ _ _ _ _ _ _ _ c.loop-span.invariant c.loop-span-test.true there c.in_ok-push.ensures.items
    (ap f (c.index.ensures ∙ get_or_default c.loop-span.pages.items (c.args.base + s.first + s.cells) c.index.result.now no_page
    (longer _ _ _ _ _ _ _ _ c.loop-span.invariant there)))

pub index-requires : goal.index-requires
index-requires c =
    omega (arith, longer _ _ _ _ _ _ _ _ c.loop-span.invariant (c.requires.ends c.loop-span.span-index c.loop-span-test.true), c.loop-span.pages.ok.0)

pub returns : goal.returns
returns c = let done = adds_level_done _ _ _ _ _ _ _ c.loop-span.invariant c.loop-span-test.false in record { pages = done.0; index = done.1 }
