use Rattle.std.proofs.Common.{◌≡◌, ◌-◌, length, refl, ap, sym, ◌∙◌, arith}
use Rattle.std.proofs.lemmas.List.{get_or_default}
use Rattle.tree_writer.specs.declared.plans.PagePlan.{PagePlan}
use Rattle.tree_writer.specs.Planned.{no_page, plan_at}
use Rattle.tree_writer.proofs.Planning.{root_is}
use Rattle.tree_writer.proofs.plans.TreePlan.of_kind.Goals as goal

pub returns : goal.returns
returns g c =
    let es = g.N.Entries.entries c.args.entries.now in
    let r = c.in_ok-top.ensures in
    let plans = c.raise.new.pages.items in
    let place : c.len.result - 1 ≡ length plans - 1 = omega (arith, c.len.ensures, c.raise.new.pages.ok.0) in
    record {
      least = c.requires.least;
      most = c.requires.most;
      entries = c.requires.entries;
      usable_is = refl;
      kind_is = refl;
      laid = r.laid;
      no_first = refl;
      count = r.index;
      root = ap (λ (p : PagePlan). p.index) (c.index.ensures ∙ get_or_default plans (c.len.result - 1) c.index.result.now no_page (omega (arith, r.base, place))) ∙ ap (λ n. (plan_at plans n).index) place
          ∙ root_is c.args.usable c.args.kind 0 es plans c.in_ok-top.top r;
      short = r.few;
    }
