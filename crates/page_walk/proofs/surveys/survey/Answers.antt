use Rattle.std.proofs.Common.{◌∙◌, ◌+◌, refl, arith}
use Rattle.page_access.proofs.Caching.{cached_at}
use Rattle.page_access.proofs.Keeps.{not_failed}
use Rattle.page_walk.proofs.Recent.{recent_more, recent_all}
use Rattle.page_walk.proofs.Surveying.{surveying_more, surveying_kinds}
use Rattle.page_walk.proofs.surveys.survey.Goals as goal

pub loop-before-preserved : goal.loop-before-preserved
loop-before-preserved g c = record {
  surveying = surveying_more c.read_page.new.src c.read_page.new.to c.kind_of.result c.push.new.self.items c.loop-before.invariant.surveying
      c.loop-before-test.true c.in_ok-read_page.ensures.page c.in_ok-read_page.ensures.kept (not_failed c.in_ok-read_page.ensures.cause.steady) c.in_ok-read_page.ensures.reads
      c.kind_of.ensures c.in_ok-push.ensures.items;
  cached = cached_at c.in_ok-read_page.ensures.kept.told c.in_ok-read_page.ensures.cached;
  slots = c.in_ok-read_page.ensures.slots ∙ c.loop-before.invariant.slots;
  recent = λ few. recent_more _ c.loop-before.before (c.loop-before.before + 1) c.read_page.new.to c.loop-before.cache c.read_page.new.cache refl
      (omega (arith, few, c.loop-before.invariant.slots, c.loop-before-test.true)) (c.loop-before.invariant.recent few)
      c.in_ok-read_page.ensures.hit c.in_ok-read_page.ensures.miss refl;
  full = λ all.
      let now = c.loop-before.invariant.full all in
      let step = c.in_ok-read_page.ensures.full now.0 in
      (step.0, step.1 ∙ now.1);
}

pub returns-clause-kinds : goal.returns-clause-kinds
returns-clause-kinds g c = surveying_kinds c.loop-before.invariant.surveying (omega arith)

pub returns-clause-has : goal.returns-clause-has
returns-clause-has g c = λ few.
    recent_all c.loop-before.before c.loop-before.cache (omega (arith, c.loop-before.invariant.cached.pages)) (c.loop-before.invariant.recent few)
