use Rattle.std.proofs.Common.{◌≤◌, ◌+◌, ◌∙◌, get_or, refl, rules, arith}
use Rattle.page_access.specs.Pages.{page_sizes}
use Rattle.page_size.proofs.Ranks.{told_scores, told_reads_next, told_reads_out, usable_next, passes}
use Rattle.page_size.proofs.scores.rank.Goals as goal

pub returns-in_err-pages-clause-reads : goal.returns-in_err-pages-clause-reads
returns-in_err-pages-clause-reads g c =
    told_reads_out _ _ _ _ _ (told_reads_next _ _ _ page_sizes c.loop-size.size-index _ _ _ _ c.loop-size.invariant.kept.told c.loop-size-test.true refl
    c.in_err-pages.ensures.reads c.loop-size.invariant.read)

pub returns-in_err-push-clause-reads : goal.returns-in_err-push-clause-reads
returns-in_err-push-clause-reads g c =
    told_reads_out _ _ _ _ _ (told_reads_next _ _ _ page_sizes c.loop-size.size-index _ _ _ _ c.loop-size.invariant.kept.told c.loop-size-test.true refl
    c.in_ok-pages.ensures.reads c.loop-size.invariant.read)

pub loop-size-preserved : goal.loop-size-preserved
loop-size-preserved g c =
    let loop = c.loop-size in
    let enough : c.args.reserved + 480 ≤ get_or page_sizes loop.size-index 0 = omega (arith, c.if-size-from.false, c.from.ensures) in
    record {
      room = search rules;
      kept = search rules;
      steady = c.in_ok-pages.ensures.cause.steady ∙ loop.invariant.steady;
      usable = usable_next _ loop.size-index _ _ _ c.loop-size-test.true enough c.in_ok-push.ensures.items loop.invariant.usable;
      scored = told_scores _ _ _ _ page_sizes loop.size-index _ _ _ _ _ loop.invariant.kept.told c.loop-size-test.true refl
          (passes _ _ enough) c.in_ok-pages.ensures.value c.in_ok-push.ensures.items loop.invariant.scored;
      read = told_reads_next _ _ _ page_sizes loop.size-index _ _ _ _ loop.invariant.kept.told c.loop-size-test.true refl
          c.in_ok-pages.ensures.reads loop.invariant.read;
    }
