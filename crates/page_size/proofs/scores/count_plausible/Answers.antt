use Rattle.std.proofs.Common.{◌+◌, ◌∙◌, ap, rules, arith}
use Rattle.page_size.proofs.Counts.{counts_once, once, told_count, told_reads}
use Rattle.page_size.proofs.scores.count_plausible.Goals as goal

pub loop-number-preserved : goal.loop-number-preserved
loop-number-preserved g c =
    let loop = c.loop-number in
    let one = c.from-count.ensures ∙ counts_once c.is_plausible_page.result in
    record {
      same_length = search rules;
      fits = omega (arith, loop.invariant.fits, one, once c.is_plausible_page.result);
      kept = search rules;
      steady = c.in_ok-load.ensures.cause.steady ∙ loop.invariant.steady;
      counted = told_count _ _ _ _ _ _ _ _ _ _ loop.invariant.kept.told c.loop-number-test.true c.in_ok-load.ensures.page
          c.is_plausible_page.ensures (ap (λ n. loop.count + n) one) loop.invariant.counted;
      read = told_reads _ _ _ _ _ _ _ _ loop.invariant.kept.told c.loop-number-test.true loop.invariant.read c.in_ok-load.ensures.reads;
    }
