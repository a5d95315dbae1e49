use Rattle.std.proofs.Common.{◌≡◌, sym, ap, ◌∙◌, arith, ◌++◌, append-nil, drop}
use Rattle.create_grammar.specs.Words.{gap_len}
use Rattle.create_grammar.proofs.Turns.{words_none, gap_step, word_step, one_found}
use Rattle.create_grammar.proofs.spans.words.Goals as goal

pub returns-then-at-sql : goal.returns-then-at-sql
returns-then-at-sql c =
    sym (append-nil c.loop-turn.found.items)
    ∙ (ap (λ z. c.loop-turn.found.items ++ z) (sym (words_none c.args.sql.now _ c.loop-turn.at c.if-at-sql.true)) ∙ c.loop-turn.invariant)

pub loop-turn-preserved-then-gap-gt0 : goal.loop-turn-preserved-then-gap-gt0
loop-turn-preserved-then-gap-gt0 c =
    ap (λ z. c.loop-turn.found.items ++ z) (gap_step c.args.sql.now c.loop-turn.at c.loop-turn._turn _ c.gap_at-gap.result
    c.loop-turn-test.true c.gap_at-gap.ensures.value c.if-gap-gt0.true) ∙ c.loop-turn.invariant

pub loop-turn-preserved : goal.loop-turn-preserved
loop-turn-preserved c =
    let none : gap_len (drop c.loop-turn.at c.args.sql.now) ≡ 0 = omega (arith, c.gap_at-gap.ensures.value, c.if-gap-gt0.false) in
    one_found _ _ _ _ _ c.word_behind-word.result c.in_ok-push.ensures.items
    (word_step c.args.sql.now c.loop-turn.at c.loop-turn._turn _ c.word_behind-word.result
    c.loop-turn-test.true c.if-at-sql.false none c.word_behind-word.ensures.value) c.loop-turn.invariant
