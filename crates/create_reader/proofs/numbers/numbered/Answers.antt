use Rattle.std.proofs.Common.{◌≡◌, ◌∷◌, [], sym, ap, ◌∙◌, arith, rules, true, false, length, map, nat_eq}
use Rattle.std.proofs.lemmas.Bool.{eqb-true, eqb-false}
use Rattle.std.proofs.lemmas.List.{length-map, map-append}
use Rattle.create_reader.specs.Numbers.{takes}
use Rattle.create_reader.specs.Views.{constraint_seen, seen}
use Rattle.create_reader.proofs.Known.{constraint_here, one_longer, over_16, still_known, taken_in, taken_out}
use Rattle.create_reader.proofs.numbers.numbered.Goals as goal

pub loop-constraint-preserved-then-not-is_new : goal.loop-constraint-preserved-then-not-is_new
loop-constraint-preserved-then-not-is_new c =
    let columns = c.args.table.now.columns.items in
    let here = constraint_here columns _ c.loop-constraint.constraint-index c.constraint-item.result c.loop-constraint-test.true c.constraint-item.is in
    let taken = c.in_ok-is_new.ensures
    ∙ ap (λ z. takes (seen c.args.table.now) (map (λ k. constraint_seen columns k.now) z) (constraint_seen columns c.constraint-item.result)) c.as_slice.ensures.value in
    let off : c.in_ok-is_new.is_new ≡ false = search rules in (
      c.loop-constraint.invariant.0,
      c.in_ok-known.ensures _ c.loop-constraint.invariant.1 (sym taken ∙ off),
      taken_out (seen c.args.table.now) _ _ _ _ (constraint_seen columns c.constraint-item.result) c.in_ok-is_new.is_new taken off here c.loop-constraint.invariant.2,
    )

pub returns-then-is_full : goal.returns-then-is_full
returns-then-is_full c =
    let columns = c.args.table.now.columns.items in
    let here = constraint_here columns _ c.loop-constraint.constraint-index c.constraint-item.result c.loop-constraint-test.true c.constraint-item.is in
    let taken = c.in_ok-is_new.ensures
    ∙ ap (λ z. takes (seen c.args.table.now) (map (λ k. constraint_seen columns k.now) z) (constraint_seen columns c.constraint-item.result)) c.as_slice.ensures.value in
    let on : c.in_ok-is_new.is_new ≡ true = search rules in
    let count = length-map c.loop-constraint.found.items (λ k. constraint_seen columns k.now) in
    let full = eqb-true _ _ (ap (λ z. nat_eq (length z) 16) (sym c.as_slice-in-loop-constraint.ensures.value) ∙ (sym c.is_full.ensures ∙ c.if-is_full.true)) in
    over_16 (seen c.args.table.now) _ _ _ _ (constraint_seen columns c.constraint-item.result) c.in_ok-is_new.is_new taken on here
    (omega (arith, count, full)) c.loop-constraint.invariant.2

pub loop-constraint-preserved : goal.loop-constraint-preserved
loop-constraint-preserved c =
    let columns = c.args.table.now.columns.items in
    let here = constraint_here columns _ c.loop-constraint.constraint-index c.constraint-item.result c.loop-constraint-test.true c.constraint-item.is in
    let taken = c.in_ok-is_new.ensures
    ∙ ap (λ z. takes (seen c.args.table.now) (map (λ k. constraint_seen columns k.now) z) (constraint_seen columns c.constraint-item.result)) c.as_slice.ensures.value in
    let on : c.in_ok-is_new.is_new ≡ true = search rules in
    let items = c.in_ok-push.ensures.items in
    let more = ap (map (λ k. constraint_seen columns k.now)) items ∙ map-append (λ k. constraint_seen columns k.now) c.loop-constraint.found.items (_ ∷ []) in
    let longer = one_longer _ _ _ items in
    let small = c.loop-constraint.invariant.0 in
    let apart = eqb-false _ _ (ap (λ z. nat_eq (length z) 16) (sym c.as_slice-in-loop-constraint.ensures.value) ∙ (sym c.is_full.ensures ∙ c.if-is_full.false)) in (
      omega (arith, longer, small, apart),
      still_known columns _ _ _ _ more c.loop-constraint.invariant.1,
      taken_in (seen c.args.table.now) _ _ _ _ _ (constraint_seen columns c.constraint-item.result) c.in_ok-is_new.is_new taken on here more c.loop-constraint.invariant.2,
    )
