use Rattle.std.proofs.Common.{◌∙◌, sym, ap, arith, inl, inr, ◌+◌, ◌∷◌, ◌<◌, drop, length, true, false}
use Rattle.std.proofs.lemmas.List.{drop_more}
use Rattle.create_reader.specs.Meaning.{place}
use Rattle.create_reader.proofs.Lookup.{bad_here, mark_at, next_place}
use Rattle.create_reader.proofs.places.places.Goals.{then-at-len-via-then-at-len, then-at-len-via-else-at-len+then-index}
use Rattle.create_reader.proofs.places.places.Goals as goal

pub returns-then-at-len-clause-bad : goal.returns-then-at-len-clause-bad
returns-then-at-len-clause-bad c =
    let inv = c.loop-name.invariant in
    bad_here c.args.columns.now c.loop-name.found.items c.loop-name.met.items c.args.names.now c.name-item.result _ _ c.in_ok-number.number
    (drop_more c.args.names.now c.loop-name.name-index c.name-item.result c.loop-name-test.true ∙ ap (λ z. z ∷ drop (c.loop-name.name-index + 1) c.args.names.now) (sym c.name-item.is))
    (c.in_ok-number.ensures ∙ ap (place c.args.columns.now) c.as_slice.ensures) inv.0 inv.1 inv.2
    (elim c.then-at-len.branch [
      | then-at-len-via-then-at-len w ↦ (let len = c.len.ensures in let over = w.if-at-len in inl (omega (arith, len, over)))
      | then-at-len-via-else-at-len+then-index w ↦ (
          let len = c.len.ensures in
          let under = w.if-at-len.false in
          let less : c.in_ok-number.number < length c.loop-name.met.items = omega (arith, len, under) in
          inr (less, mark_at c.loop-name.met.items c.in_ok-number.number w.index.result.now true less w.index.ensures w.if-index.true))
    ])

pub loop-name-preserved : goal.loop-name-preserved
loop-name-preserved c =
    let inv = c.loop-name.invariant in
    let len = c.len.ensures in
    let under = c.if-at-len.false in
    let less : c.in_ok-number.number < length c.loop-name.met.items = omega (arith, len, under) in
    next_place c.args.columns.now c.loop-name.found.items c.push.new.self.items c.loop-name.met.items c.args.names.now c.name-item.result _ _ c.in_ok-number.number
    (drop_more c.args.names.now c.loop-name.name-index c.name-item.result c.loop-name-test.true ∙ ap (λ z. z ∷ drop (c.loop-name.name-index + 1) c.args.names.now) (sym c.name-item.is))
    (c.in_ok-number.ensures ∙ ap (place c.args.columns.now) c.as_slice.ensures) inv.0 inv.1 inv.2 inv.3
    less (mark_at c.loop-name.met.items c.in_ok-number.number c.index.result.now false less c.index.ensures c.if-index.false) c.in_ok-push.ensures.items
