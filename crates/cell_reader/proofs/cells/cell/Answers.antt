use Rattle.std.proofs.Common.{arith, rules, length, take, drop, ◌≡◌, ◌≤◌, ◌+◌, ◌-◌, ◌*◌, sym, ap, ◌∙◌, subst, ℕ}
use Rattle.std.proofs.lemmas.List.{length-take-le, length-drop}
use Rattle.cell_reader.proofs.Places.{view_inside, range_fits}
use Rattle.cell_reader.proofs.cells.cell.Goals as goal

pub returns-clause-inside : goal.returns-clause-inside
returns-clause-inside c =
    let product : c.from.result * c.from-2.result ≡ c.args.geo.now.pages * c.args.geo.now.usable =
    ap (λ n. n * c.from-2.result) c.from.ensures ∙ ap (λ n. c.args.geo.now.pages * n) c.from-2.ensures in
    view_inside c.args.geo.now.usable c.args.geo.now.pages c.pointer-start.result _ c.args.shape.now
    c.in_ok-parts.parts _ c.view.ensures c.in_ok-parts.ensures.parts
    (range_fits c.args.page.now c.pointer-start.result c.args.geo.now.usable (omega arith))
    c.if-start-shape.false
    (subst (λ (n : ℕ). c.in_ok-parts.parts.total ≤ n) product c.in_ok-parts.ensures.most)
    c.in_ok-parts.ensures.payload
