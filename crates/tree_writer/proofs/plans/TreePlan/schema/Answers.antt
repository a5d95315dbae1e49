use Rattle.std.proofs.Common.{◌≡◌, ◌-◌, ◌+◌, ◌≤◌, ◌<◌, ◌^◌, ℕ, length, map, sum_by, refl, ap, sym, ◌∙◌, arith}
use Rattle.std.specs.Prelude.{Some}
use Rattle.cell_reader.specs.declared.shapes.Kind.TheVariants.{Table}
use Rattle.tree_writer.specs.declared.plans.PagePlan.{PagePlan}
use Rattle.tree_writer.specs.Cells.{overs}
use Rattle.tree_writer.specs.Entry.{leaf_item}
use Rattle.tree_writer.specs.Plan.{need_in, overs_in}
use Rattle.tree_writer.proofs.Planning.{leaf_few, more_pages, one_leaf}
use Rattle.tree_writer.proofs.plans.TreePlan.schema.Goals as goal

pub needs_of-requires : goal.needs_of-requires
needs_of-requires g c =
    let f = leaf_few c.args.usable (g.N.Entries.entries c.args.entries.now) c.in_ok-sizes.sizes.items c.requires.least c.requires.entries c.in_ok-sizes.ensures in
    omega (arith, f.0, ap length c.deref.ensures.value)

pub overflow_cast-page : goal.overflow_cast-page
overflow_cast-page g c =
    let f = leaf_few c.args.usable (g.N.Entries.entries c.args.entries.now) c.in_ok-sizes.sizes.items c.requires.least c.requires.entries c.in_ok-sizes.ensures in
    omega (arith, f.0, c.len.ensures, c.in_ok-sizes.sizes.ok.0)

pub overs_in-requires : goal.overs_in-requires
overs_in-requires g c =
    let f = leaf_few c.args.usable (g.N.Entries.entries c.args.entries.now) c.in_ok-sizes.sizes.items c.requires.least c.requires.entries c.in_ok-sizes.ensures in
    omega (arith, f.1, ap (sum_by overs_in) c.deref-then-needs_of-from.ensures.value)

pub overflow_add-result : goal.overflow_add-result
overflow_add-result g c =
    let f = leaf_few c.args.usable (g.N.Entries.entries c.args.entries.now) c.in_ok-sizes.sizes.items c.requires.least c.requires.entries c.in_ok-sizes.ensures in
    omega (arith, f.1, ap (sum_by overs_in) c.deref-then-needs_of-from.ensures.value, c.overs_in.ensures)

pub returns-then-needs_of-from : goal.returns-then-needs_of-from
returns-then-needs_of-from g c =
    let es = g.N.Entries.entries c.args.entries.now in
    let f = leaf_few c.args.usable es c.in_ok-sizes.sizes.items c.requires.least c.requires.entries c.in_ok-sizes.ensures in
    let len : c.len.result ≡ length es = omega (arith, f.2, c.len.ensures, c.in_ok-sizes.sizes.ok.0) in
    let page : ℕ → PagePlan = λ n. record { index = 0; first = 0; cells = n; behind = 0 } in
    one_leaf c.args.usable es _ c.requires.least c.requires.most c.requires.entries
    (omega (arith, f.4, c.if-needs_of-from.true, c.from.ensures, c.needs_of.ensures, ap (sum_by need_in) c.deref.ensures.value))
    refl refl refl c.new-pages.ensures.items (ap (λ n. Some (page n)) len)
    (ap (λ n. 1 + n) (c.overs_in.ensures ∙ ap (sum_by overs_in) c.deref-then-needs_of-from.ensures.value ∙ f.3)) refl

pub returns : goal.returns
returns g c =
    let es = g.N.Entries.entries c.args.entries.now in
    let f = leaf_few c.args.usable es c.in_ok-sizes.sizes.items c.requires.least c.requires.entries c.in_ok-sizes.ensures in
    let len : c.len-2.result ≡ length c.raise.new.pages.items = omega (arith, c.len-2.ensures, c.raise.new.pages.ok.0) in
    let page : ℕ → PagePlan = λ n. record { index = c.in_ok-top.top.index; first = c.in_ok-top.top.base; cells = n - c.in_ok-top.top.base - 1; behind = 0 } in
    more_pages c.args.usable es _ c.in_ok-top.top c.requires.least c.requires.most c.requires.entries
    (omega (arith, f.4, c.if-needs_of-from.false, c.from.ensures, c.needs_of.ensures, ap (sum_by need_in) c.deref.ensures.value))
    c.in_ok-top.ensures refl refl refl (ap (λ n. Some (page n)) len) refl refl
