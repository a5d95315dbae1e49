use Rattle.std.proofs.Common.{ℕ, Bool, true, false, [], map, take, drop, nat_le, ◌<◌, ◌^◌, sum_by, ◌≡◌, ◌+◌, ◌-◌, ◌++◌, List, refl, ap, sym, subst, arith, ◌∙◌, length}
use Rattle.tree_writer.specs.declared.plans.PagePlan.{PagePlan}
use Rattle.tree_writer.specs.declared.groups.Span.{Span}
use Rattle.tree_writer.specs.declared.sizes.Size.{Size}
use Rattle.tree_writer.specs.Groups.{cuts}
use Rattle.tree_writer.specs.Levels.{needs}
use Rattle.tree_writer.specs.Plan.{AreSizes, need_in, size_item, spans_of}
use Rattle.tree_writer.specs.Planned.{inner_item, leaf_plans, span_at, span_pages}
use Rattle.tree_writer.proofs.Raising.{Grows, FirstTurn, LineTakes, NextTurn, first_turn, grows_end, line_takes, line_there, next_turn, under}
use Rattle.tree_writer.proofs.plans.raise.Goals as goal

pub add_leaves-requires-clause-few : goal.add_leaves-requires-clause-few
add_leaves-requires-clause-few g c =
    let f = first_turn c.args.usable c.args.kind (g.N.Entries.entries c.args.entries.now) c.requires.least c.requires.entries in
    omega (arith, f.few, ap (sum_by span_pages) (c.as_slice.ensures.value ∙ c.in_ok-spans.ensures))

pub add_leaves-requires-clause-ends : goal.add_leaves-requires-clause-ends
add_leaves-requires-clause-ends g c =
    let f = first_turn c.args.usable c.args.kind (g.N.Entries.entries c.args.entries.now) c.requires.least c.requires.entries in
    subst (λ (t : List Span). (i : ℕ) → i < length t → (span_at t i).first + (span_at t i).cells < 2 ^ 32) (sym (c.as_slice.ensures.value ∙ c.in_ok-spans.ensures)) f.ends

pub overflow_cast-leaves : goal.overflow_cast-leaves
overflow_cast-leaves g c =
    let f = first_turn c.args.usable c.args.kind (g.N.Entries.entries c.args.entries.now) c.requires.least c.requires.entries in
    let p = c.in_ok-index.ensures.pages ∙ ap (λ (t : List PagePlan). t ++ leaf_plans c.args.kind 0 c.as_slice.result.now) c.requires.none
    ∙ ap (leaf_plans c.args.kind 0) (c.as_slice.ensures.value ∙ c.in_ok-spans.ensures) in
    omega (arith, f.short, ap length p, c.len-leaves.ensures, c.add_leaves.new.pages.ok.0)

pub levels-init : goal.levels-init
levels-init g c =
    let es = g.N.Entries.entries c.args.entries.now in
    let f = first_turn c.args.usable c.args.kind es c.requires.least c.requires.entries in
    let sp = c.as_slice.ensures.value ∙ c.in_ok-spans.ensures in
    let p = c.in_ok-index.ensures.pages ∙ ap (λ (t : List PagePlan). t ++ leaf_plans c.args.kind 0 c.as_slice.result.now) c.requires.none
    ∙ ap (leaf_plans c.args.kind 0) sp in
    let plans = c.add_leaves.new.pages.items in
    let len : length plans ≡ c.len-leaves.result = omega (arith, c.len-leaves.ensures, c.add_leaves.new.pages.ok.0) in
    subst (λ n. Grows c.args.usable c.args.kind c.args.top es n 0 c.in_ok-index.index plans) len
    (f.start c.args.top c.in_ok-index.index plans p (c.in_ok-index.ensures.index ∙ ap (sum_by span_pages) sp))

pub needs_of-requires : goal.needs_of-requires
needs_of-requires g c =
    let es = g.N.Entries.entries c.args.entries.now in
    let inv = c.levels.invariant in
    let end = c.len-end.result - 1 in
    let e : end + 1 ≡ length c.levels.pages.items = omega (arith, c.len-end.ensures, c.levels.pages.ok.0, inv.lens) in
    let is = subst (λ (t : List PagePlan). c.in_ok-line.line.items ≡ map (size_item c.args.usable c.args.kind false) (map (inner_item c.args.kind es) (take (end - c.levels.base) (drop c.levels.base t))))
    c.as_slice-in-levels.ensures.value c.in_ok-line.ensures in
    let l = line_takes c.args.usable c.args.kind c.args.top es c.len-leaves.result c.levels.base c.levels.index end c.levels.pages.items c.in_ok-line.line.items c.requires.least c.requires.entries inv e is in
    omega (arith, l.short, ap length c.as_slice-in-levels-2.ensures.value)

pub cut_spans-requires : goal.cut_spans-requires
cut_spans-requires g c =
    let es = g.N.Entries.entries c.args.entries.now in
    let inv = c.levels.invariant in
    let end = c.len-end.result - 1 in
    let e : end + 1 ≡ length c.levels.pages.items = omega (arith, c.len-end.ensures, c.levels.pages.ok.0, inv.lens) in
    let is = subst (λ (t : List PagePlan). c.in_ok-line.line.items ≡ map (size_item c.args.usable c.args.kind false) (map (inner_item c.args.kind es) (take (end - c.levels.base) (drop c.levels.base t))))
    c.as_slice-in-levels.ensures.value c.in_ok-line.ensures in
    let l = line_takes c.args.usable c.args.kind c.args.top es c.len-leaves.result c.levels.base c.levels.index end c.levels.pages.items c.in_ok-line.line.items c.requires.least c.requires.entries inv e is in
    let lt : c.args.top < sum_by need_in c.in_ok-line.line.items = omega (arith, c.if-needs_of-from.false, c.from.ensures, c.needs_of.ensures, ap (sum_by need_in) c.as_slice-in-levels-2.ensures.value) in
    subst (AreSizes (c.args.usable - 12)) (sym c.as_slice-in-levels-3.ensures.value) (l.can_cut lt)

pub add_level-requires : goal.add_level-requires
add_level-requires g c =
    let es = g.N.Entries.entries c.args.entries.now in
    let inv = c.levels.invariant in
    let end = c.len-end.result - 1 in
    let e : end + 1 ≡ length c.levels.pages.items = omega (arith, c.len-end.ensures, c.levels.pages.ok.0, inv.lens) in
    let is = subst (λ (t : List PagePlan). c.in_ok-line.line.items ≡ map (size_item c.args.usable c.args.kind false) (map (inner_item c.args.kind es) (take (end - c.levels.base) (drop c.levels.base t))))
    c.as_slice-in-levels.ensures.value c.in_ok-line.ensures in
    let l = line_takes c.args.usable c.args.kind c.args.top es c.len-leaves.result c.levels.base c.levels.index end c.levels.pages.items c.in_ok-line.line.items c.requires.least c.requires.entries inv e is in
    let lt : c.args.top < sum_by need_in c.in_ok-line.line.items = omega (arith, c.if-needs_of-from.false, c.from.ensures, c.needs_of.ensures, ap (sum_by need_in) c.as_slice-in-levels-2.ensures.value) in
    let made : c.in_ok-spans-2.spans.items ≡ spans_of 1 0 (cuts need_in (c.args.usable - 12) [] (c.args.usable - 12) c.in_ok-line.line.items)
    = c.in_ok-spans-2.ensures ∙ ap (λ (t : List Size). spans_of 1 0 (cuts need_in (c.args.usable - 12) [] (c.args.usable - 12) t)) c.as_slice-in-levels-3.ensures.value in
    let n = next_turn c.args.usable c.args.kind c.args.top es c.len-leaves.result c.levels.base c.levels.index end c.levels.pages.items c.in_ok-line.line.items c.as_slice-in-levels-4.result.now c.requires.least c.requires.entries inv e l lt
    (c.as_slice-in-levels-4.ensures.value ∙ made) in
    record { few = n.few; small = n.small; ends = n.ends }

pub levels-smaller : goal.levels-smaller
levels-smaller g c =
    let es = g.N.Entries.entries c.args.entries.now in
    let inv = c.levels.invariant in
    let end = c.len-end.result - 1 in
    let e : end + 1 ≡ length c.levels.pages.items = omega (arith, c.len-end.ensures, c.levels.pages.ok.0, inv.lens) in
    let is = subst (λ (t : List PagePlan). c.in_ok-line.line.items ≡ map (size_item c.args.usable c.args.kind false) (map (inner_item c.args.kind es) (take (end - c.levels.base) (drop c.levels.base t))))
    c.as_slice-in-levels.ensures.value c.in_ok-line.ensures in
    let l = line_takes c.args.usable c.args.kind c.args.top es c.len-leaves.result c.levels.base c.levels.index end c.levels.pages.items c.in_ok-line.line.items c.requires.least c.requires.entries inv e is in
    let lt : c.args.top < sum_by need_in c.in_ok-line.line.items = omega (arith, c.if-needs_of-from.false, c.from.ensures, c.needs_of.ensures, ap (sum_by need_in) c.as_slice-in-levels-2.ensures.value) in
    let made : c.in_ok-spans-2.spans.items ≡ spans_of 1 0 (cuts need_in (c.args.usable - 12) [] (c.args.usable - 12) c.in_ok-line.line.items)
    = c.in_ok-spans-2.ensures ∙ ap (λ (t : List Size). spans_of 1 0 (cuts need_in (c.args.usable - 12) [] (c.args.usable - 12) t)) c.as_slice-in-levels-3.ensures.value in
    let n = next_turn c.args.usable c.args.kind c.args.top es c.len-leaves.result c.levels.base c.levels.index end c.levels.pages.items c.in_ok-line.line.items c.as_slice-in-levels-4.result.now c.requires.least c.requires.entries inv e l lt
    (c.as_slice-in-levels-4.ensures.value ∙ made) in
    n.smaller c.add_level.new.pages.items c.in_ok-index-2.ensures.pages

pub levels-preserved : goal.levels-preserved
levels-preserved g c =
    let es = g.N.Entries.entries c.args.entries.now in
    let inv = c.levels.invariant in
    let end = c.len-end.result - 1 in
    let e : end + 1 ≡ length c.levels.pages.items = omega (arith, c.len-end.ensures, c.levels.pages.ok.0, inv.lens) in
    let is = subst (λ (t : List PagePlan). c.in_ok-line.line.items ≡ map (size_item c.args.usable c.args.kind false) (map (inner_item c.args.kind es) (take (end - c.levels.base) (drop c.levels.base t))))
    c.as_slice-in-levels.ensures.value c.in_ok-line.ensures in
    let l = line_takes c.args.usable c.args.kind c.args.top es c.len-leaves.result c.levels.base c.levels.index end c.levels.pages.items c.in_ok-line.line.items c.requires.least c.requires.entries inv e is in
    let lt : c.args.top < sum_by need_in c.in_ok-line.line.items = omega (arith, c.if-needs_of-from.false, c.from.ensures, c.needs_of.ensures, ap (sum_by need_in) c.as_slice-in-levels-2.ensures.value) in
    let made : c.in_ok-spans-2.spans.items ≡ spans_of 1 0 (cuts need_in (c.args.usable - 12) [] (c.args.usable - 12) c.in_ok-line.line.items)
    = c.in_ok-spans-2.ensures ∙ ap (λ (t : List Size). spans_of 1 0 (cuts need_in (c.args.usable - 12) [] (c.args.usable - 12) t)) c.as_slice-in-levels-3.ensures.value in
    let n = next_turn c.args.usable c.args.kind c.args.top es c.len-leaves.result c.levels.base c.levels.index end c.levels.pages.items c.in_ok-line.line.items c.as_slice-in-levels-4.result.now c.requires.least c.requires.entries inv e l lt
    (c.as_slice-in-levels-4.ensures.value ∙ made) in
    n.next c.in_ok-index-2.index c.add_level.new.pages.items c.in_ok-index-2.ensures.pages c.in_ok-index-2.ensures.index

pub returns : goal.returns
returns g c =
    let es = g.N.Entries.entries c.args.entries.now in
    let inv = c.levels.invariant in
    let end = c.len-end.result - 1 in
    let e : end + 1 ≡ length c.levels.pages.items = omega (arith, c.len-end.ensures, c.levels.pages.ok.0, inv.lens) in
    let is = subst (λ (t : List PagePlan). c.in_ok-line.line.items ≡ map (size_item c.args.usable c.args.kind false) (map (inner_item c.args.kind es) (take (end - c.levels.base) (drop c.levels.base t))))
    c.as_slice-in-levels.ensures.value c.in_ok-line.ensures in
    let l = line_takes c.args.usable c.args.kind c.args.top es c.len-leaves.result c.levels.base c.levels.index end c.levels.pages.items c.in_ok-line.line.items c.requires.least c.requires.entries inv e is in
    let fits : nat_le (needs c.args.usable c.args.kind false inv.line.cells) c.args.top ≡ true
    = under (needs c.args.usable c.args.kind false inv.line.cells) c.args.top (omega (arith, l.needs_are, c.if-needs_of-from.true, c.from.ensures, c.needs_of.ensures, ap (sum_by need_in) c.as_slice-in-levels-2.ensures.value)) in
    grows_end c.args.usable c.args.kind c.args.top es c.len-leaves.result c.levels.base c.levels.index c.levels.pages.items c.requires.least c.requires.entries inv fits
