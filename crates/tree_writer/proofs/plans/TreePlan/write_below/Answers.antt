use Rattle.std.proofs.Common.{◌≡◌, ◌<◌, ◌≤◌, ◌+◌, ◌-◌, ℕ, refl, ap, sym, ◌∙◌, arith, length}
use Rattle.std.proofs.lemmas.List.{get_or_default}
use Rattle.tree_writer.specs.Numbers.{number_of}
use Rattle.tree_writer.specs.Planned.{no_page, plan_at}
use Rattle.tree_writer.proofs.Writing.{BelowAsks, IsPlace, below_asks, below_else, below_then, is_place, some_first}
use Rattle.tree_writer.proofs.plans.TreePlan.write_below.Goals as goal

pub write-requires-clause-numbers : goal.write-requires-clause-numbers
write-requires-clause-numbers g c =
    let self = c.args.self.now in
    let es = g.N.Entries.entries c.args.entries.now in
    let plans = self.pages.items in
    let j = c.find-j.result in
    let place = is_place self.usable self.kind es self.leaves plans c.args.k j c.requires.plan c.find-j.ensures.there c.find-j.ensures.low c.find-j.ensures.high c.requires.there in
    let q : c.index-page.result.now ≡ plan_at plans j = c.index-page.ensures ∙ get_or_default plans j c.index-page.result.now no_page c.find-j.ensures.there in
    let asks = below_asks self.usable self.kind es self.leaves plans c.args.k j c.args.numbers.now.start c.as_slice.result.now c.index-page.result.now c.as_slice.ensures.value q
    c.requires.plan place c.find-j.ensures.there c.requires.some c.requires.numbers in
    asks.numbers

pub write_over-requires-clause-high : goal.write_over-requires-clause-high
write_over-requires-clause-high g c =
    let self = c.args.self.now in
    let es = g.N.Entries.entries c.args.entries.now in
    let plans = self.pages.items in
    let j = c.find-j.result in
    let place = is_place self.usable self.kind es self.leaves plans c.args.k j c.requires.plan c.find-j.ensures.there c.find-j.ensures.low c.find-j.ensures.high c.requires.there in
    let q : c.index-page.result.now ≡ plan_at plans j = c.index-page.ensures ∙ get_or_default plans j c.index-page.result.now no_page c.find-j.ensures.there in
    let asks = below_asks self.usable self.kind es self.leaves plans c.args.k j c.args.numbers.now.start c.as_slice.result.now c.index-page.result.now c.as_slice.ensures.value q
    c.requires.plan place c.find-j.ensures.there c.requires.some c.requires.numbers in
    omega (arith, asks.high)

pub write_over-requires-clause-numbers : goal.write_over-requires-clause-numbers
write_over-requires-clause-numbers g c =
    let self = c.args.self.now in
    let es = g.N.Entries.entries c.args.entries.now in
    let plans = self.pages.items in
    let j = c.find-j.result in
    let place = is_place self.usable self.kind es self.leaves plans c.args.k j c.requires.plan c.find-j.ensures.there c.find-j.ensures.low c.find-j.ensures.high c.requires.there in
    let q : c.index-page.result.now ≡ plan_at plans j = c.index-page.ensures ∙ get_or_default plans j c.index-page.result.now no_page c.find-j.ensures.there in
    let asks = below_asks self.usable self.kind es self.leaves plans c.args.k j c.args.numbers.now.start c.as_slice.result.now c.index-page.result.now c.as_slice.ensures.value q
    c.requires.plan place c.find-j.ensures.there c.requires.some c.requires.numbers in
    omega (arith, asks.end)

pub returns-then-k-page-clause-bytes : goal.returns-then-k-page-clause-bytes
returns-then-k-page-clause-bytes g c =
    let self = c.args.self.now in
    let es = g.N.Entries.entries c.args.entries.now in
    let plans = self.pages.items in
    let j = c.find-j.result in
    let place = is_place self.usable self.kind es self.leaves plans c.args.k j c.requires.plan c.find-j.ensures.there c.find-j.ensures.low c.find-j.ensures.high c.requires.there in
    let q : c.index-page.result.now ≡ plan_at plans j = c.index-page.ensures ∙ get_or_default plans j c.index-page.result.now no_page c.find-j.ensures.there in
    let asks = below_asks self.usable self.kind es self.leaves plans c.args.k j c.args.numbers.now.start c.as_slice.result.now c.index-page.result.now c.as_slice.ensures.value q
    c.requires.plan place c.find-j.ensures.there c.requires.some c.requires.numbers in
    below_then self.usable self.kind (number_of c.args.numbers.now.start c.args.numbers.now.lock) es self.leaves plans c.args.k j c.as_slice.result.now c.index-page.result.now c.write.new.to
    c.as_slice.ensures.value q place c.if-k-page.true c.write.ensures.bytes

pub returns-else-k-page-clause-bytes : goal.returns-else-k-page-clause-bytes
returns-else-k-page-clause-bytes g c =
    let self = c.args.self.now in
    let es = g.N.Entries.entries c.args.entries.now in
    let plans = self.pages.items in
    let j = c.find-j.result in
    let place = is_place self.usable self.kind es self.leaves plans c.args.k j c.requires.plan c.find-j.ensures.there c.find-j.ensures.low c.find-j.ensures.high c.requires.there in
    let q : c.index-page.result.now ≡ plan_at plans j = c.index-page.ensures ∙ get_or_default plans j c.index-page.result.now no_page c.find-j.ensures.there in
    let asks = below_asks self.usable self.kind es self.leaves plans c.args.k j c.args.numbers.now.start c.as_slice.result.now c.index-page.result.now c.as_slice.ensures.value q
    c.requires.plan place c.find-j.ensures.there c.requires.some c.requires.numbers in
    below_else self.usable self.kind (number_of c.args.numbers.now.start c.args.numbers.now.lock) es self.leaves plans c.args.k j c.as_slice.result.now c.index-page.result.now c.write_over.new.to
    c.as_slice.ensures.value q place (omega (arith, asks.low, c.if-k-page.false)) c.write_over.ensures.bytes
