use Rattle.page_walk.proofs.Tails.{reading_start, reading_more, reading_end, reading_less, reading_stands}
use Rattle.page_walk.proofs.walks.pages_from.Goals as goal

pub loop-here-init : goal.loop-here-init
loop-here-init c =
    reading_start c.args.table.now c.args.first c.new-pages.result.items c.pages-pages.ensures.partition c.requires.low c.requires.high
    c.new-pages.ensures.items

pub next-here-requires-clause-low : goal.next-here-requires-clause-low
next-here-requires-clause-low c =
    (reading_stands _ _ c.in-Some.page _ _ c.pages-pages.ensures.partition c.loop-here.invariant c.in-Some.is).least

pub next-here-requires-clause-high : goal.next-here-requires-clause-high
next-here-requires-clause-high c =
    (reading_stands _ _ c.in-Some.page _ _ c.pages-pages.ensures.partition c.loop-here.invariant c.in-Some.is).most

pub loop-here-preserved : goal.loop-here-preserved
loop-here-preserved c =
    reading_more _ _ c.in-Some.page _ c.push.new.self.items _ c.next-here.result c.pages-pages.ensures.partition c.loop-here.invariant c.in-Some.is
    c.in_ok-push.ensures.items c.next-here.ensures

pub loop-here-smaller : goal.loop-here-smaller
loop-here-smaller c =
    reading_less _ _ c.in-Some.page _ c.push.new.self.items _ c.loop-here.invariant c.in-Some.is c.in_ok-push.ensures.items

pub returns : goal.returns
returns c = reading_end _ _ _ _ c.loop-here.invariant c.in_default.is
