use Rattle.std.proofs.Common.{◌≡◌, List, ℕ, refl, sym, ◌∙◌, ap, subst}
use Rattle.std.specs.Prelude.{IfSome}
use Rattle.page_access.specs.Cache.{Cache, HasAll, HoldsPages}
use Rattle.page_access.proofs.Caching.{has_all_used, hit_told, miss_told, page_found}
use Rattle.page_access.proofs.caches.PageCache.page.Goals as goal

pub returns-then-take-clause-page : goal.returns-then-take-clause-page
returns-then-take-clause-page g c =
    (hit_told (g.S.Source.bytes c.args.src.now) c.args.page c.take.new.to c.args.self.now c.take.new.self c.requires.told (c.take.ensures.hit c.if-take.true)
    (c.take.ensures.used c.if-take.true)).0

pub returns-then-take-clause-holds : goal.returns-then-take-clause-holds
returns-then-take-clause-holds g c =
    (hit_told (g.S.Source.bytes c.args.src.now) c.args.page c.take.new.to c.args.self.now c.take.new.self c.requires.told (c.take.ensures.hit c.if-take.true)
    (c.take.ensures.used c.if-take.true)).1

pub returns-then-take-clause-full : goal.returns-then-take-clause-full
returns-then-take-clause-full g c = λ all.
    (subst HasAll (sym (c.take.ensures.used c.if-take.true)) (has_all_used c.args.page c.take.new.to c.args.self.now all), refl)

pub returns-clause-holds : goal.returns-clause-holds
returns-clause-holds g c =
    let same = c.take.ensures.miss c.if-take.false in
    miss_told c.fetch.result (g.S.Source.bytes c.args.src.now) c.args.page c.fetch.new.to c.take.new.self c.fetch.new.self
    (subst (λ (x : Cache). IfSome (g.S.Source.bytes c.args.src.now) (λ all. HoldsPages all x)) (sym same) c.requires.told)
    c.fetch.ensures.page c.fetch.ensures.added c.fetch.ensures.err
