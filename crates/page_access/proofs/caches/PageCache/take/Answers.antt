use Rattle.std.proofs.Common.{◌≡◌, true, false, length, Some, sym, ◌∙◌, ap, subst}
use Rattle.std.specs.Prelude.{is_some}
use Rattle.page_access.specs.Cache.{Cache, found, used}
use Rattle.page_access.proofs.Caching.{hit_found, hit_used, miss_same, pairs_whole, sound_promoted}
use Rattle.page_access.proofs.Pairs.{shown_found}
use Rattle.page_access.proofs.caches.PageCache.take.Goals as goal

pub copy-hit-requires : goal.copy-hit-requires
copy-hit-requires c =
    pairs_whole c.self.inside (length c.args.to.now) c.self.invariant
    (c.requires.size ∙ ap (λ (x : Cache). x.size) (sym c.self.view_is))

pub invariant_of-self : goal.invariant_of-self
invariant_of-self c =
    sound_promoted c.self.inside c.args.page c.copy-hit.new.pairs c.self.invariant c.copy-hit.ensures.entries c.len-len.ensures.valid

pub returns-clause-found : goal.returns-clause-found
returns-clause-found c =
    c.copy-hit.ensures.found ∙ sym (shown_found c.args.page c.self.inside.pairs.entries)
    ∙ ap (λ (x : Cache). is_some (found c.args.page x)) c.self.view_is

pub returns-clause-hit : goal.returns-clause-hit
returns-clause-hit c = λ there.
    subst (λ (x : Cache). found c.args.page x ≡ Some c.copy-hit.new.to) c.self.view_is
    (hit_found c.self.inside c.args.page c.copy-hit.new.to c.copy-hit.result c.copy-hit.ensures.found c.copy-hit.ensures.bytes there)

pub returns-clause-used : goal.returns-clause-used
returns-clause-used c = λ there.
    hit_used c.self.inside c.args.page c.copy-hit.new.to c.copy-hit.result c.copy-hit.new.pairs c.copy-hit.ensures.found c.copy-hit.ensures.bytes
    c.copy-hit.ensures.entries there
    ∙ ap (used c.args.page c.copy-hit.new.to) c.self.view_is

pub returns-clause-miss : goal.returns-clause-miss
returns-clause-miss c = λ missed.
    miss_same c.self.inside c.args.page c.copy-hit.result c.copy-hit.new.pairs c.copy-hit.ensures.found c.copy-hit.ensures.entries missed
    ∙ c.self.view_is
