use Rattle.std.proofs.Common.{◌≡◌, ◌≤◌, None, length, sym, ◌∙◌, ap, subst}
use Rattle.page_access.specs.Cache.{Cache, added, found}
use Rattle.page_access.proofs.Caching.{added_is, not_found, sound_added}
use Rattle.page_access.proofs.caches.PageCache.fetch.Goals as goal

pub store-requires : goal.store-requires
store-requires g c =
    not_found c.self.inside c.args.page (subst (λ (x : Cache). found c.args.page x ≡ None) (sym c.self.view_is) c.requires.absent)

pub invariant_of-self-2 : goal.invariant_of-self-2
invariant_of-self-2 g c =
    sound_added c.self.inside c.args.page c.in_ok-bytes.bytes c.store.new.pairs c.self.invariant c.in_ok-store.ensures.entries
    c.len-len.ensures.valid c.requires.least (subst (λ (x : Cache). c.args.page ≤ x.pages) (sym c.self.view_is) c.requires.most)
    (ap length c.in_ok-bytes.ensures.items ∙ c.load.auto.to ∙ c.requires.size ∙ ap (λ (x : Cache). x.size) (sym c.self.view_is))

pub returns-clause-added : goal.returns-clause-added
returns-clause-added g c =
    added_is c.self.inside c.args.page c.load.new.to c.in_ok-bytes.bytes c.store.new.pairs c.in_ok-store.ensures.entries c.in_ok-bytes.ensures.items
    ∙ ap (added c.args.page c.load.new.to) c.self.view_is
