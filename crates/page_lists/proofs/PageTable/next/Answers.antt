use Rattle.std.proofs.Common.{◌≡◌, ◌≤◌, ◌∙◌, ap, sym, subst}
use Rattle.page_lists.specs.declared.rings.Link.{Link}
use Rattle.page_lists.specs.Lists.{after}
use Rattle.page_lists.specs.Rings.{link_at, some_page}
use Rattle.page_lists.specs.Stored.{table_of}
use Rattle.page_lists.specs.Table.{Table, list_at, owner}
use Rattle.page_lists.proofs.Spelled.{link_after}
use Rattle.page_lists.proofs.PageTable.next.Goals as goal

pub returns : goal.returns
returns c =
    let high : c.args.page ≤ c.self.inside.pages = subst (λ (t : Table). c.args.page ≤ t.pages) (sym c.self.view_is) c.requires.high in
    c.page_or_none.ensures ∙ ap (λ (x : Link). some_page x.after) c.link.ensures
    ∙ subst (λ (t : Table). some_page (link_at c.self.inside.rings c.args.page).after ≡ after c.args.page (list_at (owner c.args.page t.lists) t.lists))
    c.self.view_is (link_after c.self.inside.rings (table_of c.self.inside) c.args.page c.self.invariant c.requires.low high)
