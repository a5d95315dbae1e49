use Rattle.std.proofs.Common.{◌∙◌, ap, subst}
use Rattle.std.specs.Prelude.{◌≡◌, slice_get}
use Rattle.page_lists.specs.declared.rings.Ends.{Ends}
use Rattle.page_lists.specs.Rings.{ends_at, some_page}
use Rattle.page_lists.specs.Stored.{table_of}
use Rattle.page_lists.specs.Table.{Table, list_at}
use Rattle.page_lists.proofs.Spelled.{first_is}
use Rattle.page_lists.proofs.PageTable.first.Goals as goal

pub returns : goal.returns
returns c =
    c.page_or_none.ensures ∙ ap (λ (e : Ends). some_page e.first) c.ends.ensures
    ∙ subst (λ (t : Table). some_page (ends_at c.self.inside.rings c.args.list).first ≡ slice_get (list_at c.args.list t.lists) 0)
    c.self.view_is (first_is c.self.inside.rings (table_of c.self.inside) c.args.list c.self.invariant)
