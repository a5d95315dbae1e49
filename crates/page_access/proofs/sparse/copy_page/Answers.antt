use Rattle.std.proofs.Common.{◌≡◌, length, subst, sym, rules, arith}
use Rattle.page_access.proofs.sparse.copy_page.Goals as goal

pub slice_bounds-copy_from_slice-end : goal.slice_bounds-copy_from_slice-end
slice_bounds-copy_from_slice-end c =
    let whole : length c.page-item.result.1.items ≡ c.args.page_size
    = subst (λ p. length p.1.items ≡ c.args.page_size) (sym c.page-item.is) (c.requires.sizes c.loop-page.page-index c.page-item.result (omega arith)) in
    search (rules, whole)
