use Rattle.std.proofs.Common.{◌≡◌, ◌<◌, ◌∙◌, length, drop, length-append, length-drop, length-take, arith}
use Rattle.std.proofs.Math.ListN.{get_or-append}
use Rattle.page_access.proofs.FewPages.{sparse_read}
use Rattle.page_access.proofs.sparse.read_sparse.Goals as goal

pub returns-then-at-len : goal.returns-then-at-len
returns-then-at-len c = sparse_read _ _ _ _ _ _ (omega arith) (λ k below. absurd (omega arith))

pub returns : goal.returns
returns c =
    let count = c.min-count.result in
    let fits : length c.copy_sparse.new.to ≡ count = omega (arith, c.copy_sparse.auto.to, length-take count c.args.to.now) in
    let rest = drop count c.args.to.now in
    sparse_read _ _ _ _ _ _
    (omega (arith, fits, c.min-count.ensures, length-append c.copy_sparse.new.to rest, length-drop count c.args.to.now))
    (λ k below.
    let within : k < length c.copy_sparse.new.to = omega (arith, fits) in
    get_or-append c.copy_sparse.new.to rest 0 k within ∙ c.copy_sparse.ensures k within)
