use Rattle.std.proofs.Common.{◌∙◌, sym, ap}
use Rattle.page_access.proofs.FewPages.{length-sparse_bytes}
use Rattle.page_access.proofs.sparse.SparseSourceSource.length.Goals as goal

pub returns-clause-value : goal.returns-clause-value
returns-clause-value c = ap (λ s. s.len) c.self.view_is ∙ sym (length-sparse_bytes _ _ _)
