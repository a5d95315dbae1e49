use Rattle.std.proofs.Common.{◌≡◌, ◌==◌, drop}
use Rattle.std.specs.Prelude.{find}
use Rattle.page_access.proofs.sparse.copy_page.Given as goal

abbrev pub invariant-loop-page : goal.invariant-loop-page
invariant-loop-page l = find (λ page. page.0 == l.number) (drop l.page-index l.pages) ≡ find (λ page. page.0 == l.number) l.pages
