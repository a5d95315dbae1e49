-- Pages of a file, each once, and the bytes that pages of overflow chains have.
use Rattle.std.proofs.Common.{◌≡◌, ◌≤◌, ℕ, ◌+◌, ◌-◌, ◌*◌, List, [], ◌∷◌, ◌++◌, length, drop, sym, ◌∙◌, ap, arith, length-append, length-take}
use Rattle.std.specs.Prelude.{if◌then◌else◌}
use Rattle.std.specs.List.{range_with_len}
use Rattle.std.proofs.lemmas.List.FromFn.{length-range_with_len}
use Rattle.page_access.specs.Pages.{File, page_at}
use Rattle.page_lists.specs.Lists.{count}
use Rattle.page_lists.specs.Table.{is_page}
use Rattle.page_lists.proofs.Counts.{count-append, length-minus}
use Rattle.page_lists.proofs.Moves.{IsPartition-fresh, fresh_pages}
use Rattle.overflow_chain.specs.Chain.{content_of, contents}

pub pages_more : (n m u : ℕ) → (n + m) * u ≡ n * u + m * u
pages_more n m u = grind arith

pub contents_len : (f : File) (ps : List ℕ) → length (contents f ps) ≤ length ps * f.usable
contents_len f [] = omega arith
contents_len f (p ∷ ps) =
    omega (
      arith,
      length-append (content_of f p) (contents f ps),
      length-take (f.usable - 4) (drop 4 (page_at f p)),
      contents_len f ps,
      pages_more 1 (length ps) f.usable,
    )

-- pages of the file, each once, are no more than its pages
pub few_pages : (n : ℕ) (ps qs : List ℕ) → ((q : ℕ) → count q ps + count q qs ≤ (if is_page n q then 1 else 0)) → length ps + length qs ≤ n
few_pages n ps qs once =
    omega (
      arith,
      length-append ps qs,
      length-minus (range_with_len 1 n) (ps ++ qs) (λ q. omega (arith, once q, count-append q ps qs, ap (count q) (sym (fresh_pages n 0)) ∙ IsPartition-fresh n 0 q)),
      length-range_with_len 1 n,
    )
