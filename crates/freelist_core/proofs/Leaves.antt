-- The leaves of a trunk, one after another.
use Rattle.std.proofs.Common.{◌≡◌, ◌∙◌, ℕ, ◌+◌, ◌*◌, List, ◌++◌, length, sym, ap, arith}
use Rattle.std.proofs.lemmas.List.FromFn.{map-range_with_len_more}
use Rattle.cell_reader.specs.Shape.{u32_at}
use Rattle.page_lists.specs.Lists.{firsts, minus}
use Rattle.page_lists.specs.Table.{Table, all_moved, unused}
use Rattle.page_lists.proofs.Counts.{firsts-append}
use Rattle.page_lists.proofs.Uses.{all_moved-append, length-all_moved, unused-all_moved}
use Rattle.freelist_core.specs.Trunk.{leaves_from}
use Rattle.freelist_core.specs.declared.TheConstants.{FREE_LIST}

more_leaves : (page : List ℕ) (k : ℕ) → leaves_from page 0 (k + 1) ≡ leaves_from page 0 k ++ leaves_from page k 1
more_leaves page k = map-range_with_len_more (λ i. u32_at page (8 + 4 * i)) 0 k k (omega arith)

-- one more leaf has had its turn
pub leaf_moved : (page : List ℕ) (k : ℕ) (old new new' : Table) → new ≡ all_moved (firsts (unused old) (leaves_from page 0 k)) FREE_LIST old
    → new' ≡ all_moved (firsts (unused new) (leaves_from page k 1)) FREE_LIST new
    → new' ≡ all_moved (firsts (unused old) (leaves_from page 0 (k + 1))) FREE_LIST old
leaf_moved page k old new new' before now =
    let done : List ℕ = firsts (unused old) (leaves_from page 0 k) in
    let one : List ℕ = leaves_from page k 1 in
    let left : unused new ≡ minus (unused old) done = ap unused before ∙ unused-all_moved done FREE_LIST old (omega arith) in
    now ∙ ap (λ (u : List ℕ). all_moved (firsts u one) FREE_LIST new) left
    ∙ ap (all_moved (firsts (minus (unused old) done) one) FREE_LIST) before
    ∙ sym (all_moved-append done (firsts (minus (unused old) done) one) FREE_LIST old)
    ∙ ap (λ (ps : List ℕ). all_moved ps FREE_LIST old) (sym (firsts-append (unused old) (leaves_from page 0 k) one))
    ∙ ap (λ (ls : List ℕ). all_moved (firsts (unused old) ls) FREE_LIST old) (sym (more_leaves page k))

-- as many lists as before
pub lists_kept : (ps : List ℕ) (t new : Table) → new ≡ all_moved ps FREE_LIST t → length new.lists ≡ length t.lists
lists_kept ps t new is = ap (λ (x : Table). length x.lists) is ∙ length-all_moved ps FREE_LIST t
