-- The pages that the cells of a page took, in the table.
use Rattle.std.proofs.Common.{◌≡◌, ◌∙◌, ℕ, List, ◌++◌, map, Option, Some, None, Result, Ok, Err, OnOk, sym, ap}
use Rattle.std.specs.Prelude.{IfSome}
use Rattle.std.proofs.lemmas.List.{append_cancel_left, map-append}
use Rattle.page_access.specs.Pages.{File}
use Rattle.page_lists.specs.Table.{Table, all_moved, unused}
use Rattle.overflow_chain.specs.declared.TheConstants.{OVERFLOW_LIST}
use Rattle.page_walk.specs.Bounds.{Uses}
use Rattle.page_walk.specs.Cells.{chains_of, outcome_of, outcomes_on}
use Rattle.page_walk.specs.Turns.{after_turns}
use Rattle.page_walk.specs.declared.outcomes.CellOutcome.{CellOutcome}

-- the table is the one after the turns of these cells
table_is : (f : File) (p : ℕ) (old new : Table) (before after : List CellOutcome) → Uses old new before after →
    map outcome_of after ≡ map outcome_of before ++ outcomes_on f p (unused old) → new ≡ after_turns f p old
table_is f p old new before after u value =
    let more : map outcome_of u.more ≡ outcomes_on f p (unused old) =
    append_cancel_left (map outcome_of before) (map outcome_of u.more) (outcomes_on f p (unused old))
    (sym (map-append outcome_of before u.more) ∙ sym (ap (map outcome_of) u.all) ∙ value) in
    u.table ∙ ap (λ os. all_moved (chains_of os) OVERFLOW_LIST old) more

-- the same at a success, where the bytes are told
pub table_told : {T E : Type 0} (r : Result T E) (told : Option (List ℕ)) (f : List ℕ → File) (p : ℕ) (old new : Table) (before after : List CellOutcome) →
    OnOk r (Uses old new before after) → OnOk r (IfSome told (λ all. map outcome_of after ≡ map outcome_of before ++ outcomes_on (f all) p (unused old)))
    → OnOk r (IfSome told (λ all. new ≡ after_turns (f all) p old))
table_told (Err e) told f p old new before after u value = tt
table_told (Ok x) None f p old new before after u value = tt
table_told (Ok x) (Some all) f p old new before after u value = table_is (f all) p old new before after u value
