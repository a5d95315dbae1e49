-- An entry whose payload is all local.
use Rattle.std.proofs.Common.{◌≡◌, ◌≤◌, ℕ, ◌*◌, Option, None, List, [], ◌++◌, length, sym, ◌∙◌, ap, subst, arith, append-nil}
use Rattle.std.specs.Prelude.{ℤ}
use Rattle.std.specs.List.{slice_range}
use Rattle.page_access.specs.Pages.{File}
use Rattle.record_core.specs.Record.{record_of}
use Rattle.cell_reader.specs.declared.cells.CellView.{CellView}
use Rattle.cell_reader.specs.Inside.{HasOverflow}
use Rattle.page_walk.specs.Bounds.{ArePages, IsSmall}
use Rattle.page_walk.specs.Cells.{Outcome, bytes_from, end_from, ended_as, entry_at, missing, read_as, turn_from}
use Rattle.page_walk.proofs.Small.{read_small}

-- it is judged by its local bytes
pub local_value : (f : File) (page : List ℕ) (p i : ℕ) (v : CellView) (unused chain bytes : List ℕ) (o : Outcome)
    → o ≡ read_as p i v.rowid chain (record_of bytes) → chain ≡ [] → bytes ≡ slice_range page v.local_start v.local_end
    → v.overflow ≡ None → o ≡ entry_at f page p i v unused
unfolding entry_at
local_value f page p i v unused chain bytes o is empty seen none =
    let local : List ℕ = slice_range page v.local_start v.local_end in
    is
    ∙ ap (λ (cs : List ℕ). read_as p i v.rowid cs (record_of bytes)) empty
    ∙ ap (λ (bs : List ℕ). read_as p i v.rowid [] (record_of bs)) (seen ∙ sym (append-nil local))
    ∙ ap (λ (q : Option ℕ). ended_as p i v.rowid (turn_from f (missing v) q unused)
    (local ++ bytes_from f (missing v) q unused) (end_from f (missing v) q unused)) (sym none)

-- it gives no more than its payload has
pub local_small : (usable pages page i kept total : ℕ) (rowid : Option ℤ) (overflow : Option ℕ) (chain bytes : List ℕ) (o : Outcome)
    → o ≡ read_as page i rowid chain (record_of bytes) → chain ≡ [] → length bytes ≡ kept → HasOverflow overflow kept total
    → overflow ≡ None → total ≤ pages * usable → IsSmall usable pages page o
local_small usable pages page i kept total rowid overflow chain bytes o is empty len has none most =
    let all : kept ≡ total = subst (λ (q : Option ℕ). HasOverflow q kept total) none has in
    subst (λ (x : Outcome). IsSmall usable pages page x) (sym is)
    (read_small usable pages page i rowid chain bytes (subst (λ (ps : List ℕ). ArePages pages ps) (sym empty) tt)
    (omega (arith, len, all, most)))
