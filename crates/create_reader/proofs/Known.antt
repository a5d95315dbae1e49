-- The constraints that take a number, one after another.
use Rattle.std.proofs.Common.{◌≡◌, refl, sym, ap, ◌∙◌, arith, ℕ, suc, ◌+◌, ◌<◌, Bool, true, false, ◌||◌, if◌then◌else◌, Option, Some, None, List, [], ◌∷◌, ◌++◌, append_assoc, length, length-append, drop, slice_get, get_or, add-one, drop-cons}
use Rattle.std.proofs.lemmas.Bool.{lt-ltb}
use Rattle.std.proofs.lemmas.List.Folds.{list_any-append}
use Rattle.std.specs.List.{list_any}
use Rattle.create_reader.specs.declared.texts.ColumnText.{ColumnText}
use Rattle.create_reader.specs.declared.texts.ConstraintText.{ConstraintText}
use Rattle.create_reader.specs.Constraints.{Constraint, Table}
use Rattle.create_reader.specs.Numbers.{numbered, same_names, takes, up_to_16}
use Rattle.create_reader.specs.Views.{IsKnown, constraint_seen, constraints_seen, name_at}

-- the constraint at a place, and those behind it
pub constraint_here : (columns : List ColumnText) (cs : List ConstraintText) (i : ℕ) (c : ConstraintText) → i < length cs → c ≡ get_or cs i c
    → constraints_seen columns (drop i cs) ≡ constraint_seen columns c ∷ constraints_seen columns (drop (i + 1) cs)
constraint_here columns cs i c h is =
    rw (add-one, drop-cons cs i c) (ap (λ z. constraint_seen columns z ∷ constraints_seen columns (drop (suc i) cs)) (sym is))

-- what was known stays so
pub still_known : (columns : List ColumnText) (found grown more : List Constraint) (known : Option ℕ) → grown ≡ found ++ more
    → IsKnown columns found known → IsKnown columns grown known
still_known columns found grown more None e h = tt
still_known columns found grown more (Some k) e h =
    ap (list_any (λ c. same_names c.names (name_at (slice_get columns k)))) e
    ∙ (list_any-append (λ c. same_names c.names (name_at (slice_get columns k))) found more
    ∙ ap (λ b. b || list_any (λ c. same_names c.names (name_at (slice_get columns k))) more) h)

-- one that takes no number
pub taken_out : (t : Table) (found whole left rest : List Constraint) (c : Constraint) (b : Bool) → b ≡ takes t found c → b ≡ false
    → left ≡ c ∷ rest → found ++ numbered t found left ≡ whole → found ++ numbered t found rest ≡ whole
taken_out t found whole left rest c b e f l h =
    let step : numbered t found (c ∷ rest) ≡ numbered t found rest = rw (sym e ∙ f) refl in
    ap (λ z. found ++ z) (sym step ∙ ap (numbered t found) (sym l)) ∙ h

-- one that takes one
pub taken_in : (t : Table) (found grown whole left rest : List Constraint) (c : Constraint) (b : Bool) → b ≡ takes t found c → b ≡ true
    → left ≡ c ∷ rest → grown ≡ found ++ c ∷ [] → found ++ numbered t found left ≡ whole → grown ++ numbered t grown rest ≡ whole
taken_in t found grown whole left rest c b e f l g h =
    let step : numbered t found (c ∷ rest) ≡ c ∷ numbered t (found ++ c ∷ []) rest = rw (sym e ∙ f) refl in
    ap (λ z. z ++ numbered t z rest) g
    ∙ (append_assoc found (c ∷ []) (numbered t (found ++ c ∷ []) rest)
    ∙ (ap (λ z. found ++ z) (sym step ∙ ap (numbered t found) (sym l)) ∙ h))

-- the seventeenth
pub over_16 : (t : Table) (found whole left rest : List Constraint) (c : Constraint) (b : Bool) → b ≡ takes t found c → b ≡ true
    → left ≡ c ∷ rest → length found ≡ 16 → found ++ numbered t found left ≡ whole → None ≡ up_to_16 whole
over_16 t found whole left rest c b e f l n h =
    let step : numbered t found (c ∷ rest) ≡ c ∷ numbered t (found ++ c ∷ []) rest = rw (sym e ∙ f) refl in
    let all : length whole ≡ length (found ++ c ∷ numbered t (found ++ c ∷ []) rest) =
    ap length (sym h ∙ ap (λ z. found ++ z) (ap (numbered t found) l ∙ step)) in
    let sum = length-append found (c ∷ numbered t (found ++ c ∷ []) rest) in
    sym (ap (λ z. if z then None else Some whole) (lt-ltb 16 (length whole) (omega (arith, all, sum, n))))

pub one_longer : {T : Type 0} (found grown : List T) (x : T) → grown ≡ found ++ x ∷ [] → length grown ≡ length found + 1
one_longer found grown x e = ap length e ∙ length-append found (x ∷ [])
