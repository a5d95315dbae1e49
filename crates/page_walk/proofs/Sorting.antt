-- The outcomes that a loop has sorted, and those to come.
use Rattle.std.proofs.Common.{◌≡◌, ◌≤◌, ℕ, ◌+◌, Option, Some, None, List, [], ◌∷◌, ◌++◌, length, map, refl, sym, ◌∙◌, ap, subst, arith, append_assoc, append-nil, length-append}
use Rattle.std.specs.Prelude.{unwrap_or, slice_get, IfSome}
use Rattle.std.specs.List.{AllByRecursion}
use Rattle.std.proofs.lemmas.List.{map-append}
use Rattle.page_walk.specs.declared.causes.CellCause.{CellCause}
use Rattle.page_walk.specs.declared.outcomes.TakenCell.{TakenCell}
use Rattle.page_walk.specs.declared.outcomes.CellOutcome.{CellOutcome}
use Rattle.page_walk.specs.declared.outcomes.CellOutcome.TheVariants as outcomes
use Rattle.page_walk.specs.declared.rows.PageNotes.{PageNotes}
use Rattle.page_walk.specs.Bounds.{Adds, AddsRows, IsSmall, IsSmallRow}
use Rattle.page_walk.specs.Cells.{Row, Outcome, outcome_of, row_of}
use Rattle.page_walk.specs.Rows.{GainsFront, causes_of, notes_of, notes_with, rows_of, taken_in}

-- the first of the noted cells and those to come
abbrev pub first_of : Option (ℕ × CellCause) → List (ℕ × CellCause) → Option (ℕ × CellCause)
first_of None cs = slice_get cs 0
first_of (Some c) cs = Some c

pub record Sorting (all : List CellOutcome) (before now : List TakenCell) (notes : PageNotes) (left : List CellOutcome) (len : ℕ) : Type 0 where
  pub done : List TakenCell
  pub is : now ≡ before ++ done
  pub parts : done ++ taken_in left ≡ taken_in all
  pub many : notes.unread + length (causes_of (map outcome_of left)) ≡ length (causes_of (map outcome_of all))
  pub first : first_of notes.first (causes_of (map outcome_of left)) ≡ slice_get (causes_of (map outcome_of all)) 0
  pub small : notes.unread + length left ≤ 32768
  pub same : length left ≡ len

pub sorting_start : (all : List CellOutcome) (before : List TakenCell) (notes : PageNotes) (left : List CellOutcome) (len : ℕ)
    → left ≡ all → length left ≡ len → length all ≤ 32768 → notes ≡ record { unread = 0; first = None }
    → Sorting all before before notes left len
sorting_start all before notes left len e same few none =
    subst (λ (n : PageNotes). Sorting all before before n left len) (sym none) (record {
      done = [];
      is = sym (append-nil before);
      parts = ap taken_in e;
      many = omega (arith, ap (λ (os : List CellOutcome). length (causes_of (map outcome_of os))) e);
      first = ap (λ (os : List CellOutcome). slice_get (causes_of (map outcome_of os)) 0) e;
      small = omega (arith, ap length e, few);
      same = same;
    })

first_stays : (o : Option (ℕ × CellCause)) (c : ℕ × CellCause) (cs : List (ℕ × CellCause)) → Some (unwrap_or o c) ≡ first_of o (c ∷ cs)
first_stays None c cs = refl
first_stays (Some d) c cs = refl

-- one more outcome is sorted
one_sorted : (all : List CellOutcome) (before now : List TakenCell) (notes : PageNotes) (x : CellOutcome) (rest : List CellOutcome)
    (len less : ℕ) → Sorting all before now notes (x ∷ rest) len → less + 1 ≡ len
    → Sorting all before (now ++ taken_in (x ∷ [])) (notes_with notes (outcome_of x)) rest less
one_sorted all before now notes (outcomes.Taken t) rest len less was l = record {
  done = was.done ++ t ∷ [];
  is = ap (λ (xs : List TakenCell). xs ++ t ∷ []) was.is ∙ append_assoc before was.done (t ∷ []);
  parts = append_assoc was.done (t ∷ []) (taken_in rest) ∙ was.parts;
  many = was.many;
  first = was.first;
  small = omega (arith, was.small);
  same = omega (arith, was.same, l);
}
one_sorted all before now notes (outcomes.Unread cell rowid cause chain) rest len less was l = record {
  done = was.done;
  is = append-nil now ∙ was.is;
  parts = was.parts;
  many = omega (arith, was.many);
  first = first_stays notes.first (cell, cause) (causes_of (map outcome_of rest)) ∙ was.first;
  small = omega (arith, was.small);
  same = omega (arith, was.same, l);
}

pub sorting_more : (all : List CellOutcome) (before now next : List TakenCell) (notes after : PageNotes) (x : CellOutcome)
    (left rest : List CellOutcome) (len less : ℕ) → Sorting all before now notes left len → left ≡ x ∷ rest → less + 1 ≡ len
    → next ≡ now ++ taken_in (x ∷ []) → after ≡ notes_with notes (outcome_of x)
    → Sorting all before next after rest less
sorting_more all before now next notes after x left rest len less was e l pushed noted =
    let at : Sorting all before now notes (x ∷ rest) len =
    subst (λ (os : List CellOutcome). Sorting all before now notes os len) e was in
    subst (λ (xs : List TakenCell). Sorting all before xs after rest less) (sym pushed)
    (subst (λ (n : PageNotes). Sorting all before (now ++ taken_in (x ∷ [])) n rest less) (sym noted)
    (one_sorted all before now notes x rest len less at l))

first_alone : (o : Option (ℕ × CellCause)) → o ≡ first_of o []
first_alone None = refl
first_alone (Some c) = refl

pub sorting_done : (all : List CellOutcome) (before now : List TakenCell) (notes : PageNotes) (left : List CellOutcome) (len : ℕ)
    → Sorting all before now notes left len → len ≡ 0 → (now ≡ before ++ taken_in all) × (notes ≡ notes_of (map outcome_of all))
sorting_done all before now notes [] len was none =
    let make : ℕ → Option (ℕ × CellCause) → PageNotes = λ n o. record { unread = n; first = o } in
    let many : notes.unread ≡ length (causes_of (map outcome_of all)) = omega (arith, was.many) in (
      was.is ∙ ap (λ (xs : List TakenCell). before ++ xs) (sym (append-nil was.done) ∙ was.parts),
      ap (λ (n : ℕ). make n notes.first) many
          ∙ ap (make (length (causes_of (map outcome_of all)))) (first_alone notes.first ∙ was.first),
    )
sorting_done all before now notes (x ∷ left) len was none = absurd (omega (arith, was.same, none))

pub sorting_front : (all : List CellOutcome) (before now : List TakenCell) (notes : PageNotes) (left : List CellOutcome) (len : ℕ)
    → Sorting all before now notes left len → GainsFront (taken_in all) before now
sorting_front all before now notes left len was = record { front = was.done; rest = taken_in left; parts = sym was.parts; all = was.is }

pub rows_seen : (os : List CellOutcome) → map row_of (taken_in os) ≡ rows_of (map outcome_of os)
rows_seen [] = refl
rows_seen (outcomes.Taken t ∷ os) = ap (λ (rs : List Row). row_of t ∷ rs) (rows_seen os)
rows_seen (outcomes.Unread cell rowid cause chain ∷ os) = rows_seen os

few_taken : (os : List CellOutcome) → length (taken_in os) ≤ length os
few_taken [] = omega arith
few_taken (outcomes.Taken t ∷ os) = omega (arith, few_taken os)
few_taken (outcomes.Unread cell rowid cause chain ∷ os) = omega (arith, few_taken os)

small_taken : (usable pages page : ℕ) (os : List CellOutcome)
    → AllByRecursion (λ o. IsSmall usable pages page (outcome_of o)) os
    → AllByRecursion (λ t. IsSmallRow usable pages page (row_of t)) (taken_in os)
small_taken usable pages page [] h = tt
small_taken usable pages page (outcomes.Taken t ∷ os) h = (h.0, small_taken usable pages page os h.1)
small_taken usable pages page (outcomes.Unread cell rowid cause chain ∷ os) h = small_taken usable pages page os h.1

all_front : {X : Type 0} (P : X → Type 0) (xs ys : List X) → AllByRecursion P (xs ++ ys) → AllByRecursion P xs
all_front P [] ys h = tt
all_front P (x ∷ xs) ys h = (h.0, all_front P xs ys h.1)

-- a front of the cells that are read is small, as the outcomes are
pub adds_rows : (usable pages page : ℕ) (none os : List CellOutcome) (old new : List TakenCell) → none ≡ []
    → Adds usable pages page none os → GainsFront (taken_in os) old new → AddsRows usable pages page old new
adds_rows usable pages page none os old new empty adds gains =
    let same : os ≡ adds.more = adds.all ∙ ap (λ (xs : List CellOutcome). xs ++ adds.more) empty in
    let parts : taken_in adds.more ≡ gains.front ++ gains.rest = ap taken_in (sym same) ∙ gains.parts in
    let all : AllByRecursion (λ t. IsSmallRow usable pages page (row_of t)) (gains.front ++ gains.rest) =
    subst (λ (ts : List TakenCell). AllByRecursion (λ t. IsSmallRow usable pages page (row_of t)) ts) parts
    (small_taken usable pages page adds.more adds.small) in
    record {
      more = gains.front;
      all = gains.all;
      few = omega (arith, adds.few, few_taken adds.more, ap length parts, length-append gains.front gains.rest);
      small = all_front (λ t. IsSmallRow usable pages page (row_of t)) gains.front gains.rest all;
    }

-- the rows that were appended, where the source tells its bytes
pub rows_told : (o : Option (List ℕ)) (outs : List ℕ → List Outcome) (none os : List CellOutcome) (old new : List TakenCell)
    → none ≡ [] → IfSome o (λ all. map outcome_of os ≡ map outcome_of none ++ outs all) → new ≡ old ++ taken_in os
    → IfSome o (λ all. map row_of new ≡ map row_of old ++ rows_of (outs all))
rows_told None outs none os old new empty value rows = tt
rows_told (Some all) outs none os old new empty value rows =
    let same : map outcome_of os ≡ outs all =
    value ∙ ap (λ (xs : List CellOutcome). map outcome_of xs ++ outs all) empty in
    ap (map row_of) rows ∙ map-append row_of old (taken_in os)
    ∙ ap (λ (rs : List Row). map row_of old ++ rs) (rows_seen os ∙ ap rows_of same)
