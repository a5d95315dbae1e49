-- What holds of all turns and walks.
use Rattle.std.proofs.Common.{◌≡◌, ◌≤◌, ℕ, ◌+◌, Bool, true, false, Option, Some, None, Result, Ok, Err, List, [], ◌∷◌, ◌++◌, length, map, refl, sym, ◌∙◌, ap, subst, inl, inr, arith, append_assoc, append-nil}
use Rattle.std.specs.Prelude.{ℤ}
use Rattle.std.specs.List.{slice_range}
use Rattle.std.proofs.lemmas.Grind.{flat_map-append}
use Rattle.std.proofs.lemmas.Bool.{and_parts, cases_Bool, false≢true}
use Rattle.std.proofs.lemmas.Bool.Decides.{eqb_tells}
use Rattle.page_access.specs.Pages.{File, page_at}
use Rattle.page_lists.specs.Lists.{IsPartOf, is_in, minus, without}
use Rattle.page_lists.proofs.Counts.{count-without, minus-append, part_append, part_none}
use Rattle.record_core.specs.declared.faults.RecordFault.{RecordFault}
use Rattle.record_core.specs.declared.values.Value.{Value}
use Rattle.record_core.specs.Record.{record_of}
use Rattle.cell_reader.specs.declared.shapes.Kind.{Kind}
use Rattle.cell_reader.specs.declared.shapes.PageShape.{PageShape}
use Rattle.cell_reader.specs.declared.cells.CellView.{CellView}
use Rattle.cell_reader.specs.Inside.{has_payload}
use Rattle.cell_reader.specs.Screen.{Verdict, Accepts, Faulty, Overlaps, verdicts}
use Rattle.overflow_chain.specs.Chain.{chain_len, next_page}
use Rattle.overflow_chain.specs.declared.ChainEnd.{ChainEnd}
use Rattle.overflow_chain.specs.declared.ChainEnd.TheVariants.{Whole, Broken}
use Rattle.overflow_chain.proofs.Longest.{turn_part}
use Rattle.page_walk.specs.Cells.{Outcome, bytes_from, chain_of, chains_of, end_from, ended_as, entry_at, missing, outcome_at, outcomes_from, outcomes_in, outcomes_on, outcomes_with, read_as, turn_from}
use Rattle.page_walk.specs.Laws.{CellsRise, ChainsAreUnused, IsWalkOf, Rises, TurnsAlwaysGoOn, WalksAreUnused, number_of}
use Rattle.page_walk.specs.Page.{screened_as, shape_on}
use Rattle.page_walk.specs.Turns.{chains_on, left_by, turns_on}
use Rattle.page_walk.specs.Walk.{children, is_root, kind_on, levels_from, page_named, same_kind, walk, walk_from}
use Rattle.page_walk.proofs.Levels.{levels_once, levels_within}
use Rattle.page_walk.proofs.Trees.{children_are_named, same_kind_tells}

-- the unused pages that a page and then others leave
left_then : (f : File) (p : ℕ) (ps unused : List ℕ) → minus (left_by f p unused) (chains_on f ps (left_by f p unused)) ≡ minus unused (chains_on f (p ∷ ps) unused)
left_then f p ps unused = sym (minus-append unused (chains_of (outcomes_on f p unused)) (chains_on f ps (left_by f p unused)))

pub turns_go_on : TurnsAlwaysGoOn
turns_go_on f [] qs unused = record { turns = refl; chains = refl }
turns_go_on f (p ∷ ps) qs unused =
    let rest = turns_go_on f ps qs (left_by f p unused) in
    record {
      turns = ap (λ (ts : List (ℕ × List Outcome)). (p, outcomes_on f p unused) ∷ ts)
          (rest.turns ∙ ap (λ (u : List ℕ). turns_on f ps (left_by f p unused) ++ turns_on f qs u) (left_then f p ps unused));
      chains = ap (λ (xs : List ℕ). chains_of (outcomes_on f p unused) ++ xs)
          (rest.chains ∙ ap (λ (u : List ℕ). chains_on f ps (left_by f p unused) ++ chains_on f qs u) (left_then f p ps unused))
          ∙ sym (append_assoc (chains_of (outcomes_on f p unused)) (chains_on f ps (left_by f p unused)) (chains_on f qs (minus unused (chains_on f (p ∷ ps) unused))));
    }

-- an entry's chain is what its turn takes
chain_read : (p i : ℕ) (rowid : Option ℤ) (chain : List ℕ) (r : Result (List Value) RecordFault) → chain_of (read_as p i rowid chain r) ≡ chain
chain_read p i rowid chain (Ok fields) = refl
chain_read p i rowid chain (Err fault) = refl

chain_ended : (p i : ℕ) (rowid : Option ℤ) (chain payload : List ℕ) (end : ChainEnd) → chain_of (ended_as p i rowid chain payload end) ≡ chain
chain_ended p i rowid chain payload Whole = chain_read p i rowid chain (record_of payload)
chain_ended p i rowid chain payload (Broken at why) = refl

pub entry_chain : (f : File) (page : List ℕ) (p i : ℕ) (v : CellView) (unused : List ℕ)
    → chain_of (entry_at f page p i v unused) ≡ turn_from f (missing v) v.overflow unused
unfolding entry_at
entry_chain f page p i v unused =
    chain_ended p i v.rowid (turn_from f (missing v) v.overflow unused) (slice_range page v.local_start v.local_end ++ bytes_from f (missing v) v.overflow unused)
    (end_from f (missing v) v.overflow unused)

pub from_part : (f : File) (need : ℕ) (overflow : Option ℕ) (unused : List ℕ) → IsPartOf (turn_from f need overflow unused) unused
from_part f need None unused = part_none unused
from_part f need (Some q) unused = turn_part (next_page f) (chain_len f need) unused q

outcome_part : (f : File) (page : List ℕ) (p : ℕ) (payload : Bool) (i : ℕ) (v : Verdict) (unused : List ℕ)
    → IsPartOf (chains_of (outcome_at f page p payload i (screened_as v) unused)) unused
outcome_part f page p true i (Accepts v) unused =
    subst (λ (xs : List ℕ). IsPartOf xs unused)
    (sym (append-nil (chain_of (entry_at f page p i v unused)) ∙ entry_chain f page p i v unused))
    (from_part f (missing v) v.overflow unused)
outcome_part f page p false i (Accepts v) unused = part_none unused
outcome_part f page p payload i (Faulty fault) unused = part_none unused
outcome_part f page p payload i Overlaps unused = part_none unused

outcomes_part : (f : File) (page : List ℕ) (p : ℕ) (payload : Bool) (i : ℕ) (vs : List Verdict) (unused : List ℕ)
    → IsPartOf (chains_of (outcomes_from f page p payload i vs unused)) unused
outcomes_part f page p payload i [] unused = part_none unused
outcomes_part f page p payload i (v ∷ vs) unused =
    let here : List Outcome = outcome_at f page p payload i (screened_as v) unused in
    subst (λ (xs : List ℕ). IsPartOf xs unused) (sym (flat_map-append chain_of here (outcomes_from f page p payload (i + 1) vs (minus unused (chains_of here)))))
    (part_append unused (chains_of here) (chains_of (outcomes_from f page p payload (i + 1) vs (minus unused (chains_of here))))
    (outcome_part f page p payload i v unused) (outcomes_part f page p payload (i + 1) vs (minus unused (chains_of here))))

with_part : (f : File) (p : ℕ) (shape : Option PageShape) (unused : List ℕ) → IsPartOf (chains_of (outcomes_with f p shape unused)) unused
unfolding outcomes_in
with_part f p None unused = part_none unused
with_part f p (Some shape) unused =
    outcomes_part f (page_at f p) p (has_payload shape.kind shape.leaf) 0 (verdicts (page_at f p) f.usable f.pages shape) unused

-- the pages that the cells of a page take are unused ones
pub page_part : (f : File) (p : ℕ) (unused : List ℕ) → IsPartOf (chains_of (outcomes_on f p unused)) unused
page_part f p unused = with_part f p (shape_on f p) unused

pub chains_are_unused : ChainsAreUnused
chains_are_unused f [] unused = part_none unused
chains_are_unused f (p ∷ ps) unused =
    part_append unused (chains_of (outcomes_on f p unused)) (chains_on f ps (left_by f p unused)) (page_part f p unused) (chains_are_unused f ps (left_by f p unused))

-- the pages of the levels from an unused page down
levels_are : (f : File) (unused : List ℕ) (root : ℤ) (kind : Kind) (r : ℕ) → is_root f unused kind r ≡ true
    → IsWalkOf f unused root kind (levels_from (children f) unused r)
levels_are f unused root kind r is =
    let parts = and_parts (is_in r unused) (same_kind (kind_on f r) (Some kind)) is in
    let kind_is : kind_on f r ≡ Some kind = same_kind_tells (kind_on f r) (Some kind) parts.1 in
    record {
      part = λ q. omega (arith, levels_once (children f) (length unused) (without r unused) (r ∷ []) q, count-without q r unused parts.0);
      kinds = levels_within (children f) unused (λ q. kind_on f q ≡ Some kind)
          (λ p q has names still. ((children_are_named f p q).0 names).kind_is ∙ has)
          (length unused) (without r unused) (r ∷ []) (λ q. omega (arith, count-without q r unused parts.0)) (only kind_is);
    }
  where
    only : kind_on f r ≡ Some kind → (q : ℕ) → is_in q (r ∷ []) ≡ true → kind_on f q ≡ Some kind
    only kind_is q there =
        elim (eqb_tells r q) [
          | inl w ↦ subst (λ (x : ℕ). kind_on f x ≡ Some kind) w.1 kind_is
          | inr w ↦ absurd (false≢true (rw w.0 at there))
        ]

no_pages : (f : File) (unused : List ℕ) (root : ℤ) (kind : Kind) → IsWalkOf f unused root kind []
no_pages f unused root kind = record { part = part_none unused; kinds = λ q there. absurd (false≢true there) }

from_named : (f : File) (unused : List ℕ) (root : ℤ) (kind : Kind) (o : Option ℕ) → IsWalkOf f unused root kind (walk_from f unused kind o)
from_named f unused root kind None = no_pages f unused root kind
from_named f unused root kind (Some r) =
    elim (cases_Bool (is_root f unused kind r)) [
      | inl is ↦ rw is (levels_are f unused root kind r is)
      | inr not_root ↦ rw not_root (no_pages f unused root kind)
    ]

pub walks_are_unused : WalksAreUnused
unfolding walk
walks_are_unused f unused root kind = from_named f unused root kind (page_named f.pages root)

rises_weaker : (a b : ℕ) (xs : List ℕ) → a ≤ b → Rises b xs → Rises a xs
rises_weaker a b [] le h = tt
rises_weaker a b (x ∷ xs) le h = (omega (arith, le, h.0), h.1)

number_read : (p i : ℕ) (rowid : Option ℤ) (chain : List ℕ) (r : Result (List Value) RecordFault) → number_of (read_as p i rowid chain r) ≡ i
number_read p i rowid chain (Ok fields) = refl
number_read p i rowid chain (Err fault) = refl

number_ended : (p i : ℕ) (rowid : Option ℤ) (chain payload : List ℕ) (end : ChainEnd) → number_of (ended_as p i rowid chain payload end) ≡ i
number_ended p i rowid chain payload Whole = number_read p i rowid chain (record_of payload)
number_ended p i rowid chain payload (Broken at why) = refl

pub entry_number : (f : File) (page : List ℕ) (p i : ℕ) (v : CellView) (unused : List ℕ) → number_of (entry_at f page p i v unused) ≡ i
unfolding entry_at
entry_number f page p i v unused =
    number_ended p i v.rowid (turn_from f (missing v) v.overflow unused) (slice_range page v.local_start v.local_end ++ bytes_from f (missing v) v.overflow unused)
    (end_from f (missing v) v.overflow unused)

-- a cell, and then others with greater numbers
one_rises : (f : File) (page : List ℕ) (p : ℕ) (payload : Bool) (i : ℕ) (v : Verdict) (unused : List ℕ) (rest : List Outcome) → Rises (i + 1) (map number_of rest)
    → Rises i (map number_of (outcome_at f page p payload i (screened_as v) unused ++ rest))
one_rises f page p true i (Accepts v) unused rest h =
    let e = entry_number f page p i v unused in
    subst (λ (k : ℕ). (i ≤ k) × Rises (k + 1) (map number_of rest)) (sym e) (omega arith, h)
one_rises f page p false i (Accepts v) unused rest h = rises_weaker i (i + 1) (map number_of rest) (omega arith) h
one_rises f page p payload i (Faulty fault) unused rest h = (omega arith, h)
one_rises f page p payload i Overlaps unused rest h = (omega arith, h)

all_rise : (f : File) (page : List ℕ) (p : ℕ) (payload : Bool) (i : ℕ) (vs : List Verdict) (unused : List ℕ)
    → Rises i (map number_of (outcomes_from f page p payload i vs unused))
all_rise f page p payload i [] unused = tt
all_rise f page p payload i (v ∷ vs) unused =
    one_rises f page p payload i v unused _ (all_rise f page p payload (i + 1) vs (minus unused (chains_of (outcome_at f page p payload i (screened_as v) unused))))

with_rise : (f : File) (p : ℕ) (shape : Option PageShape) (unused : List ℕ) → Rises 0 (map number_of (outcomes_with f p shape unused))
unfolding outcomes_in
with_rise f p None unused = tt
with_rise f p (Some shape) unused =
    all_rise f (page_at f p) p (has_payload shape.kind shape.leaf) 0 (verdicts (page_at f p) f.usable f.pages shape) unused

pub cells_rise : CellsRise
cells_rise f p unused = with_rise f p (shape_on f p) unused
