-- The rows that are read of a page are those that stand in the file, each with a chain that the cells before it leave.
use Rattle.std.proofs.Common.{◌≡◌, ◌≤◌, ◌<◌, ℕ, zero, suc, ◌+◌, Bool, true, false, Option, Some, None, Result, Ok, Err, List, [], ◌∷◌, ◌++◌, length, slice_get, nat_lt, refl, sym, ◌∙◌, ap, subst, inl, inr, arith}
use Rattle.std.specs.Prelude.{ℤ, if◌then◌else◌}
use Rattle.std.specs.List.{Contains, filter, slice_range}
use Rattle.std.proofs.lemmas.Bool.Decides.{nat_tests}
use Rattle.std.proofs.lemmas.Grind.{flat_map-append}
use Rattle.std.proofs.lemmas.List.Elements.{All-contains, All-from_recursion, Contains-append_cases, Contains-append_right, filter-append}
use Rattle.page_access.specs.Pages.{File, page_at}
use Rattle.page_lists.specs.Lists.{IsPartOf, minus}
use Rattle.page_lists.proofs.Counts.{minus-append}
use Rattle.record_core.specs.declared.faults.RecordFault.{RecordFault}
use Rattle.record_core.specs.declared.values.Value.{Value}
use Rattle.record_core.specs.Record.{record_of}
use Rattle.record_core.specs.Spelling.{IsRecord}
use Rattle.record_core.proofs.Again.{record_again}
use Rattle.cell_reader.specs.declared.shapes.PageShape.{PageShape}
use Rattle.cell_reader.specs.declared.cells.CellView.{CellView}
use Rattle.cell_reader.specs.Inside.{has_payload}
use Rattle.cell_reader.specs.Screen.{Verdict, Accepts, Faulty, Overlaps, verdicts}
use Rattle.overflow_chain.specs.declared.ChainEnd.{ChainEnd}
use Rattle.overflow_chain.specs.declared.ChainEnd.TheVariants.{Whole, Broken}
use Rattle.overflow_chain.proofs.Longest.{whole_turn_is_chain}
use Rattle.page_walk.specs.Cells.{Row, Outcome, Read, bytes_from, chain_of, chains_of, end_from, ended_as, entry_at, missing, outcome_at, outcomes_from, outcomes_in, outcomes_on, outcomes_with, read_as, turn_from}
use Rattle.page_walk.specs.Evidence.{AreOnce, Evidence, IsRest}
use Rattle.page_walk.specs.Laws.{ReadableAreRead, is_before, left_before, number_of}
use Rattle.page_walk.specs.Page.{screened_as, shape_on, verdicts_in}
use Rattle.page_walk.specs.Rows.{rows_of}
use Rattle.page_walk.proofs.Chains.{entry_number, from_part}
use Rattle.page_walk.proofs.Witness.{fewer_minus, readable_have_evidence, rows_append}

-- the unused pages that the cells with these verdicts, from cell i on, leave to cell k
abbrev left_to : File → List ℕ → ℕ → Bool → ℕ → List Verdict → List ℕ → ℕ → List ℕ
left_to f page p payload i vs unused k =
    minus unused (chains_of (filter (is_before k) (outcomes_from f page p payload i vs unused)))

-- a cell is one of those before another or it is not
one_before : (f : File) (page : List ℕ) (p : ℕ) (payload : Bool) (i : ℕ) (v : Verdict) (unused : List ℕ) (k : ℕ) (b : Bool) → nat_lt i k ≡ b
    → filter (is_before k) (outcome_at f page p payload i (screened_as v) unused)
    ≡ (if b then outcome_at f page p payload i (screened_as v) unused else [])
one_before f page p true i (Accepts v) unused k b e =
    let o : Outcome = entry_at f page p i v unused in
    let n : nat_lt (number_of o) k ≡ b = ap (λ (m : ℕ). nat_lt m k) (entry_number f page p i v unused) ∙ e in
    ap (λ (c : Bool). if c then o ∷ [] else []) n
one_before f page p false i (Accepts v) unused k true e = refl
one_before f page p false i (Accepts v) unused k false e = refl
one_before f page p payload i (Faulty fault) unused k b e =
    ap (λ (c : Bool). if c then outcome_at f page p payload i (screened_as (Faulty fault)) unused else []) e
one_before f page p payload i Overlaps unused k b e =
    ap (λ (c : Bool). if c then outcome_at f page p payload i (screened_as Overlaps) unused else []) e

none_before : (f : File) (page : List ℕ) (p : ℕ) (payload : Bool) (i : ℕ) (vs : List Verdict) (unused : List ℕ) (k : ℕ) → k ≤ i
    → filter (is_before k) (outcomes_from f page p payload i vs unused) ≡ []
none_before f page p payload i [] unused k le = refl
none_before f page p payload i (v ∷ vs) unused k le =
    let here : List Outcome = outcome_at f page p payload i (screened_as v) unused in
    let later : List Outcome = outcomes_from f page p payload (i + 1) vs (minus unused (chains_of here)) in
    let no : nat_lt i k ≡ false = grind (arith, nat_tests) in
    filter-append (is_before k) here later
    ∙ ap (λ (os : List Outcome). os ++ filter (is_before k) later) (one_before f page p payload i v unused k false no)
    ∙ none_before f page p payload (i + 1) vs (minus unused (chains_of here)) k (omega (arith, le))

-- to the first of them all is left
left_all : (f : File) (page : List ℕ) (p : ℕ) (payload : Bool) (i : ℕ) (vs : List Verdict) (unused : List ℕ) (k : ℕ) → k ≤ i
    → left_to f page p payload i vs unused k ≡ unused
left_all f page p payload i vs unused k le = ap (λ (os : List Outcome). minus unused (chains_of os)) (none_before f page p payload i vs unused k le)

-- to a later one what the first leaves, and then what those between leave
left_step : (f : File) (page : List ℕ) (p : ℕ) (payload : Bool) (i : ℕ) (v : Verdict) (vs : List Verdict) (unused : List ℕ) (k : ℕ) → i < k
    → left_to f page p payload i (v ∷ vs) unused k
    ≡ left_to f page p payload (i + 1) vs (minus unused (chains_of (outcome_at f page p payload i (screened_as v) unused))) k
left_step f page p payload i v vs unused k lt =
    let here : List Outcome = outcome_at f page p payload i (screened_as v) unused in
    let later : List Outcome = outcomes_from f page p payload (i + 1) vs (minus unused (chains_of here)) in
    let yes : nat_lt i k ≡ true = grind (arith, nat_tests) in
    ap (λ (os : List Outcome). minus unused (chains_of os)) (filter-append (is_before k) here later
    ∙ ap (λ (os : List Outcome). os ++ filter (is_before k) later) (one_before f page p payload i v unused k true yes))
    ∙ ap (minus unused) (flat_map-append chain_of here (filter (is_before k) later))
    ∙ minus-append unused (chains_of here) (chains_of (filter (is_before k) later))

-- the rest of a payload whose pages are unused is what the turn takes
rest_taken : (f : File) (need : ℕ) (overflow : Option ℕ) (unused chain rest : List ℕ) → AreOnce f.pages unused → IsRest f need overflow chain rest
    → IsPartOf chain unused
    → (end_from f need overflow unused ≡ Whole) × (turn_from f need overflow unused ≡ chain) × (bytes_from f need overflow unused ≡ rest)
rest_taken f need None unused chain rest once is part = (refl, sym is.0, sym is.1)
rest_taken f need (Some q) unused chain rest once is part = (whole_turn_is_chain f q need unused once).takes_it chain rest is part

-- what shows that a row stands in the cell with this number, but for the numbers of page and cell
record Shows (f : File) (page : List ℕ) (v : CellView) (row : Row) : Type 0 where
  rest : List ℕ
  chain : IsRest f (missing v) v.overflow row.chain rest
  values : IsRecord (slice_range page v.local_start v.local_end ++ rest) row.fields
  few : length row.fields ≤ 1996
  rowid : row.rowid ≡ v.rowid

-- such an entry is read, where its chain is unused
entry_read : (f : File) (page : List ℕ) (p i : ℕ) (v : CellView) (unused : List ℕ) (row : Row) → AreOnce f.pages unused → Shows f page v row
    → row.page ≡ p → row.cell ≡ i → IsPartOf row.chain unused → entry_at f page p i v unused ≡ Read row
unfolding entry_at
entry_read f page p i v unused row once shows page_is cell_is part =
    let local : List ℕ = slice_range page v.local_start v.local_end in
    let turn = rest_taken f (missing v) v.overflow unused row.chain shows.rest once shows.chain part in
    ap (λ (end : ChainEnd). ended_as p i v.rowid (turn_from f (missing v) v.overflow unused)
    (local ++ bytes_from f (missing v) v.overflow unused) end) turn.0
    ∙ ap (λ (chain : List ℕ). read_as p i v.rowid chain (record_of (local ++ bytes_from f (missing v) v.overflow unused))) turn.1
    ∙ ap (λ (bytes : List ℕ). read_as p i v.rowid row.chain (record_of (local ++ bytes))) turn.2
    ∙ ap (read_as p i v.rowid row.chain) (record_again (local ++ shows.rest) row.fields shows.values shows.few)
    ∙ ap (λ (n : ℕ). Read (record { page = n; cell = i; rowid = v.rowid; chain = row.chain; fields = row.fields })) (sym page_is)
    ∙ ap (λ (n : ℕ). Read (record { page = row.page; cell = n; rowid = v.rowid; chain = row.chain; fields = row.fields })) (sym cell_is)
    ∙ ap (λ (n : Option ℤ). Read (record { page = row.page; cell = row.cell; rowid = n; chain = row.chain; fields = row.fields })) (sym shows.rowid)

first_read : (row : Row) (os : List Outcome) → Contains (rows_of (Read row ∷ os)) row
first_read row os = (0, omega arith, refl)

there : (f : File) (page : List ℕ) (p i : ℕ) (vs : List Verdict) (unused : List ℕ) (j : ℕ) (v : CellView) (row : Row)
    → slice_get vs j ≡ Some (Accepts v) → row.cell ≡ i + j → row.page ≡ p → AreOnce f.pages unused → Shows f page v row
    → IsPartOf row.chain (left_to f page p true i vs unused row.cell)
    → Contains (rows_of (outcomes_from f page p true i vs unused)) row
there f page p i [] unused j v row got cell_is page_is once shows part = absurd cc
there f page p i (w ∷ vs) unused zero v row got cell_is page_is once shows part =
    let is : w ≡ Accepts v = cc in
    let here : row.cell ≡ i = omega (arith, cell_is) in
    let free : IsPartOf row.chain unused =
    subst (λ (xs : List ℕ). IsPartOf row.chain xs) (left_all f page p true i (w ∷ vs) unused row.cell (omega (arith, here))) part in
    subst (λ (x : Verdict). Contains (rows_of (outcome_at f page p true i (screened_as x) unused
    ++ outcomes_from f page p true (i + 1) vs (minus unused (chains_of (outcome_at f page p true i (screened_as x) unused))))) row) (sym is)
    (subst (λ (o : Outcome). Contains (rows_of (o ∷ outcomes_from f page p true (i + 1) vs (minus unused (chains_of (o ∷ []))))) row)
    (sym (entry_read f page p i v unused row once shows page_is here free))
    (first_read row (outcomes_from f page p true (i + 1) vs (minus unused (chains_of (Read row ∷ []))))))
there f page p i (w ∷ vs) unused (suc j) v row got cell_is page_is once shows part =
    let here : List Outcome = outcome_at f page p true i (screened_as w) unused in
    let left : List ℕ = minus unused (chains_of here) in
    let later : List Outcome = outcomes_from f page p true (i + 1) vs left in
    let free : IsPartOf row.chain (left_to f page p true (i + 1) vs left row.cell) =
    subst (λ (xs : List ℕ). IsPartOf row.chain xs) (left_step f page p true i w vs unused row.cell (omega (arith, cell_is))) part in
    subst (λ (rs : List Row). Contains rs row) (sym (rows_append here later))
    (Contains-append_right (rows_of here) (rows_of later) row
    (there f page p (i + 1) vs left j v row got (omega (arith, cell_is)) page_is
    (λ q. omega (arith, once q, fewer_minus q unused (chains_of here))) shows free))

-- a row with its evidence is read of its page
at_own_page : (f : File) (unused : List ℕ) (row : Row) → AreOnce f.pages unused → Evidence f row
    → IsPartOf row.chain (left_before f row.page row.cell unused) → Contains (rows_of (outcomes_on f row.page unused)) row
unfolding outcomes_in
at_own_page f unused row once e free =
    let page : List ℕ = page_at f row.page in
    let vs : List Verdict = verdicts page f.usable f.pages e.shape in
    let left : IsPartOf row.chain (left_to f page row.page true 0 vs unused row.cell) =
    subst (λ (b : Bool). IsPartOf row.chain (left_to f page row.page b 0 vs unused row.cell)) e.has_record
    (subst (λ (s : Option PageShape). IsPartOf row.chain
    (minus unused (chains_of (filter (is_before row.cell) (outcomes_with f row.page s unused))))) e.has_shape free) in
    let got : slice_get vs row.cell ≡ Some (Accepts e.view) =
    ap (λ (xs : List Verdict). slice_get xs row.cell) (sym (ap (verdicts_in f row.page) e.has_shape)) ∙ e.accepted in
    let shows : Shows f page e.view row = record { rest = e.rest; chain = e.chain; values = e.values; few = e.few; rowid = e.rowid } in
    subst (λ (s : Option PageShape). Contains (rows_of (outcomes_with f row.page s unused)) row) (sym e.has_shape)
    (subst (λ (b : Bool). Contains (rows_of (outcomes_from f page row.page b 0 vs unused)) row) (sym e.has_record)
    (there f page row.page 0 vs unused row.cell e.view row got (omega arith) refl once shows left))

-- where a row that is read stands, and what its chain is part of
record Placed (p i : ℕ) (left : List ℕ) (row : Row) : Type 0 where
  least : i ≤ row.cell
  on_page : row.page ≡ p
  free : IsPartOf row.chain left

only_one : (x y : Row) → Contains (x ∷ []) y → x ≡ y
only_one x y (zero, lt, e) = e
only_one x y (suc k, lt, e) = absurd (omega (arith, lt))

-- the row of an entry
record IsOf (p i : ℕ) (chain : List ℕ) (row : Row) : Type 0 where
  page : row.page ≡ p
  cell : row.cell ≡ i
  taken : row.chain ≡ chain

read_row : (p i : ℕ) (rowid : Option ℤ) (chain : List ℕ) (r : Result (List Value) RecordFault) (row : Row)
    → Contains (rows_of (read_as p i rowid chain r ∷ [])) row → IsOf p i chain row
read_row p i rowid chain (Ok fields) row c =
    let same = only_one (record { page = p; cell = i; rowid = rowid; chain = chain; fields = fields }) row c in
    record { page = sym (ap (λ (r : Row). r.page) same); cell = sym (ap (λ (r : Row). r.cell) same); taken = sym (ap (λ (r : Row). r.chain) same) }
read_row p i rowid chain (Err fault) row c = absurd (omega (arith, c.1))

ended_row : (p i : ℕ) (rowid : Option ℤ) (chain payload : List ℕ) (end : ChainEnd) (row : Row)
    → Contains (rows_of (ended_as p i rowid chain payload end ∷ [])) row → IsOf p i chain row
ended_row p i rowid chain payload Whole row c = read_row p i rowid chain (record_of payload) row c
ended_row p i rowid chain payload (Broken q why) row c = absurd (omega (arith, c.1))

one_placed : (f : File) (page : List ℕ) (p : ℕ) (payload : Bool) (i : ℕ) (v : Verdict) (unused : List ℕ) (row : Row)
    → Contains (rows_of (outcome_at f page p payload i (screened_as v) unused)) row → (row.cell ≡ i) × (row.page ≡ p) × IsPartOf row.chain unused
unfolding entry_at
one_placed f page p true i (Accepts v) unused row c =
    let is = ended_row p i v.rowid (turn_from f (missing v) v.overflow unused)
    (slice_range page v.local_start v.local_end ++ bytes_from f (missing v) v.overflow unused) (end_from f (missing v) v.overflow unused) row c in
    (is.cell, is.page, subst (λ (xs : List ℕ). IsPartOf xs unused) (sym is.taken) (from_part f (missing v) v.overflow unused))
one_placed f page p false i (Accepts v) unused row c = absurd (omega (arith, c.1))
one_placed f page p payload i (Faulty fault) unused row c = absurd (omega (arith, c.1))
one_placed f page p payload i Overlaps unused row c = absurd (omega (arith, c.1))

placed : (f : File) (page : List ℕ) (p : ℕ) (payload : Bool) (i : ℕ) (vs : List Verdict) (unused : List ℕ) (row : Row)
    → Contains (rows_of (outcomes_from f page p payload i vs unused)) row
    → Placed p i (left_to f page p payload i vs unused row.cell) row
placed f page p payload i [] unused row c = absurd (omega (arith, c.1))
placed f page p payload i (v ∷ vs) unused row c =
    let here : List Outcome = outcome_at f page p payload i (screened_as v) unused in
    let left : List ℕ = minus unused (chains_of here) in
    let later : List Outcome = outcomes_from f page p payload (i + 1) vs left in
    elim (Contains-append_cases (rows_of here) (rows_of later) row (subst (λ (rs : List Row). Contains rs row) (rows_append here later) c)) [
      | inl now ↦
          let one = one_placed f page p payload i v unused row now in
          record {
            least = omega (arith, one.0);
            on_page = one.1;
            free = subst (λ (xs : List ℕ). IsPartOf row.chain xs)
                (sym (left_all f page p payload i (v ∷ vs) unused row.cell (omega (arith, one.0)))) one.2;
          }
      | inr more ↦
          let rest = placed f page p payload (i + 1) vs left row more in
          record {
            least = omega (arith, rest.least);
            on_page = rest.on_page;
            free = subst (λ (xs : List ℕ). IsPartOf row.chain xs)
                (sym (left_step f page p payload i v vs unused row.cell (omega (arith, rest.least)))) rest.free;
          }
    ]

with_placed : (f : File) (p : ℕ) (s : Option PageShape) (unused : List ℕ) (row : Row) → Contains (rows_of (outcomes_with f p s unused)) row
    → Placed p 0 (minus unused (chains_of (filter (is_before row.cell) (outcomes_with f p s unused)))) row
unfolding outcomes_in
with_placed f p None unused row c = absurd (omega (arith, c.1))
with_placed f p (Some shape) unused row c =
    placed f (page_at f p) p (has_payload shape.kind shape.leaf) 0 (verdicts (page_at f p) f.usable f.pages shape) unused row c

pub readable_are_read : ReadableAreRead
readable_are_read f p unused row page once = (
  λ c.
      let at = with_placed f p (shape_on f p) unused row c in
      record {
        evidence = All-contains (Evidence f) (rows_of (outcomes_on f p unused)) row
            (All-from_recursion (Evidence f) (rows_of (outcomes_on f p unused)) (readable_have_evidence f p unused page once)) c;
        on_page = at.on_page;
        free = at.free;
      },
  λ is.
      subst (λ (q : ℕ). Contains (rows_of (outcomes_on f q unused)) row) is.on_page
      (at_own_page f unused row once is.evidence
      (subst (λ (q : ℕ). IsPartOf row.chain (left_before f q row.cell unused)) (sym is.on_page) is.free)),
)
