-- The cells of a page that a loop has passed, and those to come.
use Rattle.std.proofs.Common.{◌≡◌, ◌<◌, ◌≤◌, ℕ, ◌+◌, ◌-◌, Bool, false, Option, Some, None, List, [], ◌∷◌, ◌++◌, length, map, replicate, refl, sym, ◌∙◌, ap, arith, append_assoc, append-nil, length-append}
use Rattle.std.specs.Prelude.{option_to_list, IfSome, Result}
use Rattle.std.specs.List.{AllByRecursion}
use Rattle.std.proofs.lemmas.Grind.{flat_map-append}
use Rattle.std.proofs.lemmas.List.{length-replicate, map-append}
use Rattle.std.proofs.lemmas.Option.{IfSome_then}
use Rattle.page_access.specs.declared.geometry.Geometry.{Geometry}
use Rattle.page_access.specs.Files.{IsWhole, file_of}
use Rattle.page_access.specs.Outside.{KeepsSource}
use Rattle.page_access.specs.Pages.{File}
use Rattle.page_access.proofs.Keeps.{Passed, passed_more, passed_none}
use Rattle.page_access.proofs.Told.{always_told, both_told}
use Rattle.page_lists.specs.Lists.{minus}
use Rattle.page_lists.specs.Table.{Table, Moves, all_moved, unused}
use Rattle.page_lists.proofs.Uses.{unused-all_moved, all_moved-append, Moves-none, Moves-append}
use Rattle.cell_reader.specs.declared.shapes.PageShape.{PageShape}
use Rattle.cell_reader.specs.declared.cells.CellView.{CellView}
use Rattle.cell_reader.specs.declared.cells.CellFault.{CellFault}
use Rattle.cell_reader.specs.Cell.{cell_of}
use Rattle.cell_reader.specs.Cover.{marked_from, marked_on, marks_with}
use Rattle.cell_reader.specs.Inside.{HasArray, has_payload}
use Rattle.cell_reader.specs.Screen.{Verdict, verdicts}
use Rattle.cell_reader.proofs.Ranges.{page_marked}
use Rattle.overflow_chain.specs.declared.TheConstants.{OVERFLOW_LIST}
use Rattle.page_walk.specs.declared.causes.CellCause.{CellCause}
use Rattle.page_walk.specs.declared.outcomes.CellOutcome.{CellOutcome}
use Rattle.page_walk.specs.Bounds.{Adds, IsSmall, Uses}
use Rattle.page_walk.specs.Cells.{Outcome, chain_of, chains_of, outcome_at, outcome_of, outcomes_from, outcomes_in}
use Rattle.page_walk.specs.Page.{screened_as}
use Rattle.page_walk.specs.Turns.{ReadsEach}
use Rattle.page_walk.proofs.Names.{few_option, marked_end, marked_step}

-- the outcomes that cells from i on will have
abbrev pub to_come : List ℕ → Geometry → List ℕ → PageShape → ℕ → ℕ → List Bool → List ℕ → List Outcome
to_come all geo bytes shape page i marks unused =
    outcomes_from (file_of all geo) bytes page (has_payload shape.kind shape.leaf) i
    (marked_from (cell_of bytes geo.usable geo.pages shape) (shape.cells - i) i marks) unused

-- what a loop over the cells of a page keeps
pub record Going {S : Type 0} (told attached : S → Option (List ℕ)) (faults reads : S → ℕ) (geo : Geometry) (bytes : List ℕ)
    (shape : PageShape) (page : ℕ) (src0 src : S) (old new : Table) (before now : List CellOutcome) (i : ℕ) (marks : List Bool) : Type 0 where
  pub kept : Passed told attached faults reads src0 src
  pub read : ReadsEach (told src0) geo old new (reads src0) (reads src) 0
  pub moves : Moves OVERFLOW_LIST old new
  pub len : length marks ≡ geo.usable
  pub more : List CellOutcome
  pub all : now ≡ before ++ more
  pub few : length more ≤ i
  pub small : AllByRecursion (λ o. IsSmall geo.usable geo.pages page (outcome_of o)) more
  pub table : new ≡ all_moved (chains_of (map outcome_of more)) OVERFLOW_LIST old
  pub rest : IfSome (told src0) (λ all. map outcome_of now ++ to_come all geo bytes shape page i marks (unused new)
      ≡ map outcome_of before ++ outcomes_in (file_of all geo) bytes page shape (unused old))

pub all_append : {X : Type 0} (P : X → Type 0) (xs ys : List X) → AllByRecursion P xs → AllByRecursion P ys → AllByRecursion P (xs ++ ys)
all_append P [] ys h k = k
all_append P (x ∷ xs) ys h k = (h.0, all_append P xs ys h.1 k)

all_option : {X : Type 0} (P : X → Type 0) (o : Option X) → IfSome o P → AllByRecursion P (option_to_list o)
all_option P None h = tt
all_option P (Some x) h = (h, tt)

-- the outcomes of cells are those of the first and of the others, at their turns
rest_more : (f : File) (bytes : List ℕ) (page : ℕ) (payload : Bool) (cell : ℕ → Result CellView CellFault) (n i : ℕ)
    (marks after : List Bool) (u u' : List ℕ) (now os all : List Outcome) → i < n
    → after ≡ marks_with (marked_on (cell i) marks) marks
    → os ≡ outcome_at f bytes page payload i (screened_as (marked_on (cell i) marks)) u
    → u' ≡ minus u (chains_of os)
    → now ++ outcomes_from f bytes page payload i (marked_from cell (n - i) i marks) u ≡ all
    → (now ++ os) ++ outcomes_from f bytes page payload (i + 1) (marked_from cell (n - (i + 1)) (i + 1) after) u' ≡ all
rest_more f bytes page payload cell n i marks after u u' now os all lt marked is left h =
    let later : List Verdict = marked_from cell (n - (i + 1)) (i + 1) (marks_with (marked_on (cell i) marks) marks) in
    let step : os ++ outcomes_from f bytes page payload (i + 1) later (minus u (chains_of os))
    ≡ outcomes_from f bytes page payload i (marked_from cell (n - i) i marks) u =
    ap (λ (xs : List Outcome). xs ++ outcomes_from f bytes page payload (i + 1) later (minus u (chains_of xs))) is
    ∙ ap (λ (vs : List Verdict). outcomes_from f bytes page payload i vs u) (sym (marked_step cell n i marks lt)) in
    rw (marked, left) (append_assoc now os (outcomes_from f bytes page payload (i + 1) later (minus u (chains_of os)))
    ∙ ap (λ (xs : List Outcome). now ++ xs) step ∙ h)

pub going_start : {S : Type 0} (told attached : S → Option (List ℕ)) (faults reads : S → ℕ) (geo : Geometry) (bytes : List ℕ)
    (shape : PageShape) (page : ℕ) (src : S) (t : Table) (before : List CellOutcome) (marks : List Bool)
    → marks ≡ replicate geo.usable false
    → Going told attached faults reads geo bytes shape page src src t t before before 0 marks
unfolding outcomes_in verdicts
going_start told attached faults reads geo bytes shape page src t before marks fresh =
    let all_cells : shape.cells - 0 ≡ shape.cells = omega arith in
    let same : marked_from (cell_of bytes geo.usable geo.pages shape) (shape.cells - 0) 0 marks ≡ verdicts bytes geo.usable geo.pages shape =
    ap (λ (n : ℕ). marked_from (cell_of bytes geo.usable geo.pages shape) n 0 marks) all_cells
    ∙ ap (λ (ms : List Bool). marked_from (cell_of bytes geo.usable geo.pages shape) shape.cells 0 ms) fresh
    ∙ page_marked bytes geo.usable geo.pages shape in
    record {
      kept = passed_none told attached faults reads src;
      read = always_told (λ all. IsWhole all geo → reads src + length (unused t) ≤ reads src + length (unused t) + 0) (told src) (λ all whole. omega arith);
      moves = Moves-none OVERFLOW_LIST t;
      len = ap length fresh ∙ length-replicate geo.usable false;
      more = [];
      all = sym (append-nil before);
      few = omega arith;
      small = tt;
      table = refl;
      rest = always_told (λ all. map outcome_of before ++ to_come all geo bytes shape page 0 marks (unused t)
          ≡ map outcome_of before ++ outcomes_in (file_of all geo) bytes page shape (unused t)) (told src)
          (λ all. ap (λ (vs : List Verdict). map outcome_of before ++ outcomes_from (file_of all geo) bytes page (has_payload shape.kind shape.leaf) 0 vs (unused t)) same);
    }

pub going_more : {S : Type 0} {told attached : S → Option (List ℕ)} {faults reads : S → ℕ} {geo : Geometry} {bytes : List ℕ}
    {shape : PageShape} {page : ℕ} {src0 src : S} {old new : Table} {before now : List CellOutcome} {i : ℕ} {marks : List Bool}
    → (src' : S) (new' : Table) (next : List CellOutcome) (after : List Bool) (cell : Result CellView CellCause) (o : Option CellOutcome)
    → Going told attached faults reads geo bytes shape page src0 src old new before now i marks → i < shape.cells
    → cell ≡ screened_as (marked_on (cell_of bytes geo.usable geo.pages shape i) marks)
    → after ≡ marks_with (marked_on (cell_of bytes geo.usable geo.pages shape i) marks) marks → length after ≡ length marks
    → IfSome (told src) (λ all. map outcome_of (option_to_list o)
    ≡ outcome_at (file_of all geo) bytes page (has_payload shape.kind shape.leaf) i cell (unused new))
    → new' ≡ all_moved (chains_of (map outcome_of (option_to_list o))) OVERFLOW_LIST new
    → IfSome o (λ x. IsSmall geo.usable geo.pages page (outcome_of x))
    → KeepsSource told attached faults reads src src' → faults src' ≡ faults src → Moves OVERFLOW_LIST new new'
    → ReadsEach (told src) geo new new' (reads src) (reads src') 0 → next ≡ now ++ option_to_list o
    → Going told attached faults reads geo bytes shape page src0 src' old new' before next (i + 1) after
going_more {told = told} {reads = reads} {geo = geo} {bytes} {shape} {page} {src0} {src} {old} {new} {before} {now} {i} {marks}
    src' new' next after cell o was lt named marked len value moved small kept steady moves read pushed =
    let joined : chains_of (map outcome_of (was.more ++ option_to_list o))
    ≡ chains_of (map outcome_of was.more) ++ chains_of (map outcome_of (option_to_list o)) =
    ap chains_of (map-append outcome_of was.more (option_to_list o))
    ∙ flat_map-append chain_of (map outcome_of was.more) (map outcome_of (option_to_list o)) in
    let grown : map outcome_of next ≡ map outcome_of now ++ map outcome_of (option_to_list o) =
    ap (map outcome_of) pushed ∙ map-append outcome_of now (option_to_list o) in
    let left : unused new' ≡ minus (unused new) (chains_of (map outcome_of (option_to_list o))) =
    ap unused moved ∙ unused-all_moved (chains_of (map outcome_of (option_to_list o))) OVERFLOW_LIST new (omega arith) in
    record {
      kept = passed_more was.kept kept steady;
      read = both_told (λ all. IsWhole all geo → reads src + length (unused new) ≤ reads src0 + length (unused old) + 0)
          (λ all. IsWhole all geo → reads src' + length (unused new') ≤ reads src + length (unused new) + 0)
          (λ all. IsWhole all geo → reads src' + length (unused new') ≤ reads src0 + length (unused old) + 0)
          (told src0) (told src) was.kept.told (λ all p q whole. omega (arith, p whole, q whole)) was.read read;
      moves = Moves-append OVERFLOW_LIST old new new' (omega arith) was.moves moves;
      len = len ∙ was.len;
      more = was.more ++ option_to_list o;
      all = pushed ∙ ap (λ (xs : List CellOutcome). xs ++ option_to_list o) was.all ∙ append_assoc before was.more (option_to_list o);
      few = omega (arith, length-append was.more (option_to_list o), was.few, few_option o);
      small = all_append _ was.more (option_to_list o) was.small (all_option _ o small);
      table = moved
          ∙ ap (λ (t : Table). all_moved (chains_of (map outcome_of (option_to_list o))) OVERFLOW_LIST t) was.table
          ∙ sym (all_moved-append (chains_of (map outcome_of was.more)) (chains_of (map outcome_of (option_to_list o))) OVERFLOW_LIST old)
          ∙ ap (λ (ps : List ℕ). all_moved ps OVERFLOW_LIST old) (sym joined);
      rest = both_told (λ all. map outcome_of now ++ to_come all geo bytes shape page i marks (unused new)
          ≡ map outcome_of before ++ outcomes_in (file_of all geo) bytes page shape (unused old))
          (λ all. map outcome_of (option_to_list o)
          ≡ outcome_at (file_of all geo) bytes page (has_payload shape.kind shape.leaf) i cell (unused new))
          (λ all. map outcome_of next ++ to_come all geo bytes shape page (i + 1) after (unused new')
          ≡ map outcome_of before ++ outcomes_in (file_of all geo) bytes page shape (unused old))
          (told src0) (told src) was.kept.told
          (λ all p q. ap (λ (xs : List Outcome). xs ++ to_come all geo bytes shape page (i + 1) after (unused new')) grown
          ∙ rest_more (file_of all geo) bytes page (has_payload shape.kind shape.leaf) (cell_of bytes geo.usable geo.pages shape)
          shape.cells i marks after (unused new) (unused new') (map outcome_of now) (map outcome_of (option_to_list o))
          (map outcome_of before ++ outcomes_in (file_of all geo) bytes page shape (unused old)) lt marked
          (q ∙ ap (λ (c : Result CellView CellCause). outcome_at (file_of all geo) bytes page (has_payload shape.kind shape.leaf) i c (unused new)) named)
          left p)
          was.rest value;
    }

pub going_value : {S : Type 0} {told attached : S → Option (List ℕ)} {faults reads : S → ℕ} {geo : Geometry} {bytes : List ℕ}
    {shape : PageShape} {page : ℕ} {src0 src : S} {old new : Table} {before now : List CellOutcome} {i : ℕ} {marks : List Bool}
    → Going told attached faults reads geo bytes shape page src0 src old new before now i marks → shape.cells ≤ i
    → IfSome (told src0) (λ all. map outcome_of now
    ≡ map outcome_of before ++ outcomes_in (file_of all geo) bytes page shape (unused old))
going_value {told = told} {geo = geo} {bytes} {shape} {page} {src0} {src} {old} {new} {before} {now} {i} {marks} was le =
    let none : marked_from (cell_of bytes geo.usable geo.pages shape) (shape.cells - i) i marks ≡ [] =
    marked_end (cell_of bytes geo.usable geo.pages shape) shape.cells i marks le in
    IfSome_then (told src0)
    {P = λ all. map outcome_of now ++ to_come all geo bytes shape page i marks (unused new)
    ≡ map outcome_of before ++ outcomes_in (file_of all geo) bytes page shape (unused old)}
    {Q = λ all. map outcome_of now ≡ map outcome_of before ++ outcomes_in (file_of all geo) bytes page shape (unused old)}
    was.rest
    (λ all p. sym (append-nil (map outcome_of now))
    ∙ ap (λ (vs : List Verdict). map outcome_of now ++ outcomes_from (file_of all geo) bytes page (has_payload shape.kind shape.leaf) i vs (unused new)) (sym none)
    ∙ p)

pub going_used : {S : Type 0} {told attached : S → Option (List ℕ)} {faults reads : S → ℕ} {geo : Geometry} {bytes : List ℕ}
    {shape : PageShape} {page : ℕ} {src0 src : S} {old new : Table} {before now : List CellOutcome} {i : ℕ} {marks : List Bool}
    → Going told attached faults reads geo bytes shape page src0 src old new before now i marks → Uses old new before now
going_used was = record { more = was.more; all = was.all; table = was.table }

pub going_adds : {S : Type 0} {told attached : S → Option (List ℕ)} {faults reads : S → ℕ} {geo : Geometry} {bytes : List ℕ}
    {shape : PageShape} {page : ℕ} {src0 src : S} {old new : Table} {before now : List CellOutcome} {i : ℕ} {marks : List Bool}
    → Going told attached faults reads geo bytes shape page src0 src old new before now i marks → i ≤ shape.cells
    → HasArray geo.usable shape → Adds geo.usable geo.pages page before now
going_adds was le array =
    record { more = was.more; all = was.all; few = omega (arith, was.few, array.ends, array.within); small = was.small }

pub going_pages : {S : Type 0} {told attached : S → Option (List ℕ)} {faults reads : S → ℕ} {geo : Geometry} {bytes : List ℕ}
    {shape : PageShape} {page : ℕ} {src0 src : S} {old new : Table} {before now : List CellOutcome} {i : ℕ} {marks : List Bool}
    → Going told attached faults reads geo bytes shape page src0 src old new before now i marks
    → old.pages ≡ geo.pages → new.pages ≡ geo.pages
going_pages was same = was.moves.same_pages ∙ same

pub going_lists : {S : Type 0} {told attached : S → Option (List ℕ)} {faults reads : S → ℕ} {geo : Geometry} {bytes : List ℕ}
    {shape : PageShape} {page : ℕ} {src0 src : S} {old new : Table} {before now : List CellOutcome} {i : ℕ} {marks : List Bool}
    → Going told attached faults reads geo bytes shape page src0 src old new before now i marks
    → 7 ≤ length old.lists → 7 ≤ length new.lists
going_lists was many = omega (arith, was.moves.same_lists, many)

-- what a call leaves that ends the loop
pub going_moves : {S : Type 0} {told attached : S → Option (List ℕ)} {faults reads : S → ℕ} {geo : Geometry} {bytes : List ℕ}
    {shape : PageShape} {page : ℕ} {src0 src : S} {old new : Table} {before now : List CellOutcome} {i : ℕ} {marks : List Bool}
    → (new' : Table) → Going told attached faults reads geo bytes shape page src0 src old new before now i marks
    → Moves OVERFLOW_LIST new new' → Moves OVERFLOW_LIST old new'
going_moves {old = old} {new} new' was moves = Moves-append OVERFLOW_LIST old new new' (omega arith) was.moves moves

pub going_reads : {S : Type 0} {told attached : S → Option (List ℕ)} {faults reads : S → ℕ} {geo : Geometry} {bytes : List ℕ}
    {shape : PageShape} {page : ℕ} {src0 src : S} {old new : Table} {before now : List CellOutcome} {i : ℕ} {marks : List Bool}
    → (new' : Table) (later more : ℕ) → Going told attached faults reads geo bytes shape page src0 src old new before now i marks
    → ReadsEach (told src) geo new new' (reads src) later more → ReadsEach (told src0) geo old new' (reads src0) later more
going_reads {told = told} {reads = reads} {geo = geo} {src0 = src0} {src} {old} {new} new' later more was read =
    both_told (λ all. IsWhole all geo → reads src + length (unused new) ≤ reads src0 + length (unused old) + 0)
    (λ all. IsWhole all geo → later + length (unused new') ≤ reads src + length (unused new) + more)
    (λ all. IsWhole all geo → later + length (unused new') ≤ reads src0 + length (unused old) + more)
    (told src0) (told src) was.kept.told (λ all p q whole. omega (arith, p whole, q whole)) was.read read
