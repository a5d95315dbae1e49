-- A row whose page is touched and whose chain is clear is read at its turn.
use Rattle.std.proofs.Common.{◌≡◌, ◌≤◌, ◌<◌, ℕ, zero, suc, ◌+◌, ◌==◌, Bool, true, false, Option, Some, None, List, [], ◌∷◌, ◌++◌, slice_get, nat_lt, refl, sym, ◌∙◌, ap, subst, inl, inr, arith}
use Rattle.std.specs.Prelude.{if◌then◌else◌, option_to_list}
use Rattle.std.specs.List.{AllByRecursion, Contains, filter, flat_map}
use Rattle.std.proofs.lemmas.Bool.{false≢true, or_right}
use Rattle.std.proofs.lemmas.Bool.Decides.{eqb_tells, nat_tests}
use Rattle.std.proofs.lemmas.List.Elements.{Contains-append_left, Contains-append_right}
use Rattle.page_access.specs.Pages.{File}
use Rattle.page_lists.specs.Lists.{IsPartOf, count, is_in, minus}
use Rattle.page_lists.specs.Table.{is_page}
use Rattle.page_lists.proofs.Counts.{at_most_one, count-append, count_in, in_from_count, in_head, in_or_not, part_none}
use Rattle.cell_reader.specs.declared.cells.CellView.{CellView}
use Rattle.cell_reader.specs.Screen.{Verdict, Accepts}
use Rattle.overflow_chain.specs.Chain.{Linked, next_page}
use Rattle.page_walk.specs.Cells.{Outcome, Row, chain_of, chains_of, missing, outcomes_on}
use Rattle.page_walk.specs.Evidence.{AreOnce, Evidence, IsRest}
use Rattle.page_walk.specs.Laws.{is_before, left_before}
use Rattle.page_walk.specs.Page.{verdicts_on}
use Rattle.page_walk.specs.Rows.{rows_of}
use Rattle.page_walk.specs.Turns.{left_by, turns_on}
use Rattle.page_walk.proofs.Chains.{page_part}
use Rattle.page_walk.proofs.Readable.{readable_are_read}
use Rattle.raw_schema.specs.Schema.{cells_in}
use Rattle.clear_paths.specs.Clear.{IsClear, Touched, all_pages, named, next_on, overflow_by, overflows_on, touched}
use Rattle.clear_paths.proofs.Measures.{times}
use Rattle.clear_paths.proofs.Moments.{Moment, Takes, Used, asked_take, chain_used, moment_once, more_used, overflow_touched, takes_more}
use Rattle.clear_paths.proofs.Naming.{asked_by, next_there, page_asked, some_asked}
use Rattle.clear_paths.proofs.Room.{HasRoom, unused_by_next, unused_by_overflow}

-- ---- the chain

module _ {f : File} {roots : List ℕ} {d : Used} {u : List ℕ} (m : Moment f roots d u) (room : HasRoom f roots d) where
  -- a page that is unused and touched where it is clear
  abbrev IsFree : ℕ → Type 0
  IsFree q = IsClear f roots q → (is_in q u ≡ true) × Touched f roots q

  links_unused : (first : ℕ) (pages : List ℕ) → Linked (next_page f) first pages → AllByRecursion (IsClear f roots) pages → IsFree first
      → (q : ℕ) → is_in q pages ≡ true → is_in q u ≡ true
  links_unused first [] linked clear begins q there = absurd (false≢true there)
  links_unused first (p ∷ ps) linked clear begins q there =
      let here : (is_in p u ≡ true) × Touched f roots p = (subst (λ (x : ℕ). IsFree x) (sym linked.0) begins) clear.0 in
      let next : ℕ = next_page f p in
      elim (eqb_tells p q) [
        | inl w ↦ subst (λ (x : ℕ). is_in x u ≡ true) w.1 here.0
        | inr w ↦
            links_unused next ps linked.1 clear.1
            (λ c. (unused_by_next m p next room c here.0 here.1 (in_head next []), named p next here.1 (next_there f p) c.of_file)) q (rw w.0 at there)
      ]

  rest_unused : (need : ℕ) (overflow : Option ℕ) (chain rest : List ℕ) → IsRest f need overflow chain rest → AllByRecursion (IsClear f roots) chain
      → ((q : ℕ) → is_in q (option_to_list overflow) ≡ true → IsFree q) → IsPartOf chain u
  rest_unused need None chain rest is clear begins q = subst (λ (xs : List ℕ). count q xs ≤ count q u) (sym is.0) (part_none u q)
  rest_unused need (Some first) chain rest is clear begins q =
      elim (in_or_not q chain) [
        | inl w ↦
            let free : is_in q u ≡ true = links_unused first chain is.linked clear (begins first (in_head first [])) q w.0 in
            omega (arith, is.inside q, at_most_one (is_page f.pages q), count_in q u free)
        | inr w ↦ omega (arith, w.1)
      ]

-- ---- the cells before it on its page

if_less : (b : Bool) (xs : List ℕ) (q : ℕ) → count q (if b then xs else []) ≤ count q xs
if_less true xs q = omega arith
if_less false xs q = omega arith

asked_less : (t : ℕ → Bool) (i : ℕ) (vs : List Verdict) (q : ℕ) → count q (asked_by t i vs) ≤ count q (flat_map overflow_by vs)
asked_less t i [] q = omega arith
asked_less t i (v ∷ vs) q =
    omega (
      arith,
      if_less (t i) (overflow_by v) q,
      asked_less t (i + 1) vs q,
      count-append q (overflow_by v) (flat_map overflow_by vs),
      count-append q (if t i then overflow_by v else []) (asked_by t (i + 1) vs),
    )

abbrev below : ℕ → ℕ → Bool
below k i = nat_lt i k

-- the cells before an accepted cell leave its overflow number
asked_room : (k i : ℕ) (vs : List Verdict) (j : ℕ) (v : CellView) (q : ℕ) → slice_get vs j ≡ Some (Accepts v) → k ≡ i + j
    → count q (asked_by (below k) i vs) + count q (option_to_list v.overflow) ≤ count q (flat_map overflow_by vs)
asked_room k i [] j v q got same = absurd cc
asked_room k i (w ∷ vs) zero v q got same =
    let is : w ≡ Accepts v = cc in
    let over : overflow_by w ≡ option_to_list v.overflow = ap overflow_by is in
    let no : nat_lt i k ≡ false = grind (arith, nat_tests) in
    let none : count q (if nat_lt i k then overflow_by w else []) ≡ 0 = ap (λ (b : Bool). count q (if b then overflow_by w else [])) no in
    omega (
      arith,
      none,
      ap (count q) over,
      asked_less (below k) (i + 1) vs q,
      count-append q (overflow_by w) (flat_map overflow_by vs),
      count-append q (if nat_lt i k then overflow_by w else []) (asked_by (below k) (i + 1) vs),
    )
asked_room k i (w ∷ vs) (suc j) v q got same =
    omega (
      arith,
      if_less (nat_lt i k) (overflow_by w) q,
      asked_room k (i + 1) vs j v q got (omega (arith, same)),
      count-append q (overflow_by w) (flat_map overflow_by vs),
      count-append q (if nat_lt i k then overflow_by w else []) (asked_by (below k) (i + 1) vs),
    )

some_fewer : (t : Outcome → Bool) (os : List Outcome) (q : ℕ) → count q (chains_of (filter t os)) ≤ count q (chains_of os)
some_fewer t [] q = omega arith
some_fewer t (o ∷ os) q = by_test (some_fewer t os q) (t o)
  where
    by_test : count q (chains_of (filter t os)) ≤ count q (chains_of os) → (b : Bool) → count q (chains_of (if b then o ∷ filter t os else filter t os)) ≤ count q (chains_of (o ∷ os))
    by_test less true =
        omega (arith, less, count-append q (chain_of o) (chains_of (filter t os)), count-append q (chain_of o) (chains_of os))
    by_test less false = omega (arith, less, count-append q (chain_of o) (chains_of os))

-- ---- its page

module _ {f : File} {roots : List ℕ} {row : Row} (e : Evidence f row) (clear : AllByRecursion (IsClear f roots) row.chain) where
  page_read : {d : Used} {u : List ℕ} → Moment f roots d u → HasRoom f roots d → Touched f roots row.page
      → ((q : ℕ) → count q d.asked + count q (overflows_on f row.page) ≤ times (overflows_on f) (touched f roots) q)
      → Contains (rows_of (outcomes_on f row.page u)) row
  page_read {d} {u} m room t more =
      let once : AreOnce f.pages u = moment_once f roots d u m in
      let cs : List ℕ = chains_of (filter (is_before row.cell) (outcomes_on f row.page u)) in
      let asked : List ℕ = asked_by (below row.cell) 0 (verdicts_on f row.page) in
      let fewer : (q : ℕ) → count q asked ≤ count q (overflows_on f row.page) = asked_less (below row.cell) 0 (verdicts_on f row.page) in
      let own : (q : ℕ) → count q asked + count q (option_to_list e.view.overflow) ≤ count q (overflows_on f row.page) =
      λ q. asked_room row.cell 0 (verdicts_on f row.page) row.cell e.view q e.accepted (omega arith) in
      let part : IsPartOf cs u = λ q. omega (arith, some_fewer (is_before row.cell) (outcomes_on f row.page u) q, page_part f row.page u q) in
      let before : Takes f roots (chain_used asked cs) u (minus u cs) =
      asked_take f roots u asked cs part (some_asked (below row.cell) f roots row.page u once)
      (λ r there page. overflow_touched f roots row.page r t
      (in_from_count r (overflows_on f row.page) (omega (arith, fewer r, count_in r asked there))) page) in
      let m' : Moment f roots (more_used d (chain_used asked cs)) (minus u cs) = takes_more f roots d (chain_used asked cs) (all_pages f) u (minus u cs) m before in
      let room' : HasRoom f roots (more_used d (chain_used asked cs)) = record {
        seen = λ q. omega (arith, room.seen q, count-append q d.seen []);
        asked = λ q. omega (arith, more q, fewer q, count-append q d.asked asked);
      } in
      let free : IsPartOf row.chain (left_before f row.page row.cell u) =
      rest_unused m' room' (missing e.view) e.view.overflow row.chain e.rest e.chain clear
      (λ q there c.
      let one : 1 ≤ count q (option_to_list e.view.overflow) = count_in q (option_to_list e.view.overflow) there in (
        unused_by_overflow m' q room' c (omega (arith, more q, own q, one, count-append q d.asked asked)),
        overflow_touched f roots row.page q t (in_from_count q (overflows_on f row.page) (omega (arith, own q, one))) c.of_file,
      )) in
      (readable_are_read f row.page u row e.of_file once).1 (record { evidence = e; on_page = refl; free = free })

  -- its page is one of these
  pub pages_read : {d : Used} {u : List ℕ} (ps : List ℕ) → Moment f roots d u → HasRoom f roots d → ((p : ℕ) → is_in p ps ≡ true → Touched f roots p)
      → ((q : ℕ) → count q d.asked + times (overflows_on f) ps q ≤ times (overflows_on f) (touched f roots) q)
      → is_in row.page ps ≡ true → Contains (cells_in (turns_on f ps u)) row
  pages_read [] m room are more there = absurd (false≢true there)
  pages_read {d} {u} (p ∷ ps) m room are more there =
      let t : Touched f roots p = are p (in_head p ps) in
      let here : List Outcome = outcomes_on f p u in
      let later : List Row = cells_in (turns_on f ps (left_by f p u)) in
      let split : (q : ℕ) → times (overflows_on f) (p ∷ ps) q ≡ count q (overflows_on f p) + times (overflows_on f) ps q =
      λ q. count-append q (overflows_on f p) (flat_map (overflows_on f) ps) in
      elim (eqb_tells p row.page) [
        | inl w ↦
            let own : (q : ℕ) → count q d.asked + count q (overflows_on f row.page) ≤ times (overflows_on f) (touched f roots) q =
            subst (λ (x : ℕ). (q : ℕ) → count q d.asked + count q (overflows_on f x) ≤ times (overflows_on f) (touched f roots) q) w.1
            (λ q. omega (arith, more q, split q)) in
            Contains-append_left (rows_of here) later row
            (subst (λ (x : ℕ). Contains (rows_of (outcomes_on f x u)) row) (sym w.1) (page_read m room (subst (Touched f roots) w.1 t) own))
        | inr w ↦
            let used : Used = chain_used (overflows_on f p) (chains_of here) in
            let step : Takes f roots used u (left_by f p u) =
            asked_take f roots u (overflows_on f p) (chains_of here) (page_part f p u) (page_asked f roots p u (moment_once f roots d u m))
            (λ r h page. overflow_touched f roots p r t h page) in
            let room' : HasRoom f roots (more_used d used) = record {
              seen = λ q. omega (arith, room.seen q, count-append q d.seen []);
              asked = λ q. omega (arith, more q, split q, count-append q d.asked (overflows_on f p));
            } in
            Contains-append_right (rows_of here) later row
            (pages_read {d = more_used d used} {u = left_by f p u} ps (takes_more f roots d used (all_pages f) u (left_by f p u) m step) room'
            (λ r h. are r (or_right (p == r) (is_in r ps) h)) (λ q. omega (arith, more q, split q, count-append q d.asked (overflows_on f p)))
            (rw w.0 at there))
      ]
