-- The turns of a tree's cells take their overflow chains, and read their records.
use Rattle.std.proofs.Common.{◌≡◌, ◌≤◌, ℕ, zero, suc, ◌+◌, ◌-◌, ◌==◌, Bool, true, false, Option, Some, None, Result, Ok, List, [], ◌∷◌, ◌++◌, map, take, refl, sym, ap, ◌∙◌, subst, arith, append-nil}
use Rattle.std.specs.Prelude.{if◌then◌else◌}
use Rattle.std.specs.List.{AllByRecursion, flat_map, slice_range}
use Rattle.std.proofs.lemmas.Bool.Decides.{nat_tests}
use Rattle.std.proofs.lemmas.Grind.{flat_map-append}
use Rattle.page_access.specs.Pages.{File, page_at}
use Rattle.page_lists.specs.Lists.{IsPartOf, minus}
use Rattle.page_lists.proofs.Counts.{count-append, count-minus}
use Rattle.record_core.specs.declared.values.Value.{Value}
use Rattle.record_core.specs.declared.faults.RecordFault.{RecordFault}
use Rattle.record_core.specs.Record.{record_of}
use Rattle.record_core.proofs.Again.{record_again}
use Rattle.cell_reader.specs.declared.cells.CellView.{CellView}
use Rattle.cell_reader.specs.declared.shapes.Kind.{Kind}
use Rattle.cell_reader.specs.declared.shapes.PageShape.{PageShape}
use Rattle.cell_reader.specs.Inside.{has_payload}
use Rattle.cell_reader.specs.Screen.{Verdict, Accepts}
use Rattle.overflow_chain.specs.Chain.{contents}
use Rattle.overflow_chain.specs.declared.ChainEnd.{ChainEnd}
use Rattle.overflow_chain.specs.declared.ChainEnd.TheVariants.{Whole}
use Rattle.overflow_chain.proofs.Longest.{whole_turn_is_chain}
use Rattle.page_walk.specs.Cells.{Outcome, Read, Row, bytes_from, chain_of as outcome_chain, chains_of, end_from, ended_as, entry_at, missing, outcomes_from, outcomes_in, outcomes_on, outcomes_with, read_as, turn_from}
use Rattle.page_walk.specs.Evidence.{AreOnce}
use Rattle.page_walk.specs.Turns.{chains_on, turns_on}
use Rattle.page_walk.specs.Walk.{children}
use Rattle.page_walk.proofs.Chains.{entry_chain}
use Rattle.page_walk.proofs.Going.{all_append}
use Rattle.page_walk.proofs.Witness.{fewer_minus}
use Rattle.tree_forms.specs.Node.{Held, Node, cells_in, held_of, node_of}
use Rattle.tree_forms.specs.Payload.{ChainFrom, HasChain, chain_from, chain_of, missing_of, payload_of}
use Rattle.tree_forms.specs.Tree.{IsTree}
use Rattle.tree_forms.proofs.Saying.{page_read}
use Rattle.tree_walks.specs.Laws.{AreTurned, TreesAreTurned}
use Rattle.tree_walks.specs.Read.{HasRecord, read_on, row_at, rows_from, values_in}
use Rattle.tree_walks.specs.Rows.{all_chains, all_entries, cells_on, chains_at, entries_in, entries_on, entry_in, rows, tree_pages}
use Rattle.tree_walks.proofs.Accepted.{Sits, all_sit}
use Rattle.tree_walks.proofs.Levels.{generation}

take_nil : (n : ℕ) → take {A = ℕ} n [] ≡ []
take_nil zero = refl
take_nil (suc n) = refl

pub all_split : {X : Type 0} (P : X → Type 0) (xs ys : List X) → AllByRecursion P (xs ++ ys) → AllByRecursion P xs × AllByRecursion P ys
all_split P [] ys all = (tt, all)
all_split P (x ∷ xs) ys all = let rest = all_split P xs ys all.1 in ((all.0, rest.0), rest.1)

-- the turn of a chain none of whose pages is used takes the chain
turn_is : (f : File) (need : ℕ) (o : Option ℕ) (unused : List ℕ) → AreOnce f.pages unused → ChainFrom f need o → IsPartOf (chain_from f need o) unused
    → (end_from f need o unused ≡ Whole) × (turn_from f need o unused ≡ chain_from f need o)
    × (bytes_from f need o unused ≡ take need (contents f (chain_from f need o)))
turn_is f need None unused once chain part = (refl, refl, sym (take_nil need))
turn_is f need (Some q) unused once chain part =
    (whole_turn_is_chain f q need unused once).takes_it (chain_from f need (Some q)) (take need (contents f (chain_from f need (Some q)))) chain.0 part

-- the same of a cell on its page
cell_turn : (f : File) (page : List ℕ) (v : CellView) (unused : List ℕ) → Sits true page v → AreOnce f.pages unused → HasChain f (held_of page v)
    → IsPartOf (chain_of f (held_of page v)) unused
    → (end_from f (missing v) v.overflow unused ≡ Whole) × (turn_from f (missing v) v.overflow unused ≡ chain_of f (held_of page v))
    × (bytes_from f (missing v) v.overflow unused ≡ take (missing_of (held_of page v)) (contents f (chain_of f (held_of page v))))
cell_turn f page v unused sits once chain part =
    let need : missing_of (held_of page v) ≡ missing v = ap (λ n. v.total - n) sits.local in
    let turn = turn_is f (missing_of (held_of page v)) v.overflow unused once chain part in (
      ap (λ n. end_from f n v.overflow unused) (sym need) ∙ turn.0,
      ap (λ n. turn_from f n v.overflow unused) (sym need) ∙ turn.1,
      ap (λ n. bytes_from f n v.overflow unused) (sym need) ∙ turn.2,
    )

cell_read : (f : File) (page : List ℕ) (p i : ℕ) (v : CellView) (unused : List ℕ) → Sits true page v → AreOnce f.pages unused → HasChain f (held_of page v)
    → IsPartOf (chain_of f (held_of page v)) unused → HasRecord f (held_of page v) → entry_at f page p i v unused ≡ Read (row_at f p i (held_of page v))
unfolding entry_at payload_of
cell_read f page p i v unused sits once chain part r =
    let local : List ℕ = slice_range page v.local_start v.local_end in
    let h : Held = held_of page v in
    let turn = cell_turn f page v unused sits once chain part in
    let read : record_of (payload_of f h) ≡ Ok r.values = record_again (payload_of f h) r.values r.spelled r.few in
    ap (λ (end : ChainEnd). ended_as p i v.rowid (turn_from f (missing v) v.overflow unused) (local ++ bytes_from f (missing v) v.overflow unused) end) turn.0
    ∙ ap (λ (chain : List ℕ). read_as p i v.rowid chain (record_of (local ++ bytes_from f (missing v) v.overflow unused))) turn.1
    ∙ ap (λ (bytes : List ℕ). read_as p i v.rowid (chain_of f h) (record_of (local ++ bytes))) turn.2
    ∙ ap (read_as p i v.rowid (chain_of f h)) read
    ∙ ap (λ (x : Result (List Value) RecordFault). Read (record { page = p; cell = i; rowid = v.rowid; chain = chain_of f h; fields = values_in x })) (sym read)

-- a cell with a payload is an entry
is_entry : (h : Held) → 1 ≤ h.total → (h.total == 0) ≡ false
is_entry h some = grind (arith, nat_tests, some)

entry_of : (P : Held → Type 0) (h : Held) (hs : List Held) → 1 ≤ h.total → ((g : Held) → P g → P (record g { child = h.child }))
    → AllByRecursion P (entries_in (h ∷ hs)) → P h × AllByRecursion P (entries_in hs)
entry_of P h hs some back all =
    let one : entry_in h ≡ record h { child = None } ∷ [] = rw (is_entry h some) refl in
    let both : AllByRecursion P ((record h { child = None } ∷ []) ++ entries_in hs) = subst (λ (xs : List Held). AllByRecursion P (xs ++ entries_in hs)) one all in
    (back (record h { child = None }) both.0, both.1)

chain_back : (f : File) (h g : Held) → HasChain f g → HasChain f (record g { child = h.child })
chain_back f h g has = has

record_back : (f : File) (h g : Held) → HasRecord f g → HasRecord f (record g { child = h.child })
unfolding payload_of
record_back f h g has = record { values = has.values; spelled = has.spelled; few = has.few }

part_front : (xs ys unused : List ℕ) → IsPartOf (xs ++ ys) unused → IsPartOf xs unused × IsPartOf ys (minus unused xs)
part_front xs ys unused part =
    let first : IsPartOf xs unused = λ q. omega (arith, part q, count-append q xs ys) in
    (first, λ q. omega (arith, part q, count-append q xs ys, count-minus q unused xs first))

-- the turns of cells that have a payload
chains_true : (f : File) (page : List ℕ) (p i : ℕ) (views : List CellView) (unused : List ℕ) → AllByRecursion (Sits true page) views
    → AllByRecursion (HasChain f) (entries_in (map (held_of page) views)) → AreOnce f.pages unused
    → IsPartOf (flat_map (chain_of f) (map (held_of page) views)) unused
    → chains_of (outcomes_from f page p true i (map Accepts views) unused) ≡ flat_map (chain_of f) (map (held_of page) views)
chains_true f page p i [] unused sit chains once part = refl
chains_true f page p i (v ∷ views) unused sit chains once part =
    let h : Held = held_of page v in
    let hs : List Held = map (held_of page) views in
    let both = entry_of (HasChain f) h hs sit.0.total (chain_back f h) chains in
    let parts = part_front (chain_of f h) (flat_map (chain_of f) hs) unused part in
    let here : chains_of (entry_at f page p i v unused ∷ []) ≡ chain_of f h =
    append-nil _ ∙ entry_chain f page p i v unused ∙ (cell_turn f page v unused sit.0 once both.0 parts.0).1 in
    flat_map-append outcome_chain (entry_at f page p i v unused ∷ []) (outcomes_from f page p true (i + 1) (map Accepts views) (minus unused (chains_of (entry_at f page p i v unused ∷ []))))
    ∙ ap (λ (xs : List ℕ). xs ++ chains_of (outcomes_from f page p true (i + 1) (map Accepts views) (minus unused xs))) here
    ∙ ap (λ (xs : List ℕ). chain_of f h ++ xs)
    (chains_true f page p (i + 1) views (minus unused (chain_of f h)) sit.1 both.1 (λ q. omega (arith, once q, fewer_minus q unused (chain_of f h))) parts.1)

reads_true : (f : File) (page : List ℕ) (p i : ℕ) (views : List CellView) (unused : List ℕ) → AllByRecursion (Sits true page) views
    → AllByRecursion (HasChain f) (entries_in (map (held_of page) views)) → AreOnce f.pages unused
    → IsPartOf (flat_map (chain_of f) (map (held_of page) views)) unused
    → AllByRecursion (HasRecord f) (entries_in (map (held_of page) views))
    → outcomes_from f page p true i (map Accepts views) unused ≡ map Read (rows_from f p i (map (held_of page) views))
reads_true f page p i [] unused sit chains once part records = refl
reads_true f page p i (v ∷ views) unused sit chains once part records =
    let h : Held = held_of page v in
    let hs : List Held = map (held_of page) views in
    let both = entry_of (HasChain f) h hs sit.0.total (chain_back f h) chains in
    let shown = entry_of (HasRecord f) h hs sit.0.total (record_back f h) records in
    let parts = part_front (chain_of f h) (flat_map (chain_of f) hs) unused part in
    let here : entry_at f page p i v unused ≡ Read (row_at f p i h) = cell_read f page p i v unused sit.0 once both.0 parts.0 shown.0 in
    let some : (if h.total == 0 then [] else row_at f p i h ∷ []) ≡ row_at f p i h ∷ [] = rw (is_entry h sit.0.total) refl in
    ap (λ (o : Outcome). o ∷ outcomes_from f page p true (i + 1) (map Accepts views) (minus unused (chains_of (o ∷ [])))) here
    ∙ ap (λ (xs : List ℕ). Read (row_at f p i h) ∷ outcomes_from f page p true (i + 1) (map Accepts views) (minus unused xs)) (append-nil (chain_of f h))
    ∙ ap (λ (os : List Outcome). Read (row_at f p i h) ∷ os)
    (reads_true f page p (i + 1) views (minus unused (chain_of f h)) sit.1 both.1 (λ q. omega (arith, once q, fewer_minus q unused (chain_of f h))) parts.1 shown.1)
    ∙ ap (λ (rs : List Row). map Read (rs ++ rows_from f p (i + 1) hs)) (sym some)

-- cells without a payload have no turns
none_false : (f : File) (page : List ℕ) (p i : ℕ) (views : List CellView) (unused : List ℕ) → outcomes_from f page p false i (map Accepts views) unused ≡ []
none_false f page p i [] unused = refl
none_false f page p i (v ∷ views) unused = none_false f page p (i + 1) views unused

chains_false : (f : File) (page : List ℕ) (views : List CellView) → AllByRecursion (Sits false page) views
    → flat_map (chain_of f) (map (held_of page) views) ≡ []
chains_false f page [] sit = refl
chains_false f page (v ∷ views) sit =
    let gone : chain_of f (held_of page v) ≡ [] = ap (chain_from f (missing_of (held_of page v))) (sit.0.over refl) in
    ap (λ (xs : List ℕ). xs ++ flat_map (chain_of f) (map (held_of page) views)) gone ∙ chains_false f page views sit.1

rows_false : (f : File) (page : List ℕ) (p i : ℕ) (views : List CellView) → AllByRecursion (Sits false page) views → rows_from f p i (map (held_of page) views) ≡ []
rows_false f page p i [] sit = refl
rows_false f page p i (v ∷ views) sit =
    let h : Held = held_of page v in
    let none : (if h.total == 0 then [] else row_at f p i h ∷ []) ≡ [] = rw sit.0.total refl in
    ap (λ (rs : List Row). rs ++ rows_from f p (i + 1) (map (held_of page) views)) none ∙ rows_false f page p (i + 1) views sit.1

-- a page that says something
abbrev pub Says : File → ℕ → Type 0
Says f p = (n : Node) × (node_of f p ≡ Some n)

-- the cells of a page that it says
record Turns (f : File) (p : ℕ) (page : List ℕ) (os : List Outcome) (hs : List Held) : Type 0 where
  chains : chains_of os ≡ flat_map (chain_of f) hs
  reads : AllByRecursion (HasRecord f) (entries_in hs) → os ≡ map Read (rows_from f p 0 hs)

by_payload : (f : File) (page : List ℕ) (p : ℕ) (b : Bool) (views : List CellView) (unused : List ℕ) → AllByRecursion (Sits b page) views
    → AllByRecursion (HasChain f) (entries_in (map (held_of page) views)) → AreOnce f.pages unused
    → IsPartOf (flat_map (chain_of f) (map (held_of page) views)) unused
    → Turns f p page (outcomes_from f page p b 0 (map Accepts views) unused) (map (held_of page) views)
by_payload f page p true views unused sit chains once part = record {
  chains = chains_true f page p 0 views unused sit chains once part;
  reads = reads_true f page p 0 views unused sit chains once part;
}
by_payload f page p false views unused sit chains once part = record {
  chains = ap chains_of (none_false f page p 0 views unused) ∙ sym (chains_false f page views sit);
  reads = λ records. none_false f page p 0 views unused ∙ ap (map Read) (sym (rows_false f page p 0 views sit));
}

page_turns : (f : File) (p : ℕ) (unused : List ℕ) (says : Says f p) → AllByRecursion (HasChain f) (entries_on f p) → AreOnce f.pages unused
    → IsPartOf (chains_at f p) unused → Turns f p (page_at f p) (outcomes_on f p unused) (cells_on f p)
unfolding outcomes_in
page_turns f p unused says chains once part =
    let n : Node = says.0 in
    let r = page_read f p n says.1 in
    let page : List ℕ = page_at f p in
    let cells : cells_on f p ≡ map (held_of page) r.views = ap cells_in says.1 ∙ r.cells_are in
    let payload : Bool = has_payload r.shape.kind r.shape.leaf in
    let out : outcomes_on f p unused ≡ outcomes_from f page p payload 0 (map Accepts r.views) unused =
    ap (λ (s : Option PageShape). outcomes_with f p s unused) r.has_shape
    ∙ ap (λ (vs : List Verdict). outcomes_from f page p payload 0 vs unused) r.kept in
    let is = by_payload f page p payload r.views unused (all_sit page f.usable f.pages r.shape r.views r.kept)
    (subst (λ (hs : List Held). AllByRecursion (HasChain f) (entries_in hs)) cells chains) once
    (subst (λ (hs : List Held). IsPartOf (flat_map (chain_of f) hs) unused) cells part) in
    subst (λ (os : List Outcome). Turns f p page os (cells_on f p)) (sym out)
    (subst (λ (hs : List Held). Turns f p page (outcomes_from f page p payload 0 (map Accepts r.views) unused) hs) (sym cells) is)

-- the same of pages, one after another
pub pages_turned : (f : File) (ps unused : List ℕ) → AllByRecursion (Says f) ps → AllByRecursion (HasChain f) (all_entries f ps) → AreOnce f.pages unused
    → IsPartOf (all_chains f ps) unused → AreTurned f ps unused
pages_turned f [] unused say chains once part = record { chains = refl; turns = λ records. refl }
pages_turned f (p ∷ ps) unused say chains once part =
    let split = all_split (HasChain f) (entries_on f p) (all_entries f ps) chains in
    let parts = part_front (chains_at f p) (all_chains f ps) unused part in
    let here = page_turns f p unused say.0 split.0 once parts.0 in
    let later = pages_turned f ps (minus unused (chains_at f p)) say.1 split.1 (λ q. omega (arith, once q, fewer_minus q unused (chains_at f p))) parts.1 in
    record {
      chains = ap (λ (xs : List ℕ). xs ++ chains_on f ps (minus unused xs)) here.chains ∙ ap (λ (xs : List ℕ). chains_at f p ++ xs) later.chains;
      turns = λ records.
          let shown = all_split (HasRecord f) (entries_on f p) (all_entries f ps) records in
          ap (λ (xs : List ℕ). (p, outcomes_on f p unused) ∷ turns_on f ps (minus unused xs)) here.chains
          ∙ ap (λ (os : List Outcome). (p, os) ∷ turns_on f ps (minus unused (chains_at f p))) (here.reads shown.0)
          ∙ ap (λ (ts : List (ℕ × List Outcome)). read_on f p ∷ ts) (later.turns shown.1);
    }

-- the pages of trees say something
pub root_says : (f : File) (kind : Kind) (r d p : ℕ) → IsTree (node_of f) kind r d p → Says f p
root_says f kind r zero p t = (t.0, t.1.is)
root_says f kind r (suc d) p t = (t.0, t.1.is)

roots_say : (f : File) (kind : Kind) (r d : ℕ) (ps : List ℕ) → AllByRecursion (IsTree (node_of f) kind r d) ps → AllByRecursion (Says f) ps
roots_say f kind r d [] trees = tt
roots_say f kind r d (p ∷ ps) trees = (root_says f kind r d p trees.0, roots_say f kind r d ps trees.1)

pub rows_say : (f : File) (kind : Kind) (r d : ℕ) (ps : List ℕ) → AllByRecursion (IsTree (node_of f) kind r d) ps → AllByRecursion (Says f) (rows (children f) d ps)
rows_say f kind r zero ps trees = roots_say f kind r zero ps trees
rows_say f kind r (suc d) ps trees =
    all_append (Says f) ps (rows (children f) d (flat_map (children f) ps)) (roots_say f kind r (suc d) ps trees)
    (rows_say f kind r d (flat_map (children f) ps) (generation f kind r d ps trees))

pub trees_are_turned : TreesAreTurned
unfolding tree_pages
trees_are_turned f kind p depth unused tree chains once part =
    pages_turned f (rows (children f) depth (p ∷ [])) unused (rows_say f kind p depth (p ∷ []) (tree, tt)) chains once part
