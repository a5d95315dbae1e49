-- The page of an index among the pages of a plan.
use Rattle.std.proofs.Common.{◌≡◌, ◌<◌, ◌≤◌, ◌⊎◌, inl, inr, ℕ, zero, suc, ◌+◌, ◌-◌, ◌*◌, ◌^◌, Bool, true, false, List, [], ◌∷◌, ◌++◌, length, take, drop, get_or, map, nat_lt, nat_eq, sum_by, refl, sym, ap, ◌∙◌, subst, arith, length-append, length-take, length-drop}
use Rattle.std.specs.Prelude.{if◌then◌else◌, Some, None}
use Rattle.std.specs.List.{AllByRecursion}
use Rattle.std.proofs.Math.ListN.{get_or-append}
use Rattle.std.proofs.Math.Seq.{get_or-append_right}
use Rattle.std.proofs.lemmas.List.{get_or-drop, get_or-take, get_or-map, length-map, take_all}
use Rattle.std.proofs.lemmas.List.Sums.{sum_by_more, sum_by_more_le, sum_by-cons, sum_by-take-le}
use Rattle.std.proofs.lemmas.Bool.Decides.{nat_tests}
use Rattle.cell_reader.specs.declared.shapes.Kind.{Kind}
use Rattle.cell_reader.specs.declared.shapes.Kind.TheVariants.{Table, Index}
use Rattle.tree_writer.specs.declared.plans.PagePlan.{PagePlan}
use Rattle.tree_writer.specs.declared.plans.TreePlan.{TreePlan}
use Rattle.tree_writer.specs.Cells.{chain_pages, chains_from, item_overs, overs, width_of}
use Rattle.tree_writer.specs.Entry.{AreEntries, Entry, Item, no_item}
use Rattle.tree_writer.specs.Layout.{pages_from, schema_pages, sheet_page, sheet_pages, tree_pages}
use Rattle.tree_writer.specs.Levels.{Sheet, needs, pages_in, room_in, schema_sheets, schema_top, tree_sheets}
use Rattle.tree_writer.specs.Planned.{AreThere, HasNumbers, IsLaid, IsReady, SheetFits, index_of, inner_item, items_of, no_page, plan_at, right_index, sheet_for, shown, starts_from}
use Rattle.tree_writer.specs.Trees.{IsFirst, IsPlan, IsSchemaPlan, IsTreePlan, IsWritable, OfSchema, OfTree}
use Rattle.tree_writer.proofs.Chaining.{length-chain}
use Rattle.tree_writer.proofs.Items.{items_len, place_inner, place_leaf}
use Rattle.tree_writer.proofs.Needs.{Few, few_entries}

abbrev no_sheet : Sheet
no_sheet = record { leaf = true; items = []; right = 0 }

pub all_at : {X : Type 0} (P : X → Type 0) (d : X) (xs : List X) (j : ℕ) → AllByRecursion P xs → j < length xs → P (get_or xs j d)
all_at P d [] j all lt = absurd (omega arith)
all_at P d (x ∷ xs) zero all lt = all.0
all_at P d (x ∷ xs) (suc j) all lt = all_at P d xs j all.1 (omega arith)

-- ---- the sheet of a page

less : (a b : ℕ) → a < b → nat_lt a b ≡ true
less a b lt = grind (arith, nat_tests)

not_less : (a b : ℕ) → b ≤ a → nat_lt a b ≡ false
not_less a b le = grind (arith, nat_tests)

less_or_not : (a b : ℕ) → (a < b) ⊎ (b ≤ a)
less_or_not a b = by (nat_lt a b) refl
  where
    by : (t : Bool) → nat_lt a b ≡ t → (a < b) ⊎ (b ≤ a)
    by true e = inl (grind (arith, nat_tests))
    by false e = inr (grind (arith, nat_tests))

pub shown_at : (kind : Kind) (es : List Entry) (leaves : ℕ) (plans : List PagePlan) (j : ℕ) → leaves ≤ length plans → j < length plans
    → get_or (shown kind es leaves plans) j no_sheet ≡ sheet_for kind es plans (nat_lt j leaves) (plan_at plans j)
shown_at kind es leaves plans j le lt =
    let fronts = map (sheet_for kind es plans true) (take leaves plans) in
    let backs = map (sheet_for kind es plans false) (drop leaves plans) in
    let len : length (take leaves plans) ≡ leaves = omega (arith, length-take leaves plans) in
    let len_f : length fronts ≡ leaves = length-map (take leaves plans) (sheet_for kind es plans true) ∙ len in
    elim (less_or_not j leaves) [
      | inl few ↦ get_or-append fronts backs no_sheet j (omega (arith, len_f))
          ∙ get_or-map (sheet_for kind es plans true) (take leaves plans) j no_page no_sheet (omega (arith, len))
          ∙ ap (sheet_for kind es plans true) (get_or-take leaves plans j no_page few)
          ∙ sym (ap (λ b. sheet_for kind es plans b (plan_at plans j)) (less j leaves few))
      | inr many ↦ get_or-append_right fronts backs j no_sheet (omega (arith, len_f)) ∙ ap (λ n. get_or backs (j - n) no_sheet) len_f
          ∙ get_or-map (sheet_for kind es plans false) (drop leaves plans) (j - leaves) no_page no_sheet (omega (arith, length-drop leaves plans))
          ∙ ap (sheet_for kind es plans false) (get_or-drop leaves plans (j - leaves) no_page ∙ ap (plan_at plans) (omega arith))
          ∙ sym (ap (λ b. sheet_for kind es plans b (plan_at plans j)) (not_less j leaves many))
    ]

pub shown_len : (kind : Kind) (es : List Entry) (leaves : ℕ) (plans : List PagePlan) → leaves ≤ length plans → length (shown kind es leaves plans) ≡ length plans
shown_len kind es leaves plans le =
    omega (
      arith,
      length-append (map (sheet_for kind es plans true) (take leaves plans)) (map (sheet_for kind es plans false) (drop leaves plans)),
      length-map (take leaves plans) (sheet_for kind es plans true),
      length-map (drop leaves plans) (sheet_for kind es plans false),
      length-take leaves plans,
      length-drop leaves plans,
    )

-- ---- where a page begins

abbrev widths : ℕ → Kind → Sheet → ℕ
widths usable kind s = width_of usable kind s.items

starts_at : (usable : ℕ) (kind : Kind) (k : ℕ) (ss : List Sheet) (j : ℕ) → j < length ss → get_or (starts_from usable kind k ss) j 0 ≡ k + pages_in usable kind (take j ss)
starts_at usable kind k [] j lt = absurd (omega arith)
starts_at usable kind k (s ∷ ss) zero lt = omega arith
starts_at usable kind k (s ∷ ss) (suc j) lt =
    omega (arith, starts_at usable kind (k + width_of usable kind s.items) ss j (omega arith), sum_by-cons (widths usable kind) s (take j ss))

pub length-chains : (usable : ℕ) (kind : Kind) (number : ℕ → ℕ) (k : ℕ) (items : List Item) → length (chains_from usable kind number k items) ≡ overs usable kind items
length-chains usable kind number k [] = refl
length-chains usable kind number k (x ∷ xs) =
    omega (
      arith,
      length-append (chain_pages usable kind number k x.entry) (chains_from usable kind number (k + item_overs usable kind x) xs),
      length-chain usable kind number k x.entry,
      length-chains usable kind number (k + item_overs usable kind x) xs,
      sum_by-cons (item_overs usable kind) x xs,
    )

pub length-sheet : (usable : ℕ) (kind : Kind) (number : ℕ → ℕ) (k : ℕ) (s : Sheet) → length (sheet_pages usable kind number k s) ≡ width_of usable kind s.items
length-sheet usable kind number k s = ap suc (length-chains usable kind number (k + 1) s.items)

pages_at : (usable : ℕ) (kind : Kind) (number : ℕ → ℕ) (k : ℕ) (ss : List Sheet) (j r : ℕ) → j < length ss → r < width_of usable kind (get_or ss j no_sheet).items
    → get_or (pages_from usable kind number k ss) (pages_in usable kind (take j ss) + r) [] ≡ get_or (sheet_pages usable kind number (k + pages_in usable kind (take j ss)) (get_or ss j no_sheet)) r []
pages_at usable kind number k [] j r lt small = absurd (omega arith)
pages_at usable kind number k (s ∷ ss) zero r lt small =
    let a : pages_in usable kind [] + r ≡ r = omega arith in
    let b : k + pages_in usable kind [] ≡ k = omega arith in
    ap (λ n. get_or (pages_from usable kind number k (s ∷ ss)) n []) a
    ∙ get_or-append (sheet_pages usable kind number k s) (pages_from usable kind number (k + width_of usable kind s.items) ss) [] r (omega (arith, length-sheet usable kind number k s))
    ∙ sym (ap (λ n. get_or (sheet_pages usable kind number n s) r []) b)
pages_at usable kind number k (s ∷ ss) (suc j) r lt small =
    let w = width_of usable kind s.items in
    let sum = sum_by-cons (widths usable kind) s (take j ss) in
    let len = length-sheet usable kind number k s in
    let place : pages_in usable kind (take (suc j) (s ∷ ss)) + r - length (sheet_pages usable kind number k s) ≡ pages_in usable kind (take j ss) + r = omega (arith, sum, len) in
    let start : k + w + pages_in usable kind (take j ss) ≡ k + pages_in usable kind (take (suc j) (s ∷ ss)) = omega (arith, sum) in
    get_or-append_right (sheet_pages usable kind number k s) (pages_from usable kind number (k + w) ss) (pages_in usable kind (take (suc j) (s ∷ ss)) + r) [] (omega (arith, sum, len))
    ∙ ap (λ n. get_or (pages_from usable kind number (k + w) ss) n []) place
    ∙ pages_at usable kind number (k + w) ss j r (omega arith) small
    ∙ ap (λ n. get_or (sheet_pages usable kind number n (get_or ss j no_sheet)) r []) start

-- ---- the page of index k

pub record IsPlace (usable : ℕ) (kind : Kind) (es : List Entry) (leaves : ℕ) (plans : List PagePlan) (k j : ℕ) : Type 0 where
  pub low : (plan_at plans j).index ≤ k
  pub high : k < (plan_at plans j).index + 1 + overs usable kind (items_of kind es plans (nat_lt j leaves) (plan_at plans j))
  pub end : (plan_at plans j).index + 1 + overs usable kind (items_of kind es plans (nat_lt j leaves) (plan_at plans j)) ≤ pages_in usable kind (shown kind es leaves plans)
  pub page : (number : ℕ → ℕ) → get_or (pages_from usable kind number 0 (shown kind es leaves plans)) k []
      ≡ get_or (sheet_pages usable kind number (plan_at plans j).index (sheet_for kind es plans (nat_lt j leaves) (plan_at plans j))) (k - (plan_at plans j).index) []

index_at : (usable : ℕ) (kind : Kind) (es : List Entry) (leaves : ℕ) (plans : List PagePlan) (j : ℕ) → IsWritable usable kind es leaves plans → j < length plans
    → (plan_at plans j).index ≡ pages_in usable kind (take j (shown kind es leaves plans))
index_at usable kind es leaves plans j w lt =
    sym (get_or-map index_of plans j no_page 0 lt) ∙ ap (λ (t : List ℕ). get_or t j 0) w.starts
    ∙ starts_at usable kind 0 (shown kind es leaves plans) j (omega (arith, shown_len kind es leaves plans w.least)) ∙ omega arith

pub is_place : (usable : ℕ) (kind : Kind) (es : List Entry) (leaves : ℕ) (plans : List PagePlan) (k j : ℕ) → IsWritable usable kind es leaves plans → j < length plans
    → (plan_at plans j).index ≤ k → (j + 1 < length plans → k < (plan_at plans (j + 1)).index) → k < pages_in usable kind (shown kind es leaves plans)
    → IsPlace usable kind es leaves plans k j
is_place usable kind es leaves plans k j w lt low next there =
    let ss = shown kind es leaves plans in
    let len = shown_len kind es leaves plans w.least in
    let here : j < length ss = omega (arith, len) in
    let sheet = shown_at kind es leaves plans j w.least lt in
    let index = index_at usable kind es leaves plans j w lt in
    let more = sum_by_more (widths usable kind) ss j no_sheet here in
    let most = sum_by_more_le (widths usable kind) ss j no_sheet here in
    let width : widths usable kind (get_or ss j no_sheet) ≡ suc (overs usable kind (items_of kind es plans (nat_lt j leaves) (plan_at plans j))) = ap (widths usable kind) sheet in
    let high : k < (plan_at plans j).index + widths usable kind (get_or ss j no_sheet)
    = elim (less_or_not (j + 1) (length plans)) [
      | inl lt' ↦ omega (arith, next lt', index_at usable kind es leaves plans (j + 1) w lt', index, more)
      | inr le ↦ (let all : take (j + 1) ss ≡ ss = take_all (j + 1) ss (omega (arith, len)) in omega (arith, there, index, more, ap (pages_in usable kind) all))
    ] in
    record {
      low = low;
      high = omega (arith, high, width);
      end = omega (arith, index, most, width);
      page = λ number.
          let r = k - (plan_at plans j).index in
          let place : k ≡ pages_in usable kind (take j ss) + r = omega (arith, index, low) in
          let start : 0 + pages_in usable kind (take j ss) ≡ (plan_at plans j).index = omega (arith, index) in
          ap (λ n. get_or (pages_from usable kind number 0 ss) n []) place
          ∙ pages_at usable kind number 0 ss j r here (omega (arith, high))
          ∙ ap (λ n. get_or (sheet_pages usable kind number n (get_or ss j no_sheet)) r []) start
          ∙ ap (λ (s : Sheet). get_or (sheet_pages usable kind number (plan_at plans j).index s) r []) sheet;
    }

-- each index is one of the pages
pub index_most : (usable : ℕ) (kind : Kind) (es : List Entry) (leaves : ℕ) (plans : List PagePlan) (j : ℕ) → IsWritable usable kind es leaves plans
    → (plan_at plans j).index ≤ pages_in usable kind (shown kind es leaves plans)
index_most usable kind es leaves plans j w =
    elim (less_or_not j (length plans)) [
      | inl lt ↦ omega (arith, index_at usable kind es leaves plans j w lt, sum_by-take-le (widths usable kind) (shown kind es leaves plans) j)
      | inr le ↦ omega (arith, outside plans j le)
    ]
  where
    outside : (ps : List PagePlan) (i : ℕ) → length ps ≤ i → (plan_at ps i).index ≡ 0
    outside [] i le = refl
    outside (p ∷ ps) zero le = absurd (omega arith)
    outside (p ∷ ps) (suc i) le = outside ps i (omega arith)

-- there are numbers for a page whose children have indexes that are small enough
pub has_numbers : (kind : Kind) (es : List Entry) (plans : List PagePlan) (leaf : Bool) (p : PagePlan) (start next total : ℕ) → AreThere es plans leaf p
    → ((j : ℕ) → (plan_at plans j).index ≤ total) → 1 ≤ start → start + total < 2 ^ 32 - 1 → start + next < 2 ^ 32 - 1 → HasNumbers start next (sheet_for kind es plans leaf p)
has_numbers kind es plans true p start next total there most some small end = record {
  some = some;
  most = end;
  children = λ i lt. let e = ap (λ (x : Item). x.child) (place_leaf kind es plans true p i refl (omega (arith, lt, items_len kind es plans true p there)) there) in omega (arith, e);
  right = omega arith;
}
has_numbers kind es plans false p start next total there most some small end = record {
  some = some;
  most = end;
  children = λ i lt. let e = ap (λ (x : Item). x.child) (place_inner kind es plans false p i refl (omega (arith, lt, items_len kind es plans false p there)) there) in
      omega (arith, e, most (p.first + i));
  right = omega (arith, most (p.first + p.cells));
}

-- ---- plans can be written

there_at : (es : List Entry) (leaves : ℕ) (plans : List PagePlan) (j : ℕ) → AllByRecursion (AreThere es plans true) (take leaves plans) → AllByRecursion (AreThere es plans false) (drop leaves plans)
    → leaves ≤ length plans → j < length plans → AreThere es plans (nat_lt j leaves) (plan_at plans j)
there_at es leaves plans j a b le lt =
    elim (less_or_not j leaves) [
      | inl few ↦ subst (λ t. AreThere es plans t (plan_at plans j)) (sym (less j leaves few))
          (subst (AreThere es plans true) (get_or-take leaves plans j no_page few) (all_at (AreThere es plans true) no_page (take leaves plans) j a (omega (arith, length-take leaves plans))))
      | inr many ↦ subst (λ t. AreThere es plans t (plan_at plans j)) (sym (not_less j leaves many))
          (subst (AreThere es plans false) (get_or-drop leaves plans (j - leaves) no_page ∙ ap (plan_at plans) (omega arith))
          (all_at (AreThere es plans false) no_page (drop leaves plans) (j - leaves) b (omega (arith, length-drop leaves plans))))
    ]

pub writable : (usable : ℕ) (kind : Kind) (es : List Entry) (leaves : ℕ) (plans : List PagePlan) (sheets : List Sheet) → 512 ≤ usable → usable ≤ 65536 → AreEntries es
    → IsLaid usable kind es leaves plans sheets → pages_in usable kind sheets ≤ 2 ^ 31 + 1 → IsWritable usable kind es leaves plans
writable usable kind es leaves plans sheets least most entries l small =
    let few = few_entries usable kind es least entries in
    let len = shown_len kind es leaves plans l.least in
    record {
      starts = l.starts ∙ ap (starts_from usable kind 0) (sym l.sheets_are);
      ready = λ j lt.
          let sheet = shown_at kind es leaves plans j l.least lt in
          let width = ap (widths usable kind) sheet in
          let le = sum_by_more_le (widths usable kind) (shown kind es leaves plans) j no_sheet (omega (arith, len)) in
          record {
            least = omega arith;
            most = most;
            there = there_at es leaves plans j l.leaves_there l.inner_there l.least lt;
            small = λ i lt'. few.small i;
            few = omega (arith, width, le, ap (pages_in usable kind) l.sheets_are, small);
            fits = subst (SheetFits usable kind) sheet
                (all_at (SheetFits usable kind) no_sheet (shown kind es leaves plans) j (subst (AllByRecursion (SheetFits usable kind)) (sym l.sheets_are) l.fits) (omega (arith, len)));
          };
      least = l.least;
    }

-- ---- what write_below gives, with the values that its calls have

pub below_then : (usable : ℕ) (kind : Kind) (number : ℕ → ℕ) (es : List Entry) (leaves : ℕ) (plans : List PagePlan) (k j : ℕ) (seen : List PagePlan) (q : PagePlan) (to : List ℕ)
    → seen ≡ plans → q ≡ plan_at plans j → IsPlace usable kind es leaves plans k j → k ≡ q.index
    → to ≡ sheet_page [] usable kind number (q.index + 1) (sheet_for kind es seen (nat_lt j leaves) q)
    → to ≡ get_or (pages_from usable kind number 0 (shown kind es leaves plans)) k []
below_then usable kind number es leaves plans k j seen q to s p place e is =
    let f : List PagePlan → PagePlan → List ℕ = λ xs x. sheet_page [] usable kind number (x.index + 1) (sheet_for kind es xs (nat_lt j leaves) x) in
    let none : k - (plan_at plans j).index ≡ 0 = omega (arith, e, ap index_of p) in
    is ∙ ap (λ xs. f xs q) s ∙ ap (f plans) p
    ∙ sym (place.page number ∙ ap (λ n. get_or (sheet_pages usable kind number (plan_at plans j).index (sheet_for kind es plans (nat_lt j leaves) (plan_at plans j))) n []) none)

pub below_else : (usable : ℕ) (kind : Kind) (number : ℕ → ℕ) (es : List Entry) (leaves : ℕ) (plans : List PagePlan) (k j : ℕ) (seen : List PagePlan) (q : PagePlan) (to : List ℕ)
    → seen ≡ plans → q ≡ plan_at plans j → IsPlace usable kind es leaves plans k j → q.index + 1 ≤ k
    → to ≡ get_or (chains_from usable kind number (q.index + 1) (items_of kind es seen (nat_lt j leaves) q)) (k - (q.index + 1)) []
    → to ≡ get_or (pages_from usable kind number 0 (shown kind es leaves plans)) k []
below_else usable kind number es leaves plans k j seen q to s p place past is =
    let f : List PagePlan → PagePlan → List ℕ = λ xs x. get_or (chains_from usable kind number (x.index + 1) (items_of kind es xs (nat_lt j leaves) x)) (k - (x.index + 1)) [] in
    let more : k - (plan_at plans j).index ≡ suc (k - ((plan_at plans j).index + 1)) = omega (arith, past, ap index_of p) in
    is ∙ ap (λ xs. f xs q) s ∙ ap (f plans) p
    ∙ sym (place.page number ∙ ap (λ n. get_or (sheet_pages usable kind number (plan_at plans j).index (sheet_for kind es plans (nat_lt j leaves) (plan_at plans j))) n []) more)

-- what its calls ask
pub record BelowAsks (usable : ℕ) (kind : Kind) (es : List Entry) (leaves : ℕ) (plans : List PagePlan) (k j start : ℕ) (seen : List PagePlan) (q : PagePlan) : Type 0 where
  pub numbers : HasNumbers start (q.index + 1 + overs usable kind (items_of kind es seen (nat_lt j leaves) q)) (sheet_for kind es seen (nat_lt j leaves) q)
  pub high : k < q.index + 1 + overs usable kind (items_of kind es seen (nat_lt j leaves) q)
  pub end : start + (q.index + 1 + overs usable kind (items_of kind es seen (nat_lt j leaves) q)) < 2 ^ 32 - 1
  pub low : q.index ≤ k
  pub ready : IsReady usable kind es seen (nat_lt j leaves) q

pub below_asks : (usable : ℕ) (kind : Kind) (es : List Entry) (leaves : ℕ) (plans : List PagePlan) (k j start : ℕ) (seen : List PagePlan) (q : PagePlan)
    → seen ≡ plans → q ≡ plan_at plans j → IsWritable usable kind es leaves plans → IsPlace usable kind es leaves plans k j → j < length plans → 1 ≤ start
    → start + pages_in usable kind (shown kind es leaves plans) < 2 ^ 32 - 1 → BelowAsks usable kind es leaves plans k j start seen q
below_asks usable kind es leaves plans k j start seen q s p w place lt some small =
    let leaf = nat_lt j leaves in
    let x = plan_at plans j in
    let ready = w.ready j lt in
    let end : start + (x.index + 1 + overs usable kind (items_of kind es plans leaf x)) < 2 ^ 32 - 1 = omega (arith, place.end, small) in
    subst (λ (xs : List PagePlan). BelowAsks usable kind es leaves plans k j start xs q) (sym s)
    (subst (λ (y : PagePlan). BelowAsks usable kind es leaves plans k j start plans y) (sym p) (record {
      numbers = has_numbers kind es plans leaf x start (x.index + 1 + overs usable kind (items_of kind es plans leaf x)) (pages_in usable kind (shown kind es leaves plans)) ready.there
          (λ i. index_most usable kind es leaves plans i w) some small end;
      high = place.high;
      end = end;
      low = place.low;
      ready = ready;
    }))

-- a plan with pages has a first one, of index 0
pub some_first : (usable : ℕ) (kind : Kind) (es : List Entry) (leaves : ℕ) (plans : List PagePlan) (k : ℕ) → IsWritable usable kind es leaves plans
    → k < pages_in usable kind (shown kind es leaves plans) → (0 < length plans) × ((plan_at plans 0).index ≤ k)
some_first usable kind es leaves plans k w lt =
    let some = some_sheets (shown kind es leaves plans) lt in
    let lt' : 0 < length plans = omega (arith, some, shown_len kind es leaves plans w.least) in
    (lt', omega (arith, index_at usable kind es leaves plans 0 w lt'))
  where
    some_sheets : (ss : List Sheet) → k < pages_in usable kind ss → 0 < length ss
    some_sheets [] l = absurd (omega arith)
    some_sheets (s ∷ ss) l = omega arith

-- ---- page 1

pub length-pages : (usable : ℕ) (kind : Kind) (number : ℕ → ℕ) (k : ℕ) (ss : List Sheet) → length (pages_from usable kind number k ss) ≡ pages_in usable kind ss
length-pages usable kind number k [] = refl
length-pages usable kind number k (s ∷ ss) =
    omega (
      arith,
      length-append (sheet_pages usable kind number k s) (pages_from usable kind number (k + width_of usable kind s.items) ss),
      length-sheet usable kind number k s,
      length-pages usable kind number (k + width_of usable kind s.items) ss,
      sum_by-cons (widths usable kind) s ss,
    )

pub schema_of : (es : List Entry) (p : TreePlan) (page : PagePlan) → IsPlan es p → p.first_page ≡ Some page → IsSchemaPlan p.usable es p
schema_of es p page (OfTree usable kind t) e = cc (t.no_first, e)
schema_of es p page (OfSchema usable s) e = subst (λ u. IsSchemaPlan u es p) (sym s.usable_is) s

pub tree_of : (es : List Entry) (p : TreePlan) → IsPlan es p → p.first_page ≡ None → IsTreePlan p.usable p.kind es p
tree_of es p (OfTree usable kind t) e = subst (λ u. IsTreePlan u p.kind es p) (sym t.usable_is) (subst (λ k. IsTreePlan usable k es p) (sym t.kind_is) t)
tree_of es p (OfSchema usable s) e = absurd (subst (IsFirst es p.pages.items (schema_top usable es) (pages_in usable Table (schema_sheets usable es))) e s.first)

pub not_tree : (usable : ℕ) (kind : Kind) (es : List Entry) (p : TreePlan) (page : PagePlan) → IsTreePlan usable kind es p → p.first_page ≡ Some page → ⊥
not_tree usable kind es p page t e = cc (t.no_first, e)

pub not_schema : (usable : ℕ) (es : List Entry) (p : TreePlan) → IsSchemaPlan usable es p → p.first_page ≡ None → ⊥
not_schema usable es p s e = subst (IsFirst es p.pages.items (schema_top usable es) (pages_in usable Table (schema_sheets usable es))) e s.first

-- the pages below can be written
pub tree_writable : (es : List Entry) (p : TreePlan) → IsTreePlan p.usable p.kind es p
    → IsWritable p.usable p.kind es p.leaves p.pages.items × (pages_in p.usable p.kind (shown p.kind es p.leaves p.pages.items) ≡ p.count)
tree_writable es p t = (
  writable p.usable p.kind es p.leaves p.pages.items (tree_sheets p.usable p.kind 0 es) t.least t.most t.entries t.laid (omega (arith, t.count, t.short)),
  (ap (pages_in p.usable p.kind) t.laid.sheets_are ∙ sym t.count),
)

pub record SchemaParts (es : List Entry) (p : TreePlan) (page : PagePlan) : Type 0 where
  pub can : IsWritable p.usable p.kind es p.leaves p.pages.items
  pub below : pages_in p.usable p.kind (shown p.kind es p.leaves p.pages.items) ≡ page.index
  pub index : page.index ≡ pages_in p.usable Table (schema_sheets p.usable es)
  pub sheet : sheet_for Table es p.pages.items (schema_top p.usable es).leaf page ≡ schema_top p.usable es
  pub there : AreThere es p.pages.items (schema_top p.usable es).leaf page
  pub count : p.count ≡ 1 + page.index + overs p.usable Table (schema_top p.usable es).items
  pub shown_is : shown p.kind es p.leaves p.pages.items ≡ schema_sheets p.usable es

pub schema_parts : (es : List Entry) (p : TreePlan) (page : PagePlan) → IsSchemaPlan p.usable es p → p.first_page ≡ Some page → SchemaParts es p page
schema_parts es p page s e =
    let first = subst (IsFirst es p.pages.items (schema_top p.usable es) (pages_in p.usable Table (schema_sheets p.usable es))) e s.first in
    let laid = subst (λ k. IsLaid p.usable k es p.leaves p.pages.items (schema_sheets p.usable es)) (sym s.kind_is) s.laid in
    let sum : pages_in p.usable p.kind (schema_sheets p.usable es) ≡ page.index = ap (λ k. pages_in p.usable k (schema_sheets p.usable es)) s.kind_is ∙ sym first.0 in
    record {
      can = writable p.usable p.kind es p.leaves p.pages.items (schema_sheets p.usable es) s.least s.most s.entries laid (omega (arith, sum, s.count, s.short, first.0));
      below = ap (pages_in p.usable p.kind) laid.sheets_are ∙ sum;
      index = first.0;
      sheet = first.1;
      there = first.2;
      count = omega (arith, s.count, first.0);
      shown_is = laid.sheets_are;
    }

pub tree_part : (usable : ℕ) (kind : Kind) (number : ℕ → ℕ) (es : List Entry) (p : TreePlan) (k : ℕ) (to : List ℕ) → IsTreePlan usable kind es p
    → to ≡ get_or (pages_from p.usable p.kind number 0 (shown p.kind es p.leaves p.pages.items)) k [] → to ≡ get_or (tree_pages usable kind number es) k []
tree_part usable kind number es p k to t is =
    is ∙ ap (λ u. get_or (pages_from u p.kind number 0 (shown p.kind es p.leaves p.pages.items)) k []) t.usable_is
    ∙ ap (λ d. get_or (pages_from usable d number 0 (shown d es p.leaves p.pages.items)) k []) t.kind_is
    ∙ ap (λ ss. get_or (pages_from usable kind number 0 ss) k []) t.laid.sheets_are

-- what schema_pages has at an index
pub schema_below : (front : List ℕ) (number : ℕ → ℕ) (es : List Entry) (p : TreePlan) (page : PagePlan) (k : ℕ) (to : List ℕ) → IsSchemaPlan p.usable es p → SchemaParts es p page
    → 0 < k → k ≤ page.index → to ≡ get_or (pages_from p.usable p.kind number 0 (shown p.kind es p.leaves p.pages.items)) (k - 1) []
    → to ≡ get_or (schema_pages front p.usable number es) k []
schema_below front number es p page k to s parts some le is =
    let ss = schema_sheets p.usable es in
    let pages = pages_from p.usable Table number 0 ss in
    let next : k ≡ suc (k - 1) = omega arith in
    is ∙ ap (λ d. get_or (pages_from p.usable d number 0 (shown d es p.leaves p.pages.items)) (k - 1) []) s.kind_is
    ∙ ap (λ ts. get_or (pages_from p.usable Table number 0 ts) (k - 1) []) (ap (λ d. shown d es p.leaves p.pages.items) (sym s.kind_is) ∙ parts.shown_is)
    ∙ sym (ap (λ n. get_or (schema_pages front p.usable number es) n []) next
    ∙ get_or-append pages _ [] (k - 1) (omega (arith, length-pages p.usable Table number 0 ss, parts.index)))

schema_top_page : (front : List ℕ) (usable : ℕ) (number : ℕ → ℕ) (es : List Entry) → get_or (schema_pages front usable number es) 0 []
    ≡ sheet_page front usable Table number (pages_in usable Table (schema_sheets usable es)) (schema_top usable es)
schema_top_page front usable number es = refl

pub schema_first : (front : List ℕ) (number : ℕ → ℕ) (es : List Entry) (p : TreePlan) (page : PagePlan) (k : ℕ) (seen : List PagePlan) (leaf : Bool) (to : List ℕ) → IsSchemaPlan p.usable es p → SchemaParts es p page
    → seen ≡ p.pages.items → leaf ≡ (schema_top p.usable es).leaf → k ≡ 0
    → to ≡ sheet_page front p.usable p.kind number page.index (sheet_for p.kind es seen leaf page) → to ≡ get_or (schema_pages front p.usable number es) k []
schema_first front number es p page k seen leaf to s parts e l z is =
    is ∙ ap (λ d. sheet_page front p.usable d number page.index (sheet_for d es seen leaf page)) s.kind_is
    ∙ ap (λ xs. sheet_page front p.usable Table number page.index (sheet_for Table es xs leaf page)) e
    ∙ ap (λ b. sheet_page front p.usable Table number page.index (sheet_for Table es p.pages.items b page)) l
    ∙ ap (sheet_page front p.usable Table number page.index) parts.sheet
    ∙ ap (λ n. sheet_page front p.usable Table number n (schema_top p.usable es)) parts.index
    ∙ sym (ap (λ n. get_or (schema_pages front p.usable number es) n []) z)

pub schema_over : (front : List ℕ) (number : ℕ → ℕ) (es : List Entry) (p : TreePlan) (page : PagePlan) (k : ℕ) (seen : List PagePlan) (leaf : Bool) (to : List ℕ) → IsSchemaPlan p.usable es p → SchemaParts es p page
    → seen ≡ p.pages.items → leaf ≡ (schema_top p.usable es).leaf → page.index < k
    → to ≡ get_or (chains_from p.usable p.kind number page.index (items_of p.kind es seen leaf page)) (k - 1 - page.index) [] → to ≡ get_or (schema_pages front p.usable number es) k []
schema_over front number es p page k seen leaf to s parts e l past is =
    let ss = schema_sheets p.usable es in
    let pages = pages_from p.usable Table number 0 ss in
    let chains = chains_from p.usable Table number (pages_in p.usable Table ss) (schema_top p.usable es).items in
    let next : k ≡ suc (k - 1) = omega arith in
    let len = length-pages p.usable Table number 0 ss in
    let place : k - 1 - length pages ≡ k - 1 - page.index = omega (arith, len, parts.index) in
    is ∙ ap (λ d. get_or (chains_from p.usable d number page.index (items_of d es seen leaf page)) (k - 1 - page.index) []) s.kind_is
    ∙ ap (λ xs. get_or (chains_from p.usable Table number page.index (items_of Table es xs leaf page)) (k - 1 - page.index) []) e
    ∙ ap (λ b. get_or (chains_from p.usable Table number page.index (items_of Table es p.pages.items b page)) (k - 1 - page.index) []) l
    ∙ ap (λ (t : Sheet). get_or (chains_from p.usable Table number page.index t.items) (k - 1 - page.index) []) parts.sheet
    ∙ ap (λ n. get_or (chains_from p.usable Table number n (schema_top p.usable es).items) (k - 1 - page.index) []) parts.index
    ∙ ap (λ n. get_or chains n []) (sym place)
    ∙ sym (ap (λ n. get_or (schema_pages front p.usable number es) n []) next ∙ get_or-append_right pages chains (k - 1) [] (omega (arith, len, parts.index)))

-- what the calls for page 1 ask
pub record FirstAsks (usable : ℕ) (kind : Kind) (es : List Entry) (plans : List PagePlan) (leaf : Bool) (page : PagePlan) (k start : ℕ) : Type 0 where
  pub ready : IsReady usable kind es plans leaf page
  pub numbers : HasNumbers start (page.index + overs usable kind (items_of kind es plans leaf page)) (sheet_for kind es plans leaf page)
  pub fits : 100 + needs usable kind leaf (items_of kind es plans leaf page) ≤ room_in usable leaf
  pub high : k ≤ page.index + overs usable kind (items_of kind es plans leaf page)
  pub end : start + (page.index + overs usable kind (items_of kind es plans leaf page)) < 2 ^ 32 - 1

pub first_asks : (p : TreePlan) (es : List Entry) (page : PagePlan) (k start : ℕ) (seen : List PagePlan) (leaf : Bool) → IsSchemaPlan p.usable es p → SchemaParts es p page
    → seen ≡ p.pages.items → leaf ≡ (schema_top p.usable es).leaf → k < p.count → 1 ≤ start → start + p.count < 2 ^ 32 - 1 → FirstAsks p.usable p.kind es seen leaf page k start
first_asks p es page k start seen leaf s parts e l lt some small =
    let top = schema_top p.usable es in
    let few = few_entries p.usable Table es s.least s.entries in
    let items : items_of Table es p.pages.items top.leaf page ≡ top.items = ap (λ (t : Sheet). t.items) parts.sheet in
    let over : overs p.usable Table (items_of Table es p.pages.items top.leaf page) ≡ overs p.usable Table top.items = ap (overs p.usable Table) items in
    let need : needs p.usable Table top.leaf (items_of Table es p.pages.items top.leaf page) ≡ needs p.usable Table top.leaf top.items = ap (needs p.usable Table top.leaf) items in
    let end : start + (page.index + overs p.usable Table (items_of Table es p.pages.items top.leaf page)) < 2 ^ 32 - 1 = omega (arith, over, parts.count, small) in
    subst (λ d. FirstAsks p.usable d es seen leaf page k start) (sym s.kind_is)
    (subst (λ xs. FirstAsks p.usable Table es xs leaf page k start) (sym e)
    (subst (λ b. FirstAsks p.usable Table es p.pages.items b page k start) (sym l) (record {
      ready = record {
        least = omega (arith, s.least);
        most = s.most;
        there = parts.there;
        small = λ i lt'. few.small i;
        few = omega (arith, over, parts.count, s.short);
        fits = omega (arith, need, s.fits);
      };
      numbers = has_numbers Table es p.pages.items top.leaf page start (page.index + overs p.usable Table (items_of Table es p.pages.items top.leaf page)) page.index parts.there
          (λ i. omega (arith, index_most p.usable p.kind es p.leaves p.pages.items i parts.can, parts.below)) some (omega (arith, parts.count, small)) end;
      fits = omega (arith, need, s.fits);
      high = omega (arith, over, parts.count, lt);
      end = end;
    })))
