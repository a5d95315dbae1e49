-- A plan grows level by level.
use Rattle.std.proofs.Common.{◌≡◌, ◌<◌, ◌≤◌, ℕ, zero, suc, ◌+◌, ◌-◌, ◌*◌, ◌^◌, Bool, true, false, List, [], ◌∷◌, ◌++◌, length, take, drop, get_or, map, nat_le, sum_by, refl, sym, ap, ◌∙◌, subst, arith, append_assoc, append-nil, length-append, length-take, length-drop, drop-drop, take-append-drop}
use Rattle.std.specs.Prelude.{if◌then◌else◌}
use Rattle.std.specs.List.{AllByRecursion, take-map, drop-map}
use Rattle.std.proofs.Math.ListN.{get_or-append, get_or-map}
use Rattle.std.proofs.Math.Seq.{take-append_seam, drop-append_seam}
use Rattle.std.proofs.lemmas.List.{get_or-append-add, get_or-drop, get_or-take, length-map, map-append, take-append-le, drop-append-le, take_all}
use Rattle.std.proofs.lemmas.List.Sums.{sum_by-append, sum_by-cons}
use Rattle.std.proofs.lemmas.Bool.Decides.{nat_tests}
use Rattle.cell_reader.specs.declared.shapes.Kind.{Kind}
use Rattle.cell_reader.specs.declared.shapes.Kind.TheVariants.{Table, Index}
use Rattle.tree_writer.specs.declared.groups.Span.{Span}
use Rattle.tree_writer.specs.declared.plans.PagePlan.{PagePlan}
use Rattle.tree_writer.specs.declared.plans.Top.{Top}
use Rattle.tree_writer.specs.declared.sizes.Size.{Size}
use Rattle.tree_writer.specs.Cells.{item_overs, need_of, over_count, overs, width_of}
use Rattle.tree_writer.specs.Entry.{AreEntries, Entry, Item, entry_at, key_item, leaf_item, no_entry, no_item}
use Rattle.tree_writer.specs.Groups.{Cut, cuts, flat_from, joined_from, leaves}
use Rattle.tree_writer.specs.Levels.{Line, Sheet, cons_line, leaf_cut, leaf_line, level_cut, level_sheets, line_above, line_from, line_over, needs, pages_in, room_in, sheets_from, sheets_of, top_line, tree_line, tree_sheets}
use Rattle.tree_writer.specs.Plan.{AreSizes, gap_of, item_span, item_spans, need_in, no_key, no_size, overs_in, pages_for, part_of, size_item, spans_of}
use Rattle.tree_writer.specs.Planned.{AreThere, IsLaid, SheetFits, index_of, inner_item, items_of, leaf_behind, leaf_plans, level_plans, line_of, line_tail, no_page, plan_at, right_index, sheet_for, shown, span_at, span_pages, starts_from}
use Rattle.tree_writer.specs.Trees.{IsRaised, first_spans}
use Rattle.tree_writer.proofs.Lists.{at_end}
use Rattle.tree_writer.proofs.Cuts.{Keyed, cuts_few, cuts_fit, cuts_flat, cuts_same, leaves_few, leaves_fit, leaves_joined, leaves_keyed, leaves_same, spans_cut}
use Rattle.tree_writer.proofs.Needs.{Few, few_entries, index_half, key_half, leaf_fits}
use Rattle.tree_writer.proofs.Rising.{Shows, below, index_leaves, keyed_overs, level_overs, level_shown, line_len, line_next, line_overs, line_pages, pages_overs, sheets_len, table_leaves}

-- ---- pages that are added leave the others as they were

sheet_kept : (kind : Kind) (es : List Entry) (plans more : List PagePlan) (leaf : Bool) (p : PagePlan) → AreThere es plans leaf p
    → sheet_for kind es (plans ++ more) leaf p ≡ sheet_for kind es plans leaf p
unfolding items_of
sheet_kept kind es plans more true p there = refl
sheet_kept kind es plans more false p there =
    let g : List Item → ℕ → Sheet = λ xs n. record { leaf = false; items = xs; right = n } in
    let part : take p.cells (drop p.first (plans ++ more)) ≡ take p.cells (drop p.first plans)
    = ap (take p.cells) (drop-append-le p.first plans more (omega (arith, there.0)))
    ∙ take-append-le p.cells (drop p.first plans) more (omega (arith, there.0, length-drop p.first plans)) in
    let right : (plan_at (plans ++ more) (p.first + p.cells)).index ≡ (plan_at plans (p.first + p.cells)).index
    = ap (λ (q : PagePlan). q.index) (get_or-append plans more no_page (p.first + p.cells) there.0) in
    ap (λ (t : List PagePlan). g (map (inner_item kind es) t) (plan_at (plans ++ more) (p.first + p.cells)).index) part
    ∙ ap (g (map (inner_item kind es) (take p.cells (drop p.first plans)))) right

there_kept : (es : List Entry) (plans more : List PagePlan) (leaf : Bool) (p : PagePlan) → AreThere es plans leaf p → AreThere es (plans ++ more) leaf p
there_kept es plans more true p there = there
there_kept es plans more false p there = (
  omega (arith, there.0, length-append plans more),
  λ i lt. subst (λ (q : PagePlan). q.behind < length es) (sym (get_or-append plans more no_page (p.first + i) (omega (arith, there.0)))) (there.1 i lt),
)

sheets_kept : (kind : Kind) (es : List Entry) (plans more : List PagePlan) (leaf : Bool) (ps : List PagePlan) → AllByRecursion (AreThere es plans leaf) ps
    → map (sheet_for kind es (plans ++ more) leaf) ps ≡ map (sheet_for kind es plans leaf) ps
sheets_kept kind es plans more leaf [] all = refl
sheets_kept kind es plans more leaf (p ∷ ps) all =
    ap (λ (s : Sheet). s ∷ map (sheet_for kind es (plans ++ more) leaf) ps) (sheet_kept kind es plans more leaf p all.0)
    ∙ ap (λ (t : List Sheet). sheet_for kind es plans leaf p ∷ t) (sheets_kept kind es plans more leaf ps all.1)

all_kept : (es : List Entry) (plans more : List PagePlan) (leaf : Bool) (ps : List PagePlan) → AllByRecursion (AreThere es plans leaf) ps → AllByRecursion (AreThere es (plans ++ more) leaf) ps
all_kept es plans more leaf [] all = tt
all_kept es plans more leaf (p ∷ ps) all = (there_kept es plans more leaf p all.0, all_kept es plans more leaf ps all.1)

pub all_append : {X : Type 0} (P : X → Type 0) (xs ys : List X) → AllByRecursion P xs → AllByRecursion P ys → AllByRecursion P (xs ++ ys)
all_append P [] ys a b = b
all_append P (x ∷ xs) ys a b = (a.0, all_append P xs ys a.1 b)

all_left : {X : Type 0} (P : X → Type 0) (xs ys : List X) → AllByRecursion P (xs ++ ys) → AllByRecursion P xs
all_left P [] ys a = tt
all_left P (x ∷ xs) ys a = (a.0, all_left P xs ys a.1)

starts-append : (usable : ℕ) (kind : Kind) (k : ℕ) (xs ys : List Sheet) → starts_from usable kind k (xs ++ ys) ≡ starts_from usable kind k xs ++ starts_from usable kind (k + pages_in usable kind xs) ys
starts-append usable kind k [] ys = ap (λ n. starts_from usable kind n ys) (omega arith)
starts-append usable kind k (s ∷ ss) ys =
    ap (λ (t : List ℕ). k ∷ t) (starts-append usable kind (k + width_of usable kind s.items) ss ys
    ∙ ap (λ n. starts_from usable kind (k + width_of usable kind s.items) ss ++ starts_from usable kind n ys)
    (omega (arith, sum_by-cons (λ (t : Sheet). width_of usable kind t.items) s ss)))

-- a plan with a level more
pub laid_more : (usable : ℕ) (kind : Kind) (es : List Entry) (leaves : ℕ) (plans more : List PagePlan) (sheets added : List Sheet) → IsLaid usable kind es leaves plans sheets
    → map (sheet_for kind es plans false) more ≡ added → AllByRecursion (AreThere es plans false) more
    → map index_of more ≡ starts_from usable kind (pages_in usable kind sheets) added → AllByRecursion (SheetFits usable kind) added
    → IsLaid usable kind es leaves (plans ++ more) (sheets ++ added)
laid_more usable kind es leaves plans more sheets added l new there starts fits =
    let front : take leaves (plans ++ more) ≡ take leaves plans = take-append-le leaves plans more l.least in
    let back : drop leaves (plans ++ more) ≡ drop leaves plans ++ more = drop-append-le leaves plans more l.least in
    record {
      sheets_are =
          ap (λ (t : List PagePlan). map (sheet_for kind es (plans ++ more) true) t ++ map (sheet_for kind es (plans ++ more) false) (drop leaves (plans ++ more))) front
          ∙ ap (λ (t : List PagePlan). map (sheet_for kind es (plans ++ more) true) (take leaves plans) ++ map (sheet_for kind es (plans ++ more) false) t) back
          ∙ ap (λ (t : List Sheet). t ++ map (sheet_for kind es (plans ++ more) false) (drop leaves plans ++ more)) (sheets_kept kind es plans more true (take leaves plans) l.leaves_there)
          ∙ ap (λ (t : List Sheet). map (sheet_for kind es plans true) (take leaves plans) ++ t)
          (map-append (sheet_for kind es (plans ++ more) false) (drop leaves plans) more
          ∙ ap (λ (t : List Sheet). t ++ map (sheet_for kind es (plans ++ more) false) more) (sheets_kept kind es plans more false (drop leaves plans) l.inner_there)
          ∙ ap (λ (t : List Sheet). map (sheet_for kind es plans false) (drop leaves plans) ++ t) (sheets_kept kind es plans more false more there ∙ new))
          ∙ sym (append_assoc (map (sheet_for kind es plans true) (take leaves plans)) (map (sheet_for kind es plans false) (drop leaves plans)) added)
          ∙ ap (λ (t : List Sheet). t ++ added) l.sheets_are;
      starts = map-append index_of plans more ∙ ap (λ (t : List ℕ). t ++ map index_of more) l.starts ∙ ap (λ (t : List ℕ). starts_from usable kind 0 sheets ++ t) starts
          ∙ ap (λ n. starts_from usable kind 0 sheets ++ starts_from usable kind n added) (omega arith) ∙ sym (starts-append usable kind 0 sheets added);
      leaves_there = subst (AllByRecursion (AreThere es (plans ++ more) true)) (sym front) (all_kept es plans more true (take leaves plans) l.leaves_there);
      inner_there = subst (AllByRecursion (AreThere es (plans ++ more) false)) (sym back)
          (all_append (AreThere es (plans ++ more) false) (drop leaves plans) more (all_kept es plans more false (drop leaves plans) l.inner_there) (all_kept es plans more false more there));
      least = omega (arith, l.least, length-append plans more);
      fits = all_append (SheetFits usable kind) sheets added l.fits fits;
    }

-- the pages of a level have room for their cells
pub sheets_fit : (usable : ℕ) (kind : Kind) (leaf : Bool) (firsts : List (List Item × Item)) (last : List Item) (right : ℕ)
    → AllByRecursion (λ (f : List Item × Item). sum_by (need_of usable kind leaf) f.0 ≤ room_in usable leaf) firsts → sum_by (need_of usable kind leaf) last ≤ room_in usable leaf
    → AllByRecursion (SheetFits usable kind) (sheets_from leaf firsts last right)
sheets_fit usable kind leaf [] last right all one = (one, tt)
sheets_fit usable kind leaf (f ∷ fs) last right all one = (all.0, sheets_fit usable kind leaf fs last right all.1 one)

-- ---- the line over pages

-- the cells of the line name all pages but the last
pub record Line_over (kind : Kind) (es : List Entry) (next : ℕ) (ps : List PagePlan) : Type 0 where
  pub last : Item
  pub cells : map (inner_item kind es) ps ≡ (line_of kind es next ps).cells ++ last ∷ []
  pub right : last.child ≡ (line_of kind es next ps).right
  pub next_is : (line_of kind es next ps).next ≡ next

pub line_over_pages : (kind : Kind) (es : List Entry) (next : ℕ) (p : PagePlan) (ps : List PagePlan) → Line_over kind es next (p ∷ ps)
line_over_pages kind es next p [] = record { last = inner_item kind es p; cells = refl; right = refl; next_is = refl }
line_over_pages kind es next p (q ∷ qs) =
    let l = line_over_pages kind es next q qs in
    record { last = l.last; cells = ap (λ (t : List Item). inner_item kind es p ∷ t) l.cells; right = l.right; next_is = l.next_is }

pub line_over_some : (kind : Kind) (es : List Entry) (next : ℕ) (ps : List PagePlan) → 1 ≤ length ps → Line_over kind es next ps
line_over_some kind es next [] some = absurd (omega arith)
line_over_some kind es next (p ∷ ps) some = line_over_pages kind es next p ps

-- any two cells of a line fit a page
pub line_half : (usable : ℕ) (kind : Kind) (es : List Entry) (ps : List PagePlan) → 480 ≤ usable
    → AllByRecursion (λ (x : Item). 2 * need_of usable kind false x ≤ room_in usable false) (map (inner_item kind es) ps)
line_half usable kind es [] least = tt
line_half usable kind es (p ∷ ps) least = (one kind, line_half usable kind es ps least)
  where
    one : (k : Kind) → 2 * need_of usable k false (inner_item k es p) ≤ room_in usable false
    one Table = key_half usable (inner_item Table es p) least refl
    one Index = index_half usable false (inner_item Index es p) least

-- ---- what is kept while a plan grows

pub record Grows (usable : ℕ) (kind : Kind) (top : ℕ) (es : List Entry) (leaves base index : ℕ) (plans : List PagePlan) : Type 0 where
  pub line : Line
  pub sheets : List Sheet
  pub fuel : ℕ
  pub line_is : line_of kind es index (drop base plans) ≡ line
  pub enough : length line.cells ≤ fuel
  pub laid : IsLaid usable kind es leaves plans sheets
  pub all : sheets ++ level_sheets usable kind top fuel line ≡ tree_sheets usable kind top es
  pub top_is : top_line usable kind top fuel line ≡ tree_line usable kind top es
  pub index_is : index ≡ pages_in usable kind sheets
  pub lens : length line.cells + 1 + base ≡ length plans
  pub behinds : (j : ℕ) → base + j + 1 < length plans → (plan_at plans (base + j)).behind < length es
  pub bound : length plans + length line.cells ≤ 2 * length es + 1
  pub overs_are : index + overs usable kind line.cells ≡ length plans + overs usable kind (map leaf_item es)
  pub index_least : length plans ≤ index

-- the sizes of a level's cells are ones that can be cut
half_each : (need : Item → ℕ) (room : ℕ) (xs : List Item) → AllByRecursion (λ x. 2 * need x ≤ room) xs → AllByRecursion (λ x. need x ≤ room) xs
half_each need room [] h = tt
half_each need room (x ∷ xs) h = (omega (arith, h.0), half_each need room xs h.1)

-- what the next level is, and what holds of it
pub record NextLevel (usable : ℕ) (kind : Kind) (es : List Entry) (base index : ℕ) (plans : List PagePlan) (line : Line) (cut : Cut Item) : Type 0 where
  pub shows : Shows usable kind es plans false index (level_plans plans base index (item_spans usable kind 1 0 cut.firsts cut.last)) cut.firsts cut.last line.right
  pub few : 2 * length cut.firsts + 1 ≤ length line.cells
  pub flat_is : flat_from cut.firsts cut.last ≡ line.cells
  pub fits : AllByRecursion (SheetFits usable kind) (sheets_from false cut.firsts cut.last line.right)

pub next_level : (usable : ℕ) (kind : Kind) (top : ℕ) (es : List Entry) (leaves base index : ℕ) (plans : List PagePlan) → 480 ≤ usable
    → (g : Grows usable kind top es leaves base index plans) → 1 ≤ length g.line.cells → NextLevel usable kind es base index plans g.line (level_cut usable kind g.line)
next_level usable kind top es leaves base index plans least g some =
    let cut = level_cut usable kind g.line in
    let some_pages : 1 ≤ length (drop base plans) = omega (arith, g.lens, length-drop base plans) in
    let lo = line_over_some kind es index (drop base plans) some_pages in
    let flat_is : flat_from cut.firsts cut.last ≡ g.line.cells = cuts_flat (need_of usable kind false) (room_in usable false) [] (room_in usable false) g.line.cells in
    let cells : map (inner_item kind es) (drop base plans) ≡ g.line.cells ++ lo.last ∷ [] = lo.cells ∙ ap (λ (l : Line). l.cells ++ lo.last ∷ []) g.line_is in
    let e : drop 0 (below kind es plans base) ≡ flat_from cut.firsts cut.last ++ lo.last ∷ [] = cells ∙ ap (λ (t : List Item). t ++ lo.last ∷ []) (sym flat_is) in
    let right : lo.last.child ≡ g.line.right = lo.right ∙ ap (λ (l : Line). l.right) g.line_is in
    let half = all_left (λ (x : Item). 2 * need_of usable kind false x ≤ room_in usable false) g.line.cells (lo.last ∷ [])
    (subst (AllByRecursion (λ (x : Item). 2 * need_of usable kind false x ≤ room_in usable false)) cells (line_half usable kind es (drop base plans) least)) in
    record {
      shows = subst (λ n. Shows usable kind es plans false index (level_plans plans base index (item_spans usable kind 1 0 cut.firsts cut.last)) cut.firsts cut.last n) right
          (level_shown usable kind es plans base cut.firsts cut.last lo.last 0 index e
          (λ j lt. g.behinds j (omega (arith, lt, length-map (drop base plans) (inner_item kind es), length-drop base plans))));
      few = let h = cuts_few (need_of usable kind false) (room_in usable false) [] (room_in usable false) g.line.cells tt half (omega arith) (omega (arith, some)) in omega (arith, h);
      flat_is = flat_is;
      fits =
          let f = cuts_fit (need_of usable kind false) (room_in usable false) [] (room_in usable false) g.line.cells (half_each (need_of usable kind false) (room_in usable false) g.line.cells half) (omega arith) in
          sheets_fit usable kind false cut.firsts cut.last g.line.right f.firsts f.last;
    }

-- a level more, where the line does not fit
step_all : (usable : ℕ) (kind : Kind) (top fuel : ℕ) (line : Line) → 1 ≤ fuel → nat_le (needs usable kind false line.cells) top ≡ false
    → (m : ℕ) × (fuel ≡ suc m) × (level_sheets usable kind top fuel line ≡ sheets_of false (level_cut usable kind line) line.right ++ level_sheets usable kind top m (line_above usable kind line))
    × (top_line usable kind top fuel line ≡ top_line usable kind top m (line_above usable kind line))
step_all usable kind top zero line some full = absurd (omega arith)
step_all usable kind top (suc m) line some full = (m, refl, (rw full refl), (rw full refl))

pub grows_more : (usable : ℕ) (kind : Kind) (top : ℕ) (es : List Entry) (leaves base index : ℕ) (plans : List PagePlan) → 480 ≤ usable
    → (g : Grows usable kind top es leaves base index plans) → 1 ≤ length g.line.cells → nat_le (needs usable kind false g.line.cells) top ≡ false
    → let spans = item_spans usable kind 1 0 (level_cut usable kind g.line).firsts (level_cut usable kind g.line).last in
    Grows usable kind top es leaves (length plans) (index + sum_by span_pages spans) (plans ++ level_plans plans base index spans)
grows_more usable kind top es leaves base index plans least g some full =
    let cut = level_cut usable kind g.line in
    let spans = item_spans usable kind 1 0 cut.firsts cut.last in
    let news = level_plans plans base index spans in
    let n = next_level usable kind top es leaves base index plans least g some in
    let w = width_of usable kind in
    let lo = line_over_some kind es index (drop base plans) (omega (arith, g.lens, length-drop base plans)) in
    let next_is : g.line.next ≡ index = sym (ap (λ (l : Line). l.next) g.line_is) ∙ lo.next_is in
    let above : line_above usable kind g.line ≡ line_from w index cut.firsts cut.last = ap (λ m. line_from w m cut.firsts cut.last) next_is in
    let index_next : (line_from w index cut.firsts cut.last).next ≡ index + sum_by span_pages spans = line_next usable kind 1 index 0 cut.firsts cut.last in
    let added = sheets_of false cut g.line.right in
    let pages_next : (line_from w index cut.firsts cut.last).next ≡ index + pages_in usable kind added = line_pages usable kind false index cut.firsts cut.last g.line.right in
    let s = step_all usable kind top g.fuel g.line (omega (arith, g.enough)) full in
    let len_line : length (line_from w index cut.firsts cut.last).cells ≡ length cut.firsts = line_len usable kind index cut.firsts cut.last in
    let len_news : length news ≡ length cut.firsts + 1 = sym (length-map news (sheet_for kind es plans false)) ∙ ap length n.shows.sheets ∙ sheets_len false cut.firsts cut.last g.line.right in
    let made = pages_overs usable kind false cut.firsts cut.last g.line.right in
    let kept = line_overs usable kind index cut.firsts cut.last in
    let flat_overs : overs usable kind (flat_from cut.firsts cut.last) ≡ overs usable kind g.line.cells = ap (overs usable kind) n.flat_is in
    record {
      line = line_from w index cut.firsts cut.last;
      sheets = g.sheets ++ added;
      fuel = s.0;
      line_is = ap (line_of kind es (index + sum_by span_pages spans)) (drop-append_seam plans news)
          ∙ ap (λ m. line_of kind es m news) (sym index_next) ∙ n.shows.line;
      enough = omega (arith, len_line, n.few, g.enough, s.1);
      laid = laid_more usable kind es leaves plans news g.sheets added g.laid n.shows.sheets n.shows.there
          (n.shows.starts ∙ ap (λ m. starts_from usable kind m added) g.index_is) n.fits;
      all = append_assoc g.sheets added (level_sheets usable kind top s.0 (line_from w index cut.firsts cut.last))
          ∙ sym (ap (λ (l : Line). g.sheets ++ (added ++ level_sheets usable kind top s.0 l)) above)
          ∙ sym (ap (λ (t : List Sheet). g.sheets ++ t) s.2) ∙ g.all;
      top_is = sym (ap (top_line usable kind top s.0) above) ∙ sym s.3 ∙ g.top_is;
      index_is = omega (arith, index_next, pages_next, g.index_is, sum_by-append (λ (t : Sheet). width_of usable kind t.items) g.sheets added);
      lens = omega (arith, len_line, len_news, length-append plans news);
      behinds = λ j lt. subst (λ (p : PagePlan). p.behind < length es) (sym (get_or-append-add plans news j no_page)) (n.shows.behinds j (omega (arith, lt, length-append plans news)));
      bound = omega (arith, len_line, len_news, n.few, g.bound, length-append plans news);
      overs_are = omega (arith, index_next, pages_next, made, kept, flat_overs, g.overs_are, len_news, length-append plans news);
      index_least = omega (arith, index_next, pages_next, made, g.index_least, len_news, length-append plans news);
    }

-- ---- the leaves

pub record LeafLevel (usable : ℕ) (kind : Kind) (es : List Entry) (spans : List Span) : Type 0 where
  pub spans_are : spans ≡ item_spans usable kind (gap_of kind) 0 (leaf_cut usable kind es).firsts (leaf_cut usable kind es).last
  pub shows : (plans : List PagePlan) → Shows usable kind es plans true 0 (leaf_plans kind 0 spans) (leaf_cut usable kind es).firsts (leaf_cut usable kind es).last 0
  pub few : length (leaf_cut usable kind es).firsts ≤ length es
  pub overs_are : level_overs usable kind (leaf_cut usable kind es).firsts (leaf_cut usable kind es).last + overs usable kind (leaf_line usable kind es).cells ≡ overs usable kind (map leaf_item es)
  pub fits : AllByRecursion (SheetFits usable kind) (sheets_of true (leaf_cut usable kind es) 0)

all_items : (P : Item → Type 0) → ((e : Entry) → P (leaf_item e)) → (es : List Entry) → AllByRecursion P (map leaf_item es)
all_items P h [] = tt
all_items P h (e ∷ es) = (h e, all_items P h es)

pub leaf_level : (usable : ℕ) (kind : Kind) (es : List Entry) → 480 ≤ usable
    → LeafLevel usable kind es (item_spans usable kind (gap_of kind) 0 (leaf_cut usable kind es).firsts (leaf_cut usable kind es).last)
leaf_level usable Table es least =
    let cut = leaf_cut usable Table es in
    let room = room_in usable true in
    let all : joined_from cut.firsts cut.last ≡ map leaf_item es = leaves_joined (need_of usable Table true) key_item no_item room [] room (map leaf_item es) in
    let keyed = leaves_keyed (need_of usable Table true) key_item no_item room [] room (map leaf_item es)
    (all_items (λ x. need_of usable Table true x ≤ room) (λ e. leaf_fits usable Table (leaf_item e) least) es) (omega arith) in
    record {
      spans_are = refl;
      shows = λ plans. table_leaves usable es plans cut.firsts cut.last 0 0 (sym all) keyed (omega arith);
      few = omega (arith, leaves_few (need_of usable Table true) key_item no_item room [] room (map leaf_item es), length-map es leaf_item);
      overs_are = keyed_overs usable 0 cut.firsts cut.last least keyed ∙ ap (overs usable Table) all;
      fits =
          let f = leaves_fit (need_of usable Table true) key_item no_item room [] room (map leaf_item es)
          (all_items (λ x. need_of usable Table true x ≤ room) (λ e. leaf_fits usable Table (leaf_item e) least) es) (omega arith) in
          sheets_fit usable Table true cut.firsts cut.last 0 f.firsts f.last;
    }
leaf_level usable Index es least =
    let cut = leaf_cut usable Index es in
    let room = room_in usable true in
    let all : flat_from cut.firsts cut.last ≡ map leaf_item es = cuts_flat (need_of usable Index true) room [] room (map leaf_item es) in
    record {
      spans_are = refl;
      shows = λ plans. index_leaves usable es plans cut.firsts cut.last 0 0 (sym all) (omega arith);
      few = few es;
      overs_are = line_overs usable Index 0 cut.firsts cut.last ∙ ap (overs usable Index) all;
      fits =
          let f = cuts_fit (need_of usable Index true) room [] room (map leaf_item es)
          (all_items (λ x. need_of usable Index true x ≤ room) (λ e. leaf_fits usable Index (leaf_item e) least) es) (omega arith) in
          sheets_fit usable Index true cut.firsts cut.last 0 f.firsts f.last;
    }
  where
    few : (xs : List Entry) → length (leaf_cut usable Index xs).firsts ≤ length xs
    few [] = omega arith
    few (x ∷ xs) =
        let room = room_in usable true in
        let half = all_items (λ y. 2 * need_of usable Index true y ≤ room) (λ e. let h = index_half usable true (leaf_item e) least in omega (arith, h)) (x ∷ xs) in
        omega (arith, cuts_few (need_of usable Index true) room [] room (map leaf_item (x ∷ xs)) tt half (omega arith) (omega arith), length-map xs leaf_item)

pub grows_start : (usable : ℕ) (kind : Kind) (top : ℕ) (es : List Entry) (spans : List Span) (plans : List PagePlan) → LeafLevel usable kind es spans → plans ≡ leaf_plans kind 0 spans
    → Grows usable kind top es (length plans) 0 (sum_by span_pages spans) plans
unfolding tree_sheets tree_line
grows_start usable kind top es spans plans l is =
    let cut = leaf_cut usable kind es in
    let w = width_of usable kind in
    let sh : Shows usable kind es plans true 0 plans cut.firsts cut.last 0 = subst (λ ps. Shows usable kind es plans true 0 ps cut.firsts cut.last 0) (sym is) (l.shows plans) in
    let index_next : (line_from w 0 cut.firsts cut.last).next ≡ sum_by span_pages spans
    = line_next usable kind (gap_of kind) 0 0 cut.firsts cut.last ∙ ap (λ (t : List Span). 0 + sum_by span_pages t) (sym l.spans_are) ∙ omega arith in
    let pages_next = line_pages usable kind true 0 cut.firsts cut.last 0 in
    let whole : take (length plans) plans ≡ plans = take_all (length plans) plans (omega arith) in
    let none : drop (length plans) plans ≡ [] = at_end plans (length plans) (omega arith) in
    let len : length plans ≡ length cut.firsts + 1 = sym (length-map plans (sheet_for kind es plans true)) ∙ ap length sh.sheets ∙ sheets_len true cut.firsts cut.last 0 in
    let len_line : length (line_from w 0 cut.firsts cut.last).cells ≡ length cut.firsts = line_len usable kind 0 cut.firsts cut.last in
    let made = pages_overs usable kind true cut.firsts cut.last 0 in
    record {
      line = leaf_line usable kind es;
      sheets = sheets_of true cut 0;
      fuel = length (leaf_line usable kind es).cells;
      line_is = ap (λ n. line_of kind es n plans) (sym index_next) ∙ sh.line;
      enough = omega arith;
      laid = record {
        sheets_are = ap (λ (t : List PagePlan). map (sheet_for kind es plans true) t ++ map (sheet_for kind es plans false) (drop (length plans) plans)) whole
            ∙ ap (λ (t : List PagePlan). map (sheet_for kind es plans true) plans ++ map (sheet_for kind es plans false) t) none
            ∙ append-nil (map (sheet_for kind es plans true) plans) ∙ sh.sheets;
        starts = sh.starts;
        leaves_there = subst (AllByRecursion (AreThere es plans true)) (sym whole) sh.there;
        inner_there = subst (AllByRecursion (AreThere es plans false)) (sym none) tt;
        least = omega arith;
        fits = l.fits;
      };
      all = refl;
      top_is = refl;
      index_is = sym index_next ∙ pages_next ∙ omega arith;
      lens = omega (arith, len, len_line);
      behinds = λ j lt. subst (λ n. (plan_at plans n).behind < length es) (omega arith) (sh.behinds j (omega (arith, lt)));
      bound = omega (arith, len, len_line, l.few);
      overs_are = omega (arith, index_next, pages_next, made, l.overs_are, len);
      index_least = omega (arith, index_next, pages_next, made, len);
    }

-- ---- the end

stop_all : (usable : ℕ) (kind : Kind) (top fuel : ℕ) (line : Line) → nat_le (needs usable kind false line.cells) top ≡ true
    → (level_sheets usable kind top fuel line ≡ []) × (top_line usable kind top fuel line ≡ line)
stop_all usable kind top zero line fits = (refl, refl)
stop_all usable kind top (suc m) line fits = ((rw fits refl), (rw fits refl))

pub grows_end : (usable : ℕ) (kind : Kind) (top : ℕ) (es : List Entry) (leaves base index : ℕ) (plans : List PagePlan) → 512 ≤ usable → AreEntries es
    → (g : Grows usable kind top es leaves base index plans) → nat_le (needs usable kind false g.line.cells) top ≡ true
    → IsRaised usable kind top es plans (record { leaves = leaves; base = base; index = index })
grows_end usable kind top es leaves base index plans least entries g fits =
    let s = stop_all usable kind top g.fuel g.line fits in
    let few = few_entries usable kind es least entries in
    let all : g.sheets ≡ tree_sheets usable kind top es = sym (append-nil g.sheets) ∙ sym (ap (λ (t : List Sheet). g.sheets ++ t) s.0) ∙ g.all in
    record {
      laid = subst (IsLaid usable kind es leaves plans) all g.laid;
      line = g.line_is ∙ sym s.1 ∙ g.top_is;
      index = g.index_is ∙ ap (pages_in usable kind) all;
      base = omega (arith, g.lens);
      behind = g.behinds;
      few = omega (arith, g.overs_are, g.bound, few.pages);
      short = omega (arith, g.bound, few.pages);
      fits =
          let le : needs usable kind false g.line.cells ≤ top = below_top (needs usable kind false g.line.cells) top fits in
          omega (arith, le, ap (λ (l : Line). needs usable kind false l.cells) (sym s.1 ∙ g.top_is));
    }
  where
    below_top : (a b : ℕ) → nat_le a b ≡ true → a ≤ b
    below_top a b e = grind (arith, nat_tests)

-- ---- what the calls of the loop ask

-- the cells of the line are those of the pages below but the last
pub line_cells : (usable : ℕ) (kind : Kind) (top : ℕ) (es : List Entry) (leaves base index end : ℕ) (plans : List PagePlan)
    → (g : Grows usable kind top es leaves base index plans) → end + 1 ≡ length plans → map (inner_item kind es) (take (end - base) (drop base plans)) ≡ g.line.cells
line_cells usable kind top es leaves base index end plans g e =
    let lo = line_over_some kind es index (drop base plans) (omega (arith, g.lens, length-drop base plans)) in
    let cells : map (inner_item kind es) (drop base plans) ≡ g.line.cells ++ lo.last ∷ [] = lo.cells ∙ ap (λ (l : Line). l.cells ++ lo.last ∷ []) g.line_is in
    let n : end - base ≡ length g.line.cells = omega (arith, g.lens) in
    sym (take-map (inner_item kind es) (end - base) (drop base plans)) ∙ ap (take (end - base)) cells ∙ ap (λ m. take m (g.line.cells ++ lo.last ∷ [])) n ∙ take-append_seam g.line.cells (lo.last ∷ [])

pub line_there : (usable : ℕ) (kind : Kind) (top : ℕ) (es : List Entry) (leaves base index end : ℕ) (plans : List PagePlan)
    → Grows usable kind top es leaves base index plans → end + 1 ≡ length plans → (i : ℕ) → i < length (take (end - base) (drop base plans))
    → (plan_at (take (end - base) (drop base plans)) i).behind < length es
line_there usable kind top es leaves base index end plans g e i lt =
    let short : i < end - base = omega (arith, lt, length-take (end - base) (drop base plans)) in
    subst (λ (p : PagePlan). p.behind < length es) (sym (get_or-take (end - base) (drop base plans) i no_page short ∙ get_or-drop base plans i no_page))
    (g.behinds i (omega (arith, short)))

-- the sizes of the line's cells can be cut
fit_each : (usable : ℕ) (kind : Kind) (leaf : Bool) (room : ℕ) (xs : List Item) → AllByRecursion (λ x. need_of usable kind leaf x ≤ room) xs → (i : ℕ) → i < length (map (size_item usable kind leaf) xs)
    → (get_or (map (size_item usable kind leaf) xs) i no_size).need ≤ room
fit_each usable kind leaf room [] all i lt = absurd (omega arith)
fit_each usable kind leaf room (x ∷ xs) all zero lt = all.0
fit_each usable kind leaf room (x ∷ xs) all (suc i) lt = fit_each usable kind leaf room xs all.1 i (omega arith)

pub sizes_pages : (usable : ℕ) (kind : Kind) (leaf : Bool) (xs : List Item) → pages_for (map (size_item usable kind leaf) xs) ≡ 1 + overs usable kind xs
sizes_pages usable kind leaf [] = refl
sizes_pages usable kind leaf (x ∷ xs) = omega (arith, sizes_pages usable kind leaf xs, sum_by-cons overs_in (size_item usable kind leaf x) (map (size_item usable kind leaf) xs), sum_by-cons (item_overs usable kind) x xs)

pub line_sizes_fit : (usable : ℕ) (kind : Kind) (top : ℕ) (es : List Entry) (leaves base index : ℕ) (plans : List PagePlan) → 512 ≤ usable → AreEntries es
    → (g : Grows usable kind top es leaves base index plans) → 1 ≤ length g.line.cells → AreSizes (room_in usable false) (map (size_item usable kind false) g.line.cells)
line_sizes_fit usable kind top es leaves base index plans least entries g some =
    let few = few_entries usable kind es least entries in
    let lo = line_over_some kind es index (drop base plans) (omega (arith, g.lens, length-drop base plans)) in
    let cells : map (inner_item kind es) (drop base plans) ≡ g.line.cells ++ lo.last ∷ [] = lo.cells ∙ ap (λ (l : Line). l.cells ++ lo.last ∷ []) g.line_is in
    let half = all_left (λ (x : Item). 2 * need_of usable kind false x ≤ room_in usable false) g.line.cells (lo.last ∷ [])
    (subst (AllByRecursion (λ (x : Item). 2 * need_of usable kind false x ≤ room_in usable false)) cells (line_half usable kind es (drop base plans) (omega arith))) in
    record {
      few = omega (arith, g.bound, few.pages, g.lens, length-map g.line.cells (size_item usable kind false));
      fit = fit_each usable kind false (room_in usable false) g.line.cells (half_each (need_of usable kind false) (room_in usable false) g.line.cells half);
      pages = omega (arith, sizes_pages usable kind false g.line.cells, g.overs_are, g.index_least, few.pages, g.lens, g.bound, some);
    }

pub some_pages : (usable : ℕ) (kind : Kind) (es : List Entry) → 2 * length es + overs usable kind (map leaf_item es) ≤ 2 ^ 31 → 1 + overs usable kind (map leaf_item es) ≤ 2 ^ 31
some_pages usable kind [] le = omega arith
some_pages usable kind (e ∷ es) le = omega arith

pub leaf_sizes_fit : (usable : ℕ) (kind : Kind) (es : List Entry) → 512 ≤ usable → AreEntries es → AreSizes (room_in usable true) (map (size_item usable kind true) (map leaf_item es))
leaf_sizes_fit usable kind es least entries =
    let few = few_entries usable kind es least entries in
    record {
      few = omega (arith, few.pages, length-map (map leaf_item es) (size_item usable kind true), length-map es leaf_item);
      fit = fit_each usable kind true (room_in usable true) (map leaf_item es) (all_items (λ x. need_of usable kind true x ≤ room_in usable true) (λ e. leaf_fits usable kind (leaf_item e) (omega arith)) es);
      pages = omega (arith, sizes_pages usable kind true (map leaf_item es), some_pages usable kind es few.pages);
    }

-- ---- one turn of the loop

pub needs_sizes : (usable : ℕ) (kind : Kind) (leaf : Bool) (xs : List Item) → sum_by need_in (map (size_item usable kind leaf) xs) ≡ needs usable kind leaf xs
needs_sizes usable kind leaf [] = refl
needs_sizes usable kind leaf (x ∷ xs) = omega (arith, needs_sizes usable kind leaf xs, sum_by-cons need_in (size_item usable kind leaf x) (map (size_item usable kind leaf) xs), sum_by-cons (need_of usable kind leaf) x xs)

some_cells : (need : Item → ℕ) (top : ℕ) (xs : List Item) → top < sum_by need xs → 1 ≤ length xs
some_cells need top [] lt = absurd (omega arith)
some_cells need top (x ∷ xs) lt = omega arith

-- what the cells of the line take
pub record LineTakes (usable : ℕ) (kind : Kind) (top : ℕ) (es : List Entry) (leaves base index : ℕ) (plans : List PagePlan) (g : Grows usable kind top es leaves base index plans) (sizes : List Size) : Type 0 where
  pub sizes_are : sizes ≡ map (size_item usable kind false) g.line.cells
  pub needs_are : sum_by need_in sizes ≡ needs usable kind false g.line.cells
  pub short : length sizes < 2 ^ 31
  pub can_cut : top < sum_by need_in sizes → AreSizes (usable - 12) sizes

pub line_takes : (usable : ℕ) (kind : Kind) (top : ℕ) (es : List Entry) (leaves base index end : ℕ) (plans : List PagePlan) (sizes : List Size) → 512 ≤ usable → AreEntries es
    → (g : Grows usable kind top es leaves base index plans) → end + 1 ≡ length plans
    → sizes ≡ map (size_item usable kind false) (map (inner_item kind es) (take (end - base) (drop base plans)))
    → LineTakes usable kind top es leaves base index plans g sizes
line_takes usable kind top es leaves base index end plans sizes least entries g e is =
    let same : sizes ≡ map (size_item usable kind false) g.line.cells = is ∙ ap (map (size_item usable kind false)) (line_cells usable kind top es leaves base index end plans g e) in
    let sums : sum_by need_in sizes ≡ needs usable kind false g.line.cells = ap (sum_by need_in) same ∙ needs_sizes usable kind false g.line.cells in
    let few = few_entries usable kind es least entries in
    record {
      sizes_are = same;
      needs_are = sums;
      short = omega (arith, ap length same, length-map g.line.cells (size_item usable kind false), g.bound, few.pages, g.lens);
      can_cut = λ lt. subst (AreSizes (usable - 12)) (sym same)
          (line_sizes_fit usable kind top es leaves base index plans least entries g (some_cells (need_of usable kind false) top g.line.cells (omega (arith, lt, sums))));
    }

level_ends : (es : List Entry) (plans : List PagePlan) (base k : ℕ) (spans : List Span) → AllByRecursion (AreThere es plans false) (level_plans plans base k spans)
    → (i : ℕ) → i < length spans → base + (span_at spans i).first + (span_at spans i).cells < length plans
level_ends es plans base k [] all i lt = absurd (omega arith)
level_ends es plans base k (s ∷ ss) all zero lt = all.0.0
level_ends es plans base k (s ∷ ss) all (suc i) lt = level_ends es plans base (k + s.pages) ss all.1 i (omega arith)

pub record NextTurn (usable : ℕ) (kind : Kind) (top : ℕ) (es : List Entry) (leaves base index end : ℕ) (plans : List PagePlan) (spans : List Span) : Type 0 where
  pub few : index + sum_by span_pages spans < 2 ^ 32
  pub small : length plans < 2 ^ 32
  pub ends : (i : ℕ) → i < length spans → base + (span_at spans i).first + (span_at spans i).cells < length plans
  pub next : (index' : ℕ) (plans' : List PagePlan) → plans' ≡ plans ++ level_plans plans base index spans → index' ≡ index + sum_by span_pages spans
      → Grows usable kind top es leaves (end + 1) index' plans'
  pub smaller : (plans' : List PagePlan) → plans' ≡ plans ++ level_plans plans base index spans → length plans' - (end + 1) < length plans - base

pub next_turn : (usable : ℕ) (kind : Kind) (top : ℕ) (es : List Entry) (leaves base index end : ℕ) (plans : List PagePlan) (sizes : List Size) (spans : List Span) → 512 ≤ usable → AreEntries es
    → (g : Grows usable kind top es leaves base index plans) → end + 1 ≡ length plans → LineTakes usable kind top es leaves base index plans g sizes → top < sum_by need_in sizes
    → spans ≡ spans_of 1 0 (cuts need_in (usable - 12) [] (usable - 12) sizes) → NextTurn usable kind top es leaves base index end plans spans
next_turn usable kind top es leaves base index end plans sizes spans least entries g e l lt is =
    let cut = level_cut usable kind g.line in
    let made = item_spans usable kind 1 0 cut.firsts cut.last in
    let some = some_cells (need_of usable kind false) top g.line.cells (omega (arith, lt, l.needs_are)) in
    let full : nat_le (needs usable kind false g.line.cells) top ≡ false = over (needs usable kind false g.line.cells) top (omega (arith, lt, l.needs_are)) in
    let same : spans ≡ made = is ∙ ap (λ (t : List Size). spans_of 1 0 (cuts need_in (usable - 12) [] (usable - 12) t)) l.sizes_are
    ∙ spans_cut usable kind false 1 0 cut _ (cuts_same usable kind false (room_in usable false) [] (room_in usable false) g.line.cells) in
    let least' : 480 ≤ usable = omega arith in
    let n = next_level usable kind top es leaves base index plans least' g some in
    let more : Grows usable kind top es leaves (length plans) (index + sum_by span_pages made) (plans ++ level_plans plans base index made) = grows_more usable kind top es leaves base index plans least' g some full in
    let few = few_entries usable kind es least entries in
    let len : length (level_plans plans base index made) ≡ length cut.firsts + 1
    = sym (length-map (level_plans plans base index made) (sheet_for kind es plans false)) ∙ ap length n.shows.sheets ∙ sheets_len false cut.firsts cut.last g.line.right in
    record {
      few = omega (arith, ap (sum_by span_pages) same, more.overs_are, more.bound, few.pages);
      small = omega (arith, g.bound, few.pages);
      ends = subst (λ (t : List Span). (i : ℕ) → i < length t → base + (span_at t i).first + (span_at t i).cells < length plans) (sym same) (level_ends es plans base index made n.shows.there);
      next = λ index' plans' p i.
          let p' : plans' ≡ plans ++ level_plans plans base index made = p ∙ ap (λ (t : List Span). plans ++ level_plans plans base index t) same in
          let i' : index' ≡ index + sum_by span_pages made = i ∙ ap (λ (t : List Span). index + sum_by span_pages t) same in
          subst (λ (t : List PagePlan). Grows usable kind top es leaves (end + 1) index' t) (sym p')
          (subst (λ m. Grows usable kind top es leaves (end + 1) m (plans ++ level_plans plans base index made)) (sym i')
          (subst (λ m. Grows usable kind top es leaves m (index + sum_by span_pages made) (plans ++ level_plans plans base index made)) (sym e) more));
      smaller = λ plans' p.
          let p' : plans' ≡ plans ++ level_plans plans base index made = p ∙ ap (λ (t : List Span). plans ++ level_plans plans base index t) same in
          omega (arith, ap length p', length-append plans (level_plans plans base index made), len, n.few, g.lens, e);
    }
  where
    over : (a b : ℕ) → b < a → nat_le a b ≡ false
    over a b lt = grind (arith, nat_tests)

-- ---- the leaves in code

pub record FirstTurn (usable : ℕ) (kind : Kind) (es : List Entry) (spans : List Span) : Type 0 where
  pub few : sum_by span_pages spans < 2 ^ 32
  pub ends : (i : ℕ) → i < length spans → (span_at spans i).first + (span_at spans i).cells < 2 ^ 32
  pub short : length (leaf_plans kind 0 spans) < 2 ^ 32
  pub start : (top index : ℕ) (plans : List PagePlan) → plans ≡ leaf_plans kind 0 spans → index ≡ sum_by span_pages spans → Grows usable kind top es (length plans) 0 index plans

leaf_ends : (kind : Kind) (es : List Entry) (plans : List PagePlan) (k : ℕ) (spans : List Span) → AllByRecursion (AreThere es plans true) (leaf_plans kind k spans)
    → (i : ℕ) → i < length spans → (span_at spans i).first + (span_at spans i).cells ≤ length es
leaf_ends kind es plans k [] all i lt = absurd (omega arith)
leaf_ends kind es plans k (s ∷ ss) all zero lt = all.0
leaf_ends kind es plans k (s ∷ ss) all (suc i) lt = leaf_ends kind es plans (k + s.pages) ss all.1 i (omega arith)

pub first_turn : (usable : ℕ) (kind : Kind) (es : List Entry) → 512 ≤ usable → AreEntries es → FirstTurn usable kind es (first_spans usable kind es)
first_turn usable kind es least entries =
    let spans = first_spans usable kind es in
    let plans = leaf_plans kind 0 spans in
    let l = leaf_level usable kind es (omega arith) in
    let few = few_entries usable kind es least entries in
    let g = grows_start usable kind 0 es spans plans l refl in
    record {
      few = omega (arith, g.overs_are, g.bound, few.pages);
      ends = λ i lt. omega (arith, leaf_ends kind es [] 0 spans (l.shows []).there i lt, few.pages);
      short = omega (arith, g.bound, few.pages);
      start = λ top index plans p i. subst (λ n. Grows usable kind top es (length plans) 0 n plans) (sym i) (grows_start usable kind top es spans plans l p);
    }

-- the spans of the leaves are those of their sizes
pub first_same : (usable : ℕ) (kind : Kind) (es : List Entry) (sizes : List Size) → sizes ≡ map (size_item usable kind true) (map leaf_item es)
    → (kind ≡ Table → spans_of 0 0 (leaves need_in no_key no_size (usable - 8) [] (usable - 8) sizes) ≡ first_spans usable kind es)
    × (kind ≡ Index → spans_of 1 0 (cuts need_in (usable - 8) [] (usable - 8) sizes) ≡ first_spans usable kind es)
first_same usable Table es sizes is = (
  (λ e. ap (λ (t : List Size). spans_of 0 0 (leaves need_in no_key no_size (usable - 8) [] (usable - 8) t)) is
      ∙ spans_cut usable Table true 0 0 (leaf_cut usable Table es) _ (leaves_same usable Table true key_item no_item (room_in usable true) [] (room_in usable true) (map leaf_item es))),
  (λ e. cc),
)
first_same usable Index es sizes is = (
  (λ e. cc),
  (λ e. ap (λ (t : List Size). spans_of 1 0 (cuts need_in (usable - 8) [] (usable - 8) t)) is
      ∙ spans_cut usable Index true 1 0 (leaf_cut usable Index es) _ (cuts_same usable Index true (room_in usable true) [] (room_in usable true) (map leaf_item es))),
)

pub under : (a b : ℕ) → a ≤ b → nat_le a b ≡ true
under a b le = grind (arith, nat_tests)
