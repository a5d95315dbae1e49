-- The pages of a plan, level by level, are those of the layout.
use Rattle.std.proofs.Common.{◌≡◌, ◌<◌, ◌≤◌, ℕ, zero, suc, ◌+◌, ◌-◌, ◌*◌, Bool, true, false, List, [], ◌∷◌, ◌++◌, length, take, drop, get_or, map, sum_by, refl, sym, ap, ◌∙◌, subst, arith, append_assoc, append-nil, length-append, length-take, length-drop, drop-drop}
use Rattle.std.specs.List.{AllByRecursion, take-map, drop-map}
use Rattle.std.proofs.Math.ListN.{get_or-map}
use Rattle.std.proofs.Math.Seq.{take-append_seam, drop-append_seam}
use Rattle.std.proofs.lemmas.List.{get_or-drop, length-map, map-append}
use Rattle.std.proofs.lemmas.List.Sums.{sum_by-append, sum_by-cons}
use Rattle.cell_reader.specs.declared.shapes.Kind.{Kind}
use Rattle.cell_reader.specs.declared.shapes.Kind.TheVariants.{Table, Index}
use Rattle.tree_writer.specs.declared.groups.Span.{Span}
use Rattle.tree_writer.specs.declared.plans.PagePlan.{PagePlan}
use Rattle.tree_writer.specs.Cells.{item_overs, over_count, overs, width_of}
use Rattle.tree_writer.specs.Entry.{Entry, Item, entry_at, key_item, key_of, leaf_item, no_entry, no_item}
use Rattle.tree_writer.specs.Groups.{Cut, flat_from, joined_from, last_of, end_of, start_of}
use Rattle.tree_writer.specs.Levels.{Line, Sheet, cons_line, line_from, pages_in, sheets_from}
use Rattle.tree_writer.specs.Plan.{item_span, item_spans, part_of}
use Rattle.tree_writer.specs.Planned.{AreThere, index_of, inner_item, items_of, leaf_behind, leaf_plans, level_plans, line_of, line_tail, no_page, plan_at, right_index, sheet_for, span_pages, starts_from}
use Rattle.tree_writer.proofs.Cuts.{Keyed, given}
use Rattle.tree_writer.proofs.Chaining.{key_alone}
use Rattle.tree_writer.proofs.Lists.{get_here, length_push}

-- ---- what both kinds of levels have

-- pages that show sheets: their cells and right-most children, their places, and the cells of the line
-- over them
pub record Shows (usable : ℕ) (kind : Kind) (es : List Entry) (plans : List PagePlan) (leaf : Bool) (k : ℕ) (ps : List PagePlan) (firsts : List (List Item × Item)) (last : List Item) (right : ℕ) : Type 0 where
  pub sheets : map (sheet_for kind es plans leaf) ps ≡ sheets_from leaf firsts last right
  pub line : line_of kind es (line_from (width_of usable kind) k firsts last).next ps ≡ line_from (width_of usable kind) k firsts last
  pub there : AllByRecursion (AreThere es plans leaf) ps
  pub starts : map index_of ps ≡ starts_from usable kind k (sheets_from leaf firsts last right)
  pub some : 1 ≤ length ps
  pub behinds : (j : ℕ) → j + 1 < length ps → (plan_at ps j).behind < length es

line_cons : (kind : Kind) (es : List Entry) (next : ℕ) (p : PagePlan) (ps : List PagePlan) → 1 ≤ length ps
    → line_of kind es next (p ∷ ps) ≡ cons_line (inner_item kind es p) (line_of kind es next ps)
line_cons kind es next p [] some = absurd (omega arith)
line_cons kind es next p (q ∷ qs) some = refl

behind_cons : (es : List Entry) (p : PagePlan) (ps : List PagePlan) → p.behind < length es → ((j : ℕ) → j + 1 < length ps → (plan_at ps j).behind < length es)
    → (j : ℕ) → j + 1 < length (p ∷ ps) → (plan_at (p ∷ ps) j).behind < length es
behind_cons es p ps inside rest zero lt = inside
behind_cons es p ps inside rest (suc j) lt = rest j (omega arith)

-- one page more, before a level
shows_more : (usable : ℕ) (kind : Kind) (es : List Entry) (plans : List PagePlan) (leaf : Bool) (k : ℕ) (p : PagePlan) (ps : List PagePlan) (f : List Item × Item) (fs : List (List Item × Item)) (last : List Item) (right : ℕ)
    → p.index ≡ k → items_of kind es plans leaf p ≡ f.0 → right_index plans leaf p ≡ f.1.child → part_of kind false (entry_at es p.behind) ≡ f.1.entry → AreThere es plans leaf p → p.behind < length es
    → Shows usable kind es plans leaf (k + width_of usable kind f.0) ps fs last right → Shows usable kind es plans leaf k (p ∷ ps) (f ∷ fs) last right
shows_more usable kind es plans leaf k p ps f fs last right i items r e there inside s =
    let sheet : sheet_for kind es plans leaf p ≡ record { leaf = leaf; items = f.0; right = f.1.child }
    = let g : List Item → ℕ → Sheet = λ xs n. record { leaf = leaf; items = xs; right = n } in
    ap (λ (t : List Item). g t (right_index plans leaf p)) items ∙ ap (g f.0) r in
    let item : inner_item kind es p ≡ record { child = k; entry = f.1.entry }
    = let g : ℕ → Entry → Item = λ n x. record { child = n; entry = x } in
    ap (λ n. g n (part_of kind false (entry_at es p.behind))) i ∙ ap (g k) e in
    let w = width_of usable kind in
    record {
      sheets = ap (λ (t : Sheet). t ∷ map (sheet_for kind es plans leaf) ps) sheet ∙ ap (λ (t : List Sheet). record { leaf = leaf; items = f.0; right = f.1.child } ∷ t) s.sheets;
      line = line_cons kind es (line_from w (k + w f.0) fs last).next p ps s.some ∙ ap (λ (t : Item). cons_line t (line_of kind es (line_from w (k + w f.0) fs last).next ps)) item
          ∙ ap (cons_line (record { child = k; entry = f.1.entry })) s.line;
      there = (there, s.there);
      starts = ap (λ n. n ∷ map index_of ps) i ∙ ap (λ (t : List ℕ). k ∷ t) s.starts;
      some = omega arith;
      behinds = behind_cons es p ps inside s.behinds;
    }

shows_last : (usable : ℕ) (kind : Kind) (es : List Entry) (plans : List PagePlan) (leaf : Bool) (k : ℕ) (p : PagePlan) (last : List Item) (right : ℕ)
    → p.index ≡ k → items_of kind es plans leaf p ≡ last → right_index plans leaf p ≡ right → AreThere es plans leaf p
    → Shows usable kind es plans leaf k (p ∷ []) [] last right
shows_last usable kind es plans leaf k p last right i items r there =
    let sheet : sheet_for kind es plans leaf p ≡ record { leaf = leaf; items = last; right = right }
    = let g : List Item → ℕ → Sheet = λ xs n. record { leaf = leaf; items = xs; right = n } in
    ap (λ (t : List Item). g t (right_index plans leaf p)) items ∙ ap (g last) r in
    record {
      sheets = ap (λ (t : Sheet). t ∷ []) sheet;
      line = let g : ℕ → Line = λ n. record { cells = []; right = n; next = k + width_of usable kind last } in ap g i;
      there = (there, tt);
      starts = ap (λ n. n ∷ []) i;
      some = omega arith;
      behinds = λ j lt. absurd (omega arith);
    }

-- a part of a list, and what stands behind it
pub record Piece {X : Type 0} (all : List X) (i : ℕ) (g : List X) (y : X) (rest : List X) : Type 0 where
  pub part : take (length g) (drop i all) ≡ g
  pub behind : (d : X) → get_or all (i + length g) d ≡ y
  pub more : drop (i + length g + 1) all ≡ rest
  pub room : i + length g < length all

pub piece : {X : Type 0} (all : List X) (i : ℕ) (g : List X) (y : X) (rest : List X) → drop i all ≡ g ++ (y ∷ rest) → Piece all i g y rest
piece all i g y rest e = record {
  part = ap (take (length g)) e ∙ take-append_seam g (y ∷ rest);
  behind = λ d. sym (get_or-drop i all (length g) d) ∙ ap (λ t. get_or t (length g) d) e ∙ get_here g y rest d;
  more =
      let apart : g ++ (y ∷ rest) ≡ (g ++ y ∷ []) ++ rest = sym (append_assoc g (y ∷ []) rest) in
      let len : i + length g + 1 ≡ i + length (g ++ y ∷ []) = omega (arith, length_push g y) in
      ap (λ n. drop n all) len ∙ sym (drop-drop (length (g ++ y ∷ [])) i all) ∙ ap (drop (length (g ++ y ∷ []))) (e ∙ apart) ∙ drop-append_seam (g ++ y ∷ []) rest;
  room = let n : length (drop i all) ≡ length (g ++ (y ∷ rest)) = ap length e in omega (arith, n, length-drop i all, length-append g (y ∷ rest));
}

-- ---- interior pages

-- the cells that name the pages from `base` on
abbrev pub below : Kind → List Entry → List PagePlan → ℕ → List Item
below kind es plans base = map (inner_item kind es) (drop base plans)

record InnerPage (kind : Kind) (es : List Entry) (plans : List PagePlan) (base i k n : ℕ) (g : List Item) (y : Item) : Type 0 where
  items : items_of kind es plans false (record { index = k; first = base + i; cells = n; behind = (plan_at plans (base + i + n)).behind }) ≡ g
  right : (plan_at plans (base + i + n)).index ≡ y.child
  entry : part_of kind false (entry_at es (plan_at plans (base + i + n)).behind) ≡ y.entry
  room : base + i + n < length plans

inner_page : (kind : Kind) (es : List Entry) (plans : List PagePlan) (base i k : ℕ) (g : List Item) (y : Item) (rest : List Item)
    → drop i (below kind es plans base) ≡ g ++ (y ∷ rest) → InnerPage kind es plans base i k (length g) g y
unfolding items_of
inner_page kind es plans base i k g y rest e =
    let p = piece (below kind es plans base) i g y rest e in
    let f = inner_item kind es in
    let item : f (plan_at plans (base + i + length g)) ≡ y
    = sym (ap (λ n. f (plan_at plans n)) (sym (base_plus base i (length g)))) ∙ ap f (sym (get_or-drop base plans (i + length g) no_page)) ∙ sym (get_or-map f (drop base plans) (i + length g) no_page) ∙ p.behind (f no_page) in
    record {
      items = ap (λ (t : List PagePlan). map f (take (length g) t)) (sym (drop-drop i base plans)) ∙ sym (take-map f (length g) (drop i (drop base plans)))
          ∙ ap (take (length g)) (sym (drop-map f i (drop base plans))) ∙ p.part;
      right = ap (λ (t : Item). t.child) item;
      entry = ap (λ (t : Item). t.entry) item;
      room = omega (arith, p.room, length-map (drop base plans) f, length-drop base plans);
    }
  where
    base_plus : (a b c : ℕ) → a + b + c ≡ a + (b + c)
    base_plus a b c = omega arith

pub level_shown : (usable : ℕ) (kind : Kind) (es : List Entry) (plans : List PagePlan) (base : ℕ) (firsts : List (List Item × Item)) (last : List Item) (z : Item) (i k : ℕ)
    → drop i (below kind es plans base) ≡ flat_from firsts last ++ z ∷ []
    → ((j : ℕ) → j + 1 < length (below kind es plans base) → (plan_at plans (base + j)).behind < length es)
    → Shows usable kind es plans false k (level_plans plans base k (item_spans usable kind 1 i firsts last)) firsts last z.child
level_shown usable kind es plans base [] last z i k e b =
    let q = inner_page kind es plans base i k last z [] e in
    let p = piece (below kind es plans base) i last z [] e in
    shows_last usable kind es plans false k (record { index = k; first = base + i; cells = length last; behind = (plan_at plans (base + i + length last)).behind }) last z.child
    refl q.items q.right (q.room, λ j lt. subst (λ n. (plan_at plans n).behind < length es) (omega arith) (b (i + j) (omega (arith, p.room))))
level_shown usable kind es plans base (f ∷ fs) last z i k e b =
    let apart : drop i (below kind es plans base) ≡ f.0 ++ (f.1 ∷ (flat_from fs last ++ z ∷ [])) = e ∙ append_assoc f.0 (f.1 ∷ flat_from fs last) (z ∷ []) in
    let q = inner_page kind es plans base i k f.0 f.1 (flat_from fs last ++ z ∷ []) apart in
    let p = piece (below kind es plans base) i f.0 f.1 (flat_from fs last ++ z ∷ []) apart in
    shows_more usable kind es plans false k (record { index = k; first = base + i; cells = length f.0; behind = (plan_at plans (base + i + length f.0)).behind })
    (level_plans plans base (k + width_of usable kind f.0) (item_spans usable kind 1 (i + length f.0 + 1) fs last)) f fs last z.child
    refl q.items q.right q.entry (q.room, λ j lt. subst (λ n. (plan_at plans n).behind < length es) (omega arith) (b (i + j) (omega (arith, p.room))))
    (let more : length (drop (i + length f.0 + 1) (below kind es plans base)) ≡ length (flat_from fs last ++ z ∷ []) = ap length p.more in
    subst (λ n. (plan_at plans n).behind < length es) (omega arith) (b (i + length f.0)
    (omega (arith, more, length-drop (i + length f.0 + 1) (below kind es plans base), length-append (flat_from fs last) (z ∷ [])))))
    (level_shown usable kind es plans base fs last z (i + length f.0 + 1) (k + width_of usable kind f.0) p.more b)

-- ---- leaves

leaf_items : (kind : Kind) (es : List Entry) (plans : List PagePlan) (i k b : ℕ) (g : List Item) → take (length g) (drop i (map leaf_item es)) ≡ g
    → items_of kind es plans true (record { index = k; first = i; cells = length g; behind = b }) ≡ g
unfolding items_of
leaf_items kind es plans i k b g e = sym (take-map leaf_item (length g) (drop i es)) ∙ ap (take (length g)) (sym (drop-map leaf_item i es)) ∙ e

entry_is : (es : List Entry) (i : ℕ) (y : Item) → get_or (map leaf_item es) i no_item ≡ y → leaf_item (entry_at es i) ≡ y
entry_is es i y e = sym (get_or-map leaf_item es i no_entry) ∙ e

take_whole : (xs : List Item) → take (length xs) xs ≡ xs
take_whole [] = refl
take_whole (x ∷ xs) = ap (λ (t : List Item). x ∷ t) (take_whole xs)

within : (es : List Entry) (i : ℕ) (xs : List Item) → drop i (map leaf_item es) ≡ xs → i ≤ length es → i + length xs ≤ length es
within es i xs e le = let n : length (drop i (map leaf_item es)) ≡ length xs = ap length e in
    omega (arith, n, length-drop i (map leaf_item es), length-map es leaf_item)

last_leaf : (usable : ℕ) (kind : Kind) (es : List Entry) (plans : List PagePlan) (last : List Item) (i k b : ℕ)
    → drop i (map leaf_item es) ≡ last → i ≤ length es
    → Shows usable kind es plans true k (record { index = k; first = i; cells = length last; behind = b } ∷ []) [] last 0
last_leaf usable kind es plans last i k b e le =
    let part : take (length last) (drop i (map leaf_item es)) ≡ last = ap (take (length last)) e ∙ take_whole last in
    shows_last usable kind es plans true k (record { index = k; first = i; cells = length last; behind = b }) last 0
    refl (leaf_items kind es plans i k b last part) refl (within es i last e le)

pub index_leaves : (usable : ℕ) (es : List Entry) (plans : List PagePlan) (firsts : List (List Item × Item)) (last : List Item) (i k : ℕ)
    → drop i (map leaf_item es) ≡ flat_from firsts last → i ≤ length es
    → Shows usable Index es plans true k (leaf_plans Index k (item_spans usable Index 1 i firsts last)) firsts last 0
index_leaves usable es plans [] last i k e le = last_leaf usable Index es plans last i k (i + length last) e le
index_leaves usable es plans (f ∷ fs) last i k e le =
    let p = piece (map leaf_item es) i f.0 f.1 (flat_from fs last) e in
    let item = entry_is es (i + length f.0) f.1 (p.behind no_item) in
    let room : i + length f.0 < length es = omega (arith, p.room, length-map es leaf_item) in
    shows_more usable Index es plans true k (record { index = k; first = i; cells = length f.0; behind = i + length f.0 })
    (leaf_plans Index (k + width_of usable Index f.0) (item_spans usable Index 1 (i + length f.0 + 1) fs last)) f fs last 0
    refl (leaf_items Index es plans i k (i + length f.0) f.0 p.part) (ap (λ (t : Item). t.child) item) (ap (λ (t : Item). t.entry) item)
    (omega (arith, room)) room
    (index_leaves usable es plans fs last (i + length f.0 + 1) (k + width_of usable Index f.0) p.more (omega (arith, room)))

-- a leaf of a table: its cells, and the last of them
record TableLeaf (es : List Entry) (i : ℕ) (g rest : List Item) : Type 0 where
  part : take (length g) (drop i (map leaf_item es)) ≡ g
  last : leaf_item (entry_at es (i + length g - 1)) ≡ last_of no_item g
  more : drop (i + length g + 0) (map leaf_item es) ≡ rest
  room : i + length g ≤ length es

table_leaf : (es : List Entry) (i : ℕ) (g rest : List Item) → 1 ≤ length g → drop i (map leaf_item es) ≡ g ++ rest → TableLeaf es i g rest
table_leaf es i [] rest some e = absurd (omega arith)
table_leaf es i (h ∷ hs) rest some e =
    let whole : (h ∷ hs) ++ rest ≡ start_of h hs ++ (end_of h hs ∷ rest)
    = sym (ap (λ (t : List Item). t ++ rest) (given h hs)) ∙ append_assoc (start_of h hs) (end_of h hs ∷ []) rest in
    let p = piece (map leaf_item es) i (start_of h hs) (end_of h hs) rest (e ∙ whole) in
    let len : length (h ∷ hs) ≡ length (start_of h hs) + 1 = sym (ap length (given h hs)) ∙ length_push (start_of h hs) (end_of h hs) in
    let place : i + length (h ∷ hs) - 1 ≡ i + length (start_of h hs) = omega (arith, len) in
    let behind : i + length (h ∷ hs) + 0 ≡ i + length (start_of h hs) + 1 = omega (arith, len) in
    record {
      part = ap (take (length (h ∷ hs))) e ∙ take-append_seam (h ∷ hs) rest;
      last = entry_is es (i + length (h ∷ hs) - 1) (end_of h hs) (ap (λ n. get_or (map leaf_item es) n no_item) place ∙ p.behind no_item);
      more = ap (λ n. drop n (map leaf_item es)) behind ∙ p.more;
      room = omega (arith, len, p.room, length-map es leaf_item);
    }

pub table_leaves : (usable : ℕ) (es : List Entry) (plans : List PagePlan) (firsts : List (List Item × Item)) (last : List Item) (i k : ℕ)
    → drop i (map leaf_item es) ≡ joined_from firsts last → Keyed key_item no_item firsts → i ≤ length es
    → Shows usable Table es plans true k (leaf_plans Table k (item_spans usable Table 0 i firsts last)) firsts last 0
table_leaves usable es plans [] last i k e keyed le = last_leaf usable Table es plans last i k (i + length last - 1) e le
table_leaves usable es plans (f ∷ fs) last i k e keyed le =
    let t = table_leaf es i f.0 (joined_from fs last) keyed.1 e in
    let item : key_item (leaf_item (entry_at es (i + length f.0 - 1))) ≡ f.1 = ap key_item t.last ∙ sym keyed.0 in
    shows_more usable Table es plans true k (record { index = k; first = i; cells = length f.0; behind = i + length f.0 - 1 })
    (leaf_plans Table (k + width_of usable Table f.0) (item_spans usable Table 0 (i + length f.0 + 0) fs last)) f fs last 0
    refl (leaf_items Table es plans i k (i + length f.0 - 1) f.0 t.part) (ap (λ (x : Item). x.child) item) (ap (λ (x : Item). x.entry) item)
    t.room (omega (arith, t.room, keyed.1))
    (table_leaves usable es plans fs last (i + length f.0 + 0) (k + width_of usable Table f.0) t.more keyed.2 (omega (arith, t.room)))

-- ---- how many pages a level and its line are

-- the index behind a level is its pages and their overflow pages further
pub line_next : (usable : ℕ) (kind : Kind) (gap k i : ℕ) (firsts : List (List Item × Item)) (last : List Item)
    → (line_from (width_of usable kind) k firsts last).next ≡ k + sum_by span_pages (item_spans usable kind gap i firsts last)
line_next usable kind gap k i [] last = omega (arith, sum_by-cons span_pages (item_span usable kind i last) [])
line_next usable kind gap k i (f ∷ fs) last =
    omega (
      arith,
      line_next usable kind gap (k + width_of usable kind f.0) (i + length f.0 + gap) fs last,
      sum_by-cons span_pages (item_span usable kind i f.0) (item_spans usable kind gap (i + length f.0 + gap) fs last),
    )

pub line_pages : (usable : ℕ) (kind : Kind) (leaf : Bool) (k : ℕ) (firsts : List (List Item × Item)) (last : List Item) (right : ℕ)
    → (line_from (width_of usable kind) k firsts last).next ≡ k + pages_in usable kind (sheets_from leaf firsts last right)
line_pages usable kind leaf k [] last right = omega (arith, sum_by-cons (λ (s : Sheet). width_of usable kind s.items) (record { leaf = leaf; items = last; right = right }) [])
line_pages usable kind leaf k (f ∷ fs) last right =
    omega (
      arith,
      line_pages usable kind leaf (k + width_of usable kind f.0) fs last right,
      sum_by-cons (λ (s : Sheet). width_of usable kind s.items) (record { leaf = leaf; items = f.0; right = f.1.child }) (sheets_from leaf fs last right),
    )

pub line_len : (usable : ℕ) (kind : Kind) (k : ℕ) (firsts : List (List Item × Item)) (last : List Item) → length (line_from (width_of usable kind) k firsts last).cells ≡ length firsts
line_len usable kind k [] last = refl
line_len usable kind k (f ∷ fs) last = ap suc (line_len usable kind (k + width_of usable kind f.0) fs last)

pub sheets_len : (leaf : Bool) (firsts : List (List Item × Item)) (last : List Item) (right : ℕ) → length (sheets_from leaf firsts last right) ≡ length firsts + 1
sheets_len leaf [] last right = refl
sheets_len leaf (f ∷ fs) last right = omega (arith, sheets_len leaf fs last right)

-- overflow pages of a level, and of the cells over it
abbrev pub level_overs : ℕ → Kind → List (List Item × Item) → List Item → ℕ
level_overs usable kind [] last = overs usable kind last
level_overs usable kind (f ∷ fs) last = overs usable kind f.0 + level_overs usable kind fs last

pub line_overs : (usable : ℕ) (kind : Kind) (k : ℕ) (firsts : List (List Item × Item)) (last : List Item)
    → level_overs usable kind firsts last + overs usable kind (line_from (width_of usable kind) k firsts last).cells ≡ overs usable kind (flat_from firsts last)
line_overs usable kind k [] last = omega arith
line_overs usable kind k (f ∷ fs) last =
    omega (
      arith,
      line_overs usable kind (k + width_of usable kind f.0) fs last,
      sum_by-append (item_overs usable kind) f.0 (f.1 ∷ flat_from fs last),
      sum_by-cons (item_overs usable kind) f.1 (flat_from fs last),
      sum_by-cons (item_overs usable kind) (record { child = k; entry = f.1.entry }) (line_from (width_of usable kind) (k + width_of usable kind f.0) fs last).cells,
    )

pub pages_overs : (usable : ℕ) (kind : Kind) (leaf : Bool) (firsts : List (List Item × Item)) (last : List Item) (right : ℕ)
    → pages_in usable kind (sheets_from leaf firsts last right) ≡ length firsts + 1 + level_overs usable kind firsts last
pages_overs usable kind leaf [] last right = omega (arith, sum_by-cons (λ (s : Sheet). width_of usable kind s.items) (record { leaf = leaf; items = last; right = right }) [])
pages_overs usable kind leaf (f ∷ fs) last right =
    omega (
      arith,
      pages_overs usable kind leaf fs last right,
      sum_by-cons (λ (s : Sheet). width_of usable kind s.items) (record { leaf = leaf; items = f.0; right = f.1.child }) (sheets_from leaf fs last right),
    )

-- a table's leaves have all overflow pages: the keys over them have none
pub keyed_overs : (usable : ℕ) (k : ℕ) (firsts : List (List Item × Item)) (last : List Item) → 480 ≤ usable → Keyed key_item no_item firsts
    → level_overs usable Table firsts last + overs usable Table (line_from (width_of usable Table) k firsts last).cells ≡ overs usable Table (joined_from firsts last)
keyed_overs usable k [] last least keyed = omega arith
keyed_overs usable k (f ∷ fs) last least keyed =
    let key : item_overs usable Table (record { child = k; entry = f.1.entry }) ≡ 0
    = ap (λ (x : Item). over_count usable Table x.entry) keyed.0 ∙ key_alone usable Table (last_of no_item f.0).entry least in
    omega (
      arith,
      keyed_overs usable (k + width_of usable Table f.0) fs last least keyed.2,
      sum_by-append (item_overs usable Table) f.0 (joined_from fs last),
      key,
      sum_by-cons (item_overs usable Table) (record { child = k; entry = f.1.entry }) (line_from (width_of usable Table) (k + width_of usable Table f.0) fs last).cells,
    )
