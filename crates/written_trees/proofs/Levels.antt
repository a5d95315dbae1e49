-- The levels of a written tree, one over another.
use Rattle.std.proofs.Common.{◌≡◌, ◌≢◌, ◌<◌, ◌≤◌, ℕ, zero, suc, ◌+◌, ◌-◌, ◌*◌, Bool, true, false, List, [], ◌∷◌, ◌++◌, length, nat_le, nat_eq, sum_by, refl, sym, ap, ◌∙◌, subst, arith, append_assoc, append-nil}
use Rattle.std.specs.Prelude.{if◌then◌else◌}
use Rattle.std.specs.List.{AllByRecursion}
use Rattle.std.proofs.lemmas.Bool.Decides.{nat_tests}
use Rattle.std.proofs.lemmas.List.{nil_from_length}
use Rattle.std.proofs.lemmas.List.Sums.{sum_by-cons}
use Rattle.page_access.specs.Pages.{File}
use Rattle.page_lists.specs.Lists.{count}
use Rattle.cell_reader.specs.declared.shapes.Kind.{Kind}
use Rattle.cell_reader.specs.declared.shapes.Kind.TheVariants.{Table, Index}
use Rattle.cell_reader.specs.Shape.{head_of, header_len}
use Rattle.tree_writer.specs.Cells.{need_of, width_of}
use Rattle.tree_writer.specs.Entry.{Entry, Item}
use Rattle.tree_writer.specs.Groups.{Cut, cuts, flat_from, past}
use Rattle.tree_writer.specs.Layout.{pages_from, sheet_pages}
use Rattle.tree_writer.specs.Levels.{Line, Sheet, level_cut, level_sheets, line_above, line_from, needs, pages_in, room_in, sheets_from, sheets_of, top_line}
use Rattle.tree_writer.proofs.Cuts.{all_push, cuts_few, cuts_fit, cuts_flat, two_held}
use Rattle.tree_writer.proofs.Lists.{sum_push}
use Rattle.tree_writer.proofs.Needs.{index_half, key_half}
use Rattle.tree_writer.proofs.Rising.{line_len, line_pages}
use Rattle.tree_writer.proofs.Writing.{length-sheet}
use Rattle.written_trees.specs.Trees.{numbers}
use Rattle.written_trees.proofs.Forests.{Forest, HaveCells, LevelSays, level_over}
use Rattle.written_trees.proofs.Numbers.{Stand, count-numbers, number_is_page, numbers_least, stand_apart}
use Rattle.written_trees.proofs.Sheets.{AreFew, IsCell, ItemIs, SheetSays, sheet_says}

pub both_all : {X : Type 0} (P : X → Type 0) (xs ys : List X) → AllByRecursion P (xs ++ ys) → AllByRecursion P xs × AllByRecursion P ys
both_all P [] ys h = (tt, h)
both_all P (x ∷ xs) ys h = let r = both_all P xs ys h.1 in ((h.0, r.0), r.1)

pub each_is : {X : Type 0} (P : X → Type 0) → ((x : X) → P x) → (xs : List X) → AllByRecursion P xs
each_is P h [] = tt
each_is P h (x ∷ xs) = (h x, each_is P h xs)

-- ---- pages of several levels

pub pages_apart : (f : File) (kind : Kind) (number : ℕ → ℕ) (k : ℕ) (ss ts : List Sheet) → Stand f number k (pages_from f.usable kind number k (ss ++ ts))
    → Stand f number k (pages_from f.usable kind number k ss)
    × Stand f number (k + pages_in f.usable kind ss) (pages_from f.usable kind number (k + pages_in f.usable kind ss) ts)
pages_apart f kind number k [] ts s =
    let place : k ≡ k + 0 = omega arith in (tt, subst (λ n. Stand f number n (pages_from f.usable kind number n ts)) place s)
pages_apart f kind number k (x ∷ ss) ts s =
    let w = width_of f.usable kind x.items in
    let one = sheet_pages f.usable kind number k x in
    let parts = stand_apart f number k one (pages_from f.usable kind number (k + w) (ss ++ ts)) s in
    let behind : Stand f number (k + w) (pages_from f.usable kind number (k + w) (ss ++ ts))
    = subst (λ n. Stand f number (k + n) (pages_from f.usable kind number (k + w) (ss ++ ts))) (length-sheet f.usable kind number k x) parts.1 in
    let more = pages_apart f kind number (k + w) ss ts behind in
    let place : k + w + pages_in f.usable kind ss ≡ k + pages_in f.usable kind (x ∷ ss)
    = omega (arith, sum_by-cons (λ (t : Sheet). width_of f.usable kind t.items) x ss) in (
      joined one (pages_from f.usable kind number (k + w) ss) (length-sheet f.usable kind number k x) parts.0 more.0,
      subst (λ n. Stand f number n (pages_from f.usable kind number n ts)) place more.1,
    )
  where
    join : (i : ℕ) (xs ys : List (List ℕ)) → Stand f number i xs → Stand f number (i + length xs) ys → Stand f number i (xs ++ ys)
    join i [] ys a b = subst (λ n. Stand f number n ys) (omega arith) b
    join i (page ∷ xs) ys a b = (a.0, join (i + 1) xs ys a.1 (subst (λ n. Stand f number n ys) (omega arith) b))

    joined : (xs ys : List (List ℕ)) → length xs ≡ width_of f.usable kind x.items → Stand f number k xs → Stand f number (k + width_of f.usable kind x.items) ys → Stand f number k (xs ++ ys)
    joined xs ys e a b = join k xs ys a (subst (λ n. Stand f number (k + n) ys) (sym e) b)

-- ---- the pages of one level

-- the cells of one page can be made, its children are pages of the tree, and they fit
pub record GroupIs (f : File) (kind : Kind) (leaf : Bool) (total : ℕ) (items : List Item) (right : ℕ) : Type 0 where
  pub ok : AllByRecursion (ItemIs kind leaf) items
  pub children : AllByRecursion (λ (x : Item). x.child ≤ total) items
  pub right_le : right ≤ total
  pub fits : needs f.usable kind leaf items ≤ room_in f.usable leaf

pub record GroupsAre (f : File) (kind : Kind) (leaf : Bool) (total : ℕ) (firsts : List (List Item × Item)) (last : List Item) (right : ℕ) : Type 0 where
  pub each : AllByRecursion (λ (g : List Item × Item). GroupIs f kind leaf total g.0 g.1.child) firsts
  pub last_is : GroupIs f kind leaf total last right

pub header_small : (leaf : Bool) → header_len leaf ≤ 12
header_small true = omega arith
header_small false = omega arith

page_said : (f : File) (number : ℕ → ℕ) (total : ℕ) → AreFew f number total → (kind : Kind) (leaf : Bool) (k : ℕ) (items : List Item) (right : ℕ) → 480 ≤ f.usable → f.usable ≤ 65536
    → GroupIs f kind leaf total items right → k + width_of f.usable kind items ≤ total
    → Stand f number k (sheet_pages f.usable kind number k (record { leaf = leaf; items = items; right = right }))
    → SheetSays f number kind (number k) (k + 1) (record { leaf = leaf; items = items; right = right })
page_said f number total a kind leaf k items right least most g le s =
    let two : 2 ≤ number k = omega (arith, numbers_least number a.are.rise 2 a.are.some k) in
    let head : head_of (number k) ≡ 0 = no_front (number k) two in
    let there = number_is_page f number total a.are k (omega (arith, le)) in
    sheet_says f number total a kind (number k) (k + 1) [] (record { leaf = leaf; items = items; right = right }) least most there (sym head)
    (record { ok = g.ok; children = g.children; right = g.right_le; overs_le = omega (arith, le); room = omega (arith, head, g.fits, header_small leaf, least) }) s.0 s.1
  where
    no_front : (p : ℕ) → 2 ≤ p → head_of p ≡ 0
    no_front p two = let test : nat_eq p 1 ≡ false = grind (arith, nat_tests) in rw test refl

pub level_said : (f : File) (number : ℕ → ℕ) (total : ℕ) → AreFew f number total → (kind : Kind) (leaf : Bool) (k : ℕ) (firsts : List (List Item × Item)) (last : List Item) (right : ℕ)
    → 480 ≤ f.usable → f.usable ≤ 65536 → GroupsAre f kind leaf total firsts last right → k + pages_in f.usable kind (sheets_from leaf firsts last right) ≤ total
    → Stand f number k (pages_from f.usable kind number k (sheets_from leaf firsts last right)) → LevelSays f number kind k (sheets_from leaf firsts last right)
level_said f number total a kind leaf k [] last right least most g le s =
    let sums = sum_by-cons (λ (t : Sheet). width_of f.usable kind t.items) (record { leaf = leaf; items = last; right = right }) [] in
    let page : Sheet = record { leaf = leaf; items = last; right = right } in
    let parts = stand_apart f number k (sheet_pages f.usable kind number k page) [] s in
    (page_said f number total a kind leaf k last right least most g.last_is (omega (arith, le, sums)) parts.0, tt)
level_said f number total a kind leaf k (x ∷ xs) last right least most g le s =
    let w = width_of f.usable kind x.0 in
    let page : Sheet = record { leaf = leaf; items = x.0; right = x.1.child } in
    let rest = sheets_from leaf xs last right in
    let sums = sum_by-cons (λ (t : Sheet). width_of f.usable kind t.items) page rest in
    let parts = stand_apart f number k (sheet_pages f.usable kind number k page) (pages_from f.usable kind number (k + w) rest) s in
    let behind : Stand f number (k + w) (pages_from f.usable kind number (k + w) rest)
    = subst (λ n. Stand f number (k + n) (pages_from f.usable kind number (k + w) rest)) (length-sheet f.usable kind number k page) parts.1 in (
      page_said f number total a kind leaf k x.0 x.1.child least most g.each.0 (omega (arith, le, sums)) parts.0,
      level_said f number total a kind leaf (k + w) xs last right least most (record { each = g.each.1; last_is = g.last_is }) (omega (arith, le, sums)) behind,
    )

-- ---- groups

-- two cells that fit a page each leave none without cells
some_past : (held : List Item) (x : Item) (xs : List Item) (rest : Cut Item) → 2 ≤ length held → (xs ≢ [] → HaveCells rest.firsts rest.last) → HaveCells (past held x xs rest).firsts (past held x xs rest).last
some_past [] x xs rest two more = absurd (omega arith)
some_past (h ∷ []) x xs rest two more = absurd (omega arith)
some_past (h ∷ g ∷ gs) x [] rest two more = record { each = ((λ e. cc), tt); last_some = λ e. cc }
some_past (h ∷ g ∷ gs) x (y ∷ ys) rest two more =
    let m = more (λ e. cc) in record { each = ((λ e. cc), m.each); last_some = m.last_some }

some_if : (b : Bool) (c d : Cut Item) → (b ≡ true → HaveCells c.firsts c.last) → (b ≡ false → HaveCells d.firsts d.last) → HaveCells (if b then c else d).firsts (if b then c else d).last
some_if true c d e f = e refl
some_if false c d e f = f refl

pub cuts_some : (need : Item → ℕ) (room : ℕ) (held : List Item) (left : ℕ) (xs : List Item) → AllByRecursion (λ y. 2 * need y ≤ room) held → AllByRecursion (λ y. 2 * need y ≤ room) xs
    → sum_by need held + left ≡ room → held ++ xs ≢ [] → HaveCells (cuts need room held left xs).firsts (cuts need room held left xs).last
cuts_some need room held left [] hs half used some = record { each = tt; last_some = subst (λ (t : List Item). t ≢ []) (append-nil held) some }
cuts_some need room held left (x ∷ xs) hs half used some =
    some_if (nat_le (need x) left) (cuts need room (held ++ x ∷ []) (left - need x) xs) (past held x xs (cuts need room [] room xs))
    (λ e. let le : need x ≤ left = grind (arith, nat_tests) in
    cuts_some need room (held ++ x ∷ []) (left - need x) xs (all_push (λ y. 2 * need y ≤ room) held x hs half.0) half.1 (omega (arith, sum_push need held x))
    (subst (λ (t : List Item). t ≢ []) (sym (append_assoc held (x ∷ []) xs)) some))
    (λ e. let lt : left < need x = grind (arith, nat_tests) in
    some_past held x xs (cuts need room [] room xs) (two_held need room left held x hs half.0 used lt)
    (λ s. cuts_some need room [] room xs tt half.1 (omega arith) s))

pub half_whole : (need : Item → ℕ) (room : ℕ) (xs : List Item) → AllByRecursion (λ x. 2 * need x ≤ room) xs → AllByRecursion (λ x. need x ≤ room) xs
half_whole need room [] h = tt
half_whole need room (x ∷ xs) h = (omega (arith, h.0), half_whole need room xs h.1)

-- any two cells of a line fit a page
item_half : (usable : ℕ) (kind : Kind) (x : Item) → 480 ≤ usable → ItemIs kind false x → 2 * need_of usable kind false x ≤ room_in usable false
item_half usable Table x least ok = key_half usable x least (ok.none refl)
item_half usable Index x least ok = index_half usable false x least

line_half : (usable : ℕ) (kind : Kind) (xs : List Item) → 480 ≤ usable → AllByRecursion (ItemIs kind false) xs
    → AllByRecursion (λ (x : Item). 2 * need_of usable kind false x ≤ room_in usable false) xs
line_half usable kind [] least ok = tt
line_half usable kind (x ∷ xs) least ok = (item_half usable kind x least ok.0, line_half usable kind xs least ok.1)

-- the groups of a row whose cells are good
groups_are : (f : File) (kind : Kind) (total : ℕ) (firsts : List (List Item × Item)) (last : List Item) (right : ℕ) → right ≤ total
    → AllByRecursion (ItemIs kind false) (flat_from firsts last) → AllByRecursion (λ (x : Item). x.child ≤ total) (flat_from firsts last)
    → AllByRecursion (λ (g : List Item × Item). needs f.usable kind false g.0 ≤ room_in f.usable false) firsts → needs f.usable kind false last ≤ room_in f.usable false
    → GroupsAre f kind false total firsts last right
groups_are f kind total [] last right le ok below fits last_fits = record { each = tt; last_is = record { ok = ok; children = below; right_le = le; fits = last_fits } }
groups_are f kind total (g ∷ gs) last right le ok below fits last_fits =
    let o = both_all (ItemIs kind false) g.0 (g.1 ∷ flat_from gs last) ok in
    let b = both_all (λ (x : Item). x.child ≤ total) g.0 (g.1 ∷ flat_from gs last) below in
    let more = groups_are f kind total gs last right le o.1.1 b.1.1 fits.1 last_fits in
    record {
      each = (record { ok = o.0; children = b.0; right_le = b.1.0; fits = fits.0 }, more.each);
      last_is = more.last_is;
    }

-- what holds of the entries of a level's separators holds of the cells of the line over it
pub line_all : (Q : Entry → Type 0) (usable : ℕ) (kind : Kind) (k : ℕ) (firsts : List (List Item × Item)) (last : List Item)
    → AllByRecursion (λ (g : List Item × Item). Q g.1.entry) firsts → AllByRecursion (λ (x : Item). Q x.entry) (line_from (width_of usable kind) k firsts last).cells
line_all Q usable kind k [] last ok = tt
line_all Q usable kind k (g ∷ gs) last ok = (ok.0, line_all Q usable kind (k + width_of usable kind g.0) gs last ok.1)

pub separators : (P : Item → Type 0) (firsts : List (List Item × Item)) (last : List Item) → AllByRecursion P (flat_from firsts last) → AllByRecursion (λ (g : List Item × Item). P g.1) firsts
separators P [] last all = tt
separators P (g ∷ gs) last all =
    let b = both_all P g.0 (g.1 ∷ flat_from gs last) all in (b.1.0, separators P gs last b.1.1)

-- the children of the line over a level are its pages
pub record LineBelow (line : Line) (total : ℕ) : Type 0 where
  pub cells : AllByRecursion (λ (x : Item). x.child ≤ total) line.cells
  pub right : line.right ≤ total

pub line_below : (usable : ℕ) (kind : Kind) (leaf : Bool) (total k : ℕ) (firsts : List (List Item × Item)) (last : List Item) (right : ℕ)
    → k + pages_in usable kind (sheets_from leaf firsts last right) ≤ total → LineBelow (line_from (width_of usable kind) k firsts last) total
line_below usable kind leaf total k [] last right le = record { cells = tt; right = omega (arith, le) }
line_below usable kind leaf total k (g ∷ gs) last right le =
    let sums = sum_by-cons (λ (t : Sheet). width_of usable kind t.items) (record { leaf = leaf; items = g.0; right = g.1.child }) (sheets_from leaf gs last right) in
    let more = line_below usable kind leaf total (k + width_of usable kind g.0) gs last right (omega (arith, le, sums)) in
    record { cells = (omega (arith, le), more.cells); right = more.right }

-- ---- one level over another

-- a line whose pages are roots of trees of depth d, which hold these entries and have all pages before
pub record Reached (f : File) (number : ℕ → ℕ) (kind : Kind) (r total : ℕ) (es : List Entry) (d : ℕ) (line : Line) : Type 0 where
  pub forest : Forest f number kind r d line.cells line.right es (λ q. count q (numbers number 0 line.next))
  pub good : AllByRecursion (ItemIs kind false) line.cells
  pub below : LineBelow line total

pub next_reached : (f : File) (number : ℕ → ℕ) (total : ℕ) → AreFew f number total → (kind : Kind) (r : ℕ) (es : List Entry) (d : ℕ) (line : Line) → 480 ≤ f.usable → f.usable ≤ 65536
    → Reached f number kind r total es d line → line.cells ≢ []
    → line.next + pages_in f.usable kind (sheets_of false (level_cut f.usable kind line) line.right) ≤ total
    → Stand f number line.next (pages_from f.usable kind number line.next (sheets_of false (level_cut f.usable kind line) line.right))
    → Reached f number kind r total es (suc d) (line_above f.usable kind line)
next_reached f number total a kind r es d line least most w some le s =
    let need = need_of f.usable kind false in
    let room = room_in f.usable false in
    let cut = level_cut f.usable kind line in
    let sheets = sheets_of false cut line.right in
    let flat_is : flat_from cut.firsts cut.last ≡ line.cells = cuts_flat need room [] room line.cells in
    let half = line_half f.usable kind line.cells least w.good in
    let fits = cuts_fit need room [] room line.cells (half_whole need room line.cells half) (omega arith) in
    let good = subst (AllByRecursion (ItemIs kind false)) (sym flat_is) w.good in
    let groups = groups_are f kind total cut.firsts cut.last line.right w.below.right good
    (subst (AllByRecursion (λ (x : Item). x.child ≤ total)) (sym flat_is) w.below.cells) fits.firsts fits.last in
    let says = level_said f number total a kind false line.next cut.firsts cut.last line.right least most groups le s in
    let cells = cuts_some need room [] room line.cells tt half (omega arith) some in
    let next = line_pages f.usable kind false line.next cut.firsts cut.last line.right in
    record {
      forest = level_over f number kind r d line.next cut.firsts cut.last line.right es (λ q. count q (numbers number 0 line.next))
          (λ q. count q (numbers number 0 (line_above f.usable kind line).next)) says cells
          (subst (λ (t : List Item). Forest f number kind r d t line.right es (λ q. count q (numbers number 0 line.next))) (sym flat_is) w.forest)
          (λ q. let place : 0 + line.next ≡ line.next = omega arith in
          ap (λ n. count q (numbers number 0 n)) next ∙ count-numbers number q 0 line.next (pages_in f.usable kind sheets)
          ∙ ap (λ n. count q (numbers number 0 line.next) + count q (numbers number n (pages_in f.usable kind sheets))) place
          ∙ swapped (count q (numbers number 0 line.next)) (count q (numbers number line.next (pages_in f.usable kind sheets))));
      good = line_all (IsCell kind false) f.usable kind line.next cut.firsts cut.last (separators (ItemIs kind false) cut.firsts cut.last good);
      below = line_below f.usable kind false total line.next cut.firsts cut.last line.right le;
    }
  where
    swapped : (m n : ℕ) → m + n ≡ n + m
    swapped m n = omega arith

-- ---- all levels

-- the line that is reached over some levels
pub record TopIs (f : File) (number : ℕ → ℕ) (kind : Kind) (r total top : ℕ) (es : List Entry) (from : ℕ) (sheets : List Sheet) (line : Line) : Type 0 where
  pub depth : ℕ
  pub reached : Reached f number kind r total es depth line
  pub fits : needs f.usable kind false line.cells ≤ top
  pub next_is : line.next ≡ from + pages_in f.usable kind sheets

pub pages-append : (usable : ℕ) (kind : Kind) (ss ts : List Sheet) → pages_in usable kind (ss ++ ts) ≡ pages_in usable kind ss + pages_in usable kind ts
pages-append usable kind [] ts = omega arith
pages-append usable kind (s ∷ ss) ts =
    omega (
      arith,
      pages-append usable kind ss ts,
      sum_by-cons (λ (t : Sheet). width_of usable kind t.items) s ss,
      sum_by-cons (λ (t : Sheet). width_of usable kind t.items) s (ss ++ ts),
    )

pub reach_top : (f : File) (number : ℕ → ℕ) (total : ℕ) → AreFew f number total → (kind : Kind) (r top : ℕ) (es : List Entry) (fuel d : ℕ) (line : Line) → 480 ≤ f.usable → f.usable ≤ 65536
    → Reached f number kind r total es d line → length line.cells ≤ fuel → line.next + pages_in f.usable kind (level_sheets f.usable kind top fuel line) ≤ total
    → Stand f number line.next (pages_from f.usable kind number line.next (level_sheets f.usable kind top fuel line))
    → TopIs f number kind r total top es line.next (level_sheets f.usable kind top fuel line) (top_line f.usable kind top fuel line)
reach_top f number total a kind r top es zero d line least most w enough le s =
    let none : line.cells ≡ [] = nil_from_length line.cells (omega arith) in
    record { depth = d; reached = w; fits = omega (arith, ap (needs f.usable kind false) none); next_is = omega arith }
reach_top f number total a kind r top es (suc fuel) d line least most w enough le s =
    by (nat_le (needs f.usable kind false line.cells) top) refl le s
    (λ few below next up. reach_top f number total a kind r top es fuel (suc d) (line_above f.usable kind line) least most few below next up)
  where
    by : (b : Bool) → nat_le (needs f.usable kind false line.cells) top ≡ b
        → line.next + pages_in f.usable kind (if b then [] else sheets_of false (level_cut f.usable kind line) line.right ++ level_sheets f.usable kind top fuel (line_above f.usable kind line)) ≤ total
        → Stand f number line.next (pages_from f.usable kind number line.next
        (if b then [] else sheets_of false (level_cut f.usable kind line) line.right ++ level_sheets f.usable kind top fuel (line_above f.usable kind line)))
        → (Reached f number kind r total es (suc d) (line_above f.usable kind line) → length (line_above f.usable kind line).cells ≤ fuel
        → (line_above f.usable kind line).next + pages_in f.usable kind (level_sheets f.usable kind top fuel (line_above f.usable kind line)) ≤ total
        → Stand f number (line_above f.usable kind line).next
        (pages_from f.usable kind number (line_above f.usable kind line).next (level_sheets f.usable kind top fuel (line_above f.usable kind line)))
        → TopIs f number kind r total top es (line_above f.usable kind line).next (level_sheets f.usable kind top fuel (line_above f.usable kind line))
        (top_line f.usable kind top fuel (line_above f.usable kind line)))
        → TopIs f number kind r total top es line.next
        (if b then [] else sheets_of false (level_cut f.usable kind line) line.right ++ level_sheets f.usable kind top fuel (line_above f.usable kind line))
        (if b then line else top_line f.usable kind top fuel (line_above f.usable kind line))
    by true e le' s' more =
        let fits : needs f.usable kind false line.cells ≤ top = grind (arith, nat_tests) in
        record { depth = d; reached = w; fits = fits; next_is = omega arith }
    by false e le' s' more =
        let over : top < needs f.usable kind false line.cells = grind (arith, nat_tests) in
        let cut = level_cut f.usable kind line in
        let sheets = sheets_of false cut line.right in
        let above = line_above f.usable kind line in
        let up = level_sheets f.usable kind top fuel above in
        let some : line.cells ≢ [] = λ none. absurd (omega (arith, over, ap (needs f.usable kind false) none)) in
        let some_len : 1 ≤ length line.cells = some_length line.cells over in
        let few = cuts_few (need_of f.usable kind false) (room_in f.usable false) [] (room_in f.usable false) line.cells tt
        (line_half f.usable kind line.cells least w.good) (omega arith) (omega (arith, some_len)) in
        let len = line_len f.usable kind line.next cut.firsts cut.last in
        let sums = pages-append f.usable kind sheets up in
        let next : above.next ≡ line.next + pages_in f.usable kind sheets = line_pages f.usable kind false line.next cut.firsts cut.last line.right in
        let parts = pages_apart f kind number line.next sheets up s' in
        let one = next_reached f number total a kind r es d line least most w some (omega (arith, le', sums)) parts.0 in
        let t = more one (omega (arith, few, len, enough)) (omega (arith, le', sums, next))
        (subst (λ n. Stand f number n (pages_from f.usable kind number n up)) (sym next) parts.1) in
        record { depth = t.depth; reached = t.reached; fits = t.fits; next_is = omega (arith, t.next_is, next, sums) }
      where
        some_length : (xs : List Item) → top < needs f.usable kind false xs → 1 ≤ length xs
        some_length [] lt = absurd (omega arith)
        some_length (x ∷ xs) lt = omega arith
