-- The leaves of a written tree, and the line over them.
use Rattle.std.proofs.Common.{◌≡◌, ◌≢◌, ◌≤◌, ℕ, ◌+◌, ◌-◌, ◌*◌, ℤ, Bool, true, false, List, [], ◌∷◌, ◌++◌, length, map, nat_le, nat_eq, refl, sym, ap, ◌∙◌, subst, arith, append-nil, length-append}
use Rattle.std.specs.Prelude.{if◌then◌else◌, Option, Some, None}
use Rattle.std.specs.Int.Signed.{≤ℤ_refl}
use Rattle.std.specs.List.{AllByRecursion}
use Rattle.std.proofs.lemmas.Bool.Decides.{nat_tests}
use Rattle.std.proofs.lemmas.List.{map-append}
use Rattle.page_access.specs.Pages.{File}
use Rattle.page_lists.specs.Lists.{count}
use Rattle.cell_reader.specs.declared.shapes.Kind.{Kind}
use Rattle.cell_reader.specs.declared.shapes.Kind.TheVariants.{Table, Index}
use Rattle.cell_reader.specs.Inside.{has_payload}
use Rattle.tree_forms.specs.Node.{Held}
use Rattle.tree_forms.specs.Tree.{Follows, InOrder, entries}
use Rattle.tree_writer.specs.Cells.{need_of}
use Rattle.tree_writer.specs.Entry.{Entry, Item, RowidsRise, key_item, key_of, leaf_item, no_item}
use Rattle.tree_writer.specs.Groups.{cons_cut, flat_from, joined_from, last_of, leaves}
use Rattle.tree_writer.specs.Layout.{pages_from}
use Rattle.tree_writer.specs.Levels.{leaf_cut, leaf_line, needs, pages_in, room_in, sheets_of}
use Rattle.tree_writer.proofs.Cuts.{Keyed, cuts_fit, cuts_flat, leaves_fit, leaves_joined, leaves_keyed}
use Rattle.tree_writer.proofs.Needs.{index_half, leaf_fits}
use Rattle.tree_writer.proofs.Rising.{line_pages}
use Rattle.written_trees.specs.Trees.{HoldEntries, numbers}
use Rattle.written_trees.proofs.Forests.{entry_of, leaves_over}
use Rattle.written_trees.proofs.Levels.{GroupIs, GroupsAre, Reached, both_all, cuts_some, each_is, level_said, line_all, line_below}
use Rattle.written_trees.proofs.Numbers.{Stand}
use Rattle.written_trees.proofs.Sheets.{AreFew, IsCell, IsEntry, ItemIs}

-- ---- entries as cells

-- a cell of a leaf
pub record LeafItem (kind : Kind) (x : Item) : Type 0 where
  pub entry : IsEntry kind x.entry
  pub child : x.child ≡ 0

pub leaf_items : (kind : Kind) (es : List Entry) → AllByRecursion (IsEntry kind) es → AllByRecursion (LeafItem kind) (map leaf_item es)
leaf_items kind [] ok = tt
leaf_items kind (e ∷ es) ok = (record { entry = ok.0; child = refl }, leaf_items kind es ok.1)

pub on_leaf : (kind : Kind) (x : Item) → LeafItem kind x → ItemIs kind true x
on_leaf kind x ok = record { rowid = ok.entry.rowid; some = λ e. ok.entry.some; none = λ e. absurd (all kind e); large = ok.entry.large }
  where
    all : (k : Kind) → has_payload k true ≡ false → ⊥
    all Table e = cc
    all Index e = cc

-- the key of a table's cell
key_above : (x : Item) → LeafItem Table x → ItemIs Table false (key_item x)
key_above x ok = record { rowid = ok.entry.rowid; some = λ e. cc; none = λ e. refl; large = omega arith }

-- a separator of an index
index_above : (x : Item) → LeafItem Index x → ItemIs Index false x
index_above x ok = record { rowid = ok.entry.rowid; some = λ e. ok.entry.some; none = λ e. cc; large = ok.entry.large }

pub group_is : (f : File) (kind : Kind) (total : ℕ) (items : List Item) (right : ℕ) → AllByRecursion (LeafItem kind) items → right ≡ 0
    → needs f.usable kind true items ≤ room_in f.usable true → GroupIs f kind true total items right
group_is f kind total items right ok none fits = record { ok = all items ok; children = children items ok; right_le = omega (arith, none); fits = fits }
  where
    all : (xs : List Item) → AllByRecursion (LeafItem kind) xs → AllByRecursion (ItemIs kind true) xs
    all [] h = tt
    all (x ∷ xs) h = (on_leaf kind x h.0, all xs h.1)

    children : (xs : List Item) → AllByRecursion (LeafItem kind) xs → AllByRecursion (λ (x : Item). x.child ≤ total) xs
    children [] h = tt
    children (x ∷ xs) h = (omega (arith, h.0.child), children xs h.1)

last_leaf : (kind : Kind) (xs : List Item) → 1 ≤ length xs → AllByRecursion (LeafItem kind) xs → LeafItem kind (last_of no_item xs)
last_leaf kind [] some h = absurd (omega arith)
last_leaf kind (x ∷ []) some h = h.0
last_leaf kind (x ∷ y ∷ ys) some h = last_leaf kind (y ∷ ys) (omega arith) h.1

-- ---- entries with the keys between them

-- the entries that have a payload
abbrev pub some_bytes : List Entry → List Entry
some_bytes [] = []
some_bytes (e ∷ es) = if nat_eq (length e.bytes) 0 then some_bytes es else e ∷ some_bytes es

pub kept_all : (kind : Kind) (xs : List Item) (rest : List Entry) → AllByRecursion (LeafItem kind) xs → some_bytes (map entry_of xs ++ rest) ≡ map entry_of xs ++ some_bytes rest
kept_all kind [] rest ok = refl
kept_all kind (x ∷ xs) rest ok =
    let test : nat_eq (length x.entry.bytes) 0 ≡ false = full (length x.entry.bytes) ok.0.entry.some in
    rw test (ap (λ (t : List Entry). x.entry ∷ t) (kept_all kind xs rest ok.1))
  where
    full : (n : ℕ) → 1 ≤ n → nat_eq n 0 ≡ false
    full n some = grind (arith, nat_tests)

pub entries_back : (es : List Entry) → map entry_of (map leaf_item es) ≡ es
entries_back [] = refl
entries_back (e ∷ es) = ap (λ (t : List Entry). e ∷ t) (entries_back es)

-- cells hold the entries that have a payload
pub entries_shown : (f : File) (hs : List Held) (es : List Entry) → HoldEntries f hs es → HoldEntries f (entries hs) (some_bytes es)
entries_shown f [] [] w = tt
entries_shown f [] (e ∷ es) w = absurd w
entries_shown f (h ∷ hs) [] w = absurd w
entries_shown f (h ∷ hs) (e ∷ es) w =
    subst (λ n. HoldEntries f (if nat_eq n 0 then entries hs else h ∷ entries hs) (if nat_eq (length e.bytes) 0 then some_bytes es else e ∷ some_bytes es)) (sym w.0.total)
    (by (nat_eq (length e.bytes) 0) (entries_shown f hs es w.1))
  where
    by : (b : Bool) → HoldEntries f (entries hs) (some_bytes es) → HoldEntries f (if b then entries hs else h ∷ entries hs) (if b then some_bytes es else e ∷ some_bytes es)
    by true more = more
    by false more = (w.0, more)

-- ---- order

-- rowids and keys in order behind `low`, as entries tell them
abbrev pub InRise : Option ℤ → List Entry → Type 0
InRise low [] = Unit {0}
InRise low (e ∷ es) = Follows low (nat_eq (length e.bytes) 0) e.rowid × InRise e.rowid es

pub order_shown : (f : File) (low : Option ℤ) (hs : List Held) (es : List Entry) → HoldEntries f hs es → InRise low es → InOrder low hs
order_shown f low [] [] w r = tt
order_shown f low [] (e ∷ es) w r = absurd w
order_shown f low (h ∷ hs) [] w r = absurd w
order_shown f low (h ∷ hs) (e ∷ es) w r = (
  subst (λ n. Follows low (nat_eq n 0) h.rowid) (sym w.0.total) (subst (λ o. Follows low (nat_eq (length e.bytes) 0) o) (sym w.0.rowid) r.0),
  order_shown f h.rowid hs es w.1 (subst (λ o. InRise o es) (sym w.0.rowid) r.1),
)

entry_follows : (low : Option ℤ) (e : Entry) (es : List Entry) → RowidsRise low (e ∷ es) → 1 ≤ length e.bytes → Follows low (nat_eq (length e.bytes) 0) e.rowid
entry_follows None e es r some =
    let test : nat_eq (length e.bytes) 0 ≡ false = grind (arith, nat_tests) in
    subst (λ b. Follows None b e.rowid) (sym test) (subst (λ o. Follows None false o) (sym r.1) tt)
entry_follows (Some l) e es r some =
    let test : nat_eq (length e.bytes) 0 ≡ false = grind (arith, nat_tests) in
    subst (λ b. Follows (Some l) b e.rowid) (sym test) (subst (λ o. Follows (Some l) false o) (sym r.1) r.2)

key_follows : (rowid : Option ℤ) (z : ℤ) → rowid ≡ Some z → Follows rowid true rowid
key_follows rowid z e = subst (λ o. Follows o true o) (sym e) (≤ℤ_refl z)

-- a group whose last key stands behind it
group_order : (low : Option ℤ) (xs : List Item) (ds rest : List Entry) → 1 ≤ length xs → AllByRecursion (LeafItem Table) xs
    → RowidsRise low (map entry_of xs ++ ds) → ((l : Option ℤ) → l ≡ (last_of no_item xs).entry.rowid → RowidsRise l ds → InRise l rest)
    → InRise low (map entry_of xs ++ (key_of (last_of no_item xs).entry ∷ rest))
group_order low [] ds rest some ok r more = absurd (omega arith)
group_order low (x ∷ []) ds rest some ok r more =
    (entry_follows low x.entry ds r ok.0.entry.some, (key_follows x.entry.rowid r.0 r.1, more x.entry.rowid refl (subst (λ o. RowidsRise o ds) (sym r.1) r.3)))
group_order low (x ∷ y ∷ ys) ds rest some ok r more = (
  entry_follows low x.entry (map entry_of (y ∷ ys) ++ ds) r ok.0.entry.some,
  group_order x.entry.rowid (y ∷ ys) ds rest (omega arith) ok.1 (subst (λ o. RowidsRise o (map entry_of (y ∷ ys) ++ ds)) (sym r.1) r.3) more,
)

pub last_order : (low : Option ℤ) (xs : List Item) → AllByRecursion (LeafItem Table) xs → RowidsRise low (map entry_of xs) → InRise low (map entry_of xs)
last_order low [] ok r = tt
last_order low (x ∷ xs) ok r =
    (entry_follows low x.entry (map entry_of xs) r ok.0.entry.some, last_order x.entry.rowid xs ok.1 (subst (λ o. RowidsRise o (map entry_of xs)) (sym r.1) r.3))

table_order : (low : Option ℤ) (firsts : List (List Item × Item)) (last : List Item) → Keyed key_item no_item firsts → AllByRecursion (LeafItem Table) (joined_from firsts last)
    → RowidsRise low (map entry_of (joined_from firsts last)) → InRise low (map entry_of (flat_from firsts last))
table_order low [] last keyed ok r = last_order low last ok r
table_order low (g ∷ gs) last keyed ok r =
    let parts = both_all (LeafItem Table) g.0 (joined_from gs last) ok in
    let rest = map entry_of (flat_from gs last) in
    let apart = subst (RowidsRise low) (map-append entry_of g.0 (joined_from gs last)) r in
    let key : key_of (last_of no_item g.0).entry ≡ g.1.entry = ap (λ (x : Item). x.entry) (sym keyed.0) in
    let one = group_order low g.0 (map entry_of (joined_from gs last)) rest keyed.1 parts.0 apart (λ l same more. table_order l gs last keyed.2 parts.1 more) in
    subst (InRise low) (sym (map-append entry_of g.0 (g.1 ∷ flat_from gs last))) (subst (λ (k : Entry). InRise low (map entry_of g.0 ++ (k ∷ rest))) key one)

-- ---- the leaves

-- what holds of the groups of the leaves
pub record LeavesAre (f : File) (kind : Kind) (total : ℕ) (es : List Entry) (firsts : List (List Item × Item)) (last : List Item) : Type 0 where
  pub groups : GroupsAre f kind true total firsts last 0
  pub good : AllByRecursion (λ (g : List Item × Item). ItemIs kind false g.1) firsts
  pub each : AllByRecursion (λ (g : List Item × Item). g.0 ≢ []) firsts
  pub last_some : es ≢ [] → last ≢ []
  pub entries_are : some_bytes (map entry_of (flat_from firsts last)) ≡ es
  pub order : kind ≡ Table → RowidsRise None es → InRise None (map entry_of (flat_from firsts last))

-- of a table

table_groups : (f : File) (total : ℕ) (firsts : List (List Item × Item)) (last : List Item) → Keyed key_item no_item firsts
    → AllByRecursion (LeafItem Table) (joined_from firsts last)
    → AllByRecursion (λ (g : List Item × Item). needs f.usable Table true g.0 ≤ room_in f.usable true) firsts → needs f.usable Table true last ≤ room_in f.usable true
    → GroupsAre f Table true total firsts last 0
table_groups f total [] last keyed ok fits last_fits = record { each = tt; last_is = group_is f Table total last 0 ok refl last_fits }
table_groups f total (g ∷ gs) last keyed ok fits last_fits =
    let parts = both_all (LeafItem Table) g.0 (joined_from gs last) ok in
    let more = table_groups f total gs last keyed.2 parts.1 fits.1 last_fits in
    let end = last_leaf Table g.0 keyed.1 parts.0 in
    record {
      each = (group_is f Table total g.0 g.1.child parts.0 (ap (λ (x : Item). x.child) keyed.0 ∙ end.child) fits.0, more.each);
      last_is = more.last_is;
    }

table_good : (firsts : List (List Item × Item)) (last : List Item) → Keyed key_item no_item firsts → AllByRecursion (LeafItem Table) (joined_from firsts last)
    → AllByRecursion (λ (g : List Item × Item). ItemIs Table false g.1) firsts
table_good [] last keyed ok = tt
table_good (g ∷ gs) last keyed ok =
    let parts = both_all (LeafItem Table) g.0 (joined_from gs last) ok in (
      subst (ItemIs Table false) (sym keyed.0) (key_above (last_of no_item g.0) (last_leaf Table g.0 keyed.1 parts.0)),
      table_good gs last keyed.2 parts.1,
    )

table_each : (firsts : List (List Item × Item)) → Keyed key_item no_item firsts → AllByRecursion (λ (g : List Item × Item). g.0 ≢ []) firsts
table_each [] keyed = tt
table_each (g ∷ gs) keyed = ((λ none. absurd (omega (arith, keyed.1, ap length none))), table_each gs keyed.2)

pub table_last : (need : Item → ℕ) (key : Item → Item) (d : Item) (room : ℕ) (held : List Item) (left : ℕ) (xs : List Item) → 1 ≤ length held + length xs
    → 1 ≤ length (leaves need key d room held left xs).last
table_last need key d room held left [] some = omega (arith, some)
table_last need key d room held left (x ∷ xs) some =
    by (nat_le (need x) left) (table_last need key d room (held ++ x ∷ []) (left - need x) xs (omega (arith, length-append held (x ∷ []))))
    (table_last need key d room (x ∷ []) (room - need x) xs (omega arith))
  where
    by : (b : Bool) → 1 ≤ length (leaves need key d room (held ++ x ∷ []) (left - need x) xs).last → 1 ≤ length (leaves need key d room (x ∷ []) (room - need x) xs).last
        → 1 ≤ length (if b then leaves need key d room (held ++ x ∷ []) (left - need x) xs else cons_cut held (key (last_of d held)) (leaves need key d room (x ∷ []) (room - need x) xs)).last
    by true a b = a
    by false a b = b

table_entries : (firsts : List (List Item × Item)) (last : List Item) → Keyed key_item no_item firsts → AllByRecursion (LeafItem Table) (joined_from firsts last)
    → some_bytes (map entry_of (flat_from firsts last)) ≡ map entry_of (joined_from firsts last)
table_entries [] last keyed ok =
    ap some_bytes (sym (append-nil (map entry_of last))) ∙ kept_all Table last [] ok ∙ append-nil (map entry_of last)
table_entries (g ∷ gs) last keyed ok =
    let parts = both_all (LeafItem Table) g.0 (joined_from gs last) ok in
    let rest = map entry_of (flat_from gs last) in
    let key : g.1.entry ≡ key_of (last_of no_item g.0).entry = ap (λ (x : Item). x.entry) keyed.0 in
    ap some_bytes (map-append entry_of g.0 (g.1 ∷ flat_from gs last)) ∙ kept_all Table g.0 (g.1.entry ∷ rest) parts.0
    ∙ ap (λ (k : Entry). map entry_of g.0 ++ some_bytes (k ∷ rest)) key ∙ ap (λ (t : List Entry). map entry_of g.0 ++ t) (table_entries gs last keyed.2 parts.1)
    ∙ sym (map-append entry_of g.0 (joined_from gs last))

table_leaves : (f : File) (total : ℕ) (es : List Entry) → 480 ≤ f.usable → AllByRecursion (IsEntry Table) es
    → LeavesAre f Table total es (leaf_cut f.usable Table es).firsts (leaf_cut f.usable Table es).last
table_leaves f total es least ok =
    let need = need_of f.usable Table true in
    let room = room_in f.usable true in
    let xs = map leaf_item es in
    let cut = leaf_cut f.usable Table es in
    let fit = each_is (λ x. need x ≤ room) (λ x. leaf_fits f.usable Table x least) xs in
    let joined_is : joined_from cut.firsts cut.last ≡ xs = leaves_joined need key_item no_item room [] room xs in
    let keyed = leaves_keyed need key_item no_item room [] room xs fit (omega arith) in
    let fits = leaves_fit need key_item no_item room [] room xs fit (omega arith) in
    let items = subst (AllByRecursion (LeafItem Table)) (sym joined_is) (leaf_items Table es ok) in
    let back : map entry_of (joined_from cut.firsts cut.last) ≡ es = ap (map entry_of) joined_is ∙ entries_back es in
    record {
      groups = table_groups f total cut.firsts cut.last keyed items fits.firsts fits.last;
      good = table_good cut.firsts cut.last keyed items;
      each = table_each cut.firsts keyed;
      last_some = λ some none. some (no_entries es (λ more. absurd (omega (arith, table_last need key_item no_item room [] room xs more, ap length none))));
      entries_are = table_entries cut.firsts cut.last keyed items ∙ back;
      order = λ table rise. table_order None cut.firsts cut.last keyed items (subst (RowidsRise None) (sym back) rise);
    }
  where
    no_entries : (ds : List Entry) → (1 ≤ 0 + length (map leaf_item ds) → ⊥) → ds ≡ []
    no_entries [] none = refl
    no_entries (d ∷ ds) none = absurd (none (omega arith))

-- of an index

index_groups : (f : File) (total : ℕ) (firsts : List (List Item × Item)) (last : List Item) → AllByRecursion (LeafItem Index) (flat_from firsts last)
    → AllByRecursion (λ (g : List Item × Item). needs f.usable Index true g.0 ≤ room_in f.usable true) firsts → needs f.usable Index true last ≤ room_in f.usable true
    → GroupsAre f Index true total firsts last 0
index_groups f total [] last ok fits last_fits = record { each = tt; last_is = group_is f Index total last 0 ok refl last_fits }
index_groups f total (g ∷ gs) last ok fits last_fits =
    let parts = both_all (LeafItem Index) g.0 (g.1 ∷ flat_from gs last) ok in
    let more = index_groups f total gs last parts.1.1 fits.1 last_fits in
    record { each = (group_is f Index total g.0 g.1.child parts.0 parts.1.0.child fits.0, more.each); last_is = more.last_is }

index_good : (firsts : List (List Item × Item)) (last : List Item) → AllByRecursion (LeafItem Index) (flat_from firsts last)
    → AllByRecursion (λ (g : List Item × Item). ItemIs Index false g.1) firsts
index_good [] last ok = tt
index_good (g ∷ gs) last ok =
    let parts = both_all (LeafItem Index) g.0 (g.1 ∷ flat_from gs last) ok in (index_above g.1 parts.1.0, index_good gs last parts.1.1)

index_two : (usable : ℕ) (x : Item) → 480 ≤ usable → 2 * need_of usable Index true x ≤ room_in usable true
index_two usable x least = omega (arith, index_half usable true x least)

index_each : (f : File) (es : List Entry) → 480 ≤ f.usable → AllByRecursion (λ (g : List Item × Item). g.0 ≢ []) (leaf_cut f.usable Index es).firsts
index_each f [] least = tt
index_each f (e ∷ es) least =
    let w = cuts_some (need_of f.usable Index true) (room_in f.usable true) [] (room_in f.usable true) (map leaf_item (e ∷ es)) tt (each_is (λ x. 2 * need_of f.usable Index true x ≤ room_in f.usable true) (λ x. index_two f.usable x least) (map leaf_item (e ∷ es))) (omega arith) (λ none. cc) in w.each

index_last : (f : File) (es : List Entry) → 480 ≤ f.usable → es ≢ [] → (leaf_cut f.usable Index es).last ≢ []
index_last f [] least some = λ e. some refl
index_last f (e ∷ es) least some =
    let w = cuts_some (need_of f.usable Index true) (room_in f.usable true) [] (room_in f.usable true) (map leaf_item (e ∷ es)) tt (each_is (λ x. 2 * need_of f.usable Index true x ≤ room_in f.usable true) (λ x. index_two f.usable x least) (map leaf_item (e ∷ es))) (omega arith) (λ none. cc) in w.last_some

index_leaves : (f : File) (total : ℕ) (es : List Entry) → 480 ≤ f.usable → AllByRecursion (IsEntry Index) es
    → LeavesAre f Index total es (leaf_cut f.usable Index es).firsts (leaf_cut f.usable Index es).last
index_leaves f total es least ok =
    let need = need_of f.usable Index true in
    let room = room_in f.usable true in
    let xs = map leaf_item es in
    let cut = leaf_cut f.usable Index es in
    let flat_is : flat_from cut.firsts cut.last ≡ xs = cuts_flat need room [] room xs in
    let fits = cuts_fit need room [] room xs (each_is (λ x. need x ≤ room) (λ x. leaf_fits f.usable Index x least) xs) (omega arith) in
    let plain = leaf_items Index es ok in
    let items = subst (AllByRecursion (LeafItem Index)) (sym flat_is) plain in
    let whole : some_bytes (map entry_of xs) ≡ map entry_of xs
    = ap some_bytes (sym (append-nil (map entry_of xs))) ∙ kept_all Index xs [] plain ∙ append-nil (map entry_of xs) in
    record {
      groups = index_groups f total cut.firsts cut.last items fits.firsts fits.last;
      good = index_good cut.firsts cut.last items;
      each = index_each f es least;
      last_some = index_last f es least;
      entries_are = ap (λ (t : List Item). some_bytes (map entry_of t)) flat_is ∙ whole ∙ entries_back es;
      order = λ table. cc;
    }

pub leaves_are : (f : File) (kind : Kind) (total : ℕ) (es : List Entry) → 480 ≤ f.usable → AllByRecursion (IsEntry kind) es
    → LeavesAre f kind total es (leaf_cut f.usable kind es).firsts (leaf_cut f.usable kind es).last
leaves_are f Table total es least ok = table_leaves f total es least ok
leaves_are f Index total es least ok = index_leaves f total es least ok

-- the entries of a tree, with the keys between them where it is a table's
abbrev pub row_entries : ℕ → Kind → List Entry → List Entry
row_entries usable kind es = map entry_of (flat_from (leaf_cut usable kind es).firsts (leaf_cut usable kind es).last)

pub leaf_reached : (f : File) (number : ℕ → ℕ) (total : ℕ) → AreFew f number total → (kind : Kind) (r : ℕ) (es : List Entry) → 480 ≤ f.usable → f.usable ≤ 65536
    → LeavesAre f kind total es (leaf_cut f.usable kind es).firsts (leaf_cut f.usable kind es).last → (es ≡ [] → r ≡ number (leaf_line f.usable kind es).right)
    → pages_in f.usable kind (sheets_of true (leaf_cut f.usable kind es) 0) ≤ total
    → Stand f number 0 (pages_from f.usable kind number 0 (sheets_of true (leaf_cut f.usable kind es) 0))
    → Reached f number kind r total (row_entries f.usable kind es) 0 (leaf_line f.usable kind es)
leaf_reached f number total a kind r es least most w root le s =
    let cut = leaf_cut f.usable kind es in
    let sheets = sheets_of true cut 0 in
    let within : 0 + pages_in f.usable kind sheets ≤ total = omega (arith, le) in
    let says = level_said f number total a kind true 0 cut.firsts cut.last 0 least most w.groups within s in
    let next = line_pages f.usable kind true 0 cut.firsts cut.last 0 in
    let count_is : (leaf_line f.usable kind es).next ≡ pages_in f.usable kind sheets = omega (arith, next) in
    record {
      forest = leaves_over f number kind r 0 cut.firsts cut.last 0 (λ q. count q (numbers number 0 (leaf_line f.usable kind es).next)) says w.each
          (λ other. w.last_some (λ none. absurd (other (sym (root none))))) (λ q. ap (λ n. count q (numbers number 0 n)) count_is);
      good = line_all (IsCell kind false) f.usable kind 0 cut.firsts cut.last w.good;
      below = line_below f.usable kind true total 0 cut.firsts cut.last 0 within;
    }
