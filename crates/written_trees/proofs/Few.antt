-- How many pages a written tree has.
use Rattle.std.proofs.Common.{◌≡◌, ◌<◌, ◌≤◌, ℕ, zero, suc, ◌+◌, ◌*◌, Bool, true, false, List, [], ◌∷◌, ◌++◌, length, map, nat_le, refl, sym, ap, subst, arith, length-append}
use Rattle.std.specs.Prelude.{if◌then◌else◌}
use Rattle.std.specs.List.{AllByRecursion}
use Rattle.std.proofs.lemmas.Bool.Decides.{nat_tests}
use Rattle.std.proofs.lemmas.List.{length-map, nil_from_length}
use Rattle.cell_reader.specs.declared.shapes.Kind.{Kind}
use Rattle.cell_reader.specs.declared.shapes.Kind.TheVariants.{Table, Index}
use Rattle.tree_writer.specs.Cells.{need_of, overs, width_of}
use Rattle.tree_writer.specs.Entry.{Entry, Item, key_item, leaf_item, no_item}
use Rattle.tree_writer.specs.Groups.{flat_from, joined_from}
use Rattle.tree_writer.specs.Levels.{Line, Sheet, first_room, fits_first, leaf_cut, leaf_line, level_cut, level_sheets, line_above, line_from, needs, pages_in, room_in, schema_sheets, schema_top, sheets_of, top_line, tree_line, tree_sheets}
use Rattle.tree_writer.specs.Planned.{SheetFits}
use Rattle.tree_writer.specs.Trees.{schema_count}
use Rattle.tree_writer.proofs.Cuts.{Keyed, cuts_few, cuts_fit, cuts_flat, leaves_joined, leaves_keyed}
use Rattle.tree_writer.proofs.Needs.{index_half, key_half, leaf_fits}
use Rattle.tree_writer.proofs.Raising.{all_append, leaf_level, sheets_fit}
use Rattle.tree_writer.proofs.Rising.{line_len, line_overs, pages_overs}
use Rattle.written_trees.specs.Laws.{PagesAreFew, SchemaPagesAreFew}
use Rattle.written_trees.proofs.Leaves.{table_last}
use Rattle.written_trees.proofs.Levels.{each_is, half_whole, line_all, pages-append, separators}

-- two cells like this one fit an interior page
abbrev Half : ℕ → Kind → Item → Type 0
Half usable kind x = 2 * need_of usable kind false x ≤ room_in usable false

abbrev EntryHalf : ℕ → Kind → Entry → Type 0
EntryHalf usable kind e = Half usable kind (leaf_item e)

half_above : (usable : ℕ) (kind : Kind) (line : Line) → AllByRecursion (Half usable kind) line.cells → AllByRecursion (Half usable kind) (line_above usable kind line).cells
half_above usable kind line half =
    let cut = level_cut usable kind line in
    let flat_is : flat_from cut.firsts cut.last ≡ line.cells = cuts_flat (need_of usable kind false) (room_in usable false) [] (room_in usable false) line.cells in
    line_all (EntryHalf usable kind) usable kind line.next cut.firsts cut.last
    (separators (Half usable kind) cut.firsts cut.last (subst (AllByRecursion (Half usable kind)) (sym flat_is) half))

keys_half : (usable k : ℕ) (firsts : List (List Item × Item)) (last : List Item) → 480 ≤ usable → Keyed key_item no_item firsts
    → AllByRecursion (Half usable Table) (line_from (width_of usable Table) k firsts last).cells
keys_half usable k [] last least keyed = tt
keys_half usable k (g ∷ gs) last least keyed = (
  key_half usable (record { child = k; entry = g.1.entry }) least (ap (λ (x : Item). x.entry.bytes) keyed.0),
  keys_half usable (k + width_of usable Table g.0) gs last least keyed.2,
)

-- the leaves of a table
record TableLeaves (usable : ℕ) (es : List Entry) : Type 0 where
  keyed : Keyed key_item no_item (leaf_cut usable Table es).firsts
  joined_is : joined_from (leaf_cut usable Table es).firsts (leaf_cut usable Table es).last ≡ map leaf_item es
  last_some : 1 ≤ length es → 1 ≤ length (leaf_cut usable Table es).last

table_leaves : (usable : ℕ) (es : List Entry) → 480 ≤ usable → TableLeaves usable es
table_leaves usable es least =
    let need = need_of usable Table true in
    let room = room_in usable true in
    let xs = map leaf_item es in
    record {
      keyed = leaves_keyed need key_item no_item room [] room xs (each_is (λ x. need x ≤ room) (λ x. leaf_fits usable Table x least) xs) (omega arith);
      joined_is = leaves_joined need key_item no_item room [] room xs;
      last_some = λ some. table_last need key_item no_item room [] room xs (omega (arith, some, length-map es leaf_item));
    }

leaf_half : (usable : ℕ) (kind : Kind) (es : List Entry) → 480 ≤ usable → AllByRecursion (Half usable kind) (leaf_line usable kind es).cells
leaf_half usable Table es least =
    let t = table_leaves usable es least in keys_half usable 0 (leaf_cut usable Table es).firsts (leaf_cut usable Table es).last least t.keyed
leaf_half usable Index es least = each_is (Half usable Index) (λ x. index_half usable false x least) (leaf_line usable Index es).cells

-- levels over a line: they have no more pages than the line has cells, each page has room for its cells, and
-- so has what is behind the last
pub record LevelsAre (usable : ℕ) (kind : Kind) (top : ℕ) (line : Line) (sheets : List Sheet) (target : Line) : Type 0 where
  pub few : pages_in usable kind sheets + overs usable kind target.cells ≤ length line.cells + overs usable kind line.cells
  pub fits : AllByRecursion (SheetFits usable kind) sheets
  pub last : needs usable kind false target.cells ≤ top

levels_are : (usable : ℕ) (kind : Kind) (top fuel : ℕ) (line : Line) → 480 ≤ usable → AllByRecursion (Half usable kind) line.cells → length line.cells ≤ fuel
    → LevelsAre usable kind top line (level_sheets usable kind top fuel line) (top_line usable kind top fuel line)
levels_are usable kind top zero line least half enough =
    let none : line.cells ≡ [] = nil_from_length line.cells (omega arith) in
    record { few = omega arith; fits = tt; last = omega (arith, ap (needs usable kind false) none) }
levels_are usable kind top (suc fuel) line least half enough =
    by (nat_le (needs usable kind false line.cells) top) refl (λ le. levels_are usable kind top fuel (line_above usable kind line) least (half_above usable kind line half) le)
  where
    by : (b : Bool) → nat_le (needs usable kind false line.cells) top ≡ b
        → (length (line_above usable kind line).cells ≤ fuel → LevelsAre usable kind top (line_above usable kind line) (level_sheets usable kind top fuel (line_above usable kind line)) (top_line usable kind top fuel (line_above usable kind line)))
        → LevelsAre usable kind top line (if b then [] else sheets_of false (level_cut usable kind line) line.right ++ level_sheets usable kind top fuel (line_above usable kind line))
        (if b then line else top_line usable kind top fuel (line_above usable kind line))
    by true e more = let fits : needs usable kind false line.cells ≤ top = grind (arith, nat_tests) in record { few = omega arith; fits = tt; last = fits }
    by false e more =
        let over : top < needs usable kind false line.cells = grind (arith, nat_tests) in
        let cut = level_cut usable kind line in
        let room = room_in usable false in
        let need = need_of usable kind false in
        let few = cuts_few need room [] room line.cells tt half (omega arith) (omega (arith, some line.cells over)) in
        let flat_is : flat_from cut.firsts cut.last ≡ line.cells = cuts_flat need room [] room line.cells in
        let len = line_len usable kind line.next cut.firsts cut.last in
        let up = more (omega (arith, len, few, enough)) in
        let fit = cuts_fit need room [] room line.cells (half_whole need room line.cells half) (omega arith) in
        record {
          few = omega (
            arith,
            up.few,
            few,
            len,
            line_overs usable kind line.next cut.firsts cut.last,
            ap (overs usable kind) flat_is,
            pages_overs usable kind false cut.firsts cut.last line.right,
            pages-append usable kind (sheets_of false cut line.right) (level_sheets usable kind top fuel (line_above usable kind line)),
          );
          fits = all_append (SheetFits usable kind) (sheets_of false cut line.right) (level_sheets usable kind top fuel (line_above usable kind line))
              (sheets_fit usable kind false cut.firsts cut.last line.right fit.firsts fit.last) up.fits;
          last = up.last;
        }
      where
        some : (xs : List Item) → top < needs usable kind false xs → 1 ≤ length xs
        some [] lt = absurd (omega arith)
        some (x ∷ xs) lt = omega arith

-- all pages of a tree
pub tree_fits : (usable : ℕ) (kind : Kind) (top : ℕ) (es : List Entry) → 480 ≤ usable
    → AllByRecursion (SheetFits usable kind) (tree_sheets usable kind top es) × (needs usable kind false (tree_line usable kind top es).cells ≤ top)
unfolding tree_sheets tree_line
tree_fits usable kind top es least =
    let cut = leaf_cut usable kind es in
    let line = leaf_line usable kind es in
    let l = levels_are usable kind top (length line.cells) line least (leaf_half usable kind es least) (omega arith) in
    (all_append (SheetFits usable kind) (sheets_of true cut 0) (level_sheets usable kind top (length line.cells) line) (leaf_level usable kind es least).fits l.fits, l.last)

all_few : (usable : ℕ) (kind : Kind) (top : ℕ) (es : List Entry) → 480 ≤ usable
    → pages_in usable kind (tree_sheets usable kind top es) + overs usable kind (tree_line usable kind top es).cells
    ≤ 2 * length (leaf_cut usable kind es).firsts + 1 + overs usable kind (map leaf_item es)
unfolding tree_sheets tree_line
all_few usable kind top es least =
    let cut = leaf_cut usable kind es in
    let line = leaf_line usable kind es in
    let l = leaf_level usable kind es least in
    omega (
      arith,
      (levels_are usable kind top (length line.cells) line least (leaf_half usable kind es least) (omega arith)).few,
      line_len usable kind 0 cut.firsts cut.last,
      l.overs_are,
      pages_overs usable kind true cut.firsts cut.last 0,
      pages-append usable kind (sheets_of true cut 0) (level_sheets usable kind top (length line.cells) line),
    )

pub tree_few : PagesAreFew
tree_few usable kind es least =
    let l = leaf_level usable kind es least in omega (arith, all_few usable kind 0 es least, l.few)

-- each leaf of a table has an entry
joined_long : (firsts : List (List Item × Item)) (last : List Item) → Keyed key_item no_item firsts → 1 ≤ length last → length firsts + 1 ≤ length (joined_from firsts last)
joined_long [] last keyed some = omega arith
joined_long (g ∷ gs) last keyed some = omega (arith, joined_long gs last keyed.2 some, keyed.1, length-append g.0 (joined_from gs last))

pub schema_few : SchemaPagesAreFew
unfolding schema_sheets schema_top
schema_few usable es least = by (fits_first usable es) refl
  where
    by : (b : Bool) → fits_first usable es ≡ b → schema_count usable es ≤ 2 * length es + 1 + overs usable Table (map leaf_item es)
    by true test =
        let sheets : schema_sheets usable es ≡ [] = rw test refl in
        let top : schema_top usable es ≡ record { leaf = true; items = map leaf_item es; right = 0 } = rw test refl in
        omega (arith, ap (pages_in usable Table) sheets, ap (λ (s : Sheet). overs usable Table s.items) top)
    by false test =
        let room = first_room usable false in
        let line = tree_line usable Table room es in
        let sheets : schema_sheets usable es ≡ tree_sheets usable Table room es = rw test refl in
        let top : schema_top usable es ≡ record { leaf = false; items = line.cells; right = line.right } = rw test refl in
        let over : first_room usable true < needs usable Table true (map leaf_item es) = grind (arith, nat_tests) in
        let some = filled es over in
        let t = table_leaves usable es least in
        let long = joined_long (leaf_cut usable Table es).firsts (leaf_cut usable Table es).last t.keyed (t.last_some some) in
        omega (
          arith,
          ap (pages_in usable Table) sheets,
          ap (λ (s : Sheet). overs usable Table s.items) top,
          all_few usable Table room es least,
          long,
          ap length t.joined_is,
          length-map es leaf_item,
        )
      where
        filled : (ds : List Entry) → first_room usable true < needs usable Table true (map leaf_item ds) → 1 ≤ length ds
        filled [] lt = absurd (omega arith)
        filled (d ∷ ds) lt = omega arith
