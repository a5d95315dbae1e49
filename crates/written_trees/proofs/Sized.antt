-- Each page of a written tree has as many bytes as are usable.
use Rattle.std.proofs.Common.{◌≡◌, ◌≤◌, ℕ, zero, suc, ◌+◌, ◌-◌, Bool, true, false, List, [], ◌∷◌, ◌++◌, length, take, drop, map, nat_eq, refl, arith, length-append, length-take}
use Rattle.std.specs.Prelude.{if◌then◌else◌, replicate}
use Rattle.std.specs.List.{AllByRecursion}
use Rattle.std.proofs.lemmas.Bool.Decides.{nat_tests}
use Rattle.std.proofs.lemmas.List.{length-replicate}
use Rattle.byteorder.specs.Endian.{big_bytes}
use Rattle.byteorder.specs.Numbers.{length-bytes_high_first}
use Rattle.cell_reader.specs.declared.shapes.Kind.{Kind}
use Rattle.cell_reader.specs.declared.shapes.Kind.TheVariants.{Table}
use Rattle.cell_reader.specs.Shape.{header_len}
use Rattle.tree_writer.specs.Cells.{chain_pages, chains_from, kept_of, over_count, over_page, over_pages, width_of}
use Rattle.tree_writer.specs.Entry.{Entry, Item, leaf_item}
use Rattle.tree_writer.specs.Layout.{cells_for, pages_from, right_part, sheet_page, sheet_pages}
use Rattle.tree_writer.specs.Levels.{Sheet, first_room, fits_first, needs, pages_in, schema_sheets, schema_top, tree_line, tree_sheets}
use Rattle.tree_writer.specs.Page.{type_byte}
use Rattle.tree_writer.specs.Planned.{SheetFits}
use Rattle.tree_writer.proofs.Laying.{length-cells, needs_slots, stack_len}
use Rattle.tree_writer.proofs.Raising.{all_append}
use Rattle.written_trees.specs.Laws.{PagesAreFull, SchemaPagesAreFull}
use Rattle.written_trees.proofs.Few.{tree_fits}
use Rattle.written_trees.proofs.Levels.{header_small}
use Rattle.written_trees.proofs.Pages.{length-right, stands}

abbrev IsFull : ℕ → List ℕ → Type 0
IsFull usable page = length page ≡ usable

over_full : (usable : ℕ) (number : ℕ → ℕ) (k : ℕ) (last : Bool) (bytes : List ℕ) → 480 ≤ usable → IsFull usable (over_page usable number k last bytes)
over_full usable number k last bytes least =
    let next = if last then 0 else number (k + 1) in
    let front = take (usable - 4) bytes in
    let zeros : List ℕ = replicate (usable - 4 - length bytes) 0 in
    omega (
      arith,
      length-append (big_bytes 4 next) (front ++ zeros),
      length-append front zeros,
      length-bytes_high_first 4 next,
      length-take (usable - 4) bytes,
      length-replicate {A = ℕ} (usable - 4 - length bytes) 0,
    )

overs_full : (usable : ℕ) (number : ℕ → ℕ) (k n : ℕ) (bytes : List ℕ) → 480 ≤ usable → AllByRecursion (IsFull usable) (over_pages usable number k n bytes)
overs_full usable number k zero bytes least = tt
overs_full usable number k (suc n) bytes least =
    (over_full usable number k (nat_eq n 0) bytes least, overs_full usable number (k + 1) n (drop (usable - 4) bytes) least)

chains_full : (usable : ℕ) (kind : Kind) (number : ℕ → ℕ) (k : ℕ) (xs : List Item) → 480 ≤ usable → AllByRecursion (IsFull usable) (chains_from usable kind number k xs)
chains_full usable kind number k [] least = tt
chains_full usable kind number k (x ∷ xs) least =
    let n = over_count usable kind x.entry in
    all_append (IsFull usable) (chain_pages usable kind number k x.entry) (chains_from usable kind number (k + n) xs)
    (overs_full usable number k n (drop (kept_of usable kind x.entry.bytes) x.entry.bytes) least) (chains_full usable kind number (k + n) xs least)

sheet_full : (front : List ℕ) (usable : ℕ) (kind : Kind) (number : ℕ → ℕ) (j : ℕ) (s : Sheet) → 480 ≤ usable → usable ≤ 65536
    → length front + header_len s.leaf + needs usable kind s.leaf s.items ≤ usable → IsFull usable (sheet_page front usable kind number j s)
sheet_full front usable kind number j s least most room =
    let cells = cells_for usable kind s.leaf number j s.items in
    (stands front (type_byte kind s.leaf) usable (header_len s.leaf) cells (right_part s.leaf number s.right) most (length-right s.leaf (number s.right))
    (omega (arith, room, stack_len usable kind s.leaf number j s.items least, needs_slots usable kind s.leaf s.items, length-cells usable kind s.leaf number j s.items))).long

pages_full : (usable : ℕ) (kind : Kind) (number : ℕ → ℕ) (k : ℕ) (ss : List Sheet) → 480 ≤ usable → usable ≤ 65536 → AllByRecursion (SheetFits usable kind) ss
    → AllByRecursion (IsFull usable) (pages_from usable kind number k ss)
pages_full usable kind number k [] least most fits = tt
pages_full usable kind number k (s ∷ ss) least most fits =
    let w = width_of usable kind s.items in
    all_append (IsFull usable) (sheet_pages usable kind number k s) (pages_from usable kind number (k + w) ss)
    (sheet_full [] usable kind number (k + 1) s least most (omega (arith, fits.0, header_small s.leaf, least)), chains_full usable kind number (k + 1) s.items least)
    (pages_full usable kind number (k + w) ss least most fits.1)

pub tree_full : PagesAreFull
tree_full usable kind number es least most = pages_full usable kind number 0 (tree_sheets usable kind 0 es) least most (tree_fits usable kind 0 es least).0

-- what page 1 and the other pages of the schema have room for
schema_fits : (usable : ℕ) (es : List Entry) → 480 ≤ usable
    → AllByRecursion (SheetFits usable Table) (schema_sheets usable es)
    × (100 + header_len (schema_top usable es).leaf + needs usable Table (schema_top usable es).leaf (schema_top usable es).items ≤ usable)
unfolding schema_sheets schema_top
schema_fits usable es least = by (fits_first usable es) refl
  where
    whole : Sheet
    whole = record { leaf = true; items = map leaf_item es; right = 0 }

    over : Sheet
    over = record { leaf = false; items = (tree_line usable Table (first_room usable false) es).cells; right = (tree_line usable Table (first_room usable false) es).right }

    by : (b : Bool) → fits_first usable es ≡ b
        → AllByRecursion (SheetFits usable Table) (if b then [] else tree_sheets usable Table (first_room usable false) es)
        × (100 + header_len (if b then whole else over).leaf + needs usable Table (if b then whole else over).leaf (if b then whole else over).items ≤ usable)
    by true e =
        let fits : needs usable Table true (map leaf_item es) ≤ first_room usable true = grind (arith, nat_tests) in
        (tt, small (needs usable Table true (map leaf_item es)) fits)
      where
        small : (n : ℕ) → n ≤ first_room usable true → 100 + 8 + n ≤ usable
        small n le = omega arith
    by false e =
        let t = tree_fits usable Table (first_room usable false) es least in
        (t.0, small (needs usable Table false (tree_line usable Table (first_room usable false) es).cells) t.1)
      where
        small : (n : ℕ) → n ≤ first_room usable false → 100 + 12 + n ≤ usable
        small n le = omega arith

pub schema_full : SchemaPagesAreFull
schema_full front usable number es len least most =
    let w = schema_fits usable es least in
    let below = schema_sheets usable es in
    let top = schema_top usable es in
    let j = pages_in usable Table below in (
      sheet_full front usable Table number j top least most (omega (arith, w.1, len)),
      all_append (IsFull usable) (pages_from usable Table number 0 below) (chains_from usable Table number j top.items)
          (pages_full usable Table number 0 below least most w.0) (chains_full usable Table number j top.items least),
    )
