-- A written page with its overflow pages: it says its cells, each of which holds its entry.
use Rattle.std.proofs.Common.{◌≡◌, ◌≢◌, ◌<◌, ◌≤◌, ℕ, suc, ◌+◌, ◌-◌, ◌*◌, ◌/◌, ◌^◌, ℤ, Bool, true, false, List, [], ◌∷◌, ◌++◌, length, take, drop, map, nat_eq, refl, sym, ap, ◌∙◌, subst, arith, append-nil, length-take, length-drop}
use Rattle.std.specs.Prelude.{if◌then◌else◌, Option, Some, None}
use Rattle.std.specs.List.{AllByRecursion, flat_map}
use Rattle.std.specs.Option.{option_map}
use Rattle.std.proofs.lemmas.Bool.Decides.{nat_tests}
use Rattle.std.proofs.lemmas.List.{take_all, take-append-drop}
use Rattle.std.proofs.Math.Nat.{lt-div-mul-add}
use Rattle.std.proofs.lemmas.Nat.{mul-le}
use Rattle.std.proofs.lemmas.List.Sums.{sum_by-cons}
use Rattle.byteorder.specs.Endian.{twos_complement}
use Rattle.page_access.specs.Pages.{File, page_at}
use Rattle.page_lists.specs.Table.{is_page}
use Rattle.record_core.proofs.Numbers.{low_back}
use Rattle.overflow_chain.specs.Chain.{chain_len, contents}
use Rattle.overflow_chain.proofs.Turns.{chain_len-zero}
use Rattle.cell_reader.specs.declared.shapes.Kind.{Kind}
use Rattle.cell_reader.specs.declared.shapes.Kind.TheVariants.{Table, Index}
use Rattle.cell_reader.specs.Cell.{most_local}
use Rattle.cell_reader.specs.Inside.{has_payload}
use Rattle.cell_reader.specs.Shape.{head_of, header_len}
use Rattle.tree_forms.specs.Node.{Held, Node, cells_in, child_of, node_of, number_in}
use Rattle.tree_forms.specs.Payload.{ChainFrom, chain_from, chain_of, own_of, payload_of}
use Rattle.tree_forms.specs.Tree.{Holds}
use Rattle.tree_writer.specs.Cells.{Laid, chain_pages, chains_from, item_overs, kept_of, laid_from, laid_of, over_count, overs}
use Rattle.tree_writer.specs.Entry.{Entry, Item, raw_of}
use Rattle.tree_writer.specs.Layout.{sheet_page}
use Rattle.tree_writer.specs.Levels.{Sheet, needs}
use Rattle.tree_writer.proofs.Chaining.{length-chain}
use Rattle.tree_writer.proofs.Laying.{needs_slots, stack_len}
use Rattle.tree_writer.proofs.Lens.{local_le, local_most}
use Rattle.written_trees.specs.Trees.{ArePageNumbers, HasRowid, HoldsEntry, numbers}
use Rattle.written_trees.specs.Written.{IsPage, IsWritten, laid_node, rowid_in, said}
use Rattle.written_trees.proofs.Chains.{over_is}
use Rattle.written_trees.proofs.Numbers.{Stand, numbers_more, stand_apart}
use Rattle.written_trees.proofs.Pages.{page_says}

-- an entry that can be a cell
pub record IsEntry (kind : Kind) (e : Entry) : Type 0 where
  pub rowid : HasRowid kind e.rowid
  pub some : 1 ≤ length e.bytes
  pub large : length e.bytes < 2 ^ 64

-- what a cell of such a page is made of: an entry, or a key on an interior page of a table
pub record IsCell (kind : Kind) (leaf : Bool) (e : Entry) : Type 0 where
  pub rowid : HasRowid kind e.rowid
  pub some : has_payload kind leaf ≡ true → 1 ≤ length e.bytes
  pub none : has_payload kind leaf ≡ false → e.bytes ≡ []
  pub large : length e.bytes < 2 ^ 64

abbrev pub ItemIs : Kind → Bool → Item → Type 0
ItemIs kind leaf x = IsCell kind leaf x.entry

-- page numbers of a file that has a page more
pub record AreFew (f : File) (number : ℕ → ℕ) (total : ℕ) : Type 0 where
  pub are : ArePageNumbers f number total
  pub more : total + 1 ≤ f.pages

local_within : (usable : ℕ) (kind : Kind) → most_local kind usable ≤ usable
local_within usable Table = omega arith
local_within usable Index = omega arith

-- a payload whose overflow pages are pages of the file is no longer than the file
payload_within : (usable : ℕ) (kind : Kind) (e : Entry) (total pages : ℕ) → 480 ≤ usable → over_count usable kind e ≤ total → total + 1 ≤ pages → length e.bytes ≤ pages * usable
unfolding over_count
payload_within usable kind e total pages least few more =
    let kept = kept_of usable kind e.bytes in
    let n : ℕ = length e.bytes - kept + (usable - 5) in
    let some : 0 < usable - 4 = omega arith in
    let full : n < n / (usable - 4) * (usable - 4) + (usable - 4) = lt-div-mul-add some in
    let low : n / (usable - 4) * (usable - 4) ≤ total * usable = mul-le (n / (usable - 4)) (usable - 4) total usable few (omega arith) in
    let all : (total + 1) * usable ≤ pages * usable = mul-le (total + 1) usable pages usable more (omega arith) in
    let step : (total + 1) * usable ≡ total * usable + usable = omega arith in
    let here : kept ≤ usable = omega (arith, local_most kind usable (length e.bytes) least, local_within usable kind) in
    omega (arith, full, low, all, step, here)

-- ---- a cell

rowid_back : (kind : Kind) (rowid : Option ℤ) (c : Laid) → HasRowid kind rowid → c.rowid ≡ raw_of rowid → option_map (twos_complement 8) (rowid_in kind c) ≡ rowid
rowid_back Table (Some z) c fits e = ap (λ n. Some (twos_complement 8 n)) e ∙ ap Some (low_back 8 z (omega arith) (omega arith) fits)
rowid_back Table None c fits e = absurd fits
rowid_back Index (Some z) c fits e = absurd fits
rowid_back Index None c fits e = refl

raw_small : (rowid : Option ℤ) → raw_of rowid < 2 ^ 64
raw_small None = omega arith
raw_small (Some z) = omega arith

-- what a cell says of its entry
record SaysEntry (f : File) (number : ℕ → ℕ) (j n : ℕ) (h : Held) (e : Entry) : Type 0 where
  shows : HoldsEntry f h e
  chain_is : chain_of f h ≡ numbers number j n

-- the bytes that are not local
over_many : (f : File) (kind : Kind) (e : Entry) → 480 ≤ f.usable → over_count f.usable kind e ≡ chain_len f (length (drop (kept_of f.usable kind e.bytes) e.bytes))
unfolding over_count
over_many f kind e least = ap (chain_len f) (sym (length-drop (kept_of f.usable kind e.bytes) e.bytes))

cell_shows : (f : File) (number : ℕ → ℕ) (total : ℕ) → ArePageNumbers f number total → (kind : Kind) (leaf : Bool) (j : ℕ) (x : Item) → 480 ≤ f.usable
    → IsCell kind leaf x.entry → j + over_count f.usable kind x.entry ≤ total → Stand f number j (chain_pages f.usable kind number j x.entry)
    → SaysEntry f number j (over_count f.usable kind x.entry) (said f.usable kind leaf (laid_of number j x)) x.entry
unfolding payload_of
cell_shows f number total a kind leaf j x least ok le s =
    by (nat_eq (kept_of f.usable kind x.entry.bytes) (length x.entry.bytes)) refl
  where
    rowid : option_map (twos_complement 8) (rowid_in kind (laid_of number j x)) ≡ x.entry.rowid
    rowid = rowid_back kind x.entry.rowid (laid_of number j x) ok.rowid refl

    few : kept_of f.usable kind x.entry.bytes ≤ length x.entry.bytes
    few = local_le kind f.usable (length x.entry.bytes) least

    missing : length x.entry.bytes - length (take (kept_of f.usable kind x.entry.bytes) x.entry.bytes) ≡ length (drop (kept_of f.usable kind x.entry.bytes) x.entry.bytes)
    missing = omega (arith, length-take (kept_of f.usable kind x.entry.bytes) x.entry.bytes, length-drop (kept_of f.usable kind x.entry.bytes) x.entry.bytes, few)

    by : (b : Bool) → nat_eq (kept_of f.usable kind x.entry.bytes) (length x.entry.bytes) ≡ b
        → SaysEntry f number j (over_count f.usable kind x.entry) (record {
          child = if leaf then None else Some (number x.child);
          rowid = option_map (twos_complement 8) (rowid_in kind (laid_of number j x));
          total = length x.entry.bytes;
          local = take (kept_of f.usable kind x.entry.bytes) x.entry.bytes;
          overflow = if b then None else Some (number j);
        }) x.entry
    by true e =
        let same : kept_of f.usable kind x.entry.bytes ≡ length x.entry.bytes = grind (arith, nat_tests) in
        let whole : take (kept_of f.usable kind x.entry.bytes) x.entry.bytes ≡ x.entry.bytes = take_all (kept_of f.usable kind x.entry.bytes) x.entry.bytes (omega (arith, same)) in
        let zero_missing : length (drop (kept_of f.usable kind x.entry.bytes) x.entry.bytes) ≡ 0 = omega (arith, length-drop (kept_of f.usable kind x.entry.bytes) x.entry.bytes, same) in
        let none : over_count f.usable kind x.entry ≡ 0 = over_many f kind x.entry least ∙ ap (chain_len f) zero_missing ∙ chain_len-zero f least in
        record {
          shows = record {
            rowid = rowid;
            total = refl;
            payload = ap (λ n. take (kept_of f.usable kind x.entry.bytes) x.entry.bytes ++ take n (contents f [])) (missing ∙ zero_missing)
                ∙ append-nil (take (kept_of f.usable kind x.entry.bytes) x.entry.bytes) ∙ whole;
            chain = tt;
          };
          chain_is = sym (ap (numbers number j) none);
        }
    by false e =
        let differ : kept_of f.usable kind x.entry.bytes ≢ length x.entry.bytes = grind (arith, nat_tests) in
        let rest = drop (kept_of f.usable kind x.entry.bytes) x.entry.bytes in
        let some : 1 ≤ length rest = omega (arith, few, length-drop (kept_of f.usable kind x.entry.bytes) x.entry.bytes, differ) in
        let o = over_is f number total a j (over_count f.usable kind x.entry) rest least le some (over_many f kind x.entry least) s in
        record {
          shows = record {
            rowid = rowid;
            total = refl;
            payload = ap (λ n. take (kept_of f.usable kind x.entry.bytes) x.entry.bytes ++ take n (contents f (chain_from f n (Some (number j))))) missing
                ∙ ap (λ ps. take (kept_of f.usable kind x.entry.bytes) x.entry.bytes ++ take (length rest) (contents f ps)) o.pages_are
                ∙ ap (λ (t : List ℕ). take (kept_of f.usable kind x.entry.bytes) x.entry.bytes ++ t) o.holds
                ∙ take-append-drop (kept_of f.usable kind x.entry.bytes) x.entry.bytes;
            chain = subst (λ n. ChainFrom f n (Some (number j))) (sym missing) o.chain;
          };
          chain_is = ap (λ n. chain_from f n (Some (number j))) missing ∙ o.pages_are;
        }

-- ---- the cells of a page

-- cells hold the entries of items, and name their children
abbrev pub CellsShow : File → (ℕ → ℕ) → Bool → List Held → List Item → Type 0
CellsShow f number leaf [] [] = Unit {0}
CellsShow f number leaf [] (x ∷ xs) = ⊥
CellsShow f number leaf (h ∷ hs) [] = ⊥
CellsShow f number leaf (h ∷ hs) (x ∷ xs) = ((leaf ≡ false → child_of h ≡ number x.child) × HoldsEntry f h x.entry) × CellsShow f number leaf hs xs

record SaysEntries (f : File) (number : ℕ → ℕ) (kind : Kind) (leaf : Bool) (j : ℕ) (xs : List Item) : Type 0 where
  cells : CellsShow f number leaf (map (said f.usable kind leaf) (laid_from f.usable kind number j xs)) xs
  chains : flat_map (chain_of f) (map (said f.usable kind leaf) (laid_from f.usable kind number j xs)) ≡ numbers number j (overs f.usable kind xs)

child_said : (usable : ℕ) (kind : Kind) (leaf : Bool) (c : Laid) → leaf ≡ false → child_of (said usable kind leaf c) ≡ c.child
child_said usable kind true c e = cc
child_said usable kind false c e = refl

cells_show : (f : File) (number : ℕ → ℕ) (total : ℕ) → ArePageNumbers f number total → (kind : Kind) (leaf : Bool) (j : ℕ) (xs : List Item) → 480 ≤ f.usable
    → AllByRecursion (ItemIs kind leaf) xs → j + overs f.usable kind xs ≤ total → Stand f number j (chains_from f.usable kind number j xs)
    → SaysEntries f number kind leaf j xs
cells_show f number total a kind leaf j [] least ok le s = record { cells = tt; chains = refl }
cells_show f number total a kind leaf j (x ∷ xs) least ok le s =
    let n = over_count f.usable kind x.entry in
    let sums = sum_by-cons (item_overs f.usable kind) x xs in
    let parts = stand_apart f number j (chain_pages f.usable kind number j x.entry) (chains_from f.usable kind number (j + n) xs) s in
    let behind : Stand f number (j + n) (chains_from f.usable kind number (j + n) xs)
    = subst (λ m. Stand f number (j + m) (chains_from f.usable kind number (j + n) xs)) (length-chain f.usable kind number j x.entry) parts.1 in
    let one = cell_shows f number total a kind leaf j x least ok.0 (omega (arith, le, sums)) parts.0 in
    let more = cells_show f number total a kind leaf (j + n) xs least ok.1 (omega (arith, le, sums)) behind in
    record {
      cells = ((child_said f.usable kind leaf (laid_of number j x), one.shows), more.cells);
      chains = ap (λ (t : List ℕ). t ++ flat_map (chain_of f) (map (said f.usable kind leaf) (laid_from f.usable kind number (j + n) xs))) one.chain_is
          ∙ ap (λ (t : List ℕ). numbers number j n ++ t) more.chains ∙ sym (numbers_more number j n (overs f.usable kind xs)) ∙ ap (numbers number j) (sym sums);
    }

-- cells with page numbers can be written
all_written : (f : File) (number : ℕ → ℕ) (total : ℕ) → AreFew f number total → (kind : Kind) (leaf : Bool) (j : ℕ) (xs : List Item) → 480 ≤ f.usable
    → AllByRecursion (ItemIs kind leaf) xs → AllByRecursion (λ (x : Item). x.child ≤ total) xs → j + overs f.usable kind xs ≤ total
    → AllByRecursion (IsWritten (f.pages * f.usable) kind leaf) (laid_from f.usable kind number j xs)
all_written f number total a kind leaf j [] least ok children le = tt
all_written f number total a kind leaf j (x ∷ xs) least ok children le =
    let sums = sum_by-cons (item_overs f.usable kind) x xs in (
      record {
        child = a.are.small x.child children.0;
        next = a.are.small j (omega (arith, le, sums));
        rowid = raw_small x.entry.rowid;
        some = ok.0.some;
        none = ok.0.none;
        most = payload_within f.usable kind x.entry total f.pages least (omega (arith, le, sums)) a.more;
        large = ok.0.large;
      },
      all_written f number total a kind leaf (j + over_count f.usable kind x.entry) xs least ok.1 children.1 (omega (arith, le, sums)),
    )

length-laid : (usable : ℕ) (kind : Kind) (number : ℕ → ℕ) (j : ℕ) (xs : List Item) → length (laid_from usable kind number j xs) ≡ length xs
length-laid usable kind number j [] = refl
length-laid usable kind number j (x ∷ xs) = ap suc (length-laid usable kind number (j + over_count usable kind x.entry) xs)

-- ---- a page

-- a page that is made of a sheet: its cells can be made, its children are pages of the tree, and they fit
pub record IsSheet (f : File) (kind : Kind) (head total j : ℕ) (s : Sheet) : Type 0 where
  pub ok : AllByRecursion (ItemIs kind s.leaf) s.items
  pub children : AllByRecursion (λ (x : Item). x.child ≤ total) s.items
  pub right : s.right ≤ total
  pub overs_le : j + overs f.usable kind s.items ≤ total
  pub room : head + header_len s.leaf + needs f.usable kind s.leaf s.items ≤ f.usable

-- page p says what a sheet is made of, and has the overflow pages from index j on
pub record SheetSays (f : File) (number : ℕ → ℕ) (kind : Kind) (p j : ℕ) (s : Sheet) : Type 0 where
  pub node : Node
  pub is : Holds (node_of f) kind s.leaf p node
  pub right : s.leaf ≡ false → number_in node.right ≡ number s.right
  pub cells : CellsShow f number s.leaf node.cells s.items
  pub own : own_of f p ≡ p ∷ numbers number j (overs f.usable kind s.items)

pub sheet_says : (f : File) (number : ℕ → ℕ) (total : ℕ) → AreFew f number total → (kind : Kind) (p j : ℕ) (front : List ℕ) (s : Sheet) → 480 ≤ f.usable → f.usable ≤ 65536
    → is_page f.pages p ≡ true → length front ≡ head_of p → IsSheet f kind (head_of p) total j s
    → page_at f p ≡ sheet_page front f.usable kind number j s → Stand f number j (chains_from f.usable kind number j s.items) → SheetSays f number kind p j s
unfolding own_of
sheet_says f number total a kind p j front s least most there head ok is over =
    let cells = laid_from f.usable kind number j s.items in
    let stacked = stack_len f.usable kind s.leaf number j s.items least in
    let slots = needs_slots f.usable kind s.leaf s.items in
    let page : IsPage (head_of p) f.usable (f.pages * f.usable) kind s.leaf cells (number s.right)
    = record {
      each = all_written f number total a kind s.leaf j s.items least ok.ok ok.children ok.overs_le;
      child = a.are.small s.right ok.right;
      room = omega (arith, ok.room, stacked, slots, length-laid f.usable kind number j s.items);
    } in
    let node = page_says f p front kind s.leaf cells (number s.right) least most there head page is in
    let w = cells_show f number total a.are kind s.leaf j s.items least ok.ok ok.overs_le over in
    record {
      node = laid_node f.usable kind s.leaf cells (number s.right);
      is = record { is = node; kind_is = refl; leaf_is = refl };
      right = by s.leaf (number s.right);
      cells = w.cells;
      own = ap (λ n. p ∷ flat_map (chain_of f) (cells_in n)) node ∙ ap (λ (t : List ℕ). p ∷ t) w.chains;
    }
  where
    by : (leaf : Bool) (right : ℕ) → leaf ≡ false → number_in (if leaf then None else Some right) ≡ right
    by true right e = cc
    by false right e = refl
