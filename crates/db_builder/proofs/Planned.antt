-- What a planned tree's pages are, and what a call that puts them asks.
use Rattle.std.proofs.Common.{◌≡◌, ◌≤◌, ◌<◌, ◌+◌, ◌-◌, ◌^◌, ℕ, zero, suc, List, [], ◌∷◌, length, get_or, drop, None, Some, sym, ap, ◌∙◌, refl, subst, arith}
use Rattle.std.specs.List.{AllZip}
use Rattle.std.proofs.lemmas.List.{get_or-map}
use Rattle.table_shape.specs.declared.rows.OutRow.{OutRow}
use Rattle.table_shape.specs.declared.rows.OutTable.{OutTable}
use Rattle.tree_writer.specs.Entry.{Entry}
use Rattle.tree_writer.specs.Layout.{tree_pages}
use Rattle.tree_writer.specs.Numbers.{number_of}
use Rattle.tree_writer.specs.Trees.{IsPlan, OfTree as OfTreePlan}
use Rattle.table_shape.specs.declared.keys.KeyPart.{KeyPart}
use Rattle.db_builder.specs.declared.plans.IndexOrder.{IndexOrder}
use Rattle.db_builder.specs.declared.plans.PlannedTree.{PlannedTree}
use Rattle.db_builder.specs.Views.{index_entries, row_entries}
use Rattle.db_builder.specs.Layout.{Placed, lock_of, number_in}
use Rattle.db_builder.specs.Prepared.{AreReadable, CanRead, HaveAtMost, IsPlanned, IsReadable, planned_entries, rows_at}
use Rattle.db_builder.specs.Written.{ArePages, OfTree}

-- the rows of a table that stands at a place
pub rows_are : (tables : List OutTable) (i : ℕ) (t : OutTable) → i < length tables → t ≡ get_or tables i t → rows_at tables i ≡ t.rows.items
rows_are tables i t lt is = get_or-map (λ (x : OutTable). x.rows.items) tables i t [] lt ∙ ap (λ (x : OutTable). x.rows.items) (sym is)

-- the entries of a tree of rows, and of an index
pub same_rows : (size longest : ℕ) (tables : List OutTable) (rows : List OutRow) (p : Placed) (t : PlannedTree) → IsPlanned size tables longest p t
    → t.index ≡ None → rows ≡ rows_at tables t.table → row_entries rows ≡ p.tree.entries
same_rows size longest tables rows p t is none e = ap row_entries e ∙ ap (planned_entries (rows_at tables t.table)) (sym none) ∙ is.entries

pub same_index : (size longest : ℕ) (tables : List OutTable) (rows : List OutRow) (p : Placed) (t : PlannedTree) (ix : IndexOrder) (parts : List KeyPart) (order : List ℕ)
    → IsPlanned size tables longest p t → t.index ≡ Some ix → parts ≡ ix.parts.items → order ≡ ix.order.items → rows ≡ rows_at tables t.table
    → index_entries parts rows order ≡ p.tree.entries
same_index size longest tables rows p t ix parts order is some ps os e =
    ap (λ xs. index_entries xs rows order) ps ∙ ap (λ xs. index_entries ix.parts.items rows xs) os ∙ ap (λ xs. index_entries ix.parts.items xs ix.order.items) e
    ∙ ap (planned_entries (rows_at tables t.table)) (sym some) ∙ is.entries

pub can_index : (size longest : ℕ) (tables : List OutTable) (p : Placed) (t : PlannedTree) (ix : IndexOrder)
    → IsPlanned size tables longest p t → t.index ≡ Some ix → IsReadable (rows_at tables t.table) ix
can_index size longest tables p t ix is some = subst (CanRead (rows_at tables t.table)) some is.can

pub can_rows : (size longest : ℕ) (tables : List OutTable) (p : Placed) (t : PlannedTree)
    → IsPlanned size tables longest p t → t.index ≡ None → AreReadable (rows_at tables t.table)
can_rows size longest tables p t is none = subst (CanRead (rows_at tables t.table)) none is.can

-- what puts the pages of a tree over these entries
pub record Asks (size longest lock : ℕ) (es : List Entry) (p : Placed) (t : PlannedTree) : Type 0 where
  pub plan : IsPlan es t.plan
  pub usable : size ≡ t.plan.usable
  pub room : HaveAtMost longest es
  pub least : 1 ≤ t.start
  pub most : t.start + t.plan.count < 2 ^ 32 - 1
  pub pages : ArePages es (number_of t.start lock) t.plan 0 (tree_pages size p.tree.kind (number_in size p) p.tree.entries)
  pub number : number_of t.start lock ≡ number_in size p

pub asks : (size longest lock : ℕ) (tables : List OutTable) (es : List Entry) (p : Placed) (t : PlannedTree) → IsPlanned size tables longest p t
    → lock ≡ lock_of size → es ≡ p.tree.entries → Asks size longest lock es p t
asks size longest lock tables es p t is locked same =
    let number : number_of t.start lock ≡ number_in size p = ap (λ s. number_of s lock) is.start ∙ ap (λ l. number_of p.start l) locked in
    record {
      plan = subst (λ (xs : List Entry). IsPlan xs t.plan) (sym same) (OfTreePlan size p.tree.kind is.plan);
      usable = sym is.plan.usable_is;
      room = subst (λ (xs : List Entry). HaveAtMost longest xs) (sym same) is.short;
      least = omega (arith, is.start, is.least);
      most = omega (arith, is.start, is.most);
      pages = subst (λ (xs : List Entry). ArePages xs (number_of t.start lock) t.plan 0 (tree_pages size p.tree.kind (number_in size p) p.tree.entries)) (sym same)
          (OfTree size p.tree.kind is.plan refl (ap (λ (f : ℕ → ℕ). tree_pages size p.tree.kind f p.tree.entries) (sym number)));
      number = number;
    }

-- the rows that stand in the table of a planned tree
pub rows_there : (size longest : ℕ) (tables : List OutTable) (table : OutTable) (rows : List OutRow) (p : Placed) (t : PlannedTree) → IsPlanned size tables longest p t
    → table ≡ get_or tables t.table table → rows ≡ (get_or tables t.table table).rows.items → rows ≡ rows_at tables t.table
rows_there size longest tables table rows p t is at e = e ∙ ap (λ (x : OutTable). x.rows.items) (sym at) ∙ sym (rows_are tables t.table table is.there at)

-- what puts the pages of a tree over rows, and over rows in the order of an index
pub asks_rows : (size longest lock : ℕ) (tables : List OutTable) (rows : List OutRow) (p : Placed) (t : PlannedTree) → IsPlanned size tables longest p t
    → lock ≡ lock_of size → t.index ≡ None → rows ≡ rows_at tables t.table → Asks size longest lock (row_entries rows) p t
asks_rows size longest lock tables rows p t is locked none there =
    asks size longest lock tables (row_entries rows) p t is locked (same_rows size longest tables rows p t is none there)

pub asks_index : (size longest lock : ℕ) (tables : List OutTable) (rows : List OutRow) (p : Placed) (t : PlannedTree) (ix : IndexOrder) (parts : List KeyPart) (order : List ℕ)
    → IsPlanned size tables longest p t → lock ≡ lock_of size → t.index ≡ Some ix → parts ≡ ix.parts.items → order ≡ ix.order.items → rows ≡ rows_at tables t.table
    → Asks size longest lock (index_entries parts rows order) p t
asks_index size longest lock tables rows p t ix parts order is locked some ps os there =
    asks size longest lock tables (index_entries parts rows order) p t is locked (same_index size longest tables rows p t ix parts order is some ps os there)

-- an item of two lists that go together
pub record Zipped {A B : Type 0} (R : A → B → Type 0) (i : ℕ) (xs : List A) (y : B) : Type 0 where
  pub x : A
  pub is : drop i xs ≡ x ∷ drop (i + 1) xs
  pub holds : R x y

pub zip_at : {A B : Type 0} (R : A → B → Type 0) (i : ℕ) (xs : List A) (ys : List B) (y : B) → AllZip R xs ys → i < length ys → y ≡ get_or ys i y → Zipped R i xs y
zip_at R i [] [] y all lt is = absurd (omega arith)
zip_at R i [] (z ∷ ys) y all lt is = absurd all
zip_at R i (x ∷ xs) [] y all lt is = absurd all
zip_at R zero (x ∷ xs) (z ∷ ys) y all lt is = record { x = x; is = refl; holds = subst (R x) (sym is) all.0 }
zip_at R (suc i) (x ∷ xs) (z ∷ ys) y all lt is =
    let h = zip_at R i xs ys y all.1 (omega arith) is in
    let next : drop (suc i + 1) (x ∷ xs) ≡ drop (i + 1) xs = (let e : suc i + 1 ≡ suc (i + 1) = omega arith in ap (λ n. drop n (x ∷ xs)) e) in
    record { x = h.x; is = h.is ∙ ap (λ zs. h.x ∷ zs) (sym next); holds = h.holds }

-- there are no more of the first list than of the second
pub zip_end : {A B : Type 0} (R : A → B → Type 0) (i : ℕ) (xs : List A) (ys : List B) → AllZip R xs ys → length ys ≤ i → drop i xs ≡ []
zip_end R zero [] [] all le = refl
zip_end R (suc i) [] [] all le = refl
zip_end R i [] (z ∷ ys) all le = absurd all
zip_end R i (x ∷ xs) [] all le = absurd all
zip_end R zero (x ∷ xs) (z ∷ ys) all le = absurd (omega arith)
zip_end R (suc i) (x ∷ xs) (z ∷ ys) all le = zip_end R i xs ys all.1 (omega arith)

-- the same where the lengths are told otherwise
pub planned_by : (size longest s l : ℕ) (tables : List OutTable) (p : Placed) (t : PlannedTree) → size ≡ s → longest ≡ l → IsPlanned size tables longest p t → IsPlanned s tables l p t
planned_by size longest s l tables p t a b is =
    subst (λ (n : ℕ). IsPlanned n tables l p t) a (subst (λ (n : ℕ). IsPlanned size tables n p t) b is)
