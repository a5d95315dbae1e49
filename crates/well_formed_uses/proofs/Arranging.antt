-- Each row for an automatic index is that of exactly one key of a table, so the keys can be put in the order of the rows.
use Rattle.std.proofs.Common.{◌≡◌, ◌≤◌, ℕ, ◌+◌, Bool, true, List, [], ◌∷◌, ◌++◌, length, map, refl, sym, ap, ◌∙◌, subst, inl, inr, arith, length-append}
use Rattle.std.specs.Prelude.{pos, filter, sum_by}
use Rattle.std.proofs.lemmas.List.Recursion.{is_sum_by}
use Rattle.std.specs.List.{AllByRecursion, flat_map}
use Rattle.std.specs.List.Sorted.{IsPermutation}
use Rattle.std.proofs.lemmas.Bool.{cases_Bool}
use Rattle.std.proofs.lemmas.List.{map-append}
use Rattle.std.proofs.lemmas.List.Elements.{filter-append}
use Rattle.std.proofs.lemmas.List.Sorted.{IsPermutation-cons, IsPermutation-middle, IsPermutation-refl, IsPermutation-sym, IsPermutation-trans, sum_by-IsPermutation}
use Rattle.page_access.specs.Pages.{File}
use Rattle.page_lists.specs.Lists.{count}
use Rattle.page_lists.proofs.Counts.{count-append, count_in, in_head}
use Rattle.cell_reader.specs.declared.shapes.Kind.TheVariants as kinds
use Rattle.raw_schema.specs.declared.rows.SchemaRow.{SchemaRow}
use Rattle.tree_walks.specs.Rows.{tree_pages}
use Rattle.tree_walks.proofs.Levels.{rows_split, under}
use Rattle.page_walk.specs.Walk.{children}
use Rattle.well_formed_uses.specs.Trees.{IsGrown, StoredTree, own_chains, own_pages}

-- the tree of a key of a table: which rows are its row, this row, and the tree
pub record KeyTree : Type 0 where
  pub test : SchemaRow → Bool
  pub row : SchemaRow
  pub tree : StoredTree

-- among these rows exactly one is the key's, and the tree is its
pub record IsKeyTree (f : File) (rows : List SchemaRow) (k : KeyTree) : Type 0 where
  pub one : filter k.test rows ≡ k.row ∷ []
  pub root_is : k.row.root ≡ pos k.tree.root
  pub kind_is : k.tree.kind ≡ kinds.Index
  pub grown : IsGrown f k.tree

abbrev pub key_row : KeyTree → SchemaRow
key_row k = k.row

abbrev pub key_pages : File → KeyTree → List ℕ
key_pages f k = own_pages f k.tree

abbrev pub key_chains : File → KeyTree → List ℕ
key_chains f k = own_chains f k.tree

-- ---- lists

-- a list with one element that passes a test
record HasOne {X : Type 0} (t : X → Bool) (x : X) (xs : List X) : Type 0 where
  front : List X
  rest : List X
  parts : xs ≡ front ++ x ∷ rest
  passes : t x ≡ true
  no_front : filter t front ≡ []
  no_rest : filter t rest ≡ []

one_in : {X : Type 0} (t : X → Bool) (x : X) (xs : List X) → filter t xs ≡ x ∷ [] → HasOne t x xs
one_in t x [] is = absurd (cc)
one_in {X} t x (y ∷ xs) is =
    elim (cases_Bool (t y)) [
      | inl so ↦
          let both : y ∷ filter t xs ≡ x ∷ [] = rw so at is in
          let same : y ≡ x = cc in
          let none : filter t xs ≡ [] = cc in
          record {
            front = [];
            rest = xs;
            parts = ap (λ (z : X). z ∷ xs) same;
            passes = ap t (sym same) ∙ so;
            no_front = refl;
            no_rest = none;
          }
      | inr isnt ↦
          let later : filter t xs ≡ x ∷ [] = rw isnt at is in
          let found = one_in t x xs later in
          record {
            front = y ∷ found.front;
            rest = found.rest;
            parts = ap (λ (zs : List X). y ∷ zs) found.parts;
            passes = found.passes;
            no_front = rw isnt found.no_front;
            no_rest = found.no_rest;
          }
    ]

-- a list of one element has no other
only_one : {X : Type 0} (us : List X) (r : X) (vs : List X) (w : X) → us ++ r ∷ vs ≡ w ∷ [] → r ≡ w
only_one [] r vs w is = cc
only_one (u ∷ []) r vs w is = absurd (let none : r ∷ vs ≡ [] = cc in cc)
only_one (u ∷ v ∷ us) r vs w is = absurd (let none : v ∷ (us ++ r ∷ vs) ≡ [] = cc in cc)

-- what is in the middle is not the one
still_one : {X : Type 0} (t : X → Bool) (front : List X) (r : X) (rest : List X) (w : X) → (r ≡ w → ⊥)
    → filter t (front ++ r ∷ rest) ≡ w ∷ [] → filter t (front ++ rest) ≡ w ∷ []
still_one {X} t front r rest w other is =
    let parts : filter t front ++ filter t (r ∷ rest) ≡ w ∷ [] = sym (filter-append t front (r ∷ rest)) ∙ is in
    elim (cases_Bool (t r)) [
      | inl so ↦
          let cut : filter t front ++ (r ∷ filter t rest) ≡ w ∷ [] = rw so at parts in
          absurd (other (only_one (filter t front) r (filter t rest) w cut))
      | inr isnt ↦
          let cut : filter t front ++ filter t rest ≡ w ∷ [] = rw isnt at parts in
          filter-append t front rest ∙ cut
    ]

record Cut {X Y : Type 0} (g : X → Y) (zs : List X) (xs ys : List Y) : Type 0 where
  front : List X
  back : List X
  parts : zs ≡ front ++ back
  front_is : map g front ≡ xs
  back_is : map g back ≡ ys

cut_map : {X Y : Type 0} (g : X → Y) (zs : List X) (xs ys : List Y) → map g zs ≡ xs ++ ys → Cut g zs xs ys
cut_map g zs [] ys is = record { front = []; back = zs; parts = refl; front_is = refl; back_is = is }
cut_map g [] (x ∷ xs) ys is = absurd (cc)
cut_map {X} {Y} g (z ∷ zs) (x ∷ xs) ys is =
    let head : g z ≡ x = cc in
    let tail : map g zs ≡ xs ++ ys = cc in
    let later = cut_map g zs xs ys tail in
    record {
      front = z ∷ later.front;
      back = later.back;
      parts = ap (λ (ws : List X). z ∷ ws) later.parts;
      front_is = ap (λ (y : Y). y ∷ map g later.front) head ∙ ap (λ (ws : List Y). x ∷ ws) later.front_is;
      back_is = later.back_is;
    }

-- ---- the keys in the order of the rows

pub root_there : (f : File) (t : StoredTree) → 1 ≤ count t.root (own_pages f t)
unfolding tree_pages
root_there f t =
    let all = rows_split (children f) t.depth (t.root ∷ []) in
    omega (
      arith,
      ap (count t.root) all,
      count-append t.root (t.root ∷ []) (under (children f) t.depth (t.root ∷ [])),
      count_in t.root (t.root ∷ []) (in_head t.root []),
    )

-- a row is that of one key alone, where the trees of the keys share no page
apart : (f : File) (rows : List SchemaRow) (k : KeyTree) (ks : List KeyTree) → IsKeyTree f rows k → AllByRecursion (IsKeyTree f rows) ks
    → ((q : ℕ) → count q (key_pages f k) + count q (flat_map (key_pages f) ks) ≤ 1) → AllByRecursion (λ (j : KeyTree). k.row ≡ j.row → ⊥) ks
apart f rows k [] is all once = tt
apart f rows k (j ∷ ks) is all once = (
  λ same.
      let roots : pos k.tree.root ≡ pos j.tree.root = sym is.root_is ∙ ap (λ (r : SchemaRow). r.root) same ∙ all.0.root_is in
      let root : k.tree.root ≡ j.tree.root = cc in
      let there : 1 ≤ count k.tree.root (own_pages f j.tree) =
      subst (λ (q : ℕ). 1 ≤ count q (own_pages f j.tree)) (sym root) (root_there f j.tree) in
      omega (
        arith,
        once k.tree.root,
        root_there f k.tree,
        there,
        count-append k.tree.root (key_pages f j) (flat_map (key_pages f) ks),
      ),
  apart f rows k ks is all.1 (λ q. omega (arith, once q, count-append q (key_pages f j) (flat_map (key_pages f) ks))),
)

without_row : (f : File) (front : List SchemaRow) (row : SchemaRow) (rest : List SchemaRow) (ks : List KeyTree)
    → AllByRecursion (λ (j : KeyTree). row ≡ j.row → ⊥) ks → AllByRecursion (IsKeyTree f (front ++ row ∷ rest)) ks → AllByRecursion (IsKeyTree f (front ++ rest)) ks
without_row f front row rest [] others all = tt
without_row f front row rest (j ∷ ks) others all = (
  record {
    one = still_one j.test front row rest j.row others.0 all.0.one;
    root_is = all.0.root_is;
    kind_is = all.0.kind_is;
    grown = all.0.grown;
  },
  without_row f front row rest ks others.1 all.1,
)

-- the keys in the order of their rows
pub record Arranged (rows : List SchemaRow) (ks : List KeyTree) : Type 0 where
  pub keys : List KeyTree
  pub rows_are : map key_row keys ≡ rows
  pub moved : IsPermutation ks keys

pub arranged : (f : File) (rows : List SchemaRow) (ks : List KeyTree) → AllByRecursion (IsKeyTree f rows) ks
    → ((q : ℕ) → count q (flat_map (key_pages f) ks) ≤ 1) → length rows ≡ length ks → Arranged rows ks
arranged f [] [] all once many = record { keys = []; rows_are = refl; moved = IsPermutation-refl [] }
arranged f (r ∷ rows) [] all once many = absurd (omega (arith, many))
arranged f rows (k ∷ ks) all once many =
    let one = one_in k.test k.row rows all.0.one in
    let each : (q : ℕ) → count q (key_pages f k) + count q (flat_map (key_pages f) ks) ≤ 1 =
    λ q. omega (arith, once q, count-append q (key_pages f k) (flat_map (key_pages f) ks)) in
    let others = apart f rows k ks all.0 all.1 each in
    let left = without_row f one.front k.row one.rest ks others
    (subst (λ (rs : List SchemaRow). AllByRecursion (IsKeyTree f rs) ks) one.parts all.1) in
    let fewer : length (one.front ++ one.rest) ≡ length ks =
    omega (arith, many, ap length one.parts, length-append one.front (k.row ∷ one.rest), length-append one.front one.rest) in
    let below = arranged f (one.front ++ one.rest) ks left (λ q. omega (arith, each q)) fewer in
    let cut = cut_map key_row below.keys one.front one.rest below.rows_are in
    let moved : IsPermutation ks (cut.front ++ cut.back) = subst (λ (js : List KeyTree). IsPermutation ks js) cut.parts below.moved in
    record {
      keys = cut.front ++ k ∷ cut.back;
      rows_are = map-append key_row cut.front (k ∷ cut.back)
          ∙ ap (λ (rs : List SchemaRow). rs ++ k.row ∷ map key_row cut.back) cut.front_is
          ∙ ap (λ (rs : List SchemaRow). one.front ++ k.row ∷ rs) cut.back_is
          ∙ sym one.parts;
      moved = IsPermutation-trans (k ∷ ks) (k ∷ (cut.front ++ cut.back)) (cut.front ++ k ∷ cut.back)
          (IsPermutation-cons k ks (cut.front ++ cut.back) moved)
          (IsPermutation-sym (cut.front ++ k ∷ cut.back) (k ∷ (cut.front ++ cut.back)) (IsPermutation-middle cut.front k cut.back));
    }

-- pages in another order
pub count_moved : {X : Type 0} (g : X → List ℕ) (q : ℕ) (xs ys : List X) → IsPermutation xs ys → count q (flat_map g xs) ≡ count q (flat_map g ys)
count_moved {X} g q xs ys moved = summed xs ∙ sym (sum_by-IsPermutation (λ (x : X). count q (g x)) xs ys moved) ∙ sym (summed ys)
  where
    summed : (zs : List X) → count q (flat_map g zs) ≡ sum_by (λ (x : X). count q (g x)) zs
    summed zs = is_sum_by (λ ws. count q (flat_map g ws)) (λ (x : X). count q (g x)) refl (λ w ws. count-append q (g w) (flat_map g ws)) zs
