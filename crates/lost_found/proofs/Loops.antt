-- Steps of loops over columns, names and cells.
use Rattle.std.proofs.Common.{◌≡◌, refl, sym, ap, ◌∙◌, arith, ℕ, suc, ◌+◌, ◌-◌, ◌<◌, Bool, ◌||◌, true, false, List, [], ◌∷◌, ◌++◌, append_assoc, length, map, take, codes, get_or, Vec, Global, nat_cmp, is_eq, Ordering, Less, Equal, Greater}
use Rattle.std.specs.BTreeSet.{insert_key}
use Rattle.std.specs.Cmp.Lexicographic.{slice_cmp}
use Rattle.std.specs.List.{list_any, range_with_len}
use Rattle.std.specs.Str.{bytes_eq, str_to_ascii_lowercase}
use Rattle.std.proofs.lemmas.Cmp.{nat_list_eq_equiv}
use Rattle.std.proofs.lemmas.List.Folds.{list_any_more}
use Rattle.std.proofs.lemmas.Map.Text.{is_eq-slice_cmp}
use Rattle.std.proofs.lemmas.Slice.Eq.{bytes_eq-Decides}
use Rattle.page_walk.specs.Cells.{Row}
use Rattle.salvaged_tables.specs.declared.places.LostCell.{LostCell}
use Rattle.salvaged_tables.specs.declared.places.Placed.{Placed}
use Rattle.salvaged_tables.specs.Salvaged.{lost_seen, rows_at}
use Rattle.salvaged_tables.specs.Steps.{GainsRow}
use Rattle.table_shape.specs.declared.columns.Column.{Column}
use Rattle.table_shape.specs.declared.rows.OutRow.{OutRow}
use Rattle.table_shape.specs.Names.{is_named}
use Rattle.lost_found.specs.Names.{free_from, numbered}
use Rattle.lost_found.specs.Rows.{lost_row, lost_rows}
use Rattle.lost_found.specs.Small.{has_text}
use Rattle.lost_found.specs.Texts.{behind_commas, field_name, field_names, lost_text, plain_column, quoted}

-- ---- columns

next_of : (k n : ℕ) → k < n → range_with_len k (n - k) ≡ k ∷ range_with_len (k + 1) (n - (k + 1))
next_of k n h =
    let left : n - k ≡ suc (n - (k + 1)) = omega (arith, h) in
    ap (range_with_len k) left

-- one more column stands in the text
pub text_next : (to mid new whole : List ℕ) (k n : ℕ) → k < n → mid ≡ to ++ codes ", " → new ≡ mid ++ field_name k
    → to ++ behind_commas (map field_name (range_with_len k (n - k))) ≡ whole
    → new ++ behind_commas (map field_name (range_with_len (k + 1) (n - (k + 1)))) ≡ whole
text_next to mid new whole k n h comma name was =
    let rest = behind_commas (map field_name (range_with_len (k + 1) (n - (k + 1)))) in
    let both : new ≡ (to ++ codes ", ") ++ field_name k = name ∙ ap (λ (z : List ℕ). z ++ field_name k) comma in
    let same : ((to ++ codes ", ") ++ field_name k) ++ rest ≡ to ++ (codes ", " ++ (field_name k ++ rest)) = simp append_assoc in
    let step : behind_commas (map field_name (range_with_len k (n - k))) ≡ codes ", " ++ (field_name k ++ rest) =
    ap (λ (z : List ℕ). behind_commas (map field_name z)) (next_of k n h) ∙ append_assoc (codes ", ") (field_name k) rest in
    ap (λ (z : List ℕ). z ++ rest) both ∙ (same ∙ (ap (λ (z : List ℕ). to ++ z) (sym step) ∙ was))

-- one more column is there
pub column_next : (to new whole : List Column) (name : List ℕ) (k n : ℕ) → k < n → name ≡ field_name k → new ≡ to ++ plain_column name ∷ []
    → to ++ map plain_column (map field_name (range_with_len k (n - k))) ≡ whole
    → new ++ map plain_column (map field_name (range_with_len (k + 1) (n - (k + 1)))) ≡ whole
column_next to new whole name k n h called more was =
    let rest = map plain_column (map field_name (range_with_len (k + 1) (n - (k + 1)))) in
    ap (λ (z : List Column). z ++ rest) (more ∙ ap (λ (z : List ℕ). to ++ plain_column z ∷ []) called)
    ∙ (append_assoc to (plain_column (field_name k) ∷ []) rest
    ∙ (ap (λ (z : List ℕ). to ++ map plain_column (map field_name z)) (sym (next_of k n h)) ∙ was))

-- the text in its five parts
pub text_made : (a b c d e name : List ℕ) (n : ℕ) → a ≡ codes "CREATE TABLE " → b ≡ a ++ quoted name
    → c ≡ b ++ codes "(rootpgno INTEGER, pgno INTEGER, nfield INTEGER, id INTEGER"
    → d ≡ c ++ behind_commas (field_names n) → e ≡ d ++ codes ")" → e ≡ lost_text name n
text_made a b c d e name n ea eb ec ed ee =
    let all : e ≡ (((codes "CREATE TABLE " ++ quoted name) ++ codes "(rootpgno INTEGER, pgno INTEGER, nfield INTEGER, id INTEGER")
    ++ behind_commas (field_names n)) ++ codes ")" =
    ee ∙ ap (λ (z : List ℕ). z ++ codes ")") (ed ∙ ap (λ (z : List ℕ). z ++ behind_commas (field_names n))
    (ec ∙ ap (λ (z : List ℕ). z ++ codes "(rootpgno INTEGER, pgno INTEGER, nfield INTEGER, id INTEGER")
    (eb ∙ ap (λ (z : List ℕ). z ++ quoted name) ea))) in
    all ∙ grouped (codes "CREATE TABLE ") (quoted name) (codes "(rootpgno INTEGER, pgno INTEGER, nfield INTEGER, id INTEGER")
    (behind_commas (field_names n)) (codes ")")
  where
    grouped : (a b c d e : List ℕ) → (((a ++ b) ++ c) ++ d) ++ e ≡ a ++ (b ++ (c ++ (d ++ e)))
    grouped a b c d e = simp append_assoc

-- ---- names

-- a number that is taken is followed by the next
pub number_next : (base : List ℕ) (names : List (List ℕ)) (k n : ℕ) (whole : ℕ) → k < n → is_named (numbered base k) names ≡ true
    → free_from (n - k) k base names ≡ whole → free_from (n - (k + 1)) (k + 1) base names ≡ whole
number_next base names k n whole h taken was =
    let left : n - k ≡ suc (n - (k + 1)) = omega (arith, h) in
    let step : free_from (suc (n - (k + 1))) k base names ≡ free_from (n - (k + 1)) (k + 1) base names = rw taken refl in
    sym step ∙ (ap (λ m. free_from m k base names) (sym left) ∙ was)

-- one that is free is found
pub number_found : (base : List ℕ) (names : List (List ℕ)) (k n : ℕ) (whole : ℕ) → k < n → is_named (numbered base k) names ≡ false
    → free_from (n - k) k base names ≡ whole → k ≡ whole
number_found base names k n whole h free was =
    let left : n - k ≡ suc (n - (k + 1)) = omega (arith, h) in
    let step : free_from (suc (n - (k + 1))) k base names ≡ k = rw free refl in
    sym step ∙ (ap (λ m. free_from m k base names) (sym left) ∙ was)

abbrev Texts : Type 0
Texts = List (Vec ℕ Global)

abbrev order_of : Vec ℕ Global → Vec ℕ Global → Ordering
order_of x y = slice_cmp nat_cmp x.items y.items

same_test : (text : List ℕ) (x y : Vec ℕ Global) → order_of x y ≡ Equal
    → is_eq (slice_cmp nat_cmp text x.items) ≡ is_eq (slice_cmp nat_cmp text y.items)
same_test text x y is =
    let equal : bytes_eq x.items y.items ≡ true = sym (is_eq-slice_cmp x.items y.items) ∙ ap is_eq is in
    ap (λ (z : List ℕ). is_eq (slice_cmp nat_cmp text z)) ((bytes_eq-Decides x.items y.items).0 equal)

swapped : (a b c : Bool) → (a || (b || c)) ≡ (b || (a || c))
swapped true true c = refl
swapped true false c = refl
swapped false true c = refl
swapped false false c = refl

once : (a b c : Bool) → a ≡ b → (b || c) ≡ (a || (b || c))
once true true c e = refl
once false false c e = refl
once true false c e = absurd cc
once false true c e = absurd cc

-- a set has what it had, and the text that was put in
has_inserted : (text : List ℕ) (keys : Texts) (key : Vec ℕ Global)
    → has_text (insert_key order_of keys key) text ≡ (is_eq (slice_cmp nat_cmp text key.items) || has_text keys text)
has_inserted text [] key = refl
has_inserted text (x ∷ keys) key = by (order_of key x) refl (has_inserted text keys key)
  where
    by : (o : Ordering) → order_of key x ≡ o
        → has_text (insert_key order_of keys key) text ≡ (is_eq (slice_cmp nat_cmp text key.items) || has_text keys text)
        → has_text (insert_key order_of (x ∷ keys) key) text ≡ (is_eq (slice_cmp nat_cmp text key.items) || has_text (x ∷ keys) text)
    by Less e more = rw e refl
    by Equal e more = rw e (once _ _ (has_text keys text) (same_test text key x e))
    by Greater e more = rw e (ap (λ (b : Bool). is_eq (slice_cmp nat_cmp text x.items) || b) more ∙ swapped _ _ (has_text keys text))

turned : (a b : Bool) → (a || b) ≡ (b || a)
turned true true = refl
turned true false = refl
turned false true = refl
turned false false = refl

-- one more name is in the set
pub name_next : (names : List (List ℕ)) (i : ℕ) (name : List ℕ) (keys new : Texts) (key : Vec ℕ Global) → i < length names
    → name ≡ get_or names i name → key.items ≡ str_to_ascii_lowercase name → new ≡ insert_key order_of keys key
    → ((text : List ℕ) → has_text keys text ≡ list_any (λ name. bytes_eq (str_to_ascii_lowercase name) text) (take i names))
    → (text : List ℕ) → has_text new text ≡ list_any (λ name. bytes_eq (str_to_ascii_lowercase name) text) (take (i + 1) names)
name_next names i name keys new key h is small put was text =
    let test : List ℕ → Bool = λ (name : List ℕ). bytes_eq (str_to_ascii_lowercase name) text in
    let here : is_eq (slice_cmp nat_cmp text key.items) ≡ test (get_or names i name) =
    is_eq-slice_cmp text key.items ∙ (nat_list_eq_equiv.symm text key.items
    ∙ (ap (λ (z : List ℕ). bytes_eq z text) small ∙ ap test is)) in
    ap (λ (ks : Texts). has_text ks text) put
    ∙ (has_inserted text keys key
    ∙ (turned (is_eq (slice_cmp nat_cmp text key.items)) (has_text keys text)
    ∙ ((λ j. was text j || here j)
    ∙ sym (list_any_more test names i name h))))

-- ---- rows

-- one more cell has its row
pub rows_next : (rows new_rows : List OutRow) (places new_places : List Placed) (cell : LostCell) (items left : List LostCell) (whole : List Row)
    → items ≡ cell ∷ left → GainsRow (lost_row (length rows + 1) (lost_seen cell)) rows places new_rows new_places
    → length new_rows ≡ length rows + 1 → length rows ≡ length places
    → rows_at rows places ++ lost_rows (length rows + 1) (map lost_seen items) ≡ whole
    → rows_at new_rows new_places ++ lost_rows (length new_rows + 1) (map lost_seen left) ≡ whole
rows_next rows new_rows places new_places cell items left whole step gains more even was =
    let row = lost_row (length rows + 1) (lost_seen cell) in
    ap (λ (z : List Row). z ++ lost_rows (length new_rows + 1) (map lost_seen left)) (gains.gained even)
    ∙ (ap (λ (n : ℕ). (rows_at rows places ++ row ∷ []) ++ lost_rows (n + 1) (map lost_seen left)) more
    ∙ (append_assoc (rows_at rows places) (row ∷ []) (lost_rows (length rows + 1 + 1) (map lost_seen left))
    ∙ (ap (λ (z : List LostCell). rows_at rows places ++ lost_rows (length rows + 1) (map lost_seen z)) (sym step) ∙ was)))
