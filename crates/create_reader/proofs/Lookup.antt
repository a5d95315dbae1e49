-- The columns of a table by their names.
use Rattle.std.proofs.Common.{◌≡◌, ◌≢◌, refl, sym, ap, subst, ◌⊎◌, inl, inr, append_assoc, ◌∙◌, arith, ℕ, zero, suc, ◌+◌, ◌<◌, ◌≤◌, nat_eq, nat_lt, Bool, true, false, not, cond, ◌||◌, Option, Some, None, is_none, is_some, unwrap_or, List, [], ◌∷◌, ◌++◌, length, map, get_or, set, slice_get, Vec, Global, Bor}
use Rattle.std.proofs.lemmas.Bool.{true≢false, eq-eqb, eqb-true, ltb-false}
use Rattle.std.proofs.lemmas.Cmp.{nat_eq_equiv}
use Rattle.std.proofs.lemmas.Iterator.Adapters.{position_from-zero}
use Rattle.std.proofs.lemmas.List.{get_or-set_other, get_or-set_same, length-set}
use Rattle.std.proofs.lemmas.List.Folds.{find_at, list_any-append}
use Rattle.std.proofs.lemmas.List.Sums.{prefix_len-le-length}
use Rattle.std.proofs.lemmas.Map.Text.{is_eq-slice_cmp}
use Rattle.std.specs.BTreeMap.{get, is_at}
use Rattle.std.specs.List.{list_any, position_from}
use Rattle.std.specs.Str.{bytes_eq, str_to_ascii_lowercase}
use Rattle.create_reader.specs.declared.places.Index.{Index}
use Rattle.create_reader.specs.declared.texts.ColumnText.{ColumnText}
use Rattle.create_reader.specs.declared.texts.ConstraintText.{ConstraintText}
use Rattle.create_reader.specs.Constraints.{Constraint, Table}
use Rattle.create_reader.specs.Faults.{auto_alone, bad_list, column_repeats, has_bad_list, has_marks, has_repeat, integer_beside_keys, key_fault, key_lacks_coll, lacks_coll, list_lacks_coll, unique_before, wrong_primaries}
use Rattle.create_reader.specs.Index.{AreMarked, IsIndexFrom, has_small, name_cmp}
use Rattle.create_reader.specs.Meaning.{place, places}
use Rattle.create_reader.specs.Numbers.{column_named, numbered_of}
use Rattle.create_reader.specs.Views.{constraint_seen, names_seen}
use Rattle.create_reader.proofs.Alike.{lists_bad}
use Rattle.create_reader.proofs.Valid.{holds_right, place_first, place_later, placed, places_apart, same_equiv}
use Rattle.table_shape.specs.Names.{same_name}

-- ---- the index

-- a name that was put in before is a name that comes again
comes_again : (name : List ℕ) (n : ℕ) (columns : List ColumnText)
    → is_some (position_from (has_small (str_to_ascii_lowercase name)) n columns) ≡ list_any (same_name name) (map (λ c. c.name) columns)
comes_again name n [] = refl
comes_again name n (c ∷ columns) =
    by_head (same_name c.name name) (same_name name c.name) (same_equiv.symm c.name name)
    (position_from (has_small (str_to_ascii_lowercase name)) (n + 1) columns) _ (comes_again name (n + 1) columns)
  where
    by_head : (a b : Bool) → a ≡ b → (rest : Option ℕ) (later : Bool) → is_some rest ≡ later → is_some (cond a (Some n) rest) ≡ (b || later)
    by_head true true e rest later h = refl
    by_head true false e rest later h = absurd (cc)
    by_head false true e rest later h = absurd (cc)
    by_head false false e rest later h = h

-- one column more in front
pub one_before : (number : ℕ) (column : ColumnText) (columns : List ColumnText) (old new : Index) (key : Vec ℕ Global) (later : Option ℕ)
    → key.items ≡ str_to_ascii_lowercase column.name → later ≡ get name_cmp old.places key
    → ((q : Vec ℕ Global) → get name_cmp new.places q ≡ cond (is_at (name_cmp key) q) (Some number) (get name_cmp old.places q))
    → new.repeats ≡ (is_some later || old.repeats) → IsIndexFrom (number + 1) columns old → IsIndexFrom number (column ∷ columns) new
one_before number column columns old new key later small was updates repeats h =
    let met : is_some later ≡ list_any (same_name column.name) (map (λ c. c.name) columns) =
    ap is_some (was ∙ h.places key) ∙ ap (λ bs. is_some (position_from (has_small bs) (number + 1) columns)) small
    ∙ comes_again column.name (number + 1) columns in
    record {
      places = λ q. updates q
          ∙ (λ i. cond ((is_eq-slice_cmp key.items q.items ∙ ap (λ bs. bytes_eq bs q.items) small) i) (Some number) (h.places q i));
      repeats = repeats ∙ (λ i. met i || h.repeats i);
    }

-- what the index has of a name is its place
pub place_is : (columns : List ColumnText) (name : List ℕ) (found : Option ℕ)
    → found ≡ position_from (has_small (str_to_ascii_lowercase name)) 0 columns → unwrap_or found (length columns) ≡ place columns name
place_is columns name found e =
    let most = prefix_len-le-length (λ c. not (same_name c.name name)) columns in
    ap (λ o. unwrap_or o (length columns)) (e ∙ sym (position_from-zero (λ c. same_name c.name name) columns))
    ∙ by_place (nat_lt (place columns name) (length columns)) refl most
  where
    by_place : (b : Bool) → nat_lt (place columns name) (length columns) ≡ b → place columns name ≤ length columns
        → unwrap_or (cond b (Some (place columns name)) None) (length columns) ≡ place columns name
    by_place true e most = refl
    by_place false e most = (let apart = ltb-false (place columns name) (length columns) e in omega (arith, apart, most))

-- ---- the places of a list

-- what of a list is bad, where these places were met before
abbrev pub clash : List ColumnText → List ℕ → List (List ℕ) → Bool
clash columns before names = list_any (λ name. is_none (column_named columns name)) names
    || (list_any (λ name. list_any (nat_eq (place columns name)) before) names || has_repeat names)

never_met : (columns : List ColumnText) (names : List (List ℕ))
    → list_any (λ name. list_any (nat_eq (place columns name)) []) names ≡ false
never_met columns [] = refl
never_met columns (name ∷ names) = never_met columns names

pub clash_all : (columns : List ColumnText) (names : List (List ℕ))
    → clash columns [] names ≡ (list_any (λ name. is_none (column_named columns name)) names || has_repeat names)
clash_all columns names = λ i. list_any (λ name. is_none (column_named columns name)) names || (never_met columns names i || has_repeat names)

there : (columns : List ColumnText) (k : ℕ) → k < length columns → is_none (slice_get columns k) ≡ false
there [] k h = absurd (omega (arith, h))
there (c ∷ columns) zero h = refl
there (c ∷ columns) (suc k) h = there columns k (omega (arith, h))

named_at : (columns : List ColumnText) (name : List ℕ) → place columns name < length columns → is_none (column_named columns name) ≡ false
named_at columns name h = ap is_none (find_at (λ c. same_name c.name name) columns) ∙ there columns (place columns name) h

-- the next name is no column
pub clash_none : (columns : List ColumnText) (before : List ℕ) (name : List ℕ) (names : List (List ℕ))
    → length columns ≤ place columns name → clash columns before (name ∷ names) ≡ true
clash_none columns before name names h = by_test (is_none (column_named columns name)) refl
  where
    by_test : (b : Bool) → is_none (column_named columns name) ≡ b → clash columns before (name ∷ names) ≡ true
    by_test true e = rw e refl
    by_test false e = (let less = (placed columns name e).within in absurd (omega (arith, less, h)))

either_true : (a b c : Bool) → b ≡ true → (a || (b || c)) ≡ true
either_true true b c e = refl
either_true false b c e = ap (λ z. z || c) e

-- the next name was met before
pub clash_met : (columns : List ColumnText) (before : List ℕ) (name : List ℕ) (names : List (List ℕ))
    → list_any (nat_eq (place columns name)) before ≡ true → clash columns before (name ∷ names) ≡ true
clash_met columns before name names h =
    either_true (list_any (λ n. is_none (column_named columns n)) (name ∷ names)) _ (has_repeat (name ∷ names))
    (ap (λ z. z || list_any (λ n. list_any (nat_eq (place columns n)) before) names) h)

same_place : (columns : List ColumnText) (a b : List ℕ) → same_name a b ≡ true → place columns a ≡ place columns b
same_place [] a b h = refl
same_place (c ∷ columns) a b h =
    by_first (same_name c.name a) refl
    (sym (same_equiv.symm c.name a ∙ (same_equiv.congr a b c.name h ∙ same_equiv.symm b c.name))) (same_place columns a b h)
  where
    by_first : (t : Bool) → same_name c.name a ≡ t → same_name c.name b ≡ same_name c.name a → place columns a ≡ place columns b
        → place (c ∷ columns) a ≡ place (c ∷ columns) b
    by_first true e f later = place_first c columns a e ∙ sym (place_first c columns b (f ∙ e))
    by_first false e f later = place_later c columns a e ∙ ap (λ n. 1 + n) later ∙ sym (place_later c columns b (f ∙ e))

-- of two names the first of which is a column: the same place, the same name
place_tells : (columns : List ColumnText) (name other : List ℕ) → is_none (column_named columns name) ≡ false
    → nat_eq (place columns other) (place columns name) ≡ same_name name other
place_tells columns name other h = by_name (same_name name other) refl
  where
    by_name : (b : Bool) → same_name name other ≡ b → nat_eq (place columns other) (place columns name) ≡ same_name name other
    by_name true e = eq-eqb (place columns other) (place columns name) (sym (same_place columns name other e)) ∙ sym e
    by_name false e = nat_eq_equiv.symm (place columns other) (place columns name) ∙ places_apart columns name other e h ∙ sym e

four : (a b c d : Bool) → ((a || (b || false)) || (c || d)) ≡ ((a || c) || (b || d))
four true b c d = refl
four false true c d = sym (holds_right c)
four false false c d = refl

met_grows : (columns : List ColumnText) (before : List ℕ) (name : List ℕ) → is_none (column_named columns name) ≡ false → (names : List (List ℕ))
    → list_any (λ n. list_any (nat_eq (place columns n)) (before ++ place columns name ∷ [])) names
    ≡ (list_any (λ n. list_any (nat_eq (place columns n)) before) names || list_any (same_name name) names)
met_grows columns before name h [] = refl
met_grows columns before name h (n ∷ names) =
    (λ i. list_any-append (nat_eq (place columns n)) before (place columns name ∷ []) i || met_grows columns before name h names i)
    ∙ (λ i. (list_any (nat_eq (place columns n)) before || (place_tells columns name n h i || false))
    || (list_any (λ m. list_any (nat_eq (place columns m)) before) names || list_any (same_name name) names))
    ∙ four (list_any (nat_eq (place columns n)) before) (same_name name n)
    (list_any (λ m. list_any (nat_eq (place columns m)) before) names) (list_any (same_name name) names)

joined : (a b c d e f : Bool) → a ≡ false → c ≡ false → ((a || b) || ((c || d) || (e || f))) ≡ (b || ((d || e) || f))
joined a b c true e f p q = λ i. (p i || b) || ((q i || true) || (e || f))
joined a b c false e f p q = λ i. (p i || b) || ((q i || false) || (e || f))

-- the next name is a column that was not met
pub clash_on : (columns : List ColumnText) (before : List ℕ) (name : List ℕ) (names : List (List ℕ))
    → place columns name < length columns → list_any (nat_eq (place columns name)) before ≡ false
    → clash columns before (name ∷ names) ≡ clash columns (before ++ place columns name ∷ []) names
clash_on columns before name names h g =
    let is = named_at columns name h in
    joined (is_none (column_named columns name)) (list_any (λ n. is_none (column_named columns n)) names)
    (list_any (nat_eq (place columns name)) before) (list_any (λ n. list_any (nat_eq (place columns n)) before) names)
    (list_any (same_name name) names) (has_repeat names) is g
    ∙ (λ i. list_any (λ n. is_none (column_named columns n)) names || (sym (met_grows columns before name is names) i || has_repeat names))

-- ---- marks

right_false : (b : Bool) → (b || false) ≡ b
right_false true = refl
right_false false = refl

-- a mark more
marked_more : (found : List ℕ) (marks : List Bool) (at : ℕ) → at < length marks → AreMarked found marks
    → AreMarked (found ++ at ∷ []) (set marks at true)
marked_more found marks at lt h k less =
    by_number (nat_eq k at) refl ∙ sym (list_any-append (nat_eq k) found (at ∷ []))
  where
    by_number : (b : Bool) → nat_eq k at ≡ b → get_or (set marks at true) k false ≡ (list_any (nat_eq k) found || (nat_eq k at || false))
    by_number true e =
        ap (λ (n : ℕ). get_or (set marks at true) n false) (eqb-true k at e) ∙ get_or-set_same marks at true false lt
        ∙ sym (ap (λ z. list_any (nat_eq k) found || (z || false)) e ∙ holds_right (list_any (nat_eq k) found))
    by_number false e =
        let other : k ≢ at = λ same. true≢false (sym (eq-eqb k at same) ∙ e) in
        let was = h k (subst (λ (n : ℕ). k < n) (length-set marks at true) less) in
        get_or-set_other marks at k true false other ∙ was
        ∙ sym (ap (λ z. list_any (nat_eq k) found || (z || false)) e ∙ right_false (list_any (nat_eq k) found))

-- the mark at a number, which some other default reads too
pub mark_at : (marks : List Bool) (k : ℕ) (mark b : Bool) → k < length marks → mark ≡ get_or marks k mark → mark ≡ b → get_or marks k false ≡ b
mark_at [] k mark b lt at is = absurd (omega (arith, lt))
mark_at (m ∷ marks) zero mark b lt at is = sym at ∙ is
mark_at (m ∷ marks) (suc k) mark b lt at is = mark_at marks k mark b (omega (arith, lt)) at is

-- the next name is no column, or was met before
pub bad_here : (columns : List ColumnText) (found : List ℕ) (met : List Bool) (names : List (List ℕ)) (name : List ℕ) (rest left : List (List ℕ)) (number : ℕ)
    → left ≡ name ∷ rest → number ≡ place columns name → length met ≡ length columns → AreMarked found met
    → clash columns found left ≡ clash columns [] names → (length met ≤ number) ⊎ ((number < length met) × (get_or met number false ≡ true))
    → true ≡ (list_any (λ name. is_none (column_named columns name)) names || has_repeat names)
bad_here columns found met names name rest left number l at size marks h bad =
    sym (sym (clash_all columns names) ∙ sym h ∙ ap (clash columns found) l ∙ elim bad [
      | inl over ↦ clash_none columns found name rest (omega (arith, at, size, over))
      | inr was ↦ clash_met columns found name rest
          (ap (λ (n : ℕ). list_any (nat_eq n) found) (sym at) ∙ sym (marks number was.0) ∙ was.1)
    ])

-- the next name is a column that was not met
pub next_place : (columns : List ColumnText) (found grown : List ℕ) (met : List Bool) (names : List (List ℕ)) (name : List ℕ) (rest left : List (List ℕ)) (number : ℕ)
    → left ≡ name ∷ rest → number ≡ place columns name → length met ≡ length columns → AreMarked found met
    → clash columns found left ≡ clash columns [] names → found ++ places columns left ≡ places columns names
    → number < length met → get_or met number false ≡ false → grown ≡ found ++ number ∷ []
    → (length (set met number true) ≡ length columns) × AreMarked grown (set met number true) × (clash columns grown rest ≡ clash columns [] names)
    × (grown ++ places columns rest ≡ places columns names)
next_place columns found grown met names name rest left number l at size marks h p lt new g =
    let with_place : grown ≡ found ++ place columns name ∷ [] = g ∙ ap (λ (n : ℕ). found ++ n ∷ []) at in
    let fresh : list_any (nat_eq (place columns name)) found ≡ false = ap (λ (n : ℕ). list_any (nat_eq n) found) (sym at) ∙ sym (marks number lt) ∙ new in (
      length-set met number true ∙ size,
      subst (λ z. AreMarked z (set met number true)) (sym g) (marked_more found met number lt marks),
      ap (λ z. clash columns z rest) with_place
          ∙ sym (clash_on columns found name rest (omega (arith, at, size, lt)) fresh) ∙ ap (clash columns found) (sym l) ∙ h,
      ap (λ z. z ++ places columns rest) with_place
          ∙ append_assoc found (place columns name ∷ []) (places columns rest) ∙ ap (λ z. found ++ places columns z) (sym l) ∙ p,
    )

-- a column by its place
pub column_at : (columns : List ColumnText) (name : List ℕ) → column_named columns name ≡ slice_get columns (place columns name)
column_at columns name = find_at (λ c. same_name c.name name) columns

-- ---- the lists of keys

colls_of : (columns : List ColumnText) (names : List (List ℕ))
    → list_any (λ k. lacks_coll (slice_get columns k)) (places columns names) ≡ list_any (λ name. lacks_coll (column_named columns name)) names
colls_of columns [] = refl
colls_of columns (name ∷ names) = λ i. lacks_coll (sym (column_at columns name) i) || colls_of columns names i

pub colls_all : (columns : List ColumnText) (cs : List Constraint)
    → list_any (list_any (λ k. lacks_coll (slice_get columns k))) (map (λ c. places columns c.names) cs) ≡ list_any (list_lacks_coll columns) cs
colls_all columns [] = refl
colls_all columns (c ∷ cs) = λ i. colls_of columns c.names i || colls_all columns cs i

-- a list of places stands for its key
pub list_at : (columns : List ColumnText) (lists : List (Vec ℕ Global)) (taken : List (Bor ConstraintText))
    → map (λ v. v.items) lists ≡ map (λ c. places columns c.names) (map (λ k. constraint_seen columns k.now) taken)
    → (i : ℕ) (list : Vec ℕ Global) (c : Bor ConstraintText) → i < length taken → list ≡ get_or lists i list → c ≡ get_or taken i c
    → list.items ≡ places columns (names_seen columns c.now.names)
list_at columns lists [] e i list c lt at is = absurd (omega (arith, lt))
list_at columns [] (d ∷ taken) e i list c lt at is = (let wrong : ⊥ = cc in absurd wrong)
list_at columns (v ∷ lists) (d ∷ taken) e zero list c lt at is =
    (let same : v.items ≡ places columns (names_seen columns d.now.names) = cc in
    ap (λ (z : Vec ℕ Global). z.items) at ∙ same ∙ ap (λ (z : Bor ConstraintText). places columns (names_seen columns z.now.names)) (sym is))
list_at columns (v ∷ lists) (d ∷ taken) e (suc i) list c lt at is =
    (let rest : map (λ v. v.items) lists ≡ map (λ c. places columns c.names) (map (λ k. constraint_seen columns k.now) taken) = cc in
    list_at columns lists taken rest i list c (omega (arith, lt)) at is)

-- a list that took a number and is bad is a fault
pub bad_fault : (t : Table) → list_any (bad_list t.columns) (numbered_of t) ≡ true → key_fault t ≡ true
bad_fault t h =
    let bad : has_bad_list t ≡ true = sym (lists_bad t true _ (sym h) refl) in
    holds_at (wrong_primaries t) (holds_at (auto_alone t) (holds_at (column_repeats t)
    (ap (λ z. z || (has_marks t || (key_lacks_coll t || (integer_beside_keys t || unique_before t)))) bad)))
  where
    holds_at : (a : Bool) {b : Bool} → b ≡ true → (a || b) ≡ true
    holds_at a e = ap (λ z. a || z) e ∙ holds_right a
