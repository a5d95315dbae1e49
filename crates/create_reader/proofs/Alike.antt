-- Lists of the same names are bad or good alike, so the lists that took a number stand for those that took none.
use Rattle.std.proofs.Common.{◌≡◌, refl, sym, ap, ◌∙◌, ℕ, suc, ◌==◌, Bool, true, false, not, ◌&&◌, ◌||◌, if◌then◌else◌, Some, is_none, List, [], ◌∷◌, ◌++◌, length}
use Rattle.std.proofs.lemmas.Bool.{true≢false}
use Rattle.std.proofs.lemmas.List.Folds.{list_any-append}
use Rattle.std.proofs.lemmas.Map.Steps.{list_any_congr}
use Rattle.std.specs.List.{list_any}
use Rattle.create_reader.specs.declared.texts.ColumnText.{ColumnText}
use Rattle.create_reader.specs.Constraints.{Constraint, Table}
use Rattle.create_reader.specs.Faults.{bad_list, has_bad_list, has_repeat}
use Rattle.create_reader.specs.Numbers.{column_named, is_among, makes_alias, numbered, numbered_of, same_names}
use Rattle.create_reader.proofs.Valid.{neither, none_numbered, same_equiv}
use Rattle.table_shape.specs.Names.{same_name}

both_of : (a b : Bool) → (a && b) ≡ true → (a ≡ true) × (b ≡ true)
both_of true b h = (refl, h)
both_of false b h = absurd (true≢false (sym h))

-- ---- lists of the same names

same_column : (columns : List ColumnText) (a b : List ℕ) → same_name a b ≡ true → column_named columns a ≡ column_named columns b
same_column [] a b h = refl
same_column (c ∷ columns) a b h =
    let test : same_name c.name a ≡ same_name c.name b = same_equiv.symm c.name a ∙ (same_equiv.congr a b c.name h ∙ same_equiv.symm b c.name) in
    λ i. if test i then Some c else same_column columns a b h i

none_alike : (columns : List ColumnText) (xs ys : List (List ℕ)) → same_names xs ys ≡ true
    → list_any (λ name. is_none (column_named columns name)) xs ≡ list_any (λ name. is_none (column_named columns name)) ys
none_alike columns [] [] h = refl
none_alike columns [] (y ∷ ys) h = absurd (true≢false (sym h))
none_alike columns (x ∷ xs) [] h = absurd (true≢false (sym h))
none_alike columns (x ∷ xs) (y ∷ ys) h =
    let parts = both_of (same_name x y) (same_names xs ys) h in
    λ i. is_none (same_column columns x y parts.0 i) || none_alike columns xs ys parts.1 i

any_alike : (q : List ℕ) (xs ys : List (List ℕ)) → same_names xs ys ≡ true → list_any (same_name q) xs ≡ list_any (same_name q) ys
any_alike q [] [] h = refl
any_alike q [] (y ∷ ys) h = absurd (true≢false (sym h))
any_alike q (x ∷ xs) [] h = absurd (true≢false (sym h))
any_alike q (x ∷ xs) (y ∷ ys) h =
    let parts = both_of (same_name x y) (same_names xs ys) h in
    let test : same_name q x ≡ same_name q y = same_equiv.symm q x ∙ (same_equiv.congr x y q parts.0 ∙ same_equiv.symm y q) in
    λ i. test i || any_alike q xs ys parts.1 i

repeat_alike : (xs ys : List (List ℕ)) → same_names xs ys ≡ true → has_repeat xs ≡ has_repeat ys
repeat_alike [] [] h = refl
repeat_alike [] (y ∷ ys) h = absurd (true≢false (sym h))
repeat_alike (x ∷ xs) [] h = absurd (true≢false (sym h))
repeat_alike (x ∷ xs) (y ∷ ys) h =
    let parts = both_of (same_name x y) (same_names xs ys) h in
    let head = list_any_congr same_equiv x y xs parts.0 ∙ any_alike y xs ys parts.1 in
    λ i. head i || repeat_alike xs ys parts.1 i

length_alike : (xs ys : List (List ℕ)) → same_names xs ys ≡ true → length xs ≡ length ys
length_alike [] [] h = refl
length_alike [] (y ∷ ys) h = absurd (true≢false (sym h))
length_alike (x ∷ xs) [] h = absurd (true≢false (sym h))
length_alike (x ∷ xs) (y ∷ ys) h = ap suc (length_alike xs ys (both_of (same_name x y) (same_names xs ys) h).1)

bad_alike : (columns : List ColumnText) (c d : Constraint) → same_names c.names d.names ≡ true → bad_list columns c ≡ bad_list columns d
bad_alike columns c d h = λ i. (length_alike c.names d.names h i == 0)
    || (none_alike columns c.names d.names h i || repeat_alike c.names d.names h i)

-- ---- all lists

-- one that is among those that took a number is as good as they are
among_good : (columns : List ColumnText) (taken : List Constraint) (c : Constraint) → is_among taken c ≡ true
    → list_any (bad_list columns) taken ≡ false → bad_list columns c ≡ false
among_good columns [] c h g = absurd (true≢false (sym h))
among_good columns (e ∷ taken) c h g =
    let parts = neither (bad_list columns e) (list_any (bad_list columns) taken) g in
    by_names (same_names e.names c.names) refl h parts.0 (λ k. among_good columns taken c k parts.1)
  where
    by_names : (b : Bool) → same_names e.names c.names ≡ b → (b || is_among taken c) ≡ true → bad_list columns e ≡ false
        → (is_among taken c ≡ true → bad_list columns c ≡ false) → bad_list columns c ≡ false
    by_names true f k good later = sym (bad_alike columns e c f) ∙ good
    by_names false f k good later = later k

all_good : (t : Table) (taken cs : List Constraint) → list_any (bad_list t.columns) taken ≡ false
    → list_any (bad_list t.columns) (numbered t taken cs) ≡ false
    → list_any (λ c. makes_alias t c && bad_list t.columns c) cs ≡ false → list_any (bad_list t.columns) cs ≡ false
all_good t taken [] k n a = refl
all_good t taken (c ∷ cs) k n a =
    let alias = neither (makes_alias t c && bad_list t.columns c) (list_any (λ d. makes_alias t d && bad_list t.columns d) cs) a in
    by_tests (c.primary && t.without_rowid) (makes_alias t c) (is_among taken c) refl refl n alias.0
    (λ g m. all_good t (taken ++ c ∷ []) cs (list_any-append (bad_list t.columns) taken (c ∷ []) ∙ (λ i. k i || (g i || false))) m alias.1)
    (λ m. all_good t taken cs k m alias.1)
  where
    Numbered : Bool → Type 0
    Numbered b = list_any (bad_list t.columns) (if b then c ∷ numbered t (taken ++ c ∷ []) cs else numbered t taken cs) ≡ false

    Grown : Type 0
    Grown = bad_list t.columns c ≡ false → list_any (bad_list t.columns) (numbered t (taken ++ c ∷ []) cs) ≡ false
        → list_any (bad_list t.columns) cs ≡ false

    joined : bad_list t.columns c ≡ false → list_any (bad_list t.columns) cs ≡ false → list_any (bad_list t.columns) (c ∷ cs) ≡ false
    joined g h = λ i. g i || h i

    took : list_any (bad_list t.columns) (c ∷ numbered t (taken ++ c ∷ []) cs) ≡ false → Grown → list_any (bad_list t.columns) (c ∷ cs) ≡ false
    took m go =
        let parts = neither (bad_list t.columns c) (list_any (bad_list t.columns) (numbered t (taken ++ c ∷ []) cs)) m in
        joined parts.0 (go parts.0 parts.1)

    by_tests : (p l m : Bool) → makes_alias t c ≡ l → is_among taken c ≡ m → Numbered (p || (not l && not m)) → (l && bad_list t.columns c) ≡ false
        → Grown → (list_any (bad_list t.columns) (numbered t taken cs) ≡ false → list_any (bad_list t.columns) cs ≡ false)
        → list_any (bad_list t.columns) (c ∷ cs) ≡ false
    by_tests true l m e f h b grown same = took h grown
    by_tests false true m e f h b grown same = joined b (same h)
    by_tests false false true e f h b grown same = joined (among_good t.columns taken c f k) (same h)
    by_tests false false false e f h b grown same = took h grown

no_alias_bad : (t : Table) (cs : List Constraint) → list_any (bad_list t.columns) cs ≡ false
    → list_any (λ c. makes_alias t c && bad_list t.columns c) cs ≡ false
no_alias_bad t [] h = refl
no_alias_bad t (c ∷ cs) h =
    let parts = neither (bad_list t.columns c) (list_any (bad_list t.columns) cs) h in
    λ i. by_alias (makes_alias t c) parts.0 i || no_alias_bad t cs parts.1 i
  where
    by_alias : (b : Bool) → bad_list t.columns c ≡ false → (b && bad_list t.columns c) ≡ false
    by_alias true e = e
    by_alias false e = refl

-- a list is bad where one that took a number is, or one that makes its column the rowid
pub lists_bad : (t : Table) (a b : Bool) → a ≡ list_any (bad_list t.columns) (numbered_of t)
    → b ≡ list_any (λ c. makes_alias t c && bad_list t.columns c) t.constraints → (a || b) ≡ has_bad_list t
lists_bad t a b e f = by_tests a b (has_bad_list t) refl refl refl
  where
    by_tests : (x y z : Bool) → a ≡ x → b ≡ y → has_bad_list t ≡ z → (a || b) ≡ has_bad_list t
    by_tests true y false h k m = absurd (true≢false (sym h ∙ (e ∙ none_numbered (bad_list t.columns) t [] t.constraints m)))
    by_tests false true false h k m = absurd (true≢false (sym k ∙ (f ∙ no_alias_bad t t.constraints m)))
    by_tests false false false h k m = (λ i. h i || k i) ∙ sym m
    by_tests true y true h k m = ap (λ v. v || b) h ∙ sym m
    by_tests false true true h k m = (λ i. h i || k i) ∙ sym m
    by_tests false false true h k m =
        absurd (true≢false (sym m ∙ all_good t [] t.constraints refl (sym e ∙ h) (sym f ∙ k)))
