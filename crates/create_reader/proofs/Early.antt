-- Faults that the words tell before a text is taken apart.
use Rattle.std.proofs.Common.{◌≡◌, refl, sym, ap, ◌∙◌, arith, ℕ, suc, ◌<◌, cond, Bool, true, false, if◌then◌else◌, Some, List, [], ◌∷◌, length, filter, count_by}
use Rattle.std.proofs.lemmas.Bool.{lt-ltb}
use Rattle.std.proofs.lemmas.List.Sums.{length-filter}
use Rattle.std.specs.List.{list_any}
use Rattle.create_grammar.specs.declared.reading.Said.{Said}
use Rattle.create_grammar.specs.declared.roles.Role.TheVariants as role
use Rattle.create_grammar.specs.Said.{is}
use Rattle.create_reader.specs.declared.faults.CreateFault.TheVariants.{Generated, Limit}
use Rattle.create_reader.specs.Columns.{column_of, columns_of, own_words}
use Rattle.create_reader.specs.Constraints.{table_of}
use Rattle.create_reader.specs.Faults.{first_fault}

-- ---- the number of columns

count_columns : (sql : List ℕ) (said : List Said) → length (columns_of sql said) ≡ length (filter (is role.ColumnName) said)
count_columns sql [] = refl
count_columns sql (w ∷ said) = by_role (is role.ColumnName w) (count_columns sql said)
  where
    by_role : (b : Bool) → length (columns_of sql said) ≡ length (filter (is role.ColumnName) said)
        → length (if b then column_of sql w.word (own_words said) ∷ columns_of sql said else columns_of sql said)
        ≡ length (cond b (w ∷ filter (is role.ColumnName) said) (filter (is role.ColumnName) said))
    by_role true h = ap suc h
    by_role false h = h

pub generated_first : (sql : List ℕ) (said : List Said) (b : Bool) → b ≡ list_any (is role.Generated) said → b ≡ true
    → first_fault (table_of sql said) ≡ Some Generated
generated_first sql said b e f = rw (sym e ∙ f) refl

pub limit_first : (sql : List ℕ) (said : List Said) (b : Bool) (count : ℕ) → b ≡ list_any (is role.Generated) said → b ≡ false
    → count ≡ count_by (is role.ColumnName) said → 1996 < count → first_fault (table_of sql said) ≡ Some Limit
limit_first sql said b count e f n h =
    let columns = count_columns sql said ∙ length-filter (is role.ColumnName) said in
    rw (sym e ∙ f, lt-ltb 1996 (length (columns_of sql said)) (omega (arith, columns, n, h))) refl
