-- The numbers of a table's keys are no larger than its text is long.
use Rattle.std.proofs.Common.{◌≡◌, ◌<◌, ◌≤◌, ℕ, ◌+◌, ◌-◌, ◌^◌, Bool, true, false, ◌&&◌, List, [], ◌∷◌, ◌++◌, length, sym, ap, subst, arith}
use Rattle.std.specs.Prelude.{if◌then◌else◌}
use Rattle.std.specs.List.{AllByRecursion}
use Rattle.std.proofs.lemmas.List.{length-map}
use Rattle.std.proofs.lemmas.List.Sums.{get_or-le-sum_by}
use Rattle.create_grammar.specs.declared.reading.Said.{Said}
use Rattle.create_grammar.specs.declared.roles.Role.TheVariants as role
use Rattle.create_grammar.specs.declared.spans.Word.{Word}
use Rattle.create_grammar.specs.Said.{is}
use Rattle.create_grammar.specs.Words.{words_of}
use Rattle.create_grammar.proofs.Told.{words_few}
use Rattle.create_reader.specs.Constraints.{Constraint, Table, begins_constraint, constraint_of, constraints_from, no_word, own_part}
use Rattle.create_reader.specs.Meaning.{keys_from, places}
use Rattle.create_reader.specs.Numbers.{numbered, numbered_of, takes}
use Rattle.record_core.specs.declared.values.Value.TheVariants.{Null}
use Rattle.record_core.specs.Record.{value_len}
use Rattle.table_shape.specs.declared.rows.OutTable.{OutTable}
use Rattle.table_shape.specs.Keys.{KeyParts, parts_of}
use Rattle.table_shape.specs.Seen.{shape_seen}
use Rattle.table_shape.specs.Shape.{KeyColumns, Shape}
use Rattle.db_builder.specs.Layout.{row_values}
use Rattle.db_builder.specs.Plannable.{IsLabel}
use Rattle.db_builder.specs.Trees.{keys_in, table_label}
use Rattle.db_builder.specs.Valid.{IsTable}
use Rattle.layout_laws.proofs.Typing.{all_seen}

-- ---- constraints

-- a text has no more constraints than words
constraints_few : (sql : List ℕ) (n : ℕ) (column : Word) (said : List Said) → length (constraints_from sql n column said) ≤ length said
constraints_few sql n column [] = omega arith
constraints_few sql n column (w ∷ ws) =
    by (is role.ColumnName w) (begins_constraint w) (constraints_few sql (n + 1) w.word ws) (constraints_few sql n column ws)
  where
    by : (a b : Bool) → length (constraints_from sql (n + 1) w.word ws) ≤ length ws → length (constraints_from sql n column ws) ≤ length ws
        → length (if a then constraints_from sql (n + 1) w.word ws
        else (if b then constraint_of sql (record { number = n - 1; column = column; first = w }) (own_part ws) ∷ constraints_from sql n column ws
        else constraints_from sql n column ws)) ≤ length (w ∷ ws)
    by true b next same = omega arith
    by false true next same = omega arith
    by false false next same = omega arith

-- no more of them take a number
numbered_few : (t : Table) (taken cs : List Constraint) → length (numbered t taken cs) ≤ length cs
numbered_few t taken [] = omega arith
numbered_few t taken (c ∷ cs) = by (takes t taken c) (numbered_few t (taken ++ c ∷ []) cs) (numbered_few t taken cs)
  where
    by : (b : Bool) → length (numbered t (taken ++ c ∷ []) cs) ≤ length cs → length (numbered t taken cs) ≤ length cs
        → length (if b then c ∷ numbered t (taken ++ c ∷ []) cs else numbered t taken cs) ≤ length (c ∷ cs)
    by true more same = omega arith
    by false more same = omega arith

keys_below : (t : Table) (n most : ℕ) (cs : List Constraint) → n + length cs ≤ most → AllByRecursion (λ (key : KeyColumns). key.number < most) (keys_from t n cs)
keys_below t n most [] le = tt
keys_below t n most (c ∷ cs) le = by (c.primary && t.without_rowid) (keys_below t (n + 1) most cs (omega (arith, le)))
  where
    by : (b : Bool) → AllByRecursion (λ (key : KeyColumns). key.number < most) (keys_from t (n + 1) cs)
        → AllByRecursion (λ (key : KeyColumns). key.number < most)
        (if b then keys_from t (n + 1) cs else record { columns = places t.columns c.names; number = n } ∷ keys_from t (n + 1) cs)
    by true more = more
    by false more = (omega arith, more)

-- ---- the keys of a table

text_small : (t : OutTable) → IsLabel (table_label t) → length t.text < 2 ^ 40
text_small t label = omega (arith, (label 0).small, get_or-le-sum_by value_len (row_values (table_label t) 0) 4 Null (omega arith))

pub keys_small : (t : OutTable) → IsTable t → IsLabel (table_label t) → AllByRecursion (λ (key : KeyParts). key.number < 2 ^ 63) (keys_in t).keys
keys_small t is label =
    let s = shape_seen t.shape in
    let text = is.text in
    let table = text.t in
    let said = text.read.said in
    let words : length said ≡ length (words_of t.text) = (let e = ap length text.read.is_said.words_are in omega (arith, e, length-map said (λ (w : Said). w.word))) in
    let constraints : length table.constraints ≤ length said =
    subst (λ (x : Table). length x.constraints ≤ length said) (sym text.read.says) (constraints_few t.text 0 no_word said) in
    let below = keys_below table 1 (2 ^ 63) (numbered_of table)
    (omega (arith, numbered_few table [] table.constraints, constraints, words, words_few t.text, text_small t label)) in
    all_seen (λ (key : KeyParts). key.number < 2 ^ 63) (parts_of s) s.keys
    (subst (λ (x : Shape). AllByRecursion (λ (key : KeyColumns). key.number < 2 ^ 63) x.keys) (sym text.means) below)
