-- What a text of pieces says, where none of them is of a constraint, a collation or a type with REAL affinity.
use Rattle.std.proofs.Common.{◌≡◌, refl, sym, ap, ◌∙◌, ℕ, zero, suc, ◌+◌, Bool, true, false, not, ◌&&◌, nat_eq, if◌then◌else◌, Option, None, List, [], ◌∷◌, length, map, take}
use Rattle.std.specs.List.{AllByRecursion, list_all, list_any}
use Rattle.std.proofs.lemmas.Bool.{and_parts, not-true, or_from}
use Rattle.create_grammar.specs.declared.reading.Said.{Said}
use Rattle.create_grammar.specs.declared.roles.Role.{Role}
use Rattle.create_grammar.specs.declared.roles.Role.TheVariants as role
use Rattle.create_grammar.specs.declared.spans.Word.{Word}
use Rattle.create_grammar.specs.Roles.{role_code}
use Rattle.create_grammar.specs.Said.{is}
use Rattle.create_grammar.specs.Sorts.{code, sort_by, sort_of, sorts_of, word_bytes}
use Rattle.create_reader.specs.declared.texts.ColumnText.{ColumnText}
use Rattle.create_reader.specs.Columns.{coll_by, column_of, columns_of, is_real, is_real_word, last_collate, own_words, type_has}
use Rattle.create_reader.specs.Constraints.{Constraint, begins_constraint, constraints_from, no_word, table_name}
use Rattle.create_reader.specs.Meaning.{column_from}
use Rattle.create_reader.specs.Names.{closing, inner, is_bare, name_of, unquoted}
use Rattle.word_grammar.specs.Form.{Labelled, roles, sorts}
use Rattle.lost_found.specs.Texts.{plain_column}
use Rattle.lost_found.proofs.Pieces.{AreCut, Piece, Stand, said_of, space, text_of, they_stand, word_in, words_are}

-- ---- sorts and roles

abbrev pub labelled : List Piece → Labelled
labelled ps = map (λ (p : Piece). (role_code p.role, code p.sort)) ps

sorts_from : (sql : List ℕ) (at : ℕ) (ps : List Piece) → Stand sql at ps → AreCut ps
    → map (λ w. code (sort_of sql w)) (map (λ (s : Said). s.word) (said_of at ps)) ≡ sorts (labelled ps)
sorts_from sql at [] stand cut = refl
sorts_from sql at (p ∷ ps) stand cut =
    let one : code (sort_of sql (word_in (at + length (space p.blank)) p)) ≡ code p.sort =
    ap (λ b. code (sort_by p.kind b)) stand.0 ∙ ap code cut.0.is_sort in
    let rest = sorts_from sql (at + length (space p.blank) + length p.bytes) ps stand.1 cut.1 in
    λ i. one i ∷ rest i

pub sorts_are : (ps : List Piece) → AreCut ps → sorts_of (text_of ps) ≡ sorts (labelled ps)
sorts_are ps cut =
    ap (map (λ w. code (sort_of (text_of ps) w))) (sym (words_are ps cut)) ∙ sorts_from (text_of ps) 0 ps (they_stand ps) cut

pub roles_are : (at : ℕ) (ps : List Piece) → map (λ (s : Said). role_code s.role) (said_of at ps) ≡ roles (labelled ps)
roles_are at [] = refl
roles_are at (p ∷ ps) = ap (λ (z : List ℕ). role_code p.role ∷ z) (roles_are (at + length (space p.blank) + length p.bytes) ps)

-- ---- names

abbrev pub has_role : Role → Piece → Bool
has_role r p = nat_eq (role_code p.role) (role_code r)

-- the name that a piece is
abbrev pub name_in : Piece → List ℕ
name_in p = if is_bare p.kind then p.bytes else unquoted (closing p.bytes) false (inner p.bytes)

name_stands : (sql : List ℕ) (at : ℕ) (p : Piece) → word_bytes sql (word_in at p) ≡ p.bytes → name_of sql (word_in at p) ≡ name_in p
name_stands sql at p e = ap (λ (b : List ℕ). if is_bare p.kind then b else unquoted (closing b) false (inner b)) e

-- the name of the table, and those of the columns
abbrev pub title : List Piece → List ℕ
title [] = []
title (p ∷ ps) = if has_role role.TableName p then name_in p else title ps

abbrev pub column_names : List Piece → List (List ℕ)
column_names [] = []
column_names (p ∷ ps) = if has_role role.ColumnName p then name_in p ∷ column_names ps else column_names ps

title_from : (sql : List ℕ) (at : ℕ) (ps : List Piece) → Stand sql at ps → table_name sql (said_of at ps) ≡ title ps
title_from sql at [] stand = refl
title_from sql at (p ∷ ps) stand =
    let one = name_stands sql (at + length (space p.blank)) p stand.0 in
    let rest = title_from sql (at + length (space p.blank) + length p.bytes) ps stand.1 in
    λ i. if has_role role.TableName p then one i else rest i

pub title_is : (ps : List Piece) → table_name (text_of ps) (said_of 0 ps) ≡ title ps
title_is ps = title_from (text_of ps) 0 ps (they_stand ps)

-- ---- pieces that say nothing more

-- a word of no collation, constraint, option or generated column, nor of a type with REAL affinity
abbrev pub is_plain : Piece → Bool
is_plain p = not (has_role role.ColumnCollate p) && (not (has_role role.TypeWord p && is_real_word p.bytes)
    && (not (begins_constraint (record { role = p.role; word = no_word }))
    && (not (has_role role.WithoutRowid p) && not (has_role role.Generated p))))

pub record IsQuiet (sql : List ℕ) (s : Said) : Type 0 where
  pub collate : is role.ColumnCollate s ≡ false
  pub real : (is role.TypeWord s && is_real_word (word_bytes sql s.word)) ≡ false
  pub constraint : begins_constraint s ≡ false
  pub without : is role.WithoutRowid s ≡ false
  pub generated : is role.Generated s ≡ false

quiet_one : (sql : List ℕ) (at : ℕ) (p : Piece) → word_bytes sql (word_in at p) ≡ p.bytes → is_plain p ≡ true
    → IsQuiet sql (record { role = p.role; word = word_in at p })
quiet_one sql at p e h =
    let one = and_parts _ _ h in
    let two = and_parts _ _ one.1 in
    let three = and_parts _ _ two.1 in
    let four = and_parts _ _ three.1 in
    record {
      collate = not-true _ one.0;
      real = ap (λ (b : List ℕ). has_role role.TypeWord p && is_real_word b) e ∙ not-true _ two.0;
      constraint = not-true _ three.0;
      without = not-true _ four.0;
      generated = not-true _ four.1;
    }

quiet_from : (sql : List ℕ) (at : ℕ) (ps : List Piece) → Stand sql at ps → list_all is_plain ps ≡ true
    → AllByRecursion (IsQuiet sql) (said_of at ps)
quiet_from sql at [] stand h = tt
quiet_from sql at (p ∷ ps) stand h =
    let both = and_parts (is_plain p) (list_all is_plain ps) h in
    (quiet_one sql (at + length (space p.blank)) p stand.0 both.0, quiet_from sql (at + length (space p.blank) + length p.bytes) ps stand.1 both.1)

pub are_quiet : (ps : List Piece) → list_all is_plain ps ≡ true → AllByRecursion (IsQuiet (text_of ps)) (said_of 0 ps)
are_quiet ps h = quiet_from (text_of ps) 0 ps (they_stand ps) h

-- ---- what such words say

all_take : {X : Type 0} (P : X → Type 0) (n : ℕ) (xs : List X) → AllByRecursion P xs → AllByRecursion P (take n xs)
all_take P zero xs all = tt
all_take P (suc n) [] all = tt
all_take P (suc n) (x ∷ xs) all = (all.0, all_take P n xs all.1)

no_collate : (sql : List ℕ) (found : Option Word) (ws : List Said) → AllByRecursion (IsQuiet sql) ws → last_collate found ws ≡ found
no_collate sql found [] all = refl
no_collate sql found (w ∷ ws) all = rw all.0.collate (no_collate sql found ws all.1)

no_real : (sql : List ℕ) (ws : List Said) → AllByRecursion (IsQuiet sql) ws → type_has sql is_real_word ws ≡ false
no_real sql [] all = refl
no_real sql (w ∷ ws) all = or_from _ _ all.0.real (no_real sql ws all.1)

not_real : (sql : List ℕ) (ws : List Said) → AllByRecursion (IsQuiet sql) ws → is_real sql ws ≡ false
not_real sql ws all = rw (no_real sql ws all) refl

plain_one : (sql : List ℕ) (w : Word) (ws : List Said) (name : List ℕ) → AllByRecursion (IsQuiet sql) ws → name_of sql w ≡ name
    → column_from (column_of sql w (own_words ws)) ≡ plain_column name
plain_one sql w ws name all e =
    let own = all_take (IsQuiet sql) _ ws all in
    let coll : coll_by sql (last_collate None (own_words ws)) ≡ coll_by sql None = ap (coll_by sql) (no_collate sql None (own_words ws) own) in
    let real : is_real sql (own_words ws) ≡ false = not_real sql (own_words ws) own in
    λ i. record { name = e i; coll = coll i; real = real i }

-- a column more, where a word names one
column_or : (t : Bool) (c : ColumnText) (name : List ℕ) (cs : List ColumnText) (names : List (List ℕ))
    → column_from c ≡ plain_column name → map column_from cs ≡ map plain_column names
    → map column_from (if t then c ∷ cs else cs) ≡ map plain_column (if t then name ∷ names else names)
column_or true c name cs names e more = λ i. e i ∷ more i
column_or false c name cs names e more = more

columns_from : (sql : List ℕ) (at : ℕ) (ps : List Piece) → Stand sql at ps → AllByRecursion (IsQuiet sql) (said_of at ps)
    → map column_from (columns_of sql (said_of at ps)) ≡ map plain_column (column_names ps)
columns_from sql at [] stand all = refl
columns_from sql at (p ∷ ps) stand all =
    column_or (has_role role.ColumnName p) _ _ _ _
    (plain_one sql (word_in (at + length (space p.blank)) p) (said_of (at + length (space p.blank) + length p.bytes) ps) (name_in p)
    all.1 (name_stands sql (at + length (space p.blank)) p stand.0))
    (columns_from sql (at + length (space p.blank) + length p.bytes) ps stand.1 all.1)

pub columns_are : (ps : List Piece) → list_all is_plain ps ≡ true
    → map column_from (columns_of (text_of ps) (said_of 0 ps)) ≡ map plain_column (column_names ps)
columns_are ps h = columns_from (text_of ps) 0 ps (they_stand ps) (are_quiet ps h)

none_or : (t : Bool) (xs ys : List Constraint) → xs ≡ [] → ys ≡ [] → (if t then xs else ys) ≡ []
none_or true xs ys e g = e
none_or false xs ys e g = g

pub no_constraints : (sql : List ℕ) (n : ℕ) (column : Word) (ws : List Said) → AllByRecursion (IsQuiet sql) ws
    → constraints_from sql n column ws ≡ []
no_constraints sql n column [] all = refl
no_constraints sql n column (w ∷ ws) all =
    none_or (is role.ColumnName w) _ _ (no_constraints sql (n + 1) w.word ws all.1) (rw all.0.constraint (no_constraints sql n column ws all.1))

pub no_without : (sql : List ℕ) (ws : List Said) → AllByRecursion (IsQuiet sql) ws → list_any (is role.WithoutRowid) ws ≡ false
no_without sql [] all = refl
no_without sql (w ∷ ws) all = or_from _ _ all.0.without (no_without sql ws all.1)

pub no_generated : (sql : List ℕ) (ws : List Said) → AllByRecursion (IsQuiet sql) ws → list_any (is role.Generated) ws ≡ false
no_generated sql [] all = refl
no_generated sql (w ∷ ws) all = or_from _ _ all.0.generated (no_generated sql ws all.1)
