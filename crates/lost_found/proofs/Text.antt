-- The text of the table of lost cells says its shape.
use Rattle.std.proofs.Common.{◌≡◌, refl, sym, ap, ◌∙◌, subst, arith, ℕ, zero, suc, ◌+◌, ◌-◌, ◌^◌, ◌<◌, ◌≤◌, ◌==◌, Bool, true, false, inl, inr, Some, None, List, [], ◌∷◌, ◌++◌, append_assoc, append-nil, length, length-append, map, take, codes, decimal, lit<}
use Rattle.std.specs.List.{AllByRecursion, list_all, list_any, range_with_len}
use Rattle.std.specs.Str.{str_to_ascii_lowercase}
use Rattle.std.proofs.Math.Seq.{take-append_seam}
use Rattle.std.proofs.lemmas.Bool.{cases_Bool, eqb-true, false_from_ne_true, or_from}
use Rattle.std.proofs.lemmas.Fmt.{decimal_injective}
use Rattle.std.proofs.lemmas.List.{length-map}
use Rattle.std.proofs.lemmas.Slice.Eq.{bytes_eq-Decides}
use Rattle.create_grammar.specs.declared.roles.Role.{Role}
use Rattle.create_grammar.specs.declared.roles.Role.TheVariants as role
use Rattle.create_grammar.specs.declared.sorts.Sort.{Sort}
use Rattle.create_grammar.specs.declared.sorts.Sort.TheVariants as sort
use Rattle.create_grammar.specs.declared.spans.WordKind.TheVariants as kind
use Rattle.create_grammar.specs.declared.classes.Class.TheVariants.{ColumnName, Name, One, TypeWord}
use Rattle.create_grammar.specs.Classes.{class_of}
use Rattle.create_grammar.specs.Grammar.{column, columns, table}
use Rattle.create_grammar.specs.Said.{begins_virtual}
use Rattle.create_grammar.specs.Sorts.{keyword_1, keyword_2, keyword_3, keyword_4, sort_by}
use Rattle.create_grammar.specs.Words.{bare_len, closed_word, front_word, gap_len, more, quoted_from}
use Rattle.create_reader.specs.declared.texts.ColumnText.{ColumnText}
use Rattle.create_reader.specs.Constraints.{Table, no_word, table_of}
use Rattle.create_reader.specs.Faults.{has_repeat, key_fault}
use Rattle.create_reader.specs.Meaning.{column_from, shape_of}
use Rattle.create_reader.specs.Names.{inner, unquoted}
use Rattle.create_reader.specs.Outcome.{IsTableText}
use Rattle.table_shape.specs.declared.columns.Column.{Column}
use Rattle.table_shape.specs.Names.{same_name}
use Rattle.word_grammar.specs.Form.{Derives, IsWord, Labelled, Then, has, joined}
use Rattle.lost_found.specs.Laws.{TextSaysShape}
use Rattle.lost_found.specs.Texts.{behind_commas, doubled, field_name, field_names, first_names, lost_shape, lost_text, plain_column, quoted}
use Rattle.lost_found.proofs.Digits.{AreDigits, are_digits, digit_bare, digits_small, first_digit, no_keyword}
use Rattle.lost_found.proofs.Pieces.{AreCut, IsCut, Piece, said_of, text_of, words_are}
use Rattle.lost_found.proofs.Sayings.{are_quiet, column_names, columns_are, is_plain, labelled, no_constraints, no_generated, no_without, roles_are, sorts_are, title, title_is}

-- ---- the text as pieces

abbrev bare : Bool → List ℕ → Sort → Role → Piece
bare blank bytes s r = record { blank = blank; kind = kind.Bare; bytes = bytes; sort = s; role = r }

abbrev mark : ℕ → Sort → Piece
mark b s = record { blank = false; kind = kind.Mark b; bytes = b ∷ []; sort = s; role = role.Other }

abbrev named : List ℕ → Piece
named name = record { blank = true; kind = kind.Quoted; bytes = quoted name; sort = sort.Quoted; role = role.TableName }

abbrev integer : Piece
integer = bare true (codes "INTEGER") sort.Bare role.TypeWord

abbrev further : List ℕ → Piece
further name = bare true name sort.Bare role.ColumnName

abbrev comma_piece : Piece
comma_piece = mark 44 sort.Comma

-- n columns from number k on, and the end
abbrev fields : ℕ → ℕ → List Piece
fields k zero = mark 41 sort.Close ∷ []
fields k (suc n) = comma_piece ∷ (further (field_name k) ∷ fields (k + 1) n)

abbrev pieces : List ℕ → ℕ → List Piece
pieces name n = bare false (codes "CREATE") sort.Create role.Other ∷ (bare true (codes "TABLE") sort.Table role.Other
    ∷ (named name ∷ (mark 40 sort.Open ∷ (bare false (codes "rootpgno") sort.Bare role.ColumnName ∷ (integer
    ∷ (comma_piece ∷ (further (codes "pgno") ∷ (integer
    ∷ (comma_piece ∷ (further (codes "nfield") ∷ (integer
    ∷ (comma_piece ∷ (further (codes "id") ∷ (integer ∷ fields 0 n))))))))))))))

fields_text : (k n : ℕ) → text_of (fields k n) ≡ behind_commas (map field_name (range_with_len k n)) ++ codes ")"
fields_text k zero = refl
fields_text k (suc n) =
    ap (λ (z : List ℕ). codes ", " ++ (field_name k ++ z)) (fields_text (k + 1) n)
    ∙ sym (append_assoc (codes ", " ++ field_name k) (behind_commas (map field_name (range_with_len (k + 1) n))) (codes ")"))

pieces_text : (name : List ℕ) (n : ℕ) → text_of (pieces name n) ≡ lost_text name n
pieces_text name n = ap (λ (z : List ℕ). codes "CREATE TABLE " ++ (quoted name
    ++ (codes "(rootpgno INTEGER, pgno INTEGER, nfield INTEGER, id INTEGER" ++ z))) (fields_text 0 n)

-- ---- the name between quotes

quoted_whole : (name t : List ℕ) → quoted_from 34 false ((doubled name ++ 34 ∷ []) ++ (40 ∷ t)) ≡ Some (length (doubled name ++ 34 ∷ []))
quoted_whole [] t = refl
quoted_whole (b ∷ name) t =
    let rest = quoted_whole name t in
    elim (cases_Bool (b == 34)) [
      | inl is ↦ rw is (ap (λ o. more 1 (more 1 o)) rest ∙ ap Some (omega arith))
      | inr isnt ↦ rw (isnt, isnt) (ap (more 1) rest ∙ ap Some (omega arith))
    ]

unquote_doubled : (name : List ℕ) → unquoted 34 false (doubled name) ≡ name
unquote_doubled [] = refl
unquote_doubled (b ∷ name) =
    let rest = unquote_doubled name in
    elim (cases_Bool (b == 34)) [
      | inl is ↦ rw is (λ i. sym (eqb-true b 34 is) i ∷ rest i)
      | inr isnt ↦ rw (isnt, isnt) (ap (λ (z : List ℕ). b ∷ z) rest)
    ]

inner_quoted : (name : List ℕ) → inner (quoted name) ≡ doubled name
inner_quoted name =
    let len : length (doubled name ++ 34 ∷ []) ≡ length (doubled name) + 1 = length-append (doubled name) (34 ∷ []) in
    let many : suc (length (doubled name ++ 34 ∷ [])) - 2 ≡ length (doubled name) = omega (arith, len) in
    ap (λ m. take m (doubled name ++ 34 ∷ [])) many ∙ take-append_seam (doubled name) (34 ∷ [])

title_here : (name : List ℕ) (n : ℕ) → title (pieces name n) ≡ name
title_here name n = ap (unquoted 34 false) (inner_quoted name) ∙ unquote_doubled name

-- ---- each piece is a word

bare_digits : (ds rest : List ℕ) → AreDigits ds → bare_len rest ≡ 0 → bare_len (ds ++ rest) ≡ length ds
bare_digits [] rest all ends = ends
bare_digits (d ∷ ds) rest all ends =
    rw (digit_bare d all.0) (ap (λ m. 1 + m) (bare_digits ds rest all.1 ends) ∙ omega arith)

ends_bare : (k n : ℕ) → bare_len (text_of (fields k n)) ≡ 0
ends_bare k zero = refl
ends_bare k (suc n) = refl

field_sort : (k : ℕ) → k < 2 ^ 64 → keyword_1 (field_name k) ≡ sort.Bare
field_sort k h =
    let first = first_digit k h in
    ap (λ (z : List ℕ). keyword_1 (99 ∷ z)) first.2 ∙ no_keyword first.0 first.1 first.3

field_cut : (k m n : ℕ) → k < 2 ^ 64 → IsCut (further (field_name k)) (text_of (fields m n))
field_cut k m n h =
    let len : bare_len (decimal k ++ text_of (fields m n)) ≡ length (decimal k) =
    bare_digits (decimal k) (text_of (fields m n)) (are_digits k h) (ends_bare m n) in
    let all : 1 + bare_len (decimal k ++ text_of (fields m n)) ≡ suc (length (decimal k)) = omega (arith, len) in
    record {
      some = omega arith;
      no_gap = refl;
      front = ap (λ (m : ℕ). record { kind = kind.Bare; len = m }) all;
      is_sort = field_sort k h;
    }

fields_cut : (k n : ℕ) → k + n < 2 ^ 64 → AreCut (fields k n)
fields_cut k zero h = (record { some = lit< tt; no_gap = refl; front = refl; is_sort = refl }, tt)
fields_cut k (suc n) h = (
  record { some = lit< tt; no_gap = refl; front = refl; is_sort = refl },
  (field_cut k (k + 1) n (omega (arith, h)), fields_cut (k + 1) n (omega (arith, h))),
)

last_integer : (k n : ℕ) → IsCut integer (text_of (fields k n))
unfolding keyword_1 keyword_2 keyword_3 keyword_4
last_integer k zero = record { some = lit< tt; no_gap = refl; front = refl; is_sort = refl }
last_integer k (suc n) = record { some = lit< tt; no_gap = refl; front = refl; is_sort = refl }

name_cut : (name t : List ℕ) → IsCut (named name) (40 ∷ t)
name_cut name t = record {
  some = omega arith;
  no_gap = refl;
  front = ap (closed_word kind.Quoted ((doubled name ++ 34 ∷ []) ++ (40 ∷ t))) (quoted_whole name t) ∙ ap (λ (m : ℕ). record { kind = kind.Quoted; len = m }) (omega arith);
  is_sort = refl;
}

cut : (p : Piece) (rest : List ℕ) → 0 < length p.bytes → gap_len (p.bytes ++ rest) ≡ 0
    → front_word (p.bytes ++ rest) ≡ record { kind = p.kind; len = length p.bytes } → sort_by p.kind p.bytes ≡ p.sort → IsCut p rest
cut p rest a b c d = record { some = a; no_gap = b; front = c; is_sort = d }

pieces_cut : (name : List ℕ) (n : ℕ) → n < 2 ^ 64 → AreCut (pieces name n)
unfolding keyword_1 keyword_2 keyword_3 keyword_4
pieces_cut name n h = (
  cut _ _ (lit< tt) refl refl refl,
  (
    cut _ _ (lit< tt) refl refl refl,
    (
      name_cut name _,
      (
        cut _ _ (lit< tt) refl refl refl,
        (
          cut _ _ (lit< tt) refl refl refl,
          (
            cut _ _ (lit< tt) refl refl refl,
            (
              cut _ _ (lit< tt) refl refl refl,
              (
                cut _ _ (lit< tt) refl refl refl,
                (
                  cut _ _ (lit< tt) refl refl refl,
                  (
                    cut _ _ (lit< tt) refl refl refl,
                    (
                      cut _ _ (lit< tt) refl refl refl,
                      (
                        cut _ _ (lit< tt) refl refl refl,
                        (
                          cut _ _ (lit< tt) refl refl refl,
                          (cut _ _ (lit< tt) refl refl refl, (last_integer 0 n, fields_cut 0 n (omega (arith, h)))),
                        ),
                      ),
                    ),
                  ),
                ),
              ),
            ),
          ),
        ),
      ),
    ),
  ),
)

-- ---- the grammar

first_of : {E : Labelled → Type 0} (role : ℕ) (class : List ℕ) (s : ℕ) (rest : Labelled) → has class s ≡ true → E rest
    → Then (IsWord role class) E ((role, s) ∷ rest)
first_of role class s rest h d = ((role, s) ∷ [], rest, refl, (s, refl, h), d)

abbrev plain_part : Labelled
plain_part = (0, 3) ∷ ((2, 50) ∷ [])

abbrev typed_part : Labelled
typed_part = (0, 3) ∷ ((2, 50) ∷ ((3, 50) ∷ []))

abbrev plain_parts : ℕ → List Labelled
plain_parts zero = []
plain_parts (suc n) = plain_part ∷ plain_parts n

abbrev parts : ℕ → List Labelled
parts n = typed_part ∷ (typed_part ∷ (typed_part ∷ plain_parts n))

plain_column_said : Derives column ((2, 50) ∷ [])
plain_column_said = first_of _ (class_of ColumnName) _ _ refl ([], [], refl, inl refl, ([], refl, tt))

typed_column_said : Derives column ((2, 50) ∷ ((3, 50) ∷ []))
typed_column_said = first_of _ (class_of ColumnName) _ _ refl (
  (3, 50) ∷ [],
  [],
  refl,
  inr (first_of _ (class_of TypeWord) _ _ refl ([], [], refl, ([], refl, tt), inl refl)),
  ([], refl, tt),
)

abbrev IsPart : Labelled → Type 0
IsPart ls = Then (IsWord 0 (class_of (One sort.Comma))) (Derives column) ls

plain_said : (n : ℕ) → AllByRecursion IsPart (plain_parts n)
plain_said zero = tt
plain_said (suc n) = (first_of _ (class_of (One sort.Comma)) _ _ refl plain_column_said, plain_said n)

parts_said : (n : ℕ) → AllByRecursion IsPart (parts n)
parts_said n =
    let typed : IsPart typed_part = first_of _ (class_of (One sort.Comma)) _ _ refl typed_column_said in
    (typed, (typed, (typed, plain_said n)))

columns_said : (n : ℕ) → Derives columns ((2, 50) ∷ ((3, 50) ∷ joined (parts n)))
columns_said n = (
  (2, 50) ∷ ((3, 50) ∷ []),
  joined (parts n),
  refl,
  typed_column_said,
  (joined (parts n), [], sym (append-nil (joined (parts n))), (parts n, refl, parts_said n), ([], refl, tt)),
)

fields_labelled : (k n : ℕ) → labelled (fields k n) ≡ joined (plain_parts n) ++ ((0, 1) ∷ [])
fields_labelled k zero = refl
fields_labelled k (suc n) = ap (λ (z : Labelled). (0, 3) ∷ ((2, 50) ∷ z)) (fields_labelled (k + 1) n)

said_so : (name : List ℕ) (n : ℕ) → Derives table (labelled (pieces name n))
said_so name n = first_of _ (class_of (One sort.Create)) _ _ refl (first_of _ (class_of (One sort.Table)) _ _ refl
    (first_of _ (class_of Name) _ _ refl (first_of _ (class_of (One sort.Open)) _ _ refl (
      (2, 50) ∷ ((3, 50) ∷ joined (parts n)),
      (0, 1) ∷ [],
      ap (λ (z : Labelled). (2, 50) ∷ ((3, 50) ∷ (typed_part ++ (typed_part ++ (typed_part ++ z))))) (fields_labelled 0 n),
      columns_said n,
      first_of _ (class_of (One sort.Close)) _ _ refl (inl refl),
    ))))

-- ---- the columns

fields_names : (k n : ℕ) → column_names (fields k n) ≡ map field_name (range_with_len k n)
fields_names k zero = refl
fields_names k (suc n) = ap (λ (z : List (List ℕ)). field_name k ∷ z) (fields_names (k + 1) n)

pieces_names : (name : List ℕ) (n : ℕ) → column_names (pieces name n) ≡ first_names ++ field_names n
pieces_names name n = ap (λ (z : List (List ℕ)). first_names ++ z) (fields_names 0 n)

fields_plain : (k n : ℕ) → list_all is_plain (fields k n) ≡ true
fields_plain k zero = refl
fields_plain k (suc n) = fields_plain (k + 1) n

pieces_plain : (name : List ℕ) (n : ℕ) → list_all is_plain (pieces name n) ≡ true
pieces_plain name n = fields_plain 0 n

-- ---- no two have one name

differ : (j k : ℕ) → j < 2 ^ 64 → k < 2 ^ 64 → (j ≡ k → ⊥) → same_name (field_name j) (field_name k) ≡ false
differ j k f g apart = false_from_ne_true _ (λ is.
    let lists : 99 ∷ str_to_ascii_lowercase (decimal j) ≡ 99 ∷ str_to_ascii_lowercase (decimal k) =
    (bytes_eq-Decides (str_to_ascii_lowercase (field_name j)) (str_to_ascii_lowercase (field_name k))).0 is in
    let tails : str_to_ascii_lowercase (decimal j) ≡ str_to_ascii_lowercase (decimal k) = cc in
    apart (decimal_injective j k f g
    (sym (digits_small (decimal j) (are_digits j f)) ∙ (tails ∙ digits_small (decimal k) (are_digits k g)))))

none_same : (x : List ℕ) (k n : ℕ) → ((j : ℕ) → k ≤ j → j < k + n → same_name x (field_name j) ≡ false)
    → list_any (same_name x) (map field_name (range_with_len k n)) ≡ false
none_same x k zero each = refl
none_same x k (suc n) each = or_from _ _ (each k (omega arith) (omega arith))
    (none_same x (k + 1) n (λ j low high. each j (omega (arith, low)) (omega (arith, high))))

fields_differ : (k n : ℕ) → k + n < 2 ^ 64 → has_repeat (map field_name (range_with_len k n)) ≡ false
fields_differ k zero h = refl
fields_differ k (suc n) h = or_from _ _
    (none_same (field_name k) (k + 1) n (λ j low high. differ k j (omega (arith, h)) (omega (arith, h, high))
    (λ same. omega (arith, same, low))))
    (fields_differ (k + 1) n (omega (arith, h)))

names_differ : (n : ℕ) → n < 2 ^ 64 → has_repeat (first_names ++ field_names n) ≡ false
names_differ n h =
    or_from _ _ (none_same (codes "rootpgno") 0 n (λ j low high. refl))
    (or_from _ _ (none_same (codes "pgno") 0 n (λ j low high. refl))
    (or_from _ _ (none_same (codes "nfield") 0 n (λ j low high. refl))
    (or_from _ _ (none_same (codes "id") 0 n (λ j low high. refl)) (fields_differ 0 n (omega (arith, h))))))

-- ---- the whole

names_kept : (cs : List ColumnText) → map (λ (c : ColumnText). c.name) cs ≡ map (λ (c : Column). c.name) (map column_from cs)
names_kept [] = refl
names_kept (c ∷ cs) = ap (λ (z : List (List ℕ)). c.name ∷ z) (names_kept cs)

names_back : (names : List (List ℕ)) → map (λ (c : Column). c.name) (map plain_column names) ≡ names
names_back [] = refl
names_back (name ∷ names) = ap (λ (z : List (List ℕ)). name ∷ z) (names_back names)

-- a text without constraints has no fault of keys, and its shape has no key
no_key_fault : (t : Table) → t.constraints ≡ [] → t.without_rowid ≡ false → has_repeat (map (λ c. c.name) t.columns) ≡ false
    → key_fault t ≡ false
no_key_fault t none rowids apart = rw (none, rowids, apart) refl

keyless : (t : Table) → t.constraints ≡ [] → t.without_rowid ≡ false → shape_of t ≡ record {
  name = t.name;
  columns = map column_from t.columns;
  alias = None;
  without_rowid = false;
  primary = [];
  keys = [];
  autoincrement = false;
}
keyless t none rowids = rw (none, rowids) refl

pub field_count : (k n : ℕ) → length (map field_name (range_with_len k n)) ≡ n
field_count k zero = refl
field_count k (suc n) = ap suc (field_count (k + 1) n)

says_shape : (name : List ℕ) (n : ℕ) → n ≤ 1996 → IsTableText (text_of (pieces name n)) (lost_shape name n)
says_shape name n few =
    let small : n < 2 ^ 64 = omega (arith, few) in
    let ps = pieces name n in
    let sql = text_of ps in
    let said = said_of 0 ps in
    let cut = pieces_cut name n small in
    let quiet = are_quiet ps (pieces_plain name n) in
    let t = table_of sql said in
    let none : t.constraints ≡ [] = no_constraints sql 0 no_word said quiet in
    let rowids : t.without_rowid ≡ false = no_without sql said quiet in
    let called : t.name ≡ name = title_is ps ∙ title_here name n in
    let columns : map column_from t.columns ≡ map plain_column (first_names ++ field_names n) =
    columns_are ps (pieces_plain name n) ∙ ap (map plain_column) (pieces_names name n) in
    let names : map (λ (c : ColumnText). c.name) t.columns ≡ first_names ++ field_names n =
    names_kept t.columns ∙ (ap (map (λ (c : Column). c.name)) columns ∙ names_back (first_names ++ field_names n)) in
    let count : length t.columns ≡ 4 + n =
    sym (length-map t.columns (λ (c : ColumnText). c.name)) ∙ (ap length names ∙ (length-append first_names (field_names n) ∙ ap (λ m. 4 + m) (field_count 0 n))) in
    record {
      plain = ap begins_virtual (sorts_are ps cut);
      t = t;
      read = record {
        said = said;
        is_said = record {
          text = labelled ps;
          derives = said_so name n;
          words = sorts_are ps cut;
          words_are = words_are ps cut;
          roles_are = roles_are 0 ps;
        };
        says = refl;
      };
      stored = no_generated sql said quiet;
      sound = no_key_fault t none rowids (ap has_repeat names ∙ names_differ n small);
      few = omega (arith, count, few);
      means = sym (keyless t none rowids ∙ (λ i. record {
        name = called i;
        columns = columns i;
        alias = None;
        without_rowid = false;
        primary = [];
        keys = [];
        autoincrement = false;
      }));
    }

pub text_says : TextSaysShape
text_says name n few = subst (λ (sql : List ℕ). IsTableText sql (lost_shape name n)) (pieces_text name n) (says_shape name n few)
