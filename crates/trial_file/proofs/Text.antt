-- The text of the table means its shape.
use Rattle.std.proofs.Common.{◌≡◌, refl, sym, subst, ℕ, ◌+◌, inl, inr, true, Ok, List, [], ◌∷◌, ◌++◌, map}
use Rattle.std.specs.List.{AllByRecursion}
use Rattle.create_grammar.specs.declared.reading.Said.{Said}
use Rattle.create_grammar.specs.declared.roles.Role.{Role}
use Rattle.create_grammar.specs.declared.roles.Role.TheVariants as role
use Rattle.create_grammar.specs.declared.sorts.Sort.TheVariants as sort
use Rattle.create_grammar.specs.declared.spans.WordKind.TheVariants as kind
use Rattle.create_grammar.specs.declared.classes.Class.TheVariants.{ColumnName, Name, One, TypeWord}
use Rattle.create_grammar.specs.Classes.{class_of}
use Rattle.create_grammar.specs.Grammar.{column, columns, constraint, table}
use Rattle.create_grammar.specs.Sorts.{keyword_1, keyword_2, keyword_3, keyword_4, sorts_of}
use Rattle.create_grammar.specs.Words.{words_of}
use Rattle.create_reader.specs.declared.faults.CreateFault.{CreateFault}
use Rattle.create_reader.specs.declared.faults.CreateFault.TheVariants as faults
use Rattle.create_reader.specs.Constraints.{Table, table_of}
use Rattle.create_reader.specs.Outcome.{HasFault, IsCreate, IsTableText}
use Rattle.create_reader.proofs.One.{is_related, only_fault}
use Rattle.table_shape.specs.Seen.{shape_seen}
use Rattle.word_grammar.specs.Form.{Derives, IsWord, Labelled, Then, has, joined}
use Rattle.trial_file.specs.Laws.{TextHasNoFault, TextIsSound}
use Rattle.trial_file.specs.Trial.{table_shape, table_text}

-- ---- its words

abbrev bare : ℕ → ℕ → Role → Said
bare start end r = record { role = r; word = record { kind = kind.Bare; start = start; end = end } }

abbrev mark : ℕ → ℕ → Said
mark b start = record { role = role.Other; word = record { kind = kind.Mark b; start = start; end = start + 1 } }

abbrev first_column : List Said
first_column = bare 15 17 role.ColumnName ∷ (bare 18 25 role.TypeWord ∷ (bare 26 33 role.ColumnPrimary ∷ (bare 34 37 role.Other ∷ [])))

abbrev second_column : List Said
second_column = mark 44 37 ∷ (bare 39 43 role.ColumnName ∷ (bare 44 48 role.TypeWord ∷ (bare 49 55 role.ColumnUnique ∷ [])))

abbrev third_column : List Said
third_column = mark 44 55 ∷ (bare 57 61 role.ColumnName ∷ (bare 62 66 role.TypeWord ∷ (mark 41 66 ∷ [])))

abbrev said : List Said
said = bare 0 6 role.Other ∷ (bare 7 12 role.Other ∷ (bare 13 14 role.TableName ∷ (mark 40 14 ∷ (first_column ++ (second_column ++ third_column)))))

words_are : words_of table_text ≡ map (λ s. s.word) said
words_are = refl

-- ---- the grammar

first_of : {E : Labelled → Type 0} (r : ℕ) (class : List ℕ) (s : ℕ) (rest : Labelled) → has class s ≡ true → E rest
    → Then (IsWord r class) E ((r, s) ∷ rest)
first_of r class s rest h d = ((r, s) ∷ [], rest, refl, (s, refl, h), d)

-- PRIMARY KEY, and UNIQUE
primary_said : Derives constraint ((6, 18) ∷ ((0, 19) ∷ []))
primary_said = inr (inr (inr (inl (first_of _ (class_of (One sort.Primary)) _ _ refl (first_of _ (class_of (One sort.Key)) _ _ refl
    ([], [], refl, inl refl, ([], [], refl, inl refl, inl refl)))))))

unique_said : Derives constraint ((7, 20) ∷ [])
unique_said = inr (inr (inr (inr (inl (first_of _ (class_of (One sort.Unique)) _ _ refl (inl refl))))))

-- a column of one word of a type, and what stands behind it
typed_said : (rest : Labelled) (parts : List Labelled) → rest ≡ joined parts → AllByRecursion (Derives constraint) parts
    → Derives column ((2, 50) ∷ ((3, 50) ∷ rest))
typed_said rest parts e all = first_of _ (class_of ColumnName) _ _ refl (
  (3, 50) ∷ [],
  rest,
  refl,
  inr (first_of _ (class_of TypeWord) _ _ refl ([], [], refl, ([], refl, tt), inl refl)),
  (parts, e, all),
)

abbrev part_1 : Labelled
part_1 = (0, 3) ∷ ((2, 50) ∷ ((3, 50) ∷ ((7, 20) ∷ [])))

abbrev part_2 : Labelled
part_2 = (0, 3) ∷ ((2, 50) ∷ ((3, 50) ∷ []))

abbrev front : Labelled
front = (2, 50) ∷ ((3, 50) ∷ ((6, 18) ∷ ((0, 19) ∷ [])))

columns_said : Derives columns (front ++ (part_1 ++ part_2))
columns_said = (
  front,
  part_1 ++ part_2,
  refl,
  typed_said _ (((6, 18) ∷ ((0, 19) ∷ [])) ∷ []) refl (primary_said, tt),
  (
    part_1 ++ part_2,
    [],
    refl,
    (
      part_1 ∷ (part_2 ∷ []),
      refl,
      (
        first_of _ (class_of (One sort.Comma)) _ _ refl (typed_said _ (((7, 20) ∷ []) ∷ []) refl (unique_said, tt)),
        (first_of _ (class_of (One sort.Comma)) _ _ refl (typed_said [] [] refl tt), tt),
      ),
    ),
    ([], refl, tt),
  ),
)

abbrev text : Labelled
text = (0, 11) ∷ ((0, 12) ∷ ((1, 50) ∷ ((0, 0) ∷ ((front ++ (part_1 ++ part_2)) ++ ((0, 1) ∷ [])))))

text_said : Derives table text
text_said = first_of _ (class_of (One sort.Create)) _ _ refl (first_of _ (class_of (One sort.Table)) _ _ refl
    (first_of _ (class_of Name) _ _ refl (first_of _ (class_of (One sort.Open)) _ _ refl
    (front ++ (part_1 ++ part_2), (0, 1) ∷ [], refl, columns_said, first_of _ (class_of (One sort.Close)) _ _ refl (inl refl)))))

-- ---- what it says

sorts_are : sorts_of table_text ≡ map (λ l. l.1) text
unfolding keyword_1 keyword_2 keyword_3 keyword_4
sorts_are = refl

abbrev t : Table
t = table_of table_text said

pub is_create : TextIsSound
unfolding keyword_1 keyword_2 keyword_3 keyword_4
is_create = record {
  plain = refl;
  t = t;
  read = record {
    said = said;
    is_said = record { text = text; derives = text_said; words = sorts_are; words_are = sym words_are; roles_are = refl };
    says = refl;
  };
  sound = refl;
  means = refl;
}

-- the same in the words of what can be written
pub is_text : IsTableText table_text table_shape
is_text = is_related table_text table_shape is_create

-- ---- it has no fault

pub no_fault : TextHasNoFault
no_fault shape fault seen has = by fault has
  where
    found : IsCreate table_text (shape_seen shape)
    found = subst (IsCreate table_text) (sym seen) is_create

    by : (fault : CreateFault) → HasFault table_text fault → fault ≡ faults.Memory
    by faults.Virtual h = absurd (only_fault table_text (Ok shape) found faults.Virtual (λ e. let wrong : ⊥ = cc in wrong) h)
    by (faults.Form at) h = absurd (only_fault table_text (Ok shape) found (faults.Form at) (λ e. let wrong : ⊥ = cc in wrong) h)
    by faults.Generated h = absurd (only_fault table_text (Ok shape) found faults.Generated (λ e. let wrong : ⊥ = cc in wrong) h)
    by faults.Limit h = absurd (only_fault table_text (Ok shape) found faults.Limit (λ e. let wrong : ⊥ = cc in wrong) h)
    by faults.Key h = absurd (only_fault table_text (Ok shape) found faults.Key (λ e. let wrong : ⊥ = cc in wrong) h)
    by faults.Memory h = refl
