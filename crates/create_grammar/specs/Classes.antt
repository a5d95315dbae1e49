-- Classes of words (docs/CREATE_TABLE.md, "The grammar"; lang_createtable.html).
use Rattle.std.specs.Prelude.{ℕ, zero, suc, ◌+◌, not, List, [], ◌∷◌, ◌++◌, filter, map}
use Rattle.create_grammar.specs.declared.classes.Class.{Class}
use Rattle.create_grammar.specs.declared.classes.Class.TheVariants as class
use Rattle.create_grammar.specs.declared.sorts.Sort.{Sort}
use Rattle.create_grammar.specs.declared.sorts.Sort.TheVariants.{Plus, Minus, Number, Blob, Quoted, Text, Virtual, Without, Strict, Constraint, Primary, Unique, Check, Foreign, Not, Null, Default, Collate, References, Generated, As, Stored, Deferrable, Deferred, Immediate, Asc, Desc, On, Delete, Update, Insert, Cascade, Restrict, Match}
use Rattle.create_grammar.specs.Sorts.{code}
use Rattle.word_grammar.specs.Form.{has}

-- numbers one after another
abbrev pub numbers_from : ℕ → ℕ → List ℕ
numbers_from k zero = []
numbers_from k (suc n) = k ∷ numbers_from (k + 1) n

-- the keywords and all other bare words: the last 40 sorts
abbrev pub any_bare : List ℕ
any_bare = numbers_from 11 40

abbrev pub codes_of : List Sort → List ℕ
codes_of sorts = map code sorts

abbrev pub name : List ℕ
name = codes_of (Quoted ∷ Text ∷ []) ++ any_bare

abbrev pub without : List Sort → List ℕ → List ℕ
without sorts class = filter (λ s. not (has (codes_of sorts) s)) class

abbrev pub body_words : List Sort
body_words = Primary ∷ Unique ∷ Check ∷ Foreign ∷ []

abbrev pub class_of : Class → List ℕ
class_of (class.One s) = code s ∷ []
class_of class.Name = name
class_of class.ColumnName = without (Constraint ∷ body_words) name
class_of class.AnyBare = any_bare
class_of class.TypeWord = without (Constraint ∷ Primary ∷ Not ∷ Null ∷ Unique ∷ Check ∷ Default ∷ Collate
    ∷ References ∷ Generated ∷ As ∷ Deferrable ∷ []) any_bare
class_of class.Value = codes_of (Number ∷ Blob ∷ []) ++ name
class_of class.Sign = codes_of (Plus ∷ Minus ∷ [])
class_of class.Event = codes_of (Delete ∷ Update ∷ Insert ∷ [])
class_of class.Effect = codes_of (Cascade ∷ Restrict ∷ [])
class_of class.NullOrDefault = codes_of (Null ∷ Default ∷ [])
class_of class.Deferral = codes_of (Deferred ∷ Immediate ∷ [])
class_of class.Storage = codes_of (Stored ∷ Virtual ∷ [])
class_of class.OrderWord = codes_of (Asc ∷ Desc ∷ [])
class_of class.ActionWord = codes_of (On ∷ Match ∷ [])
class_of class.OptionWord = codes_of (Without ∷ Strict ∷ [])
class_of class.BodyWord = codes_of body_words
class_of class.DeferWord = codes_of (Not ∷ Deferrable ∷ [])
class_of class.ConstraintWord = codes_of (Constraint ∷ Not ∷ Null ∷ Primary ∷ Unique ∷ Check ∷ Default
    ∷ Collate ∷ References ∷ Deferrable ∷ Generated ∷ As ∷ [])
