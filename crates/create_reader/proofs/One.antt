-- A text says one thing.
use Rattle.std.proofs.Common.{◌≡◌, refl, sym, ap, ◌∙◌, subst, arith, ℕ, ◌<◌, ◌==◌, Bool, true, false, if◌then◌else◌, Option, Some, None, Result, Ok, Err, List, [], ◌∷◌, map}
use Rattle.std.proofs.lemmas.Bool.{true≢false}
use Rattle.create_grammar.specs.declared.reading.Said.{Said}
use Rattle.create_grammar.specs.declared.roles.Role.{Role}
use Rattle.create_grammar.specs.declared.roles.Role.TheVariants as role
use Rattle.create_grammar.specs.Grammar.{table}
use Rattle.create_grammar.specs.Roles.{role_code}
use Rattle.create_grammar.specs.Said.{IsSaid, is_virtual}
use Rattle.create_grammar.specs.Sorts.{sorts_of}
use Rattle.create_reader.specs.declared.faults.CreateFault.{CreateFault}
use Rattle.create_reader.specs.declared.faults.CreateFault.TheVariants.{Virtual, Form, Generated, Limit, Key, Memory}
use Rattle.create_reader.specs.Constraints.{Table, table_of}
use Rattle.create_reader.specs.Faults.{first_fault, over_limit}
use Rattle.create_reader.specs.Laws.{IsOnly, IsOnlyFault, IsRelated, IsValid, IsWithin, OneShape}
use Rattle.create_reader.specs.Meaning.{shape_of}
use Rattle.create_reader.specs.Outcome.{IsAnswer, HasFault, HasOutcome, IsCreate, IsRead, LeavesAt, Means}
use Rattle.table_shape.specs.declared.shapes.TableShape.{TableShape}
use Rattle.table_shape.specs.Seen.{shape_seen}
use Rattle.table_shape.specs.Shape.{IsShape, Shape}
use Rattle.word_grammar.specs.Form.{Accepts, Derives, IsFormAt, Labelled, sorts}
use Rattle.word_grammar.specs.Law.{Verdict}
use Rattle.word_grammar.specs.Reading.{Reading, took, fails, reads}
use Rattle.word_grammar.proofs.Verdicts.{is_verdict}
use Rattle.create_reader.proofs.Parts.{few_columns, sound_of}
use Rattle.create_reader.proofs.Valid.{valid}

-- ---- roles by their numbers

abbrev role_at : ℕ → Role
role_at n = if n == 0 then role.Other else (if n == 1 then role.TableName else (if n == 2 then role.ColumnName else (if n == 3 then role.TypeWord else (if n == 4 then role.TypeOpen else (if n == 5 then role.ColumnCollate else (if n == 6 then role.ColumnPrimary else (if n == 7 then role.ColumnUnique else (if n == 8 then role.TablePrimary else (if n == 9 then role.TableUnique else (if n == 10 then role.KeyName else (if n == 11 then role.KeyMark else (if n == 12 then role.Auto else (if n == 13 then role.Generated else role.WithoutRowid)))))))))))))

role_back : (r : Role) → role_at (role_code r) ≡ r
role_back role.Other = refl
role_back role.TableName = refl
role_back role.ColumnName = refl
role_back role.TypeWord = refl
role_back role.TypeOpen = refl
role_back role.ColumnCollate = refl
role_back role.ColumnPrimary = refl
role_back role.ColumnUnique = refl
role_back role.TablePrimary = refl
role_back role.TableUnique = refl
role_back role.KeyName = refl
role_back role.KeyMark = refl
role_back role.Auto = refl
role_back role.Generated = refl
role_back role.WithoutRowid = refl

same_role : (a b : Role) → role_code a ≡ role_code b → a ≡ b
same_role a b e = sym (role_back a) ∙ (ap role_at e ∙ role_back b)

same_said : (a b : List Said) → map (λ s. s.word) a ≡ map (λ s. s.word) b
    → map (λ s. role_code s.role) a ≡ map (λ s. role_code s.role) b → a ≡ b
same_said [] [] e f = refl
same_said [] (t ∷ b) e f = (let wrong : ⊥ = cc in absurd wrong)
same_said (s ∷ a) [] e f = (let wrong : ⊥ = cc in absurd wrong)
same_said (s ∷ a) (t ∷ b) e f =
    let word : s.word ≡ t.word = cc in
    let code : role_code s.role ≡ role_code t.role = cc in
    let words : map (λ z. z.word) a ≡ map (λ z. z.word) b = cc in
    let codes : map (λ z. role_code z.role) a ≡ map (λ z. role_code z.role) b = cc in
    let role = same_role s.role t.role code in
    let rest = same_said a b words codes in
    λ i. record { role = role i; word = word i } ∷ rest i

-- ---- one derivation, one table

same_text : (ws : List ℕ) (a b : Labelled) (r : Reading) → Verdict table ws r → Derives table a → ws ≡ sorts a
    → Derives table b → ws ≡ sorts b → a ≡ b
same_text ws a b (took ls []) v d e g f = v.only a d e ∙ sym (v.only b g f)
same_text ws a b (took ls (w ∷ rest)) v d e g f = absurd (v.refused (a, d, e))
same_text ws a b (fails n) v d e g f = absurd (v.refused (a, d, e))

one_said : (sql : List ℕ) (a b : List Said) → IsSaid sql a → IsSaid sql b → a ≡ b
one_said sql a b h g =
    let text = same_text (sorts_of sql) h.text g.text (reads table (sorts_of sql)) (is_verdict table (sorts_of sql) refl)
    h.derives h.words g.derives g.words in
    same_said a b (h.words_are ∙ sym g.words_are)
    (h.roles_are ∙ (ap (λ z. map (λ l. l.0) z) text ∙ sym g.roles_are))

one_table : (sql : List ℕ) (a b : Table) → IsRead sql a → IsRead sql b → a ≡ b
one_table sql a b h g = h.says ∙ (ap (table_of sql) (one_said sql h.said g.said h.is_said g.is_said) ∙ sym g.says)

accepted : (sql : List ℕ) (t : Table) → IsRead sql t → Accepts table (sorts_of sql)
accepted sql t h = (h.is_said.text, h.is_said.derives, h.is_said.words)

-- ---- the laws

pub one_shape : OneShape
one_shape sql a b h g = h.means ∙ (ap shape_of (one_table sql h.t g.t h.read g.read) ∙ sym g.means)

pub is_valid : IsValid
is_valid sql shape h = subst IsShape (sym h.means) (valid h.t h.sound h.few)

pub is_related : IsRelated
is_related sql shape h =
    let s = sound_of h.t h.sound in
    record {
      plain = h.plain;
      t = h.t;
      read = h.read;
      stored = s.stored;
      sound = s.keys;
      few = few_columns h.t s.small;
      means = h.means;
    }

pub is_within : IsWithin
is_within sql shape h small = by_limit (over_limit h.t) refl
  where
    sound : over_limit h.t ≡ false → first_fault h.t ≡ None
    sound e = rw (h.stored, e, h.sound) refl

    limit : over_limit h.t ≡ true → first_fault h.t ≡ Some Limit
    limit e = rw (h.stored, e) refl

    by_limit : (b : Bool) → over_limit h.t ≡ b → IsCreate sql shape
    by_limit true e = absurd (small (record { plain = h.plain; t = h.t; read = h.read; outcome = limit e }))
    by_limit false e = record { plain = h.plain; t = h.t; read = h.read; sound = sound e; means = h.means }

-- ---- what is answered

pub told : (sql : List ℕ) (said : List Said) (t : Table) (result : Result TableShape CreateFault)
    → is_virtual sql ≡ false → IsSaid sql said → t ≡ table_of sql said → Means t result → IsAnswer sql result
told sql said t (Ok shape) v s e m = record {
  plain = v;
  t = t;
  read = record { said = said; is_said = s; says = e };
  sound = m.0;
  means = m.1;
}
told sql said t (Err Virtual) v s e m = absurd m
told sql said t (Err (Form at)) v s e m = absurd m
told sql said t (Err Generated) v s e m =
    record { plain = v; t = t; read = record { said = said; is_said = s; says = e }; outcome = m }
told sql said t (Err Limit) v s e m =
    record { plain = v; t = t; read = record { said = said; is_said = s; says = e }; outcome = m }
told sql said t (Err Key) v s e m =
    record { plain = v; t = t; read = record { said = said; is_said = s; says = e }; outcome = m }
told sql said t (Err Memory) v s e m = tt

-- ---- what is so is answered

-- what a text has for an outcome
no_virtual : (sql : List ℕ) → is_virtual sql ≡ true → is_virtual sql ≡ false → ⊥
no_virtual sql h g = true≢false (sym h ∙ g)

no_form : (sql : List ℕ) (at : ℕ) (t : Table) → LeavesAt sql at → IsRead sql t → ⊥
no_form sql at t h g = h.form.refused (accepted sql t g)

same_outcome : (sql : List ℕ) (a b : Option CreateFault) → HasOutcome sql a → HasOutcome sql b → a ≡ b
same_outcome sql a b h g = sym h.outcome ∙ (ap first_fault (one_table sql h.t g.t h.read g.read) ∙ g.outcome)

same_fault : (sql : List ℕ) (a b : CreateFault) → HasOutcome sql (Some a) → HasOutcome sql (Some b) → a ≡ b
same_fault sql a b h g = let e = same_outcome sql (Some a) (Some b) h g in cc

as_outcome : (sql : List ℕ) (shape : Shape) → IsCreate sql shape → HasOutcome sql None
as_outcome sql shape h = record { plain = h.plain; t = h.t; read = h.read; outcome = h.sound }

no_outcome : (sql : List ℕ) (shape : Shape) (a : CreateFault) → IsCreate sql shape → HasOutcome sql (Some a) → ⊥
no_outcome sql shape a h g = let e = same_outcome sql None (Some a) (as_outcome sql shape h) g in cc

no_fault_beside : (sql : List ℕ) (shape : Shape) (fault : CreateFault) → IsCreate sql shape → (fault ≡ Memory → ⊥)
    → HasFault sql fault → ⊥
no_fault_beside sql shape Virtual h m f = no_virtual sql f h.plain
no_fault_beside sql shape (Form at) h m f = no_form sql at h.t f h.read
no_fault_beside sql shape Generated h m f = no_outcome sql shape Generated h f
no_fault_beside sql shape Limit h m f = no_outcome sql shape Limit h f
no_fault_beside sql shape Key h m f = no_outcome sql shape Key h f
no_fault_beside sql shape Memory h m f = m refl

one_place : (ws : List ℕ) (a b : ℕ) → IsFormAt table ws a → IsFormAt table ws b → a ≡ b
one_place ws a b h g =
    let low : a < b → ⊥ = λ l. h.longest b l g.within g.begins in
    let high : b < a → ⊥ = λ l. g.longest a l h.within h.begins in
    omega (arith, low, high)

one_fault : (sql : List ℕ) (a b : CreateFault) → (a ≡ Memory → ⊥) → (b ≡ Memory → ⊥) → HasFault sql a → HasFault sql b → a ≡ b
one_fault sql Virtual Virtual m n h g = refl
one_fault sql Virtual (Form to) m n h g = absurd (no_virtual sql h g.plain)
one_fault sql Virtual Generated m n h g = absurd (no_virtual sql h g.plain)
one_fault sql Virtual Limit m n h g = absurd (no_virtual sql h g.plain)
one_fault sql Virtual Key m n h g = absurd (no_virtual sql h g.plain)
one_fault sql Virtual Memory m n h g = absurd (n refl)
one_fault sql (Form at) Virtual m n h g = absurd (no_virtual sql g h.plain)
one_fault sql (Form at) (Form to) m n h g = ap Form (one_place (sorts_of sql) at to h.form g.form)
one_fault sql (Form at) Generated m n h g = absurd (no_form sql at g.t h g.read)
one_fault sql (Form at) Limit m n h g = absurd (no_form sql at g.t h g.read)
one_fault sql (Form at) Key m n h g = absurd (no_form sql at g.t h g.read)
one_fault sql (Form at) Memory m n h g = absurd (n refl)
one_fault sql Generated Virtual m n h g = absurd (no_virtual sql g h.plain)
one_fault sql Generated (Form to) m n h g = absurd (no_form sql to h.t g h.read)
one_fault sql Generated Generated m n h g = same_fault sql Generated Generated h g
one_fault sql Generated Limit m n h g = same_fault sql Generated Limit h g
one_fault sql Generated Key m n h g = same_fault sql Generated Key h g
one_fault sql Generated Memory m n h g = absurd (n refl)
one_fault sql Limit Virtual m n h g = absurd (no_virtual sql g h.plain)
one_fault sql Limit (Form to) m n h g = absurd (no_form sql to h.t g h.read)
one_fault sql Limit Generated m n h g = same_fault sql Limit Generated h g
one_fault sql Limit Limit m n h g = same_fault sql Limit Limit h g
one_fault sql Limit Key m n h g = same_fault sql Limit Key h g
one_fault sql Limit Memory m n h g = absurd (n refl)
one_fault sql Key Virtual m n h g = absurd (no_virtual sql g h.plain)
one_fault sql Key (Form to) m n h g = absurd (no_form sql to h.t g h.read)
one_fault sql Key Generated m n h g = same_fault sql Key Generated h g
one_fault sql Key Limit m n h g = same_fault sql Key Limit h g
one_fault sql Key Key m n h g = same_fault sql Key Key h g
one_fault sql Key Memory m n h g = absurd (n refl)
one_fault sql Memory Virtual m n h g = absurd (m refl)
one_fault sql Memory (Form to) m n h g = absurd (m refl)
one_fault sql Memory Generated m n h g = absurd (m refl)
one_fault sql Memory Limit m n h g = absurd (m refl)
one_fault sql Memory Key m n h g = absurd (m refl)
one_fault sql Memory Memory m n h g = absurd (m refl)

pub only : (sql : List ℕ) (result : Result TableShape CreateFault) → IsAnswer sql result → IsOnly sql result
only sql (Ok found) f shape h = f.means ∙ (ap shape_of (one_table sql f.t h.t f.read h.read) ∙ sym h.means)
only sql (Err Virtual) f shape h = absurd (no_virtual sql f h.plain)
only sql (Err (Form at)) f shape h = absurd (no_form sql at h.t f h.read)
only sql (Err Generated) f shape h = absurd (no_outcome sql shape Generated h f)
only sql (Err Limit) f shape h = absurd (no_outcome sql shape Limit h f)
only sql (Err Key) f shape h = absurd (no_outcome sql shape Key h f)
only sql (Err Memory) f shape h = refl

pub only_fault : (sql : List ℕ) (result : Result TableShape CreateFault) → IsAnswer sql result → IsOnlyFault sql result
only_fault sql (Ok found) f fault m h = no_fault_beside sql (shape_seen found) fault f m h
only_fault sql (Err other) f fault m h = λ n. one_fault sql other fault n m f h
