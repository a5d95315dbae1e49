-- What a text says: its words with their roles (docs/CREATE_TABLE.md, "Roles").
use Rattle.std.specs.Prelude.{◌≡◌, ℕ, ◌<◌, ◌^◌, Bool, true, false, ◌&&◌, nat_eq, Result, Ok, Err, List, [], ◌∷◌, map}
use Rattle.create_grammar.specs.declared.pass.Stop.{Stop}
use Rattle.create_grammar.specs.declared.pass.Stop.TheVariants.{Form, Memory}
use Rattle.create_grammar.specs.declared.reading.GrammarFault.{GrammarFault}
use Rattle.create_grammar.specs.declared.reading.GrammarFault.TheVariants as fault
use Rattle.create_grammar.specs.declared.reading.Said.{Said}
use Rattle.create_grammar.specs.declared.roles.Role.{Role}
use Rattle.create_grammar.specs.declared.sorts.Sort.TheVariants.{Create, Table, Virtual}
use Rattle.create_grammar.specs.Grammar.{table}
use Rattle.create_grammar.specs.Roles.{role_code}
use Rattle.create_grammar.specs.Sorts.{code, sorts_of}
use Rattle.create_grammar.specs.Words.{words_of}
use Rattle.word_grammar.specs.Form.{Labelled, Derives, IsFormAt, sorts, roles}

-- whether the first three words are CREATE VIRTUAL TABLE
abbrev pub begins_virtual : List ℕ → Bool
begins_virtual [] = false
begins_virtual (a ∷ []) = false
begins_virtual (a ∷ b ∷ []) = false
begins_virtual (a ∷ b ∷ c ∷ ws) = nat_eq a (code Create) && (nat_eq b (code Virtual) && nat_eq c (code Table))

abbrev pub is_virtual : List ℕ → Bool
is_virtual sql = begins_virtual (sorts_of sql)

-- whether a word has a role
abbrev pub is : Role → Said → Bool
is r s = nat_eq (role_code s.role) (role_code r)

-- the text is one of the grammar, and its words have these roles
pub record IsSaid (sql : List ℕ) (said : List Said) : Type 0 where
  pub text : Labelled
  pub derives : Derives table text
  pub words : sorts_of sql ≡ sorts text
  pub words_are : map (λ s. s.word) said ≡ words_of sql
  pub roles_are : map (λ s. role_code s.role) said ≡ roles text

-- words with these sorts are a text of the grammar, and have these roles
pub record HaveRoles (ws : List ℕ) (found : List Role) : Type 0 where
  pub text : Labelled
  pub derives : Derives table text
  pub words : ws ≡ sorts text
  pub roles_are : map role_code found ≡ roles text

-- what the pass over sorts answers
abbrev pub RolesBy : List ℕ → Result (List Role) GrammarFault → Type 0
RolesBy ws (Ok found) = HaveRoles ws found
RolesBy ws (Err fault.Virtual) = ⊥
RolesBy ws (Err (fault.Form at)) = IsFormAt table ws at
RolesBy ws (Err fault.Memory) = Unit {0}

-- a stop of the pass, as a fault; its place fits
abbrev pub fault_of : Stop → GrammarFault
fault_of (Form at) = fault.Form at
fault_of Memory = fault.Memory

abbrev pub IsSmall : Stop → Type 0
IsSmall (Form at) = at < 2 ^ 32
IsSmall Memory = Unit {0}

-- what the reading of a text answers
abbrev pub SaidBy : List ℕ → Result (List Said) GrammarFault → Type 0
SaidBy sql (Ok said) = (is_virtual sql ≡ false) × IsSaid sql said
SaidBy sql (Err fault.Virtual) = is_virtual sql ≡ true
SaidBy sql (Err (fault.Form at)) = (is_virtual sql ≡ false) × IsFormAt table (sorts_of sql) at
SaidBy sql (Err fault.Memory) = Unit {0}

-- an answer with a vector, as one with its items
abbrev pub seen_as : {V T E : Type 0} → (V → T) → Result V E → Result T E
seen_as f (Ok v) = Ok (f v)
seen_as f (Err e) = Err e
