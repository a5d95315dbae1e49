-- Tests of classes.
use Rattle.std.proofs.Common.{◌≡◌, refl, sym, ap, ◌∙◌, ℕ, nat_eq, nat_le, Bool, true, false, not, cond, ◌&&◌, ◌||◌, if◌then◌else◌, List, [], ◌∷◌, ◌++◌, filter}
use Rattle.std.proofs.lemmas.Bool.{eqb-true}
use Rattle.create_grammar.specs.declared.sorts.Sort.{Sort}
use Rattle.create_grammar.specs.declared.sorts.Sort.TheVariants as sort
use Rattle.create_grammar.specs.Classes.{any_bare, codes_of, without}
use Rattle.create_grammar.specs.Sorts.{code}
use Rattle.word_grammar.specs.Form.{has}
use Rattle.word_grammar.proofs.Tests.{has_append}

-- the bare words stand last
pub bare_by : (s : Sort) → has any_bare (code s) ≡ nat_le 11 (code s)
bare_by sort.Open = refl
bare_by sort.Close = refl
bare_by sort.Bad = refl
bare_by sort.Comma = refl
bare_by sort.Plus = refl
bare_by sort.Minus = refl
bare_by sort.Mark = refl
bare_by sort.Number = refl
bare_by sort.Blob = refl
bare_by sort.Quoted = refl
bare_by sort.Text = refl
bare_by sort.Create = refl
bare_by sort.Table = refl
bare_by sort.Virtual = refl
bare_by sort.Without = refl
bare_by sort.Rowid = refl
bare_by sort.Strict = refl
bare_by sort.Constraint = refl
bare_by sort.Primary = refl
bare_by sort.Key = refl
bare_by sort.Unique = refl
bare_by sort.Check = refl
bare_by sort.Foreign = refl
bare_by sort.Not = refl
bare_by sort.Null = refl
bare_by sort.Default = refl
bare_by sort.Collate = refl
bare_by sort.References = refl
bare_by sort.Generated = refl
bare_by sort.Always = refl
bare_by sort.As = refl
bare_by sort.Stored = refl
bare_by sort.Deferrable = refl
bare_by sort.Initially = refl
bare_by sort.Deferred = refl
bare_by sort.Immediate = refl
bare_by sort.Asc = refl
bare_by sort.Desc = refl
bare_by sort.Autoincrement = refl
bare_by sort.On = refl
bare_by sort.Conflict = refl
bare_by sort.Delete = refl
bare_by sort.Update = refl
bare_by sort.Insert = refl
bare_by sort.Set = refl
bare_by sort.Cascade = refl
bare_by sort.Restrict = refl
bare_by sort.No = refl
bare_by sort.Action = refl
bare_by sort.Match = refl
bare_by sort.Bare = refl

-- a sort is of two classes together where it is of the one or the other
pub has_both : (a b : List ℕ) (s : ℕ) → has (a ++ b) s ≡ (has a s || has b s)
has_both a b s = has_append a b s

and_false : (q : Bool) → (q && false) ≡ false
and_false true = refl
and_false false = refl

-- a sort passes a test in a class where it is of the class and passes
kept : (e t r q u : Bool) → (e ≡ true → t ≡ u) → r ≡ (q && u)
    → (if t then (e || r) else r) ≡ ((e || q) && u)
kept true true r q u h k = h refl
kept true false r q true h k = (let same : false ≡ true = h refl in let wrong : ⊥ = cc in absurd wrong)
kept true false r q false h k = k ∙ (and_false q ∙ sym (and_false (true || q)))
kept false true r q u h k = k
kept false false r q u h k = k

has_filter : (p : ℕ → Bool) (class : List ℕ) (s : ℕ) → has (filter p class) s ≡ (has class s && p s)
has_filter p [] s = refl
has_filter p (c ∷ class) s =
    pick (p c) ∙ kept (nat_eq s c) (p c) (has (filter p class) s) (has class s) (p s)
    (λ e. ap p (sym (eqb-true s c e))) (has_filter p class s)
  where
    pick : (t : Bool) → has (cond t (c ∷ filter p class) (filter p class)) s ≡ (if t then (nat_eq s c || has (filter p class) s) else has (filter p class) s)
    pick true = refl
    pick false = refl

pub has_without : (others : List Sort) (class : List ℕ) (s : ℕ) → has (without others class) s ≡ (has class s && not (has (codes_of others) s))
has_without others class s = has_filter (λ z. not (has (codes_of others) z)) class s
