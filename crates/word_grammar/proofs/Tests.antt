-- Tests on sorts and lists of sorts.
use Rattle.std.proofs.Common.{◌≡◌, refl, sym, ap, ◌∙◌, ◌⊎◌, inl, inr, ℕ, nat_eq, Bool, true, false, not, ◌&&◌, ◌||◌, List, [], ◌∷◌, ◌++◌}
use Rattle.std.proofs.lemmas.Bool.{true≢false, eqb-true}
use Rattle.std.specs.List.{list_any}
use Rattle.word_grammar.specs.Form.{Labelled, sorts, has}
use Rattle.word_grammar.specs.Reading.{are_apart}

-- ---- of two tests

pub both_of : (a b : Bool) → (a && b) ≡ true → (a ≡ true) × (b ≡ true)
both_of true b h = (refl, h)
both_of false b h = absurd (true≢false (sym h))

pub either_of : (a b : Bool) → (a || b) ≡ true → (a ≡ true) ⊎ (b ≡ true)
either_of true b h = inl refl
either_of false b h = inr h

pub neither_of : (a b : Bool) → not (a || b) ≡ true → (a ≡ false) × (b ≡ false)
neither_of true b h = absurd (true≢false (sym h))
neither_of false true h = absurd (true≢false (sym h))
neither_of false false h = (refl, refl)

pub one_fails : (a b : Bool) → (a && b) ≡ false → (a ≡ false) ⊎ (b ≡ false)
one_fails true b h = inr h
one_fails false b h = inl refl

pub none_holds : (a b : Bool) → (a || b) ≡ false → (a ≡ false) × (b ≡ false)
none_holds true b h = absurd (true≢false h)
none_holds false b h = (refl, h)

pub fails_of : (a : Bool) → not a ≡ true → a ≡ false
fails_of true h = absurd (true≢false (sym h))
fails_of false h = refl

pub holds_right : (a : Bool) → (a || true) ≡ true
holds_right true = refl
holds_right false = refl

or_assoc : (a b c : Bool) → (a || (b || c)) ≡ ((a || b) || c)
or_assoc true b c = refl
or_assoc false b c = refl

-- ---- classes

pub has_append : (a b : List ℕ) (w : ℕ) → has (a ++ b) w ≡ (has a w || has b w)
has_append [] b w = refl
has_append (c ∷ a) b w = ap (λ t. nat_eq w c || t) (has_append a b w) ∙ or_assoc (nat_eq w c) (has a w) (has b w)

pub has_left : (a b : List ℕ) (w : ℕ) → has a w ≡ true → has (a ++ b) w ≡ true
has_left a b w h = has_append a b w ∙ ap (λ t. t || has b w) h

pub has_right : (a b : List ℕ) (w : ℕ) → has b w ≡ true → has (a ++ b) w ≡ true
has_right a b w h = has_append a b w ∙ (ap (λ t. has a w || t) h ∙ holds_right (has a w))

-- no sort is of two classes that are apart
pub apart : (class others : List ℕ) (w : ℕ) → are_apart class others ≡ true → has class w ≡ true → has others w ≡ true → ⊥
apart [] others w h p q = true≢false (sym p)
apart (c ∷ class) others w h p q =
    let parts = neither_of (has others c) (list_any (has others) class) h in
    elim (either_of (nat_eq w c) (has class w) p) [
      | inl e ↦ true≢false (sym q ∙ (ap (has others) (eqb-true w c e) ∙ parts.0))
      | inr r ↦ apart class others w (ap not parts.1) r q
    ]

-- ---- lists

-- sorts of two parts, and what follows them
pub regroup : (a b : Labelled) (x : List ℕ) → sorts (a ++ b) ++ x ≡ sorts a ++ (sorts b ++ x)
regroup [] b x = refl
regroup (l ∷ a) b x = ap (λ t. l.1 ∷ t) (regroup a b x)

pub cancel : (s y z : List ℕ) → s ++ y ≡ s ++ z → y ≡ z
cancel [] y z e = e
cancel (a ∷ s) y z e = let rest : s ++ y ≡ s ++ z = cc in cancel s y z rest

pub none_of : {X : Type 0} (a b : List X) → a ++ b ≡ [] → (a ≡ []) × (b ≡ [])
none_of [] b e = (refl, e)
none_of (x ∷ a) b e = let no : ⊥ = cc in absurd no

pub no_nil : {X : Type 0} (x : X) (xs : List X) → x ∷ xs ≡ [] → ⊥
no_nil x xs e = cc
