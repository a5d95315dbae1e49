-- What a reading says of a language: the statement that goes through the forms.
use Rattle.std.proofs.Common.{◌≡◌, refl, sym, ap, arith, zero-add, ◌∙◌, subst, ℕ, ◌+◌, Bool, true, false, if◌then◌else◌, List, [], ◌∷◌, ◌++◌, append_assoc, length}
use Rattle.word_grammar.specs.Form.{Labelled, sorts, Then}
use Rattle.word_grammar.specs.Reading.{Reading, took, fails, with_front, and_then}
use Rattle.word_grammar.proofs.Tests.{regroup, cancel}

-- words that are the same up to the next one
abbrev pub SameHead : List ℕ → List ℕ → Type 0
SameHead [] [] = Unit {0}
SameHead [] (w ∷ ws) = ⊥
SameHead (v ∷ vs) [] = ⊥
SameHead (v ∷ vs) (w ∷ ws) = v ≡ w

pub same_behind : (s y z : List ℕ) → SameHead y z → SameHead (s ++ y) (s ++ z)
same_behind [] y z h = h
same_behind (a ∷ s) y z h = refl

-- a front of the words is a text of the language D, and the only one with which words that are the same up to
-- the next one go on as A allows
pub record Took (D : Labelled → Type 0) (A : List ℕ → Type 0) (ws : List ℕ) (ls : Labelled) (rest : List ℕ) : Type 0 where
  pub is : D ls
  pub words : ws ≡ sorts ls ++ rest
  pub only : (l : Labelled) (x y : List ℕ) → D l → A x → sorts l ++ x ≡ sorts ls ++ y → SameHead y rest → l ≡ ls

-- a text of D begins with a front of n words, and none goes on with the next word
pub record Failed (D : Labelled → Type 0) (A : List ℕ → Type 0) (ws : List ℕ) (n : ℕ) : Type 0 where
  pub front : List ℕ
  pub rest : List ℕ
  pub words : ws ≡ front ++ rest
  pub len : length front ≡ n
  pub text : Labelled
  pub more : List ℕ
  pub is : D text
  pub begins : sorts text ≡ front ++ more
  pub none : (l : Labelled) (x y : List ℕ) → D l → A x → sorts l ++ x ≡ front ++ y → SameHead y rest → ⊥

abbrev pub Exact : (Labelled → Type 0) → (List ℕ → Type 0) → List ℕ → Reading → Type 0
Exact D A ws (took ls rest) = Took D A ws ls rest
Exact D A ws (fails n) = Failed D A ws n

-- words that are the same up to the next one have the same first word
agree : (s y rest t ws : List ℕ) → t ≡ s ++ y → ws ≡ s ++ rest → SameHead y rest → SameHead t ws
agree s y rest t ws e w h =
    subst (λ (v : List ℕ). SameHead t v) (sym w)
    (subst (λ (v : List ℕ). SameHead v (s ++ rest)) (sym e) (same_behind s y rest h))

-- a larger language, of which those that have the same first word are in the smaller one
pub grow : (D L : Labelled → Type 0) (A : List ℕ → Type 0) (ws : List ℕ) (r : Reading)
    → ((l : Labelled) → D l → L l)
    → ((l : Labelled) (x : List ℕ) → L l → A x → SameHead (sorts l ++ x) ws → D l)
    → Exact D A ws r → Exact L A ws r
grow D L A ws (took ls rest) up down t = record {
  is = up ls t.is;
  words = t.words;
  only = λ l x y d a e s. t.only l x y (down l x d a (agree (sorts ls) y rest (sorts l ++ x) ws e t.words s)) a e s;
}
grow D L A ws (fails n) up down t = record {
  front = t.front;
  rest = t.rest;
  words = t.words;
  len = t.len;
  text = t.text;
  more = t.more;
  is = up t.text t.is;
  begins = t.begins;
  none = λ l x y d a e s. t.none l x y (down l x d a (agree t.front y t.rest (sorts l ++ x) ws e t.words s)) a e s;
}

pub by_test : (D : Labelled → Type 0) (A : List ℕ → Type 0) (ws : List ℕ) (b : Bool) (p q : Reading)
    → (b ≡ true → Exact D A ws p) → (b ≡ false → Exact D A ws q) → Exact D A ws (if b then p else q)
by_test D A ws true p q h g = h refl
by_test D A ws false p q h g = g refl

-- what is behind the text of one language may be read as another
pub record Bridge (E : Labelled → Type 0) (A B : List ℕ → Type 0) : Type 0 where
  pub passes : (l : Labelled) (x : List ℕ) → E l → A x → B (sorts l ++ x)
  pub text : Labelled
  pub is : E text

length_sorts : (ls : Labelled) (front : List ℕ) → length (sorts ls ++ front) ≡ length ls + length front
length_sorts [] front = sym (zero-add (length front))
length_sorts (l ∷ ls) front = let step = length_sorts ls front in grind (arith, step)

pub sorts_append : (a b : Labelled) → sorts (a ++ b) ≡ sorts a ++ sorts b
sorts_append [] b = refl
sorts_append (l ∷ a) b = ap (λ t. l.1 ∷ t) (sorts_append a b)

-- two texts in a row, the second of which is read behind the first
behind : (D E : Labelled → Type 0) (A B : List ℕ → Type 0) (ws : List ℕ) (ls : Labelled) (rest : List ℕ) (q : Reading)
    → Took D B ws ls rest → Bridge E A B → Exact E A rest q → Exact (Then D E) A ws (with_front ls q)
behind D E A B ws ls rest (took ms left) t bridge u = record {
  is = (ls, ms, refl, t.is, u.is);
  words = t.words ∙ (ap (λ z. sorts ls ++ z) u.words ∙ sym (regroup ls ms left));
  only = λ l x y d a e s.
      let whole : sorts d.0 ++ (sorts d.1 ++ x) ≡ sorts ls ++ (sorts ms ++ y) =
      sym (regroup d.0 d.1 x) ∙ (ap (λ z. sorts z ++ x) (sym d.2) ∙ (e ∙ regroup ls ms y)) in
      let first : d.0 ≡ ls = t.only d.0 (sorts d.1 ++ x) (sorts ms ++ y) d.3 (bridge.passes d.1 x d.4 a) whole
      (subst (λ (v : List ℕ). SameHead (sorts ms ++ y) v) (sym u.words) (same_behind (sorts ms) y left s)) in
      let later : sorts d.1 ++ x ≡ sorts ms ++ y = cancel (sorts ls) _ _ (ap (λ z. sorts z ++ (sorts d.1 ++ x)) (sym first) ∙ whole) in
      let second : d.1 ≡ ms = u.only d.1 x y d.4 a later s in
      d.2 ∙ (λ i. first i ++ second i);
}
behind D E A B ws ls rest (fails n) t bridge u = record {
  front = sorts ls ++ u.front;
  rest = u.rest;
  words = t.words ∙ (ap (λ z. sorts ls ++ z) u.words ∙ sym (append_assoc (sorts ls) u.front u.rest));
  len = length_sorts ls u.front ∙ ap (λ z. length ls + z) u.len;
  text = ls ++ u.text;
  more = u.more;
  is = (ls, u.text, refl, t.is, u.is);
  begins = sorts_append ls u.text ∙ (ap (λ z. sorts ls ++ z) u.begins ∙ sym (append_assoc (sorts ls) u.front u.more));
  none = λ l x y d a e s.
      let whole : sorts d.0 ++ (sorts d.1 ++ x) ≡ sorts ls ++ (u.front ++ y) =
      sym (regroup d.0 d.1 x) ∙ (ap (λ z. sorts z ++ x) (sym d.2) ∙ (e ∙ append_assoc (sorts ls) u.front y)) in
      let first : d.0 ≡ ls = t.only d.0 (sorts d.1 ++ x) (u.front ++ y) d.3 (bridge.passes d.1 x d.4 a) whole
      (subst (λ (v : List ℕ). SameHead (u.front ++ y) v) (sym u.words) (same_behind u.front y u.rest s)) in
      let later : sorts d.1 ++ x ≡ u.front ++ y = cancel (sorts ls) _ _ (ap (λ z. sorts z ++ (sorts d.1 ++ x)) (sym first) ∙ whole) in
      u.none d.1 x y d.4 a later s;
}

pub both : (D E : Labelled → Type 0) (A B : List ℕ → Type 0) (ws : List ℕ) (r : Reading) (next : List ℕ → Reading)
    → Exact D B ws r → Bridge E A B
    → ((ls : Labelled) (rest : List ℕ) → D ls → ws ≡ sorts ls ++ rest → Exact E A rest (next rest))
    → Exact (Then D E) A ws (and_then r next)
both D E A B ws (took ls rest) next t bridge further =
    behind D E A B ws ls rest (next rest) t bridge (further ls rest t.is t.words)
both D E A B ws (fails n) next t bridge further = record {
  front = t.front;
  rest = t.rest;
  words = t.words;
  len = t.len;
  text = t.text ++ bridge.text;
  more = t.more ++ sorts bridge.text;
  is = (t.text, bridge.text, refl, t.is, bridge.is);
  begins = sorts_append t.text bridge.text ∙ (ap (λ z. z ++ sorts bridge.text) t.begins
      ∙ append_assoc t.front t.more (sorts bridge.text));
  none = λ l x y d a e s.
      t.none d.0 (sorts d.1 ++ x) y d.3 (bridge.passes d.1 x d.4 a)
      (sym (regroup d.0 d.1 x) ∙ (ap (λ z. sorts z ++ x) (sym d.2) ∙ e)) s;
}
