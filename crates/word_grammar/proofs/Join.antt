-- Words, groups and repetition: their readings are exact.
use Rattle.std.proofs.Common.{◌≡◌, refl, sym, ap, ◌∙◌, subst, arith, ◌⊎◌, inl, inr, ℕ, zero, suc, ◌+◌, ◌≤◌, nat_eq, true, false, if◌then◌else◌, List, [], ◌∷◌, ◌++◌, length, length-append}
use Rattle.std.proofs.lemmas.Bool.{true≢false}
use Rattle.std.specs.List.{AllByRecursion}
use Rattle.word_grammar.specs.Form.{Labelled, sorts, has, opens, closes, bad, depth_behind, joined, IsWord, Closes, IsGroup, Then, Star}
use Rattle.word_grammar.specs.Reading.{Reading, took, fails, with_front, and_then, next_in, is_some_class, reads_word, reads_inside, reads_group, reads_many}
use Rattle.word_grammar.proofs.Starts.{OpensWith, some_word}
use Rattle.word_grammar.proofs.Exact.{SameHead, Took, Failed, Exact, grow, by_test, Bridge, both, sorts_append}

-- ---- one word

-- the first word of what is the same up to the next word
pub first_same : (v w : ℕ) (t x ws : List ℕ) → x ≡ v ∷ t → SameHead x (w ∷ ws) → v ≡ w
first_same v w t x ws e h = subst (λ (z : List ℕ). SameHead z (w ∷ ws)) e h

pub first_none : (v : ℕ) (t x : List ℕ) → x ≡ v ∷ t → SameHead x [] → ⊥
first_none v t x e h = subst (λ (z : List ℕ). SameHead z []) e h

word_text : (role : ℕ) (class : List ℕ) (l : Labelled) (x : List ℕ) (d : IsWord role class l) → sorts l ++ x ≡ d.0 ∷ x
word_text role class l x d = ap (λ z. sorts z ++ x) d.1

-- no text goes on with the next word, and nothing was read
refused : (D : Labelled → Type 0) (A : List ℕ → Type 0) (ws : List ℕ) (text : Labelled) → D text
    → ((l : Labelled) (x : List ℕ) → D l → SameHead (sorts l ++ x) ws → ⊥) → Failed D A ws 0
refused D A ws text is never = record {
  front = [];
  rest = ws;
  words = refl;
  len = refl;
  text = text;
  more = sorts text;
  is = is;
  begins = refl;
  none = λ l x y d a e s. never l x d (subst (λ (z : List ℕ). SameHead z ws) (sym e) s);
}

word_refused : (role : ℕ) (class : List ℕ) (A : List ℕ → Type 0) (ws : List ℕ) → is_some_class class ≡ true
    → ((l : Labelled) (x : List ℕ) → IsWord role class l → SameHead (sorts l ++ x) ws → ⊥)
    → Failed (IsWord role class) A ws 0
word_refused role class A ws some never =
    refused (IsWord role class) A ws (some_word role class some).0 (some_word role class some).1 never

pub word_exact : (role : ℕ) (class : List ℕ) (A : List ℕ → Type 0) (ws : List ℕ) → is_some_class class ≡ true
    → Exact (IsWord role class) A ws (reads_word role class ws)
word_exact role class A [] some =
    word_refused role class A [] some (λ l x d s. first_none d.0 x (sorts l ++ x) (word_text role class l x d) s)
word_exact role class A (w ∷ ws) some =
    by_test (IsWord role class) A (w ∷ ws) (has class w) (took ((role, w) ∷ []) ws) (fails 0)
    (λ h. record {
      is = (w, refl, h);
      words = refl;
      only = λ l x y d a e s.
          let same : d.0 ∷ x ≡ w ∷ y = sym (word_text role class l x d) ∙ e in
          let first : d.0 ≡ w = cc in
          d.1 ∙ ap (λ z. (role, z) ∷ []) first;
    })
    (λ h. word_refused role class A (w ∷ ws) some (λ l x d s.
    let same = first_same d.0 w x (sorts l ++ x) ws (word_text role class l x d) s in
    true≢false (sym d.2 ∙ (ap (has class) same ∙ h))))

-- ---- the rest of a group

-- as many closing parentheses as a depth
abbrev closing : ℕ → Labelled
closing zero = []
closing (suc d) = (0, closes) ∷ closing d

closing_closes : (d : ℕ) → Closes d (closing d)
closing_closes zero = refl
closing_closes (suc d) = (refl, refl, closing_closes d)

-- one word more before a language
pub one_more : (D E : Labelled → Type 0) (A : List ℕ → Type 0) (role w : ℕ) (ws : List ℕ) (r : Reading)
    → ((l : Labelled) → E l → D ((role, w) ∷ l))
    → (D [] → ⊥)
    → ((p : ℕ × ℕ) (l : Labelled) → D (p ∷ l) → p.1 ≡ w → (p ≡ (role, w)) × E l)
    → Exact E A ws r → Exact D A (w ∷ ws) (with_front ((role, w) ∷ []) r)
one_more D E A role w ws (took ls rest) up empty down t = record {
  is = up ls t.is;
  words = ap (λ z. w ∷ z) t.words;
  only = λ l x y. only_one l x y;
}
  where
    only_one : (l : Labelled) (x y : List ℕ) → D l → A x → sorts l ++ x ≡ w ∷ (sorts ls ++ y) → SameHead y rest → l ≡ (role, w) ∷ ls
    only_one [] x y d a e s = absurd (empty d)
    only_one (p ∷ l) x y d a e s =
        let first : p.1 ≡ w = cc in
        let more : sorts l ++ x ≡ sorts ls ++ y = cc in
        let parts = down p l d first in
        let same : l ≡ ls = t.only l x y parts.1 a more s in
        λ i. parts.0 i ∷ same i
one_more D E A role w ws (fails n) up empty down t = record {
  front = w ∷ t.front;
  rest = t.rest;
  words = ap (λ z. w ∷ z) t.words;
  len = (let same : length t.front ≡ n = t.len in grind (arith, same));
  text = (role, w) ∷ t.text;
  more = t.more;
  is = up t.text t.is;
  begins = ap (λ z. w ∷ z) t.begins;
  none = λ l x y. no_one l x y;
}
  where
    no_one : (l : Labelled) (x y : List ℕ) → D l → A x → sorts l ++ x ≡ w ∷ (t.front ++ y) → SameHead y t.rest → ⊥
    no_one [] x y d a e s = empty d
    no_one (p ∷ l) x y d a e s =
        let first : p.1 ≡ w = cc in
        let more : sorts l ++ x ≡ t.front ++ y = cc in
        let parts = down p l d first in
        t.none l x y parts.1 a more s

inside_refused : (A : List ℕ → Type 0) (d : ℕ) (ws : List ℕ)
    → ((l : Labelled) (x : List ℕ) → Closes (suc d) l → SameHead (sorts l ++ x) ws → ⊥)
    → Failed (Closes (suc d)) A ws 0
inside_refused A d ws never = refused (Closes (suc d)) A ws (closing (suc d)) (closing_closes (suc d)) never

inside_exact : (A : List ℕ → Type 0) (d : ℕ) (ws : List ℕ) → Exact (Closes d) A ws (reads_inside d ws)
inside_exact A zero ws = record { is = refl; words = refl; only = λ l x y d a e s. d }
inside_exact A (suc d) [] = inside_refused A d [] (λ l x. ends l x)
  where
    ends : (l : Labelled) (x : List ℕ) → Closes (suc d) l → SameHead (sorts l ++ x) [] → ⊥
    ends [] x c s = c
    ends (p ∷ l) x c s = s
inside_exact A (suc d) (w ∷ ws) = inside_at (inside_exact A (depth_behind d w) ws)
  where
    no_bad : nat_eq w bad ≡ true → (l : Labelled) (x : List ℕ) → Closes (suc d) l → SameHead (sorts l ++ x) (w ∷ ws) → ⊥
    no_bad h [] x c s = c
    no_bad h (p ∷ l) x c s = true≢false (sym h ∙ (ap (λ z. nat_eq z bad) (sym s) ∙ c.1))

    inside_at : Exact (Closes (depth_behind d w)) A ws (reads_inside (depth_behind d w) ws)
        → Exact (Closes (suc d)) A (w ∷ ws) (if nat_eq w bad then fails 0 else with_front ((0, w) ∷ []) (reads_inside (depth_behind d w) ws))
    inside_at e = by_test (Closes (suc d)) A (w ∷ ws) (nat_eq w bad) (fails 0)
        (with_front ((0, w) ∷ []) (reads_inside (depth_behind d w) ws))
        (λ h. inside_refused A d (w ∷ ws) (no_bad h))
        (λ h. one_more (Closes (suc d)) (Closes (depth_behind d w)) A 0 w ws (reads_inside (depth_behind d w) ws)
        (λ l c. (refl, h, c))
        (λ c. c)
        (λ p l c same. ((λ i. (c.0 i, same i)), subst (λ (z : ℕ). Closes (depth_behind d z) l) same c.2))
        e)

pub group_exact : (A : List ℕ → Type 0) (ws : List ℕ) → Exact IsGroup A ws (reads_group ws)
group_exact A ws = both (IsWord 0 (opens ∷ [])) (Closes 1) A (λ _. Unit {0}) ws
    (reads_word 0 (opens ∷ []) ws) (reads_inside 1) (word_exact 0 (opens ∷ []) (λ _. Unit {0}) ws refl)
    (record { passes = λ l x d a. tt; text = closing 1; is = closing_closes 1 })
    (λ ls rest d e. inside_exact A 1 rest)

-- ---- a form again and again

pub record Again (D : Labelled → Type 0) (A B : List ℕ → Type 0) (first : List ℕ) (reader : List ℕ → Reading) : Type 0 where
  pub exact : (ws : List ℕ) → Exact D B ws (reader ws)
  pub bridge : Bridge (Star D) A B
  pub opens : (l : Labelled) → D l → OpensWith first l
  pub ends : (x : List ℕ) (w : ℕ) (ws : List ℕ) → A x → SameHead x (w ∷ ws) → has first w ≡ true → ⊥

-- a text that begins in a class, and more behind it
pub opens_append : (first : List ℕ) (a b : Labelled) → OpensWith first a → OpensWith first (a ++ b)
opens_append first a b o = record {
  sort = o.sort;
  more = o.more ++ sorts b;
  is = sorts_append a b ∙ ap (λ z. z ++ sorts b) o.is;
  among = o.among;
}

-- it does not go on with a next word that is not of the class
pub opened : (first : List ℕ) (l : Labelled) (x ws : List ℕ) → OpensWith first l → next_in first ws ≡ false
    → SameHead (sorts l ++ x) ws → ⊥
opened first l x [] o h s = first_none o.sort (o.more ++ x) (sorts l ++ x) (ap (λ z. z ++ x) o.is) s
opened first l x (w ∷ ws) o h s =
    let same = first_same o.sort w (o.more ++ x) (sorts l ++ x) ws (ap (λ z. z ++ x) o.is) s in
    true≢false (sym o.among ∙ (ap (has first) same ∙ h))

-- a language whose texts are empty or begin in a class, where the next word is not of it
pub stop : (L : Labelled → Type 0) (A : List ℕ → Type 0) (first : List ℕ) → L []
    → ((l : Labelled) → L l → (l ≡ []) ⊎ OpensWith first l)
    → (ws : List ℕ) → next_in first ws ≡ false → Took L A ws [] ws
stop L A first is starts ws h = record {
  is = is;
  words = refl;
  only = λ l x y d a e s. elim (starts l d) [
    | inl none ↦ none
    | inr o ↦ absurd (opened first l x ws o h (subst (λ (z : List ℕ). SameHead z ws) (sym e) s))
  ];
}

pub star_opens : (D : Labelled → Type 0) (first : List ℕ) → ((l : Labelled) → D l → OpensWith first l)
    → (l : Labelled) (parts : List Labelled) → l ≡ joined parts → AllByRecursion D parts → (l ≡ []) ⊎ OpensWith first l
star_opens D first opening l [] e all = inl e
star_opens D first opening l (part ∷ parts) e all =
    inr (subst (OpensWith first) (sym e) (opens_append first part (joined parts) (opening part all.0)))

length_append_sorts : (ls : Labelled) (rest ws : List ℕ) → ws ≡ sorts ls ++ rest → length ws ≡ length (sorts ls) + length rest
length_append_sorts ls rest ws e = ap length e ∙ length-append (sorts ls) rest

-- what is left behind a part is shorter
pub shorter : (first : List ℕ) (ls : Labelled) (rest ws : List ℕ) (n : ℕ) → OpensWith first ls → ws ≡ sorts ls ++ rest
    → length ws ≤ suc n → length rest ≤ n
shorter first ls rest ws n o e h =
    let whole = length_append_sorts ls rest ws e in
    let some : length (sorts ls) ≡ suc (length o.more) = ap length o.is in
    omega (arith, whole, some, h)

-- a next word of the class
next_word : (first ws : List ℕ) → next_in first ws ≡ true → (w : ℕ) × (t : List ℕ) × (ws ≡ w ∷ t) × (has first w ≡ true)
next_word first [] h = absurd (true≢false (sym h))
next_word first (w ∷ t) h = (w, t, refl, h)

-- what may follow does not begin like the next word
pub ended : (A : List ℕ → Type 0) (first : List ℕ)
    → ((x : List ℕ) (w : ℕ) (ws : List ℕ) → A x → SameHead x (w ∷ ws) → has first w ≡ true → ⊥)
    → (x ws : List ℕ) → A x → next_in first ws ≡ true → SameHead x ws → ⊥
ended A first ends x [] a h s = true≢false (sym h)
ended A first ends x (w ∷ ws) a h s = ends x w ws a s h

pub star_exact : (D : Labelled → Type 0) (A B : List ℕ → Type 0) (first : List ℕ) (reader : List ℕ → Reading)
    → Again D A B first reader → (n : ℕ) (ws : List ℕ) → length ws ≤ n
    → Exact (Star D) A ws (reads_many n reader first ws)
star_exact D A B first reader k zero [] h = stop (Star D) A first ([], refl, tt) (λ l d. star_opens D first k.opens l d.0 d.1 d.2) [] refl
star_exact D A B first reader k zero (w ∷ ws) h = absurd (omega (arith, h))
star_exact D A B first reader k (suc n) ws h = by_test (Star D) A ws (next_in first ws)
    (and_then (reader ws) (reads_many n reader first)) (took [] ws)
    (λ go. grow (Then D (Star D)) (Star D) A ws (and_then (reader ws) (reads_many n reader first))
    (λ l d. (d.0 ∷ d.4.0, d.2 ∙ ap (λ z. d.0 ++ z) d.4.1, (d.3, d.4.2)))
    (λ l x d a s. down go l x d.0 d.1 d.2 a s)
    (both D (Star D) A B ws (reader ws) (reads_many n reader first) (k.exact ws) k.bridge
    (λ ls rest d e. star_exact D A B first reader k n rest (shorter first ls rest ws n (k.opens ls d) e h))))
    (λ stops. stop (Star D) A first ([], refl, tt) (λ l d. star_opens D first k.opens l d.0 d.1 d.2) ws stops)
  where
    down : next_in first ws ≡ true → (l : Labelled) (x : List ℕ) (parts : List Labelled) → l ≡ joined parts
        → AllByRecursion D parts → A x → SameHead (sorts l ++ x) ws → Then D (Star D) l
    down go l x [] e all a s = absurd (ended A first k.ends x ws a go (subst (λ (z : Labelled). SameHead (sorts z ++ x) ws) e s))
    down go l x (part ∷ parts) e all a s = (part, joined parts, e, all.0, (parts, refl, all.1))
