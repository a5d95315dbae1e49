-- With which sorts the texts of a form begin.
use Rattle.std.proofs.Common.{◌≡◌, refl, sym, ap, ◌∙◌, subst, inl, inr, ℕ, true, false, ◌||◌, List, [], ◌∷◌, ◌++◌}
use Rattle.std.proofs.lemmas.Bool.{true≢false, eq-eqb}
use Rattle.std.specs.List.{AllByRecursion}
use Rattle.word_grammar.specs.Form.{Form, nothing, group, word, follow, either, maybe, many, runs, Labelled, sorts, has, opens, closes, joined, Derives, Closes, IsWord, Then, Star}
use Rattle.word_grammar.specs.Reading.{firsts, may_be_empty, is_plain, is_some_class}
use Rattle.word_grammar.proofs.Tests.{both_of, one_fails, none_holds, has_left, has_right, regroup, none_of, no_nil}

-- there is no next word, or it is of the class
abbrev pub Follows : List ℕ → List ℕ → Type 0
Follows others [] = Unit {0}
Follows others (w ∷ ws) = has others w ≡ true

pub follows_left : (a b x : List ℕ) → Follows a x → Follows (a ++ b) x
follows_left a b [] h = tt
follows_left a b (w ∷ x) h = has_left a b w h

pub follows_right : (a b x : List ℕ) → Follows b x → Follows (a ++ b) x
follows_right a b [] h = tt
follows_right a b (w ∷ x) h = has_right a b w h

-- words that begin in a class, and then what follows them
starts_or : (first others : List ℕ) (l : Labelled) (x : List ℕ) → Follows first (sorts l ++ [])
    → Follows (first ++ others) x → Follows (first ++ others) (sorts l ++ x)
starts_or first others [] x h g = g
starts_or first others (p ∷ l) x h g = has_left first others p.1 h

-- parts that each pass on what follows them do so together
pub star_starts : (T : List ℕ) (D : Labelled → Type 0)
    → ((l : Labelled) (x : List ℕ) → D l → Follows T x → Follows T (sorts l ++ x))
    → (parts : List Labelled) (x : List ℕ) → AllByRecursion D parts → Follows T x → Follows T (sorts (joined parts) ++ x)
star_starts T D passes [] x all h = h
star_starts T D passes (part ∷ parts) x all h =
    subst (Follows T) (sym (regroup part (joined parts) x))
    (passes part (sorts (joined parts) ++ x) all.0 (star_starts T D passes parts x all.1 h))

-- a part that begins with a word of a class
pub word_starts : (role : ℕ) (class others : List ℕ) (D : Labelled → Type 0) (l : Labelled) (x : List ℕ)
    → Then (IsWord role class) D l → Follows (class ++ others) (sorts l ++ x)
word_starts role class others D l x d =
    let first : d.0 ++ d.1 ≡ (role, d.3.0) ∷ d.1 = ap (λ t. t ++ d.1) d.3.1 in
    subst (λ (t : Labelled). Follows (class ++ others) (sorts t ++ x)) (sym (d.2 ∙ first)) (has_left class others d.3.0 d.3.2)

-- a text of a form, and what may follow it
pub head_starts : (f : Form) (others : List ℕ) (l : Labelled) (x : List ℕ) → Derives f l → Follows others x
    → Follows (firsts f others) (sorts l ++ x)
head_starts nothing others l x d h = subst (λ (t : Labelled). Follows others (sorts t ++ x)) (sym d) h
head_starts group others l x d h = word_starts 0 (opens ∷ []) [] (Closes 1) l x d
head_starts (word role class) others l x d h =
    subst (λ (t : Labelled). Follows class (sorts t ++ x)) (sym d.1) d.2
head_starts (follow f g) others l x d h =
    subst (λ (t : Labelled). Follows (firsts f (firsts g others)) (sorts t ++ x)) (sym d.2)
    (subst (Follows (firsts f (firsts g others))) (sym (regroup d.0 d.1 x))
    (head_starts f (firsts g others) d.0 (sorts d.1 ++ x) d.3 (head_starts g others d.1 x d.4 h)))
head_starts (either f g) others l x (inl d) h = follows_left (firsts f others) (firsts g others) (sorts l ++ x) (head_starts f others l x d h)
head_starts (either f g) others l x (inr d) h = follows_right (firsts f others) (firsts g others) (sorts l ++ x) (head_starts g others l x d h)
head_starts (maybe f) others l x (inl e) h =
    subst (λ (t : Labelled). Follows (firsts f [] ++ others) (sorts t ++ x)) (sym e) (follows_right (firsts f []) others x h)
head_starts (maybe f) others l x (inr d) h =
    starts_or (firsts f []) others l x (head_starts f [] l [] d tt) (follows_right (firsts f []) others x h)
head_starts (many f) others l x d h =
    subst (λ (t : Labelled). Follows (firsts f [] ++ others) (sorts t ++ x)) (sym d.1)
    (star_starts (firsts f [] ++ others) (Derives f)
    (λ m z e g. starts_or (firsts f []) others m z (head_starts f [] m [] e tt) g)
    d.0 x d.2 (follows_right (firsts f []) others x h))
head_starts (runs role class f g) others l x d h = runs_start role class others (Derives f) (Derives g) l x d h
  where
    runs_start : (role : ℕ) (class others : List ℕ) (D E : Labelled → Type 0) (l : Labelled) (x : List ℕ)
        → Then (Star (Then (IsWord role class) D)) (Star (Then (IsWord role class) E)) l → Follows others x
        → Follows (class ++ others) (sorts l ++ x)
    runs_start role class others D E l x d h =
        let later = star_starts (class ++ others) (Then (IsWord role class) E)
        (λ (m : Labelled) (z : List ℕ) (e : Then (IsWord role class) E m) (g : Follows (class ++ others) z). word_starts role class others E m z e)
        d.4.0 x d.4.2 (follows_right class others x h) in
        let first = star_starts (class ++ others) (Then (IsWord role class) D)
        (λ (m : Labelled) (z : List ℕ) (e : Then (IsWord role class) D m) (g : Follows (class ++ others) z). word_starts role class others D m z e)
        d.3.0 (sorts (joined d.4.0) ++ x) d.3.2 later in
        let same : l ≡ joined d.3.0 ++ joined d.4.0 = d.2 ∙ (λ i. d.3.1 i ++ d.4.1 i) in
        subst (λ (t : Labelled). Follows (class ++ others) (sorts t ++ x)) (sym same)
        (subst (Follows (class ++ others)) (sym (regroup (joined d.3.0) (joined d.4.0) x)) first)

-- a form that is not empty has no empty text
not_empty : (f : Form) (l : Labelled) → may_be_empty f ≡ false → Derives f l → l ≡ [] → ⊥
not_empty nothing l h d e = true≢false h
not_empty group l h d e = no_nil (0, d.3.0) [] (sym d.3.1 ∙ (none_of d.0 d.1 (sym d.2 ∙ e)).0)
not_empty (word role class) l h d e = no_nil (role, d.0) [] (sym d.1 ∙ e)
not_empty (follow f g) l h d e =
    let parts = none_of d.0 d.1 (sym d.2 ∙ e) in
    elim (one_fails (may_be_empty f) (may_be_empty g) h) [
      | inl a ↦ not_empty f d.0 a d.3 parts.0
      | inr b ↦ not_empty g d.1 b d.4 parts.1
    ]
not_empty (either f g) l h (inl d) e = not_empty f l (none_holds (may_be_empty f) (may_be_empty g) h).0 d e
not_empty (either f g) l h (inr d) e = not_empty g l (none_holds (may_be_empty f) (may_be_empty g) h).1 d e
not_empty (maybe f) l h d e = true≢false h
not_empty (many f) l h d e = true≢false h
not_empty (runs role class f g) l h d e = true≢false h

-- a text with its first word
pub record OpensWith (first : List ℕ) (l : Labelled) : Type 0 where
  pub sort : ℕ
  pub more : List ℕ
  pub is : sorts l ≡ sort ∷ more
  pub among : has first sort ≡ true

pub opens_with : (f : Form) (l : Labelled) → may_be_empty f ≡ false → Derives f l → OpensWith (firsts f []) l
opens_with f [] h d = absurd (not_empty f [] h d refl)
opens_with f (p ∷ l) h d = record { sort = p.1; more = sorts l; is = refl; among = head_starts f [] (p ∷ l) [] d tt }

-- a plain form has a text
pub some_word : (role : ℕ) (class : List ℕ) → is_some_class class ≡ true → (ls : Labelled) × IsWord role class ls
some_word role [] h = absurd (true≢false (sym h))
some_word role (s ∷ class) h = ((role, s) ∷ [], (s, refl, first s class))
  where
    first : (s : ℕ) (class : List ℕ) → has (s ∷ class) s ≡ true
    first s class = ap (λ t. t || has class s) (eq-eqb s s refl)

pub has_text : (f : Form) (others : List ℕ) → is_plain f others ≡ true → (ls : Labelled) × Derives f ls
has_text nothing others h = ([], refl)
has_text group others h =
    ((0, opens) ∷ (0, closes) ∷ [], ((0, opens) ∷ [], (0, closes) ∷ [], refl, (opens, refl, refl), (refl, refl, refl)))
has_text (word role class) others h = some_word role class h
has_text (follow f g) others h =
    let parts = both_of (is_plain f (firsts g others)) (is_plain g others) h in
    let a = has_text f (firsts g others) parts.0 in
    let b = has_text g others parts.1 in
    (a.0 ++ b.0, (a.0, b.0, refl, a.1, b.1))
has_text (either f g) others h =
    let parts = both_of _ _ h in
    let a = has_text f others (both_of (is_plain f others) (is_plain g others) parts.0).0 in
    (a.0, inl a.1)
has_text (maybe f) others h = ([], inl refl)
has_text (many f) others h = ([], ([], refl, tt))
has_text (runs role class f g) others h = ([], ([], [], refl, ([], refl, tt), ([], refl, tt)))
