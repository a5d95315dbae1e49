-- The reading of every plain form is exact.
use Rattle.std.proofs.Common.{◌≡◌, refl, sym, ap, ◌∙◌, subst, arith, ◌⊎◌, inl, inr, ℕ, zero, suc, ◌≤◌, true, false, not, ◌&&◌, ◌||◌, if◌then◌else◌, List, [], ◌∷◌, ◌++◌, append_assoc, length}
use Rattle.std.proofs.lemmas.Bool.{true≢false}
use Rattle.std.specs.List.{AllByRecursion}
use Rattle.word_grammar.specs.Form.{Form, nothing, group, word, follow, either, maybe, many, runs, Labelled, sorts, has, joined, IsWord, Then, Star, Derives}
use Rattle.word_grammar.specs.Reading.{took, and_then, next_in, firsts, reads, reads_word, reads_later, reads_runs, Parts, may_be_empty, are_apart, is_some_class, is_plain}
use Rattle.word_grammar.proofs.Tests.{both_of, neither_of, fails_of, apart, regroup}
use Rattle.word_grammar.proofs.Starts.{Follows, OpensWith, opens_with, follows_right, star_starts, word_starts, head_starts, has_text}
use Rattle.word_grammar.proofs.Exact.{SameHead, Exact, grow, by_test, both}
use Rattle.word_grammar.proofs.Join.{word_exact, group_exact, first_same, opens_append, opened, stop, star_opens, shorter, ended, star_exact}

-- what may follow begins with no word of a class that is apart
never_follows : (first others : List ℕ) → are_apart first others ≡ true
    → (x : List ℕ) (w : ℕ) (ws : List ℕ) → Follows others x → SameHead x (w ∷ ws) → has first w ≡ true → ⊥
never_follows first others h [] w ws a s g = s
never_follows first others h (v ∷ x) w ws a s g = apart first others v h (subst (λ z. has first z ≡ true) (sym s) g) a

-- the next word is of the one class, so no text that begins in another class goes on
crosses : (first later : List ℕ) → are_apart first later ≡ true → (ws : List ℕ) → next_in first ws ≡ true
    → (l : Labelled) (x : List ℕ) → OpensWith later l → SameHead (sorts l ++ x) ws → ⊥
crosses first later h [] go l x o s = true≢false (sym go)
crosses first later h (w ∷ ws) go l x o s =
    let same = first_same o.sort w (o.more ++ x) (sorts l ++ x) ws (ap (λ z. z ++ x) o.is) s in
    apart first later o.sort h (subst (λ z. has first z ≡ true) (sym same) go) o.among

-- ---- (c f)* (c g)*

pub record Runs (F G : Labelled → Type 0) (role : ℕ) (class others later : List ℕ) (parts : Parts) : Type 0 where
  pub some : is_some_class class ≡ true
  pub first_exact : (ws : List ℕ) → Exact F (Follows (class ++ others)) ws (parts.first ws)
  pub later_exact : (ws : List ℕ) → Exact G (Follows (class ++ others)) ws (parts.later ws)
  pub first_opens : (l : Labelled) → F l → OpensWith parts.first_sorts l
  pub later_opens : (l : Labelled) → G l → OpensWith later l
  pub text : Labelled
  pub is : G text
  pub separate : are_apart parts.first_sorts later ≡ true
  pub ends : are_apart class others ≡ true

abbrev Items : ℕ → List ℕ → (Labelled → Type 0) → Labelled → Type 0
Items role class F = Then (IsWord role class) F

abbrev All : ℕ → List ℕ → (Labelled → Type 0) → (Labelled → Type 0) → Labelled → Type 0
All role class F G = Then (Star (Items role class F)) (Star (Items role class G))

item_opens : (role : ℕ) (class : List ℕ) (F : Labelled → Type 0) (l : Labelled) → Items role class F l → OpensWith class l
item_opens role class F l d = record {
  sort = d.3.0;
  more = sorts d.1;
  is = ap sorts (d.2 ∙ ap (λ z. z ++ d.1) d.3.1);
  among = d.3.2;
}

items_pass : (role : ℕ) (class others : List ℕ) (F : Labelled → Type 0) (l : Labelled) (x : List ℕ)
    → Star (Items role class F) l → Follows (class ++ others) x → Follows (class ++ others) (sorts l ++ x)
items_pass role class others F l x d h =
    subst (λ (z : Labelled). Follows (class ++ others) (sorts z ++ x)) (sym d.1)
    (star_starts (class ++ others) (Items role class F) (λ m z e g. word_starts role class others F m z e) d.0 x d.2 h)

all_pass : (role : ℕ) (class others : List ℕ) (F G : Labelled → Type 0) (l : Labelled) (x : List ℕ)
    → All role class F G l → Follows others x → Follows (class ++ others) (sorts l ++ x)
all_pass role class others F G l x d h =
    subst (λ (z : Labelled). Follows (class ++ others) (sorts z ++ x)) (sym d.2)
    (subst (Follows (class ++ others)) (sym (regroup d.0 d.1 x))
    (items_pass role class others F d.0 (sorts d.1 ++ x) d.3
    (items_pass role class others G d.1 x d.4 (follows_right class others x h))))

all_opens : (role : ℕ) (class : List ℕ) (F G : Labelled → Type 0) (l : Labelled) → All role class F G l
    → (l ≡ []) ⊎ OpensWith class l
all_opens role class F G l d =
    by_parts (star_opens (Items role class F) class (item_opens role class F) d.0 d.3.0 d.3.1 d.3.2)
    (star_opens (Items role class G) class (item_opens role class G) d.1 d.4.0 d.4.1 d.4.2)
  where
    by_parts : (d.0 ≡ []) ⊎ OpensWith class d.0 → (d.1 ≡ []) ⊎ OpensWith class d.1 → (l ≡ []) ⊎ OpensWith class l
    by_parts (inr o) b = inr (subst (OpensWith class) (sym d.2) (opens_append class d.0 d.1 o))
    by_parts (inl a) (inl b) = inl (d.2 ∙ λ i. a i ++ b i)
    by_parts (inl a) (inr o) = inr (subst (OpensWith class) (sym (d.2 ∙ ap (λ z. z ++ d.1) a)) o)

word_opens : (role : ℕ) (class : List ℕ) (l : Labelled) → IsWord role class l → OpensWith class l
word_opens role class l d = record { sort = d.0; more = []; is = ap sorts d.1; among = d.2 }

later_items : (F G : Labelled → Type 0) (role : ℕ) (class others later : List ℕ) (parts : Parts)
    → Runs F G role class others later parts → (ws : List ℕ)
    → Exact (Star (Items role class G)) (Follows others) ws (reads_later role class parts ws)
later_items F G role class others later parts k ws =
    star_exact (Items role class G) (Follows others) (Follows (class ++ others)) class
    (λ xs. and_then (reads_word role class xs) parts.later)
    (record {
      exact = λ xs. both (IsWord role class) G (Follows (class ++ others)) (λ _. Unit {0}) xs
          (reads_word role class xs) parts.later (word_exact role class (λ _. Unit {0}) xs k.some)
          (record { passes = λ l x d a. tt; text = k.text; is = k.is })
          (λ ls rest d e. k.later_exact rest);
      bridge = record {
        passes = λ l x d a. items_pass role class others G l x d (follows_right class others x a);
        text = [];
        is = ([], refl, tt);
      };
      opens = item_opens role class G;
      ends = never_follows class others k.ends;
    }) (length ws) ws (omega arith)

-- what stands behind a separating word: a first part and all that follows, or a later part and further ones
abbrev Behind : ℕ → List ℕ → (Labelled → Type 0) → (Labelled → Type 0) → Labelled → Type 0
Behind role class F G l = Then F (All role class F G) l ⊎ Then G (Star (Items role class G)) l

behind_exact : (F G : Labelled → Type 0) (role : ℕ) (class others later : List ℕ) (parts : Parts)
    → Runs F G role class others later parts → (n : ℕ)
    → ((ws : List ℕ) → length ws ≤ n → Exact (All role class F G) (Follows others) ws (reads_runs n role class parts ws))
    → (ws : List ℕ) → length ws ≤ n
    → Exact (Behind role class F G) (Follows others) ws (if next_in parts.first_sorts ws
    then and_then (parts.first ws) (reads_runs n role class parts)
    else and_then (parts.later ws) (reads_later role class parts))
behind_exact F G role class others later parts k n again ws h =
    by_test (Behind role class F G) (Follows others) ws (next_in parts.first_sorts ws)
    (and_then (parts.first ws) (reads_runs n role class parts))
    (and_then (parts.later ws) (reads_later role class parts))
    (λ go. grow (Then F (All role class F G)) (Behind role class F G) (Follows others) ws
    (and_then (parts.first ws) (reads_runs n role class parts))
    (λ l d. inl d)
    (λ l x d a s. is_first go l x d s)
    (both F (All role class F G) (Follows others) (Follows (class ++ others)) ws (parts.first ws)
    (reads_runs n role class parts) (k.first_exact ws)
    (record {
      passes = all_pass role class others F G;
      text = [];
      is = ([], [], refl, ([], refl, tt), ([], refl, tt));
    })
    (λ ls rest d e. again rest (left parts.first_sorts rest ls (k.first_opens ls d) e))))
    (λ go. grow (Then G (Star (Items role class G))) (Behind role class F G) (Follows others) ws
    (and_then (parts.later ws) (reads_later role class parts))
    (λ l d. inr d)
    (λ l x d a s. is_later go l x d s)
    (both G (Star (Items role class G)) (Follows others) (Follows (class ++ others)) ws (parts.later ws)
    (reads_later role class parts) (k.later_exact ws)
    (record {
      passes = λ l x d a. items_pass role class others G l x d (follows_right class others x a);
      text = [];
      is = ([], refl, tt);
    })
    (λ ls rest d e. later_items F G role class others later parts k rest)))
  where
    left : (first rest : List ℕ) (ls : Labelled) → OpensWith first ls → ws ≡ sorts ls ++ rest → length rest ≤ n
    left first rest ls o e = shorter first ls rest ws n o e (omega (arith, h))

    is_first : next_in parts.first_sorts ws ≡ true → (l : Labelled) (x : List ℕ) → Behind role class F G l
        → SameHead (sorts l ++ x) ws → Then F (All role class F G) l
    is_first go l x (inl d) s = d
    is_first go l x (inr d) s = absurd (crosses parts.first_sorts later k.separate ws go l x
        (subst (OpensWith later) (sym d.2) (opens_append later d.0 d.1 (k.later_opens d.0 d.3))) s)

    is_later : next_in parts.first_sorts ws ≡ false → (l : Labelled) (x : List ℕ) → Behind role class F G l
        → SameHead (sorts l ++ x) ws → Then G (Star (Items role class G)) l
    is_later go l x (inr d) s = d
    is_later go l x (inl d) s = absurd (opened parts.first_sorts l x ws
        (subst (OpensWith parts.first_sorts) (sym d.2) (opens_append parts.first_sorts d.0 d.1 (k.first_opens d.0 d.3))) go s)

assoc : (a b c d : Labelled) → ((a ++ b) ++ c) ++ d ≡ a ++ (b ++ (c ++ d))
assoc a b c d = simp append_assoc

-- a separating word and what stands behind it are of the whole
joins : (role : ℕ) (class : List ℕ) (F G : Labelled → Type 0) (l : Labelled)
    → Then (IsWord role class) (Behind role class F G) l → All role class F G l
joins role class F G l d = at d.4
  where
    at : Behind role class F G d.1 → All role class F G l
    at (inl u) =
        let rest = u.4 in
        let whole : l ≡ ((d.0 ++ u.0) ++ joined rest.3.0) ++ rest.1 =
        d.2 ∙ (ap (λ z. d.0 ++ z) (u.2 ∙ ap (λ z. u.0 ++ z) (rest.2 ∙ ap (λ z. z ++ rest.1) rest.3.1))
        ∙ sym (assoc d.0 u.0 (joined rest.3.0) rest.1)) in (
          (d.0 ++ u.0) ++ joined rest.3.0,
          rest.1,
          whole,
          ((d.0 ++ u.0) ∷ rest.3.0, refl, ((d.0, u.0, refl, d.3, u.3), rest.3.2)),
          rest.4,
        )
    at (inr u) =
        let whole : l ≡ (d.0 ++ u.0) ++ joined u.4.0 =
        d.2 ∙ (ap (λ z. d.0 ++ z) (u.2 ∙ ap (λ z. u.0 ++ z) u.4.1) ∙ sym (append_assoc d.0 u.0 (joined u.4.0))) in (
          [],
          (d.0 ++ u.0) ++ joined u.4.0,
          whole,
          ([], refl, tt),
          ((d.0 ++ u.0) ∷ u.4.0, refl, ((d.0, u.0, refl, d.3, u.3), u.4.2)),
        )

parts_off : (role : ℕ) (class : List ℕ) (F G : Labelled → Type 0) (l a b : Labelled) (ps qs : List Labelled)
    → l ≡ a ++ b → a ≡ joined ps → AllByRecursion (Items role class F) ps
    → b ≡ joined qs → AllByRecursion (Items role class G) qs
    → (l ≡ []) ⊎ Then (IsWord role class) (Behind role class F G) l
parts_off role class F G l a b [] [] e ea all eb alls = inl (e ∙ λ i. ea i ++ eb i)
parts_off role class F G l a b [] (q ∷ qs) e ea all eb alls =
    let d = alls.0 in
    let whole : l ≡ d.0 ++ (d.1 ++ joined qs) =
    e ∙ ((λ i. ea i ++ eb i) ∙ (ap (λ z. z ++ joined qs) d.2 ∙ append_assoc d.0 d.1 (joined qs))) in
    inr (d.0, d.1 ++ joined qs, whole, d.3, inr (d.1, joined qs, refl, d.4, (qs, refl, alls.1)))
parts_off role class F G l a b (p ∷ ps) qs e ea all eb alls =
    let d = all.0 in
    let whole : l ≡ d.0 ++ (d.1 ++ (joined ps ++ b)) =
    e ∙ (ap (λ z. z ++ b) ea ∙ (ap (λ z. (z ++ joined ps) ++ b) d.2 ∙ assoc d.0 d.1 (joined ps) b)) in
    inr (
      d.0,
      d.1 ++ (joined ps ++ b),
      whole,
      d.3,
      inl (
        d.1,
        joined ps ++ b,
        refl,
        d.4,
        (joined ps, b, refl, (ps, refl, all.1), (qs, eb, alls)),
      ),
    )

runs_exact : (F G : Labelled → Type 0) (role : ℕ) (class others later : List ℕ) (parts : Parts)
    → Runs F G role class others later parts → (n : ℕ) (ws : List ℕ) → length ws ≤ n
    → Exact (All role class F G) (Follows others) ws (reads_runs n role class parts ws)
runs_exact F G role class others later parts k zero [] h =
    stop (All role class F G) (Follows others) class ([], [], refl, ([], refl, tt), ([], refl, tt)) (all_opens role class F G) [] refl
runs_exact F G role class others later parts k zero (w ∷ ws) h = absurd (omega (arith, h))
runs_exact F G role class others later parts k (suc n) ws h =
    runs_at (runs_exact F G role class others later parts k n)
  where
    off : next_in class ws ≡ true → (l : Labelled) (x : List ℕ) → All role class F G l → Follows others x
        → SameHead (sorts l ++ x) ws → Then (IsWord role class) (Behind role class F G) l
    off go l x d a s = elim (parts_off role class F G l d.0 d.1 d.3.0 d.4.0 d.2 d.3.1 d.3.2 d.4.1 d.4.2) [
      | inl none ↦ absurd (ended (Follows others) class (never_follows class others k.ends) x ws a go
          (subst (λ (z : Labelled). SameHead (sorts z ++ x) ws) none s))
      | inr rest ↦ rest
    ]

    runs_at : ((ws : List ℕ) → length ws ≤ n → Exact (All role class F G) (Follows others) ws (reads_runs n role class parts ws))
        → Exact (All role class F G) (Follows others) ws (reads_runs (suc n) role class parts ws)
    runs_at again = by_test (All role class F G) (Follows others) ws (next_in class ws)
        (and_then (reads_word role class ws) (λ xs. if next_in parts.first_sorts xs
        then and_then (parts.first xs) (reads_runs n role class parts)
        else and_then (parts.later xs) (reads_later role class parts)))
        (took [] ws)
        (λ go. grow (Then (IsWord role class) (Behind role class F G)) (All role class F G) (Follows others) ws
        (and_then (reads_word role class ws) (λ xs. if next_in parts.first_sorts xs
        then and_then (parts.first xs) (reads_runs n role class parts)
        else and_then (parts.later xs) (reads_later role class parts)))
        (joins role class F G)
        (off go)
        (both (IsWord role class) (Behind role class F G) (Follows others) (λ _. Unit {0}) ws (reads_word role class ws)
        (λ xs. if next_in parts.first_sorts xs
        then and_then (parts.first xs) (reads_runs n role class parts)
        else and_then (parts.later xs) (reads_later role class parts))
        (word_exact role class (λ _. Unit {0}) ws k.some)
        (record {
          passes = λ l x d a. tt;
          text = k.text ++ [];
          is = inr (k.text, [], refl, k.is, ([], refl, tt));
        })
        (λ ls rest d e. behind_exact F G role class others later parts k n again rest
        (shorter class ls rest ws n (word_opens role class ls d) e h))))
        (λ stops. stop (All role class F G) (Follows others) class ([], [], refl, ([], refl, tt), ([], refl, tt))
        (all_opens role class F G) ws stops)

-- ---- all forms

maybe_opens : (f : Form) → may_be_empty f ≡ false → (l : Labelled) → Derives (maybe f) l → (l ≡ []) ⊎ OpensWith (firsts f []) l
maybe_opens f h l (inl e) = inl e
maybe_opens f h l (inr d) = inr (opens_with f l h d)

maybe_is : (f : Form) (others : List ℕ) → are_apart (firsts f []) others ≡ true → (ws : List ℕ)
    → next_in (firsts f []) ws ≡ true → (l : Labelled) (x : List ℕ) → Derives (maybe f) l → Follows others x
    → SameHead (sorts l ++ x) ws → Derives f l
maybe_is f others h ws go l x (inl e) a s = absurd (ended (Follows others) (firsts f [])
    (never_follows (firsts f []) others h) x ws a go (subst (λ (z : Labelled). SameHead (sorts z ++ x) ws) e s))
maybe_is f others h ws go l x (inr d) a s = d

pub exact : (f : Form) (others : List ℕ) → is_plain f others ≡ true → (ws : List ℕ)
    → Exact (Derives f) (Follows others) ws (reads f ws)
exact nothing others h ws = record { is = refl; words = refl; only = λ l x y d a e s. d }
exact group others h ws = group_exact (Follows others) ws
exact (word role class) others h ws = word_exact role class (Follows others) ws h
exact (follow f g) others h ws =
    let plain = both_of (is_plain f (firsts g others)) (is_plain g others) h in
    let text = has_text g others plain.1 in
    both (Derives f) (Derives g) (Follows others) (Follows (firsts g others)) ws (reads f ws) (reads g)
    (exact f (firsts g others) plain.0 ws)
    (record { passes = λ l x d a. head_starts g others l x d a; text = text.0; is = text.1 })
    (λ ls rest d e. exact g others plain.1 rest)
exact (either f g) others h ws =
    let halves = both_of (is_plain f others && is_plain g others) _ h in
    let plain = both_of (is_plain f others) (is_plain g others) halves.0 in
    let tests = both_of (not (may_be_empty f || may_be_empty g)) (are_apart (firsts f []) (firsts g [])) halves.1 in
    let some = neither_of (may_be_empty f) (may_be_empty g) tests.0 in
    by_test (Derives (either f g)) (Follows others) ws (next_in (firsts f []) ws) (reads f ws) (reads g ws)
    (λ go. grow (Derives f) (Derives (either f g)) (Follows others) ws (reads f ws)
    (λ l d. inl d)
    (λ l x d a s. elim d [
      | inl is ↦ is
      | inr other ↦ absurd (crosses (firsts f []) (firsts g []) tests.1 ws go l x (opens_with g l some.1 other) s)
    ])
    (exact f others plain.0 ws))
    (λ go. grow (Derives g) (Derives (either f g)) (Follows others) ws (reads g ws)
    (λ l d. inr d)
    (λ l x d a s. elim d [
      | inl other ↦ absurd (opened (firsts f []) l x ws (opens_with f l some.0 other) go s)
      | inr is ↦ is
    ])
    (exact g others plain.1 ws))
exact (maybe f) others h ws =
    let plain = both_of (is_plain f others) _ h in
    let tests = both_of (not (may_be_empty f)) (are_apart (firsts f []) others) plain.1 in
    by_test (Derives (maybe f)) (Follows others) ws (next_in (firsts f []) ws) (reads f ws) (took [] ws)
    (λ go. grow (Derives f) (Derives (maybe f)) (Follows others) ws (reads f ws)
    (λ l d. inr d)
    (maybe_is f others tests.1 ws go)
    (exact f others plain.0 ws))
    (λ stops. stop (Derives (maybe f)) (Follows others) (firsts f []) (inl refl)
    (maybe_opens f (fails_of (may_be_empty f) tests.0)) ws stops)
exact (many f) others h ws =
    let plain = both_of (is_plain f (firsts f [] ++ others)) _ h in
    let tests = both_of (not (may_be_empty f)) (are_apart (firsts f []) others) plain.1 in
    let opens : (l : Labelled) → Derives f l → OpensWith (firsts f []) l =
    λ l d. opens_with f l (fails_of (may_be_empty f) tests.0) d in
    star_exact (Derives f) (Follows others) (Follows (firsts f [] ++ others)) (firsts f []) (reads f)
    (record {
      exact = exact f (firsts f [] ++ others) plain.0;
      bridge = record { passes = λ l x d a. head_starts (many f) others l x d a; text = []; is = ([], refl, tt) };
      opens = opens;
      ends = never_follows (firsts f []) others tests.1;
    }) (length ws) ws (omega arith)
exact (runs role class f g) others h ws =
    let halves = both_of (is_plain f (class ++ others) && is_plain g (class ++ others)) _ h in
    let plain = both_of (is_plain f (class ++ others)) (is_plain g (class ++ others)) halves.0 in
    let tests = both_of (not (may_be_empty f || may_be_empty g) && are_apart (firsts f []) (firsts g [])) _ halves.1 in
    let parts = both_of (not (may_be_empty f || may_be_empty g)) (are_apart (firsts f []) (firsts g [])) tests.0 in
    let some = neither_of (may_be_empty f) (may_be_empty g) parts.0 in
    let ends = both_of (is_some_class class) (are_apart class others) tests.1 in
    let text = has_text g (class ++ others) plain.1 in
    runs_exact (Derives f) (Derives g) role class others (firsts g [])
    (record { first = reads f; first_sorts = firsts f []; later = reads g })
    (record {
      some = ends.0;
      first_exact = exact f (class ++ others) plain.0;
      later_exact = exact g (class ++ others) plain.1;
      first_opens = λ l d. opens_with f l some.0 d;
      later_opens = λ l d. opens_with g l some.1 d;
      text = text.0;
      is = text.1;
      separate = parts.1;
      ends = ends.1;
    }) (length ws) ws (omega arith)
