-- What the reading of a plain form says of the words.
use Rattle.std.proofs.Common.{◌≡◌, refl, sym, ap, ◌∙◌, subst, arith, ℕ, zero, suc, ◌+◌, ◌<◌, ◌≤◌, List, [], ◌∷◌, ◌++◌, append_assoc, length, length-append, take}
use Rattle.word_grammar.specs.Form.{Form, Labelled, sorts, Derives, IsFormAt}
use Rattle.word_grammar.specs.Reading.{Reading, took, fails, reads}
use Rattle.word_grammar.specs.Law.{Verdict, IsVerdict}
use Rattle.word_grammar.proofs.Tests.{cancel}
use Rattle.word_grammar.proofs.Starts.{Follows}
use Rattle.word_grammar.proofs.Exact.{SameHead, Exact}
use Rattle.word_grammar.proofs.Forms.{exact}

add_nil : (xs : List ℕ) → xs ++ [] ≡ xs
add_nil [] = refl
add_nil (x ∷ xs) = ap (λ z. x ∷ z) (add_nil xs)

-- the first words of a list that begins with a front
take_front : (front rest : List ℕ) → take (length front) (front ++ rest) ≡ front
take_front [] rest = refl
take_front (x ∷ front) rest = ap (λ z. x ∷ z) (take_front front rest)

-- a longer front has the next word as well
take_more : (front rest : List ℕ) (m : ℕ) → length front < m → m ≤ length (front ++ rest)
    → (w : ℕ) × (more : List ℕ) × (t : List ℕ) × (rest ≡ w ∷ t) × (take m (front ++ rest) ≡ front ++ w ∷ more)
take_more [] [] m h g = absurd (omega (arith, h, g))
take_more [] (w ∷ t) zero h g = absurd (omega (arith, h))
take_more [] (w ∷ t) (suc m) h g = (w, take m t, t, refl, refl)
take_more (x ∷ front) rest zero h g = absurd (omega (arith, h))
take_more (x ∷ front) rest (suc m) h g =
    let k = take_more front rest m (omega (arith, h)) (omega (arith, g)) in
    (k.0, k.1, k.2, k.3, ap (λ z. x ∷ z) k.4)

length_sorts : (ls : Labelled) → length (sorts ls) ≡ length ls
length_sorts [] = refl
length_sorts (l ∷ ls) = ap suc (length_sorts ls)

-- words, a front of them, and what comes next
form_at : (f : Form) (ws front rest : List ℕ) (n : ℕ) → ws ≡ front ++ rest → length front ≡ n
    → (text : Labelled) (more : List ℕ) → Derives f text → sorts text ≡ front ++ more
    → ((l : Labelled) (y : List ℕ) → Derives f l → sorts l ++ [] ≡ front ++ y → SameHead y rest → ⊥)
    → IsFormAt f ws n
form_at f ws front rest n e len text more is begins none = record {
  within = (let whole : length ws ≡ length front + length rest = ap length e ∙ length-append front rest in omega (arith, whole, len));
  begins = (text, more, is, begins ∙ ap (λ z. z ++ more) (sym taken));
  longest = λ m h g b.
      let k = take_more front rest m (subst (λ z. z < m) (sym len) h) (subst (λ z. m ≤ length z) e g) in
      let same : take m ws ≡ front ++ k.0 ∷ k.1 = ap (take m) e ∙ k.4 in
      let whole : sorts b.0 ++ [] ≡ front ++ (k.0 ∷ k.1 ++ b.1) =
      add_nil (sorts b.0) ∙ (b.3 ∙ (ap (λ z. z ++ b.1) same ∙ append_assoc front (k.0 ∷ k.1) b.1)) in
      none b.0 (k.0 ∷ k.1 ++ b.1) b.2 whole (subst (SameHead (k.0 ∷ k.1 ++ b.1)) (sym k.3) refl);
  refused = λ a. none a.0 rest a.1 (add_nil (sorts a.0) ∙ (sym a.2 ∙ e)) (same_itself rest);
}
  where
    taken : take n ws ≡ front
    taken = ap (λ z. take z ws) (sym len) ∙ (ap (take (length front)) e ∙ take_front front rest)

    same_itself : (ws : List ℕ) → SameHead ws ws
    same_itself [] = tt
    same_itself (w ∷ ws) = refl

-- words that are a text of the form and go on
no_more : (ls : List ℕ) (w : ℕ) (ws : List ℕ) → ls ++ [] ≡ ls ++ w ∷ ws → ⊥
no_more ls w ws e = let end = cancel ls [] (w ∷ ws) e in cc

told : (f : Form) (ws : List ℕ) (r : Reading) → Exact (Derives f) (Follows []) ws r → Verdict f ws r
told f ws (took ls []) t = record {
  derives = t.is;
  words = t.words ∙ add_nil (sorts ls);
  only = λ other d e. t.only other [] [] d tt (add_nil (sorts other) ∙ (sym e ∙ t.words)) tt;
}
told f ws (took ls (w ∷ rest)) t =
    form_at f ws (sorts ls) (w ∷ rest) (length ls) t.words (length_sorts ls) ls [] t.is (sym (add_nil (sorts ls)))
    (λ l y d e s. ends l y d e s)
  where
    ends : (l : Labelled) (y : List ℕ) → Derives f l → sorts l ++ [] ≡ sorts ls ++ y → SameHead y (w ∷ rest) → ⊥
    ends l [] d e s = s
    ends l (v ∷ y) d e s =
        let same = t.only l [] (v ∷ y) d tt e s in
        no_more (sorts ls) v y (ap (λ z. sorts z ++ []) (sym same) ∙ e)
told f ws (fails n) t =
    form_at f ws t.front t.rest n t.words t.len t.text t.more t.is t.begins (λ l y d e s. t.none l [] y d tt e s)

pub is_verdict : IsVerdict
is_verdict f ws h = told f ws (reads f ws) (exact f [] h ws)
