-- The words of a text, one turn after another.
use Rattle.std.proofs.Common.{◌≡◌, refl, sym, ap, ◌∙◌, arith, ℕ, zero, suc, ◌+◌, ◌-◌, ◌<◌, ◌≤◌, ◌==◌, true, false, List, [], ◌∷◌, ◌++◌, append_assoc, length, length-drop, drop}
use Rattle.std.proofs.lemmas.Bool.{ne_eqb, eq-eqb}
use Rattle.std.proofs.lemmas.List.{drop-drop}
use Rattle.std.proofs.Math.ListN.{drop_of_length-le}
use Rattle.create_grammar.specs.declared.spans.Word.{Word}
use Rattle.create_grammar.specs.Words.{gap_len, front_word, word_from, words_from}

drop_add : (xs : List ℕ) (i g : ℕ) → drop g (drop i xs) ≡ drop (i + g) xs
drop_add xs i g = drop-drop g i xs

-- no byte is left
pub words_none : (sql : List ℕ) (n at : ℕ) → length sql ≤ at → words_from n at (drop at sql) ≡ []
words_none sql n at h = ap (words_from n at) (drop_of_length-le sql h) ∙ none n
  where
    none : (n : ℕ) → words_from n at [] ≡ []
    none zero = refl
    none (suc n) = refl

-- a gap is left out
gap_turn : (n at : ℕ) (bytes : List ℕ) (g : ℕ) → g ≡ gap_len bytes → 0 < g
    → words_from (suc n) at bytes ≡ words_from n (at + g) (drop g bytes)
gap_turn n at [] g e h = absurd (omega (arith, e, h))
gap_turn n at (b ∷ bytes) g e h =
    let test : (gap_len (b ∷ bytes) == 0) ≡ false = ne_eqb (gap_len (b ∷ bytes)) 0 (λ z. omega (arith, e, h, z)) in
    rw test (ap (λ k. words_from n (at + k) (drop k (b ∷ bytes))) (sym e))

-- a word is taken
word_turn : (n at : ℕ) (bytes : List ℕ) → 0 < length bytes → gap_len bytes ≡ 0
    → words_from (suc n) at bytes ≡ word_from at (front_word bytes)
    ∷ words_from n (at + (front_word bytes).len) (drop (front_word bytes).len bytes)
word_turn n at [] h e = absurd (omega (arith, h))
word_turn n at (b ∷ bytes) h e =
    let test : (gap_len (b ∷ bytes) == 0) ≡ true = eq-eqb (gap_len (b ∷ bytes)) 0 e in
    rw test refl

-- the turns that are left
fuel : (turn end : ℕ) → turn < end → end - turn ≡ suc (end - (turn + 1))
fuel turn end h = omega (arith, h)

pub gap_step : (sql : List ℕ) (at turn end g : ℕ) → turn < end → g ≡ gap_len (drop at sql) → 0 < g
    → words_from (end - (turn + 1)) (at + g) (drop (at + g) sql) ≡ words_from (end - turn) at (drop at sql)
gap_step sql at turn end g h e p =
    ap (words_from (end - (turn + 1)) (at + g)) (sym (drop_add sql at g))
    ∙ (sym (gap_turn (end - (turn + 1)) at (drop at sql) g e p)
    ∙ ap (λ n. words_from n at (drop at sql)) (sym (fuel turn end h)))

pub word_step : (sql : List ℕ) (at turn end : ℕ) (w : Word) → turn < end → at < length sql
    → gap_len (drop at sql) ≡ 0 → w ≡ word_from at (front_word (drop at sql))
    → w ∷ words_from (end - (turn + 1)) w.end (drop w.end sql) ≡ words_from (end - turn) at (drop at sql)
word_step sql at turn end w h l g e =
    let len = (front_word (drop at sql)).len in
    ap (λ v. v ∷ words_from (end - (turn + 1)) v.end (drop v.end sql)) e
    ∙ (ap (λ bytes. word_from at (front_word (drop at sql)) ∷ words_from (end - (turn + 1)) (at + len) bytes)
    (sym (drop_add sql at len))
    ∙ (sym (word_turn (end - (turn + 1)) at (drop at sql) (simp length-drop (omega (arith, l))) g)
    ∙ ap (λ n. words_from n at (drop at sql)) (sym (fuel turn end h))))

-- one more is found, and the rest gives the others
pub one_found : (found grown rest left whole : List Word) (w : Word) → grown ≡ found ++ w ∷ [] → w ∷ rest ≡ left
    → found ++ left ≡ whole → grown ++ rest ≡ whole
one_found found grown rest left whole w g e h =
    ap (λ z. z ++ rest) g ∙ (append_assoc found (w ∷ []) rest ∙ (ap (λ z. found ++ z) e ∙ h))
