-- The words of a text and the spaces between them are the whole text.
use Rattle.std.proofs.Common.{◌≡◌, refl, sym, ap, ◌∙◌, subst, arith, ℕ, zero, suc, ◌+◌, ◌<◌, ◌≤◌, ◌==◌, ◌⊎◌, inl, inr, Bool, true, false, not, cond, ◌&&◌, ◌||◌, if◌then◌else◌, Option, Some, None, IfSome, List, [], ◌∷◌, ◌++◌, append-nil, append_assoc, length, length-append, length-drop, take, drop}
use Rattle.std.proofs.lemmas.Bool.{true≢false, eqb-true, eq-eqb}
use Rattle.std.proofs.lemmas.List.{take-append-drop, length-take-le}
use Rattle.std.specs.Char.{is_ascii_digit}
use Rattle.std.specs.List.{list_any}
use Rattle.create_grammar.specs.declared.spans.Word.{Word}
use Rattle.create_grammar.specs.declared.spans.WordKind.{WordKind}
use Rattle.create_grammar.specs.declared.spans.WordKind.TheVariants.{Quoted, Text, Number, Mark}
use Rattle.create_grammar.specs.Cover.{EndsComment, IsSpace, none, more, Cut, AreCut, AreInOrder, WordsCover}
use Rattle.create_grammar.specs.Words as words
use Rattle.create_grammar.specs.Words.{Front, bare_len, bare_word, begins_bare, begins_with, begins_with_digit, blob_len, closed_len, closed_word, comment_from, comment_len, front_word, gap_len, goes_on_bare, goes_on_number, is_space, line_len, number_len, other_word, quoted_from, quoted_len, word_at, word_from, words_from, words_of}

-- both of two tests hold
both : (a b : Bool) → (a && b) ≡ true → (a ≡ true) × (b ≡ true)
both true true h = (refl, refl)
both true false h = absurd (true≢false (sym h))
both false b h = absurd (true≢false (sym h))

-- ---- comments

abbrev LineEnds : List ℕ → ℕ → Type 0
LineEnds bytes n = (list_any (λ b. b == 10) (take n bytes) ≡ false)
    × ((drop n bytes ≡ []) ⊎ (begins_with 10 (drop n bytes) ≡ true))

line_ends : (bytes : List ℕ) → LineEnds bytes (line_len bytes)
line_ends [] = (refl, inl refl)
line_ends (b ∷ bytes) = by_end (b == 10) refl (line_ends bytes)
  where
    by_end : (t : Bool) → (b == 10) ≡ t → LineEnds bytes (line_len bytes) → LineEnds (b ∷ bytes) (cond t 0 (1 + line_len bytes))
    by_end true e h = (refl, inr e)
    by_end false e h =
        let grown : suc (line_len bytes) ≡ 1 + line_len bytes = omega arith in
        subst (LineEnds (b ∷ bytes)) grown (rw e h.0, h.1)

-- a `*` before the bytes, where there is one
abbrev before : Bool → List ℕ → List ℕ
before true bytes = 42 ∷ bytes
before false bytes = bytes

abbrev one_more : (b : ℕ) (bytes after : List ℕ) → (h : EndsComment bytes after) → (b == 42 && begins_with 47 h.inner) ≡ false
    → EndsComment (b ∷ bytes) after
one_more b bytes after h e = record {
  inner = b ∷ h.inner;
  first = rw e h.first;
  ends = elim h.ends [ inl same ↦ inl (ap (λ z. b ∷ z) same) | inr end ↦ inr (ap (λ z. b ∷ z) end.0, end.1) ];
}

-- behind a star, what ends a comment does not begin with a slash
no_slash : (bytes inner after : List ℕ) → (42 ∷ bytes ≡ inner ++ 42 ∷ (47 ∷ [])) ⊎ ((42 ∷ bytes ≡ inner) × (after ≡ []))
    → begins_with 47 inner ≡ false
no_slash bytes [] after h = refl
no_slash bytes (c ∷ inner) after h = elim h [
  | inl same ↦ ap (λ z. begins_with 47 z) (sym same)
  | inr end ↦ ap (λ z. begins_with 47 z) (sym end.0)
]

abbrev Ends : Bool → List ℕ → ℕ → Type 0
Ends star bytes n = EndsComment (before star (take n bytes)) (drop n bytes)

comment_ends : (star : Bool) (bytes : List ℕ) → Ends star bytes (comment_from star bytes)
comment_ends true [] = record { inner = 42 ∷ []; first = refl; ends = inr (refl, refl) }
comment_ends false [] = record { inner = []; first = refl; ends = inr (refl, refl) }
comment_ends star (b ∷ bytes) = by_tests star (b == 42) (star && b == 47) refl refl (comment_ends (b == 42) bytes)
  where
    by_star : (s t : Bool) → (b == 42) ≡ t → (s && b == 47) ≡ false → Ends t bytes (comment_from t bytes)
        → EndsComment (before s (b ∷ take (comment_from t bytes) bytes)) (drop (comment_from t bytes) bytes)
    by_star false true e f h = subst (λ z. EndsComment (z ∷ take (comment_from true bytes) bytes) (drop (comment_from true bytes) bytes))
        (sym (eqb-true b 42 e)) h
    by_star true true e f h = subst (λ z. EndsComment (42 ∷ (z ∷ take (comment_from true bytes) bytes)) (drop (comment_from true bytes) bytes))
        (sym (eqb-true b 42 e)) (one_more 42 _ _ h (no_slash _ _ _ h.ends))
    by_star false false e f h = one_more b _ _ h (ap (λ z. z && begins_with 47 h.inner) e)
    by_star true false e f h = one_more 42 _ _ (one_more b _ _ h (ap (λ z. z && begins_with 47 h.inner) e)) f

    by_tests : (s t u : Bool) → (b == 42) ≡ t → (s && b == 47) ≡ u → Ends t bytes (comment_from t bytes)
        → Ends s (b ∷ bytes) (cond u 1 (1 + comment_from t bytes))
    by_tests false t true e f h = absurd (true≢false (sym f))
    by_tests true t true e f h = record { inner = []; first = refl; ends = inl (ap (λ z. 42 ∷ (z ∷ [])) (eqb-true b 47 f)) }
    by_tests s t false e f h =
        let grown : suc (comment_from t bytes) ≡ 1 + comment_from t bytes = omega arith in
        subst (Ends s (b ∷ bytes)) grown (by_star s t e f h)

-- ---- what stands before a word

abbrev Spaces : List ℕ → ℕ → Type 0
Spaces bytes n = IsSpace (take n bytes) (drop n bytes)

line_space : (b : ℕ) (bytes : List ℕ) → (b == 45 && begins_with 45 bytes) ≡ true → Spaces (b ∷ bytes) (2 + line_len (drop 1 bytes))
line_space b [] h = absurd (true≢false (sym (both (b == 45) false h).1))
line_space b (c ∷ bytes) h =
    let tests = both (b == 45) (c == 45) h in
    let grown : suc (suc (line_len bytes)) ≡ 2 + line_len bytes = omega arith in
    subst (Spaces (b ∷ (c ∷ bytes))) grown (inr (inl (record {
      inner = take (line_len bytes) bytes;
      is = (λ i. (eqb-true b 45 tests.0) i ∷ ((eqb-true c 45 tests.1) i ∷ take (line_len bytes) bytes));
      one_line = (line_ends bytes).0;
      ends = (line_ends bytes).1;
    })))

block_space : (b : ℕ) (bytes : List ℕ) → (b == 47 && begins_with 42 bytes) ≡ true → Spaces (b ∷ bytes) (2 + comment_len (drop 1 bytes))
block_space b [] h = absurd (true≢false (sym (both (b == 47) false h).1))
block_space b (c ∷ bytes) h =
    let tests = both (b == 47) (c == 42) h in
    let grown : suc (suc (comment_len bytes)) ≡ 2 + comment_len bytes = omega arith in
    subst (Spaces (b ∷ (c ∷ bytes))) grown (inr (inr (record {
      behind = take (comment_len bytes) bytes;
      is = (λ i. (eqb-true b 47 tests.0) i ∷ ((eqb-true c 42 tests.1) i ∷ take (comment_len bytes) bytes));
      ends = comment_ends false bytes;
    })))

space_in_front : (bytes : List ℕ) → (gap_len bytes == 0) ≡ false → Spaces bytes (gap_len bytes)
space_in_front [] h = absurd (true≢false h)
space_in_front (b ∷ bytes) h =
    by_tests (is_space b) (b == 45 && begins_with 45 bytes) (b == 47 && begins_with 42 bytes) refl refl refl h
  where
    by_tests : (s t u : Bool) → is_space b ≡ s → (b == 45 && begins_with 45 bytes) ≡ t → (b == 47 && begins_with 42 bytes) ≡ u
        → (cond s 1 (cond t (2 + line_len (drop 1 bytes)) (cond u (2 + comment_len (drop 1 bytes)) 0)) == 0) ≡ false
        → Spaces (b ∷ bytes) (cond s 1 (cond t (2 + line_len (drop 1 bytes)) (cond u (2 + comment_len (drop 1 bytes)) 0)))
    by_tests true t u e f g k = inl (b, refl, e)
    by_tests false true u e f g k = line_space b bytes f
    by_tests false false true e f g k = block_space b bytes g
    by_tests false false false e f g k = absurd (true≢false k)

-- ---- the length of a word

either_le : (t : Bool) (x y n : ℕ) → x ≤ n → y ≤ n → (if t then x else y) ≤ n
either_le true x y n h g = h
either_le false x y n h g = g

abbrev IsUpTo : ℕ → Option ℕ → Type 0
IsUpTo n len = IfSome len (λ k. k ≤ n)

either_up_to : (t : Bool) (x y : Option ℕ) (n : ℕ) → IsUpTo n x → IsUpTo n y → IsUpTo n (if t then x else y)
either_up_to true x y n h g = h
either_up_to false x y n h g = g

more_up_to : (len : Option ℕ) (n : ℕ) → IsUpTo n len → IsUpTo (suc n) (words.more 1 len)
more_up_to None n h = tt
more_up_to (Some k) n h = omega (arith, h)

bare_within : (bytes : List ℕ) → bare_len bytes ≤ length bytes
bare_within [] = omega arith
bare_within (b ∷ bytes) =
    let h = bare_within bytes in
    either_le (goes_on_bare b) (1 + bare_len bytes) 0 (suc (length bytes)) (omega (arith, h)) (omega arith)

number_within : (first : ℕ) (bytes : List ℕ) → number_len first bytes ≤ length bytes
number_within first [] = omega arith
number_within first (b ∷ bytes) =
    let h = number_within b bytes in
    either_le (goes_on_number first b) (1 + number_len b bytes) 0 (suc (length bytes)) (omega (arith, h)) (omega arith)

line_within : (bytes : List ℕ) → line_len bytes ≤ length bytes
line_within [] = omega arith
line_within (b ∷ bytes) =
    let h = line_within bytes in
    either_le (b == 10) 0 (1 + line_len bytes) (suc (length bytes)) (omega arith) (omega (arith, h))

comment_within : (star : Bool) (bytes : List ℕ) → comment_from star bytes ≤ length bytes
comment_within star [] = omega arith
comment_within star (b ∷ bytes) =
    let h = comment_within (b == 42) bytes in
    either_le (star && b == 47) 1 (1 + comment_from (b == 42) bytes) (suc (length bytes)) (omega arith) (omega (arith, h))

gap_within : (bytes : List ℕ) → gap_len bytes ≤ length bytes
gap_within [] = omega arith
gap_within (b ∷ []) = either_le (is_space b) 1 (cond (b == 45 && false) 2 (cond (b == 47 && false) 2 0)) 1 (omega arith)
    (no_comment (b == 45) (b == 47))
  where
    no_comment : (s t : Bool) → cond (s && false) 2 (cond (t && false) 2 0) ≤ 1
    no_comment true true = omega arith
    no_comment true false = omega arith
    no_comment false true = omega arith
    no_comment false false = omega arith
gap_within (b ∷ (c ∷ bytes)) =
    let line = line_within bytes in
    let comment = comment_within false bytes in
    either_le (is_space b) 1 _ (suc (suc (length bytes))) (omega arith)
    (either_le (b == 45 && c == 45) (2 + line_len bytes) _ (suc (suc (length bytes))) (omega (arith, line))
    (either_le (b == 47 && c == 42) (2 + comment_len bytes) 0 (suc (suc (length bytes))) (omega (arith, comment)) (omega arith)))

closed_within : (close : ℕ) (bytes : List ℕ) → IsUpTo (length bytes) (closed_len close bytes)
closed_within close [] = tt
closed_within close (b ∷ bytes) = either_up_to (b == close) (Some 1) (words.more 1 (closed_len close bytes)) (suc (length bytes))
    (omega arith) (more_up_to (closed_len close bytes) (length bytes) (closed_within close bytes))

quoted_within : (quote : ℕ) (second : Bool) (bytes : List ℕ) → IsUpTo (length bytes) (quoted_from quote second bytes)
quoted_within quote second [] = either_up_to second (Some 0) None 0 (omega arith) tt
quoted_within quote second (b ∷ bytes) = either_up_to (b == quote) (words.more 1 (quoted_from quote (not second) bytes)) _ (suc (length bytes))
    (more_up_to _ (length bytes) (quoted_within quote (not second) bytes))
    (either_up_to second (Some 0) (words.more 1 (quoted_from quote false bytes)) (suc (length bytes)) (omega arith)
    (more_up_to _ (length bytes) (quoted_within quote false bytes)))

blob_within : (b : ℕ) (bytes : List ℕ) → IsUpTo (length bytes) (blob_len b bytes)
blob_within b [] = either_up_to ((b == 120 || b == 88) && false) None None 0 tt tt
blob_within b (c ∷ bytes) = either_up_to ((b == 120 || b == 88) && c == 39) (words.more 1 (closed_len 39 bytes)) None (suc (length bytes))
    (more_up_to _ (length bytes) (closed_within 39 bytes)) tt

-- a word at the front of a byte and others
record IsSized (bytes : List ℕ) (w : Front) : Type 0 where
  some : 0 < w.len
  within : w.len ≤ suc (length bytes)

either_sized : (t : Bool) (v w : Front) (bytes : List ℕ) → IsSized bytes v → IsSized bytes w → IsSized bytes (if t then v else w)
either_sized true v w bytes h g = h
either_sized false v w bytes h g = g

closed_sized : (kind : WordKind) (bytes : List ℕ) (len : Option ℕ) → IsUpTo (length bytes) len → IsSized bytes (closed_word kind bytes len)
closed_sized kind bytes None h = record { some = omega arith; within = omega arith }
closed_sized kind bytes (Some k) h = record { some = omega arith; within = omega (arith, h) }

bare_sized : (bytes : List ℕ) (len : Option ℕ) → IsUpTo (length bytes) len → IsSized bytes (bare_word bytes len)
bare_sized bytes None h = (let k = bare_within bytes in record { some = omega arith; within = omega (arith, k) })
bare_sized bytes (Some k) h = record { some = omega arith; within = omega (arith, h) }

number_sized : (b : ℕ) (bytes : List ℕ) (kind : WordKind) → IsSized bytes (record { kind = kind; len = 1 + number_len b bytes })
number_sized b bytes kind = (let k = number_within b bytes in record { some = omega arith; within = omega (arith, k) })

mark_sized : (b : ℕ) (bytes : List ℕ) → IsSized bytes (record { kind = Mark b; len = 1 })
mark_sized b bytes = record { some = omega arith; within = omega arith }

other_sized : (b : ℕ) (bytes : List ℕ) → IsSized bytes (other_word b bytes)
other_sized b bytes =
    either_sized (b == 34 || b == 96) _ _ bytes (closed_sized Quoted bytes _ (quoted_within b false bytes))
    (either_sized (b == 91) _ _ bytes (closed_sized Quoted bytes _ (closed_within 93 bytes))
    (either_sized (b == 39) _ _ bytes (closed_sized Text bytes _ (quoted_within 39 false bytes))
    (either_sized (is_ascii_digit b || b == 46 && begins_with_digit bytes) _ _ bytes (number_sized b bytes Number) (mark_sized b bytes))))

word_sized : (b : ℕ) (bytes : List ℕ) → IsSized bytes (word_at b bytes)
word_sized b bytes = either_sized (begins_bare b) _ _ bytes (bare_sized bytes _ (blob_within b bytes)) (other_sized b bytes)

-- ---- the words of a text

abbrev word_first : (at : ℕ) (bytes : List ℕ) (w : Front) → 0 < w.len → w.len ≤ length bytes → Cut at bytes (word_from at w)
word_first at bytes w h g =
    let len = length-take-le w.len bytes g in
    record {
      spaces = [];
      word = take w.len bytes;
      rest = drop w.len bytes;
      bytes_are = sym (take-append-drop w.len bytes);
      between = none (take w.len bytes ++ drop w.len bytes);
      some = omega (arith, len, h);
      start = omega arith;
      end = omega (arith, len);
    }

behind_space : (at n : ℕ) (part bytes : List ℕ) (ws : List Word) → IsSpace part bytes → length part ≡ n
    → AreCut (at + n) bytes ws → AreCut at (part ++ bytes) ws
behind_space at n part bytes [] s e h = more part bytes [] (subst (IsSpace part) (sym (append-nil bytes)) s) h
behind_space at n part bytes (w ∷ ws) s e h =
    let cut = h.0 in
    let start = cut.start in
    let len : length (part ++ cut.spaces) ≡ length part + length cut.spaces = length-append part cut.spaces in (
      record {
        spaces = part ++ cut.spaces;
        word = cut.word;
        rest = cut.rest;
        bytes_are = ap (λ z. part ++ z) cut.bytes_are ∙ sym (append_assoc part cut.spaces (cut.word ++ cut.rest));
        between = more part cut.spaces (cut.word ++ cut.rest) (subst (IsSpace part) cut.bytes_are s) cut.between;
        some = cut.some;
        start = omega (arith, start, len, e);
        end = cut.end;
      },
      h.1,
    )

are_cut : (n at : ℕ) (bytes : List ℕ) → length bytes ≤ n → AreCut at bytes (words_from n at bytes)
are_cut zero at [] h = none []
are_cut zero at (b ∷ bytes) h = absurd (omega (arith, h))
are_cut (suc n) at [] h = none []
are_cut (suc n) at (b ∷ bytes) h =
    by_gap (gap_len (b ∷ bytes) == 0) refl
    (are_cut n (at + (word_at b bytes).len) (drop (word_at b bytes).len (b ∷ bytes)))
    (are_cut n (at + gap_len (b ∷ bytes)) (drop (gap_len (b ∷ bytes)) (b ∷ bytes)))
  where
    fewer : (k : ℕ) → 0 < k → length (drop k (b ∷ bytes)) ≤ n
    fewer k p = (let len = length-drop k (b ∷ bytes) in omega (arith, len, p, h))

    by_gap : (t : Bool) → (gap_len (b ∷ bytes) == 0) ≡ t
        → (length (drop (word_at b bytes).len (b ∷ bytes)) ≤ n → AreCut (at + (word_at b bytes).len) (drop (word_at b bytes).len (b ∷ bytes))
        (words_from n (at + (word_at b bytes).len) (drop (word_at b bytes).len (b ∷ bytes))))
        → (length (drop (gap_len (b ∷ bytes)) (b ∷ bytes)) ≤ n → AreCut (at + gap_len (b ∷ bytes)) (drop (gap_len (b ∷ bytes)) (b ∷ bytes))
        (words_from n (at + gap_len (b ∷ bytes)) (drop (gap_len (b ∷ bytes)) (b ∷ bytes))))
        → AreCut at (b ∷ bytes) (if t then word_from at (word_at b bytes) ∷ words_from n (at + (word_at b bytes).len) (drop (word_at b bytes).len (b ∷ bytes))
        else words_from n (at + gap_len (b ∷ bytes)) (drop (gap_len (b ∷ bytes)) (b ∷ bytes)))
    by_gap true e word gap =
        let sized = word_sized b bytes in
        (word_first at (b ∷ bytes) (word_at b bytes) sized.some sized.within, word (fewer (word_at b bytes).len sized.some))
    by_gap false e word gap =
        let k = gap_len (b ∷ bytes) in
        let some : 0 < k = omega (arith, λ (z : k ≡ 0). true≢false (sym (eq-eqb k 0 z) ∙ e)) in
        subst (λ z. AreCut at z (words_from n (at + k) (drop k (b ∷ bytes)))) (take-append-drop k (b ∷ bytes))
        (behind_space at k (take k (b ∷ bytes)) (drop k (b ∷ bytes)) (words_from n (at + k) (drop k (b ∷ bytes)))
        (space_in_front (b ∷ bytes) e) (length-take-le k (b ∷ bytes) (gap_within (b ∷ bytes))) (gap (fewer k some)))

in_order : (at : ℕ) (bytes : List ℕ) (ws : List Word) → AreCut at bytes ws → AreInOrder at (at + length bytes) ws
in_order at bytes [] h = omega arith
in_order at bytes (w ∷ ws) h =
    let cut = h.0 in
    let start = cut.start in
    let end = cut.end in
    let some = cut.some in
    let all : length bytes ≡ length (cut.spaces ++ (cut.word ++ cut.rest)) = ap length cut.bytes_are in
    let one = length-append cut.spaces (cut.word ++ cut.rest) in
    let two = length-append cut.word cut.rest in
    let whole : w.end + length cut.rest ≡ at + length bytes = omega (arith, start, end, all, one, two) in
    (omega (arith, start), omega (arith, end, some), subst (λ z. AreInOrder w.end z ws) whole (in_order w.end cut.rest ws h.1))

pub words_cover : WordsCover
words_cover sql =
    let cut = are_cut (length sql) 0 sql (omega arith) in
    let whole : 0 + length sql ≡ length sql = omega arith in
    record { cut = cut; in_order = subst (λ z. AreInOrder 0 z (words_of sql)) whole (in_order 0 sql (words_of sql) cut) }
