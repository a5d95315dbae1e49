-- A text as pieces, each of them a word, with a blank before it or without: its words are the pieces.
use Rattle.std.proofs.Common.{◌≡◌, refl, sym, ap, ◌∙◌, arith, ℕ, zero, suc, ◌+◌, ◌-◌, ◌<◌, ◌≤◌, ◌==◌, Bool, true, false, List, [], ◌∷◌, ◌++◌, append_assoc, length, length-append, drop, map, take}
use Rattle.std.proofs.Math.Seq.{drop-append_seam, take-append_seam}
use Rattle.std.proofs.lemmas.Bool.{eq-eqb}
use Rattle.create_grammar.specs.declared.reading.Said.{Said}
use Rattle.create_grammar.specs.declared.roles.Role.{Role}
use Rattle.create_grammar.specs.declared.sorts.Sort.{Sort}
use Rattle.create_grammar.specs.declared.spans.Word.{Word}
use Rattle.create_grammar.specs.declared.spans.WordKind.{WordKind}
use Rattle.create_grammar.specs.Sorts.{sort_by, word_bytes}
use Rattle.create_grammar.specs.Words.{Front, front_word, gap_len, word_from, words_from, words_of}

pub record Piece : Type 0 where
  pub blank : Bool
  pub kind : WordKind
  pub bytes : List ℕ
  pub sort : Sort
  pub role : Role

abbrev pub space : Bool → List ℕ
space true = 32 ∷ []
space false = []

abbrev pub text_of : List Piece → List ℕ
text_of [] = []
text_of (p ∷ ps) = space p.blank ++ (p.bytes ++ text_of ps)

-- a piece as a word at a place, and all pieces with their roles
abbrev pub word_in : ℕ → Piece → Word
word_in at p = record { kind = p.kind; start = at; end = at + length p.bytes }

abbrev pub said_of : ℕ → List Piece → List Said
said_of at [] = []
said_of at (p ∷ ps) = record { role = p.role; word = word_in (at + length (space p.blank)) p }
    ∷ said_of (at + length (space p.blank) + length p.bytes) ps

-- in front of the rest of the text a piece is a word, of this sort
pub record IsCut (p : Piece) (rest : List ℕ) : Type 0 where
  pub some : 0 < length p.bytes
  pub no_gap : gap_len (p.bytes ++ rest) ≡ 0
  pub front : front_word (p.bytes ++ rest) ≡ record { kind = p.kind; len = length p.bytes }
  pub is_sort : sort_by p.kind p.bytes ≡ p.sort

abbrev pub AreCut : List Piece → Type 0
AreCut [] = Unit {0}
AreCut (p ∷ ps) = IsCut p (text_of ps) × AreCut ps

-- ---- the words of the text

abbrev Gives : ℕ → List ℕ → List Word → Type 0
Gives at bytes ws = (n : ℕ) → length bytes ≤ n → words_from n at bytes ≡ ws

word_turn : (n at : ℕ) (bytes : List ℕ) → 0 < length bytes → gap_len bytes ≡ 0
    → words_from (suc n) at bytes ≡ word_from at (front_word bytes)
    ∷ words_from n (at + (front_word bytes).len) (drop (front_word bytes).len bytes)
word_turn n at [] h e = absurd (omega (arith, h))
word_turn n at (b ∷ bytes) h e =
    let test : (gap_len (b ∷ bytes) == 0) ≡ true = eq-eqb (gap_len (b ∷ bytes)) 0 e in
    rw test refl

gives_word : (at : ℕ) (p : Piece) (rest : List ℕ) (ws : List Word) → IsCut p rest → Gives (at + length p.bytes) rest ws
    → Gives at (p.bytes ++ rest) (word_in at p ∷ ws)
gives_word at p rest ws cut more zero h =
    let some = cut.some in
    let len = length-append p.bytes rest in
    absurd (omega (arith, h, some, len))
gives_word at p rest ws cut more (suc n) h =
    let some = cut.some in
    let len = length-append p.bytes rest in
    let bytes = p.bytes ++ rest in
    let left : length rest ≤ n = omega (arith, h, some, len) in
    word_turn n at bytes (omega (arith, some, len)) cut.no_gap
    ∙ (ap (λ (w : Front). word_from at w ∷ words_from n (at + w.len) (drop w.len bytes)) cut.front
    ∙ (ap (λ (z : List ℕ). word_in at p ∷ words_from n (at + length p.bytes) z) (drop-append_seam p.bytes rest)
    ∙ ap (λ (z : List Word). word_in at p ∷ z) (more n left)))

gives_behind : (blank : Bool) (at : ℕ) (bytes : List ℕ) (ws : List Word) → Gives (at + length (space blank)) bytes ws
    → Gives at (space blank ++ bytes) ws
gives_behind true at bytes ws more zero h = absurd (omega (arith, h))
gives_behind true at bytes ws more (suc n) h = more n (omega (arith, h))
gives_behind false at bytes ws more n h =
    let same : at + 0 ≡ at = omega arith in
    ap (λ z. words_from n z bytes) (sym same) ∙ more n h

gives_pieces : (at : ℕ) (ps : List Piece) → AreCut ps → Gives at (text_of ps) (map (λ (s : Said). s.word) (said_of at ps))
gives_pieces at [] cut zero h = refl
gives_pieces at [] cut (suc n) h = refl
gives_pieces at (p ∷ ps) cut n h =
    gives_behind p.blank at (p.bytes ++ text_of ps) _
    (gives_word (at + length (space p.blank)) p (text_of ps) _ cut.0
    (gives_pieces (at + length (space p.blank) + length p.bytes) ps cut.1)) n h

pub words_are : (ps : List Piece) → AreCut ps → map (λ (s : Said). s.word) (said_of 0 ps) ≡ words_of (text_of ps)
words_are ps cut = sym (gives_pieces 0 ps cut (length (text_of ps)) (omega arith))

-- ---- their bytes

-- each piece stands where its word lies
abbrev pub Stand : List ℕ → ℕ → List Piece → Type 0
Stand sql at [] = Unit {0}
Stand sql at (p ∷ ps) = (word_bytes sql (word_in (at + length (space p.blank)) p) ≡ p.bytes)
    × Stand sql (at + length (space p.blank) + length p.bytes) ps

bytes_at : (before bytes rest : List ℕ) (at : ℕ) → length before ≡ at
    → take (at + length bytes - at) (drop at (before ++ (bytes ++ rest))) ≡ bytes
bytes_at before bytes rest at e =
    let many : at + length bytes - at ≡ length bytes = omega arith in
    ap (λ n. take n (drop at (before ++ (bytes ++ rest)))) many
    ∙ (ap (λ n. take (length bytes) (drop n (before ++ (bytes ++ rest)))) (sym e)
    ∙ (ap (take (length bytes)) (drop-append_seam before (bytes ++ rest)) ∙ take-append_seam bytes rest))

stand_from : (sql before : List ℕ) (ps : List Piece) (at : ℕ) → sql ≡ before ++ text_of ps → length before ≡ at → Stand sql at ps
stand_from sql before [] at e len = tt
stand_from sql before (p ∷ ps) at e len =
    let one : sql ≡ (before ++ space p.blank) ++ (p.bytes ++ text_of ps) =
    e ∙ sym (append_assoc before (space p.blank) (p.bytes ++ text_of ps)) in
    let first : length (before ++ space p.blank) ≡ at + length (space p.blank) =
    length-append before (space p.blank) ∙ ap (λ n. n + length (space p.blank)) len in
    let two : sql ≡ ((before ++ space p.blank) ++ p.bytes) ++ text_of ps =
    one ∙ sym (append_assoc (before ++ space p.blank) p.bytes (text_of ps)) in
    let second : length ((before ++ space p.blank) ++ p.bytes) ≡ at + length (space p.blank) + length p.bytes =
    length-append (before ++ space p.blank) p.bytes ∙ ap (λ n. n + length p.bytes) first in (
      ap (λ (z : List ℕ). word_bytes z (word_in (at + length (space p.blank)) p)) one
          ∙ bytes_at (before ++ space p.blank) p.bytes (text_of ps) (at + length (space p.blank)) first,
      stand_from sql ((before ++ space p.blank) ++ p.bytes) ps _ two second,
    )

pub they_stand : (ps : List Piece) → Stand (text_of ps) 0 ps
they_stand ps = stand_from (text_of ps) [] ps 0 refl refl
