-- Texts of the listings as pieces, one behind the other.
use Rattle.std.proofs.Common.{◌≡◌, ◌<◌, ◌∙◌, ℕ, ◌+◌, List, ◌++◌, length, drop, get_or, ap, sym, append_assoc}
use Rattle.std.specs.Prelude.{codes, decimal, take}
use Rattle.std.proofs.Math.Seq.{take-append_seam}
use Rattle.std.proofs.lemmas.List.{drop_more}
use Rattle.record_core.specs.declared.values.Value.{Value}
use Rattle.line_text.specs.Text.{newline}
use Rattle.dbdata_list.specs.Text.{cell_text, field_line, fields_text, pointer_line, pointer_lines, word_line}

-- a line whose word is put by itself
pub word_parts : (start name word : List ℕ) → word_line start name word ≡ (start ++ name) ++ (word ++ newline)
unfolding word_line
word_parts start name word = simp append_assoc

-- a line that is cut back holds what it began with
pub cut_back : (start : List ℕ) (cell n : ℕ) → n ≡ length start → take n (cell_text start cell) ≡ start
unfolding cell_text
cut_back start cell n e =
    ap (λ m. take m (start ++ (decimal cell ++ codes " "))) e ∙ take-append_seam start (decimal cell ++ codes " ")

-- the lines from a field on
pub fields_more : (place : List ℕ) (i : ℕ) (values : List Value) (v : Value) → v ≡ get_or values i v → i < length values →
    fields_text place i (drop i values) ≡ field_line place (decimal i) v ++ fields_text place (i + 1) (drop (i + 1) values)
fields_more place i values v is lt =
    ap (fields_text place i) (drop_more values i v lt) ∙ ap (λ w. field_line place (decimal i) w ++ fields_text place (i + 1) (drop (i + 1) values)) (sym is)

-- the lines from a child on
pub pointers_more : (page i : ℕ) (children : List ℕ) (d : ℕ) → i < length children →
    pointer_lines page (drop i children) ≡ pointer_line page (get_or children i d) ++ pointer_lines page (drop (i + 1) children)
pointers_more page i children d lt = ap (pointer_lines page) (drop_more children i d lt)
