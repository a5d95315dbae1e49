-- The text of a table has a byte for each of its words.
use Rattle.std.proofs.Common.{◌≤◌, ◌+◌, ℕ, List, [], ◌∷◌, length, ap, arith, length-append}
use Rattle.std.proofs.lemmas.List.{length-map}
use Rattle.word_grammar.specs.Form.{Derives, Labelled}
use Rattle.create_grammar.proofs.Cuts.{words_cover}
use Rattle.create_grammar.specs.declared.spans.Word.{Word}
use Rattle.create_grammar.specs.Cover.{AreInOrder}
use Rattle.create_grammar.specs.Grammar.{table}
use Rattle.create_grammar.specs.Sorts.{code, sort_of}
use Rattle.create_grammar.specs.Words.{words_of}
use Rattle.create_reader.specs.Outcome.{IsTableText}
use Rattle.table_shape.specs.Shape.{Shape}

words_within : (at end : ℕ) (ws : List Word) → AreInOrder at end ws → at + length ws ≤ end
words_within at end [] order = omega (arith, order)
words_within at end (w ∷ ws) order = omega (arith, order.0, order.1, words_within w.end end ws order.2)

-- CREATE TABLE and a name are three words
three_words : (ls : Labelled) → Derives table ls → 3 ≤ length ls
three_words ls d =
    let e = d.4 in
    let f = e.4 in
    omega (
      arith,
      ap length d.2,
      length-append d.0 d.1,
      ap length d.3.1,
      ap length e.2,
      length-append e.0 e.1,
      ap length e.3.1,
      ap length f.2,
      length-append f.0 f.1,
      ap length f.3.1,
    )

pub text_long : (sql : List ℕ) (shape : Shape) → IsTableText sql shape → 3 ≤ length sql
text_long sql shape is =
    let said = is.read.is_said in
    omega (
      arith,
      three_words said.text said.derives,
      length-map said.text (λ (l : ℕ × ℕ). l.1),
      ap length said.words,
      length-map (words_of sql) (λ (w : Word). code (sort_of sql w)),
      words_within 0 (length sql) (words_of sql) (words_cover sql).in_order,
    )
