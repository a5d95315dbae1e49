-- From the words of a text to its constraints, one word after another.
use Rattle.std.proofs.Common.{◌≡◌, refl, sym, ap, ◌∙◌, arith, ℕ, zero, suc, ◌+◌, ◌-◌, ◌<◌, ◌≤◌, true, false, Some, List, [], ◌∷◌, ◌++◌, append_assoc, length, drop, slice_get, get_or, add-one, drop-cons}
use Rattle.std.proofs.lemmas.List.{map-append}
use Rattle.create_grammar.specs.declared.reading.Said.{Said}
use Rattle.create_grammar.specs.declared.roles.Role.TheVariants as role
use Rattle.create_grammar.specs.declared.spans.Word.{Word}
use Rattle.create_grammar.specs.Said.{is}
use Rattle.create_reader.specs.declared.texts.ColumnText.{ColumnText}
use Rattle.create_reader.specs.declared.texts.ConstraintText.{ConstraintText}
use Rattle.create_reader.specs.Columns.{column_of, columns_of, own_words}
use Rattle.create_reader.specs.Constraints.{Part, begins_constraint, constraint_of, constraints_from, no_word, own_part}
use Rattle.create_reader.specs.Views.{IsNamed, constraint_seen, constraints_seen, name_at}

-- where a loop over the words stands
pub record Place : Type 0 where
  pub found : List ConstraintText
  pub number : ℕ
  pub column : Word
  pub i : ℕ

-- what it keeps
pub record Walked (sql : List ℕ) (said : List Said) (columns : List ColumnText) (p : Place) : Type 0 where
  pub small : p.number ≤ p.i
  pub left : drop p.number columns ≡ columns_of sql (drop p.i said)
  pub named : IsNamed sql columns p.number p.column
  pub rest : constraints_seen columns p.found ++ constraints_from sql p.number p.column (drop p.i said) ≡ constraints_from sql 0 no_word said

pub starts : (sql : List ℕ) (said : List Said) (columns : List ColumnText) → columns ≡ columns_of sql said
    → Walked sql said columns (record { found = []; number = 0; column = no_word; i = 0 })
starts sql said columns e = record { small = omega arith; left = e; named = λ h. absurd (omega (arith, h)); rest = refl }

-- the column in front of those that are left
front : (columns : List ColumnText) (n : ℕ) (c : ColumnText) (rest : List ColumnText) → drop n columns ≡ c ∷ rest
    → (slice_get columns n ≡ Some c) × (drop (suc n) columns ≡ rest)
front [] zero c rest e = (let wrong : ⊥ = cc in absurd wrong)
front [] (suc n) c rest e = (let wrong : ⊥ = cc in absurd wrong)
front (d ∷ columns) zero c rest e =
    let same : d ≡ c = cc in
    let more : columns ≡ rest = cc in
    (ap Some same, more)
front (d ∷ columns) (suc n) c rest e = front columns n c rest e

-- the word at a place, and those behind it
pub word_here : (said : List Said) (i : ℕ) (d : Said) → i < length said → drop i said ≡ get_or said i d ∷ drop (i + 1) said
word_here said i d h = rw (add-one, drop-cons said i d) refl

-- behind the name of a column
pub column_next : (sql : List ℕ) (said : List Said) (columns : List ColumnText) (p : Place) (w : Said)
    → drop p.i said ≡ w ∷ drop (p.i + 1) said → is role.ColumnName w ≡ true → Walked sql said columns p
    → Walked sql said columns (record { found = p.found; number = p.number + 1; column = w.word; i = p.i + 1 })
column_next sql said columns p w e t h =
    let ws = drop (p.i + 1) said in
    let small = h.small in
    let one : columns_of sql (w ∷ ws) ≡ column_of sql w.word (own_words ws) ∷ columns_of sql ws = rw t refl in
    let is = front columns p.number (column_of sql w.word (own_words ws)) (columns_of sql ws)
    (h.left ∙ (ap (columns_of sql) e ∙ one)) in
    let behind : p.number + 1 - 1 ≡ p.number = omega arith in
    let step : constraints_from sql p.number p.column (w ∷ ws) ≡ constraints_from sql (p.number + 1) w.word ws = rw t refl in
    record {
      small = omega (arith, small);
      left = ap (λ n. drop n columns) (add-one p.number) ∙ is.1;
      named = λ k. ap (λ n. name_at (slice_get columns n)) behind ∙ ap name_at is.0;
      rest = ap (λ z. constraints_seen columns p.found ++ z) (sym step ∙ ap (constraints_from sql p.number p.column) (sym e)) ∙ h.rest;
    }

-- behind a word that begins no column and no constraint
pub other_next : (sql : List ℕ) (said : List Said) (columns : List ColumnText) (p : Place) (w : Said)
    → drop p.i said ≡ w ∷ drop (p.i + 1) said → is role.ColumnName w ≡ false → begins_constraint w ≡ false → Walked sql said columns p
    → Walked sql said columns (record { found = p.found; number = p.number; column = p.column; i = p.i + 1 })
other_next sql said columns p w e t u h =
    let ws = drop (p.i + 1) said in
    let small = h.small in
    let none : columns_of sql (w ∷ ws) ≡ columns_of sql ws = rw t refl in
    let step : constraints_from sql p.number p.column (w ∷ ws) ≡ constraints_from sql p.number p.column ws = rw (t, u) refl in
    record {
      small = omega (arith, small);
      left = h.left ∙ (ap (columns_of sql) e ∙ none);
      named = h.named;
      rest = ap (λ z. constraints_seen columns p.found ++ z) (sym step ∙ ap (constraints_from sql p.number p.column) (sym e)) ∙ h.rest;
    }

-- behind the first word of a constraint
pub constraint_next : (sql : List ℕ) (said : List Said) (columns : List ColumnText) (p : Place) (w : Said) (c : ConstraintText)
    (own : List Said) (grown : List ConstraintText)
    → drop p.i said ≡ w ∷ drop (p.i + 1) said → is role.ColumnName w ≡ false → begins_constraint w ≡ true
    → constraint_seen columns c ≡ constraint_of sql (record { number = p.number - 1; column = p.column; first = w }) own
    → own ≡ own_part (drop (p.i + 1) said)
    → grown ≡ p.found ++ c ∷ [] → Walked sql said columns p
    → Walked sql said columns (record { found = grown; number = p.number; column = p.column; i = p.i + 1 })
constraint_next sql said columns p w c own grown e t u s o g h =
    let ws = drop (p.i + 1) said in
    let small = h.small in
    let none : columns_of sql (w ∷ ws) ≡ columns_of sql ws = rw t refl in
    let part : Part = record { number = p.number - 1; column = p.column; first = w } in
    let new = constraint_of sql part (own_part ws) in
    let step : constraints_from sql p.number p.column (w ∷ ws) ≡ new ∷ constraints_from sql p.number p.column ws = rw (t, u) refl in
    record {
      small = omega (arith, small);
      left = h.left ∙ (ap (columns_of sql) e ∙ none);
      named = h.named;
      rest = ap (λ z. constraints_seen columns z ++ constraints_from sql p.number p.column ws) g
          ∙ (ap (λ z. z ++ constraints_from sql p.number p.column ws) (map-append (constraint_seen columns) p.found (c ∷ []))
          ∙ (append_assoc (constraints_seen columns p.found) (constraint_seen columns c ∷ []) (constraints_from sql p.number p.column ws)
          ∙ (ap (λ z. constraints_seen columns p.found ++ (z ∷ constraints_from sql p.number p.column ws)) (s ∙ ap (constraint_of sql part) o)
          ∙ (ap (λ z. constraints_seen columns p.found ++ z) (sym step ∙ ap (constraints_from sql p.number p.column) (sym e)) ∙ h.rest))));
    }
