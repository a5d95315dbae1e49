-- The marks of held cells answer what the cells' ranges do: whether a further cell is apart from all.
use Rattle.std.proofs.Common.{length-append, length-drop, ◌≡◌, ◌<◌, ◌≤◌, ◌⊎◌, inl, inr, ℕ, zero, suc, ◌+◌, ◌-◌, Bool, true, false, not, ◌&&◌, ◌||◌, List, [], ◌∷◌, ◌++◌, length, take, drop, get_or, replicate, nat_le, nat_lt, refl, sym, ◌∙◌, ap, arith}
use Rattle.std.specs.Prelude.{if◌then◌else◌, IfOk, Result, Ok, Err}
use Rattle.std.specs.Cmp.{both_ways}
use Rattle.std.specs.List.{AllByRecursion, list_all, list_any, slice_range}
use Rattle.std.proofs.lemmas.Bool.{and_parts, cases_Bool, or_parts}
use Rattle.std.proofs.lemmas.Bool.Decides.{nat_tests}
use Rattle.std.proofs.lemmas.List.{length-replicate, get_or-take, get_or-drop, get_or-append_right, get_or-replicate, length-take}
use Rattle.std.proofs.Math.ListN.{get_or-append}
use Rattle.cell_reader.specs.declared.cells.CellView.{CellView}
use Rattle.cell_reader.specs.declared.cells.CellFault.{CellFault}
use Rattle.cell_reader.specs.Cover.{is_free, with_range, covers, IsRange, Covers, marked_on, marks_with, marked_from}
use Rattle.cell_reader.specs.Screen.{Verdict, Accepts, Faulty, Overlaps, are_apart, verdict_on, held_with, screened_from}

-- a list of marks, none of which is set
unset : (xs : List Bool) → list_all not xs ≡ true → (k : ℕ) → k < length xs → get_or xs k false ≡ false
unset [] h k lt = absurd (omega arith)
unset (true ∷ xs) h k lt = cc
unset (false ∷ xs) h zero lt = refl
unset (false ∷ xs) h (suc k) lt = unset xs h k (omega arith)

all_unset : (xs : List Bool) → ((k : ℕ) → k < length xs → get_or xs k false ≡ false) → list_all not xs ≡ true
all_unset [] h = refl
all_unset (true ∷ xs) h = let bad : true ≡ false = h 0 (omega arith) in cc
all_unset (false ∷ xs) h = all_unset xs (λ k lt. h (suc k) (omega arith))

-- a range is free exactly where none of its bytes is marked
pub free_unset : (m : List Bool) (s e : ℕ) → e ≤ length m → is_free m s e ≡ true
    → (k : ℕ) → s ≤ k → k < e → get_or m k false ≡ false
free_unset m s e le h k a b =
    let inside : k - s < length (take (e - s) (drop s m)) =
    omega (arith, length-take (e - s) (drop s m), length-drop s m) in
    let whole : s + (k - s) ≡ k = omega arith in
    let front : get_or (take (e - s) (drop s m)) (k - s) false ≡ get_or (drop s m) (k - s) false =
    get_or-take (e - s) (drop s m) (k - s) false (omega arith) in
    let back : get_or (drop s m) (k - s) false ≡ get_or m (s + (k - s)) false =
    get_or-drop s m (k - s) false in
    sym (front ∙ back ∙ ap (λ j. get_or m j false) whole) ∙ unset _ h (k - s) inside

pub unset_free : (m : List Bool) (s e : ℕ) → ((k : ℕ) → s ≤ k → k < e → get_or m k false ≡ false) → is_free m s e ≡ true
unset_free m s e h = all_unset _ (λ j lt.
    let small : j < e - s = omega (arith, length-take (e - s) (drop s m)) in
    let back : get_or (drop s m) j false ≡ get_or m (s + j) false = get_or-drop s m j false in
    get_or-take (e - s) (drop s m) j false small ∙ back ∙ h (s + j) (omega arith) (omega arith))

-- the marks behind a range that was set
pub set_mark : (m : List Bool) (s e k : ℕ) → s < e → e ≤ length m
    → get_or (with_range m s e) k false ≡ ((nat_le s k && nat_lt k e) || get_or m k false)
set_mark m s e k lt le =
    let rest : List Bool = replicate (e - s) true ++ drop e m in
    let first : length (take s m) ≡ s = omega (arith, length-take s m) in
    elim (cases_Bool (nat_le s k)) [
      | inr low ↦
          let before : k < s = grind (arith, nat_tests) in
          let c : (nat_le s k && nat_lt k e) ≡ false = grind (arith, nat_tests) in
          let l : get_or (take s m ++ rest) k false ≡ get_or (take s m) k false =
          get_or-append (take s m) rest false k (omega arith) in
          rw c (l ∙ get_or-take s m k false before)
      | inl from ↦
          let behind : s ≤ k = grind (arith, nat_tests) in
          let l : get_or (take s m ++ rest) k false ≡ get_or rest (k - s) false =
          get_or-append_right (take s m) rest s k false first behind in
          let many : length (replicate (e - s) true) ≡ e - s = length-replicate (e - s) true in
          elim (cases_Bool (nat_lt k e)) [
            | inl inside ↦
                let near : k - s < e - s = grind (arith, nat_tests) in
                let c : (nat_le s k && nat_lt k e) ≡ true = grind (arith, nat_tests) in
                let r : get_or rest (k - s) false ≡ get_or (replicate (e - s) true) (k - s) false =
                get_or-append (replicate (e - s) true) (drop e m) false (k - s) (omega arith) in
                rw c (l ∙ r ∙ get_or-replicate (e - s) (k - s) true false near)
            | inr past ↦
                let far : e ≤ k = grind (arith, nat_tests) in
                let c : (nat_le s k && nat_lt k e) ≡ false = grind (arith, nat_tests) in
                let r : get_or rest (k - s) false ≡ get_or (drop e m) (k - s - (e - s)) false =
                get_or-append_right (replicate (e - s) true) (drop e m) (e - s) (k - s) false many (omega arith) in
                let d : get_or (drop e m) (k - s - (e - s)) false ≡ get_or m (e + (k - s - (e - s))) false =
                get_or-drop e m (k - s - (e - s)) false in
                let i : e + (k - s - (e - s)) ≡ k = omega arith in
                rw c (l ∙ r ∙ d ∙ ap (λ j. get_or m j false) i)
          ]
    ]

-- as many marks as before
pub length_set : (m : List Bool) (s e : ℕ) → s < e → e ≤ length m → length (with_range m s e) ≡ length m
length_set m s e lt le =
    omega (
      arith,
      length-append (take s m) (replicate (e - s) true ++ drop e m),
      length-append (replicate (e - s) true) (drop e m),
      length-replicate (e - s) true,
      length-take s m,
      length-drop e m,
    )

-- two ranges that are not apart share a byte
shared : (v w : CellView) → v.start < v.end → w.start < w.end → are_apart v w ≡ false
    → (k : ℕ) × (v.start ≤ k) × (k < v.end) × (covers k w ≡ true)
shared v w a b h = elim (cases_Bool (nat_le v.start w.start)) [
  | inl e ↦ (w.start, grind (arith, nat_tests), grind (arith, nat_tests), grind (arith, nat_tests))
  | inr e ↦ (v.start, grind (arith, nat_tests), grind (arith, nat_tests), grind (arith, nat_tests))
]

-- a cell none of whose bytes is covered is apart from all
apart_all : (usable : ℕ) (v : CellView) (ws : List CellView) → v.start < v.end → AllByRecursion (IsRange usable) ws
    → ((k : ℕ) → v.start ≤ k → k < v.end → list_any (covers k) ws ≡ false) → list_all (are_apart v) ws ≡ true
apart_all usable v [] lt good h = refl
apart_all usable v (w ∷ ws) lt good h =
    let tail : list_all (are_apart v) ws ≡ true =
    apart_all usable v ws lt good.1 (λ k a b. (or_parts (covers k w) (list_any (covers k) ws) (h k a b)).1) in
    elim (cases_Bool (are_apart v w)) [
      | inl e ↦ rw (e, tail) refl
      | inr e ↦
          let hit = shared v w lt good.0.0 e in
          let none : covers hit.0 w ≡ false = (or_parts (covers hit.0 w) (list_any (covers hit.0) ws) (h hit.0 hit.1 hit.2)).0 in
          let some : covers hit.0 w ≡ true = hit.3 in
          let bad : true ≡ false = sym some ∙ none in cc
    ]

-- no byte of a cell that is apart from all is covered
uncovered : (v : CellView) (ws : List CellView) → list_all (are_apart v) ws ≡ true
    → (k : ℕ) → v.start ≤ k → k < v.end → list_any (covers k) ws ≡ false
uncovered v [] h k a b = refl
uncovered v (w ∷ ws) h k a b =
    let apart = and_parts (are_apart v w) (list_all (are_apart v) ws) h in
    let here : covers k w ≡ false = missed v w k apart.0 a b in
    rw (here, uncovered v ws apart.1 k a b) refl
  where
    missed : (v w : CellView) (k : ℕ) → are_apart v w ≡ true → v.start ≤ k → k < v.end → covers k w ≡ false
    missed v w k h a b = grind (arith, nat_tests)

-- the marks of held cells tell whether a cell is apart from them
pub free_apart : (usable : ℕ) (marks : List Bool) (held : List CellView) (v : CellView)
    → Covers usable marks held → IsRange usable v → is_free marks v.start v.end ≡ list_all (are_apart v) held
free_apart usable marks held v c range =
    let len : length marks ≡ usable = c.len in
    let some : v.start < v.end = range.0 in
    let fits : v.end ≤ usable = range.1 in
    both_ways _ _
    (λ h. apart_all usable v held some c.ranges (λ k a b.
    sym (c.each k (omega arith)) ∙ free_unset marks v.start v.end (omega arith) h k a b))
    (λ h. unset_free marks v.start v.end (λ k a b. c.each k (omega arith) ∙ uncovered v held h k a b))

-- the marks behind a cell that is held besides
pub covers_more : (usable : ℕ) (marks : List Bool) (held : List CellView) (v : CellView)
    → Covers usable marks held → IsRange usable v → Covers usable (with_range marks v.start v.end) (v ∷ held)
covers_more usable marks held v c range =
    let len : length marks ≡ usable = c.len in
    let some : v.start < v.end = range.0 in
    let fits : v.end ≤ usable = range.1 in
    record {
      len = length_set marks v.start v.end some (omega arith) ∙ len;
      ranges = (range, c.ranges);
      each = λ k lt. set_mark marks v.start v.end k some (omega arith)
          ∙ ap (λ b. covers k v || b) (c.each k lt);
    }

-- no marks, no held cells
pub covers_none : (usable : ℕ) → Covers usable (replicate usable false) []
covers_none usable = record {
  len = length-replicate usable false;
  ranges = tt;
  each = λ k lt. get_or-replicate usable k false false lt;
}

same_verdict : (usable : ℕ) (marks : List Bool) (held : List CellView) (r : Result CellView CellFault)
    → IfOk r (IsRange usable) → Covers usable marks held → marked_on r marks ≡ verdict_on r held
same_verdict usable marks held (Err fault) range c = refl
same_verdict usable marks held (Ok v) range c =
    ap (λ b. if b then Accepts v else Overlaps) (free_apart usable marks held v c range)

next_covers : (usable : ℕ) (marks : List Bool) (held : List CellView) (r : Result CellView CellFault)
    → IfOk r (IsRange usable) → Covers usable marks held
    → Covers usable (marks_with (verdict_on r held) marks) (held_with (verdict_on r held) held)
next_covers usable marks held (Err fault) range c = c
next_covers usable marks held (Ok v) range c = go (list_all (are_apart v) held)
  where
    go : (b : Bool) → Covers usable (marks_with (if b then Accepts v else Overlaps) marks)
        (held_with (if b then Accepts v else Overlaps) held)
    go true = covers_more usable marks held v c range
    go false = c

-- the verdicts by the marks are those by the ranges
pub marked_screened : (usable : ℕ) (cell : ℕ → Result CellView CellFault)
    → ((j : ℕ) → IfOk (cell j) (IsRange usable)) → (n i : ℕ) (marks : List Bool) (held : List CellView)
    → Covers usable marks held → marked_from cell n i marks ≡ screened_from cell n i held
marked_screened usable cell good zero i marks held c = refl
marked_screened usable cell good (suc n) i marks held c =
    let same : marked_on (cell i) marks ≡ verdict_on (cell i) held =
    same_verdict usable marks held (cell i) (good i) c in
    rw same (ap (λ rest. verdict_on (cell i) held ∷ rest)
    (marked_screened usable cell good n (i + 1) _ _ (next_covers usable marks held (cell i) (good i) c)))
