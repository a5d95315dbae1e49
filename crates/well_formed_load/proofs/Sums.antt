-- Sums over lists: term by term, over what a test passes, and counted from two sides.
use Rattle.std.proofs.Common.{◌≡◌, ◌≤◌, inl, inr, ℕ, ◌+◌, ◌*◌, Bool, true, false, List, [], ◌∷◌, filter, sum_by, refl, ap, ◌∙◌, arith}
use Rattle.std.specs.Prelude.{if◌then◌else◌}
use Rattle.std.specs.List.{AllByRecursion, AllZip}
use Rattle.std.proofs.lemmas.Bool.{cases_Bool}
use Rattle.std.proofs.lemmas.List.Sums.{sum_by-cons}

-- ---- term by term

pub sum_each : {X : Type 0} (f g : X → ℕ) (xs : List X) → ((x : X) → f x ≤ g x) → sum_by f xs ≤ sum_by g xs
sum_each f g [] each = omega arith
sum_each f g (x ∷ xs) each = omega (arith, each x, sum_each f g xs each, sum_by-cons f x xs, sum_by-cons g x xs)

-- the same where P holds of each item
pub sum_where : {X : Type 0} (P : X → Type 0) (f g : X → ℕ) (xs : List X) → AllByRecursion P xs → ((x : X) → P x → f x ≤ g x) → sum_by f xs ≤ sum_by g xs
sum_where P f g [] all each = omega arith
sum_where P f g (x ∷ xs) all each = omega (arith, each x all.0, sum_where P f g xs all.1 each, sum_by-cons f x xs, sum_by-cons g x xs)

-- the same of items that are related, place by place, where each term of the others is at most eight times as large
pub sum_zipped : {X Y : Type 0} (R : X → Y → Type 0) (P : Y → Type 0) (f : X → ℕ) (g : Y → ℕ) → ((x : X) (y : Y) → R x y → P y → g y ≤ 8 * f x)
    → (xs : List X) (ys : List Y) → AllZip R xs ys → AllByRecursion P ys → sum_by g ys ≤ 8 * sum_by f xs
sum_zipped R P f g each [] [] zip all = omega arith
sum_zipped R P f g each [] (y ∷ ys) zip all = absurd zip
sum_zipped R P f g each (x ∷ xs) [] zip all = absurd zip
sum_zipped R P f g each (x ∷ xs) (y ∷ ys) zip all =
    omega (arith, each x y zip.0 all.0, sum_zipped R P f g each xs ys zip.1 all.1, sum_by-cons f x xs, sum_by-cons g y ys)

-- ---- over what a test passes

pub sum_passed : {X : Type 0} (test : X → Bool) (g : X → ℕ) (xs : List X) → sum_by g (filter test xs) ≡ sum_by (λ x. if test x then g x else 0) xs
sum_passed test g [] = refl
sum_passed {X} test g (x ∷ xs) =
    let h : X → ℕ = λ y. if test y then g y else 0 in
    let more = sum_passed test g xs in
    elim (cases_Bool (test x)) [
      | inl e ↦
          let here : h x ≡ g x = rw e refl in
          let kept : filter test (x ∷ xs) ≡ x ∷ filter test xs = rw e refl in
          ap (sum_by g) kept ∙ omega (arith, more, here, sum_by-cons g x (filter test xs), sum_by-cons h x xs)
      | inr e ↦
          let here : h x ≡ 0 = rw e refl in
          let left : filter test (x ∷ xs) ≡ filter test xs = rw e refl in
          ap (sum_by g) left ∙ omega (arith, more, here, sum_by-cons h x xs)
    ]

-- two tests that no item passes both
pub sum_apart : {X : Type 0} (one two : X → Bool) (g : X → ℕ) → ((x : X) → one x ≡ true → two x ≡ false) → (xs : List X)
    → sum_by g (filter one xs) + sum_by g (filter two xs) ≤ sum_by g xs
sum_apart one two g apart [] = omega arith
sum_apart {X} one two g apart (x ∷ xs) =
    let f : X → ℕ = λ y. if one y then g y else 0 in
    let h : X → ℕ = λ y. if two y then g y else 0 in
    let both : f x + h x ≤ g x =
    elim (cases_Bool (one x)) [
      | inl e ↦ let other = apart x e in rw (e, other) (omega arith)
      | inr e ↦ elim (cases_Bool (two x)) [ inl d ↦ rw (e, d) (omega arith) | inr d ↦ rw (e, d) (omega arith) ]
    ] in
    omega (
      arith,
      both,
      sum_apart one two g apart xs,
      sum_passed one g (x ∷ xs),
      sum_passed two g (x ∷ xs),
      sum_passed one g xs,
      sum_passed two g xs,
      sum_by-cons f x xs,
      sum_by-cons h x xs,
      sum_by-cons g x xs,
    )

-- ---- from two sides

sum_none : {P : Type 0} (ps : List P) → sum_by (λ (p : P). 0) ps ≡ 0
sum_none [] = refl
sum_none {P} (p ∷ ps) = omega (arith, sum_by-cons (λ (q : P). 0) p ps, sum_none ps)

pub sum_plus : {P : Type 0} (f g : P → ℕ) (ps : List P) → sum_by (λ p. f p + g p) ps ≡ sum_by f ps + sum_by g ps
sum_plus f g [] = refl
sum_plus {P} f g (p ∷ ps) =
    omega (arith, sum_plus f g ps, sum_by-cons f p ps, sum_by-cons g p ps, sum_by-cons (λ (q : P). f q + g q) p ps)

-- where all that the ps count of an x is at most h, all that they count of the xs is at most the sum of h
pub sum_swapped : {P X : Type 0} (f : P → X → ℕ) (h : X → ℕ) (ps : List P) (xs : List X) → ((x : X) → sum_by (λ p. f p x) ps ≤ h x)
    → sum_by (λ p. sum_by (f p) xs) ps ≤ sum_by h xs
sum_swapped f h ps [] each = omega (arith, sum_none ps)
sum_swapped {P} f h ps (x ∷ xs) each =
    let first : P → ℕ = λ p. f p x in
    let rest : P → ℕ = λ p. sum_by (f p) xs in
    omega (
      arith,
      each x,
      sum_swapped f h ps xs each,
      sum_each (λ p. sum_by (f p) (x ∷ xs)) (λ p. first p + rest p) ps (λ p. omega (arith, sum_by-cons (f p) x xs)),
      sum_plus first rest ps,
      sum_by-cons h x xs,
    )

-- ---- at most one

-- behind an item that passes, none does
abbrev pub AtMostOne : {P : Type 0} → (P → Bool) → List P → Type 0
AtMostOne test [] = Unit {0}
AtMostOne test (p ∷ ps) = (test p ≡ true → AllByRecursion (λ q. test q ≡ false) ps) × AtMostOne test ps

pub none_pass : {P : Type 0} (test : P → Bool) (c : ℕ) (ps : List P) → AllByRecursion (λ q. test q ≡ false) ps → sum_by (λ p. if test p then c else 0) ps ≡ 0
none_pass test c [] none = refl
none_pass {P} test c (p ∷ ps) none =
    let here : (if test p then c else 0) ≡ 0 = (let e = none.0 in rw e refl) in
    omega (arith, here, none_pass test c ps none.1, sum_by-cons (λ (q : P). if test q then c else 0) p ps)

pub sum_once : {P : Type 0} (test : P → Bool) (c : ℕ) (ps : List P) → AtMostOne test ps → sum_by (λ p. if test p then c else 0) ps ≤ c
sum_once test c [] most = omega arith
sum_once {P} test c (p ∷ ps) most =
    let f : P → ℕ = λ q. if test q then c else 0 in
    elim (cases_Bool (test p)) [
      | inl e ↦
          let here : f p ≡ c = rw e refl in
          omega (arith, here, none_pass test c ps (most.0 e), sum_by-cons f p ps)
      | inr e ↦
          let here : f p ≡ 0 = rw e refl in
          omega (arith, here, sum_once test c ps most.1, sum_by-cons f p ps)
    ]
