-- The pages of a walk one after another: each page found goes behind those that wait, and the levels joined are these pages.
use Rattle.std.proofs.Common.{◌≡◌, ℕ, zero, suc, ◌+◌, ◌≤◌, true, List, [], ◌∷◌, ◌++◌, length, refl, sym, ap, ◌∙◌, arith, append_assoc, append-nil, length-append}
use Rattle.std.specs.List.{flat_map}
use Rattle.page_lists.specs.Lists.{IsPartOf, is_in, firsts, minus, without}
use Rattle.page_lists.proofs.Counts.{minus-append, length-minus, length-without, firsts_part, firsts-append, firsts_none}
use Rattle.page_walk.specs.Walk.{levels, levels_from}

-- the pages still to come, where the pages of `waiting` are found and their children are not looked at yet
abbrev pub queue : (ℕ → List ℕ) → ℕ → List ℕ → List ℕ → List ℕ
queue below n unused [] = []
queue below zero unused (p ∷ ps) = p ∷ ps
queue below (suc n) unused (p ∷ ps) = p ∷ queue below n (minus unused (firsts unused (below p))) (ps ++ firsts unused (below p))

-- the same with fuel for each page that is unused or waits
unfoldable pub rest_of : (ℕ → List ℕ) → List ℕ → List ℕ → List ℕ
rest_of below unused waiting = queue below (length unused + length waiting) unused waiting

pub rest_none : (below : ℕ → List ℕ) (unused : List ℕ) → rest_of below unused [] ≡ []
unfolding rest_of
rest_none below unused = refl

-- the first page that waits is next; its unused children wait from now on
pub rest_step : (below : ℕ → List ℕ) (unused : List ℕ) (p : ℕ) (ps : List ℕ)
    → rest_of below unused (p ∷ ps) ≡ p ∷ rest_of below (minus unused (firsts unused (below p))) (ps ++ firsts unused (below p))
unfolding rest_of
rest_step below unused p ps =
    let found : List ℕ = firsts unused (below p) in
    let one : length unused + length (p ∷ ps) ≡ suc (length (minus unused found) + length (ps ++ found)) =
    omega (arith, length-minus unused found (firsts_part unused (below p)), length-append ps found) in
    ap (λ n. queue below n unused (p ∷ ps)) one

-- the pages of a level are next, and then the unused children of all of them wait
rest_level : (below : ℕ → List ℕ) (ps waiting unused : List ℕ)
    → rest_of below unused (ps ++ waiting)
    ≡ ps ++ rest_of below (minus unused (firsts unused (flat_map below ps))) (waiting ++ firsts unused (flat_map below ps))
rest_level below [] waiting unused = ap (rest_of below unused) (sym (append-nil waiting))
rest_level below (p ∷ ps) waiting unused =
    let found : List ℕ = firsts unused (below p) in
    let left : List ℕ = minus unused found in
    let more : List ℕ = firsts left (flat_map below ps) in
    let all : firsts unused (below p ++ flat_map below ps) ≡ found ++ more = firsts-append unused (below p) (flat_map below ps) in
    rest_step below unused p (ps ++ waiting)
    ∙ ap (λ (xs : List ℕ). p ∷ rest_of below left xs) (append_assoc ps waiting found)
    ∙ ap (λ (xs : List ℕ). p ∷ xs) (rest_level below ps (waiting ++ found) left)
    ∙ ap (λ (xs : List ℕ). p ∷ (ps ++ rest_of below (minus left more) xs)) (append_assoc waiting found more)
    ∙ ap (λ (xs : List ℕ). p ∷ (ps ++ rest_of below xs (waiting ++ (found ++ more)))) (sym (minus-append unused found more))
    ∙ ap (λ (xs : List ℕ). p ∷ (ps ++ rest_of below (minus unused xs) (waiting ++ xs))) (sym all)

-- the same where no other pages wait
pub rest_alone : (below : ℕ → List ℕ) (ps unused : List ℕ)
    → rest_of below unused ps
    ≡ ps ++ rest_of below (minus unused (firsts unused (flat_map below ps))) (firsts unused (flat_map below ps))
rest_alone below ps unused = ap (rest_of below unused) (sym (append-nil ps)) ∙ rest_level below ps [] unused

-- n is enough for the levels below this one: each level but the first takes an unused page
abbrev pub Fuel : ℕ → List ℕ → List ℕ → Type 0
Fuel n unused [] = Unit {0}
Fuel n unused (p ∷ ps) = length unused ≤ n

-- where n + 1 was enough, n is for the next level
pub fuel_next : (n : ℕ) (unused next : List ℕ) → IsPartOf next unused → length unused ≤ suc n → Fuel n (minus unused next) next
fuel_next n unused [] part enough = tt
fuel_next n unused (q ∷ qs) part enough = omega (arith, length-minus unused (q ∷ qs) part, enough)

-- where the fuel is enough, the levels joined are the pages to come where the first level waits
levels_rest : (below : ℕ → List ℕ) (n : ℕ) (unused level : List ℕ) → Fuel n unused level
    → levels below n unused level ≡ rest_of below unused level
levels_rest below n unused [] enough = sym (rest_none below unused)
levels_rest below zero [] (p ∷ ps) enough =
    let none : firsts [] (flat_map below (p ∷ ps)) ≡ [] = firsts_none (flat_map below (p ∷ ps)) in
    let rest : rest_of below (minus [] (firsts [] (flat_map below (p ∷ ps)))) (firsts [] (flat_map below (p ∷ ps))) ≡ [] =
    ap (λ (xs : List ℕ). rest_of below (minus [] xs) xs) none ∙ rest_none below [] in
    sym (rest_alone below (p ∷ ps) [] ∙ ap (λ (xs : List ℕ). (p ∷ ps) ++ xs) rest ∙ append-nil (p ∷ ps))
levels_rest below zero (u ∷ unused) (p ∷ ps) enough = absurd (omega (arith, enough))
levels_rest below (suc n) unused (p ∷ ps) enough =
    let next : List ℕ = firsts unused (flat_map below (p ∷ ps)) in
    ap (λ (xs : List ℕ). (p ∷ ps) ++ xs)
    (levels_rest below n (minus unused next) next (fuel_next n unused next (firsts_part unused (flat_map below (p ∷ ps))) enough))
    ∙ sym (rest_alone below (p ∷ ps) unused)

-- the levels from an unused page down are the pages to come where that page alone waits
pub levels_are_rest : (below : ℕ → List ℕ) (unused : List ℕ) (root : ℕ) → is_in root unused ≡ true
    → levels_from below unused root ≡ rest_of below (without root unused) (root ∷ [])
levels_are_rest below unused root there =
    levels_rest below (length unused) (without root unused) (root ∷ []) (omega (arith, length-without root unused there))
