-- The pages that the freelist takes, trunk by trunk.
use Rattle.std.proofs.Common.{◌≡◌, ◌∙◌, ◌≤◌, inl, inr, ℕ, zero, suc, ◌+◌, true, false, List, [], ◌∷◌, ◌++◌, length, refl, sym, ap, arith}
use Rattle.std.specs.List.{flat_map}
use Rattle.page_access.specs.Pages.{File}
use Rattle.page_lists.specs.Lists.{IsPartOf, firsts, is_in, minus, without}
use Rattle.page_lists.proofs.Counts.{firsts_part, in_or_not, length-minus, part_append, part_one}
use Rattle.freelist_core.specs.Trunk.{leaves_of, next_trunk}
use Rattle.freelist_core.specs.Free.{AreTrunks, Trunk, free_pages, pages_of, taken_at, taken_from}

-- what a trunk takes is part of the unused pages, at least one page
pub taken_part : (unused : List ℕ) (q : ℕ) (leaves : List ℕ) → is_in q unused ≡ true → IsPartOf (q ∷ firsts (without q unused) leaves) unused
taken_part unused q leaves there =
    part_append unused (q ∷ []) (firsts (without q unused) leaves) (part_one q unused there) (firsts_part (without q unused) leaves)

pub fewer : (unused : List ℕ) (q : ℕ) (leaves : List ℕ) → is_in q unused ≡ true
    → length (minus unused (q ∷ firsts (without q unused) leaves)) + 1 ≤ length unused
fewer unused q leaves there = omega (arith, length-minus unused (q ∷ firsts (without q unused) leaves) (taken_part unused q leaves there))

in_none : (q : ℕ) (unused : List ℕ) → length unused ≤ 0 → is_in q unused ≡ false
in_none q [] none = refl
in_none q (p ∷ ps) none = absurd (omega (arith, none))

-- as many steps as there are unused pages are enough
enough : (f : File) (n m : ℕ) (unused : List ℕ) (q : ℕ) → length unused ≤ n → length unused ≤ m → taken_from f n unused q ≡ taken_from f m unused q
enough f zero zero unused q few few' = refl
enough f zero (suc m) unused q few few' = rw (in_none q unused few) refl
enough f (suc n) zero unused q few few' = rw (in_none q unused few') refl
enough f (suc n) (suc m) unused q few few' =
    elim (in_or_not q unused) [
      | inl w ↦
          let less = fewer unused q (leaves_of f q) w.0 in
          rw w.0 (ap (λ (ps : List ℕ). taken_at f unused q ++ ps)
          (enough f n m (minus unused (taken_at f unused q)) (next_trunk f q) (omega (arith, less, few)) (omega (arith, less, few'))))
      | inr w ↦ rw w.0 refl
    ]

-- a trunk that is unused takes its pages, and the list goes on behind it
pub free_more : (f : File) (unused : List ℕ) (q : ℕ) → is_in q unused ≡ true
    → free_pages f unused q ≡ taken_at f unused q ++ free_pages f (minus unused (taken_at f unused q)) (next_trunk f q)
unfolding free_pages
free_more f [] q there = absurd cc
free_more f (p ∷ ps) q there =
    let less = fewer (p ∷ ps) q (leaves_of f q) there in
    rw there (ap (λ (xs : List ℕ). taken_at f (p ∷ ps) q ++ xs)
    (enough f (length ps) (length (minus (p ∷ ps) (taken_at f (p ∷ ps) q))) (minus (p ∷ ps) (taken_at f (p ∷ ps) q)) (next_trunk f q) (omega (arith, less)) (omega arith)))

-- the list ends at a number that is no unused page
pub free_none : (f : File) (unused : List ℕ) (q : ℕ) → is_in q unused ≡ false → free_pages f unused q ≡ []
unfolding free_pages
free_none f [] q out = refl
free_none f (p ∷ ps) q out = rw out refl

-- there are trunks
pub some_trunks : (f : File) (n : ℕ) (unused : List ℕ) (q : ℕ) → length unused ≤ n → (ts : List Trunk) × AreTrunks f unused q ts
some_trunks f zero unused q few = ([], in_none q unused few)
some_trunks f (suc n) unused q few =
    elim (in_or_not q unused) [
      | inl w ↦
          let t : Trunk = record { page = q; leaves = firsts (without q unused) (leaves_of f q) } in
          let more = some_trunks f n (minus unused (taken_at f unused q)) (next_trunk f q) (omega (arith, fewer unused q (leaves_of f q) w.0, few)) in
          (t ∷ more.0, (w.0, refl, refl, more.1))
      | inr w ↦ ([], w.0)
    ]

-- and their pages are those that the freelist takes
pub of_trunks : (f : File) (unused : List ℕ) (q : ℕ) (ts : List Trunk) → AreTrunks f unused q ts → free_pages f unused q ≡ flat_map pages_of ts
of_trunks f unused q [] out = free_none f unused q out
of_trunks f unused q (t ∷ ts) are =
    let same : taken_at f unused q ≡ pages_of t =
    ap (λ (p : ℕ). p ∷ firsts (without q unused) (leaves_of f q)) (sym are.1) ∙ ap (λ (ps : List ℕ). t.page ∷ ps) (sym are.2) in
    free_more f unused q are.0 ∙ ap (λ (ps : List ℕ). ps ++ free_pages f (minus unused ps) (next_trunk f q)) same
    ∙ ap (λ (ps : List ℕ). pages_of t ++ ps) (of_trunks f (minus unused (pages_of t)) (next_trunk f q) ts are.3)
