-- Turns over the pages of trees, tree by tree and joined.
use Rattle.std.proofs.Common.{◌≡◌, ◌≤◌, ◌⊎◌, inl, inr, ℕ, ◌+◌, zero, suc, Option, Some, None, List, [], ◌∷◌, ◌++◌, length, map, take, drop, refl, sym, ◌∙◌, ap, arith, append_assoc, append-nil, length-append}
use Rattle.std.specs.Prelude.{ℤ}
use Rattle.std.specs.List.{AllByRecursion, flat_map}
use Rattle.std.proofs.Math.Seq.{take-append_seam, drop-append_seam}
use Rattle.std.proofs.lemmas.Grind.{flat_map-append}
use Rattle.std.proofs.lemmas.List.{drop_all, length-drop, length-take-le, take_all, take-append-drop}
use Rattle.page_access.specs.Pages.{File}
use Rattle.page_access.proofs.Pairs.{all_taken}
use Rattle.page_lists.specs.Lists.{IsPartOf, minus}
use Rattle.page_lists.proofs.Counts.{part_none}
use Rattle.cell_reader.specs.declared.shapes.Kind.{Kind}
use Rattle.page_walk.specs.Bounds.{ArePages}
use Rattle.page_walk.specs.Cells.{Outcome}
use Rattle.page_walk.specs.InTurn.{pages_of_turn}
use Rattle.page_walk.specs.Turns.{chains_on, left_by, turns_on}
use Rattle.page_walk.proofs.Chains.{turns_go_on, walks_are_unused}
use Rattle.page_walk.proofs.Going.{all_append}
use Rattle.page_walk.proofs.InTurn.{chains_are, in_turn-part}
use Rattle.tree_uses.specs.Laws.{TreesAlwaysTakeTurns, TreesAreUnused}
use Rattle.tree_uses.specs.Trees.{IsTreeOf, Tree, chains_in, pages_in, pages_of, split_turns, tree_for, turns_in, walk_for}

-- there is a turn for each page
turns_len : (f : File) (ps unused : List ℕ) → length (turns_on f ps unused) ≡ length ps
turns_len f [] u = refl
turns_len f (p ∷ ps) u = omega (arith, turns_len f ps (left_by f p u))

-- the turns of the pages of trees, split, are those of the trees
pub split_are : (f : File) (trees : List Tree) (unused : List ℕ) → split_turns trees (turns_on f (pages_in trees) unused) ≡ turns_in f trees unused
split_are f [] u = refl
split_are f (t ∷ trees) u =
    let first : List (ℕ × List Outcome) = turns_on f t.pages u in
    let left : List ℕ = minus u (chains_on f t.pages u) in
    let rest : List (ℕ × List Outcome) = turns_on f (pages_in trees) left in
    let len : length t.pages ≡ length first = sym (turns_len f t.pages u) in
    let all : turns_on f (t.pages ++ pages_in trees) u ≡ first ++ rest = (turns_go_on f t.pages (pages_in trees) u).turns in
    let front : take (length t.pages) (turns_on f (t.pages ++ pages_in trees) u) ≡ first =
    ap (take (length t.pages)) all ∙ ap (λ (n : ℕ). take n (first ++ rest)) len ∙ take-append_seam first rest in
    let behind : drop (length t.pages) (turns_on f (t.pages ++ pages_in trees) u) ≡ rest =
    ap (drop (length t.pages)) all ∙ ap (λ (n : ℕ). drop n (first ++ rest)) len ∙ drop-append_seam first rest in
    let next : split_turns trees (drop (length t.pages) (turns_on f (t.pages ++ pages_in trees) u)) ≡ turns_in f trees (minus u (chains_in first)) =
    ap (split_turns trees) behind ∙ split_are f trees left
    ∙ ap (λ (qs : List ℕ). turns_in f trees (minus u qs)) (sym (chains_are f t.pages u)) in
    ap (λ (ts : List (ℕ × List Outcome)). ts ∷ split_turns trees (drop (length t.pages) (turns_on f (t.pages ++ pages_in trees) u))) front
    ∙ ap (λ (tss : List (List (ℕ × List Outcome))). first ∷ tss) next

-- what is split has all turns
pub split_joined : {X : Type 0} (trees : List Tree) (turns : List X) → length turns ≡ length (pages_in trees)
    → flat_map (λ (ts : List X). ts) (split_turns trees turns) ≡ turns
split_joined {X} [] [] len = refl
split_joined {X} [] (x ∷ xs) len = absurd (omega (arith, len))
split_joined {X} (t ∷ trees) turns len =
    ap (λ (ts : List X). take (length t.pages) turns ++ ts)
    (split_joined trees (drop (length t.pages) turns)
    (omega (arith, len, length-append t.pages (pages_in trees), length-drop (length t.pages) turns)))
    ∙ take-append-drop (length t.pages) turns

-- the chains of turns, tree by tree
pub chains_joined : (tss : List (List (ℕ × List Outcome))) → flat_map chains_in tss ≡ chains_in (flat_map (λ (ts : List (ℕ × List Outcome)). ts) tss)
chains_joined [] = refl
chains_joined (ts ∷ tss) =
    ap (λ (qs : List ℕ). chains_in ts ++ qs) (chains_joined tss)
    ∙ sym (flat_map-append pages_of_turn ts (flat_map (λ (us : List (ℕ × List Outcome)). us) tss))

pub split_chains : (trees : List Tree) (turns : List (ℕ × List Outcome)) → length turns ≡ length (pages_in trees)
    → flat_map chains_in (split_turns trees turns) ≡ chains_in turns
split_chains trees turns len = chains_joined (split_turns trees turns) ∙ ap chains_in (split_joined trees turns len)

all_dropped : {X : Type 0} (P : X → Type 0) (n : ℕ) (xs : List X) → AllByRecursion P xs → AllByRecursion P (drop n xs)
all_dropped P zero xs all = all
all_dropped P (suc n) [] all = tt
all_dropped P (suc n) (x ∷ xs) all = all_dropped P n xs all.1

-- what holds of all turns holds of those of each tree
pub split_all : {X : Type 0} (P : X → Type 0) (trees : List Tree) (turns : List X) → AllByRecursion P turns
    → AllByRecursion (AllByRecursion P) (split_turns trees turns)
split_all P [] turns all = tt
split_all P (t ∷ trees) turns all =
    (all_taken P (length t.pages) turns all, split_all P trees (drop (length t.pages) turns) (all_dropped P (length t.pages) turns all))

pub split_len : {X : Type 0} (trees : List Tree) (turns : List X) → length (split_turns trees turns) ≡ length trees
split_len [] turns = refl
split_len (t ∷ trees) turns = omega (arith, split_len trees (drop (length t.pages) turns))

-- there is one for each page of each tree
pub split_each : {X : Type 0} (trees : List Tree) (turns : List X) → length turns ≡ length (pages_in trees)
    → map (λ (ts : List X). length ts) (split_turns trees turns) ≡ map (λ (t : Tree). length t.pages) trees
split_each [] turns len = refl
split_each {X} (t ∷ trees) turns len =
    let both : length t.pages + length (pages_in trees) ≡ length turns = sym (length-append t.pages (pages_in trees)) ∙ sym len in
    let here : length (take (length t.pages) turns) ≡ length t.pages = length-take-le (length t.pages) turns (omega (arith, both)) in
    ap (λ (n : ℕ). n ∷ map (λ (ts : List X). length ts) (split_turns trees (drop (length t.pages) turns))) here
    ∙ ap (λ (ns : List ℕ). length t.pages ∷ ns)
    (split_each trees (drop (length t.pages) turns) (omega (arith, both, length-drop (length t.pages) turns)))

tree_part : (f : File) (root : ℤ) (kind : Option Kind) (unused : List ℕ) → IsPartOf (walk_for f unused root kind) unused
tree_part f root None u = part_none u
tree_part f root (Some kind) u = (walks_are_unused f u root kind).part

pub trees_are_unused : TreesAreUnused
trees_are_unused f list wanted u = in_turn-part (tree_for f list) pages_of wanted u (λ w v. tree_part f w.root w.kind v)

pub trees_take_turns : TreesAlwaysTakeTurns
trees_take_turns f trees u =
    let len : length (turns_on f (pages_in trees) u) ≡ length (pages_in trees) = turns_len f (pages_in trees) u in
    record {
      turns = ap (flat_map (λ (ts : List (ℕ × List Outcome)). ts)) (sym (split_are f trees u)) ∙ split_joined trees (turns_on f (pages_in trees) u) len;
      chains = ap (flat_map chains_in) (sym (split_are f trees u)) ∙ split_chains trees (turns_on f (pages_in trees) u) len
          ∙ chains_are f (pages_in trees) u;
    }

-- a front of so many turns, or all where there are no more
pub front_is : {X : Type 0} (a b all : List X) (n : ℕ) → a ++ b ≡ all → length a ≤ n → (n ≤ length a) ⊎ (b ≡ []) → (a ≡ take n all) × (b ≡ drop n all)
front_is {X} a b all n joined few ends =
    elim ends [
      | inl full ↦ let same : n ≡ length a = omega (arith, few, full) in (
        sym (ap (take n) (sym joined) ∙ ap (λ (k : ℕ). take k (a ++ b)) same ∙ take-append_seam a b),
        sym (ap (drop n) (sym joined) ∙ ap (λ (k : ℕ). drop k (a ++ b)) same ∙ drop-append_seam a b),
      )
      | inr none ↦ let whole : all ≡ a = sym joined ∙ ap (λ (ys : List X). a ++ ys) none ∙ append-nil a in (
        sym (ap (take n) whole ∙ take_all n a few),
        none ∙ sym (ap (drop n) whole ∙ drop_all n a few),
      )
    ]

-- the pages of trees of the file are pages of the file
pub pages_are : (n : ℕ) (trees : List Tree) → AllByRecursion (IsTreeOf n) trees → ArePages n (pages_in trees)
pages_are n [] all = tt
pages_are n (t ∷ trees) all = all_append _ t.pages (pages_in trees) all.0 (pages_are n trees all.1)

-- one of those to come is there
pub one_more : (now next left rest all : List ℕ) (x : ℕ) → next ≡ now ++ x ∷ [] → left ≡ x ∷ rest → now ++ left ≡ all → next ++ rest ≡ all
one_more now next left rest all x pushed taken h =
    ap (λ (ns : List ℕ). ns ++ rest) pushed ∙ append_assoc now (x ∷ []) rest ∙ ap (λ (ns : List ℕ). now ++ ns) (sym taken) ∙ h
