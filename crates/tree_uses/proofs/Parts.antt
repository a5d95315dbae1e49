-- Pages that are taken one after another are unused pages, each once.
use Rattle.std.proofs.Common.{◌≡◌, ◌≤◌, ℕ, List, [], ◌∷◌, ◌++◌, sym, ◌∙◌, ap, subst, append-nil}
use Rattle.std.specs.List.{flat_map}
use Rattle.std.proofs.lemmas.Grind.{flat_map-append}
use Rattle.page_lists.specs.Lists.{IsPartOf}
use Rattle.page_lists.specs.Table.{Table, all_moved, unused}
use Rattle.page_lists.proofs.Counts.{part_append}
use Rattle.page_lists.proofs.Uses.{unused-all_moved}

-- some are taken, and then others of those that are left
pub part_then : (list : ℕ) (a b : Table) (ps qs : List ℕ) → 1 ≤ list → b ≡ all_moved ps list a → IsPartOf ps (unused a) → IsPartOf qs (unused b)
    → IsPartOf (ps ++ qs) (unused a)
part_then list a b ps qs over moved first next =
    part_append (unused a) ps qs first (subst (IsPartOf qs) (ap unused moved ∙ unused-all_moved ps list a over) next)

-- a step of a loop takes some more
pub part_more : {X : Type 0} (taken : X → List ℕ) (list : ℕ) (first now : Table) (done : List X) (x : X) (done' : List X) → 1 ≤ list
    → now ≡ all_moved (flat_map taken done) list first → done' ≡ done ++ x ∷ [] → IsPartOf (flat_map taken done) (unused first)
    → IsPartOf (taken x) (unused now) → IsPartOf (flat_map taken done') (unused first)
part_more {X} taken list first now done x done' over moved pushed was step =
    let one : flat_map taken done' ≡ flat_map taken done ++ taken x =
    ap (flat_map taken) pushed ∙ flat_map-append taken done (x ∷ []) ∙ ap (λ (ps : List ℕ). flat_map taken done ++ ps) (append-nil (taken x)) in
    subst (λ (ps : List ℕ). IsPartOf ps (unused first)) (sym one)
    (part_then list first now (flat_map taken done) (taken x) over moved was step)
