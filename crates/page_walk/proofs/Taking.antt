-- Pages that a walk takes, one after another.
use Rattle.std.proofs.Common.{◌≡◌, ◌<◌, ◌≤◌, ℕ, ◌+◌, Option, List, [], ◌∷◌, ◌++◌, length, take, get_or, sym, ◌∙◌, ap, arith}
use Rattle.std.proofs.lemmas.List.{take_more}
use Rattle.std.proofs.lemmas.List.Elements.{filter-append}
use Rattle.std.specs.List.{filter}
use Rattle.page_lists.specs.Lists.{IsPartOf, firsts, minus}
use Rattle.page_lists.specs.Table.{IsPartition, Table, all_moved, unused}
use Rattle.page_lists.proofs.Counts.{firsts_part, in_head, in_part}
use Rattle.page_lists.proofs.Uses.{all_moved-append, pages-all_moved, unused-all_moved, unused_page}
use Rattle.cell_reader.specs.declared.shapes.Kind.{Kind}
use Rattle.page_walk.specs.Bounds.{ArePages}
use Rattle.page_walk.specs.Taking.{is_of_kind, takes}
use Rattle.page_lists.proofs.Counts.{firsts-append}

-- unused pages are pages of the file
pub part_are_pages : (ps : List ℕ) (pages : ℕ) (t : Table) → IsPartition t → t.pages ≡ pages → IsPartOf ps (unused t)
    → ArePages pages ps
part_are_pages [] pages t each same part = tt
part_are_pages (p ∷ ps) pages t each same part =
    let page = unused_page t p each (in_part p (p ∷ ps) (unused t) part (in_head p ps)) in (
      (page.0, omega (arith, page.1, same)),
      part_are_pages ps pages t each same (λ q. omega (arith, part q)),
    )

-- what is taken was unused
pub takes_part : (kinds : List (Option Kind)) (kind : Kind) (t : Table) (qs : List ℕ) → IsPartOf (takes kinds kind t qs) (unused t)
takes_part kinds kind t qs = firsts_part (unused t) (filter (is_of_kind kinds t.pages kind) qs)

-- what is taken of some numbers, and then of more
takes-append : (kinds : List (Option Kind)) (kind : Kind) (l : ℕ) (t t' : Table) (qs rest : List ℕ) → 1 ≤ l
    → t' ≡ all_moved (takes kinds kind t qs) l t
    → takes kinds kind t (qs ++ rest) ≡ takes kinds kind t qs ++ takes kinds kind t' rest
takes-append kinds kind l t t' qs rest least is =
    let test = is_of_kind kinds t.pages kind in
    let pages : t'.pages ≡ t.pages = ap (λ (u : Table). u.pages) is ∙ pages-all_moved (takes kinds kind t qs) l t in
    let left : unused t' ≡ minus (unused t) (takes kinds kind t qs) =
    ap unused is ∙ unused-all_moved (takes kinds kind t qs) l t least in
    ap (firsts (unused t)) (filter-append test qs rest)
    ∙ firsts-append (unused t) (filter test qs) (filter test rest)
    ∙ ap (λ (u : List ℕ). takes kinds kind t qs ++ firsts u (filter test rest)) (sym left)
    ∙ ap (λ (n : ℕ). takes kinds kind t qs ++ firsts (unused t') (filter (is_of_kind kinds n kind) rest)) (sym pages)

-- the next of the numbers
pub takes_more : (kinds : List (Option Kind)) (kind : Kind) (l : ℕ) (a b c : Table) (qs : List ℕ) (i d : ℕ)
    → 1 ≤ l → i < length qs → b ≡ all_moved (takes kinds kind a (take i qs)) l a
    → c ≡ all_moved (takes kinds kind b (get_or qs i d ∷ [])) l b
    → c ≡ all_moved (takes kinds kind a (take (i + 1) qs)) l a
takes_more kinds kind l a b c qs i d least lt was more =
    let all : takes kinds kind a (take (i + 1) qs) ≡ takes kinds kind a (take i qs) ++ takes kinds kind b (get_or qs i d ∷ []) =
    ap (takes kinds kind a) (take_more qs i d lt) ∙ takes-append kinds kind l a b (take i qs) (get_or qs i d ∷ []) least was in
    more
    ∙ ap (all_moved (takes kinds kind b (get_or qs i d ∷ [])) l) was
    ∙ sym (all_moved-append (takes kinds kind a (take i qs)) (takes kinds kind b (get_or qs i d ∷ [])) l a)
    ∙ ap (λ (ps : List ℕ). all_moved ps l a) (sym all)
