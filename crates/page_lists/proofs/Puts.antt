-- The links after a page that is in no list is made the last of one.
use Rattle.std.proofs.Common.{◌≡◌, ◌≢◌, ◌⊎◌, inl, inr, ℕ, ◌+◌, ◌^◌, ◌<◌, ◌≤◌, List, [], ◌∷◌, ◌++◌, length, map, get_or, sym, ◌∙◌, ap, subst, arith, length-append}
use Rattle.std.specs.List.{concat}
use Rattle.std.proofs.lemmas.Bool.Decides.{eqb_tells}
use Rattle.std.proofs.lemmas.List.{length-map, length-set, get_or-set_same, get_or-set_other}
use Rattle.page_lists.specs.declared.rings.Link.{Link}
use Rattle.page_lists.specs.declared.rings.Ends.{Ends}
use Rattle.page_lists.specs.Lists.{count, without}
use Rattle.page_lists.specs.Table.{Table, list_at, moved, owner}
use Rattle.page_lists.specs.Rings.{State, ends_at, joined, link_at, longer, put_in_last, taken_out, with_list}
use Rattle.page_lists.specs.Stored.{IsLinked, Spells, Step}
use Rattle.page_lists.proofs.Counts.{counts, lengths, count_in, in_head}
use Rattle.page_lists.proofs.Joins.{IsJoined, IsListed, IsOther, IsSized, joined_is, listed_is, next_of, prev_of, sized_is}
use Rattle.page_lists.proofs.Moves.{IsPartition-moved, list_at_out, measure-moved, measure_out, owner-moved, owner-moved-other, stands_once}
use Rattle.page_lists.proofs.Outs.{out_holds, out_owners, unless}
use Rattle.page_lists.proofs.Spelled.{Holds, few_step, length_at, no_zero, only_owner}
use Rattle.page_lists.proofs.Uses.{count-list_at}
use Rattle.page_lists.proofs.Steps.{step_from, step_put, step_to, stepped_end}

-- what `put_last` asks for
pub record MayEnter (r : State) (p l : ℕ) : Type 0 where
  pub page : p < length r.links
  pub list : l < length r.ends
  pub last : (ends_at r l).last < length r.links
  pub few : (ends_at r l).len + 1 < 2 ^ 32

-- the last page of a list is what its last step leaves
last_is : (r : State) (n l : ℕ) (lists : List (List ℕ)) → Holds r n lists → Step (ends_at r l).last 0 0 (list_at l lists)
last_is r n l lists h =
    let end = stepped_end 0 (list_at l lists) in
    let last : (ends_at r l).last ≡ end.0 = (h.linked l end.0 0 end.1).1 in
    subst (λ (a : ℕ). Step a 0 0 (list_at l lists)) (sym last) end.1

pub may_enter : (r : State) (n p l : ℕ) (lists : List (List ℕ)) → Holds r n lists → p ≤ n → l < length lists → MayEnter r p l
may_enter r n p l lists h high below = record {
  page = omega (arith, h.size, high);
  list = omega (arith, h.same, below);
  last = few_step r n l (ends_at r l).last lists h (step_from _ 0 0 (list_at l lists) (last_is r n l lists h));
  few = omega (arith, h.lens l, length_at l lists, h.total, h.small);
}

-- the four writes, one after another
record Put (p l : ℕ) (r : State) : Type 0 where
  long : IsSized l ((ends_at r l).len + 1) r (longer l r)
  list : IsListed p l (longer l r) (with_list p l (longer l r))
  first : IsJoined l (ends_at r l).last p (with_list p l (longer l r)) (joined l (ends_at r l).last p (with_list p l (longer l r)))
  second : IsJoined l p 0 (joined l (ends_at r l).last p (with_list p l (longer l r))) (put_in_last p l r)

put_is : (r : State) (n p l : ℕ) (lists : List (List ℕ)) → Holds r n lists → p ≤ n → l < length lists → Put p l r
put_is r n p l lists h high below =
    let may = may_enter r n p l lists h high below in
    let long : IsSized l ((ends_at r l).len + 1) r (longer l r) = sized_is l ((ends_at r l).len + 1) r may.list in
    let list : IsListed p l (longer l r) (with_list p l (longer l r)) = listed_is p l (longer l r) (omega (arith, ap length long.links, may.page)) in
    let few : l < length (with_list p l (longer l r)).ends = omega (arith, ap length list.ends, long.ends, may.list) in
    let page : p < length (with_list p l (longer l r)).links = omega (arith, list.links, ap length long.links, may.page) in
    let first = joined_is l (ends_at r l).last p (with_list p l (longer l r)) few (omega (arith, list.links, ap length long.links, may.last)) page in
    record {
      long = long;
      list = list;
      first = first;
      second = joined_is l p 0 (joined l (ends_at r l).last p (with_list p l (longer l r))) (omega (arith, first.ends, few)) (omega (arith, first.links, page)) (omega (arith, first.links, page));
    }

-- the links along the lists, where page p stands behind list l
put_linked : (r : State) (n p l : ℕ) (lists : List (List ℕ)) → Holds r n lists → p ≢ 0 → count p (concat lists) ≡ 0 → Put p l r
    → IsLinked (put_in_last p l r) l (list_at l lists ++ p ∷ [])
put_linked r n p l lists h over gone put a b step =
    elim (step_put p a b 0 (list_at l lists) (no_zero r n l lists h) step) [
      | inl end ↦ (
        ap (next_of (put_in_last p l r) l) end.0 ∙ put.second.to ∙ sym end.1,
        ap (prev_of (put_in_last p l r) l) end.1 ∙ put.second.from ∙ sym end.0,
      )
      | inr rest ↦ elim rest [
        | inl to ↦
            let last : (ends_at r l).last ≡ a = (h.linked l a 0 to.1).1 in
            let apart : a ≢ p = not_p (step_from a 0 0 (list_at l lists) to.1) in (
              put.second.nexts l a (inl apart) ∙ (ap (next_of (joined l (ends_at r l).last p (with_list p l (longer l r))) l) (sym last) ∙ put.first.to) ∙ sym to.0,
              put.second.prevs l b (inl (λ e. over (sym to.0 ∙ e))) ∙ (ap (prev_of (joined l (ends_at r l).last p (with_list p l (longer l r))) l) to.0 ∙ put.first.from) ∙ last,
            )
        | inr old ↦
            let way = h.linked l a b old.0 in
            let at_last : next_of r l (ends_at r l).last ≡ 0 = (h.linked l (ends_at r l).last 0 (last_is r n l lists h)).0 in
            let from_p : a ≢ p = not_p (step_from a b 0 (list_at l lists) old.0) in
            let to_p : b ≢ p = λ e. elim (step_to a b 0 (list_at l lists) old.0) [ inl z ↦ old.1 z | inr some ↦ not_there b some e ] in (
              put.second.nexts l a (inl from_p)
                  ∙ unless (λ e. e.first) (λ x. x.after) (with_list p l (longer l r)) (joined l (ends_at r l).last p (with_list p l (longer l r))) l (ends_at r l).last 0 l a b
                  put.first.nexts (put.list.nexts l _ ∙ put.long.nexts l _ ∙ at_last) (put.list.nexts l a ∙ put.long.nexts l a ∙ way.0) old.1,
              put.second.prevs l b (inl old.1) ∙ put.first.prevs l b (inl to_p) ∙ put.list.prevs l b ∙ put.long.prevs l b ∙ way.1,
            )
      ]
    ]
  where
    not_there : (q : ℕ) → 1 ≤ count q (list_at l lists) → q ≡ p → ⊥
    not_there q some e =
        let some' : 1 ≤ count p (list_at l lists) = subst (λ (x : ℕ). 1 ≤ count x (list_at l lists)) e some in
        omega (arith, some', count-list_at p l lists, gone)

    not_p : (a ≡ 0) ⊎ (1 ≤ count a (list_at l lists)) → a ≢ p
    not_p (inl z) e = over (sym e ∙ z)
    not_p (inr some) e = not_there a some e

-- the other lists are as before
put_other : (r : State) (n p l k : ℕ) (lists : List (List ℕ)) → Holds r n lists → p ≢ 0 → count p (concat lists) ≡ 0 → k ≢ l → Put p l r
    → IsLinked (put_in_last p l r) k (list_at k lists)
put_other r n p l k lists h over gone apart put a b step =
    let way = h.linked k a b step in
    let from_p : a ≢ p = not_p a (step_from a b 0 (list_at k lists) step) in
    let to_p : b ≢ p = not_p b (step_to a b 0 (list_at k lists) step) in (
      put.second.nexts k a (inl from_p) ∙ put.first.nexts k a other_last ∙ put.list.nexts k a ∙ put.long.nexts k a ∙ way.0,
      put.second.prevs k b other_end ∙ put.first.prevs k b (inl to_p) ∙ put.list.prevs k b ∙ put.long.prevs k b ∙ way.1,
    )
  where
    not_p : (q : ℕ) → (q ≡ 0) ⊎ (1 ≤ count q (list_at k lists)) → q ≢ p
    not_p q (inl z) e = over (sym e ∙ z)
    not_p q (inr some) e =
        let some' : 1 ≤ count p (list_at k lists) = subst (λ (x : ℕ). 1 ≤ count x (list_at k lists)) e some in
        omega (arith, some', count-list_at p k lists, gone)

    other_end : IsOther l 0 k b
    other_end = elim (eqb_tells b 0) [ inl z ↦ inr (z.1, apart) | inr o ↦ inl o.1 ]

    two : 1 ≤ count a (list_at k lists) → 1 ≤ count a (list_at l lists) → ⊥
    two here there =
        let one : count a (concat lists) ≤ 1 = h.once a in
        apart (only_owner a k lists one here ∙ sym (only_owner a l lists one there))

    by_from : (a ≡ 0) ⊎ (1 ≤ count a (list_at k lists)) → (a ≡ 0) ⊎ (1 ≤ count a (list_at l lists)) → a ≡ (ends_at r l).last → IsOther l (ends_at r l).last k a
    by_from (inl z) last e = inr (z, apart)
    by_from (inr here) (inl z) e = inr (z, apart)
    by_from (inr here) (inr there) e = absurd (two here there)

    other_last : IsOther l (ends_at r l).last k a
    other_last =
        elim (eqb_tells a (ends_at r l).last) [
          | inr w ↦ inl w.1
          | inl w ↦
              let from = step_from (ends_at r l).last 0 0 (list_at l lists) (last_is r n l lists h) in
              by_from (step_from a b 0 (list_at k lists) step) (subst (λ (q : ℕ). (q ≡ 0) ⊎ (1 ≤ count q (list_at l lists))) (sym w.1) from) w.1
        ]

-- a move of a page
pub spells_moved : (r : State) (t : Table) (p l : ℕ) → Spells r t → 1 ≤ p → p ≤ t.pages → l < length t.lists
    → Spells (put_in_last p l (taken_out p (link_at r p).list r)) (moved p l t)
spells_moved r t p l s low high below =
    let out = out_holds r t p s low high in
    let one = stands_once t p s.each low high in
    let there : l < length (map (without p) t.lists) = rw length-map below in
    let gone : count p (concat (map (without p) t.lists)) ≡ 0 = omega (arith, measure_out (count p) (counts p) p t.lists one, one, count_in p (p ∷ []) (in_head p [])) in
    let put = put_is (taken_out p (link_at r p).list r) t.pages p l (map (without p) t.lists) out high there in
    let over : p ≢ 0 = λ e. omega (arith, e, low) in
    record {
      each = IsPartition-moved t p l s.each low high below;
      total = measure-moved (λ (xs : List ℕ). length xs) lengths p l t.lists one below ∙ s.total;
      small = s.small;
      size = put.second.links ∙ put.first.links ∙ put.list.links ∙ ap length put.long.links ∙ out.size;
      same = put.second.ends ∙ put.first.ends ∙ ap length put.list.ends ∙ put.long.ends ∙ out.same ∙ sym (length-set (map (without p) t.lists) l (without p (list_at l t.lists) ++ p ∷ []));
      linked = λ k. linked k out put gone over there;
      lens = λ k. lens k out put there;
      owners = λ q q_low q_high. owners q q_low q_high put one;
    }
  where
    linked : (k : ℕ) → Holds (taken_out p (link_at r p).list r) t.pages (map (without p) t.lists) → Put p l (taken_out p (link_at r p).list r)
        → count p (concat (map (without p) t.lists)) ≡ 0 → p ≢ 0 → l < length (map (without p) t.lists)
        → IsLinked (put_in_last p l (taken_out p (link_at r p).list r)) k (list_at k (moved p l t).lists)
    linked k out put gone over there =
        elim (eqb_tells k l) [
          | inl w ↦ subst (λ (j : ℕ). IsLinked (put_in_last p l (taken_out p (link_at r p).list r)) j (list_at j (moved p l t).lists)) (sym w.1)
              (subst (λ (xs : List ℕ). IsLinked (put_in_last p l (taken_out p (link_at r p).list r)) l xs)
              (ap (λ (xs : List ℕ). xs ++ p ∷ []) (list_at_out p l t.lists) ∙ sym (get_or-set_same (map (without p) t.lists) l (without p (list_at l t.lists) ++ p ∷ []) [] there))
              (put_linked (taken_out p (link_at r p).list r) t.pages p l (map (without p) t.lists) out over gone put))
          | inr w ↦ subst (λ (xs : List ℕ). IsLinked (put_in_last p l (taken_out p (link_at r p).list r)) k xs)
              (sym (get_or-set_other (map (without p) t.lists) l k (without p (list_at l t.lists) ++ p ∷ []) [] w.1))
              (put_other (taken_out p (link_at r p).list r) t.pages p l k (map (without p) t.lists) out over gone w.1 put)
        ]

    lens : (k : ℕ) → Holds (taken_out p (link_at r p).list r) t.pages (map (without p) t.lists) → Put p l (taken_out p (link_at r p).list r)
        → l < length (map (without p) t.lists)
        → length (list_at k (moved p l t).lists) ≡ (ends_at (put_in_last p l (taken_out p (link_at r p).list r)) k).len
    lens k out put there =
        elim (eqb_tells k l) [
          | inl w ↦ subst (λ (j : ℕ). length (list_at j (moved p l t).lists) ≡ (ends_at (put_in_last p l (taken_out p (link_at r p).list r)) j).len) (sym w.1)
              (ap length (get_or-set_same (map (without p) t.lists) l (without p (list_at l t.lists) ++ p ∷ []) [] there)
              ∙ omega (
                arith,
                length-append (without p (list_at l t.lists)) (p ∷ []),
                ap length (list_at_out p l t.lists),
                out.lens l,
                put.second.lens l,
                put.first.lens l,
                ap (λ (es : List Ends). (get_or es l (record { first = 0; last = 0; len = 0 })).len) put.list.ends,
                put.long.here,
              ))
          | inr w ↦ ap length (get_or-set_other (map (without p) t.lists) l k (without p (list_at l t.lists) ++ p ∷ []) [] w.1) ∙ out.lens k
              ∙ sym (put.second.lens k ∙ put.first.lens k ∙ ap (λ (es : List Ends). (get_or es k (record { first = 0; last = 0; len = 0 })).len) put.list.ends ∙ put.long.lens k w.1)
        ]

    owners : (q : ℕ) → 1 ≤ q → q ≤ t.pages → Put p l (taken_out p (link_at r p).list r) → count p (concat t.lists) ≡ 1
        → (link_at (put_in_last p l (taken_out p (link_at r p).list r)) q).list ≡ owner q (moved p l t).lists
    owners q q_low q_high put one =
        elim (eqb_tells q p) [
          | inl w ↦ subst (λ (x : ℕ). (link_at (put_in_last p l (taken_out p (link_at r p).list r)) x).list ≡ owner x (moved p l t).lists) (sym w.1)
              (put.second.owners p ∙ put.first.owners p ∙ put.list.here ∙ sym (owner-moved p l t.lists one below))
          | inr w ↦ put.second.owners q ∙ put.first.owners q ∙ put.list.owners q w.1
              ∙ ap (λ (ls : List Link). (get_or ls q (record { list = 0; before = 0; after = 0 })).list) put.long.links
              ∙ out_owners r t p q s low high ∙ s.owners q q_low q_high ∙ sym (owner-moved-other q p l t.lists (λ e. w.1 (sym e)))
        ]
