-- The links after a page is taken out of its list.
use Rattle.std.proofs.Common.{◌≡◌, ◌≢◌, inl, inr, ℕ, ◌-◌, ◌<◌, ◌≤◌, ◌==◌, List, length, map, get_or, true, false, refl, sym, ◌∙◌, ap, subst, arith}
use Rattle.std.specs.List.{concat}
use Rattle.std.proofs.lemmas.Bool.Decides.{eqb_tells}
use Rattle.std.proofs.lemmas.List.{length-map}
use Rattle.page_lists.specs.declared.rings.Link.{Link}
use Rattle.page_lists.specs.declared.rings.Ends.{Ends}
use Rattle.page_lists.specs.Lists.{count, is_in, without}
use Rattle.page_lists.specs.Table.{Table, list_at, owner}
use Rattle.page_lists.specs.Rings.{State, ends_at, link_at, shorter, taken_out}
use Rattle.page_lists.specs.Stored.{IsLinked, Spells, Step}
use Rattle.page_lists.proofs.Counts.{counts, lengths, in_from_count, in_or_not, length-without, without_not_in}
use Rattle.page_lists.proofs.Joins.{IsJoined, IsOther, IsSized, joined_is, next_of, prev_of, seen, sized_is}
use Rattle.page_lists.proofs.Moves.{list_at_out, measure_out, owner_below, stands_once}
use Rattle.page_lists.proofs.Spelled.{Holds, few_step, holds, only_owner, owner_has}
use Rattle.page_lists.proofs.Uses.{count-list_at}
use Rattle.page_lists.proofs.Steps.{step_from, step_out, step_to, stepped_from, stepped_to}

-- a neighbour that is not written, since another stood where one is
pub unless : (f : Ends → ℕ) (h : Link → ℕ) (r r' : State) (l u p k c b : ℕ) → ((j d : ℕ) → IsOther l u j d → seen f h r' j d ≡ seen f h r j d)
    → seen f h r l u ≡ p → seen f h r k c ≡ b → b ≢ p → seen f h r' k c ≡ b
unless f h r r' l u p k c b others here there apart =
    elim (eqb_tells c u) [
      | inr w ↦ others k c (inl w.1) ∙ there
      | inl same ↦ elim (eqb_tells k l) [
        | inl list ↦ absurd (apart (sym there ∙ (ap (λ (j : ℕ). seen f h r j c) list.1 ∙ ap (seen f h r l) same.1) ∙ here))
        | inr list ↦ elim (eqb_tells c 0) [
          | inl zero_is ↦ others k c (inr (zero_is.1, list.1)) ∙ there
          | inr over ↦
              let any : seen f h r k c ≡ seen f h r l c = rw over.0 refl in
              absurd (apart (sym there ∙ any ∙ ap (seen f h r l) same.1 ∙ here))
        ]
      ]
    ]

-- what is read of a page before it is taken out
pub record Neighbours (r : State) (l p : ℕ) (xs : List ℕ) : Type 0 where
  pub before : Step (link_at r p).before p 0 xs
  pub after : Step p (link_at r p).after 0 xs
  pub nexts : next_of r l (link_at r p).before ≡ p
  pub prevs : prev_of r l (link_at r p).after ≡ p

pub neighbours : (r : State) (l p : ℕ) (xs : List ℕ) → IsLinked r l xs → p ≢ 0 → is_in p xs ≡ true → Neighbours r l p xs
neighbours r l p xs linked over there =
    let to = stepped_to p 0 xs there in
    let from = stepped_from p 0 xs there in
    let page : (p == 0) ≡ false = elim (eqb_tells p 0) [ inl w ↦ absurd (over w.1) | inr w ↦ w.0 ] in
    let first = linked to.0 p to.1 in
    let second = linked p _ from in
    let before : (link_at r p).before ≡ to.0 = rw page at first.1 in
    let after = rw page at second.0 in
    record {
      before = subst (λ (a : ℕ). Step a p 0 xs) (sym before) to.1;
      after = subst (λ (b : ℕ). Step p b 0 xs) (sym after) from;
      nexts = ap (next_of r l) before ∙ first.0;
      prevs = ap (prev_of r l) after ∙ second.1;
    }

-- what `take_out` asks for
pub record MayLeave (r : State) (p : ℕ) : Type 0 where
  pub page : p < length r.links
  pub list : (link_at r p).list < length r.ends
  pub before : (link_at r p).before < length r.links
  pub after : (link_at r p).after < length r.links
  pub some : 1 ≤ (ends_at r (link_at r p).list).len

-- what a page of a table is in it
record Owned (r : State) (t : Table) (p : ℕ) : Type 0 where
  apart : p ≢ 0
  is : (link_at r p).list ≡ owner p t.lists
  there : is_in p (list_at (owner p t.lists) t.lists) ≡ true
  below : owner p t.lists < length r.ends
  around : Neighbours r (owner p t.lists) p (list_at (owner p t.lists) t.lists)
  one : count p (concat t.lists) ≡ 1

owned : (r : State) (t : Table) (p : ℕ) → Spells r t → 1 ≤ p → p ≤ t.pages → Owned r t p
owned r t p s low high =
    let one = stands_once t p s.each low high in
    let there : is_in p (list_at (owner p t.lists) t.lists) ≡ true = in_from_count p _ (owner_has p t.lists (omega (arith, one))) in
    let apart : p ≢ 0 = λ e. omega (arith, e, low) in
    record {
      apart = apart;
      is = s.owners p low high;
      there = there;
      below = omega (arith, owner_below p t.lists (omega (arith, one)), s.same);
      around = neighbours r (owner p t.lists) p _ (s.linked (owner p t.lists)) apart there;
      one = one;
    }

length_some : (p : ℕ) (xs : List ℕ) → is_in p xs ≡ true → 1 ≤ length xs
length_some p xs h = omega (arith, length-without p xs h)

pub may_leave : (r : State) (t : Table) (p : ℕ) → Spells r t → 1 ≤ p → p ≤ t.pages → MayLeave r p
may_leave r t p s low high =
    let o = owned r t p s low high in
    let h = holds r t s in
    record {
      page = omega (arith, s.size, high);
      list = rw o.is o.below;
      before = few_step r t.pages (owner p t.lists) _ t.lists h (step_from _ _ 0 _ o.around.before);
      after = few_step r t.pages (owner p t.lists) _ t.lists h (step_to _ _ 0 _ o.around.after);
      some = rw (o.is, sym (s.lens (owner p t.lists))) (length_some p _ o.there);
    }

-- the state between: the page is in no list
pub out_holds : (r : State) (t : Table) (p : ℕ) → Spells r t → 1 ≤ p → p ≤ t.pages
    → Holds (taken_out p (link_at r p).list r) t.pages (map (without p) t.lists)
out_holds r t p s low high =
    let o = owned r t p s low high in
    let l : ℕ = owner p t.lists in
    let u : ℕ = (link_at r p).before in
    let v : ℕ = (link_at r p).after in
    let h = holds r t s in
    let may = may_leave r t p s low high in
    let short : IsSized l ((ends_at r l).len - 1) r (shorter l r) = sized_is l ((ends_at r l).len - 1) r o.below in
    let join : IsJoined l u v (shorter l r) (taken_out p l r) =
    joined_is l u v (shorter l r) (omega (arith, short.ends, o.below)) (rw short.links may.before) (rw short.links may.after) in
    subst (λ (k : ℕ). Holds (taken_out p k r) t.pages (map (without p) t.lists)) (sym o.is) (record {
      once = λ q. omega (arith, h.once q, measure_out (count q) (counts q) p t.lists o.one);
      inside = λ q some. h.inside q (omega (arith, some, measure_out (count q) (counts q) p t.lists o.one));
      total = omega (arith, h.total, measure_out (λ (xs : List ℕ). length xs) lengths p t.lists o.one);
      small = h.small;
      size = join.links ∙ ap length short.links ∙ s.size;
      same = join.ends ∙ short.ends ∙ s.same ∙ sym (length-map t.lists (without p));
      linked = λ k. subst (λ (xs : List ℕ). IsLinked (taken_out p l r) k xs) (sym (list_at_out p k t.lists)) (linked k o h short join);
      lens = λ k. ap length (list_at_out p k t.lists) ∙ lens k o h short join;
    })
  where
    few_at : (k : ℕ) → Holds r t.pages t.lists → count p (list_at k t.lists) ≤ 1
    few_at k h = omega (arith, h.once p, count-list_at p k t.lists)

    linked : (k : ℕ) → Owned r t p → Holds r t.pages t.lists
        → IsSized (owner p t.lists) ((ends_at r (owner p t.lists)).len - 1) r (shorter (owner p t.lists) r)
        → IsJoined (owner p t.lists) (link_at r p).before (link_at r p).after (shorter (owner p t.lists) r) (taken_out p (owner p t.lists) r)
        → IsLinked (taken_out p (owner p t.lists) r) k (without p (list_at k t.lists))
    linked k o h short join a b step =
        elim (step_out p a b 0 (list_at k t.lists) o.apart (λ e. o.apart (sym e)) (few_at k h) step) [
          | inl old ↦
              let way = h.linked k a b old.0 in (
                unless (λ e. e.first) (λ x. x.after) (shorter (owner p t.lists) r) (taken_out p (owner p t.lists) r) (owner p t.lists) (link_at r p).before p k a b
                    join.nexts (short.nexts (owner p t.lists) _ ∙ o.around.nexts) (short.nexts k a ∙ way.0) old.1.1,
                unless (λ e. e.last) (λ x. x.before) (shorter (owner p t.lists) r) (taken_out p (owner p t.lists) r) (owner p t.lists) (link_at r p).after p k b a
                    join.prevs (short.prevs (owner p t.lists) _ ∙ o.around.prevs) (short.prevs k b ∙ way.1) old.1.0,
              )
          | inr two ↦
              let there : 1 ≤ count p (list_at k t.lists) =
              elim (step_to a p 0 (list_at k t.lists) two.0) [ inl e ↦ absurd (o.apart e) | inr some ↦ some ] in
              let same : k ≡ owner p t.lists = only_owner p k t.lists (omega (arith, o.one)) there in
              let page : (p == 0) ≡ false = elim (eqb_tells p 0) [ inl w ↦ absurd (o.apart w.1) | inr w ↦ w.0 ] in
              let before : (link_at r p).before ≡ a = rw page at (h.linked k a p two.0).1 in
              let after : (link_at r p).after ≡ b = rw page at (h.linked k p b two.1).0 in (
                ap (λ (j : ℕ). next_of (taken_out p (owner p t.lists) r) j a) same ∙ ap (next_of (taken_out p (owner p t.lists) r) (owner p t.lists)) (sym before) ∙ join.to ∙ after,
                ap (λ (j : ℕ). prev_of (taken_out p (owner p t.lists) r) j b) same ∙ ap (prev_of (taken_out p (owner p t.lists) r) (owner p t.lists)) (sym after) ∙ join.from ∙ before,
              )
        ]

    lens : (k : ℕ) → Owned r t p → Holds r t.pages t.lists
        → IsSized (owner p t.lists) ((ends_at r (owner p t.lists)).len - 1) r (shorter (owner p t.lists) r)
        → IsJoined (owner p t.lists) (link_at r p).before (link_at r p).after (shorter (owner p t.lists) r) (taken_out p (owner p t.lists) r)
        → length (without p (list_at k t.lists)) ≡ (ends_at (taken_out p (owner p t.lists) r) k).len
    lens k o h short join =
        elim (eqb_tells k (owner p t.lists)) [
          | inl w ↦ subst (λ (j : ℕ). length (without p (list_at j t.lists)) ≡ (ends_at (taken_out p (owner p t.lists) r) j).len) (sym w.1)
              (omega (arith, length-without p (list_at (owner p t.lists) t.lists) o.there, h.lens (owner p t.lists), join.lens (owner p t.lists), short.here))
          | inr w ↦ elim (in_or_not p (list_at k t.lists)) [
            | inl there ↦ absurd (w.1 (only_owner p k t.lists (omega (arith, o.one)) there.1))
            | inr out ↦ ap length (without_not_in p (list_at k t.lists) out.0) ∙ h.lens k ∙ sym (join.lens k ∙ short.lens k w.1)
          ]
        ]

-- no page has another list
pub out_owners : (r : State) (t : Table) (p q : ℕ) → Spells r t → 1 ≤ p → p ≤ t.pages
    → (link_at (taken_out p (link_at r p).list r) q).list ≡ (link_at r q).list
out_owners r t p q s low high =
    let may = may_leave r t p s low high in
    let l : ℕ = (link_at r p).list in
    let short : IsSized l ((ends_at r l).len - 1) r (shorter l r) = sized_is l ((ends_at r l).len - 1) r may.list in
    let join : IsJoined l (link_at r p).before (link_at r p).after (shorter l r) (taken_out p l r) =
    joined_is l (link_at r p).before (link_at r p).after (shorter l r) (omega (arith, short.ends, may.list)) (rw short.links may.before) (rw short.links may.after) in
    join.owners q ∙ ap (λ (ls : List Link). (get_or ls q (record { list = 0; before = 0; after = 0 })).list) short.links
