-- What a write to the links changes of what is seen: the neighbours, lists and lengths.
use Rattle.std.proofs.Common.{◌≡◌, ◌≢◌, ◌⊎◌, inl, inr, ℕ, ◌<◌, ◌==◌, List, length, set, get_or, true, false, refl, sym, ◌∙◌, ap, subst, arith}
use Rattle.std.specs.Prelude.{if◌then◌else◌}
use Rattle.std.proofs.lemmas.Bool.Decides.{eqb_tells}
use Rattle.std.proofs.lemmas.List.{length-set, get_or-set_same, get_or-set_other}
use Rattle.page_lists.specs.declared.rings.Link.{Link}
use Rattle.page_lists.specs.declared.rings.Ends.{Ends}
use Rattle.page_lists.specs.Rings.{State, link_at, ends_at, with_link, with_ends, with_after, with_before, with_list, joined}

-- a neighbour: of 0 it stands in the ends of the list, of a page in its link
abbrev pub seen : (Ends → ℕ) → (Link → ℕ) → State → ℕ → ℕ → ℕ
seen f h r k c = if c == 0 then f (ends_at r k) else h (link_at r c)

abbrev pub next_of : State → ℕ → ℕ → ℕ
next_of r k c = seen (λ e. e.first) (λ x. x.after) r k c

abbrev pub prev_of : State → ℕ → ℕ → ℕ
prev_of r k c = seen (λ e. e.last) (λ x. x.before) r k c

-- what a write leaves alone
field_kept : {X Y : Type 0} (f : X → Y) (xs : List X) (i j : ℕ) (x d : X) → i < length xs → f x ≡ f (get_or xs i d) → f (get_or (set xs i x) j d) ≡ f (get_or xs j d)
field_kept f xs i j x d inside same =
    elim (eqb_tells j i) [
      | inl w ↦ subst (λ (k : ℕ). f (get_or (set xs i x) k d) ≡ f (get_or xs k d)) (sym w.1) (ap f (get_or-set_same xs i x d inside) ∙ same)
      | inr w ↦ ap f (get_or-set_other xs i j x d w.1)
    ]

-- whether a neighbour of c in list k is another than that of a in list l
abbrev pub IsOther : ℕ → ℕ → ℕ → ℕ → Type 0
IsOther l a k c = (c ≢ a) ⊎ ((c ≡ 0) × (k ≢ l))

-- one neighbour is written; the other direction is not
record Wrote (f g : Ends → ℕ) (h i : Link → ℕ) (l a b : ℕ) (r r' : State) : Type 0 where
  here : seen f h r' l a ≡ b
  others : (k c : ℕ) → IsOther l a k c → seen f h r' k c ≡ seen f h r k c
  across : (k c : ℕ) → seen g i r' k c ≡ seen g i r k c
  owners : (q : ℕ) → (link_at r' q).list ≡ (link_at r q).list
  lens : (k : ℕ) → (ends_at r' k).len ≡ (ends_at r k).len
  links : length r'.links ≡ length r.links
  ends : length r'.ends ≡ length r.ends

-- the ends of list l are written, where f sees b and all else is as before
record IsEnds (f g : Ends → ℕ) (b : ℕ) (old new : Ends) : Type 0 where
  is : f new ≡ b
  across : g new ≡ g old
  len : new.len ≡ old.len

wrote_ends : (f g : Ends → ℕ) (h i : Link → ℕ) (l a b : ℕ) (r : State) (e : Ends) → a ≡ 0 → l < length r.ends
    → IsEnds f g b (ends_at r l) e → Wrote f g h i l a b r (with_ends l e r)
wrote_ends f g h i l a b r e zero_is inside new =
    subst (λ (q : ℕ). Wrote f g h i l q b r (with_ends l e r)) (sym zero_is) (record {
      here = ap f (get_or-set_same r.ends l e (record { first = 0; last = 0; len = 0 }) inside) ∙ new.is;
      others = λ k c other. by_page k c other;
      across = λ k c. elim (c == 0) as (λ z. (if z then g (ends_at (with_ends l e r) k) else i (link_at r c)) ≡ (if z then g (ends_at r k) else i (link_at r c)))
          [ true ↦ field_kept g r.ends l k e (record { first = 0; last = 0; len = 0 }) inside new.across | false ↦ refl ];
      owners = λ q. refl;
      lens = λ k. field_kept (λ (x : Ends). x.len) r.ends l k e (record { first = 0; last = 0; len = 0 }) inside new.len;
      links = refl;
      ends = length-set r.ends l e;
    })
  where
    by_page : (k c : ℕ) → IsOther l 0 k c → seen f h (with_ends l e r) k c ≡ seen f h r k c
    by_page k c (inl apart) = elim (eqb_tells c 0) [ inl w ↦ absurd (apart w.1) | inr w ↦ rw w.0 refl ]
    by_page k c (inr w) = let z : (c == 0) ≡ true = rw w.0 refl in
        rw z (ap f (get_or-set_other r.ends l k e (record { first = 0; last = 0; len = 0 }) w.1))

record IsLink (h i : Link → ℕ) (b : ℕ) (old new : Link) : Type 0 where
  is : h new ≡ b
  across : i new ≡ i old
  owner : new.list ≡ old.list

wrote_link : (f g : Ends → ℕ) (h i : Link → ℕ) (l a b : ℕ) (r : State) (x : Link) → a ≢ 0 → a < length r.links
    → IsLink h i b (link_at r a) x → Wrote f g h i l a b r (with_link a x r)
wrote_link f g h i l a b r x over inside new =
    elim (eqb_tells a 0) [
      | inl w ↦ absurd (over w.1)
      | inr w ↦ record {
        here = rw w.0 (ap h (get_or-set_same r.links a x (record { list = 0; before = 0; after = 0 }) inside) ∙ new.is);
        others = λ k c other. by_page k c other;
        across = λ k c. elim (c == 0) as (λ z. (if z then g (ends_at r k) else i (link_at (with_link a x r) c)) ≡ (if z then g (ends_at r k) else i (link_at r c)))
            [ true ↦ refl | false ↦ field_kept i r.links a c x (record { list = 0; before = 0; after = 0 }) inside new.across ];
        owners = λ q. field_kept (λ (y : Link). y.list) r.links a q x (record { list = 0; before = 0; after = 0 }) inside new.owner;
        lens = λ k. refl;
        links = length-set r.links a x;
        ends = refl;
      }
    ]
  where
    by_page : (k c : ℕ) → IsOther l a k c → seen f h (with_link a x r) k c ≡ seen f h r k c
    by_page k c (inl apart) =
        elim (c == 0) as (λ z. (if z then f (ends_at r k) else h (link_at (with_link a x r) c)) ≡ (if z then f (ends_at r k) else h (link_at r c)))
        [ true ↦ refl | false ↦ ap h (get_or-set_other r.links a c x (record { list = 0; before = 0; after = 0 }) apart) ]
    by_page k c (inr w) = let z : (c == 0) ≡ true = rw w.0 refl in rw z refl

-- either is written
wrote : (f g : Ends → ℕ) (h i : Link → ℕ) (l a b : ℕ) (r : State) (e : Ends) (x : Link) → l < length r.ends → a < length r.links
    → IsEnds f g b (ends_at r l) e → IsLink h i b (link_at r a) x
    → Wrote f g h i l a b r (if a == 0 then with_ends l e r else with_link a x r)
wrote f g h i l a b r e x few inside new link =
    elim (eqb_tells a 0) [
      | inl w ↦ rw w.0 (wrote_ends f g h i l a b r e w.1 few new)
      | inr w ↦ rw w.0 (wrote_link f g h i l a b r x w.1 inside link)
    ]

-- two pages are made neighbours
pub record IsJoined (l u v : ℕ) (r r' : State) : Type 0 where
  pub to : next_of r' l u ≡ v
  pub from : prev_of r' l v ≡ u
  pub nexts : (k c : ℕ) → IsOther l u k c → next_of r' k c ≡ next_of r k c
  pub prevs : (k c : ℕ) → IsOther l v k c → prev_of r' k c ≡ prev_of r k c
  pub owners : (q : ℕ) → (link_at r' q).list ≡ (link_at r q).list
  pub lens : (k : ℕ) → (ends_at r' k).len ≡ (ends_at r k).len
  pub links : length r'.links ≡ length r.links
  pub ends : length r'.ends ≡ length r.ends

pub joined_is : (l u v : ℕ) (r : State) → l < length r.ends → u < length r.links → v < length r.links → IsJoined l u v r (joined l u v r)
joined_is l u v r few first second =
    let mid : State = with_after l u v r in
    let a : Wrote (λ e. e.first) (λ e. e.last) (λ x. x.after) (λ x. x.before) l u v r mid =
    wrote (λ e. e.first) (λ e. e.last) (λ x. x.after) (λ x. x.before) l u v r (record (ends_at r l) { first = v })
    (record (link_at r u) { after = v }) few first (record { is = refl; across = refl; len = refl }) (record { is = refl; across = refl; owner = refl }) in
    let b : Wrote (λ e. e.last) (λ e. e.first) (λ x. x.before) (λ x. x.after) l v u mid (with_before l v u mid) =
    wrote (λ e. e.last) (λ e. e.first) (λ x. x.before) (λ x. x.after) l v u mid (record (ends_at mid l) { last = u })
    (record (link_at mid v) { before = u }) (omega (arith, a.ends, few)) (omega (arith, a.links, second))
    (record { is = refl; across = refl; len = refl }) (record { is = refl; across = refl; owner = refl }) in
    record {
      to = b.across l u ∙ a.here;
      from = b.here;
      nexts = λ k c other. b.across k c ∙ a.others k c other;
      prevs = λ k c other. b.others k c other ∙ a.across k c;
      owners = λ q. b.owners q ∙ a.owners q;
      lens = λ k. b.lens k ∙ a.lens k;
      links = b.links ∙ a.links;
      ends = b.ends ∙ a.ends;
    }

-- only the length of list l is written
pub record IsSized (l n : ℕ) (r r' : State) : Type 0 where
  pub nexts : (k c : ℕ) → next_of r' k c ≡ next_of r k c
  pub prevs : (k c : ℕ) → prev_of r' k c ≡ prev_of r k c
  pub here : (ends_at r' l).len ≡ n
  pub lens : (k : ℕ) → k ≢ l → (ends_at r' k).len ≡ (ends_at r k).len
  pub links : r'.links ≡ r.links
  pub ends : length r'.ends ≡ length r.ends

pub sized_is : (l n : ℕ) (r : State) → l < length r.ends → IsSized l n r (with_ends l (record (ends_at r l) { len = n }) r)
sized_is l n r few =
    let e : Ends = record (ends_at r l) { len = n } in
    record {
      nexts = λ k c. elim (c == 0) as (λ z. (if z then (ends_at (with_ends l e r) k).first else (link_at r c).after) ≡ (if z then (ends_at r k).first else (link_at r c).after))
          [ true ↦ field_kept (λ (x : Ends). x.first) r.ends l k e (record { first = 0; last = 0; len = 0 }) few refl | false ↦ refl ];
      prevs = λ k c. elim (c == 0) as (λ z. (if z then (ends_at (with_ends l e r) k).last else (link_at r c).before) ≡ (if z then (ends_at r k).last else (link_at r c).before))
          [ true ↦ field_kept (λ (x : Ends). x.last) r.ends l k e (record { first = 0; last = 0; len = 0 }) few refl | false ↦ refl ];
      here = ap (λ (x : Ends). x.len) (get_or-set_same r.ends l e (record { first = 0; last = 0; len = 0 }) few);
      lens = λ k apart. ap (λ (x : Ends). x.len) (get_or-set_other r.ends l k e (record { first = 0; last = 0; len = 0 }) apart);
      links = refl;
      ends = length-set r.ends l e;
    }

-- only the list of page p is written
pub record IsListed (p l : ℕ) (r r' : State) : Type 0 where
  pub nexts : (k c : ℕ) → next_of r' k c ≡ next_of r k c
  pub prevs : (k c : ℕ) → prev_of r' k c ≡ prev_of r k c
  pub here : (link_at r' p).list ≡ l
  pub owners : (q : ℕ) → q ≢ p → (link_at r' q).list ≡ (link_at r q).list
  pub links : length r'.links ≡ length r.links
  pub ends : r'.ends ≡ r.ends

pub listed_is : (p l : ℕ) (r : State) → p < length r.links → IsListed p l r (with_list p l r)
listed_is p l r inside =
    let x : Link = record (link_at r p) { list = l } in
    record {
      nexts = λ k c. elim (c == 0) as (λ z. (if z then (ends_at r k).first else (link_at (with_link p x r) c).after) ≡ (if z then (ends_at r k).first else (link_at r c).after))
          [ true ↦ refl | false ↦ field_kept (λ (y : Link). y.after) r.links p c x (record { list = 0; before = 0; after = 0 }) inside refl ];
      prevs = λ k c. elim (c == 0) as (λ z. (if z then (ends_at r k).last else (link_at (with_link p x r) c).before) ≡ (if z then (ends_at r k).last else (link_at r c).before))
          [ true ↦ refl | false ↦ field_kept (λ (y : Link). y.before) r.links p c x (record { list = 0; before = 0; after = 0 }) inside refl ];
      here = ap (λ (y : Link). y.list) (get_or-set_same r.links p x (record { list = 0; before = 0; after = 0 }) inside);
      owners = λ q apart. ap (λ (y : Link). y.list) (get_or-set_other r.links p q x (record { list = 0; before = 0; after = 0 }) apart);
      links = length-set r.links p x;
      ends = refl;
    }
