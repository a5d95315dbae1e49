-- The links of pages that stand in one list, rising.
use Rattle.std.proofs.Common.{◌≡◌, ◌≢◌, ◌⊎◌, inl, inr, ℕ, zero, suc, ◌+◌, ◌-◌, ◌^◌, ◌<◌, ◌≤◌, ◌==◌, List, [], length, map, get_or, replicate, nat_le, true, false, refl, sym, ◌∙◌, ap, subst, arith}
use Rattle.std.specs.List.{range_with_len}
use Rattle.std.specs.Prelude.{if◌then◌else◌}
use Rattle.std.proofs.lemmas.Bool.{cases_lt, le-leb, lt-leb}
use Rattle.std.proofs.lemmas.Bool.Decides.{eqb_tells}
use Rattle.std.proofs.lemmas.List.{length-map, length-replicate, get_or_past, get_or-replicate}
use Rattle.std.proofs.lemmas.List.FromFn.{length-range_with_len, get_or-map-range_with_len}
use Rattle.page_lists.specs.declared.rings.Link.{Link}
use Rattle.page_lists.specs.declared.rings.Ends.{Ends}
use Rattle.page_lists.specs.Table.{fresh, list_at}
use Rattle.page_lists.specs.Rings.{State, ends_at, ends_of_row, link_at, link_in_row}
use Rattle.page_lists.specs.Stored.{IsLinked, Spells, Step}
use Rattle.page_lists.proofs.Moves.{IsPartition-fresh, fresh_pages, owner-fresh}

-- the links as they are made
abbrev pub row_of : ℕ → ℕ → State
row_of n more = record { links = map (link_in_row n) (range_with_len 0 (n + 1)); ends = ends_of_row n more }

-- a step along rising pages leads to the next, and in the end to 0
row_steps : (a b x n : ℕ) → Step a b x (range_with_len (x + 1) n) → ((b ≡ a + 1) × ((x ≤ a) × (a < x + n))) ⊎ ((b ≡ 0) × (a ≡ x + n))
row_steps a b x zero h = inr (h.1, omega (arith, h.0))
row_steps a b x (suc n) (inl h) = inl (omega (arith, h.0, h.1), (omega (arith, h.0), omega (arith, h.0)))
row_steps a b x (suc n) (inr h) =
    elim (row_steps a b (x + 1) n h) [
      | inl on ↦ inl (on.0, (omega (arith, on.1.0), omega (arith, on.1.1)))
      | inr end ↦ inr (end.0, omega (arith, end.1))
    ]

link_of : (n more p : ℕ) → p ≤ n → link_at (row_of n more) p ≡ link_in_row n p
link_of n more p high = get_or-map-range_with_len (link_in_row n) 0 (n + 1) p p (record { list = 0; before = 0; after = 0 }) (omega (arith, high)) (omega arith)

-- the links of the first list
first_linked : (n more : ℕ) → IsLinked (row_of n more) 0 (range_with_len 1 n)
first_linked n more a b step =
    elim (row_steps a b 0 n step) [
      | inl on ↦
          let b_over : (b == 0) ≡ false = elim (eqb_tells b 0) [ inl w ↦ absurd (omega (arith, w.1, on.0)) | inr w ↦ w.0 ] in
          let back : (link_at (row_of n more) b).before ≡ a = ap (λ (x : Link). x.before) (link_of n more b (omega (arith, on.0, on.1.1))) ∙ omega (arith, on.0) in (
            by_start a (eqb_tells a 0) on.1.1 on.0,
            rw b_over back,
          )
      | inr end ↦
          let b_zero : (b == 0) ≡ true = rw end.0 refl in (
            by_end (eqb_tells a 0) end.1 end.0,
            rw b_zero (omega (arith, end.1)),
          )
    ]
  where
    by_start : (c : ℕ) → (((c == 0) ≡ true) × (c ≡ 0)) ⊎ (((c == 0) ≡ false) × (c ≢ 0)) → c < 0 + n → b ≡ c + 1
        → (if c == 0 then (ends_at (row_of n more) 0).first else (link_at (row_of n more) c).after) ≡ b
    by_start c (inl w) lt e = let some : nat_le n 0 ≡ false = lt-leb n 0 (omega (arith, lt)) in rw (w.0, some) (omega (arith, e, w.1))
    by_start c (inr w) lt e =
        let some : nat_le n c ≡ false = lt-leb n c (omega (arith, lt)) in
        rw w.0 (ap (λ (x : Link). x.after) (link_of n more c (omega (arith, lt))) ∙ rw some (sym e))

    by_end : (((a == 0) ≡ true) × (a ≡ 0)) ⊎ (((a == 0) ≡ false) × (a ≢ 0)) → a ≡ 0 + n → b ≡ 0
        → (if a == 0 then (ends_at (row_of n more) 0).first else (link_at (row_of n more) a).after) ≡ b
    by_end (inl w) e z = let none : nat_le n 0 ≡ true = le-leb n 0 (omega (arith, e, w.1)) in rw (w.0, none) (sym z)
    by_end (inr w) e z =
        let none : nat_le n a ≡ true = le-leb n a (omega (arith, e)) in
        rw w.0 (ap (λ (x : Link). x.after) (link_of n more a (omega (arith, e))) ∙ rw none (sym z))

-- a list of a table without pages in it
none_at : {X : Type 0} (more l : ℕ) (x : X) → get_or (replicate more x) l x ≡ x
none_at more l x =
    elim (cases_lt l more) [
      | inl lt ↦ get_or-replicate more l x x lt
      | inr past ↦ get_or_past (replicate more x) l x (omega (arith, past, length-replicate more x))
    ]

pub spells_fresh : (n more : ℕ) → n < 2 ^ 32 - 1 → Spells (row_of n more) (fresh n more)
spells_fresh n more small = record {
  each = IsPartition-fresh n more;
  total = ap length (fresh_pages n more) ∙ length-range_with_len 1 n;
  small = small;
  size = length-map (range_with_len 0 (n + 1)) (link_in_row n) ∙ length-range_with_len 0 (n + 1);
  same = omega (arith, length-replicate {A = Ends} more (record { first = 0; last = 0; len = 0 }), length-replicate {A = List ℕ} more []);
  linked = linked;
  lens = lens;
  owners = λ q low high. ap (λ (x : Link). x.list) (link_of n more q high) ∙ sym (owner-fresh q n more low high);
}
  where
    linked : (l : ℕ) → IsLinked (row_of n more) l (list_at l (fresh n more).lists)
    linked zero = first_linked n more
    linked (suc l) =
        let none : list_at (suc l) (fresh n more).lists ≡ [] = none_at more l [] in
        let ends : ends_at (row_of n more) (suc l) ≡ record { first = 0; last = 0; len = 0 } = none_at more l (record { first = 0; last = 0; len = 0 }) in
        subst (λ (xs : List ℕ). IsLinked (row_of n more) (suc l) xs) (sym none)
        (λ a b step. (rw step.0 (ap (λ (e : Ends). e.first) ends ∙ sym step.1), rw step.1 (ap (λ (e : Ends). e.last) ends ∙ sym step.0)))

    lens : (l : ℕ) → length (list_at l (fresh n more).lists) ≡ (ends_at (row_of n more) l).len
    lens zero = length-range_with_len 1 n
    lens (suc l) = ap length (none_at more l []) ∙ sym (ap (λ (e : Ends). e.len) (none_at more l (record { first = 0; last = 0; len = 0 })))
