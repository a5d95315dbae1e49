-- The loop over the pages of a chain, whatever its source tells: which pages it takes, and how many bytes come.
use Rattle.std.proofs.Common.{◌≡◌, ℕ, ◌+◌, ◌-◌, ◌<◌, ◌≤◌, true, List, [], ◌∷◌, ◌++◌, length, take, drop, refl, sym, ap, ◌∙◌, subst, arith, append_assoc, append-nil, length-append, length-take}
use Rattle.std.specs.List.{AllByRecursion, slice_range}
use Rattle.page_lists.specs.Lists.{IsPartOf, is_in, minus}
use Rattle.page_lists.specs.Table.{Table, all_moved, moved, unused}
use Rattle.page_lists.proofs.Counts.{part_append, part_none, part_one}
use Rattle.page_lists.proofs.Uses.{all_moved-append, unused-all_moved}
use Rattle.overflow_chain.specs.Turn.{Takes}
use Rattle.overflow_chain.specs.declared.TheConstants.{OVERFLOW_LIST}

-- what was taken while `missing` of the bytes are still to come
pub record Taking (need : ℕ) (t t' : Table) (pages pages' to to' : List ℕ) (missing : ℕ) : Type 0 where
  pub taken : List ℕ
  pub were_unused : IsPartOf taken (unused t)
  pub inside : AllByRecursion (λ p. (1 ≤ p) × (p ≤ t.pages)) taken
  pub pages_are : pages' ≡ pages ++ taken
  pub table_is : t' ≡ all_moved taken OVERFLOW_LIST t
  pub room : length to' + missing ≤ length to + need

inside_append : (n : ℕ) (ps qs : List ℕ) → AllByRecursion (λ p. (1 ≤ p) × (p ≤ n)) ps → AllByRecursion (λ p. (1 ≤ p) × (p ≤ n)) qs
    → AllByRecursion (λ p. (1 ≤ p) × (p ≤ n)) (ps ++ qs)
inside_append n [] qs h k = k
inside_append n (p ∷ ps) qs h k = (h.0, inside_append n ps qs h.1 k)

pub taking_start : (need : ℕ) (t : Table) (pages to : List ℕ) → Taking need t t pages pages to to need
taking_start need t pages to = record {
  taken = [];
  were_unused = part_none (unused t);
  inside = tt;
  pages_are = sym (append-nil pages);
  table_is = refl;
  room = omega arith;
}

pub taking_more : (need : ℕ) (t t' t'' : Table) (pages pages' pages'' to to' to'' buffer : List ℕ) (missing missing' at usable : ℕ)
    → Taking need t t' pages pages' to to' missing → is_in at (unused t') ≡ true → 1 ≤ at → at ≤ t.pages
    → pages'' ≡ pages' ++ at ∷ [] → to'' ≡ to' ++ take missing (slice_range buffer 4 usable) → t'' ≡ moved at OVERFLOW_LIST t'
    → missing' ≡ missing - (usable - 4) → Taking need t t'' pages pages'' to to'' missing'
taking_more need t t' t'' pages pages' pages'' to to' to'' buffer missing missing' at usable was there low high pushed put moves less =
    let left : unused t' ≡ minus (unused t) was.taken =
    ap unused was.table_is ∙ unused-all_moved was.taken OVERFLOW_LIST t (omega arith) in
    let one : IsPartOf (at ∷ []) (minus (unused t) was.taken) =
    part_one at (minus (unused t) was.taken) (ap (is_in at) (sym left) ∙ there) in
    let room : length to' + missing ≤ length to + need = was.room in
    record {
      taken = was.taken ++ at ∷ [];
      were_unused = part_append (unused t) was.taken (at ∷ []) was.were_unused one;
      inside = inside_append t.pages was.taken (at ∷ []) was.inside ((low, high), tt);
      pages_are = pushed ∙ ap (λ (ps : List ℕ). ps ++ at ∷ []) was.pages_are ∙ append_assoc pages was.taken (at ∷ []);
      table_is = moves ∙ ap (moved at OVERFLOW_LIST) was.table_is ∙ sym (all_moved-append was.taken (at ∷ []) OVERFLOW_LIST t);
      room = omega (
        arith,
        ap length put,
        length-append to' (take missing (slice_range buffer 4 usable)),
        length-take missing (slice_range buffer 4 usable),
        length-take (usable - 4) (drop 4 buffer),
        less,
      );
    }

pub taking_done : (need : ℕ) (t t' : Table) (pages pages' to to' : List ℕ) (missing : ℕ)
    → Taking need t t' pages pages' to to' missing → Takes need t t' pages pages' to to'
taking_done need t t' pages pages' to to' missing was = record {
  taken = was.taken;
  were_unused = was.were_unused;
  inside = was.inside;
  pages_are = was.pages_are;
  table_is = was.table_is;
  room = omega (arith, was.room);
}
