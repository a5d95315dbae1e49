-- A turn takes the longest front of the chain whose pages are unused.
use Rattle.std.proofs.Common.{◌≡◌, ℕ, zero, suc, true, List, [], ◌∷◌, take, refl, sym, ap, ◌∙◌, subst, inl, inr, arith}
use Rattle.page_access.specs.Pages.{File}
use Rattle.page_lists.specs.Lists.{IsPartOf, is_in, without, minus}
use Rattle.page_lists.proofs.Counts.{in_or_not, in_part, in_head, part_rest, count-without}
use Rattle.overflow_chain.specs.Chain.{Linked, chain_len, contents, next_page}
use Rattle.overflow_chain.specs.Turn.{end_of, turn, turn_end, turn_of, why_not}
use Rattle.overflow_chain.specs.Laws.{EndsSo, IsTurn, TurnIsLongest, WholeIsAlwaysChain, reached}
use Rattle.overflow_chain.specs.declared.ChainEnd.{ChainEnd}
use Rattle.overflow_chain.specs.declared.ChainEnd.TheVariants.{Whole, Broken}

pub turn_part : (next : ℕ → ℕ) (k : ℕ) (unused : List ℕ) (q : ℕ) → IsPartOf (turn next k unused q) unused
turn_part next zero unused q p = omega arith
turn_part next (suc k) unused q p =
    elim (in_or_not q unused) [
      | inl w ↦ rw w.0 (omega (arith, turn_part next k (without q unused) (next q) p, count-without p q unused w.0))
      | inr w ↦ rw w.0 (omega arith)
    ]

pub turn_linked : (next : ℕ → ℕ) (k : ℕ) (unused : List ℕ) (q : ℕ) → Linked next q (turn next k unused q)
turn_linked next zero unused q = tt
turn_linked next (suc k) unused q =
    elim (in_or_not q unused) [
      | inl w ↦ rw w.0 (refl, turn_linked next k (without q unused) (next q))
      | inr w ↦ rw w.0 tt
    ]

-- one page more before the end
ends_more : (n k p at : ℕ) (pages left : List ℕ) (end : ChainEnd) → EndsSo n k pages left at end → EndsSo n (suc k) (p ∷ pages) left at end
ends_more n k p at pages left Whole ends = ap (λ (m : ℕ). suc m) ends
ends_more n k p at pages left (Broken b why) ends = (omega (arith, ends.0), ends.1, ends.2, ends.3)

ends_less : (n k p at : ℕ) (pages left : List ℕ) (end : ChainEnd) → EndsSo n (suc k) (p ∷ pages) left at end → EndsSo n k pages left at end
ends_less n k p at pages left Whole ends = omega (arith, ends)
ends_less n k p at pages left (Broken b why) ends = (omega (arith, ends.0), ends.1, ends.2, ends.3)

pub turn_ends : (next : ℕ → ℕ) (n k : ℕ) (unused : List ℕ) (q : ℕ)
    → EndsSo n k (turn next k unused q) (minus unused (turn next k unused q)) (reached next q (turn next k unused q)) (turn_end next n k unused q)
turn_ends next n zero unused q = refl
turn_ends next n (suc k) unused q =
    elim (in_or_not q unused) [
      | inl w ↦
          rw w.0 (ends_more n k q (reached next (next q) (turn next k (without q unused) (next q))) (turn next k (without q unused) (next q))
          (minus (without q unused) (turn next k (without q unused) (next q))) (turn_end next n k (without q unused) (next q)) (turn_ends next n k (without q unused) (next q)))
      | inr w ↦ rw w.0 (omega arith, w.0, refl, refl)
    ]

-- pages and an end that are a turn's are those that are computed
pub longest : (next : ℕ → ℕ) (n k : ℕ) (unused : List ℕ) (q : ℕ) (pages : List ℕ) (end : ChainEnd) → IsPartOf pages unused → Linked next q pages
    → EndsSo n k pages (minus unused pages) (reached next q pages) end → (pages ≡ turn next k unused q) × (end ≡ turn_end next n k unused q)
longest next n zero unused q [] Whole part linked ends = (refl, refl)
longest next n zero unused q [] (Broken at why) part linked ends = absurd (omega (arith, ends.0))
longest next n zero unused q (p ∷ pages) Whole part linked ends = absurd (omega (arith, ends))
longest next n zero unused q (p ∷ pages) (Broken at why) part linked ends = absurd (omega (arith, ends.0))
longest next n (suc k) unused q [] Whole part linked ends = absurd (omega (arith, ends))
longest next n (suc k) unused q [] (Broken at why) part linked ends =
    let same : Broken at why ≡ Broken q (why_not n q) = rw (ends.2, ends.3) refl in
    (rw ends.1 refl, rw ends.1 same)
longest next n (suc k) unused q (p ∷ pages) end part linked ends =
    let there : is_in p unused ≡ true = in_part p (p ∷ pages) unused part (in_head p pages) in
    let here : is_in q unused ≡ true = subst (λ (m : ℕ). is_in m unused ≡ true) linked.0 there in
    let rest = longest next n k (without p unused) (next p) pages end (part_rest p pages unused part) linked.1
    (ends_less n k p (reached next (next p) pages) pages (minus (without p unused) pages) end ends) in
    let pages_are : pages ≡ turn next k (without q unused) (next q) = subst (λ (m : ℕ). pages ≡ turn next k (without m unused) (next m)) linked.0 rest.0 in
    let end_is : end ≡ turn_end next n k (without q unused) (next q) = subst (λ (m : ℕ). end ≡ turn_end next n k (without m unused) (next m)) linked.0 rest.1 in
    (rw (here, linked.0) (ap (λ (xs : List ℕ). q ∷ xs) pages_are), rw here end_is)

pub turn_is_longest : TurnIsLongest
turn_is_longest f q need unused pages end = (
  λ is. longest (next_page f) f.pages (chain_len f need) unused q pages end is.unused_all is.linked is.ended,
  λ same. subst (λ (p : List ℕ × ChainEnd). IsTurn f q need unused p.0 p.1) (sym (pair same.0 same.1)) (computed f q need unused),
)
  where
    pair : {pages pages' : List ℕ} {end end' : ChainEnd} → pages ≡ pages' → end ≡ end' → ◌≡◌ {A = List ℕ × ChainEnd} (pages, end) (pages', end')
    pair a b = rw (a, b) refl

    computed : (f : File) (q need : ℕ) (unused : List ℕ) → IsTurn f q need unused (turn_of f q need unused) (end_of f q need unused)
    computed f q need unused = record {
      unused_all = turn_part (next_page f) (chain_len f need) unused q;
      linked = turn_linked (next_page f) (chain_len f need) unused q;
      ended = turn_ends (next_page f) f.pages (chain_len f need) unused q;
    }

pub whole_turn_is_chain : WholeIsAlwaysChain
whole_turn_is_chain f q need unused once = record {
  is_chain = λ whole.
      let ends = turn_ends (next_page f) f.pages (chain_len f need) unused q in
      record {
        many = subst (λ (end : ChainEnd). EndsSo f.pages (chain_len f need) (turn_of f q need unused) (minus unused (turn_of f q need unused)) (reached (next_page f) q (turn_of f q need unused)) end) whole ends;
        inside = λ p. omega (arith, turn_part (next_page f) (chain_len f need) unused q p, once p);
        linked = turn_linked (next_page f) (chain_len f need) unused q;
        bytes_are = refl;
      };
  takes_it = λ pages bytes chain part.
      let both = longest (next_page f) f.pages (chain_len f need) unused q pages Whole part chain.linked chain.many in
      (sym both.1, sym both.0, ap (λ (xs : List ℕ). take need (contents f xs)) (sym both.0) ∙ sym chain.bytes_are);
}
