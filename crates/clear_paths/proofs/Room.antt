-- A clear page is unused until its one position is looked at.
use Rattle.std.proofs.Common.{◌≡◌, ◌≤◌, ℕ, ◌+◌, ◌==◌, true, List, [], ◌∷◌, sym, subst, inl, inr, arith}
use Rattle.std.specs.List.{flat_map}
use Rattle.std.proofs.lemmas.Bool.Decides.{eqb_tells}
use Rattle.page_access.specs.Pages.{File}
use Rattle.page_lists.specs.Lists.{IsPartOf, count, is_in}
use Rattle.page_lists.specs.Table.{is_page}
use Rattle.page_lists.proofs.Counts.{at_most_one, count-append, count_in, in_from_count, in_or_not}
use Rattle.page_lists.proofs.Moves.{count_pages}
use Rattle.overflow_chain.specs.Chain.{next_page}
use Rattle.page_walk.specs.Pointers.{pointers_on}
use Rattle.clear_paths.specs.Clear.{IsClear, Touched, all_pages, counted, next_on, numbers_on, outer_numbers, overflows_on, touched}
use Rattle.clear_paths.proofs.Measures.{times, times-append, times_part, times_split}
use Rattle.clear_paths.proofs.Moments.{Moment, Used, times_named}
use Rattle.clear_paths.proofs.Touched.{page_there, touched_there}

-- what was looked at outside the pages and in cells is part of what counts
pub record HasRoom (f : File) (roots : List ℕ) (d : Used) : Type 0 where
  pub seen : (q : ℕ) → count q d.seen ≤ count q (outer_numbers roots)
  pub asked : (q : ℕ) → count q d.asked ≤ times (overflows_on f) (touched f roots) q

-- the numbers that count, by the sorts of their positions
counted_parts : (f : File) (roots : List ℕ) (q : ℕ) → count q (counted f roots) ≡ count q (outer_numbers roots)
    + (times (pointers_on f) (touched f roots) q + times (overflows_on f) (touched f roots) q + times (next_on f) (touched f roots) q)
counted_parts f roots q =
    omega (arith, count-append q (outer_numbers roots) (flat_map (numbers_on f) (touched f roots)), times_split f (touched f roots) q)

module _ {f : File} {roots : List ℕ} {d : Used} {u : List ℕ} (m : Moment f roots d u) where
  -- used pages are some of the touched ones
  pub used_part : (xs : List ℕ) → ((q : ℕ) → count q xs ≤ count q d.trees + count q d.chains) → IsPartOf xs (touched f roots)
  used_part xs some q =
      elim (in_or_not q xs) [
        | inl w ↦
            let there : is_in q (touched f roots) ≡ true = touched_there f roots q (m.touched q (omega (arith, some q, w.1))) in
            omega (arith, some q, m.parts q, count_pages f.pages q, at_most_one (is_page f.pages q), count_in q (touched f roots) there)
        | inr w ↦ omega (arith, w.1)
      ]

  -- and so they are with a touched page that is unused
  more_part : (p : ℕ) (xs : List ℕ) → ((q : ℕ) → count q xs ≤ count q d.trees + count q d.chains) → is_in p u ≡ true → Touched f roots p
      → IsPartOf (p ∷ xs) (touched f roots)
  more_part p xs some free t q =
      elim (eqb_tells p q) [
        | inl w ↦
            let free' : is_in q u ≡ true = subst (λ (x : ℕ). is_in x u ≡ true) w.1 free in
            let there : is_in q (touched f roots) ≡ true = touched_there f roots q (subst (Touched f roots) w.1 t) in
            rw w.0 (omega (
              arith,
              some q,
              m.parts q,
              count_pages f.pages q,
              at_most_one (is_page f.pages q),
              count_in q u free',
              count_in q (touched f roots) there,
            ))
        | inr w ↦ rw w.0 (omega (arith, used_part xs some q))
      ]

  -- a clear page is unused where it stands once more among the numbers that count than among those that were looked at
  is_unused : (q : ℕ) → IsClear f roots q → times_named f d q + 1 ≤ count q (counted f roots) → is_in q u ≡ true
  is_unused q clear less =
      elim (in_or_not q u) [
        | inl w ↦ w.0
        | inr w ↦
            let all : 1 ≤ count q (all_pages f) = count_in q (all_pages f) (page_there f q clear.of_file) in
            let used : 1 ≤ count q d.trees + count q d.chains = omega (arith, m.parts q, all, w.1) in
            absurd (omega (arith, m.named q used, less, clear.one))
      ]

  trees_some : (q : ℕ) → count q d.trees ≤ count q d.trees + count q d.chains
  trees_some q = omega arith

  chains_some : (q : ℕ) → count q d.chains ≤ count q d.trees + count q d.chains
  chains_some q = omega arith

  pointers_within : (q : ℕ) → times (pointers_on f) d.trees q ≤ times (pointers_on f) (touched f roots) q
  pointers_within q = times_part (pointers_on f) d.trees (touched f roots) q (used_part d.trees trees_some)

  nexts_within : (q : ℕ) → times (next_on f) d.chains q ≤ times (next_on f) (touched f roots) q
  nexts_within q = times_part (next_on f) d.chains (touched f roots) q (used_part d.chains chains_some)

  -- by a position outside the pages that was not looked at
  pub unused_by_outer : (q : ℕ) → HasRoom f roots d → IsClear f roots q → count q d.seen + 1 ≤ count q (outer_numbers roots) → is_in q u ≡ true
  unused_by_outer q room clear more =
      is_unused q clear (omega (arith, more, room.asked q, pointers_within q, nexts_within q, counted_parts f roots q))

  -- by an overflow number that was not looked at
  pub unused_by_overflow : (q : ℕ) → HasRoom f roots d → IsClear f roots q
      → count q d.asked + 1 ≤ times (overflows_on f) (touched f roots) q → is_in q u ≡ true
  unused_by_overflow q room clear more =
      is_unused q clear (omega (arith, more, room.seen q, pointers_within q, nexts_within q, counted_parts f roots q))

  -- by a pointer of a touched page that is unused
  pub unused_by_pointer : (p q : ℕ) → HasRoom f roots d → IsClear f roots q → is_in p u ≡ true → Touched f roots p
      → is_in q (pointers_on f p) ≡ true → is_in q u ≡ true
  unused_by_pointer p q room clear free t there =
      let more = times_part (pointers_on f) (p ∷ d.trees) (touched f roots) q (more_part p d.trees trees_some free t) in
      is_unused q clear (omega (
        arith,
        more,
        count-append q (pointers_on f p) (flat_map (pointers_on f) d.trees),
        count_in q (pointers_on f p) there,
        room.seen q,
        room.asked q,
        nexts_within q,
        counted_parts f roots q,
      ))

  -- by the first bytes of one
  pub unused_by_next : (p q : ℕ) → HasRoom f roots d → IsClear f roots q → is_in p u ≡ true → Touched f roots p
      → is_in q (next_on f p) ≡ true → is_in q u ≡ true
  unused_by_next p q room clear free t there =
      let more = times_part (next_on f) (p ∷ d.chains) (touched f roots) q (more_part p d.chains chains_some free t) in
      is_unused q clear (omega (
        arith,
        more,
        count-append q (next_on f p) (flat_map (next_on f) d.chains),
        count_in q (next_on f p) there,
        room.seen q,
        room.asked q,
        pointers_within q,
        counted_parts f roots q,
      ))
