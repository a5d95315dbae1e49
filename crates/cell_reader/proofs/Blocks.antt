-- Blocks of marks: what a block without a mark says, and what a range leaves of it.
use Rattle.std.proofs.Common.{◌≡◌, ◌<◌, ◌≤◌, ◌⊎◌, inl, inr, ℕ, ◌+◌, ◌-◌, ◌*◌, ◌/◌, Bool, true, false, not, ◌&&◌, ◌||◌, List, length, get_or, min, nat_le, nat_lt, refl, sym, subst, ◌∙◌, ap, arith}
use Rattle.std.specs.List.{list_all, slice_range}
use Rattle.std.proofs.lemmas.Bool.{cases_Bool, or_from, or_parts, true≢false}
use Rattle.std.proofs.lemmas.Bool.Decides.{nat_tests}
use Rattle.cell_reader.specs.Cover.{IsBlocked, is_free, with_range}
use Rattle.cell_reader.proofs.Marks.{free_unset, length_set, set_mark, unset_free}

-- the bytes of a block without a mark have none
pub block_unset : (marks blocks : List Bool) (at stop : ℕ) → IsBlocked marks blocks → stop ≤ (at / 256 + 1) * 256
    → get_or blocks (at / 256) false ≡ false → (k : ℕ) → at ≤ k → k < stop → get_or marks k false ≡ false
block_unset marks blocks at stop b le h k low high =
    let same : at / 256 ≡ k / 256 = omega arith in
    b.clear k (subst (λ n. get_or blocks n false ≡ false) same h)

-- what is unset below a place and from there on is unset below the end
pub unset_more : (marks : List Bool) (start at stop : ℕ) → ((k : ℕ) → start ≤ k → k < at → get_or marks k false ≡ false)
    → ((k : ℕ) → at ≤ k → k < stop → get_or marks k false ≡ false)
    → (k : ℕ) → start ≤ k → k < stop → get_or marks k false ≡ false
unset_more marks start at stop below here k low high = elim (cases_Bool (nat_lt k at)) [
  | inl hit ↦ below k low (grind (arith, nat_tests))
  | inr miss ↦ here k (grind (arith, nat_tests)) high
]

-- a part with a mark
pub part_marked : (marks : List Bool) (start end at stop : ℕ) → start ≤ at → stop ≤ end → end ≤ length marks
    → list_all not (slice_range marks at stop) ≡ false → false ≡ is_free marks start end
part_marked marks start end at stop low high le h = elim (cases_Bool (is_free marks start end)) [
  | inl hit ↦ absurd (true≢false (sym (unset_free marks at stop (λ k a b.
      free_unset marks start end le hit k (omega arith) (omega arith))) ∙ h))
  | inr miss ↦ sym miss
]

-- a range that was set, and its blocks
pub blocked_more : (marks blocks : List Bool) (s e : ℕ) → IsBlocked marks blocks → s < e → e ≤ length marks
    → IsBlocked (with_range marks s e) (with_range blocks (s / 256) ((e - 1) / 256 + 1))
blocked_more marks blocks s e b lt le =
    let first = s / 256 in
    let last = (e - 1) / 256 + 1 in
    let blt : first < last = omega arith in
    let ble : last ≤ length blocks = omega (arith, b.many) in
    record {
      many = omega (arith, b.many, length_set marks s e lt le, length_set blocks first last blt ble);
      clear = λ k h.
          let was = or_parts (nat_le first (k / 256) && nat_lt (k / 256) last) (get_or blocks (k / 256) false)
          (sym (set_mark blocks first last (k / 256) blt ble) ∙ h) in
          set_mark marks s e k lt le ∙ or_from (nat_le s k && nat_lt k e) (get_or marks k false) (outside k was.0) (b.clear k was.1);
    }
  where
    both : (x y : Bool) → x ≡ true → y ≡ true → (x && y) ≡ true
    both x y p q = ap (λ z. z && y) p ∙ q

    outside : (k : ℕ) → (nat_le (s / 256) (k / 256) && nat_lt (k / 256) ((e - 1) / 256 + 1)) ≡ false → (nat_le s k && nat_lt k e) ≡ false
    outside k h = elim (cases_Bool (nat_le s k && nat_lt k e)) [
      | inl hit ↦
          let low : s ≤ k = grind (arith, nat_tests) in
          let high : k < e = grind (arith, nat_tests) in
          let a : s / 256 ≤ k / 256 = omega arith in
          let c : k / 256 < (e - 1) / 256 + 1 = omega arith in
          let p : nat_le (s / 256) (k / 256) ≡ true = grind (arith, nat_tests) in
          let q : nat_lt (k / 256) ((e - 1) / 256 + 1) ≡ true = grind (arith, nat_tests) in
          absurd (true≢false (sym (both (nat_le (s / 256) (k / 256)) (nat_lt (k / 256) ((e - 1) / 256 + 1)) p q) ∙ h))
      | inr miss ↦ miss
    ]

-- no mark below a range that was set, and below a place below which none was set, is set
pub below_more : (marks : List Bool) (s e low : ℕ) → s < e → e ≤ length marks → ((k : ℕ) → k < low → get_or marks k false ≡ false)
    → (k : ℕ) → k < min low s → get_or (with_range marks s e) k false ≡ false
below_more marks s e low lt le h k small =
    let before : nat_le s k ≡ false = grind (arith, nat_tests) in
    set_mark marks s e k lt le ∙ rw before (h k (omega arith))
