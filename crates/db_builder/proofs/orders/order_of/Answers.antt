use Rattle.std.proofs.Common.{◌≡◌, ap, arith, sym, subst, length, rules, List, ℕ}
use Rattle.std.proofs.lemmas.List.FromFn.{length-range_with_len}
use Rattle.std.proofs.lemmas.Cmp.{nat_cmp_total, then_total}
use Rattle.std.proofs.lemmas.Fn.{always_returns_same, dedup_same}
use Rattle.std.proofs.lemmas.List.Sorted.{ranks_by}
use Rattle.std.specs.List.{dedup, range_with_len}
use Rattle.std.specs.List.Sorted.{IsPermutation, IsSorted}
use Rattle.std.specs.Ordering.{eq_by_cmp, is_lt}
use Rattle.db_builder.proofs.Firsts.{AreFirsts, by_place, firsts_sorted}
use Rattle.db_builder.proofs.Ordered.{names_rows, rows_cmp, rows_in_order, rows_total}
use Rattle.db_builder.proofs.orders.order_of.Goals as goal

pub returns : goal.returns
returns c =
    let parts = c.args.parts.now in
    let rows = c.args.rows.now in
    let n = length rows in
    let R = rows_cmp parts rows in
    let total = rows_total parts rows in
    let found = c.sort_unstable_by.new.self.items in
    let left = c.dedup_by.new.self.items in
    let all : c.in_ok-numbers.numbers.items ≡ range_with_len 0 n = c.in_ok-numbers.ensures in
    let sorted : IsSorted (by_place R) found =
    c.sort_unstable_by.ensures.sorted (λ x y. is_lt (by_place R x y)) (ranks_by (then_total total nat_cmp_total) (λ a. a))
    (always_returns_same _ (λ a r. is_lt r ≡ is_lt (by_place R a.0.now a.1.0.now)) _ (λ a r f k. search rules)) in
    let kept : left ≡ dedup (eq_by_cmp R) found =
    dedup_same _ (eq_by_cmp R) _ (λ x y b f x' y' k. search rules) _ _ c.dedup_by.ensures.filtered in
    let moved : IsPermutation (range_with_len 0 n) found =
    subst (λ (xs : List ℕ). IsPermutation xs found) all c.sort_unstable_by.ensures.permutation in
    let firsts : AreFirsts R n left = subst (AreFirsts R n) (sym kept) (firsts_sorted total n found moved sorted) in
    record {
      order = rows_in_order parts rows left firsts;
      there = names_rows n left firsts.below;
      few = omega (
        arith,
        c.requires,
        c.dedup_by.ensures.bound,
        c.dedup_by.new.self.ok.0,
        c.sort_unstable_by.ensures.len,
        c.in_ok-numbers.numbers.ok.0,
        ap length all,
        length-range_with_len 0 n,
      );
    }
