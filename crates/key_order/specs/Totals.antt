-- The order of keys is total (docs/FORMAT.md, "Order of keys").
use Rattle.std.specs.Prelude.{List}
use Rattle.std.specs.Cmp.{IsTotalOrder}
use Rattle.std.specs.Cmp.Lexicographic.{slice_cmp}
use Rattle.std.specs.Ordering.{eq_by_cmp}
use Rattle.std.specs.Cmp.{IsEquivalence}
use Rattle.std.proofs.lemmas.Cmp.{on_total, then_total, lists_total, nat_cmp_total, int_cmp_total, nat_list_cmp_total, eq_by_cmp_equiv}
use Rattle.record_core.specs.declared.values.Value.{Value}
use Rattle.key_order.specs.Order.{class, number_in, bytes_in, value_cmp}

-- folded values are in a total order
pub values_total : IsTotalOrder value_cmp
values_total = then_total (on_total class nat_cmp_total)
    (then_total (on_total number_in int_cmp_total) (on_total bytes_in nat_list_cmp_total))

-- so are folded keys
pub folds_total : IsTotalOrder (slice_cmp value_cmp)
folds_total = lists_total values_total

-- folded keys that the order does not tell apart are alike
pub folds_alike : IsEquivalence (eq_by_cmp (slice_cmp value_cmp))
folds_alike = eq_by_cmp_equiv folds_total
