-- The laws of the order of keys.
use Rattle.std.proofs.Common.{◌≡◌, ◌≢◌, refl, sym, ap, ◌∙◌, rules, arith, ℕ, zero, suc, ℤ, true, false, List, [], ◌∷◌}
use Rattle.std.proofs.lemmas.Bool.{true≢false}
use Rattle.std.proofs.lemmas.Cmp.{on_total, then_total, lists_total, nat_cmp_total, int_cmp_total, nat_list_cmp_total, upto, tied_itself}
use Rattle.std.proofs.lemmas.Map.Lookups.{exact_pairs, exact_unsigned, exact_signed, exact_bytes}
use Rattle.std.specs.Cmp.{IsTotalOrder, first_so, second_so}
use Rattle.std.specs.Cmp.Lexicographic.{pointwise, slice_cmp}
use Rattle.std.specs.Ordering.{nat_cmp, int_cmp, is_gt, ordering_then, ordering_reverse}
use Rattle.std.specs.declared.cmp.Ordering.{Ordering}
use Rattle.std.specs.declared.cmp.Ordering.TheVariants.{Less, Equal, Greater}
use Rattle.key_order.specs.declared.Coll.{Coll}
use Rattle.key_order.specs.Totals.{folds_total}
use Rattle.key_order.specs.Order.{AreOrderable, is_orderable, folded, folded_list, class, number_in, bytes_in, value_cmp, keys_cmp}
use Rattle.record_core.specs.declared.values.Value.{Value}
use Rattle.record_core.specs.declared.values.Value.TheVariants.{Null, Whole, Real8, Text, Blob}

-- keys are in a total order, whatever their collations
pub keys_total : (colls : List Coll) → IsTotalOrder (keys_cmp colls)
keys_total colls = on_total (folded_list colls) folds_total

-- a value that is no real, from its class, its number and its bytes
value_from : ℕ → ℤ → List ℕ → Value
value_from zero n bs = Null
value_from (suc zero) n bs = Whole n
value_from (suc (suc zero)) n bs = Text bs
value_from (suc (suc (suc k))) n bs = Blob bs

-- these three parts tell what the value is
from_parts : (v : Value) → class v ≢ 4 → v ≡ value_from (class v) (number_in v) (bytes_in v)
unfolding value_from
from_parts Null h = refl
from_parts (Whole n) h = refl
from_parts (Text bs) h = refl
from_parts (Blob bs) h = refl
from_parts (Real8 bs) h = absurd (h refl)

-- a folded value that can be ordered is no real
no_real : (coll : Coll) (v : Value) → is_orderable coll v ≡ true → class (folded coll v) ≢ 4
no_real coll Null h = λ e. grind (arith, e)
no_real coll (Whole n) h = λ e. grind (arith, e)
no_real coll (Text bs) h = λ e. grind (arith, e)
no_real coll (Blob bs) h = λ e. grind (arith, e)
no_real coll (Real8 bs) h = absurd (true≢false (sym h))

-- values that are no reals and compare as equal are the same
value_same : (x y : Value) → class x ≢ 4 → class y ≢ 4 → value_cmp x y ≡ Equal → x ≡ y
value_same x y h g e =
    let parts = exact_pairs nat_cmp _ exact_unsigned
    (exact_pairs int_cmp (slice_cmp nat_cmp) exact_signed exact_bytes)
    (class x, (number_in x, bytes_in x)) (class y, (number_in y, bytes_in y)) e in
    from_parts x h ∙ ap (λ (p : ℕ × (ℤ × List ℕ)). value_from p.0 p.1.0 p.1.1) parts
    ∙ sym (from_parts y g)

-- where the first place is equal, the further ones are
both_equal : (o p : Ordering) → ordering_then o p ≡ Equal → (o ≡ Equal) × (p ≡ Equal)
both_equal Less p e = search rules
both_equal Equal p e = (refl, e)
both_equal Greater p e = search rules

-- equal keys fold to the same values
pub folded_same : (colls : List Coll) (a b : List Value) → AreOrderable colls a → AreOrderable colls b
    → keys_cmp colls a b ≡ Equal → folded_list colls a ≡ folded_list colls b
folded_same [] a b h g e = refl
folded_same (coll ∷ colls) [] b h g e = absurd (true≢false (sym h))
folded_same (coll ∷ colls) (v ∷ a) [] h g e = absurd (true≢false (sym g))
folded_same (coll ∷ colls) (v ∷ a) (w ∷ b) h g e =
    let k = both_equal (value_cmp (folded coll v) (folded coll w)) (keys_cmp colls a b) e in
    let first = value_same (folded coll v) (folded coll w)
    (no_real coll v (first_so (is_orderable coll v) (pointwise is_orderable colls a) h))
    (no_real coll w (first_so (is_orderable coll w) (pointwise is_orderable colls b) g)) k.0 in
    let more = folded_same colls a b (second_so (is_orderable coll v) (pointwise is_orderable colls a) h)
    (second_so (is_orderable coll w) (pointwise is_orderable colls b) g) k.1 in
    λ i. first i ∷ more i

-- keys that fold to the same values are equal
pub folded_equal : (colls : List Coll) (a b : List Value) → folded_list colls a ≡ folded_list colls b
    → keys_cmp colls a b ≡ Equal
folded_equal colls a b e =
    ap (slice_cmp value_cmp (folded_list colls a)) (sym e) ∙ tied_itself (keys_total colls) a

-- a key is equal to itself
pub itself : (colls : List Coll) (a : List Value) → keys_cmp colls a a ≡ Equal
itself colls a = tied_itself (keys_total colls) a

-- the other way round, the answer is the reverse
pub back : (colls : List Coll) (a b : List Value) → keys_cmp colls a b ≡ ordering_reverse (keys_cmp colls b a)
back colls a b = (keys_total colls).antisymm a b

-- what is not Greater, as a test
not_greater : (o : Ordering) → o ≢ Greater → is_gt o ≡ false
not_greater Less h = refl
not_greater Equal h = refl
not_greater Greater h = absurd (h refl)

-- what is at most a key is at most all that this is at most
pub at_most : (colls : List Coll) (a b c : List Value) → keys_cmp colls a b ≢ Greater
    → keys_cmp colls b c ≢ Greater → keys_cmp colls a c ≢ Greater
at_most colls a b c h g e = true≢false (sym (ap is_gt e)
    ∙ upto (keys_total colls) a b c (not_greater (keys_cmp colls a b) h) (not_greater (keys_cmp colls b c) g))
