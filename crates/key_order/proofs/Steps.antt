-- The comparison of two keys, place by place.
use Rattle.std.proofs.Common.{◌≡◌, ◌⊎◌, inl, inr, refl, sym, ap, ◌∙◌, arith, ℕ, zero, suc, ◌+◌, ◌<◌, ◌≤◌, ◌==◌, not, true, false, List, [], ◌∷◌, ◌-◌, length, drop, get_or, length-drop}
use Rattle.std.proofs.lemmas.Bool.{true≢false}
use native.Mathlib.Numerals.{unary_clauses}
use Rattle.std.specs.Cmp.{nat_cmp_is, second_so}
use Rattle.std.specs.Cmp.Lexicographic.{pointwise, slice_cmp}
use Rattle.std.specs.Ordering.{nat_cmp, ordering_then, ordering_index}
use Rattle.std.specs.declared.cmp.Ordering.{Ordering}
use Rattle.std.specs.declared.cmp.Ordering.TheVariants.{Less, Equal, Greater}
use Rattle.key_order.specs.Order.{AreOrderable, is_orderable, folded, value_cmp, keys_cmp}
use Rattle.key_order.specs.declared.Coll.{Coll}
use Rattle.key_order.specs.declared.Coll.TheVariants.{Binary}
use Rattle.record_core.specs.declared.values.Value.{Value}
use Rattle.record_core.specs.declared.values.Value.TheVariants.{Null, Whole, Real8, Text, Blob}

-- the values at a place decide, and else the values behind them
pub keys_step : (colls : List Coll) (a b : List Value) (i : ℕ) (d : Coll) (v w : Value) (o : Ordering)
    → AreOrderable colls a → AreOrderable colls b → i < length colls
    → v ≡ get_or a i v → w ≡ get_or b i w
    → o ≡ value_cmp (folded (get_or colls i d) v) (folded (get_or colls i d) w)
    → ordering_then o (keys_cmp (drop (i + 1) colls) (drop (i + 1) a) (drop (i + 1) b))
    ≡ keys_cmp (drop i colls) (drop i a) (drop i b)
keys_step [] a b i d v w o h g l p q e = absurd (omega (arith, l))
keys_step (coll ∷ colls) [] b i d v w o h g l p q e = absurd (true≢false (sym h))
keys_step (coll ∷ colls) (x ∷ a) [] i d v w o h g l p q e = absurd (true≢false (sym g))
keys_step (coll ∷ colls) (x ∷ a) (y ∷ b) zero d v w o h g l p q e =
    ap (λ r. ordering_then r (keys_cmp colls a b))
    (e ∙ λ k. value_cmp (folded coll (p k)) (folded coll (q k)))
keys_step (coll ∷ colls) (x ∷ a) (y ∷ b) (suc i) d v w o h g l p q e =
    simp unary_clauses (simp unary_clauses at (keys_step colls a b i d v w o
    (second_so (is_orderable coll x) (pointwise is_orderable colls a) h)
    (second_so (is_orderable coll y) (pointwise is_orderable colls b) g) (omega (arith, l)) p q e))

-- no place is left
pub keys_end : (colls : List Coll) (a b : List Value) (i : ℕ) → length colls ≤ i
    → keys_cmp (drop i colls) a b ≡ Equal
keys_end [] a b zero l = refl
keys_end [] a b (suc i) l = refl
keys_end (coll ∷ colls) a b zero l = absurd (omega (arith, l))
keys_end (coll ∷ colls) a b (suc i) l = keys_end colls a b i (omega (arith, l))

-- what is not Equal decides
pub decides : (o p : Ordering) → not (ordering_index o == 1) ≡ true → ordering_then o p ≡ o
decides Less p h = refl
decides Equal p h = absurd (true≢false (sym h))
decides Greater p h = refl

-- what is Equal leaves it to the rest
pub leaves : (o p : Ordering) → not (ordering_index o == 1) ≡ false → ordering_then o p ≡ p
leaves Less p h = absurd (true≢false h)
leaves Equal p h = refl
leaves Greater p h = absurd (true≢false h)

-- a value folded under BINARY is the value
pub folded_binary : (v : Value) → folded Binary v ≡ v
folded_binary Null = refl
folded_binary (Whole number) = refl
folded_binary (Real8 bytes) = refl
folded_binary (Text text) = refl
folded_binary (Blob bytes) = refl

-- the folded values at a place decide, and else those behind them
pub folds_step : (a b : List Value) (i : ℕ) (v w : Value) (o : Ordering) → i < length a → i < length b
    → v ≡ get_or a i v → w ≡ get_or b i w → o ≡ value_cmp (folded Binary v) (folded Binary w)
    → ordering_then o (slice_cmp value_cmp (drop (i + 1) a) (drop (i + 1) b))
    ≡ slice_cmp value_cmp (drop i a) (drop i b)
folds_step [] b i v w o h g p q e = absurd (omega (arith, h))
folds_step (x ∷ a) [] i v w o h g p q e = absurd (omega (arith, g))
folds_step (x ∷ a) (y ∷ b) zero v w o h g p q e =
    ap (λ r. ordering_then r (slice_cmp value_cmp a b))
    (e ∙ ap (λ r. value_cmp r (folded Binary w)) (folded_binary v ∙ p)
    ∙ ap (value_cmp x) (folded_binary w ∙ q))
folds_step (x ∷ a) (y ∷ b) (suc i) v w o h g p q e =
    simp unary_clauses (simp unary_clauses at (folds_step a b i v w o (omega (arith, h)) (omega (arith, g)) p q e))

one_empty : (xs ys : List Value) (m n i : ℕ) → i ≤ m → i ≤ n → length xs ≡ m - i → length ys ≡ n - i
    → (m ≤ i) ⊎ (n ≤ i) → slice_cmp value_cmp xs ys ≡ nat_cmp m n
one_empty [] [] m n i h g p q e = nat_cmp_is m n Equal (omega (arith, p, q))
one_empty [] (y ∷ ys) m n i h g p q e = nat_cmp_is m n Less (omega (arith, p, q))
one_empty (x ∷ xs) [] m n i h g p q e = nat_cmp_is m n Greater (omega (arith, p, q))
one_empty (x ∷ xs) (y ∷ ys) m n i h g p q (inl e) = absurd (omega (arith, p, e))
one_empty (x ∷ xs) (y ∷ ys) m n i h g p q (inr e) = absurd (omega (arith, q, e))

-- where one of two lists of folded values has no place left, their lengths decide
pub folds_end : (a b : List Value) (i : ℕ) → i ≤ length a → i ≤ length b → (length a ≤ i) ⊎ (length b ≤ i)
    → slice_cmp value_cmp (drop i a) (drop i b) ≡ nat_cmp (length a) (length b)
folds_end a b i h g e =
    one_empty (drop i a) (drop i b) (length a) (length b) i h g (length-drop i a) (length-drop i b) e
