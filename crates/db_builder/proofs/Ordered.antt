-- The order of rows by their keys, as the order of their numbers.
use Rattle.std.proofs.Common.{◌≡◌, ◌∙◌, ◌++◌, ◌⊎◌, ◌≤◌, ◌<◌, ◌+◌, inl, inr, ℕ, zero, suc, List, [], ◌∷◌, length, map, get_or, sym, ap, refl, subst, arith}
use Rattle.std.proofs.lemmas.List.{length-map}
use Rattle.std.proofs.lemmas.Bool.{cases_eq}
use Rattle.std.proofs.lemmas.Cmp.{alike_right, on_total, tied_back, tied_itself}
use Rattle.std.proofs.lemmas.List.Elements.{All-from_recursion, recursion_from_All}
use Rattle.std.proofs.lemmas.List.FromFn.{fill_by_all}
use Rattle.std.proofs.lemmas.Map.Views.{All-keys-insert_entry, All-values-insert_entry}
use Rattle.std.specs.Cmp.{IsTotalOrder}
use Rattle.std.specs.Cmp.Lexicographic.{slice_cmp}
use Rattle.std.specs.BTreeMap.{insert_entry}
use Rattle.std.specs.List.{AllByRecursion, range_with_len}
use Rattle.std.specs.List.Sorted.{IsStrictlySortedBy}
use Rattle.std.specs.Ordering.{match_ordering, ordering_reverse}
use Rattle.std.specs.declared.cmp.Ordering.{Ordering}
use Rattle.std.specs.declared.cmp.Ordering.TheVariants.{Less, Equal, Greater}
use Rattle.key_order.specs.Order.{value_cmp}
use Rattle.key_order.specs.Totals.{folds_total}
use Rattle.record_core.specs.declared.values.Value.{Value}
use Rattle.table_shape.specs.declared.keys.KeyPart.{KeyPart}
use Rattle.table_shape.specs.declared.rows.OutRow.{OutRow}
use Rattle.table_shape.specs.Entries.{in_order}
use Rattle.table_shape.specs.Keys.{key_of}
use Rattle.table_shape.specs.Seen.{row_seen}
use Rattle.db_builder.specs.Views.{NamesRows, no_row, row_at}
use Rattle.db_builder.proofs.Firsts.{AreFirsts, Has, IsLed, firsts_same}

-- what is inserted under a key, seen through a function of the values
abbrev pub seen : {K V W : Type 0} → (V → W) → List (K × V) → List (K × W)
seen f [] = []
seen f (e ∷ es) = (e.0, f e.1) ∷ seen f es

insert_seen : {K V W : Type 0} (cmp : K → K → Ordering) (f : V → W) (es : List (K × V)) (k : K) (v : V)
    → seen f (insert_entry cmp es k v) ≡ insert_entry cmp (seen f es) k (f v)
insert_seen cmp f [] k v = refl
insert_seen cmp f (e ∷ es) k v =
    by (cmp k e.0) ∙ ap (λ l. match_ordering (cmp k e.0) ((k, f v) ∷ (e.0, f e.1) ∷ seen f es) ((e.0, f v) ∷ seen f es) ((e.0, f e.1) ∷ l)) (insert_seen cmp f es k v)
  where
    by : (o : Ordering) → seen f (match_ordering o ((k, v) ∷ e ∷ es) ((e.0, v) ∷ es) (e ∷ insert_entry cmp es k v))
        ≡ match_ordering o ((k, f v) ∷ (e.0, f e.1) ∷ seen f es) ((e.0, f v) ∷ seen f es) ((e.0, f e.1) ∷ seen f (insert_entry cmp es k v))
    by Less = refl
    by Equal = refl
    by Greater = refl

values_seen : {K V W : Type 0} (f : V → W) (es : List (K × V)) → map (λ e. e.1) (seen f es) ≡ map f (map (λ e. e.1) es)
values_seen f [] = refl
values_seen f (e ∷ es) = ap (λ l. f e.1 ∷ l) (values_seen f es)

in_order_seen : {R : Type 0} (key : R → List Value) (f : ℕ → R) (xs : List ℕ) → seen f (in_order (λ j. key (f j)) xs) ≡ in_order key (map f xs)
in_order_seen key f [] = refl
in_order_seen key f (x ∷ xs) =
    insert_seen (slice_cmp value_cmp) f (in_order (λ j. key (f j)) xs) (key (f x)) x
    ∙ ap (λ l. insert_entry (slice_cmp value_cmp) l (key (f x)) (f x)) (in_order_seen key f xs)

-- ---- numbers under their keys

module _ {K : Type 0} {cmp : K → K → Ordering} (o : IsTotalOrder cmp) (key : ℕ → K) where
  -- numbers by their keys
  abbrev pub by_key : ℕ → ℕ → Ordering
  by_key a b = cmp (key a) (key b)

  -- each entry's key is that of its number, as the order sees it
  abbrev pub AreKeyed : List (K × ℕ) → Type 0
  AreKeyed es = AllByRecursion (λ e. cmp e.0 (key e.1) ≡ Equal) es

  keyed_insert : (es : List (K × ℕ)) (j : ℕ) → AreKeyed es → AreKeyed (insert_entry cmp es (key j) j)
  keyed_insert [] j all = (tied_itself o (key j), tt)
  keyed_insert (e ∷ es) j all = by (cmp (key j) e.0) refl (keyed_insert es j all.1)
    where
      by : (r : Ordering) → cmp (key j) e.0 ≡ r → AreKeyed (insert_entry cmp es (key j) j)
          → AreKeyed (match_ordering r ((key j, j) ∷ e ∷ es) ((e.0, j) ∷ es) (e ∷ insert_entry cmp es (key j) j))
      by Less tie more = (tied_itself o (key j), all)
      by Equal tie more = (tied_back o (key j) e.0 tie, all.1)
      by Greater tie more = (all.0, more)

  sorted_insert : (es : List (K × ℕ)) (j : ℕ) → IsStrictlySortedBy cmp (map (λ e. e.0) es)
      → IsStrictlySortedBy cmp (map (λ e. e.0) (insert_entry cmp es (key j) j))
  unfolding IsStrictlySortedBy
  sorted_insert [] j s = (tt, tt)
  sorted_insert (e ∷ es) j s = by (cmp (key j) e.0) refl (sorted_insert es j s.1)
    where
      above : (r : Ordering) → cmp (key j) e.0 ≡ r → r ≡ Less → AllByRecursion (λ y. cmp (key j) y ≡ Less) (map (λ e. e.0) es)
      above r is less =
          recursion_from_All (λ y. cmp (key j) y ≡ Less) (map (λ e. e.0) es)
          (λ k d lt. o.trans (key j) e.0 (get_or (map (λ e. e.0) es) k d) (is ∙ less)
          (All-from_recursion (λ y. cmp e.0 y ≡ Less) (map (λ e. e.0) es) s.0 k d lt))

      by : (r : Ordering) → cmp (key j) e.0 ≡ r → IsStrictlySortedBy cmp (map (λ e. e.0) (insert_entry cmp es (key j) j))
          → IsStrictlySortedBy cmp (map (λ e. e.0) (match_ordering r ((key j, j) ∷ e ∷ es) ((e.0, j) ∷ es) (e ∷ insert_entry cmp es (key j) j)))
      by Less is more = ((is, above Less is refl), s)
      by Equal is more = s
      by Greater is more = (
        recursion_from_All (λ y. cmp e.0 y ≡ Less) (map (λ e. e.0) (insert_entry cmp es (key j) j))
            (All-keys-insert_entry cmp (key j) j (λ y. cmp e.0 y ≡ Less) es (All-from_recursion (λ y. cmp e.0 y ≡ Less) (map (λ e. e.0) es) s.0)
            (o.antisymm e.0 (key j) ∙ ap ordering_reverse is)),
        more,
      )

  has_new : (es : List (K × ℕ)) (j : ℕ) → Has (map (λ e. e.1) (insert_entry cmp es (key j) j)) j
  has_new [] j = inl refl
  has_new (e ∷ es) j = by (cmp (key j) e.0) (has_new es j)
    where
      by : (r : Ordering) → Has (map (λ e. e.1) (insert_entry cmp es (key j) j)) j
          → Has (map (λ e. e.1) (match_ordering r ((key j, j) ∷ e ∷ es) ((e.0, j) ∷ es) (e ∷ insert_entry cmp es (key j) j))) j
      by Less more = inl refl
      by Equal more = inl refl
      by Greater more = inr more

  -- a number stays, or the new one with an equal key takes its place
  has_old : (es : List (K × ℕ)) (j w : ℕ) → AreKeyed es → Has (map (λ e. e.1) es) w
      → Has (map (λ e. e.1) (insert_entry cmp es (key j) j)) w ⊎ (by_key w j ≡ Equal)
  has_old [] j w all h = absurd h
  has_old (e ∷ es) j w all h = by (cmp (key j) e.0) refl h (has_old es j w all.1)
    where
      by : (r : Ordering) → cmp (key j) e.0 ≡ r → Has (map (λ e. e.1) (e ∷ es)) w
          → (Has (map (λ e. e.1) es) w → Has (map (λ e. e.1) (insert_entry cmp es (key j) j)) w ⊎ (by_key w j ≡ Equal))
          → Has (map (λ e. e.1) (match_ordering r ((key j, j) ∷ e ∷ es) ((e.0, j) ∷ es) (e ∷ insert_entry cmp es (key j) j))) w ⊎ (by_key w j ≡ Equal)
      by Less is h more = inl (inr h)
      by Equal is (inl p) more =
          inr (ap (λ n. by_key n j) p ∙ o.congr (key e.1) e.0 (key j) (tied_back o e.0 (key e.1) all.0) ∙ tied_back o (key j) e.0 is)
      by Equal is (inr q) more = inl (inr q)
      by Greater is (inl p) more = inl (inl p)
      by Greater is (inr q) more = elim (more q) [
        | inl there ↦ inl (inr there)
        | inr tie ↦ inr tie
      ]

  led_new : (es : List (K × ℕ)) (j : ℕ) → IsLed by_key (map (λ e. e.1) (insert_entry cmp es (key j) j)) j
  led_new es j = (j, has_new es j, tied_itself o (key j), omega arith)

  led_old : (es : List (K × ℕ)) (j z : ℕ) → AreKeyed es → j ≤ z → IsLed by_key (map (λ e. e.1) es) z
      → IsLed by_key (map (λ e. e.1) (insert_entry cmp es (key j) j)) z
  led_old es j z all le led = elim (has_old es j led.0 all led.1) [
    | inl there ↦ (led.0, there, led.2, led.3)
    | inr tie ↦ (j, has_new es j, o.congr (key z) (key led.0) (key j) led.2 ∙ tie, le)
  ]

  -- the numbers of entries rise by their keys
  above_all : (e : K × ℕ) (es : List (K × ℕ)) → cmp e.0 (key e.1) ≡ Equal → AreKeyed es → AllByRecursion (λ y. cmp e.0 y ≡ Less) (map (λ e. e.0) es)
      → AllByRecursion (λ y. by_key e.1 y ≡ Less) (map (λ e. e.1) es)
  above_all e [] tie all less = tt
  above_all e (f ∷ es) tie all less =
      (sym (o.congr e.0 (key e.1) (key f.1) tie) ∙ sym (alike_right o f.0 (key f.1) e.0 all.0) ∙ less.0, above_all e es tie all.1 less.1)

  numbers_rise : (es : List (K × ℕ)) → AreKeyed es → IsStrictlySortedBy cmp (map (λ e. e.0) es) → IsStrictlySortedBy by_key (map (λ e. e.1) es)
  unfolding IsStrictlySortedBy
  numbers_rise [] all s = tt
  numbers_rise (e ∷ es) all s = (above_all e es all.0 all.1 s.0, numbers_rise es all.1 s.1)

-- the numbers from a to before b are held
record Held (key : ℕ → List Value) (a b : ℕ) (es : List (List Value × ℕ)) : Type 0 where
  pub keyed : AreKeyed folds_total key es
  pub rise : IsStrictlySortedBy (slice_cmp value_cmp) (map (λ e. e.0) es)
  pub below : AllByRecursion (λ j. j < b) (map (λ e. e.1) es)
  pub led : (z : ℕ) → a ≤ z → z < b → IsLed (by_key folds_total key) (map (λ e. e.1) es) z

none_held : (key : ℕ → List Value) (a b : ℕ) → b ≤ a → Held key a b []
unfolding IsStrictlySortedBy
none_held key a b le = record { keyed = tt; rise = tt; below = tt; led = λ z low high. absurd (omega arith) }

one_more : (key : ℕ → List Value) (a b : ℕ) (es : List (List Value × ℕ)) → a < b → Held key (a + 1) b es
    → Held key a b (insert_entry (slice_cmp value_cmp) es (key a) a)
one_more key a b es lt h = record {
  keyed = keyed_insert folds_total key es a h.keyed;
  rise = sorted_insert folds_total key es a h.rise;
  below = recursion_from_All (λ j. j < b) (map (λ e. e.1) (insert_entry (slice_cmp value_cmp) es (key a) a))
      (All-values-insert_entry (slice_cmp value_cmp) (key a) a (λ j. j < b) es (All-from_recursion (λ j. j < b) (map (λ e. e.1) es) h.below) lt);
  led = λ z low high. elim (cases_eq a z) [
    | inl e ↦ subst (IsLed (by_key folds_total key) (map (λ e. e.1) (insert_entry (slice_cmp value_cmp) es (key a) a))) e (led_new folds_total key es a)
    | inr n ↦ led_old folds_total key es a z h.keyed low (h.led z (omega (arith, low, n)) high)
  ];
}

held : (key : ℕ → List Value) (n a b : ℕ) → a + n ≡ b → Held key a b (in_order key (range_with_len a n))
held key zero a b e = none_held key a b (omega arith)
held key (suc n) a b e = one_more key a b (in_order key (range_with_len (a + 1) n)) (omega arith) (held key n (a + 1) b (omega arith))

firsts_in_order : (key : ℕ → List Value) (n : ℕ) → AreFirsts (by_key folds_total key) n (map (λ e. e.1) (in_order key (range_with_len 0 n)))
firsts_in_order key n =
    let h = held key n 0 n (omega arith) in
    record {
      rise = numbers_rise folds_total key (in_order key (range_with_len 0 n)) h.keyed h.rise;
      below = h.below;
      led = λ z lt. h.led z (omega arith) lt;
    }

-- ---- numbers of rows

-- numbers from a on, one more
pub range_more : (a n j : ℕ) → a + n ≡ j → range_with_len a (n + 1) ≡ range_with_len a n ++ j ∷ []
range_more a n j is = subst (λ m. range_with_len a m ≡ range_with_len a n ++ j ∷ []) (let e : suc n ≡ n + 1 = omega arith in e) (more a n j is)
  where
    more : (a n j : ℕ) → a + n ≡ j → range_with_len a (suc n) ≡ range_with_len a n ++ j ∷ []
    more a zero j is = let e : a ≡ j = omega arith in ap (λ x. x ∷ []) e
    more a (suc n) j is = ap (λ xs. a ∷ xs) (more (a + 1) n j (omega arith))

-- rows by their keys
abbrev pub rows_cmp : List KeyPart → List OutRow → ℕ → ℕ → Ordering
rows_cmp parts rows a b = slice_cmp value_cmp (key_of parts (row_at rows a)) (key_of parts (row_at rows b))

pub rows_total : (parts : List KeyPart) (rows : List OutRow) → IsTotalOrder (rows_cmp parts rows)
rows_total parts rows = on_total (λ j. key_of parts (row_at rows j)) folds_total

pub rows_in_order : (parts : List KeyPart) (rows : List OutRow) (xs : List ℕ) → AreFirsts (rows_cmp parts rows) (length rows) xs
    → map (row_at rows) xs ≡ map (λ e. e.1) (in_order (key_of parts) (map row_seen rows))
rows_in_order parts rows xs firsts =
    let key : ℕ → List Value = λ j. key_of parts (row_at rows j) in
    let n = length rows in
    let es = in_order key (range_with_len 0 n) in
    let all : map row_seen rows ≡ map (row_at rows) (range_with_len 0 n) =
    fill_by_all (row_at rows) (map row_seen rows) n no_row (length-map rows row_seen) (λ k lt. refl) in
    ap (map (row_at rows)) (firsts_same (rows_total parts rows) n xs (map (λ e. e.1) es) firsts (firsts_in_order key n))
    ∙ sym (values_seen (row_at rows) es)
    ∙ ap (map (λ e. e.1)) (in_order_seen (key_of parts) (row_at rows) (range_with_len 0 n) ∙ ap (in_order (key_of parts)) (sym all))

pub names_rows : (n : ℕ) (xs : List ℕ) → AllByRecursion (λ j. j < n) xs → NamesRows xs n
names_rows n xs all j lt = All-from_recursion (λ j. j < n) xs all j 0 lt
