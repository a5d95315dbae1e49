-- What is written spells the number, and nothing shorter does.
use Rattle.std.proofs.Common.{◌≡◌, ◌<◌, ◌≤◌, ◌⊎◌, ℕ, zero, suc, ◌+◌, ◌-◌, ◌*◌, ◌/◌, ◌%◌, ◌^◌, cond, ltb, List, [], ◌∷◌, ◌++◌, length, inl, inr, refl, sym, ap, ◌∙◌, arith, lit<, lit≤, length-append, ltb-true, ltb-false, mod-eq_of_lt, mul-le-mul_right, div-lt_iff_lt-mul}
use Rattle.std.proofs.Math.Nat.{pow-le-pow_right}
use Rattle.std.proofs.lemmas.Bool.{cases_Bool}
use Rattle.std.proofs.lemmas.Nat.{pow-add, mod-pow-add}
use Rattle.std.specs.List.{AllByRecursion}
use Rattle.varint_core.specs.Varint.{Continues, sevens, EndsEarly, EndsNinth, IsVarint}
use Rattle.varint_core.specs.Shortest.{IsShortest, varint_len, front_of, spell}

-- ---- the length

pub record IsLen (v n : ℕ) : Type 0 where
  pub some : 1 ≤ n
  pub most : n ≤ 9
  pub low : 1 < n → 2 ^ (7 * (n - 1)) ≤ v
  pub high : n < 9 → v < 2 ^ (7 * n)

test : (v n rest : ℕ) → (v < 2 ^ (7 * n) → IsLen v n) → (2 ^ (7 * n) ≤ v → IsLen v rest) → IsLen v (cond (ltb v (2 ^ (7 * n))) n rest)
test v n rest below above =
    elim (cases_Bool (ltb v (2 ^ (7 * n)))) [
      | inl e ↦ rw e (below (ltb-true v (2 ^ (7 * n)) e))
      | inr e ↦ rw e (above (ltb-false v (2 ^ (7 * n)) e))
    ]

pub len_is : (v : ℕ) → IsLen v (varint_len v)
unfolding varint_len
len_is v =
    test v 1 _ (λ h. record { some = lit≤ tt; most = lit≤ tt; low = λ x. absurd (omega arith); high = λ _. h }) (λ a.
    test v 2 _ (λ h. record { some = lit≤ tt; most = lit≤ tt; low = λ _. a; high = λ _. h }) (λ b.
    test v 3 _ (λ h. record { some = lit≤ tt; most = lit≤ tt; low = λ _. b; high = λ _. h }) (λ c.
    test v 4 _ (λ h. record { some = lit≤ tt; most = lit≤ tt; low = λ _. c; high = λ _. h }) (λ d.
    test v 5 _ (λ h. record { some = lit≤ tt; most = lit≤ tt; low = λ _. d; high = λ _. h }) (λ e.
    test v 6 _ (λ h. record { some = lit≤ tt; most = lit≤ tt; low = λ _. e; high = λ _. h }) (λ f.
    test v 7 _ (λ h. record { some = lit≤ tt; most = lit≤ tt; low = λ _. f; high = λ _. h }) (λ g.
    test v 8 _ (λ h. record { some = lit≤ tt; most = lit≤ tt; low = λ _. g; high = λ _. h }) (λ i.
    record { some = lit≤ tt; most = lit≤ tt; low = λ _. i; high = λ x. absurd (omega arith) }))))))))

-- fewer bytes have no room for the number
pub len_least : (v n m : ℕ) → IsLen v n → 1 ≤ m → v < 2 ^ (7 * m) → n ≤ m
len_least v n m l some below =
    elim (cases_Bool (ltb m n)) [
      | inl e ↦
          let less : m < n = ltb-true m n e in
          let low : 2 ^ (7 * (n - 1)) ≤ v = l.low (omega arith) in
          let more : 2 ^ (7 * m) ≤ 2 ^ (7 * (n - 1)) = pow-le-pow_right {n = 2} (lit< tt) {i = 7 * m} {j = 7 * (n - 1)} (omega arith) in
          absurd (omega arith)
      | inr e ↦ ltb-false m n e
    ]

-- the length of a number between two limits
pub len_exact : (v k : ℕ) → 1 ≤ k → k ≤ 8 → 2 ^ (7 * (k - 1)) ≤ v → v < 2 ^ (7 * k) → varint_len v ≡ k
len_exact v k one most low high =
    let l = len_is v in
    let n = varint_len v in
    let le : n ≤ k = len_least v n k l one high in
    elim (cases_Bool (ltb n k)) [
      | inl e ↦
          let less : n < k = ltb-true n k e in
          let below : v < 2 ^ (7 * n) = l.high (omega arith) in
          let more : 2 ^ (7 * n) ≤ 2 ^ (7 * (k - 1)) = pow-le-pow_right {n = 2} (lit< tt) {i = 7 * n} {j = 7 * (k - 1)} (omega arith) in
          absurd (omega arith)
      | inr e ↦ omega (arith, ltb-false n k e, le)
    ]

-- a long number has nine bytes
pub len_nine : (v n : ℕ) → IsLen v n → 2 ^ 56 ≤ v → n ≡ 9
len_nine v n l big =
    elim (cases_Bool (ltb n 9)) [
      | inl e ↦
          let less : n < 9 = ltb-true n 9 e in
          let below : v < 2 ^ (7 * n) = l.high less in
          let more : 2 ^ (7 * n) ≤ 2 ^ 56 = pow-le-pow_right {n = 2} (lit< tt) {i = 7 * n} {j = 56} (omega arith) in
          absurd (omega arith)
      | inr e ↦ omega (arith, ltb-false n 9 e, l.most)
    ]

len_eight : (v n : ℕ) → IsLen v n → v < 2 ^ 56 → n ≤ 8
len_eight v n l small = len_least v n 8 l (lit≤ tt) small

-- ---- the bytes that continue

seven_more : (n : ℕ) → 2 ^ (7 * suc n) ≡ 2 ^ (7 * n) * 128
seven_more n = let e : 7 * suc n ≡ 7 * n + 7 = omega arith in ap (λ k. 2 ^ k) e ∙ pow-add 2 (7 * n) 7

pub length-front_of : (n v : ℕ) → length (front_of n v) ≡ n
length-front_of zero v = refl
length-front_of (suc n) v = ap suc (length-front_of n v)

front_continues : (n v : ℕ) → AllByRecursion Continues (front_of n v)
front_continues zero v = tt
front_continues (suc n) v = (omega arith, front_continues n v)

regroup : (a b p r : ℕ) → (a * 128 + b) * p + r ≡ a * (p * 128) + (b * p + r)
regroup a b p r = omega arith

sevens-front_of : (n v high : ℕ) → sevens (front_of n v) high ≡ high * 2 ^ (7 * n) + v % 2 ^ (7 * n)
sevens-front_of zero v high = omega arith
sevens-front_of (suc n) v high =
    let p = 2 ^ (7 * n) in
    let q = v / p in
    let byte : (q % 128 + 128) % 128 ≡ q % 128 = omega arith in
    let e : 7 * suc n ≡ 7 + 7 * n = omega arith in
    let whole : v % 2 ^ (7 * suc n) ≡ (q % 128) * p + v % p = ap (λ k. v % 2 ^ k) e ∙ mod-pow-add v 7 (7 * n) in
    let more = seven_more n in
    sevens-front_of n v (high * 128 + (q % 128 + 128) % 128)
    ∙ ap (λ b. (high * 128 + b) * p + v % p) byte
    ∙ regroup high (q % 128) p (v % p) ∙ ap (λ k. high * k + ((q % 128) * p + v % p)) (sym more)
    ∙ ap (λ k. high * 2 ^ (7 * suc n) + k) (sym whole)

-- ---- the whole spelling

early_is : (n v : ℕ) → n < 8 → v < 2 ^ (7 * suc n) → IsVarint (front_of n (v / 128) ++ v % 128 ∷ []) v
early_is n v short below =
    let more = seven_more n in
    let high : v / 128 < 2 ^ (7 * n) = (div-lt_iff_lt-mul {k = 128} {x = v} {y = 2 ^ (7 * n)} (lit< tt)).1 (omega arith) in
    let number : sevens (front_of n (v / 128)) 0 ≡ v / 128 = sevens-front_of n (v / 128) 0 ∙ omega (arith, mod-eq_of_lt high) in
    record {
      front = front_of n (v / 128);
      last = v % 128;
      parts = refl;
      continued = front_continues n (v / 128);
      end = inl (record { short = omega (arith, length-front_of n (v / 128)); ends = omega arith; number = omega (arith, number) });
    }

ninth_is : (v : ℕ) → v < 2 ^ 64 → IsVarint (front_of 8 (v / 256) ++ v % 256 ∷ []) v
ninth_is v below =
    let high : v / 256 < 2 ^ (7 * 8) = omega arith in
    let number : sevens (front_of 8 (v / 256)) 0 ≡ v / 256 = sevens-front_of 8 (v / 256) 0 ∙ omega (arith, mod-eq_of_lt high) in
    record {
      front = front_of 8 (v / 256);
      last = v % 256;
      parts = refl;
      continued = front_continues 8 (v / 256);
      end = inr (record { eight = length-front_of 8 (v / 256); number = omega (arith, number) });
    }

pub spell_is : (v : ℕ) → v < 2 ^ 64 → IsVarint (spell v) v
unfolding spell
spell_is v below =
    elim (cases_Bool (ltb v (2 ^ 56))) [
      | inl e ↦
          let small : v < 2 ^ 56 = ltb-true v (2 ^ 56) e in
          let l = len_is v in
          let n = varint_len v - 1 in
          let on : varint_len v ≡ suc n = omega (arith, l.some) in
          let most : varint_len v ≤ 8 = len_eight v (varint_len v) l small in
          let room : v < 2 ^ (7 * suc n) = rw (← on) (l.high (omega arith)) in
          rw e (early_is n v (omega arith) room)
      | inr e ↦ rw e (ninth_is v below)
    ]

pub length-spell : (v : ℕ) → length (spell v) ≡ varint_len v
unfolding spell
length-spell v =
    let l = len_is v in
    elim (cases_Bool (ltb v (2 ^ 56))) [
      | inl e ↦ rw e (omega (arith, length-append (front_of (varint_len v - 1) (v / 128)) (v % 128 ∷ []), length-front_of (varint_len v - 1) (v / 128), l.some))
      | inr e ↦ rw e (omega (arith, length-append (front_of 8 (v / 256)) (v % 256 ∷ []), length-front_of 8 (v / 256), len_nine v (varint_len v) l (ltb-false v (2 ^ 56) e)))
    ]

-- ---- nothing shorter

grows : (high b q : ℕ) → (high * 128 + b % 128 + 1) * q ≤ (high + 1) * (q * 128)
grows high b q =
    let le : high * 128 + b % 128 + 1 ≤ (high + 1) * 128 = omega arith in
    let both : (high * 128 + b % 128 + 1) * q ≤ ((high + 1) * 128) * q = mul-le-mul_right q le in
    let same : ((high + 1) * 128) * q ≡ (high + 1) * (q * 128) = omega arith in
    omega arith

sevens_bound : (front : List ℕ) (high : ℕ) → sevens front high < (high + 1) * 2 ^ (7 * length front)
sevens_bound [] high = omega arith
sevens_bound (b ∷ bs) high =
    let h = sevens_bound bs (high * 128 + b % 128) in
    let g = grows high b (2 ^ (7 * length bs)) in
    let more = seven_more (length bs) in
    let same : (high + 1) * (2 ^ (7 * length bs) * 128) ≡ (high + 1) * 2 ^ (7 * suc (length bs)) = ap (λ k. (high + 1) * k) (sym more) in
    omega arith

spelling_bound : (bytes : List ℕ) (v : ℕ) (s : IsVarint bytes v) → EndsEarly s.front s.last v → v < 2 ^ (7 * length bytes)
spelling_bound bytes v s e =
    let len : length bytes ≡ suc (length s.front) = ap length s.parts ∙ length-append s.front (s.last ∷ []) ∙ omega arith in
    let b = sevens_bound s.front 0 in
    let more = seven_more (length s.front) in
    rw len (omega (arith, e.number, e.ends))

pub least_by : (bytes : List ℕ) (v : ℕ) (s : IsVarint bytes v) → EndsEarly s.front s.last v ⊎ EndsNinth s.front s.last v → varint_len v ≤ length bytes
least_by bytes v s (inl e) =
    len_least v (varint_len v) (length bytes) (len_is v) (omega (arith, ap length s.parts, length-append s.front (s.last ∷ []))) (spelling_bound bytes v s e)
least_by bytes v s (inr e) =
    let l = len_is v in omega (arith, ap length s.parts, length-append s.front (s.last ∷ []), e.eight, l.most)

-- what is written is the shortest spelling
pub spell_shortest : (v : ℕ) → v < 2 ^ 64 → IsShortest (spell v) v
spell_shortest v below = record { spelled = spell_is v below; least = λ other s. rw (length-spell v) (least_by other v s s.end) }

-- all shortest spellings have this length
pub shortest_len : (bytes : List ℕ) (v : ℕ) → v < 2 ^ 64 → IsShortest bytes v → varint_len v ≡ length bytes
shortest_len bytes v below s =
    let a = s.least (spell v) (spell_is v below) in
    omega (arith, least_by bytes v s.spelled s.spelled.end, length-spell v)
