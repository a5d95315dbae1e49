-- The body of a serial type, its length and its value.
use Rattle.std.proofs.Common.{◌≡◌, ◌<◌, ◌≤◌, ◌⊎◌, ℕ, zero, suc, ◌/◌, ◌%◌, ◌-◌, ℤ, pos, true, false, eqb, ltb, List, [], length, if◌then◌else◌, inl, inr, refl, sym, ap, ◌∙◌, arith, eqb-true, ltb-true, ltb-false, le-ltb, ne_eqb, eq-eqb}
use Rattle.std.proofs.lemmas.Bool.{cases_Bool, or_parts}
use Rattle.std.proofs.lemmas.List.{nil_from_length}
use Rattle.byteorder.specs.Endian.{big_number, twos_complement}
use Rattle.record_core.specs.declared.values.Value.{Value}
use Rattle.record_core.specs.declared.values.Value.TheVariants.{Null, Whole, Real8, Text, Blob}
use Rattle.record_core.specs.Record.{body_len, is_reserved, value_of}
use Rattle.record_core.specs.Spelling.{IsWidth, IsNumber, IsBody}

pub ne_from : (t k : ℕ) → eqb t k ≡ false → t ≡ k → ⊥
ne_from t k e f = let s : eqb t k ≡ true = eq-eqb t k f in let both : true ≡ false = sym s ∙ e in absurd cc

-- the whole numbers
width_found : (t : ℕ) → (t ≡ 0 → ⊥) → t < 7 → IsWidth t (body_len t)
unfolding body_len
width_found zero some lt = absurd (some refl)
width_found (suc zero) some lt = inl (refl, refl)
width_found (suc (suc zero)) some lt = inr (inl (refl, refl))
width_found (suc (suc (suc zero))) some lt = inr (inr (inl (refl, refl)))
width_found (suc (suc (suc (suc zero)))) some lt = inr (inr (inr (inl (refl, refl))))
width_found (suc (suc (suc (suc (suc zero))))) some lt = inr (inr (inr (inr (inl (refl, refl)))))
width_found (suc (suc (suc (suc (suc (suc zero)))))) some lt = inr (inr (inr (inr (inr (refl, refl)))))
width_found (suc (suc (suc (suc (suc (suc (suc t))))))) some lt = absurd (omega arith)

-- the length of a text or a blob
long_len : (t : ℕ) → 12 ≤ t → body_len t ≡ (t - 12) / 2
unfolding body_len
long_len t le =
    let a : ltb t 5 ≡ false = le-ltb t 5 (omega arith) in
    let b : eqb t 5 ≡ false = ne_eqb t 5 (omega arith) in
    let c : ltb t 8 ≡ false = le-ltb t 8 (omega arith) in
    let d : ltb t 12 ≡ false = le-ltb t 12 le in
    rw (a, b, c, d) refl

len_at : (t n : ℕ) (body : List ℕ) → t ≡ n → length body ≡ body_len t → length body ≡ body_len n
len_at t n body e len = len ∙ ap body_len e

nothing : (t : ℕ) (body : List ℕ) → length body ≡ body_len t → body_len t ≡ 0 → body ≡ []
nothing t body len e = nil_from_length body (len ∙ e)

zero_len : (body_len 0 ≡ 0) × (body_len 7 ≡ 8) × (body_len 8 ≡ 0) × (body_len 9 ≡ 0)
unfolding body_len
zero_len = (refl, refl, refl, refl)

-- a value that was read is spelled by its serial type and body
pub body_found : (t : ℕ) (body : List ℕ) → is_reserved t ≡ false → length body ≡ body_len t → IsBody t body (value_of t body)
unfolding value_of
body_found t body known len =
    elim (cases_Bool (eqb t 0)) [
      | inl e ↦ rw e (eqb-true t 0 e, nil_from_length body (len_at t 0 body (eqb-true t 0 e) len ∙ zero_len.0))
      | inr n0 ↦ elim (cases_Bool (ltb t 7)) [
        | inl e ↦ rw (n0, e) (inl (record {
          width = rw len (width_found t (ne_from t 0 n0) (ltb-true t 7 e));
          value = ap (λ n. twos_complement n (big_number n body)) (sym len);
        }))
        | inr n6 ↦ elim (cases_Bool (eqb t 7)) [
          | inl e ↦ rw (n0, n6, e) (eqb-true t 7 e, len_at t 7 body (eqb-true t 7 e) len ∙ zero_len.1, refl)
          | inr n7 ↦ elim (cases_Bool (eqb t 8)) [
            | inl e ↦ rw (n0, n6, n7, e) (inr (record { none = nil_from_length body (len_at t 8 body (eqb-true t 8 e) len ∙ zero_len.2); value = inl (eqb-true t 8 e, refl) }))
            | inr n8 ↦ elim (cases_Bool (eqb t 9)) [
              | inl e ↦ rw (n0, n6, n7, n8, e) (inr (record { none = nil_from_length body (len_at t 9 body (eqb-true t 9 e) len ∙ zero_len.3); value = inr (eqb-true t 9 e, refl) }))
              | inr n9 ↦
                  let r = or_parts (eqb t 10) (eqb t 11) known in
                  let long : 12 ≤ t = omega (arith, ltb-false t 7 n6, ne_from t 7 n7, ne_from t 8 n8, ne_from t 9 n9, ne_from t 10 r.0, ne_from t 11 r.1) in
                  let half : length body ≡ (t - 12) / 2 = len ∙ long_len t long in
                  elim (cases_Bool (eqb (t % 2) 0)) [
                    | inl e ↦ let even : t % 2 ≡ 0 = eqb-true (t % 2) 0 e in rw (n0, n6, n7, n8, n9, e) (omega arith, refl)
                    | inr e ↦ let odd : t % 2 ≡ 0 → ⊥ = ne_from (t % 2) 0 e in rw (n0, n6, n7, n8, n9, e) (omega arith, refl)
                  ]
            ]
          ]
        ]
      ]
    ]

-- what reading gives for a serial type and its body
pub record Reads (t : ℕ) (body : List ℕ) (v : Value) : Type 0 where
  pub len : body_len t ≡ length body
  pub known : is_reserved t ≡ false
  pub value : value_of t body ≡ v

record IsWidthOf (t n : ℕ) : Type 0 where
  len : body_len t ≡ n
  known : is_reserved t ≡ false
  value : (body : List ℕ) → value_of t body ≡ Whole (twos_complement (body_len t) (big_number (body_len t) body))

width_again : (t n : ℕ) → IsWidth t n → IsWidthOf t n
unfolding body_len value_of
width_again t n (inl w) = rw (w.0, w.1) (record { len = refl; known = refl; value = λ body. refl })
width_again t n (inr (inl w)) = rw (w.0, w.1) (record { len = refl; known = refl; value = λ body. refl })
width_again t n (inr (inr (inl w))) = rw (w.0, w.1) (record { len = refl; known = refl; value = λ body. refl })
width_again t n (inr (inr (inr (inl w)))) = rw (w.0, w.1) (record { len = refl; known = refl; value = λ body. refl })
width_again t n (inr (inr (inr (inr (inl w))))) = rw (w.0, w.1) (record { len = refl; known = refl; value = λ body. refl })
width_again t n (inr (inr (inr (inr (inr w))))) = rw (w.0, w.1) (record { len = refl; known = refl; value = λ body. refl })

number_again : (t : ℕ) (body : List ℕ) (number : ℤ) → IsNumber t body number → Reads t body (Whole number)
number_again t body number i =
    let w = width_again t (length body) i.width in
    record {
      len = w.len;
      known = w.known;
      value = w.value body ∙ ap (λ n. Whole (twos_complement n (big_number n body))) w.len ∙ ap Whole (sym i.value);
    }

constant_again : (t : ℕ) (body : List ℕ) (number : ℤ) → body ≡ [] → ((t ≡ 8) × (number ≡ pos 0)) ⊎ ((t ≡ 9) × (number ≡ pos 1)) → Reads t body (Whole number)
unfolding body_len value_of
constant_again t body number none (inl w) = rw (w.0, w.1, none) (record { len = refl; known = refl; value = refl })
constant_again t body number none (inr w) = rw (w.0, w.1, none) (record { len = refl; known = refl; value = refl })

-- a long serial type, by what is left of it by two
record IsLong (t n : ℕ) : Type 0 where
  len : body_len t ≡ n
  known : is_reserved t ≡ false
  value : (body : List ℕ) → value_of t body ≡ (if eqb (t % 2) 0 then Blob body else Text body)

long_again : (t n : ℕ) → 12 ≤ t → (t - 12) / 2 ≡ n → IsLong t n
unfolding value_of
long_again t n le half =
    let a : eqb t 0 ≡ false = ne_eqb t 0 (omega arith) in
    let b : ltb t 7 ≡ false = le-ltb t 7 (omega arith) in
    let c : eqb t 7 ≡ false = ne_eqb t 7 (omega arith) in
    let d : eqb t 8 ≡ false = ne_eqb t 8 (omega arith) in
    let e : eqb t 9 ≡ false = ne_eqb t 9 (omega arith) in
    let f : eqb t 10 ≡ false = ne_eqb t 10 (omega arith) in
    let g : eqb t 11 ≡ false = ne_eqb t 11 (omega arith) in
    record { len = long_len t le ∙ half; known = rw (f, g) refl; value = λ body. rw (a, b, c, d, e) refl }

-- a value that is spelled is read
pub body_again : (t : ℕ) (body : List ℕ) (v : Value) → IsBody t body v → Reads t body v
unfolding body_len value_of
body_again t body Null i = rw (i.0, i.1) (record { len = refl; known = refl; value = refl })
body_again t body (Whole number) (inl i) = number_again t body number i
body_again t body (Whole number) (inr i) = constant_again t body number i.none i.value
body_again t body (Real8 bytes) i = rw (i.0) (record { len = sym i.1; known = refl; value = ap Real8 (sym i.2) })
body_again t body (Text bytes) i =
    let l = long_again t (length body) (omega arith) (omega arith) in
    let odd : eqb (t % 2) 0 ≡ false = ne_eqb (t % 2) 0 (omega arith) in
    let text : value_of t body ≡ Text body = l.value body ∙ rw odd refl in
    record { len = l.len; known = l.known; value = text ∙ ap Text (sym i.1) }
body_again t body (Blob bytes) i =
    let l = long_again t (length body) (omega arith) (omega arith) in
    let even : eqb (t % 2) 0 ≡ true = eq-eqb (t % 2) 0 (omega arith) in
    let blob : value_of t body ≡ Blob body = l.value body ∙ rw even refl in
    record { len = l.len; known = l.known; value = blob ∙ ap Blob (sym i.1) }
