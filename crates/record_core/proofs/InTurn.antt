-- The values of a record, one after another.
use Rattle.std.proofs.Common.{◌≡◌, ◌<◌, ◌≤◌, ℕ, ◌+◌, ◌-◌, List, [], ◌∷◌, ◌++◌, length, take, drop, Option, Some, None, IfSome, IsSomeAnd, refl, sym, ap, subst, ◌∙◌, arith, option_map, append_assoc, append-nil, length-drop, drop-drop}
use Rattle.std.proofs.lemmas.List.Sums.{sum_by-cons}
use Rattle.varint_core.specs.Varint.{varint_at}
use Rattle.record_core.specs.declared.values.Value.{Value}
use Rattle.record_core.specs.Record.{types_in, varints_in, body_len, bodies_len, value_of, values_of}
use Rattle.record_core.proofs.Types.{first_type, no_bytes}

-- the values before two places, and those of the serial types and bodies from there on, are all
pub record Left (types bodies : List ℕ) (at from : ℕ) (values : List Value) : Type 0 where
  pub left : List ℕ
  pub fuel : ℕ
  pub there : at ≤ length types
  pub enough : length (drop at types) ≤ fuel
  pub types_are : varints_in fuel (drop at types) ≡ Some left
  pub fits : from + bodies_len left ≤ length bodies
  pub all : (ts : List ℕ) → types_in types ≡ Some ts → values_of ts bodies ≡ values ++ values_of left (drop from bodies)

abbrev some_of : {A : Type 0} → A → Option A
some_of x = Some x

pub some_is : {A : Type 0} (x y : A) → some_of x ≡ some_of y → x ≡ y
some_is x y e = cc

-- a row of varints with a first one
unmapped : (t : ℕ) (left : List ℕ) (read : Option (List ℕ)) → Some left ≡ option_map (λ ts. t ∷ ts) read → (others : List ℕ) × (read ≡ Some others) × (left ≡ t ∷ others)
unmapped t left None e = absurd cc
unmapped t left (Some others) e = (others, refl, some_is left (t ∷ others) e)

left_from : (types bodies : List ℕ) (read : Option (List ℕ)) → types_in types ≡ read → IsSomeAnd read (λ ts. bodies_len ts ≤ length bodies) → Left types bodies 0 0 []
left_from types bodies None e h = absurd h
left_from types bodies (Some ts) e h = record {
  left = ts;
  fuel = length types;
  there = omega arith;
  enough = omega arith;
  types_are = e;
  fits = omega (arith, h);
  all = λ us f. ap (λ (u : List ℕ). values_of u bodies) (some_is us ts (sym f ∙ e));
}

pub left_start : (types bodies : List ℕ) → IsSomeAnd (types_in types) (λ ts. bodies_len ts ≤ length bodies) → Left types bodies 0 0 []
left_start types bodies h = left_from types bodies (types_in types) refl h

-- one value more
pub record Next (types bodies : List ℕ) (at from : ℕ) (values : List Value) (t n : ℕ) : Type 0 where
  pub one : 1 ≤ n
  pub fits : from + body_len t ≤ length bodies
  pub next : Left types bodies (at + n) (from + body_len t) (values ++ value_of t (take (body_len t) (drop from bodies)) ∷ [])

pub left_next : (types bodies : List ℕ) (at from : ℕ) (values : List Value) (t n : ℕ) → Left types bodies at from values → at < length types → varint_at (drop at types) ≡ Some (t, n) → 1 ≤ n → at + n ≤ length types → Next types bodies at from values t n
left_next types bodies at from values t n l some e one inside =
    let f = first_type l.fuel (drop at types) t n (omega (arith, length-drop at types)) l.enough e one in
    let u = unmapped t l.left _ (sym l.types_are ∙ f.all) in
    let on : drop n (drop at types) ≡ drop (at + n) types = drop-drop n at types in
    let on-bodies : drop (body_len t) (drop from bodies) ≡ drop (from + body_len t) bodies = drop-drop (body_len t) from bodies in
    let sum : bodies_len l.left ≡ body_len t + bodies_len u.0 = ap bodies_len u.2 ∙ sum_by-cons body_len t u.0 in
    let v = value_of t (take (body_len t) (drop from bodies)) in
    record {
      one = one;
      fits = omega (arith, l.fits);
      next = record {
        left = u.0;
        fuel = f.left;
        there = inside;
        enough = rw (← on) f.enough;
        types_are = rw (← on) u.1;
        fits = omega (arith, l.fits);
        all = λ ts w. l.all ts w ∙ ap (λ (us : List ℕ). values ++ values_of us (drop from bodies)) u.2
            ∙ ap (λ (b : List ℕ). values ++ v ∷ values_of u.0 b) on-bodies
            ∙ sym (append_assoc values (v ∷ []) (values_of u.0 (drop (from + body_len t) bodies)));
      };
    }

-- no value is left
pub left_end : (types bodies : List ℕ) (at from : ℕ) (values : List Value) → Left types bodies at from values → length types ≤ at → (ts : List ℕ) → types_in types ≡ Some ts → values ≡ values_of ts bodies
left_end types bodies at from values l past ts e =
    let none : Some l.left ≡ Some [] = sym l.types_are ∙ no_bytes l.fuel (drop at types) (omega (arith, length-drop at types)) in
    sym (l.all ts e ∙ ap (λ (us : List ℕ). values ++ values_of us (drop from bodies)) (some_is l.left [] none) ∙ append-nil values)

-- the same, from what a call answered
pub left_step : (types bodies : List ℕ) (at from : ℕ) (values : List Value) (o : Option (ℕ × ℕ)) (v : ℕ × ℕ) → Left types bodies at from values → at < length types → o ≡ varint_at (drop at types) → IfSome o (λ v. (1 ≤ v.1) × (v.1 ≤ 9) × (at + v.1 ≤ length types)) → o ≡ Some v → Next types bodies at from values v.0 v.1
left_step types bodies at from values o v l some exact there is =
    let h = subst (λ o. IfSome o (λ v. (1 ≤ v.1) × (v.1 ≤ 9) × (at + v.1 ≤ length types))) is there in
    left_next types bodies at from values v.0 v.1 l some (sym exact ∙ is) h.0 h.2

-- the value was read and pushed
pub left_pushed : (types bodies : List ℕ) (at from : ℕ) (values : List Value) (t n len : ℕ) (v : Value) (after : List Value) → Next types bodies at from values t n → len ≡ body_len t → v ≡ value_of t (take (from + len - from) (drop from bodies)) → after ≡ values ++ v ∷ [] → Left types bodies (at + n) (from + len) after
left_pushed types bodies at from values t n len v after next e v-is after-is =
    let same : from + len - from ≡ body_len t = omega arith in
    let pushed : after ≡ values ++ value_of t (take (body_len t) (drop from bodies)) ∷ [] =
    after-is ∙ ap (λ (x : Value). values ++ x ∷ []) (v-is ∙ ap (λ k. value_of t (take k (drop from bodies))) same) in
    rw (e, pushed) next.next
