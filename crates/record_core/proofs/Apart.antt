-- The values of a record but for a long one.
use Rattle.std.proofs.Common.{◌≡◌, ◌≤◌, ℕ, zero, suc, ◌+◌, ◌-◌, Bool, List, [], ◌∷◌, ◌++◌, length, take, drop, set, get_or, Option, Some, None, IfSome, IsSomeAnd, Ok, if◌then◌else◌, inl, inr, eqb, eqb-true, subst, refl, sym, ap, ◌∙◌, arith, append_assoc, length-append, length-set, drop-drop, set-set}
use Rattle.std.proofs.lemmas.Bool.{cases_Bool}
use Rattle.std.proofs.lemmas.List.{get_or_at, set-get_or}
use Rattle.std.specs.List.{slice_range}
use Rattle.record_core.specs.declared.long.LongValue.{LongValue}
use Rattle.record_core.specs.declared.values.Value.{Value}
use Rattle.record_core.specs.declared.values.Value.TheVariants.{Null}
use Rattle.record_core.specs.Record.{record_of, types_in, body_len, bodies_len, value_of, values_of}
use Rattle.record_core.specs.Apart.{has_long_at, without_long, IsLongIn, IsApart}
use Rattle.record_core.specs.declared.taking.Apart.{Apart}
use Rattle.record_core.proofs.Bodies.{ne_from}
use Rattle.record_core.proofs.InTurn.{Left, Next, left_start, left_pushed, left_end}

pub length-without : (long : Option LongValue) (vs : List Value) → length (without_long long vs) ≡ length vs
length-without None vs = refl
length-without (Some l) vs = length-set vs l.field Null

set_here : (vs : List Value) (v : Value) → set vs (length vs) Null ++ Null ∷ [] ≡ set (vs ++ v ∷ []) (length vs) Null
set_here [] v = refl
set_here (x ∷ xs) v = ap (λ (r : List Value). x ∷ r) (set_here xs v)

set_other : (vs : List Value) (i : ℕ) (v : Value) → (i ≡ length vs → ⊥) → set vs i Null ++ v ∷ [] ≡ set (vs ++ v ∷ []) i Null
set_other [] zero v h = absurd (h refl)
set_other [] (suc i) v h = refl
set_other (x ∷ xs) zero v h = refl
set_other (x ∷ xs) (suc i) v h = ap (λ (r : List Value). x ∷ r) (set_other xs i v (λ e. h (ap suc e)))

without_pushed : (long : Option LongValue) (vs : List Value) (v : Value) → without_long long vs ++ (if has_long_at long (length vs) then Null else v) ∷ [] ≡ without_long long (vs ++ v ∷ [])
without_pushed None vs v = refl
without_pushed (Some l) vs v =
    let front = set vs l.field Null in
    elim (cases_Bool (eqb l.field (length vs))) [
      | inl e ↦
          ap (λ (b : Bool). front ++ (if b then Null else v) ∷ []) e
          ∙ subst (λ k. set vs k Null ++ Null ∷ [] ≡ set (vs ++ v ∷ []) k Null) (sym (eqb-true l.field (length vs) e)) (set_here vs v)
      | inr e ↦ ap (λ (b : Bool). front ++ (if b then Null else v) ∷ []) e ∙ set_other vs l.field v (ne_from l.field (length vs) e)
    ]

-- ---- the values that are read

-- the values before two places are read, but for the long one
pub record LeftBut (types bodies : List ℕ) (at from : ℕ) (long : Option LongValue) (items : List Value) : Type 0 where
  pub values : List Value
  pub left : Left types bodies at from values
  pub items_are : items ≡ without_long long values

without_none : (long : Option LongValue) → [] ≡ without_long long []
without_none None = refl
without_none (Some l) = refl

pub but_start : (types bodies : List ℕ) (long : Option LongValue) (items : List Value) → IsSomeAnd (types_in types) (λ ts. bodies_len ts ≤ length bodies) → items ≡ [] → LeftBut types bodies 0 0 long items
but_start types bodies long items h e = record { values = []; left = left_start types bodies h; items_are = e ∙ without_none long }

-- one value was read and pushed
pub but_pushed : (types bodies : List ℕ) (at from : ℕ) (long : Option LongValue) (items : List Value) (t n len k : ℕ) (v : Value) (out : Bool) (after : List Value) (l : LeftBut types bodies at from long items)
    → Next types bodies at from l.values t n → len ≡ body_len t → k ≡ length items → out ≡ has_long_at long k
    → v ≡ (if out then Null else value_of t (take (from + len - from) (drop from bodies))) → after ≡ items ++ v ∷ []
    → LeftBut types bodies (at + n) (from + len) long after
but_pushed types bodies at from long items t n len k v out after l next e k-is out-is v-is after-is =
    let value = value_of t (take (from + len - from) (drop from bodies)) in
    let place : k ≡ length l.values = k-is ∙ ap length l.items_are ∙ length-without long l.values in
    let told : v ≡ (if has_long_at long (length l.values) then Null else value) =
    v-is ∙ ap (λ (b : Bool). if b then Null else value) (out-is ∙ ap (has_long_at long) place) in
    record {
      values = l.values ++ value ∷ [];
      left = left_pushed types bodies at from l.values t n len value (l.values ++ value ∷ []) next e refl refl;
      items_are = after-is ∙ ap (λ (xs : List Value). xs ++ v ∷ []) l.items_are ∙ ap (λ (x : Value). without_long long l.values ++ x ∷ []) told
          ∙ without_pushed long l.values value;
    }

-- no value is left
pub but_end : (types bodies : List ℕ) (at from : ℕ) (long : Option LongValue) (items : List Value) → LeftBut types bodies at from long items → length types ≤ at → (ts : List ℕ) → types_in types ≡ Some ts → items ≡ without_long long (values_of ts bodies)
but_end types bodies at from long items l past ts e = l.items_are ∙ ap (without_long long) (left_end types bodies at from l.values l.left past ts e)

-- ---- the long value that is sought

-- the values before two places are passed over
pub record Searched (types bodies : List ℕ) (at from field : ℕ) : Type 0 where
  pub values : List Value
  pub left : Left types bodies at from values
  pub count : length values ≡ field
  pub few : field ≤ at

pub search_start : (types bodies : List ℕ) → IsSomeAnd (types_in types) (λ ts. bodies_len ts ≤ length bodies) → Searched types bodies 0 0 0
search_start types bodies h = record { values = []; left = left_start types bodies h; count = refl; few = omega arith }

pub search_next : (types bodies : List ℕ) (at from field t n len : ℕ) (s : Searched types bodies at from field) → Next types bodies at from s.values t n → len ≡ body_len t → Searched types bodies (at + n) (from + len) (field + 1)
search_next types bodies at from field t n len s next e =
    let value = value_of t (take (from + len - from) (drop from bodies)) in
    let values = s.values ++ value ∷ [] in
    record {
      values = values;
      left = left_pushed types bodies at from s.values t n len value values next e refl refl;
      count = omega (arith, length-append s.values (value ∷ []), s.count);
      few = omega (arith, s.few, next.one);
    }

-- the next value is the one
pub search_found : (types bodies : List ℕ) (at from field t n len : ℕ) (s : Searched types bodies at from field) → Next types bodies at from s.values t n → len ≡ body_len t → 12 ≤ t → (ts : List ℕ) → types_in types ≡ Some ts
    → IsLongIn (values_of ts bodies) bodies (record { field = field; kind = t; from = from; end = from + len })
search_found types bodies at from field t n len s next e long ts told =
    let value = value_of t (slice_range bodies from (from + len)) in
    let pushed : Left types bodies (at + n) (from + len) (s.values ++ value ∷ []) =
    left_pushed types bodies at from s.values t n len value (s.values ++ value ∷ []) next e refl refl in
    let rest = values_of pushed.left (drop (from + len) bodies) in
    let all : values_of ts bodies ≡ s.values ++ (value ∷ rest) = pushed.all ts told ∙ append_assoc s.values (value ∷ []) rest in
    record {
      there = omega (arith, ap length all, length-append s.values (value ∷ rest), s.count);
      kind = long;
      low = omega arith;
      high = omega (arith, next.fits);
      value = ap (λ (vs : List Value). get_or vs field Null) all ∙ get_or_at s.values value rest Null field s.count;
    }

-- ---- the long value in its place

range_behind : (payload : List ℕ) (h f e : ℕ) → slice_range payload (h + f) (h + e) ≡ slice_range (drop h payload) f e
range_behind payload h f e =
    let same : h + e - (h + f) ≡ e - f = omega arith in
    ap (λ n. take n (drop (h + f) payload)) same ∙ ap (take (e - f)) (sym (drop-drop f h payload))

pub joined_is : (payload : List ℕ) (a : Apart) (l : LongValue) (body : List ℕ) (v : Value) → IsApart payload a → a.long ≡ Some l
    → body ≡ slice_range payload (a.header + l.from) (a.header + l.end) → v ≡ value_of l.kind body
    → record_of payload ≡ Ok (set a.values.items l.field v)
joined_is payload a l body v r long-is body-is v-is =
    let bodies = drop a.header payload in
    let held : IsLongIn r.values bodies l = subst (λ (o : Option LongValue). IfSome o (λ x. IsLongIn r.values bodies x)) long-is r.long in
    let others : a.values.items ≡ set r.values l.field Null = r.others ∙ ap (λ (o : Option LongValue). without_long o r.values) long-is in
    let same : v ≡ get_or r.values l.field Null =
    v-is ∙ ap (value_of l.kind) (body-is ∙ range_behind payload a.header l.from l.end) ∙ sym held.value in
    let filled : set a.values.items l.field v ≡ r.values =
    ap (λ (xs : List Value). set xs l.field v) others ∙ set-set r.values l.field Null v ∙ ap (set r.values l.field) same ∙ set-get_or r.values l.field Null in
    r.read ∙ ap Ok (sym filled)
