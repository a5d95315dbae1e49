-- Pieces that are put one behind the other are the text that they make; the tools for every call that writes.
use Rattle.std.proofs.Common.{◌≡◌, ◌≤◌, ◌∙◌, ℕ, ◌+◌, min, List, [], ◌++◌, length, take, Option, Some, None, Result, Ok, Err, IsErr, IsErrOf, ◌⊎◌, inl, inr, sym, ap, subst, refl, arith, append_assoc}
use Rattle.std.proofs.Math.Seq.{take-append_seam, take-append-add}
use Rattle.std.proofs.lemmas.List.{append-nil, take-append-le, take_min}
use Rattle.page_access.specs.Outside.{Gains, GainsPrefix, Writes, WritesOf}
use Rattle.page_access.proofs.Keeps.{Rose-longer, not_failed}

-- a front of `all` is written, and `rest` is still to come
pub record WroteFront (old now : Option (List ℕ)) (before count : ℕ) (rest all : List ℕ) : Type 0 where
  pub front : List ℕ
  pub parts : front ++ rest ≡ all
  pub gained : Gains old now front
  pub same : count ≡ before

pub Gains-nothing : (o : Option (List ℕ)) → Gains o o []
Gains-nothing None = refl
Gains-nothing (Some bytes) = sym (ap (λ t. Some t) (append-nil bytes))

pub Gains-append : (o p q : Option (List ℕ)) (first next : List ℕ) → Gains o p first → Gains p q next → Gains o q (first ++ next)
Gains-append None p q first next g h = subst (λ (x : Option (List ℕ)). Gains x q next) g h
Gains-append (Some bytes) p q first next g h =
    let e : q ≡ Some ((bytes ++ first) ++ next) = subst (λ (x : Option (List ℕ)). Gains x q next) g h in
    e ∙ ap (λ t. Some t) (append_assoc bytes first next)

-- a piece cut short, behind a front, is the whole text cut short
cut_text : (front piece rest : List ℕ) (n : ℕ) → take (length front + min n (length piece)) (front ++ (piece ++ rest)) ≡ front ++ take n piece
cut_text front piece rest n =
    take-append-add front (piece ++ rest) (min n (length piece))
    ∙ ap (λ t. front ++ t) (take-append-le (min n (length piece)) piece rest (omega arith) ∙ take_min n piece)

-- what is there when a piece was cut short
pub prefix_cut : {o p : Option (List ℕ)} {f g : ℕ} {all : List ℕ} (q : Option (List ℕ)) (piece rest : List ℕ) → WroteFront o p f g (piece ++ rest) all → GainsPrefix p q piece → GainsPrefix o q all
prefix_cut {o} {p} {all = all} q piece rest w (n, g) = (
  length w.front + min n (length piece),
  subst (λ t. Gains o q t) (sym (cut_text w.front piece rest n) ∙ ap (λ t. take (length w.front + min n (length piece)) t) w.parts)
      (Gains-append o p q w.front (take n piece) w.gained g),
)

-- what is there between two pieces
pub prefix_left : {o p : Option (List ℕ)} {f g : ℕ} {rest all : List ℕ} → WroteFront o p f g rest all → GainsPrefix o p all
prefix_left {o} {p} {rest = rest} {all = all} w =
    (length w.front, subst (λ t. Gains o p t) (sym (take-append_seam w.front rest) ∙ ap (λ t. take (length w.front) t) w.parts) w.gained)

-- all is there
pub gained_all : {o p : Option (List ℕ)} {f g : ℕ} {all : List ℕ} → WroteFront o p f g [] all → Gains o p all
gained_all {o} {p} w = subst (λ t. Gains o p t) (sym (append-nil w.front) ∙ w.parts) w.gained

-- nothing is written yet
pub front_start : (o : Option (List ℕ)) (f : ℕ) (all : List ℕ) → WroteFront o o f f all all
front_start o f all = record { front = []; parts = refl; gained = Gains-nothing o; same = refl }

-- the rest in other words
pub front_as : {o p : Option (List ℕ)} {f g : ℕ} {rest text all : List ℕ} → rest ≡ text → WroteFront o p f g rest all → WroteFront o p f g text all
front_as {o} {p} {f} {g} {all = all} e w = subst (λ t. WroteFront o p f g t all) e w

-- one more piece is written
pub front_gain : {o p : Option (List ℕ)} {f g h : ℕ} {all : List ℕ} (q : Option (List ℕ)) (piece rest : List ℕ) → WroteFront o p f g (piece ++ rest) all → Gains p q piece → h ≡ g → WroteFront o q f h rest all
front_gain {o} {p} q piece rest w gained more = record {
  front = w.front ++ piece;
  parts = append_assoc w.front piece rest ∙ w.parts;
  gained = Gains-append o p q w.front piece w.gained gained;
  same = more ∙ w.same;
}

-- a call answered Ok
pub front_step : {T E : Type 0} {x : T} {o p q : Option (List ℕ)} {f g h : ℕ} {piece all : List ℕ} (rest : List ℕ) →
    WroteFront o p f g (piece ++ rest) all → Writes {T = T} {E = E} p q g h piece (Ok x) → WroteFront o q f h rest all
front_step {q = q} {piece = piece} rest w now = front_gain q piece rest w now.ok now.steady

-- the exit of a `?` behind a call that failed
pub front_out : {T E T' E' : Type 0} {e : E} {r : Result T' E'} {o p q : Option (List ℕ)} {f g h : ℕ} {piece all : List ℕ} (rest : List ℕ) →
    IsErr r → WroteFront o p f g (piece ++ rest) all → Writes {T = T} {E = E} p q g h piece (Err e) → Writes o q f h all r
front_out {r = Ok x} rest is w now = absurd cc
front_out {r = Err e} {q = q} {piece = piece} rest is w now = record {
  later = omega (arith, w.same, now.later);
  ok = tt;
  err = prefix_cut q piece rest w now.err;
  failed = Rose-longer (omega (arith, w.same)) now.failed (omega arith);
  steady = tt;
}

-- the last call gives the answer
pub front_last : {T E : Type 0} {r : Result T E} {o p q : Option (List ℕ)} {f g h : ℕ} {piece all : List ℕ} →
    WroteFront o p f g piece all → Writes p q g h piece r → Writes o q f h all r
front_last {r = Ok x} {q = q} {piece = piece} w now = record {
  later = omega (arith, w.same, now.later);
  ok = gained_all (front_gain q piece [] (front_as (sym (append-nil piece)) w) now.ok now.steady);
  err = tt;
  failed = tt;
  steady = now.steady ∙ w.same;
}
front_last {r = Err e} {q = q} {piece = piece} w now = record {
  later = omega (arith, w.same, now.later);
  ok = tt;
  err = prefix_cut q piece [] (front_as (sym (append-nil piece)) w) now.err;
  failed = Rose-longer (omega (arith, w.same)) now.failed (omega arith);
  steady = tt;
}

-- all pieces are written
pub front_end : {T E : Type 0} {x : T} {o p : Option (List ℕ)} {f g : ℕ} {all : List ℕ} → WroteFront o p f g [] all → Writes {T = T} {E = E} o p f g all (Ok x)
front_end w = record { later = omega (arith, w.same); ok = gained_all w; err = tt; failed = tt; steady = w.same }

-- the text in other words
pub writes_same : {T E : Type 0} {r : Result T E} {o p : Option (List ℕ)} {f g : ℕ} {text all : List ℕ} → text ≡ all → Writes o p f g text r → Writes o p f g all r
writes_same {r = r} {o} {p} {f} {g} e w = subst (λ t. Writes o p f g t r) e w

-- the tools where one of several errors is the sink's

pub front_step_of : {T E : Type 0} {x : T} {fault : E} {o p q : Option (List ℕ)} {f g h : ℕ} {piece all : List ℕ} (rest : List ℕ) →
    WroteFront o p f g (piece ++ rest) all → WritesOf {T = T} fault p q g h piece (Ok x) → WroteFront o q f h rest all
front_step_of {q = q} {piece = piece} rest w now = front_gain q piece rest w now.ok (not_failed now.steady)

-- behind a call with several errors: where the answer is the sink's, the call's was, and the other way round
pub front_out_from : {T E T' E' : Type 0} {e inner : E} {r : Result T' E'} {o p q : Option (List ℕ)} {f g h : ℕ} {piece all : List ℕ} (fault : E') (rest : List ℕ) →
    IsErr r → (IsErrOf r fault → e ≡ inner) → (e ≡ inner → IsErrOf r fault) → WroteFront o p f g (piece ++ rest) all
    → WritesOf {T = T} inner p q g h piece (Err e) → WritesOf fault o q f h all r
front_out_from {r = Ok x} fault rest is same back w now = absurd cc
front_out_from {T = T} {E = E} {T' = T'} {e = e} {inner = inner} {r = Err x} {q = q} {f = f} {g = g} {h = h} {piece = piece} {all = all} fault rest is same back w now = record {
  later = omega (arith, w.same, now.later);
  ok = tt;
  err = prefix_cut q piece rest w now.err;
  failed = λ y. Rose-longer (omega (arith, w.same)) (now.failed (ap (λ z. Err z) (same y))) (omega arith);
  steady = passed now.steady;
} where
  passed : (IsErrOf {T = T} (Err e) inner ⊎ (h ≡ g)) → IsErrOf {T = T'} (Err x) fault ⊎ (h ≡ f)
  passed (inl of) = inl (back cc)
  passed (inr same) = inr (same ∙ w.same)

-- at an error that is not the sink's
pub front_left : {T E : Type 0} {r : Result T E} {o p : Option (List ℕ)} {f g : ℕ} {rest all : List ℕ} (fault : E) →
    IsErr r → (IsErrOf r fault → ⊥) → WroteFront o p f g rest all → WritesOf fault o p f g all r
front_left {r = Ok x} fault is other w = absurd cc
front_left {r = Err e} fault is other w = record {
  later = omega (arith, w.same);
  ok = tt;
  err = prefix_left w;
  failed = λ y. absurd (other y);
  steady = inr w.same;
}

pub front_end_of : {T E : Type 0} {x : T} {o p : Option (List ℕ)} {f g : ℕ} {all : List ℕ} (fault : E) →
    WroteFront o p f g [] all → WritesOf {T = T} fault o p f g all (Ok x)
front_end_of fault w = record { later = omega (arith, w.same); ok = gained_all w; err = tt; failed = λ y. absurd cc; steady = inr w.same }

pub writes_same_of : {T E : Type 0} {r : Result T E} {fault : E} {o p : Option (List ℕ)} {f g : ℕ} {text all : List ℕ} →
    text ≡ all → WritesOf fault o p f g text r → WritesOf fault o p f g all r
writes_same_of {r = r} {fault = fault} {o} {p} {f} {g} e w = subst (λ t. WritesOf fault o p f g t r) e w
