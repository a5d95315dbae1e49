-- Reads in parts, one after another, are one read.
use Rattle.std.proofs.Common.{◌≡◌, ◌≢◌, ◌<◌, ◌≤◌, ◌∙◌, ℕ, ◌+◌, ◌-◌, min, List, ◌++◌, length, take, drop, Option, Some, None, IfSome, sym, ap, subst, arith, length-take}
use Rattle.std.proofs.Math.Seq.{take-add}
use Rattle.std.proofs.lemmas.List.{take-append-le, drop-drop, drop_at}
use Rattle.std.proofs.lemmas.Slice.{take-put_mid_below}
use borrow.Rule.Slice.PartMut.{put_mid, post_of}
use Rattle.page_access.specs.Outside.{ReadsAt, OneMore}

-- the first `done` bytes of `to` are read, and stand from `start` on
pub record IsRead (bytes : List ℕ) (start done : ℕ) (to : List ℕ) : Type 0 where
  pub within : done ≤ length bytes - start
  pub front : take done to ≡ take done (drop start bytes)

-- no read at first, then one, which fills `to` where all the bytes are there
pub record OneTurn (size told_len start done before now : ℕ) : Type 0 where
  pub none : done ≡ 0 → now ≡ before
  pub whole : start + size ≤ told_len → 0 < done → done ≡ size
  pub one : start + size ≤ told_len → now ≤ before + 1

-- the front of a part behind `done` bytes
front_of_part : (done count : ℕ) (to piece : List ℕ) → done ≤ length to → count ≤ length piece →
    take count (drop done (put_mid done (length to - done) to piece)) ≡ take count piece
front_of_part done count to piece inside fits =
    ap (λ t. take count t) (drop_at (take done to) (piece ++ post_of done (length to - done) to) done (omega (arith, length-take done to)))
    ∙ take-append-le count piece _ fits

-- the next read goes on where the last one ended
read_next : (all : List ℕ) (start done count : ℕ) (to piece : List ℕ) → done ≤ length to → length piece ≡ length to - done →
    IsRead all start done to → ReadsAt all (start + done) count piece → IsRead all start (done + count) (put_mid done (length to - done) to piece)
read_next all start done count to piece inside size read part =
    let fits : count ≤ length piece = omega (arith, part.count_is) in
    let first : take done (put_mid done (length to - done) to piece) ≡ take done to
    = take-put_mid_below done (length to - done) to piece done (omega arith) inside in
    let behind : take count (drop done (put_mid done (length to - done) to piece)) ≡ take count (drop (start + done) all)
    = front_of_part done count to piece inside fits ∙ part.front in
    let shown : take (done + count) (drop start all) ≡ take done (drop start all) ++ take count (drop (start + done) all)
    = take-add done count (drop start all) ∙ ap (λ t. take done (drop start all) ++ take count t) (drop-drop done start all) in
    let whole : take (done + count) (put_mid done (length to - done) to piece) ≡ take done (drop start all) ++ take count (drop (start + done) all)
    = take-add done count (put_mid done (length to - done) to piece)
    ∙ ap (λ t. t ++ take count (drop done (put_mid done (length to - done) to piece))) (first ∙ read.front)
    ∙ ap (λ t. take done (drop start all) ++ t) behind in
    record { within = omega (arith, read.within, part.count_is); front = whole ∙ sym shown }

-- the same where the bytes are told
pub told_next : (o p : Option (List ℕ)) (start done count : ℕ) (to piece : List ℕ) → p ≡ o → done ≤ length to → length piece ≡ length to - done →
    IfSome o (λ all. IsRead all start done to) → IfSome p (λ all. ReadsAt all (start + done) count piece) →
    IfSome o (λ all. IsRead all start (done + count) (put_mid done (length to - done) to piece))
told_next None p start done count to piece e inside size read part = tt
told_next (Some all) p start done count to piece e inside size read part =
    read_next all start done count to piece inside size read (subst (λ (q : Option (List ℕ)). IfSome q (λ all. ReadsAt all (start + done) count piece)) e part)

-- one more turn, which took a byte at least
turn_next : (size told_len start done count before now then : ℕ) → done < size → count ≢ 0 → count ≡ min (size - done) (told_len - (start + done)) →
    OneTurn size told_len start done before now → OneMore now then → OneTurn size told_len start (done + count) before then
turn_next size told_len start done count before now then inside some count_is turn more = record {
  none = λ e. absurd (some (omega arith));
  whole = λ there _. grind (arith, turn.whole there);
  one = λ there. grind (arith, turn.whole there, turn.none, more.most);
}

-- the same where the bytes are told
pub told_turn : (o p : Option (List ℕ)) (size start done count before now then : ℕ) (piece : List ℕ) → p ≡ o → done < size → count ≢ 0 →
    length piece ≡ size - done → IfSome p (λ all. ReadsAt all (start + done) count piece) →
    IfSome o (λ all. OneTurn size (length all) start done before now) → OneMore now then →
    IfSome o (λ all. OneTurn size (length all) start (done + count) before then)
told_turn None p size start done count before now then piece e inside some fits part turn more = tt
told_turn (Some all) p size start done count before now then piece e inside some fits part turn more =
    let here : ReadsAt all (start + done) count piece = subst (λ (q : Option (List ℕ)). IfSome q (λ all. ReadsAt all (start + done) count piece)) e part in
    turn_next size (length all) start done count before now then inside some (omega (arith, here.count_is)) turn more
