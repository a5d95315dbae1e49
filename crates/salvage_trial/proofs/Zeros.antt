-- Zeros in place of a page.
use Rattle.std.proofs.Common.{◌≡◌, sym, ap, ◌∙◌, arith, refl, ℕ, ◌+◌, ◌-◌, ◌*◌, ◌≤◌, List, ◌++◌, append_assoc, length, take, drop, replicate}
use Rattle.std.proofs.Math.Seq.{take-append_seam}
use Rattle.std.proofs.lemmas.Slice.{put_mid-paste}
use Rattle.salvage_trial.specs.Holes.{page_size, with_hole}
use Rattle.salvage_trial.proofs.Header.{hole_length}
use borrow.Rule.Slice.PartMut.{put_mid}

pub blanked : (p m : ℕ) (bytes piece : List ℕ) → 1 ≤ p → piece ≡ replicate m 0 → m ≡ page_size
    → put_mid (p * 512 - 512) (p * 512 - (p * 512 - 512)) bytes piece ≡ with_hole p bytes
blanked p m bytes piece some zeros len =
    let z : List ℕ = replicate page_size 0 in
    let front : p * 512 - 512 ≡ (p - 1) * page_size = omega (arith, some) in
    let behind : p * 512 - 512 + 512 ≡ p * page_size = omega (arith, some) in
    let size : 512 ≡ p * 512 - (p * 512 - 512) = omega (arith, some) in
    let filled : piece ≡ z = zeros ∙ ap (λ n. replicate n 0) len in
    let all : take 512 z ≡ z = refl in
    put_mid-paste (p * 512 - 512) (p * 512 - (p * 512 - 512)) bytes piece z 512 filled size refl
    ∙ (append_assoc (take (p * 512 - 512) bytes) (take 512 z) (drop (p * 512 - 512 + 512) bytes)
    ∙ (λ i. take (front i) bytes ++ (all i ++ drop (behind i) bytes)))

-- what a vector holds behind zeros in place of a page
pub written_back : (len hole p : ℕ) (file items now new : List ℕ) → len ≡ length items → items ≡ file → now ≡ items → new ≡ with_hole hole now
    → hole ≡ p → 1 ≤ p → p * page_size ≤ length file → take len (new ++ drop (length new) items) ≡ with_hole p file
written_back len hole p file items now new many is seen blank same least most =
    let holed : new ≡ with_hole p file = blank ∙ (λ i. with_hole (same i) ((seen ∙ is) i)) in
    let size : len ≡ length new = many ∙ (ap length is ∙ (hole_length p file least most ∙ ap length (sym holed))) in
    ap (λ n. take n (new ++ drop (length new) items)) size ∙ (take-append_seam new (drop (length new) items) ∙ holed)
