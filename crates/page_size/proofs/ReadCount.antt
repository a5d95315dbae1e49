-- How often a source is read while its pages are found.
use Rattle.std.proofs.Common.{◌≡◌, ◌≤◌, ℕ, ◌+◌, ◌/◌, if◌then◌else◌, List, length, Option, Some, None, IfSome, ap, subst, arith}
use Rattle.std.specs.Prelude.{is_none}
use Rattle.page_size.specs.declared.headers.Header.{Header}
use Rattle.page_size.specs.Fields.{header_of}
use Rattle.page_size.specs.Rule.{given_sizing, is_scored}

-- the reads of the header, and then those of the scores, where the sizes are scored
pub told_reads : (o q : Option (List ℕ)) (len : ℕ) (h : Header) (size reserved : Option ℕ) (before here now : ℕ) → q ≡ o →
    IfSome o (λ all. length all ≡ len → h ≡ header_of all) → IfSome o (λ all. length all ≡ len → here ≤ before + 1) →
    IfSome q (λ all. length all ≡ len → now ≤ here + (if is_none (given_sizing h size reserved) then len / 256 else 0)) →
    IfSome o (λ all. length all ≡ len → now ≤ before + 1 + (if is_scored all size reserved then len / 256 else 0))
told_reads None q len h size reserved before here now e told first later = tt
told_reads (Some all) q len h size reserved before here now e told first later = λ long.
    let scores : length all ≡ len → now ≤ here + (if is_none (given_sizing h size reserved) then len / 256 else 0)
    = subst (λ (x : Option (List ℕ)). IfSome x (λ all. length all ≡ len → now ≤ here + (if is_none (given_sizing h size reserved) then len / 256 else 0))) e later in
    let same : (if is_none (given_sizing h size reserved) then len / 256 else 0) ≡ (if is_scored all size reserved then len / 256 else 0)
    = ap (λ k. if is_none (given_sizing k size reserved) then len / 256 else 0) (told long) in
    omega (arith, scores long, same, first long)
