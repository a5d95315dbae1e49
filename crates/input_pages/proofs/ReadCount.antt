-- How often an input is read, by its own length.
use Rattle.std.proofs.Common.{◌≡◌, ◌≤◌, ℕ, ◌+◌, ◌/◌, List, length, Option, Some, None, subst, sym, if◌then◌else◌}
use Rattle.std.specs.Prelude.{IfSome}
use Rattle.page_size.specs.Rule.{is_scored}

-- the reads of a source whose length was asked for first
pub few_reads : (told told' : Option (List ℕ)) (len old mid now : ℕ) (page_size reserved : Option ℕ) → told' ≡ told
    → IfSome told (λ all. len ≡ length all) → mid ≡ old
    → IfSome told' (λ all. length all ≡ len → now ≤ mid + 1 + (if is_scored all page_size reserved then len / 256 else 0))
    → IfSome told (λ all. now ≤ old + 1 + (if is_scored all page_size reserved then length all / 256 else 0))
few_reads None told' len old mid now page_size reserved same len_is steady few = tt
few_reads (Some all) told' len old mid now page_size reserved same len_is steady few =
    let of_all = subst (λ (o : Option (List ℕ)). IfSome o (λ all. length all ≡ len → now ≤ mid + 1 + (if is_scored all page_size reserved then len / 256 else 0))) same few in
    subst (λ (n : ℕ). now ≤ old + 1 + (if is_scored all page_size reserved then n / 256 else 0)) len_is
    (subst (λ (m : ℕ). now ≤ m + 1 + (if is_scored all page_size reserved then len / 256 else 0)) steady (of_all (sym len_is)))
