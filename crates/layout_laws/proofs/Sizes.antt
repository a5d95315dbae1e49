-- What holds of the eight page sizes.
use Rattle.std.proofs.Common.{◌≡◌, ◌<◌, ◌≤◌, ℕ, Bool, true, false, ◌||◌, nat_eq, List, [], ◌∷◌, refl, subst, arith}
use Rattle.std.specs.List.{AllByRecursion, list_any}
use Rattle.std.proofs.lemmas.Bool.Decides.{nat_tests}
use Rattle.page_access.specs.Pages.{is_page_size, page_sizes}
use Rattle.db_builder.specs.Layout.{lock_of}

-- what holds of each number of a list holds of one that is in it
each_in : (P : ℕ → Type 0) (size : ℕ) (sizes : List ℕ) → AllByRecursion P sizes → list_any (λ s. nat_eq s size) sizes ≡ true → P size
each_in P size [] all valid = absurd cc
each_in P size (s ∷ sizes) all valid = by (nat_eq s size) refl (each_in P size sizes all.1) valid
  where
    by : (b : Bool) → nat_eq s size ≡ b → (list_any (λ s. nat_eq s size) sizes ≡ true → P size) → (b || list_any (λ s. nat_eq s size) sizes) ≡ true → P size
    by true e more h = subst P (grind (arith, nat_tests)) all.0
    by false e more h = more h

pub of_sizes : (P : ℕ → Type 0) (size : ℕ) → P 512 → P 1024 → P 2048 → P 4096 → P 8192 → P 16384 → P 32768 → P 65536 → is_page_size size ≡ true → P size
of_sizes P size a b c d e f g h valid = each_in P size page_sizes (a, (b, (c, (d, (e, (f, (g, (h, tt)))))))) valid

pub size_least : (size : ℕ) → is_page_size size ≡ true → 512 ≤ size
size_least size valid = of_sizes (λ s. 512 ≤ s) size (omega arith) (omega arith) (omega arith) (omega arith) (omega arith) (omega arith) (omega arith) (omega arith) valid

pub size_most : (size : ℕ) → is_page_size size ≡ true → size ≤ 65536
size_most size valid = of_sizes (λ s. s ≤ 65536) size (omega arith) (omega arith) (omega arith) (omega arith) (omega arith) (omega arith) (omega arith) (omega arith) valid

-- the lock-byte page is none of the first two
pub lock_late : (size : ℕ) → is_page_size size ≡ true → 2 < lock_of size
lock_late size valid = of_sizes (λ s. 2 < lock_of s) size (omega arith) (omega arith) (omega arith) (omega arith) (omega arith) (omega arith) (omega arith) (omega arith) valid
