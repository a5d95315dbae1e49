-- The varints of a header, one after another.
use Rattle.std.proofs.Common.{◌≡◌, ◌<◌, ◌≤◌, ℕ, zero, suc, ◌+◌, List, [], ◌∷◌, ◌++◌, length, drop, Option, Some, None, refl, sym, ap, ◌∙◌, arith, option_map, length-drop, drop-drop, append_assoc, append-nil, length-append}
use Rattle.varint_core.specs.Varint.{varint_at}
use Rattle.record_core.specs.Record.{varints_in, types_in}

-- what the first varint leaves to the others
pub record Follows (fuel : ℕ) (bytes : List ℕ) (t n : ℕ) : Type 0 where
  pub left : ℕ
  pub enough : length (drop n bytes) ≤ left
  pub all : varints_in fuel bytes ≡ option_map (λ ts. t ∷ ts) (varints_in left (drop n bytes))

-- the varints are the first one and those of the bytes after it
pub first_type : (fuel : ℕ) (bytes : List ℕ) (t n : ℕ) → 0 < length bytes → length bytes ≤ fuel → varint_at bytes ≡ Some (t, n) → 1 ≤ n → Follows fuel bytes t n
first_type fuel [] t n some enough e one = absurd (omega arith)
first_type zero (b ∷ bs) t n some enough e one = absurd (omega arith)
first_type (suc fuel) (b ∷ bs) t n some enough e one =
    record { left = fuel; enough = omega (arith, length-drop n (b ∷ bs)); all = rw e refl }

-- bytes that end inside a varint hold no row of varints
pub no_type : (fuel : ℕ) (bytes : List ℕ) → 0 < length bytes → varint_at bytes ≡ None → varints_in fuel bytes ≡ None
no_type fuel [] some e = absurd (omega arith)
no_type zero (b ∷ bs) some e = refl
no_type (suc fuel) (b ∷ bs) some e = rw e refl

-- no bytes hold no varint
pub no_bytes : (fuel : ℕ) (bytes : List ℕ) → length bytes ≡ 0 → varints_in fuel bytes ≡ Some []
no_bytes fuel [] e = refl
no_bytes fuel (b ∷ bs) e = absurd (omega arith)

-- the varints before a place, and those from it on, are all
pub record Split (bytes : List ℕ) (at : ℕ) (done : List ℕ) (fuel : ℕ) : Type 0 where
  pub there : at ≤ length bytes
  pub few : length done ≤ at
  pub enough : length (drop at bytes) ≤ fuel
  pub all : types_in bytes ≡ option_map (λ ts. done ++ ts) (varints_in fuel (drop at bytes))

-- a row of numbers in two parts
with_both : (done : List ℕ) (t : ℕ) (read : Option (List ℕ)) → option_map (λ ts. done ++ ts) (option_map (λ ts. t ∷ ts) read) ≡ option_map (λ ts. (done ++ t ∷ []) ++ ts) read
with_both done t None = refl
with_both done t (Some ts) = ap Some (sym (append_assoc done (t ∷ []) ts))

with_none : (read : Option (List ℕ)) → read ≡ option_map (λ ts. [] ++ ts) read
with_none None = refl
with_none (Some ts) = refl

pub split_start : (bytes : List ℕ) → Split bytes 0 [] (length bytes)
split_start bytes = record { there = omega arith; few = omega arith; enough = omega arith; all = with_none (types_in bytes) }

-- the place moves over one varint
pub split_next : (bytes : List ℕ) (at : ℕ) (done : List ℕ) (fuel t n : ℕ) → Split bytes at done fuel → at < length bytes → varint_at (drop at bytes) ≡ Some (t, n) → 1 ≤ n → at + n ≤ length bytes → (left : ℕ) × Split bytes (at + n) (done ++ t ∷ []) left
split_next bytes at done fuel t n s some e one fits =
    let f = first_type fuel (drop at bytes) t n (omega (arith, length-drop at bytes)) s.enough e one in
    let on : drop n (drop at bytes) ≡ drop (at + n) bytes = drop-drop n at bytes in (
      f.left,
      record {
        there = fits;
        few = omega (arith, s.few, length-append done (t ∷ []));
        enough = rw (← on) f.enough;
        all = s.all ∙ ap (option_map (λ ts. done ++ ts)) f.all ∙ with_both done t (varints_in f.left (drop n (drop at bytes))) ∙ ap (λ b. option_map (λ ts. (done ++ t ∷ []) ++ ts) (varints_in f.left b)) on;
      },
    )

-- no varint is left
pub split_end : (bytes : List ℕ) (at : ℕ) (done : List ℕ) (fuel : ℕ) → Split bytes at done fuel → length bytes ≤ at → types_in bytes ≡ Some done
split_end bytes at done fuel s past =
    s.all ∙ ap (option_map (λ ts. done ++ ts)) (no_bytes fuel (drop at bytes) (omega (arith, length-drop at bytes))) ∙ ap Some (append-nil done)

-- a varint does not end
pub split_cut : (bytes : List ℕ) (at : ℕ) (done : List ℕ) (fuel : ℕ) → Split bytes at done fuel → at < length bytes → varint_at (drop at bytes) ≡ None → types_in bytes ≡ None
split_cut bytes at done fuel s some e =
    s.all ∙ ap (option_map (λ ts. done ++ ts)) (no_type fuel (drop at bytes) (omega (arith, length-drop at bytes)) e)
