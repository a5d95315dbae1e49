-- A part of some bytes, one place after another.
use Rattle.std.proofs.Common.{◌≡◌, refl, sym, ap, ◌∙◌, arith, ℕ, ◌+◌, ◌-◌, ◌<◌, Bool, true, false, ◌||◌, List, length, length-drop, take, drop, add-one, drop-cons}
use Rattle.std.proofs.lemmas.List.{take_all}
use Rattle.create_reader.specs.Columns.{begins, holds}

holds_at : (part bytes : List ℕ) (i : ℕ) → i < length bytes
    → holds part (drop i bytes) ≡ (begins part (drop i bytes) || holds part (drop (i + 1) bytes))
holds_at part bytes i h = rw (add-one, drop-cons bytes i 0) refl

rest_is : (bytes : List ℕ) (i : ℕ) → take (length bytes - i) (drop i bytes) ≡ drop i bytes
rest_is bytes i = take_all (length bytes - i) (drop i bytes) (simp length-drop (omega arith))

pub holds_next : (part bytes : List ℕ) (i : ℕ) (b : Bool) → i < length bytes
    → b ≡ begins part (take (length bytes - i) (drop i bytes)) → b ≡ false
    → holds part (drop (i + 1) bytes) ≡ holds part (drop i bytes)
holds_next part bytes i b h e off =
    let fails : begins part (drop i bytes) ≡ false = ap (begins part) (sym (rest_is bytes i)) ∙ (sym e ∙ off) in
    sym (holds_at part bytes i h ∙ ap (λ z. z || holds part (drop (i + 1) bytes)) fails)

pub holds_here : (part bytes : List ℕ) (i : ℕ) (b : Bool) → i < length bytes
    → b ≡ begins part (take (length bytes - i) (drop i bytes)) → b ≡ true → holds part (drop i bytes) ≡ true
holds_here part bytes i b h e on =
    let here : begins part (drop i bytes) ≡ true = ap (begins part) (sym (rest_is bytes i)) ∙ (sym e ∙ on) in
    holds_at part bytes i h ∙ ap (λ z. z || holds part (drop (i + 1) bytes)) here
