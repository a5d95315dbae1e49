-- Names in small letters, as a set has them.
use Rattle.std.specs.Prelude.{◌≡◌, ℕ, Bool, List, Vec}
use Rattle.std.specs.declared.alloc.Global.{Global}
use Rattle.std.specs.BTreeSet.{BTreeSet}
use Rattle.std.specs.Cmp.Lexicographic.{slice_cmp}
use Rattle.std.specs.List.{list_any}
use Rattle.std.specs.Ordering.{is_eq, nat_cmp}
use Rattle.std.specs.Str.{bytes_eq, str_to_ascii_lowercase}

-- a set of texts has this one
abbrev pub has_text : List (Vec ℕ Global) → List ℕ → Bool
has_text keys text = list_any (λ k. is_eq (slice_cmp nat_cmp text k.items)) keys

-- it has those that names are in small letters
abbrev pub HasSmall : List (List ℕ) → BTreeSet (Vec ℕ Global) → Type 0
HasSmall names small = (text : List ℕ)
    → has_text small.keys text ≡ list_any (λ name. bytes_eq (str_to_ascii_lowercase name) text) names
