-- The loop that notes the kind of each page: the pages that it has passed.
use Rattle.std.proofs.Common.{◌≡◌, ◌<◌, ◌≤◌, ℕ, ◌+◌, Option, List, [], ◌∷◌, ◌++◌, length, map, sym, ◌∙◌, ap, arith, length-append}
use Rattle.std.proofs.lemmas.List.FromFn.{map-range_with_len_more}
use Rattle.std.specs.List.{range_with_len}
use Rattle.std.specs.Prelude.{option_map, IfSome}
use Rattle.std.proofs.lemmas.Option.{IfSome_then}
use Rattle.page_access.specs.declared.geometry.Geometry.{Geometry}
use Rattle.page_access.specs.Files.{IsWhole, file_of}
use Rattle.page_access.specs.Outside.{KeepsSource}
use Rattle.page_access.specs.Pages.{page_of}
use Rattle.page_access.proofs.Keeps.{Passed, passed_more}
use Rattle.page_access.proofs.Told.{both_told}
use Rattle.cell_reader.specs.declared.shapes.Kind.{Kind}
use Rattle.cell_reader.specs.declared.shapes.PageShape.{PageShape}
use Rattle.cell_reader.specs.Shape.{shape_of}
use Rattle.page_walk.specs.Walk.{kind_on, kinds_of}

-- what the loop keeps: the kinds of the first i pages are noted, with one read for each
pub record Surveying {S : Type 0} (told attached : S → Option (List ℕ)) (faults reads : S → ℕ) (geo : Geometry)
    (src0 src : S) (kinds : List (Option Kind)) (i : ℕ) : Type 0 where
  pub kept : Passed told attached faults reads src0 src
  pub len : length kinds ≡ i
  pub read : IfSome (told src0) (λ all. IsWhole all geo → reads src ≤ reads src0 + i)
  pub noted : IfSome (told src0) (λ all. kinds ≡ map (kind_on (file_of all geo)) (range_with_len 1 i))

-- the kind of one more page is noted
pub surveying_more : {S : Type 0} {told attached : S → Option (List ℕ)} {faults reads : S → ℕ} {geo : Geometry}
    {src0 src : S} {kinds : List (Option Kind)} {i : ℕ} (src' : S) (buffer : List ℕ) (kind : Option Kind) (kinds' : List (Option Kind))
    → Surveying told attached faults reads geo src0 src kinds i → i < geo.pages
    → IfSome (told src) (λ all. buffer ≡ page_of all geo.page_size (i + 1))
    → KeepsSource told attached faults reads src src' → faults src' ≡ faults src
    → IfSome (told src) (λ all. IsWhole all geo → reads src' ≤ reads src + 1)
    → kind ≡ option_map (λ (s : PageShape). s.kind) (shape_of buffer (i + 1) geo.usable) → kinds' ≡ kinds ++ kind ∷ []
    → Surveying told attached faults reads geo src0 src' kinds' (i + 1)
surveying_more {told = told} {reads = reads} {geo = geo} {src0} {src} {kinds} {i} src' buffer kind kinds' was lt page kept steady read is pushed =
    record {
      kept = passed_more was.kept kept steady;
      len = omega (arith, ap length pushed, length-append kinds (kind ∷ []), was.len);
      read = both_told (λ all. IsWhole all geo → reads src ≤ reads src0 + i)
          (λ all. IsWhole all geo → reads src' ≤ reads src + 1)
          (λ all. IsWhole all geo → reads src' ≤ reads src0 + (i + 1)) (told src0) (told src) was.kept.told
          (λ all p q whole. omega (arith, p whole, q whole)) was.read read;
      noted = both_told (λ all. kinds ≡ map (kind_on (file_of all geo)) (range_with_len 1 i))
          (λ all. buffer ≡ page_of all geo.page_size (i + 1))
          (λ all. kinds' ≡ map (kind_on (file_of all geo)) (range_with_len 1 (i + 1))) (told src0) (told src) was.kept.told
          (λ all p q.
          let here : kind ≡ kind_on (file_of all geo) (i + 1) =
          is ∙ ap (λ (b : List ℕ). option_map (λ (s : PageShape). s.kind) (shape_of b (i + 1) geo.usable)) q in
          pushed ∙ ap (λ (ks : List (Option Kind)). ks ++ kind ∷ []) p
          ∙ ap (λ (k : Option Kind). map (kind_on (file_of all geo)) (range_with_len 1 i) ++ k ∷ []) here
          ∙ sym (map-range_with_len_more (kind_on (file_of all geo)) 1 i (i + 1) (omega arith)))
          was.noted page;
    }

-- all pages are passed
pub surveying_kinds : {S : Type 0} {told attached : S → Option (List ℕ)} {faults reads : S → ℕ} {geo : Geometry}
    {src0 src : S} {kinds : List (Option Kind)} {i : ℕ} → Surveying told attached faults reads geo src0 src kinds i → i ≡ geo.pages
    → IfSome (told src0) (λ all. kinds ≡ kinds_of (file_of all geo))
unfolding kinds_of
surveying_kinds {told = told} {geo = geo} {src0} {kinds = kinds} {i} was end =
    IfSome_then (told src0) {P = λ all. kinds ≡ map (kind_on (file_of all geo)) (range_with_len 1 i)} {Q = λ all. kinds ≡ kinds_of (file_of all geo)}
    was.noted
    (λ all p. p ∙ ap (λ (n : ℕ). map (kind_on (file_of all geo)) (range_with_len 1 n)) end)
