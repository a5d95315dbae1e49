-- Listings page by page, where the source tells its bytes.
use Rattle.std.proofs.Common.{◌≡◌, inl, map, ◌∙◌, ap, arith, ℕ, suc, ◌+◌, ◌-◌, ◌<◌, ◌≤◌, List, [], ◌++◌, Option, Some, None, Result, Ok, Err, IsErr, IsErrAnd, IsErrOf, sym, subst}
use Rattle.std.specs.Prelude.{IfSome}
use Rattle.page_access.specs.Files.{file_of}
use Rattle.page_access.specs.Outside.{GainsPrefix, Writes, WritesOf}
use Rattle.page_access.specs.declared.geometry.Geometry.{Geometry}
use Rattle.page_walk.specs.Cells.{outcome_of, outcomes_on}
use Rattle.page_walk.specs.declared.outcomes.CellOutcome.{CellOutcome}
use Rattle.dbdata_list.specs.declared.faults.ListFault.{ListFault}
use Rattle.dbdata_list.specs.Text.{outcomes_text, page_text}
use Rattle.page_access.specs.declared.outside.ReadFault.{ReadFault}
use Rattle.page_access.specs.declared.outside.ReadFault.TheVariants as reads
use Rattle.dbdata_list.specs.declared.faults.ListFault.TheVariants.{Sink}
use Rattle.dbdata_list.specs.Faults.{of_read}
use Rattle.dbdata_list.specs.Listing.{page_data, pages_text}
use Rattle.page_access.proofs.Gains.{WroteFront, front_as, front_end_of, front_left, front_out_from, front_start, front_step_of}

-- of the text that the told bytes give, a front is written and a rest is still to come
abbrev pub ToldFront : Option (List ℕ) → Option (List ℕ) → Option (List ℕ) → ℕ → ℕ → (List ℕ → List ℕ) → (List ℕ → List ℕ) → Type 0
ToldFront told old now before count rest all = IfSome told (λ bytes. WroteFront old now before count (rest bytes) (all bytes))

pub told_start : (told old : Option (List ℕ)) (before : ℕ) (rest all : List ℕ → List ℕ) → ((bytes : List ℕ) → all bytes ≡ rest bytes) → ToldFront told old old before before rest all
told_start None old before rest all same = tt
told_start (Some bytes) old before rest all same = front_as (same bytes) (front_start old before (all bytes))

-- one more page is listed
pub told_step : {T E : Type 0} (x : T) (fault : E) (told told' old now new : Option (List ℕ)) (f g h : ℕ) (rest piece next all : List ℕ → List ℕ) →
    told' ≡ told → ((bytes : List ℕ) → rest bytes ≡ piece bytes ++ next bytes) → ToldFront told old now f g rest all
    → IfSome told' (λ bytes. WritesOf {T = T} fault now new g h (piece bytes) (Ok x)) → ToldFront told old new f h next all
told_step x fault None told' old now new f g h rest piece next all same parts w written = tt
told_step {T = T} x fault (Some bytes) told' old now new f g h rest piece next all same parts w written =
    let one : WritesOf {T = T} fault now new g h (piece bytes) (Ok x) =
    subst (λ o. IfSome o (λ b. WritesOf {T = T} fault now new g h (piece b) (Ok x))) same written in
    front_step_of (next bytes) (front_as (parts bytes) w) one

-- listing a page failed
pub told_out : (T : Type 0) {E T' E' : Type 0} (e inner : E) (r : Result T' E') (fault : E') (told told' old now new : Option (List ℕ)) (f g h : ℕ) (rest piece next all : List ℕ → List ℕ) →
    IsErr r → (IsErrOf r fault → e ≡ inner) → (e ≡ inner → IsErrOf r fault) → told' ≡ told → ((bytes : List ℕ) → rest bytes ≡ piece bytes ++ next bytes) → ToldFront told old now f g rest all
    → IfSome told' (λ bytes. WritesOf {T = T} inner now new g h (piece bytes) (Err e)) → IfSome told (λ bytes. WritesOf fault old new f h (all bytes) r)
told_out T e inner r fault None told' old now new f g h rest piece next all is from back same parts w written = tt
told_out T e inner r fault (Some bytes) told' old now new f g h rest piece next all is from back same parts w written =
    let one : WritesOf {T = T} inner now new g h (piece bytes) (Err e) =
    subst (λ o. IfSome o (λ b. WritesOf {T = T} inner now new g h (piece b) (Err e))) same written in
    front_out_from fault (next bytes) is from back (front_as (parts bytes) w) one

-- all pages are listed
pub told_end : {T E : Type 0} (x : T) (fault : E) (told old now : Option (List ℕ)) (f g : ℕ) (rest all : List ℕ → List ℕ) →
    ((bytes : List ℕ) → rest bytes ≡ []) → ToldFront told old now f g rest all → IfSome told (λ bytes. WritesOf {T = T} fault old now f g (all bytes) (Ok x))
told_end x fault None old now f g rest all none w = tt
told_end x fault (Some bytes) old now f g rest all none w = front_end_of fault (front_as (none bytes) w)

-- the pages of a listing: from the first one on, from a later one on, and none
pub pages_all : (text : ℕ → List ℕ) (n : ℕ) → pages_text text n 1 ≡ pages_text text (n - 0) 1
pages_all text n = let e : n ≡ n - 0 = omega arith in ap (λ m. pages_text text m 1) e

pub pages_more : (text : ℕ → List ℕ) (n i : ℕ) → i < n → pages_text text (n - i) (i + 1) ≡ text (i + 1) ++ pages_text text (n - (i + 1)) (i + 1 + 1)
pages_more text n i lt = let e : n - i ≡ suc (n - (i + 1)) = omega arith in ap (λ m. pages_text text m (i + 1)) e

pub pages_none : (text : ℕ → List ℕ) (n i p : ℕ) → n ≤ i → pages_text text (n - i) p ≡ []
pages_none text n i p le = let e : n - i ≡ 0 = omega arith in ap (λ m. pages_text text m p) e

-- an error that `?` passes on as it is
pub passed_on : {T E : Type 0} (r : Result T E) (e fault : E) → IsErrAnd r (λ x. x ≡ e) → IsErrOf r fault → e ≡ fault
passed_on (Ok x) e fault h is = absurd h
passed_on (Err x) e fault h is = let same : x ≡ e = h in cc

-- and one that is passed on is the answer
pub passed_back : {T E : Type 0} (r : Result T E) (e fault : E) → IsErrAnd r (λ x. x ≡ e) → e ≡ fault → IsErrOf r fault
passed_back (Ok x) e fault h is = absurd h
passed_back (Err x) e fault h is = let same : x ≡ e = h in cc

-- the rest in other words: by the unused pages that a page left
pub told_with : (told told' old now : Option (List ℕ)) (f g : ℕ) (text : List ℕ → List ℕ → List ℕ) (wanted : List ℕ → List ℕ) (left : List ℕ) (all : List ℕ → List ℕ)
    → told' ≡ told → IfSome told' (λ bytes. left ≡ wanted bytes) → ToldFront told old now f g (λ bytes. text bytes (wanted bytes)) all
    → ToldFront told old now f g (λ bytes. text bytes left) all
told_with None told' old now f g text wanted left all same e w = tt
told_with (Some bytes) told' old now f g text wanted left all same e w =
    let one : left ≡ wanted bytes = subst (λ (o : Option (List ℕ)). IfSome o (λ b. left ≡ wanted b)) same e in
    front_as (ap (text bytes) (sym one)) w

-- an error that is not the sink's, before anything is put
pub told_left : {T E : Type 0} (r : Result T E) (fault : E) (told old : Option (List ℕ)) (f : ℕ) (all : List ℕ → List ℕ) → IsErr r → (IsErrOf r fault → ⊥)
    → IfSome told (λ bytes. WritesOf fault old old f f (all bytes) r)
told_left r fault None old f all is other = tt
told_left r fault (Some bytes) old f all is other = front_left fault is other (front_start old f (all bytes))

-- no fault of a read is the sink's
pub read_is_not_sink : (fault : ReadFault) → of_read fault ≡ Sink → ⊥
read_is_not_sink reads.Source e = cc
read_is_not_sink reads.Memory e = cc

-- a text was put in part: it is the one that the told bytes give
pub put_failed : {T T' E : Type 0} (e : E) (r : Result T' ListFault) (told old new : Option (List ℕ)) (f g : ℕ) (text : List ℕ) (all : List ℕ → List ℕ) →
    IsErr r → IsErrOf r Sink → IfSome told (λ bytes. text ≡ all bytes) → Writes {T = T} {E = E} old new f g text (Err e)
    → IfSome told (λ bytes. WritesOf Sink old new f g (all bytes) r)
put_failed e (Ok x) told old new f g text all is of same w = absurd cc
put_failed e (Err x) None old new f g text all is of same w = tt
put_failed e (Err x) (Some bytes) old new f g text all is of same w = record {
  later = w.later;
  ok = tt;
  err = subst (λ (t : List ℕ). GainsPrefix old new t) same w.err;
  failed = λ _. w.failed;
  steady = inl of;
}

-- what was read of a page are its lines
pub cells_told : (told : Option (List ℕ)) (geo : Geometry) (page : ℕ) (unused : List ℕ) (none cells shown : List CellOutcome) → none ≡ [] → shown ≡ cells
    → IfSome told (λ all. map outcome_of cells ≡ map outcome_of none ++ outcomes_on (file_of all geo) page unused)
    → IfSome told (λ all. outcomes_text (page_text page) (map outcome_of shown) ≡ page_data (file_of all geo) page unused)
cells_told None geo page unused none cells shown empty same value = tt
cells_told (Some all) geo page unused none cells shown empty same value =
    ap (λ (os : List CellOutcome). outcomes_text (page_text page) (map outcome_of os)) same
    ∙ ap (outcomes_text (page_text page)) (value ∙ ap (λ (os : List CellOutcome). map outcome_of os ++ outcomes_on (file_of all geo) page unused) empty)
