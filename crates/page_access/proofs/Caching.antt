-- What a cache of pages is after a pair was promoted or put first.
use Rattle.std.proofs.Common.{◌≡◌, ◌≢◌, ◌⊎◌, inl, inr, ℕ, suc, ◌-◌, ◌<◌, ◌≤◌, Bool, true, false, nat_eq, Option, Some, None, List, [], ◌∷◌, length, map, take, refl, sym, ◌∙◌, ap, subst, arith, Vec, Global}
use Rattle.std.specs.Prelude.{is_some, Err, IfSome, IsTrue, Ok, OnErr, OnOk, Result}
use Rattle.std.specs.List.{AllByRecursion, IsDistinct}
use Rattle.std.specs.Map.{keys_of, lookup, remove_entry}
use Rattle.std.specs.Option.{option_map}
use Rattle.std.proofs.lemmas.Bool.Decides.{eqb_tells}
use Rattle.lru.specs.LruCache.{IsValid, LruCache, lru_cache, promoted}
use Rattle.page_access.specs.declared.geometry.Geometry.{Geometry}
use Rattle.page_access.specs.declared.caches.PageCache.TheInside.{Inside}
use Rattle.page_access.specs.Cache.{ArePairs, Cache, HasAll, HoldsPages, IsCacheOf, IsSame, added, found, used}
use Rattle.page_access.specs.CacheStored.{IsSound, cache_of, shown}
use Rattle.page_access.specs.Pages.{page_of}
use Rattle.page_access.proofs.Pairs.{all_removed, all_taken, lookup_all, lookup_first, lookup_other, promoted_none, shown_keys, shown_lookup, shown_promoted, shown_taken}

-- the same cache with other pairs
abbrev pub with_pairs : Inside → LruCache ℕ (Vec ℕ Global) → Inside
with_pairs s pairs = record { geo = s.geo; alloc = s.alloc; pairs = pairs }

-- promoted pairs are those that were there
promoted_all : (P : ℕ × List ℕ → Type 0) (p : ℕ) (es : List (ℕ × Vec ℕ Global)) → AllByRecursion P (shown es) → AllByRecursion P (shown (promoted (nat_eq p) es))
promoted_all P p es all = by_lookup (lookup (nat_eq p) es) refl
  where
    by_lookup : (o : Option (Vec ℕ Global)) → lookup (nat_eq p) es ≡ o → AllByRecursion P (shown (promoted (nat_eq p) es))
    by_lookup None h = subst (λ (xs : List (ℕ × Vec ℕ Global)). AllByRecursion P (shown xs)) (sym (promoted_none p es h)) all
    by_lookup (Some v) h =
        let there : lookup (nat_eq p) (shown es) ≡ Some v.items = shown_lookup p es ∙ ap (option_map (λ (w : Vec ℕ Global). w.items)) h in
        subst (AllByRecursion P) (sym (shown_promoted p v es h))
        (lookup_all P p v.items (shown es) all there, all_removed P p (shown es) all)

sound_if : (s : Inside) (new : LruCache ℕ (Vec ℕ Global)) → IsSound s → IsValid nat_eq new → new.cap ≡ s.pairs.cap
    → AllByRecursion (λ (e : ℕ × List ℕ). (1 ≤ e.0) × (e.0 ≤ s.geo.pages)) (shown new.entries)
    → AllByRecursion (λ (e : ℕ × List ℕ). length e.1 ≡ s.geo.page_size) (shown new.entries)
    → IsSound (with_pairs s new)
sound_if s new sound valid cap pages whole = record {
  some = valid.2;
  pairs = record {
    distinct = subst (IsDistinct nat_eq) (sym (shown_keys new.entries)) valid.0;
    few = omega (arith, valid.1, length-shown new.entries);
    pages = pages;
    whole = whole;
  };
}
  where
    length-shown : (es : List (ℕ × Vec ℕ Global)) → length (shown es) ≡ length es
    length-shown [] = refl
    length-shown (e ∷ es) = ap (λ (n : ℕ). suc n) (length-shown es)

pub sound_promoted : (s : Inside) (p : ℕ) (new : LruCache ℕ (Vec ℕ Global)) → IsSound s → new ≡ lru_cache (promoted (nat_eq p) s.pairs.entries) s.pairs.cap
    → IsValid nat_eq new → IsSound (with_pairs s new)
sound_promoted s p new sound is valid =
    sound_if s new sound valid (ap (λ (c : LruCache ℕ (Vec ℕ Global)). c.cap) is)
    (subst (λ (c : LruCache ℕ (Vec ℕ Global)). AllByRecursion (λ (e : ℕ × List ℕ). (1 ≤ e.0) × (e.0 ≤ s.geo.pages)) (shown c.entries)) (sym is)
    (promoted_all _ p s.pairs.entries sound.pairs.pages))
    (subst (λ (c : LruCache ℕ (Vec ℕ Global)). AllByRecursion (λ (e : ℕ × List ℕ). length e.1 ≡ s.geo.page_size) (shown c.entries)) (sym is)
    (promoted_all _ p s.pairs.entries sound.pairs.whole))

pub sound_added : (s : Inside) (p : ℕ) (v : Vec ℕ Global) (new : LruCache ℕ (Vec ℕ Global)) → IsSound s
    → new ≡ lru_cache ((p, v) ∷ take (s.pairs.cap - 1) s.pairs.entries) s.pairs.cap
    → IsValid nat_eq new → 1 ≤ p → p ≤ s.geo.pages → length v.items ≡ s.geo.page_size → IsSound (with_pairs s new)
sound_added s p v new sound is valid low high whole =
    sound_if s new sound valid (ap (λ (c : LruCache ℕ (Vec ℕ Global)). c.cap) is)
    (subst (λ (c : LruCache ℕ (Vec ℕ Global)). AllByRecursion (λ (e : ℕ × List ℕ). (1 ≤ e.0) × (e.0 ≤ s.geo.pages)) (shown c.entries)) (sym is)
    ((low, high), taken _ sound.pairs.pages))
    (subst (λ (c : LruCache ℕ (Vec ℕ Global)). AllByRecursion (λ (e : ℕ × List ℕ). length e.1 ≡ s.geo.page_size) (shown c.entries)) (sym is)
    (whole, taken _ sound.pairs.whole))
  where
    taken : (P : ℕ × List ℕ → Type 0) → AllByRecursion P (shown s.pairs.entries) → AllByRecursion P (shown (take (s.pairs.cap - 1) s.pairs.entries))
    taken P all = subst (AllByRecursion P) (sym (shown_taken (s.pairs.cap - 1) s.pairs.entries)) (all_taken P (s.pairs.cap - 1) (shown s.pairs.entries) all)

-- what was copied is a value that was found
record Copied (es : List (ℕ × Vec ℕ Global)) (p : ℕ) (to : List ℕ) : Type 0 where
  value : Vec ℕ Global
  found_is : lookup (nat_eq p) es ≡ Some value
  bytes_are : to ≡ value.items

copied : (es : List (ℕ × Vec ℕ Global)) (p : ℕ) (to : List ℕ) (hit : Bool) → hit ≡ is_some (lookup (nat_eq p) es)
    → (hit ≡ true → IfSome (lookup (nat_eq p) es) (λ v. to ≡ v.items)) → hit ≡ true → Copied es p to
copied es p to hit found_so bytes there = by_lookup (lookup (nat_eq p) es) refl (sym found_so ∙ there) (bytes there)
  where
    by_lookup : (o : Option (Vec ℕ Global)) → lookup (nat_eq p) es ≡ o → is_some o ≡ true → IfSome o (λ v. to ≡ v.items) → Copied es p to
    by_lookup None h e same = absurd (cc)
    by_lookup (Some v) h e same = record { value = v; found_is = h; bytes_are = same }

pub hit_found : (s : Inside) (p : ℕ) (to : List ℕ) (hit : Bool) → hit ≡ is_some (lookup (nat_eq p) s.pairs.entries)
    → (hit ≡ true → IfSome (lookup (nat_eq p) s.pairs.entries) (λ v. to ≡ v.items)) → hit ≡ true → found p (cache_of s) ≡ Some to
hit_found s p to hit found_so bytes there =
    let c = copied s.pairs.entries p to hit found_so bytes there in
    shown_lookup p s.pairs.entries ∙ ap (option_map (λ (w : Vec ℕ Global). w.items)) c.found_is ∙ ap (λ (xs : List ℕ). Some xs) (sym c.bytes_are)

pub hit_used : (s : Inside) (p : ℕ) (to : List ℕ) (hit : Bool) (new : LruCache ℕ (Vec ℕ Global)) → hit ≡ is_some (lookup (nat_eq p) s.pairs.entries)
    → (hit ≡ true → IfSome (lookup (nat_eq p) s.pairs.entries) (λ v. to ≡ v.items)) → new ≡ lru_cache (promoted (nat_eq p) s.pairs.entries) s.pairs.cap
    → hit ≡ true → cache_of (with_pairs s new) ≡ used p to (cache_of s)
hit_used s p to hit new found_so bytes is there =
    let c = copied s.pairs.entries p to hit found_so bytes there in
    ap (λ (x : LruCache ℕ (Vec ℕ Global)). cache_of (with_pairs s x)) is
    ∙ ap (λ (xs : List (ℕ × List ℕ)). record (cache_of s) { pairs = xs })
    (shown_promoted p c.value s.pairs.entries c.found_is ∙ ap (λ (xs : List ℕ). (p, xs) ∷ remove_entry (nat_eq p) (shown s.pairs.entries)) (sym c.bytes_are))

pub miss_same : (s : Inside) (p : ℕ) (hit : Bool) (new : LruCache ℕ (Vec ℕ Global)) → hit ≡ is_some (lookup (nat_eq p) s.pairs.entries)
    → new ≡ lru_cache (promoted (nat_eq p) s.pairs.entries) s.pairs.cap → hit ≡ false → cache_of (with_pairs s new) ≡ cache_of s
miss_same s p hit new found_so is missed =
    ap (λ (x : LruCache ℕ (Vec ℕ Global)). cache_of (with_pairs s x)) is
    ∙ ap (λ (xs : List (ℕ × Vec ℕ Global)). record (cache_of s) { pairs = shown xs })
    (promoted_none p s.pairs.entries (by_lookup (lookup (nat_eq p) s.pairs.entries) (sym found_so ∙ missed)))
  where
    by_lookup : (o : Option (Vec ℕ Global)) → is_some o ≡ false → o ≡ None
    by_lookup None e = refl
    by_lookup (Some v) e = absurd (cc)

pub not_found : (s : Inside) (p : ℕ) → found p (cache_of s) ≡ None → lookup (nat_eq p) s.pairs.entries ≡ None
not_found s p none = by_lookup (lookup (nat_eq p) s.pairs.entries) (sym (shown_lookup p s.pairs.entries) ∙ none)
  where
    by_lookup : (o : Option (Vec ℕ Global)) → option_map (λ (w : Vec ℕ Global). w.items) o ≡ None → o ≡ None
    by_lookup None e = refl
    by_lookup (Some v) e = absurd (cc)

pub added_is : (s : Inside) (p : ℕ) (to : List ℕ) (v : Vec ℕ Global) (new : LruCache ℕ (Vec ℕ Global))
    → new ≡ lru_cache ((p, v) ∷ take (s.pairs.cap - 1) s.pairs.entries) s.pairs.cap → v.items ≡ to
    → cache_of (with_pairs s new) ≡ added p to (cache_of s)
added_is s p to v new is bytes =
    ap (λ (x : LruCache ℕ (Vec ℕ Global)). cache_of (with_pairs s x)) is
    ∙ ap (λ (xs : List (ℕ × List ℕ)). record (cache_of s) { pairs = (p, v.items) ∷ xs }) (shown_taken (s.pairs.cap - 1) s.pairs.entries)
    ∙ ap (λ (xs : List ℕ). record (cache_of s) { pairs = (p, xs) ∷ take (s.pairs.cap - 1) (shown s.pairs.entries) }) bytes

-- what is told of the pairs after a hit
pub holds_used : (all : List ℕ) (p : ℕ) (to : List ℕ) (c : Cache) → HoldsPages all c → found p c ≡ Some to → HoldsPages all (used p to c)
holds_used all p to c holds there =
    (lookup_all (λ (e : ℕ × List ℕ). e.1 ≡ page_of all c.size e.0) p to c.pairs holds there, all_removed _ p c.pairs holds)

pub page_found : (all : List ℕ) (p : ℕ) (to : List ℕ) (c : Cache) → HoldsPages all c → found p c ≡ Some to → to ≡ page_of all c.size p
page_found all p to c holds there = lookup_all (λ (e : ℕ × List ℕ). e.1 ≡ page_of all c.size e.0) p to c.pairs holds there

-- and after a miss
pub holds_added : (all : List ℕ) (p : ℕ) (to : List ℕ) (c : Cache) → HoldsPages all c → to ≡ page_of all c.size p → HoldsPages all (added p to c)
holds_added all p to c holds is = (is, all_taken _ (c.slots - 1) c.pairs holds)

-- a hit takes no page away
pub has_all_used : (p : ℕ) (to : List ℕ) (c : Cache) → HasAll c → HasAll (used p to c)
has_all_used p to c all q low high =
    elim (eqb_tells q p) [
      | inl w ↦ subst (λ (x : ℕ). IsTrue (is_some (found x (used p to c)))) (sym w.1) (subst (λ (o : Option (List ℕ)). IsTrue (is_some o)) (sym (lookup_first p to _)) refl)
      | inr w ↦ subst (λ (o : Option (List ℕ)). IsTrue (is_some o)) (sym (lookup_other q p to c.pairs w.1)) (all q low high)
    ]

-- each stored vector has the bytes of a page
pub pairs_whole : (s : Inside) (n : ℕ) → IsSound s → n ≡ s.geo.page_size → AllByRecursion (λ (e : ℕ × Vec ℕ Global). length e.1.items ≡ n) s.pairs.entries
pairs_whole s n sound is = by_pairs s.pairs.entries sound.pairs.whole
  where
    by_pairs : (es : List (ℕ × Vec ℕ Global)) → AllByRecursion (λ (e : ℕ × List ℕ). length e.1 ≡ s.geo.page_size) (shown es)
        → AllByRecursion (λ (e : ℕ × Vec ℕ Global). length e.1.items ≡ n) es
    by_pairs [] all = tt
    by_pairs (e ∷ es) all = (all.0 ∙ sym is, by_pairs es all.1)

-- what is told after a hit, where the pairs were told
pub hit_told : (told : Option (List ℕ)) (p : ℕ) (to : List ℕ) (c new : Cache) → IfSome told (λ all. HoldsPages all c) → found p c ≡ Some to → new ≡ used p to c
    → IfSome told (λ all. to ≡ page_of all c.size p) × IfSome told (λ all. HoldsPages all new)
hit_told None p to c new holds there is = (tt, tt)
hit_told (Some all) p to c new holds there is =
    (page_found all p to c holds there, subst (HoldsPages all) (sym is) (holds_used all p to c holds there))

-- and after a miss: the page is told, or nothing changed
pub miss_told : {E : Type 0} (r : Result Unit E) (told : Option (List ℕ)) (p : ℕ) (to : List ℕ) (c new : Cache) → IfSome told (λ all. HoldsPages all c)
    → OnOk r (IfSome told (λ all. to ≡ page_of all c.size p)) → OnOk r (new ≡ added p to c) → OnErr r (new ≡ c)
    → IfSome told (λ all. HoldsPages all new)
miss_told r None p to c new holds page ok err = tt
miss_told (Ok u) (Some all) p to c new holds page ok err = subst (HoldsPages all) (sym ok) (holds_added all p to c holds page)
miss_told (Err e) (Some all) p to c new holds page ok err = subst (HoldsPages all) (sym err) holds

-- a cache for the file is one still
pub cached_same : {told : Option (List ℕ)} {geo : Geometry} {c c' : Cache} → IsCacheOf told geo c → IsSame c c' → IfSome told (λ all. HoldsPages all c')
    → IsCacheOf told geo c'
cached_same was same holds = record { size = same.size ∙ was.size; pages = same.pages ∙ was.pages; holds = holds }

-- it is one for what a source tells at another moment
pub cached_at : {told told' : Option (List ℕ)} {geo : Geometry} {c : Cache} → told' ≡ told → IsCacheOf told geo c → IsCacheOf told' geo c
cached_at {geo = geo} {c} same was = subst (λ (o : Option (List ℕ)). IsCacheOf o geo c) (sym same) was

-- an empty cache is one for any file that is cut so
pub new_cached : {told : Option (List ℕ)} {geo : Geometry} {c : Cache} {slots : ℕ} → c ≡ record { size = geo.page_size; pages = geo.pages; slots = slots; pairs = [] }
    → IsCacheOf told geo c
new_cached {told} {geo} {c} {slots} is =
    subst (IsCacheOf told geo) (sym is) (record { size = refl; pages = refl; holds = none told })
  where
    none : (o : Option (List ℕ)) → IfSome o (λ all. HoldsPages all (record { size = geo.page_size; pages = geo.pages; slots = slots; pairs = [] }))
    none None = tt
    none (Some all) = tt
