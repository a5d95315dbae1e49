-- Which cells stand on which page of a level (docs/FORMAT.md, "Layout of a written file").
use Rattle.std.specs.Prelude.{ℕ, ◌-◌, nat_le, if◌then◌else◌, List, [], ◌∷◌, ◌++◌}

-- a level: its pages but the last, each with the cell that separates it from the next, and the last page
pub record Cut (X : Type 0) : Type 0 where
  pub firsts : List (List X × X)
  pub last : List X

abbrev pub cons_cut : {X : Type 0} → List X → X → Cut X → Cut X
cons_cut held x rest = record { firsts = (held, x) ∷ rest.firsts; last = rest.last }

-- a list without its last element, and that element
abbrev pub start_of : {X : Type 0} → X → List X → List X
start_of x [] = []
start_of x (y ∷ ys) = x ∷ start_of y ys

abbrev pub end_of : {X : Type 0} → X → List X → X
end_of x [] = x
end_of x (y ∷ ys) = end_of y ys

-- the last of a list
abbrev pub last_of : {X : Type 0} → X → List X → X
last_of d [] = d
last_of d (x ∷ xs) = end_of x xs

-- the cells of table leaves: a leaf takes cells in order while they fit, and the key of its last cell
-- separates it from the next leaf
abbrev pub leaves : {X : Type 0} → (X → ℕ) → (X → X) → X → ℕ → List X → ℕ → List X → Cut X
leaves need key d room held left [] = record { firsts = []; last = held }
leaves need key d room held left (x ∷ xs) =
    if nat_le (need x) left then leaves need key d room (held ++ x ∷ []) (left - need x) xs
    else cons_cut held (key (last_of d held)) (leaves need key d room (x ∷ []) (room - need x) xs)

-- where the cell that does not fit is the last of all, the page gives up its own last cell as the
-- separator, and the cell forms the last page
abbrev pub give_up : {X : Type 0} → List X → X → Cut X
give_up [] x = record { firsts = []; last = x ∷ [] }
give_up (h ∷ hs) x = record { firsts = (start_of h hs, end_of h hs) ∷ []; last = x ∷ [] }

-- a full page, the cell that does not fit, and what the cells behind it are cut into
abbrev pub past : {X : Type 0} → List X → X → List X → Cut X → Cut X
past held x [] rest = give_up held x
past held x (y ∷ ys) rest = cons_cut held x rest

-- the cells of index leaves and of interior pages: a page takes cells in order while they fit, the cell
-- that does not fit is the separator, and the next page begins behind it
abbrev pub cuts : {X : Type 0} → (X → ℕ) → ℕ → List X → ℕ → List X → Cut X
cuts need room held left [] = record { firsts = []; last = held }
cuts need room held left (x ∷ xs) =
    if nat_le (need x) left then cuts need room (held ++ x ∷ []) (left - need x) xs
    else past held x xs (cuts need room [] room xs)

-- the cells of a level in order, with the separators between
abbrev pub flat_from : {X : Type 0} → List (List X × X) → List X → List X
flat_from [] last = last
flat_from (f ∷ fs) last = f.0 ++ (f.1 ∷ flat_from fs last)

abbrev pub flat : {X : Type 0} → Cut X → List X
flat cut = flat_from cut.firsts cut.last

-- the cells of a level in order, without the separators
abbrev pub joined_from : {X : Type 0} → List (List X × X) → List X → List X
joined_from [] last = last
joined_from (f ∷ fs) last = f.0 ++ joined_from fs last

abbrev pub joined : {X : Type 0} → Cut X → List X
joined cut = joined_from cut.firsts cut.last
