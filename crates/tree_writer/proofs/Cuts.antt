-- What holds of the groups that cells are cut into.
use Rattle.std.proofs.Common.{◌≡◌, ◌<◌, ◌≤◌, ℕ, zero, suc, ◌+◌, ◌-◌, ◌*◌, Bool, true, false, List, [], ◌∷◌, ◌++◌, length, map, nat_le, sum_by, refl, sym, ap, ◌∙◌, subst, arith, append_assoc, append-nil, length-append}
use Rattle.std.specs.Prelude.{if◌then◌else◌}
use Rattle.std.specs.List.{AllByRecursion}
use Rattle.std.proofs.lemmas.Bool.Decides.{nat_tests}
use Rattle.std.proofs.lemmas.List.Sums.{sum_by-append, sum_by-cons}
use Rattle.std.proofs.lemmas.List.{length-map, map-append}
use Rattle.cell_reader.specs.declared.shapes.Kind.{Kind}
use Rattle.tree_writer.specs.declared.sizes.Size.{Size}
use Rattle.tree_writer.specs.declared.groups.Span.{Span}
use Rattle.tree_writer.specs.Cells.{item_overs, need_of, overs, width_of}
use Rattle.tree_writer.specs.Entry.{Item}
use Rattle.tree_writer.specs.Groups.{Cut, cons_cut, cuts, end_of, flat, flat_from, give_up, joined, joined_from, last_of, leaves, past, start_of}
use Rattle.tree_writer.specs.Plan.{item_span, item_spans, need_in, no_key, no_size, overs_in, pages_for, size_item, span_of, spans_from, spans_of}
use Rattle.tree_writer.proofs.Lists.{length_push, sum_push}

pub given : {X : Type 0} (h : X) (hs : List X) → start_of h hs ++ end_of h hs ∷ [] ≡ h ∷ hs
given h [] = refl
given h (x ∷ xs) = ap (λ (t : List _). h ∷ t) (given x xs)

-- ---- the cells in order

flat_past : {X : Type 0} (held : List X) (x : X) (xs : List X) (rest : Cut X) → flat rest ≡ xs → flat (past held x xs rest) ≡ held ++ x ∷ xs
flat_past [] x [] rest e = refl
flat_past (h ∷ hs) x [] rest e =
    sym (append_assoc (start_of h hs) (end_of h hs ∷ []) (x ∷ [])) ∙ ap (λ (t : List _). t ++ x ∷ []) (given h hs)
flat_past held x (y ∷ ys) rest e = ap (λ (t : List _). held ++ (x ∷ t)) e

flat_if : {X : Type 0} (b : Bool) (c d : Cut X) (all : List X) → flat c ≡ all → flat d ≡ all → flat (if b then c else d) ≡ all
flat_if true c d all e f = e
flat_if false c d all e f = f

pub cuts_flat : {X : Type 0} (need : X → ℕ) (room : ℕ) (held : List X) (left : ℕ) (xs : List X) → flat (cuts need room held left xs) ≡ held ++ xs
cuts_flat need room held left [] = sym (append-nil held)
cuts_flat need room held left (x ∷ xs) =
    flat_if (nat_le (need x) left) (cuts need room (held ++ x ∷ []) (left - need x) xs) (past held x xs (cuts need room [] room xs)) (held ++ x ∷ xs)
    (cuts_flat need room (held ++ x ∷ []) (left - need x) xs ∙ append_assoc held (x ∷ []) xs)
    (flat_past held x xs (cuts need room [] room xs) (cuts_flat need room [] room xs))

joined_if : {X : Type 0} (b : Bool) (c d : Cut X) (all : List X) → joined c ≡ all → joined d ≡ all → joined (if b then c else d) ≡ all
joined_if true c d all e f = e
joined_if false c d all e f = f

pub leaves_joined : {X : Type 0} (need : X → ℕ) (key : X → X) (d : X) (room : ℕ) (held : List X) (left : ℕ) (xs : List X)
    → joined (leaves need key d room held left xs) ≡ held ++ xs
leaves_joined need key d room held left [] = sym (append-nil held)
leaves_joined need key d room held left (x ∷ xs) =
    joined_if (nat_le (need x) left) (leaves need key d room (held ++ x ∷ []) (left - need x) xs)
    (cons_cut held (key (last_of d held)) (leaves need key d room (x ∷ []) (room - need x) xs)) (held ++ x ∷ xs)
    (leaves_joined need key d room (held ++ x ∷ []) (left - need x) xs ∙ append_assoc held (x ∷ []) xs)
    (ap (λ (t : List _). held ++ t) (leaves_joined need key d room (x ∷ []) (room - need x) xs))

-- ---- how many groups there are

few_if : {X : Type 0} (b : Bool) (c d : Cut X) (n : ℕ) → (b ≡ true → 2 * length c.firsts + 1 ≤ n) → (b ≡ false → 2 * length d.firsts + 1 ≤ n)
    → 2 * length (if b then c else d).firsts + 1 ≤ n
few_if true c d n e f = e refl
few_if false c d n e f = f refl

few_past : {X : Type 0} (held : List X) (x : X) (xs : List X) (rest : Cut X) → 2 ≤ length held → (1 ≤ length xs → 2 * length rest.firsts + 1 ≤ length xs)
    → 2 * length (past held x xs rest).firsts + 1 ≤ length held + length (x ∷ xs)
few_past [] x [] rest two e = absurd (omega arith)
few_past (h ∷ hs) x [] rest two e = omega arith
few_past held x (y ∷ ys) rest two e = let r = e (omega arith) in omega arith

pub two_held : {X : Type 0} (need : X → ℕ) (room left : ℕ) (held : List X) (x : X) → AllByRecursion (λ y. 2 * need y ≤ room) held → 2 * need x ≤ room
    → sum_by need held + left ≡ room → left < need x → 2 ≤ length held
two_held need room left [] x half one used lt = absurd (omega arith)
two_held need room left (a ∷ []) x half one used lt = absurd (omega (arith, half.0, sum_by-cons need a []))
two_held need room left (a ∷ b ∷ more) x half one used lt = omega arith

pub all_push : {X : Type 0} (P : X → Type 0) (xs : List X) (x : X) → AllByRecursion P xs → P x → AllByRecursion P (xs ++ x ∷ [])
all_push P [] x all one = (one, tt)
all_push P (y ∷ ys) x all one = (all.0, all_push P ys x all.1 one)

-- where two cells fit a page, each page but the last has two cells or one and a separator
pub cuts_few : {X : Type 0} (need : X → ℕ) (room : ℕ) (held : List X) (left : ℕ) (xs : List X) → AllByRecursion (λ y. 2 * need y ≤ room) held → AllByRecursion (λ y. 2 * need y ≤ room) xs
    → sum_by need held + left ≡ room → 1 ≤ length held + length xs → 2 * length (cuts need room held left xs).firsts + 1 ≤ length held + length xs
cuts_few need room held left [] hs half used some = omega arith
cuts_few need room held left (x ∷ xs) hs half used some =
    few_if (nat_le (need x) left) (cuts need room (held ++ x ∷ []) (left - need x) xs) (past held x xs (cuts need room [] room xs)) (length held + length (x ∷ xs))
    (λ e. let le : need x ≤ left = grind (arith, nat_tests) in
    let h = cuts_few need room (held ++ x ∷ []) (left - need x) xs (all_push (λ y. 2 * need y ≤ room) held x hs half.0) half.1 (omega (arith, sum_push need held x)) (omega (arith, length_push held x)) in omega (arith, length_push held x))
    (λ e. let lt : left < need x = grind (arith, nat_tests) in
    few_past held x xs (cuts need room [] room xs) (two_held need room left held x hs half.0 used lt)
    (λ s. let h = cuts_few need room [] room xs tt half.1 (omega arith) (omega arith) in omega arith))

leaves_if : {X : Type 0} (b : Bool) (c d : Cut X) (n : ℕ) → length c.firsts ≤ n → length d.firsts ≤ n → length (if b then c else d).firsts ≤ n
leaves_if true c d n e f = e
leaves_if false c d n e f = f

pub leaves_few : {X : Type 0} (need : X → ℕ) (key : X → X) (d : X) (room : ℕ) (held : List X) (left : ℕ) (xs : List X)
    → length (leaves need key d room held left xs).firsts ≤ length xs
leaves_few need key d room held left [] = omega arith
leaves_few need key d room held left (x ∷ xs) =
    let one = leaves_few need key d room (held ++ x ∷ []) (left - need x) xs in
    let two = leaves_few need key d room (x ∷ []) (room - need x) xs in
    leaves_if (nat_le (need x) left) (leaves need key d room (held ++ x ∷ []) (left - need x) xs)
    (cons_cut held (key (last_of d held)) (leaves need key d room (x ∷ []) (room - need x) xs)) (length (x ∷ xs)) (omega arith) (omega arith)

-- ---- the groups of cells are those of their sizes

sizes_width : (usable : ℕ) (kind : Kind) (leaf : Bool) (items : List Item) → pages_for (map (size_item usable kind leaf) items) ≡ width_of usable kind items
sizes_width usable kind leaf [] = refl
sizes_width usable kind leaf (x ∷ xs) =
    omega (arith, sum_by-cons overs_in (size_item usable kind leaf x) (map (size_item usable kind leaf) xs), sum_by-cons (item_overs usable kind) x xs, sizes_width usable kind leaf xs)

span_same : (usable : ℕ) (kind : Kind) (leaf : Bool) (first : ℕ) (items : List Item) → span_of first (map (size_item usable kind leaf) items) ≡ item_span usable kind first items
span_same usable kind leaf first items =
    let f : ℕ → ℕ → Span = λ n p. record { first = first; cells = n; pages = p } in
    ap (λ n. f n (pages_for (map (size_item usable kind leaf) items))) (length-map items (size_item usable kind leaf)) ∙ ap (f (length items)) (sizes_width usable kind leaf items)

-- the groups of sizes are those of the groups of cells, whatever stands between
abbrev pub AreSized : ℕ → Kind → Bool → List (List Item × Item) → List (List Size × Size) → Type 0
AreSized usable kind leaf [] [] = Unit {0}
AreSized usable kind leaf [] (z ∷ zs) = ⊥
AreSized usable kind leaf (f ∷ fs) [] = ⊥
AreSized usable kind leaf (f ∷ fs) (z ∷ zs) = (z.0 ≡ map (size_item usable kind leaf) f.0) × AreSized usable kind leaf fs zs

pub spans_same : (usable : ℕ) (kind : Kind) (leaf : Bool) (gap first : ℕ) (firsts : List (List Item × Item)) (last : List Item) (sizes : List (List Size × Size))
    → AreSized usable kind leaf firsts sizes → spans_from gap first sizes (map (size_item usable kind leaf) last) ≡ item_spans usable kind gap first firsts last
spans_same usable kind leaf gap first [] last [] s = ap (λ (t : Span). t ∷ []) (span_same usable kind leaf first last)
spans_same usable kind leaf gap first [] last (z ∷ zs) s = absurd s
spans_same usable kind leaf gap first (f ∷ fs) last [] s = absurd s
spans_same usable kind leaf gap first (f ∷ fs) last (z ∷ zs) s =
    let head : span_of first z.0 ≡ item_span usable kind first f.0 = ap (span_of first) s.0 ∙ span_same usable kind leaf first f.0 in
    let len : length z.0 ≡ length f.0 = ap length s.0 ∙ length-map f.0 (size_item usable kind leaf) in
    ap (λ (t : Span). t ∷ spans_from gap (first + length z.0 + gap) zs (map (size_item usable kind leaf) last)) head
    ∙ ap (λ n. item_span usable kind first f.0 ∷ spans_from gap (first + n + gap) zs (map (size_item usable kind leaf) last)) len
    ∙ ap (λ (t : List Span). item_span usable kind first f.0 ∷ t) (spans_same usable kind leaf gap (first + length f.0 + gap) fs last zs s.1)

-- sizes are cut as the cells are
pub record SameCut (usable : ℕ) (kind : Kind) (leaf : Bool) (c : Cut Item) (d : Cut Size) : Type 0 where
  pub firsts : AreSized usable kind leaf c.firsts d.firsts
  pub last : d.last ≡ map (size_item usable kind leaf) c.last

same_if : (usable : ℕ) (kind : Kind) (leaf : Bool) (b : Bool) (c d : Cut Item) (c' d' : Cut Size) → SameCut usable kind leaf c c' → SameCut usable kind leaf d d'
    → SameCut usable kind leaf (if b then c else d) (if b then c' else d')
same_if usable kind leaf true c d c' d' e f = e
same_if usable kind leaf false c d c' d' e f = f

same_start : (usable : ℕ) (kind : Kind) (leaf : Bool) (h : Item) (hs : List Item)
    → start_of (size_item usable kind leaf h) (map (size_item usable kind leaf) hs) ≡ map (size_item usable kind leaf) (start_of h hs)
same_start usable kind leaf h [] = refl
same_start usable kind leaf h (x ∷ xs) = ap (λ (t : List Size). size_item usable kind leaf h ∷ t) (same_start usable kind leaf x xs)

same_past : (usable : ℕ) (kind : Kind) (leaf : Bool) (held : List Item) (x : Item) (xs : List Item) (rest : Cut Item) (rest' : Cut Size) → SameCut usable kind leaf rest rest'
    → SameCut usable kind leaf (past held x xs rest) (past (map (size_item usable kind leaf) held) (size_item usable kind leaf x) (map (size_item usable kind leaf) xs) rest')
same_past usable kind leaf [] x [] rest rest' s = record { firsts = tt; last = refl }
same_past usable kind leaf (h ∷ hs) x [] rest rest' s = record { firsts = (same_start usable kind leaf h hs, tt); last = refl }
same_past usable kind leaf held x (y ∷ ys) rest rest' s = record { firsts = (refl, s.firsts); last = s.last }

pub cuts_same : (usable : ℕ) (kind : Kind) (leaf : Bool) (room : ℕ) (held : List Item) (left : ℕ) (xs : List Item)
    → SameCut usable kind leaf (cuts (need_of usable kind leaf) room held left xs)
    (cuts need_in room (map (size_item usable kind leaf) held) left (map (size_item usable kind leaf) xs))
cuts_same usable kind leaf room held left [] = record { firsts = tt; last = refl }
cuts_same usable kind leaf room held left (x ∷ xs) =
    let more = subst (λ (t : List Size). SameCut usable kind leaf (cuts (need_of usable kind leaf) room (held ++ x ∷ []) (left - need_of usable kind leaf x) xs)
    (cuts need_in room t (left - need_of usable kind leaf x) (map (size_item usable kind leaf) xs)))
    (map-append (size_item usable kind leaf) held (x ∷ [])) (cuts_same usable kind leaf room (held ++ x ∷ []) (left - need_of usable kind leaf x) xs) in
    same_if usable kind leaf (nat_le (need_of usable kind leaf x) left) _ _ _ _ more
    (same_past usable kind leaf held x xs (cuts (need_of usable kind leaf) room [] room xs) _ (cuts_same usable kind leaf room [] room xs))

same_cons : (usable : ℕ) (kind : Kind) (leaf : Bool) (held : List Item) (x : Item) (y : Size) (rest : Cut Item) (rest' : Cut Size) → SameCut usable kind leaf rest rest'
    → SameCut usable kind leaf (cons_cut held x rest) (cons_cut (map (size_item usable kind leaf) held) y rest')
same_cons usable kind leaf held x y rest rest' s = record { firsts = (refl, s.firsts); last = s.last }

pub leaves_same : (usable : ℕ) (kind : Kind) (leaf : Bool) (key : Item → Item) (d : Item) (room : ℕ) (held : List Item) (left : ℕ) (xs : List Item)
    → SameCut usable kind leaf (leaves (need_of usable kind leaf) key d room held left xs)
    (leaves need_in no_key no_size room (map (size_item usable kind leaf) held) left (map (size_item usable kind leaf) xs))
leaves_same usable kind leaf key d room held left [] = record { firsts = tt; last = refl }
leaves_same usable kind leaf key d room held left (x ∷ xs) =
    let more = subst (λ (t : List Size). SameCut usable kind leaf (leaves (need_of usable kind leaf) key d room (held ++ x ∷ []) (left - need_of usable kind leaf x) xs)
    (leaves need_in no_key no_size room t (left - need_of usable kind leaf x) (map (size_item usable kind leaf) xs)))
    (map-append (size_item usable kind leaf) held (x ∷ [])) (leaves_same usable kind leaf key d room (held ++ x ∷ []) (left - need_of usable kind leaf x) xs) in
    same_if usable kind leaf (nat_le (need_of usable kind leaf x) left) _ _ _ _ more
    (same_cons usable kind leaf held (key (last_of d held)) no_size _ _ (leaves_same usable kind leaf key d room (x ∷ []) (room - need_of usable kind leaf x) xs))

pub spans_cut : (usable : ℕ) (kind : Kind) (leaf : Bool) (gap first : ℕ) (c : Cut Item) (d : Cut Size) → SameCut usable kind leaf c d
    → spans_of gap first d ≡ item_spans usable kind gap first c.firsts c.last
spans_cut usable kind leaf gap first c d s =
    ap (spans_from gap first d.firsts) s.last ∙ spans_same usable kind leaf gap first c.firsts c.last d.firsts s.firsts

-- the key of its last cell stands behind each leaf of a table but the last, and no such leaf is empty
abbrev pub Keyed : {X : Type 0} → (X → X) → X → List (List X × X) → Type 0
Keyed key d [] = Unit {0}
Keyed key d (f ∷ fs) = (f.1 ≡ key (last_of d f.0)) × (1 ≤ length f.0) × Keyed key d fs

keyed_if : {X : Type 0} (key : X → X) (d : X) (b : Bool) (c e : Cut X) → (b ≡ true → Keyed key d c.firsts) → (b ≡ false → Keyed key d e.firsts) → Keyed key d (if b then c else e).firsts
keyed_if key d true c e f g = f refl
keyed_if key d false c e f g = g refl

pub some_held : {X : Type 0} (need : X → ℕ) (room left : ℕ) (held : List X) (x : X) → need x ≤ room → sum_by need held + left ≡ room → left < need x → 1 ≤ length held
some_held need room left [] x fit used lt = absurd (omega arith)
some_held need room left (h ∷ hs) x fit used lt = omega arith

pub leaves_keyed : {X : Type 0} (need : X → ℕ) (key : X → X) (d : X) (room : ℕ) (held : List X) (left : ℕ) (xs : List X)
    → AllByRecursion (λ x. need x ≤ room) xs → sum_by need held + left ≡ room → Keyed key d (leaves need key d room held left xs).firsts
leaves_keyed need key d room held left [] fit used = tt
leaves_keyed need key d room held left (x ∷ xs) fit used =
    keyed_if key d (nat_le (need x) left) (leaves need key d room (held ++ x ∷ []) (left - need x) xs)
    (cons_cut held (key (last_of d held)) (leaves need key d room (x ∷ []) (room - need x) xs))
    (λ e. let le : need x ≤ left = grind (arith, nat_tests) in leaves_keyed need key d room (held ++ x ∷ []) (left - need x) xs fit.1 (omega (arith, sum_push need held x)))
    (λ e. let lt : left < need x = grind (arith, nat_tests) in
    (refl, some_held need room left held x fit.0 used lt, leaves_keyed need key d room (x ∷ []) (room - need x) xs fit.1 (omega (arith, sum_by-cons need x [], fit.0))))

-- each page has room for its cells
pub record CutFits {X : Type 0} (need : X → ℕ) (room : ℕ) (c : Cut X) : Type 0 where
  pub firsts : AllByRecursion (λ (f : List X × X). sum_by need f.0 ≤ room) c.firsts
  pub last : sum_by need c.last ≤ room

fits_if : {X : Type 0} (need : X → ℕ) (room : ℕ) (b : Bool) (c d : Cut X) → (b ≡ true → CutFits need room c) → (b ≡ false → CutFits need room d) → CutFits need room (if b then c else d)
fits_if need room true c d e f = e refl
fits_if need room false c d e f = f refl

fits_past : {X : Type 0} (need : X → ℕ) (room : ℕ) (held : List X) (x : X) (xs : List X) (rest : Cut X) → sum_by need held ≤ room → need x ≤ room → CutFits need room rest
    → CutFits need room (past held x xs rest)
fits_past need room [] x [] rest h one r = record { firsts = tt; last = omega (arith, sum_by-cons need x []) }
fits_past need room (h ∷ hs) x [] rest le one r =
    let sums : sum_by need (h ∷ hs) ≡ sum_by need (start_of h hs) + need (end_of h hs) = sym (ap (sum_by need) (given h hs)) ∙ sum_push need (start_of h hs) (end_of h hs) in
    record { firsts = (omega (arith, sums), tt); last = omega (arith, sum_by-cons need x []) }
fits_past need room held x (y ∷ ys) rest h one r = record { firsts = (h, r.firsts); last = r.last }

pub cuts_fit : {X : Type 0} (need : X → ℕ) (room : ℕ) (held : List X) (left : ℕ) (xs : List X) → AllByRecursion (λ y. need y ≤ room) xs
    → sum_by need held + left ≡ room → CutFits need room (cuts need room held left xs)
cuts_fit need room held left [] one used = record { firsts = tt; last = omega arith }
cuts_fit need room held left (x ∷ xs) one used =
    fits_if need room (nat_le (need x) left) (cuts need room (held ++ x ∷ []) (left - need x) xs) (past held x xs (cuts need room [] room xs))
    (λ e. let le : need x ≤ left = grind (arith, nat_tests) in cuts_fit need room (held ++ x ∷ []) (left - need x) xs one.1 (omega (arith, sum_push need held x)))
    (λ e. fits_past need room held x xs (cuts need room [] room xs) (omega arith) one.0 (cuts_fit need room [] room xs one.1 (omega arith)))

pub leaves_fit : {X : Type 0} (need : X → ℕ) (key : X → X) (d : X) (room : ℕ) (held : List X) (left : ℕ) (xs : List X) → AllByRecursion (λ y. need y ≤ room) xs
    → sum_by need held + left ≡ room → CutFits need room (leaves need key d room held left xs)
leaves_fit need key d room held left [] one used = record { firsts = tt; last = omega arith }
leaves_fit need key d room held left (x ∷ xs) one used =
    fits_if need room (nat_le (need x) left) (leaves need key d room (held ++ x ∷ []) (left - need x) xs)
    (cons_cut held (key (last_of d held)) (leaves need key d room (x ∷ []) (room - need x) xs))
    (λ e. let le : need x ≤ left = grind (arith, nat_tests) in leaves_fit need key d room (held ++ x ∷ []) (left - need x) xs one.1 (omega (arith, sum_push need held x)))
    (λ e. let r = leaves_fit need key d room (x ∷ []) (room - need x) xs one.1 (omega (arith, sum_by-cons need x [], one.0)) in record { firsts = (omega arith, r.firsts); last = r.last })
