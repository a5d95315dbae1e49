-- The loops that group cells follow the definitions of the groups.
use Rattle.std.proofs.Common.{◌≡◌, ◌<◌, ◌≤◌, ℕ, zero, suc, ◌+◌, ◌-◌, ◌^◌, true, false, List, [], ◌∷◌, ◌++◌, length, take, drop, get_or, nat_le, sum_by, refl, sym, ap, ◌∙◌, subst, arith, append_assoc, append-nil, length-append, add-one}
use Rattle.std.specs.Prelude.{if◌then◌else◌}
use Rattle.std.proofs.lemmas.List.Sums.{sum_by-append, sum_by-cons}
use Rattle.std.proofs.lemmas.Bool.Decides.{nat_tests}
use Rattle.tree_writer.specs.declared.sizes.Size.{Size}
use Rattle.tree_writer.specs.declared.groups.Span.{Span}
use Rattle.tree_writer.specs.Groups.{Cut, cons_cut, cuts, end_of, give_up, last_of, leaves, past, start_of}
use Rattle.tree_writer.specs.Plan.{AreSizes, need_in, no_key, no_size, overs_in, pages_for, span_of, spans_from, spans_of}
use Rattle.tree_writer.proofs.Lists.{at_head, at_end, get_here, sum_push, length_push}

-- what a grouping loop keeps: the group that is begun, the room that is left, and the pages that are
-- still to come
pub record Begun (sizes : List Size) (room : ℕ) (span : Span) (left i : ℕ) : Type 0 where
  pub held : List Size
  pub cells_are : span.cells ≡ length held
  pub pages_are : span.pages ≡ pages_for held
  pub from : span.first + length held ≡ i
  pub used : sum_by need_in held + left ≡ room
  pub more : sum_by overs_in held + sum_by overs_in (drop i sizes) ≤ sum_by overs_in sizes
  pub within : i ≤ length sizes

span_shown : (span : Span) (held : List Size) → span.cells ≡ length held → span.pages ≡ pages_for held → span ≡ span_of span.first held
span_shown span held cells pages =
    let f : ℕ → ℕ → Span = λ c p. record { first = span.first; cells = c; pages = p } in
    ap (λ c. f c span.pages) cells ∙ ap (f (length held)) pages

pub begun_start : (sizes : List Size) (room : ℕ) → Begun sizes room (record { first = 0; cells = 0; pages = 1 }) room 0
begun_start sizes room = record {
  held = [];
  cells_are = refl;
  pages_are = refl;
  from = refl;
  used = omega arith;
  more = omega arith;
  within = omega arith;
}

sum_at : (f : Size → ℕ) (sizes : List Size) (i : ℕ) (s : Size) → i < length sizes → s ≡ get_or sizes i no_size
    → sum_by f (drop i sizes) ≡ f s + sum_by f (drop (i + 1) sizes)
sum_at f sizes i s lt is = ap (sum_by f) (at_head no_size sizes i lt) ∙ sum_by-cons f (get_or sizes i no_size) (drop (i + 1) sizes)
    ∙ ap (λ (t : Size). f t + sum_by f (drop (i + 1) sizes)) (sym is)

pub head_at : (sizes : List Size) (i : ℕ) (s : Size) → i < length sizes → s ≡ get_or sizes i no_size → drop i sizes ≡ s ∷ drop (i + 1) sizes
head_at sizes i s lt is = at_head no_size sizes i lt ∙ ap (λ (t : Size). t ∷ drop (i + 1) sizes) (sym is)

-- one more cell in the group
pub begun_more : (sizes : List Size) (room : ℕ) (span : Span) (left i : ℕ) (s : Size) → (b : Begun sizes room span left i)
    → i < length sizes → s ≡ get_or sizes i no_size → s.need ≤ left
    → Begun sizes room (record { first = span.first; cells = span.cells + 1; pages = span.pages + s.overs }) (left - s.need) (i + 1)
begun_more sizes room span left i s b lt is fit = record {
  held = b.held ++ s ∷ [];
  cells_are = omega (arith, b.cells_are, length_push b.held s);
  pages_are = omega (arith, b.pages_are, sum_push overs_in b.held s);
  from = omega (arith, b.from, length_push b.held s);
  used = omega (arith, b.used, sum_push need_in b.held s);
  more = omega (arith, b.more, sum_push overs_in b.held s, sum_at overs_in sizes i s lt is);
  within = omega arith;
}

-- the group is done, and this cell begins the next one
pub begun_anew : (sizes : List Size) (room : ℕ) (span : Span) (left i : ℕ) (s : Size) → (b : Begun sizes room span left i)
    → i < length sizes → s ≡ get_or sizes i no_size → s.need ≤ room
    → Begun sizes room (record { first = span.first + span.cells; cells = 1; pages = 1 + s.overs }) (room - s.need) (i + 1)
begun_anew sizes room span left i s b lt is fit = record {
  held = s ∷ [];
  cells_are = refl;
  pages_are = omega (arith, sum_by-cons overs_in s []);
  from = omega (arith, b.from, b.cells_are);
  used = omega (arith, sum_by-cons need_in s []);
  more = omega (arith, b.more, sum_by-cons overs_in s [], sum_at overs_in sizes i s lt is);
  within = omega arith;
}

-- the group is done, and this cell stands behind it
pub begun_past : (sizes : List Size) (room : ℕ) (span : Span) (left i : ℕ) (s : Size) → (b : Begun sizes room span left i)
    → i < length sizes → s ≡ get_or sizes i no_size
    → Begun sizes room (record { first = span.first + span.cells + 1; cells = 0; pages = 1 }) room (i + 1)
begun_past sizes room span left i s b lt is = record {
  held = [];
  cells_are = refl;
  pages_are = refl;
  from = omega (arith, b.from, b.cells_are);
  used = omega arith;
  more = omega (arith, b.more, sum_at overs_in sizes i s lt is);
  within = omega arith;
}

-- the counts of a group stay small
pub begun_small : (sizes : List Size) (room : ℕ) (span : Span) (left i : ℕ) → Begun sizes room span left i
    → AreSizes room sizes → (span.first + span.cells < 2 ^ 31) × (span.pages ≤ 2 ^ 31)
begun_small sizes room span left i b a =
    (omega (arith, b.from, b.cells_are, b.within, a.few), omega (arith, b.pages_are, b.more, a.pages))

-- ---- table leaves

abbrev leaf_rest : List Size → ℕ → List Size → ℕ → ℕ → ℕ → List Span
leaf_rest sizes room held left first i = spans_of 0 first (leaves need_in no_key no_size room held left (drop i sizes))

pub record Leafing (sizes : List Size) (room : ℕ) (spans : List Span) (span : Span) (left i : ℕ) : Type 0 where
  pub begun : Begun sizes room span left i
  pub all : spans ++ spans_of 0 span.first (leaves need_in no_key no_size room begun.held left (drop i sizes))
      ≡ spans_of 0 0 (leaves need_in no_key no_size room [] room sizes)

pub leafing_start : (sizes : List Size) (room : ℕ) → Leafing sizes room [] (record { first = 0; cells = 0; pages = 1 }) room 0
unfolding begun_start
leafing_start sizes room = record { begun = begun_start sizes room; all = refl }

leaves_fit : (room left : ℕ) (held : List Size) (s : Size) (xs : List Size) → s.need ≤ left
    → leaves need_in no_key no_size room held left (s ∷ xs) ≡ leaves need_in no_key no_size room (held ++ s ∷ []) (left - s.need) xs
leaves_fit room left held s xs le = let t : nat_le s.need left ≡ true = grind (arith, nat_tests) in rw t refl

leaves_full : (room left : ℕ) (held : List Size) (s : Size) (xs : List Size) → left < s.need
    → leaves need_in no_key no_size room held left (s ∷ xs)
    ≡ cons_cut held no_size (leaves need_in no_key no_size room (s ∷ []) (room - s.need) xs)
leaves_full room left held s xs lt = let t : nat_le s.need left ≡ false = grind (arith, nat_tests) in rw t refl

pub leafing_fit : (sizes : List Size) (room : ℕ) (spans : List Span) (span : Span) (left i : ℕ) (s : Size) → (l : Leafing sizes room spans span left i)
    → i < length sizes → s ≡ get_or sizes i no_size → s.need ≤ left
    → Leafing sizes room spans (record { first = span.first; cells = span.cells + 1; pages = span.pages + s.overs }) (left - s.need) (i + 1)
unfolding begun_more
leafing_fit sizes room spans span left i s l lt is fit = record {
  begun = begun_more sizes room span left i s l.begun lt is fit;
  all =
      let head = head_at sizes i s lt is in
      let step = ap (leaves need_in no_key no_size room l.begun.held left) head ∙ leaves_fit room left l.begun.held s (drop (i + 1) sizes) fit in
      sym (ap (λ (c : Cut Size). spans ++ spans_of 0 span.first c) step) ∙ l.all;
}

pub leafing_full : (sizes : List Size) (room : ℕ) (spans : List Span) (span : Span) (left i : ℕ) (s : Size) → (l : Leafing sizes room spans span left i)
    → i < length sizes → s ≡ get_or sizes i no_size → left < s.need → s.need ≤ room
    → Leafing sizes room (spans ++ span ∷ []) (record { first = span.first + span.cells; cells = 1; pages = 1 + s.overs }) (room - s.need) (i + 1)
unfolding begun_anew
leafing_full sizes room spans span left i s l lt is full fit = record {
  begun = begun_anew sizes room span left i s l.begun lt is fit;
  all =
      let head = head_at sizes i s lt is in
      let rest = leaves need_in no_key no_size room (s ∷ []) (room - s.need) (drop (i + 1) sizes) in
      let step = ap (leaves need_in no_key no_size room l.begun.held left) head ∙ leaves_full room left l.begun.held s (drop (i + 1) sizes) full in
      let first : span.first + span.cells ≡ span.first + length l.begun.held + 0 = omega (arith, l.begun.cells_are) in
      append_assoc spans (span ∷ []) (spans_of 0 (span.first + span.cells) rest)
      ∙ ap (λ n. spans ++ (span ∷ spans_of 0 n rest)) first
      ∙ ap (λ (p : Span). spans ++ (p ∷ spans_of 0 (span.first + length l.begun.held + 0) rest)) (span_shown span l.begun.held l.begun.cells_are l.begun.pages_are)
      ∙ sym (ap (λ (c : Cut Size). spans ++ spans_of 0 span.first c) step) ∙ l.all;
}

pub leafing_done : (sizes : List Size) (room : ℕ) (spans : List Span) (span : Span) (left i : ℕ) → (l : Leafing sizes room spans span left i)
    → length sizes ≤ i → spans ++ span ∷ [] ≡ spans_of 0 0 (leaves need_in no_key no_size room [] room sizes)
leafing_done sizes room spans span left i l le =
    ap (λ (p : Span). spans ++ p ∷ []) (span_shown span l.begun.held l.begun.cells_are l.begun.pages_are)
    ∙ sym (ap (λ (xs : List Size). spans ++ spans_of 0 span.first (leaves need_in no_key no_size room l.begun.held left xs)) (at_end sizes i le)) ∙ l.all

-- ---- index leaves and interior pages

pub record Cutting (sizes : List Size) (room : ℕ) (spans : List Span) (span : Span) (left i : ℕ) : Type 0 where
  pub begun : Begun sizes room span left i
  pub front : List Size
  pub front_len : length front ≡ span.first
  pub split : sizes ≡ front ++ (begun.held ++ drop i sizes)
  pub all : spans ++ spans_of 1 span.first (cuts need_in room begun.held left (drop i sizes))
      ≡ spans_of 1 0 (cuts need_in room [] room sizes)

pub cutting_start : (sizes : List Size) (room : ℕ) → Cutting sizes room [] (record { first = 0; cells = 0; pages = 1 }) room 0
unfolding begun_start
cutting_start sizes room = record { begun = begun_start sizes room; front = []; front_len = refl; split = refl; all = refl }

cuts_fit : (room left : ℕ) (held : List Size) (s : Size) (xs : List Size) → s.need ≤ left
    → cuts need_in room held left (s ∷ xs) ≡ cuts need_in room (held ++ s ∷ []) (left - s.need) xs
cuts_fit room left held s xs le = let t : nat_le s.need left ≡ true = grind (arith, nat_tests) in rw t refl

cuts_full : (room left : ℕ) (held : List Size) (s : Size) (xs : List Size) → left < s.need
    → cuts need_in room held left (s ∷ xs) ≡ past held s xs (cuts need_in room [] room xs)
cuts_full room left held s xs lt = let t : nat_le s.need left ≡ false = grind (arith, nat_tests) in rw t refl

past_more : (held : List Size) (s : Size) (xs : List Size) (rest : Cut Size) (i : ℕ) (all : List Size) → xs ≡ drop i all → i < length all
    → past held s xs rest ≡ cons_cut held s rest
past_more held s [] rest i all e lt =
    let h = at_head no_size all i lt in
    let n : length (drop i all) ≡ 0 = ap length (sym e) in absurd (omega (arith, n, ap length h))
past_more held s (x ∷ xs) rest i all e lt = refl

pub cutting_fit : (sizes : List Size) (room : ℕ) (spans : List Span) (span : Span) (left i : ℕ) (s : Size) → (l : Cutting sizes room spans span left i)
    → i < length sizes → s ≡ get_or sizes i no_size → s.need ≤ left
    → Cutting sizes room spans (record { first = span.first; cells = span.cells + 1; pages = span.pages + s.overs }) (left - s.need) (i + 1)
unfolding begun_more
cutting_fit sizes room spans span left i s l lt is fit = record {
  begun = begun_more sizes room span left i s l.begun lt is fit;
  front = l.front;
  front_len = l.front_len;
  split = l.split ∙ ap (λ (t : List Size). l.front ++ (l.begun.held ++ t)) (head_at sizes i s lt is)
      ∙ sym (ap (λ (t : List Size). l.front ++ t) (append_assoc l.begun.held (s ∷ []) (drop (i + 1) sizes)));
  all =
      let head = head_at sizes i s lt is in
      let step = ap (cuts need_in room l.begun.held left) head ∙ cuts_fit room left l.begun.held s (drop (i + 1) sizes) fit in
      sym (ap (λ (c : Cut Size). spans ++ spans_of 1 span.first c) step) ∙ l.all;
}

pub cutting_full : (sizes : List Size) (room : ℕ) (spans : List Span) (span : Span) (left i : ℕ) (s : Size) → (l : Cutting sizes room spans span left i)
    → i + 1 < length sizes → s ≡ get_or sizes i no_size → left < s.need
    → Cutting sizes room (spans ++ span ∷ []) (record { first = span.first + span.cells + 1; cells = 0; pages = 1 }) room (i + 1)
unfolding begun_past
cutting_full sizes room spans span left i s l lt is full =
    let here : i < length sizes = omega arith in record {
      begun = begun_past sizes room span left i s l.begun here is;
      front = l.front ++ (l.begun.held ++ s ∷ []);
      front_len = omega (arith, l.front_len, l.begun.cells_are, length-append l.front (l.begun.held ++ s ∷ []), length_push l.begun.held s);
      split = l.split ∙ ap (λ (t : List Size). l.front ++ (l.begun.held ++ t)) (head_at sizes i s here is)
          ∙ sym (ap (λ (t : List Size). l.front ++ t) (append_assoc l.begun.held (s ∷ []) (drop (i + 1) sizes)))
          ∙ sym (append_assoc l.front (l.begun.held ++ s ∷ []) (drop (i + 1) sizes));
      all =
          let head = head_at sizes i s here is in
          let rest = cuts need_in room [] room (drop (i + 1) sizes) in
          let step = ap (cuts need_in room l.begun.held left) head ∙ cuts_full room left l.begun.held s (drop (i + 1) sizes) full
          ∙ past_more l.begun.held s (drop (i + 1) sizes) rest (i + 1) sizes refl lt in
          let first : span.first + span.cells + 1 ≡ span.first + length l.begun.held + 1 = omega (arith, l.begun.cells_are) in
          append_assoc spans (span ∷ []) (spans_of 1 (span.first + span.cells + 1) rest)
          ∙ ap (λ n. spans ++ (span ∷ spans_of 1 n rest)) first
          ∙ ap (λ (p : Span). spans ++ (p ∷ spans_of 1 (span.first + length l.begun.held + 1) rest)) (span_shown span l.begun.held l.begun.cells_are l.begun.pages_are)
          ∙ sym (ap (λ (c : Cut Size). spans ++ spans_of 1 span.first c) step) ∙ l.all;
    }

-- the last cell does not fit: the group gives up its own last cell
given : (h : Size) (hs : List Size) → (h ∷ hs ≡ start_of h hs ++ end_of h hs ∷ [])
given h [] = refl
given h (x ∷ xs) = ap (λ (t : List Size). h ∷ t) (given x xs)

-- the held cells of a full group are some
pub some_held : (room left : ℕ) (held : List Size) (s : Size) → sum_by need_in held + left ≡ room → left < s.need → s.need ≤ room → 1 ≤ length held
some_held room left [] s used full fit = absurd (omega arith)
some_held room left (h ∷ hs) s used full fit = omega arith

-- what is done where the last cell of all does not fit: the group gives up its own last one, `away`
pub record GivesUp (sizes : List Size) (room : ℕ) (spans : List Span) (span : Span) (left i : ℕ) (s away : Size) : Type 0 where
  pub some : 1 ≤ span.cells
  pub overs : away.overs + 1 ≤ span.pages
  pub next : Cutting sizes room (spans ++ record { first = span.first; cells = span.cells - 1; pages = span.pages - away.overs } ∷ [])
      (record { first = span.first + span.cells; cells = 1; pages = 1 + s.overs }) (room - s.need) (i + 1)

-- the last of the held cells stands before cell i
last_held : (front rest : List Size) (h : Size) (hs sizes : List Size) (i : ℕ) → sizes ≡ front ++ ((h ∷ hs) ++ rest)
    → length front + length (h ∷ hs) ≡ i → get_or sizes (i - 1) no_size ≡ end_of h hs
last_held front rest h hs sizes i split len =
    let whole : sizes ≡ (front ++ start_of h hs) ++ (end_of h hs ∷ rest)
    = split ∙ ap (λ (t : List Size). front ++ (t ++ rest)) (given h hs)
    ∙ ap (λ (t : List Size). front ++ t) (append_assoc (start_of h hs) (end_of h hs ∷ []) rest)
    ∙ sym (append_assoc front (start_of h hs) (end_of h hs ∷ rest)) in
    let place : i - 1 ≡ length (front ++ start_of h hs)
    = omega (arith, length-append front (start_of h hs), ap length (given h hs), length_push (start_of h hs) (end_of h hs)) in
    ap (λ (t : List Size). get_or t (i - 1) no_size) whole
    ∙ ap (λ n. get_or ((front ++ start_of h hs) ++ (end_of h hs ∷ rest)) n no_size) place
    ∙ get_here (front ++ start_of h hs) (end_of h hs) rest no_size

pub gives_up : (sizes : List Size) (room : ℕ) (spans : List Span) (span : Span) (left i : ℕ) (s away : Size) → (l : Cutting sizes room spans span left i)
    → i + 1 ≡ length sizes → s ≡ get_or sizes i no_size → left < s.need → s.need ≤ room → away ≡ get_or sizes (i - 1) no_size
    → GivesUp sizes room spans span left i s away
unfolding begun_anew
gives_up sizes room spans span left i s away l last is full fit away_is =
    by l.begun.held refl l.begun.cells_are l.begun.pages_are l.begun.from l.split l.all (some_held room left l.begun.held s l.begun.used full fit)
  where
    here : i < length sizes
    here = omega (arith, last)

    by : (held : List Size) → held ≡ l.begun.held → span.cells ≡ length held → span.pages ≡ pages_for held → span.first + length held ≡ i
        → sizes ≡ l.front ++ (held ++ drop i sizes)
        → spans ++ spans_of 1 span.first (cuts need_in room held left (drop i sizes)) ≡ spans_of 1 0 (cuts need_in room [] room sizes)
        → 1 ≤ length held → GivesUp sizes room spans span left i s away
    by [] e cells pages from split all some = absurd (omega arith)
    by (h ∷ hs) e cells pages from split all some =
        let end_is : away ≡ end_of h hs = away_is ∙ last_held l.front (drop i sizes) h hs sizes i split (omega (arith, l.front_len)) in
        let lens : length hs + 1 ≡ length (start_of h hs) + 1 = omega (arith, ap length (given h hs), length_push (start_of h hs) (end_of h hs)) in
        let sums : sum_by overs_in (h ∷ hs) ≡ sum_by overs_in (start_of h hs) + (end_of h hs).overs = ap (sum_by overs_in) (given h hs) ∙ sum_push overs_in (start_of h hs) (end_of h hs) in
        let o : away.overs ≡ (end_of h hs).overs = ap overs_in end_is in
        let none : drop (i + 1) sizes ≡ [] = at_end sizes (i + 1) (omega (arith, last)) in
        let step : cuts need_in room (h ∷ hs) left (drop i sizes) ≡ give_up (h ∷ hs) s
        = ap (cuts need_in room (h ∷ hs) left) (head_at sizes i s here is ∙ ap (λ (t : List Size). s ∷ t) none) ∙ cuts_full room left (h ∷ hs) s [] full in
        let shown : record { first = span.first; cells = span.cells - 1; pages = span.pages - away.overs } ≡ span_of span.first (start_of h hs)
        = span_shown (record { first = span.first; cells = span.cells - 1; pages = span.pages - away.overs }) (start_of h hs) (omega (arith, cells, lens)) (omega (arith, pages, sums, o)) in
        let place : span.first + span.cells ≡ span.first + length (start_of h hs) + 1 = omega (arith, cells, lens) in
        let last_pages : 1 + s.overs ≡ pages_for (s ∷ []) = omega (arith, sum_by-cons overs_in s []) in
        let rest_none : cuts need_in room (s ∷ []) (room - s.need) (drop (i + 1) sizes) ≡ record { firsts = []; last = s ∷ [] } = ap (cuts need_in room (s ∷ []) (room - s.need)) none in
        record {
          some = omega (arith, cells, lens);
          overs = omega (arith, pages, sums, o);
          next = record {
            begun = begun_anew sizes room span left i s l.begun here is fit;
            front = l.front ++ (h ∷ hs);
            front_len = omega (arith, l.front_len, cells, length-append l.front (h ∷ hs));
            split = split ∙ ap (λ (t : List Size). l.front ++ ((h ∷ hs) ++ t)) (head_at sizes i s here is) ∙ sym (append_assoc l.front (h ∷ hs) (s ∷ drop (i + 1) sizes));
            all =
                ap (λ (c : Cut Size). (spans ++ record { first = span.first; cells = span.cells - 1; pages = span.pages - away.overs } ∷ []) ++ spans_of 1 (span.first + span.cells) c) rest_none
                ∙ append_assoc spans (record { first = span.first; cells = span.cells - 1; pages = span.pages - away.overs } ∷ []) (span_of (span.first + span.cells) (s ∷ []) ∷ [])
                ∙ ap (λ (p : Span). spans ++ (p ∷ span_of (span.first + span.cells) (s ∷ []) ∷ [])) shown
                ∙ ap (λ n. spans ++ (span_of span.first (start_of h hs) ∷ span_of n (s ∷ []) ∷ [])) place
                ∙ sym (ap (λ (c : Cut Size). spans ++ spans_of 1 span.first c) step) ∙ all;
          };
        }

pub cutting_done : (sizes : List Size) (room : ℕ) (spans : List Span) (span : Span) (left i : ℕ) → (l : Cutting sizes room spans span left i)
    → length sizes ≤ i → spans ++ span ∷ [] ≡ spans_of 1 0 (cuts need_in room [] room sizes)
cutting_done sizes room spans span left i l le =
    ap (λ (p : Span). spans ++ p ∷ []) (span_shown span l.begun.held l.begun.cells_are l.begun.pages_are)
    ∙ sym (ap (λ (xs : List Size). spans ++ spans_of 1 span.first (cuts need_in room l.begun.held left xs)) (at_end sizes i le)) ∙ l.all

-- ---- the same, at the values that a loop's branches give

pub leaf_same : (sizes : List Size) (room : ℕ) (spans spans' : List Span) (span span' : Span) (left left' i : ℕ) (s : Size) → Leafing sizes room spans span left i
    → i < length sizes → s ≡ get_or sizes i no_size → s.need ≤ left → spans' ≡ spans → span' ≡ span → left' ≡ left - s.need
    → Leafing sizes room spans' (record { first = span'.first; cells = span'.cells + 1; pages = span'.pages + s.overs }) left' (i + 1)
leaf_same sizes room spans spans' span span' left left' i s l lt is fit a b c = rw (a, b, c) (leafing_fit sizes room spans span left i s l lt is fit)

pub leaf_next : (sizes : List Size) (room : ℕ) (spans spans' : List Span) (span span' : Span) (left left' i : ℕ) (s : Size) → Leafing sizes room spans span left i
    → AreSizes room sizes → i < length sizes → s ≡ get_or sizes i no_size → left < s.need → spans' ≡ spans ++ span ∷ []
    → span' ≡ record { first = span.first + span.cells; cells = 0; pages = 1 } → left' ≡ room - s.need
    → Leafing sizes room spans' (record { first = span'.first; cells = span'.cells + 1; pages = span'.pages + s.overs }) left' (i + 1)
leaf_next sizes room spans spans' span span' left left' i s l are lt is full a b c =
    let fit : s.need ≤ room = subst (λ (t : Size). t.need ≤ room) (sym is) (are.fit i lt) in
    rw (a, b, c) (leafing_full sizes room spans span left i s l lt is full fit)

-- the counts of a group with one cell more
pub begun_room : (sizes : List Size) (room : ℕ) (span : Span) (left i : ℕ) (s : Size) → Begun sizes room span left i
    → AreSizes room sizes → i < length sizes → s ≡ get_or sizes i no_size
    → (span.first + span.cells + 1 < 2 ^ 32) × (span.pages + s.overs < 2 ^ 32)
begun_room sizes room span left i s b a lt is =
    (omega (arith, b.from, b.cells_are, b.within, a.few), omega (arith, b.pages_are, b.more, a.pages, sum_at overs_in sizes i s lt is))

pub cut_same : (sizes : List Size) (room : ℕ) (spans spans' : List Span) (span span' : Span) (left left' i : ℕ) (s : Size) → Cutting sizes room spans span left i
    → i < length sizes → s ≡ get_or sizes i no_size → s.need ≤ left → spans' ≡ spans
    → span' ≡ record { first = span.first; cells = span.cells + 1; pages = span.pages + s.overs } → left' ≡ left - s.need
    → Cutting sizes room spans' span' left' (i + 1)
cut_same sizes room spans spans' span span' left left' i s l lt is fit a b c = rw (a, b, c) (cutting_fit sizes room spans span left i s l lt is fit)

pub cut_next : (sizes : List Size) (room : ℕ) (spans spans' : List Span) (span span' : Span) (left left' i : ℕ) (s : Size) → Cutting sizes room spans span left i
    → i + 1 < length sizes → s ≡ get_or sizes i no_size → left < s.need → spans' ≡ spans ++ span ∷ []
    → span' ≡ record { first = span.first + span.cells + 1; cells = 0; pages = 1 } → left' ≡ room
    → Cutting sizes room spans' span' left' (i + 1)
cut_next sizes room spans spans' span span' left left' i s l lt is full a b c =
    rw (a, b, c) (cutting_full sizes room spans span left i s l lt is full)

pub cut_last : (sizes : List Size) (room : ℕ) (spans spans' : List Span) (span span' : Span) (left left' i : ℕ) (s away : Size) → GivesUp sizes room spans span left i s away
    → spans' ≡ spans ++ record { first = span.first; cells = span.cells - 1; pages = span.pages - away.overs } ∷ []
    → span' ≡ record { first = span.first + span.cells; cells = 1; pages = 1 + s.overs } → left' ≡ room - s.need
    → Cutting sizes room spans' span' left' (i + 1)
cut_last sizes room spans spans' span span' left left' i s away g a b c = rw (a, b, c) g.next
