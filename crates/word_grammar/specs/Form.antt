-- Grammars by words: what the texts of a grammar are (docs/CREATE_TABLE.md, "How a grammar is written").
-- A word is seen as its sort, a number. In a text of a grammar each word has a role as well.
use Rattle.std.specs.Prelude.{◌≡◌, ◌⊎◌, ℕ, zero, suc, ◌<◌, ◌≤◌, Bool, true, false, nat_eq, if◌then◌else◌, List, [], ◌∷◌, ◌++◌, length, map, take}
use Rattle.std.specs.List.{AllByRecursion, list_any}

-- the sorts of an opening and a closing parenthesis, and of what is no word
abbrev pub opens : ℕ
opens = 0

abbrev pub closes : ℕ
closes = 1

abbrev pub bad : ℕ
bad = 2

-- words with a role and a sort each
abbrev pub Labelled : Type 0
Labelled = List (ℕ × ℕ)

abbrev pub sorts : Labelled → List ℕ
sorts ls = map (λ l. l.1) ls

abbrev pub roles : Labelled → List ℕ
roles ls = map (λ l. l.0) ls

-- whether a sort is of a class
abbrev pub has : List ℕ → ℕ → Bool
has class s = list_any (nat_eq s) class

pub data Form : Type 0 where
  -- no word
  nothing : Form
  -- a group in parentheses
  group : Form
  -- one word of a class, in a role
  word : ℕ → List ℕ → Form
  -- one form and then another; the one or the other
  follow : Form → Form → Form
  either : Form → Form → Form
  -- at most once; any number of times
  maybe : Form → Form
  many : Form → Form
  -- `runs r c f g` is (c f)* (c g)*, where c is one word of the class c in the role r
  runs : ℕ → List ℕ → Form → Form → Form

-- ---- what each of these stands for

abbrev pub IsWord : ℕ → List ℕ → Labelled → Type 0
IsWord role class ls = (s : ℕ) × (ls ≡ (role, s) ∷ []) × (has class s ≡ true)

-- the depth of parentheses behind a word that stands at the depth d + 1
abbrev pub depth_behind : ℕ → ℕ → ℕ
depth_behind d s = if nat_eq s opens then suc (suc d) else (if nat_eq s closes then d else suc d)

-- words that come from a depth to 0 at the last of them and not before; all have the role 0
abbrev pub Closes : ℕ → Labelled → Type 0
Closes zero ls = ls ≡ []
Closes (suc d) [] = ⊥
Closes (suc d) (l ∷ ls) = (l.0 ≡ 0) × (nat_eq l.1 bad ≡ false) × Closes (depth_behind d l.1) ls

-- one text and then another
abbrev pub Then : (Labelled → Type 0) → (Labelled → Type 0) → Labelled → Type 0
Then D E ls = (x y : Labelled) × (ls ≡ x ++ y) × D x × E y

-- an opening parenthesis, words and groups, and the parenthesis that closes it
abbrev pub IsGroup : Labelled → Type 0
IsGroup ls = Then (IsWord 0 (opens ∷ [])) (Closes 1) ls

-- texts one after another
abbrev pub joined : List Labelled → Labelled
joined [] = []
joined (part ∷ parts) = part ++ joined parts

abbrev pub Star : (Labelled → Type 0) → Labelled → Type 0
Star D ls = (parts : List Labelled) × (ls ≡ joined parts) × AllByRecursion D parts

-- ---- the texts of a form

abbrev pub Derives : Form → Labelled → Type 0
Derives nothing ls = ls ≡ []
Derives group ls = IsGroup ls
Derives (word role class) ls = IsWord role class ls
Derives (follow f g) ls = Then (Derives f) (Derives g) ls
Derives (either f g) ls = Derives f ls ⊎ Derives g ls
Derives (maybe f) ls = (ls ≡ []) ⊎ Derives f ls
Derives (many f) ls = Star (Derives f) ls
Derives (runs role class f g) ls = Then (Star (Then (IsWord role class) (Derives f)))
    (Star (Then (IsWord role class) (Derives g))) ls

-- the words are a text of the form
abbrev pub Accepts : Form → List ℕ → Type 0
Accepts f ws = (ls : Labelled) × Derives f ls × (ws ≡ sorts ls)

-- some text of the form begins with the words
abbrev pub Begins : Form → List ℕ → Type 0
Begins f ws = (ls : Labelled) × (more : List ℕ) × Derives f ls × (sorts ls ≡ ws ++ more)

-- the words are a text of the form in one way
pub record IsText (f : Form) (ws : List ℕ) (ls : Labelled) : Type 0 where
  pub derives : Derives f ls
  pub words : ws ≡ sorts ls
  pub only : (other : Labelled) → Derives f other → ws ≡ sorts other → other ≡ ls

-- the words are no text of the form, and n is the length of the longest front of them with which some text
-- of the form begins
pub record IsFormAt (f : Form) (ws : List ℕ) (n : ℕ) : Type 0 where
  pub within : n ≤ length ws
  pub begins : Begins f (take n ws)
  pub longest : (m : ℕ) → n < m → m ≤ length ws → Begins f (take m ws) → ⊥
  pub refused : Accepts f ws → ⊥
