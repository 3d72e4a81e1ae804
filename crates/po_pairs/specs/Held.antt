-- The values of a file in lent room: one behind the other in a text, with the place where each ends.
use Rattle.std.specs.Prelude.{◌≡◌, Bool, true, false, ◌⊎◌, List, [], ◌∷◌, ◌++◌, ℕ, suc, ◌+◌, ◌-◌, ◌*◌, ◌/◌, ◌%◌, ◌≤◌, ◌<◌, length}
use Rattle.std.specs.Prelude.{get_or, set, drop, Option, Some, None}
use Rattle.bits.specs.Choice.{pick}
use Rattle.format.specs.Hash.{hash_of}
use Rattle.utf.specs.Utf8.{utf16}
use Rattle.string_edits.specs.Lists.{start_in, value_in, Within}
use Rattle.chains.specs.Chains.{Chained}
use Rattle.po_lines.specs.declared.Kind.{Kind}
use Rattle.po_lines.specs.Lines.{is_ended}
use Rattle.po_lines.specs.Kinds.{Line, read_lines, opens_value, continues_value}
use Rattle.po_pairs.specs.declared.Stand.TheVariants.{Between}
use Rattle.po_pairs.specs.declared.Reached.{Reached}
use Rattle.po_pairs.specs.Order.{stand_after, ends_well, is_astray, in_value}
use Rattle.po_pairs.specs.Pairs.{values_in, Pair, msgid_of, msgstr_of, Read, outside, pairs}

-- ---- values

-- each of some values stands in the text
pub record Held (text ends : List ℕ) (vs : List (List ℕ)) : Type 0 where
  pub many : length vs ≤ length ends
  pub within : (j : ℕ) → j < length vs → Within text ends j
  pub value : (j : ℕ) → j < length vs → value_in text ends j ≡ get_or vs j []

-- each of n values stands in the text
abbrev pub AllWithin : List ℕ → List ℕ → ℕ → Type 0
AllWithin text ends n = (j : ℕ) → j < n → Within text ends j

-- the last value with some bytes more
abbrev pub last_joined : List (List ℕ) → List ℕ → List (List ℕ)
last_joined [] t = []
last_joined (v ∷ []) t = (v ++ t) ∷ []
last_joined (v ∷ w ∷ vs) t = v ∷ last_joined (w ∷ vs) t

-- values after one more line: it opens one, or continues the last
abbrev pub joined_by : List (List ℕ) → Line → List (List ℕ)
joined_by vs l = pick (opens_value l.kind) (vs ++ (l.text ∷ [])) (pick (continues_value l.kind) (last_joined vs l.text) vs)

-- values after all
unfoldable pub grown : List (List ℕ) → List Line → List (List ℕ)
grown vs [] = vs
grown vs (l ∷ ls) = grown (joined_by vs l) ls

-- the end places after one more line, whose text ends at `to`, and how many values there are
abbrev pub ends_after : List ℕ → ℕ → Kind → ℕ → List ℕ
ends_after ends n k to = pick (opens_value k) (set ends n to) (pick (continues_value k) (set ends (n - 1) to) ends)

abbrev pub count_after : ℕ → Kind → ℕ
count_after n k = pick (opens_value k) (n + 1) n

-- ---- reading

-- room for any file: a byte for each of its bytes, and a word for each 8 of them and one more
pub record Roomy (s text ends : List ℕ) : Type 0 where
  pub bytes : length text ≡ length s
  pub words : length ends ≡ length s / 8 + 1
  pub low : length s < 4294967296

-- the lines up to a place are read: their values, and where the lines stand
pub record ReadTo (s text ends : List ℕ) (p : Reached) : Type 0 where
  pub values : List (List ℕ)
  pub held : Held text ends values
  pub many : p.values ≡ length values
  pub end : p.to ≡ start_in ends p.values
  pub left : grown values (read_lines (drop p.at s)) ≡ grown [] (read_lines s)
  pub order : stand_after p.stand (read_lines (drop p.at s)) ≡ stand_after Between (read_lines s)
  pub begun : in_value p.stand ≡ true → 0 < p.values
  pub within : p.at ≤ length s
  pub low : p.to ≤ p.at
  pub few : p.values * 8 ≤ p.at

-- the lines are outside the subset
abbrev pub Unread : List ℕ → Type 0
Unread s = (is_ended s ≡ false) ⊎ (ends_well (stand_after Between (read_lines s)) ≡ false)

-- after one more line
pub record Turned (s text ends : List ℕ) (p r : Reached) : Type 0 where
  pub faulty : is_astray r.stand ≡ true → Unread s
  pub sound : is_astray r.stand ≡ false → ReadTo s text ends r
  pub onward : is_astray r.stand ≡ false → p.at < r.at

-- after all
abbrev pub HeldAs : List ℕ → List ℕ → List ℕ → Option ℕ → Type 0
HeldAs s text ends (Some n) =
    (ends_well (stand_after Between (read_lines s)) ≡ true) × (n ≡ length (values_in s)) × Held text ends (values_in s)
HeldAs s text ends None = Unread s

-- ---- pairs

-- msgid q is value q + q, and its msgstr the next one
pub record HeldPairs (text ends : List ℕ) (ps : List Pair) : Type 0 where
  pub many : length ps + length ps ≤ length ends
  pub within : (j : ℕ) → j < length ps + length ps → Within text ends j
  pub msgids : (q : ℕ) → q < length ps → value_in text ends (q + q) ≡ msgid_of ps q
  pub msgstrs : (q : ℕ) → q < length ps → value_in text ends (suc (q + q)) ≡ msgstr_of ps q

-- msgid q as it stands there
abbrev pub id_in : List ℕ → List ℕ → ℕ → List ℕ
id_in text ends q = value_in text ends (q + q)

-- its bucket, of m
abbrev pub bucket_in : List ℕ → List ℕ → ℕ → ℕ → ℕ
bucket_in text ends m q = hash_of (utf16 (id_in text ends q)) % m

-- the first k pairs are in chains of m buckets
abbrev pub ChainedPairs : List ℕ → List ℕ → ℕ → ℕ → List ℕ → Type 0
ChainedPairs text ends m k w = Chained (λ q. true) (bucket_in text ends m) m k w

-- k pairs, unless a msgid is given twice
abbrev pub pairs_or : Bool → ℕ → Option ℕ
pairs_or new k = pick new (Some k) None

-- what the reader promises: the number of pairs, each in the lent room and in the chains; or that the file is outside the subset
abbrev pub ReadAs : Read → Option ℕ → List ℕ → List ℕ → List ℕ → Type 0
ReadAs outside r text ends w = r ≡ None
ReadAs (pairs ps) r text ends w =
    (r ≡ Some (length ps)) × HeldPairs text ends ps × ChainedPairs text ends (length ends) (length ps) w
