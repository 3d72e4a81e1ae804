-- The words that are lent for the look-up: chains of the pairs, a flag for each pair that was found, and a mark for each string. 02, No. 1.
-- docs/FORMAT.md: Translators' files.
use Rattle.std.specs.Prelude.{◌≡◌, Bool, true, not, List, ℕ, zero, suc, ◌+◌, ◌%◌, ◌≤◌, ◌<◌, ltb, eqb, length, get_or}
use Rattle.bits.specs.Choice.{pick, implies, all_below}
use Rattle.format.specs.Hash.{hash_of}
use Rattle.utf.specs.Utf8.{utf16}
use Rattle.sections.specs.declared.Places.{Places}
use Rattle.string_edits.specs.Lists.{value_in, Within}
use Rattle.chains.specs.Chains.{Chained}
use Rattle.po_targets.specs.Targets.{applied, target_of}

-- ---- pairs as they are lent: msgid, msgstr, msgid, msgstr, .. one behind the other in a text

abbrev pub id_in : List ℕ → List ℕ → ℕ → List ℕ
id_in text ends q = value_in text ends (q + q)

abbrev pub str_in : List ℕ → List ℕ → ℕ → List ℕ
str_in text ends q = value_in text ends (suc (q + q))

-- the bucket, of m, of some units
abbrev pub bucket_of : ℕ → List ℕ → ℕ
bucket_of m units = hash_of units % m

-- no two of the first k pairs have one msgid
abbrev pub Different : List ℕ → List ℕ → ℕ → Type 0
Different text ends k = (a b : ℕ) → a < k → b < k → utf16 (id_in text ends a) ≡ utf16 (id_in text ends b) → a ≡ b

-- k pairs stand in a text, and all of them are in the chains of m buckets at the front of the words; no sum of these numbers wraps
pub record Entered (text ends : List ℕ) (k m : ℕ) (w : List ℕ) : Type 0 where
  pub within : (j : ℕ) → j < k + k → Within text ends j
  pub few : k ≤ m
  pub some : 0 < m
  pub most : m ≤ 536870913
  pub chained : Chained (λ q. true) (λ q. bucket_of m (utf16 (id_in text ends q))) m k w

-- ---- flags and marks; `t` is the pair of each string, counted as in `target_of`

-- 1 where one of the first i strings has pair q, else 0
unfoldable pub found_by : (ℕ → ℕ) → ℕ → ℕ → ℕ
found_by t q zero = 0
found_by t q (suc i) = pick (eqb (t i) (suc q)) 1 (found_by t q i)

-- the mark of a string that gets a pair, counted so: one more than the number of the pair's second value, 0 for none
abbrev pub mark_of : ℕ → ℕ
mark_of target = target + target

-- the mark of string j after the first i
abbrev pub mark_by : (ℕ → ℕ) → ℕ → ℕ → ℕ
mark_by t i j = pick (ltb j i) (mark_of (t j)) 0

-- the first i of n strings are looked up: flags behind the chains, marks behind the flags
pub record Marked (t : ℕ → ℕ) (m n i : ℕ) (w : List ℕ) : Type 0 where
  pub long : length w ≡ m + m + m + n
  pub found : (q : ℕ) → q < m → get_or w (m + m + q) 0 ≡ found_by t q i
  pub marks : (j : ℕ) → j < n → get_or w (m + m + m + j) 0 ≡ mark_by t i j

-- the same of the strings of an image, with the chains still there
pub record Looked (p : Places) (s text ends : List ℕ) (k m i : ℕ) (w : List ℕ) : Type 0 where
  pub entered : Entered text ends k m w
  pub marked : Marked (target_of p.layout s (id_in text ends) (str_in text ends) k) m p.strings i w

-- pair q has its flag, or is not applied
abbrev pub settled : List ℕ → List ℕ → ℕ → List ℕ → ℕ → Bool
settled text ends m w q = implies (applied (id_in text ends q) (str_in text ends q)) (not (eqb (get_or w (m + m + q) 0) 0))

-- each of the first k pairs
abbrev pub all_flagged : List ℕ → List ℕ → ℕ → ℕ → List ℕ → Bool
all_flagged text ends k m w = all_below k (settled text ends m w)
