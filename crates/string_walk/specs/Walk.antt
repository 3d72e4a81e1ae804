-- The walk that locates a string, and how many table entries it visits. 02, No. 9: "the number of small and of overflow entries
-- visited. The count equals the one in a definition of the walk".
-- docs/FORMAT.md: Locating.
use Rattle.std.specs.Prelude.{◌≡◌, List, [], ◌∷◌, ◌++◌, ℕ, zero, suc}
use Rattle.bits.specs.Choice.{pick}
use Rattle.format.specs.declared.Layout.{Layout}
use Rattle.image.specs.Strings.{is_full, over_before, small_in}
use Rattle.string_walk.specs.declared.Counts.{Counts}

-- ---- the walk, in what it reads: w gives the small entries

-- small entry i, or pair k of the overflow table
pub data Read : Type 0 where
  small : ℕ → Read
  pair : ℕ → Read

-- at string i: its small entry and, where that overflows, its pair. 01: "Length 255 means the next overflow pair .., counted in id order"
unfoldable pub reads_at : (ℕ → ℕ) → ℕ → List Read
reads_at w i = small i ∷ pick (is_full (w i)) (pair (over_before w i) ∷ []) []

-- the first n strings, one after the other
unfoldable pub walk : (ℕ → ℕ) → ℕ → List Read
walk w zero = []
walk w (suc n) = walk w n ++ reads_at w n

-- ---- counted along it

-- how many of the reads are small entries
unfoldable pub smalls : List Read → ℕ
smalls [] = 0
smalls (small i ∷ rs) = suc (smalls rs)
smalls (pair k ∷ rs) = smalls rs

-- and how many are pairs
unfoldable pub pairs : List Read → ℕ
pairs [] = 0
pairs (small i ∷ rs) = pairs rs
pairs (pair k ∷ rs) = suc (pairs rs)

-- both
unfoldable pub counted : List Read → Counts
counted rs = record { small = smalls rs; over = pairs rs }

-- ---- in an image

-- what locating string id visits: the entries of the strings up to it, its own among them
unfoldable pub visits : Layout → List ℕ → ℕ → Counts
visits l s id = counted (walk (small_in l s) (suc id))

-- a walk has visited the entries of the strings before the next one, and no others
abbrev pub Walked : Layout → List ℕ → Counts → Type 0
Walked l s c = c ≡ counted (walk (small_in l s) c.small)
