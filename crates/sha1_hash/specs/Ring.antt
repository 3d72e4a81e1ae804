-- 02, No. 3: the ring of 16 words that the schedule is worked in. The standard has the like in 6.1.3; here the schedule is the one
-- of 80 words, of 6.1.2, and the ring is said to hold words of it.
use Rattle.std.specs.Prelude.{◌≡◌, List, ℕ, ◌+◌, ◌%◌, ◌≤◌, ◌<◌, length, get_or}
use Rattle.sha1_hash.specs.Sha1.{schedule, rounds}

-- before round t the ring holds the words of a schedule w before W_t, the last 16 of them: W_j in place j % 16
unfoldable pub Holds : List ℕ → ℕ → List ℕ → Type 0
Holds w t ring = (length ring ≡ 16) × ((j : ℕ) → j < t → t ≤ j + 16 → get_or ring (j % 16) 0 ≡ get_or w j 0)

-- before round t of a block: the variables v are what t rounds have made of the hash value h, and what the ring holds
unfoldable pub AtRound : List ℕ → List ℕ → ℕ → List ℕ → List ℕ → Type 0
AtRound h block t v ring = (64 ≤ length block) × (v ≡ rounds 0 t h (schedule block)) × Holds (schedule block) t ring
