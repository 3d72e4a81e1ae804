-- Keys in buckets, over lent words: for each bucket the last of its keys, and for each key the one before it. 02, No. 1: "a msgid given
-- twice", "every plain string with that value", "equal values once".
use Rattle.std.specs.Prelude.{◌≡◌, Bool, true, List, ℕ, zero, suc, ◌+◌, ◌<◌, eqb, get_or, set}
use Rattle.bits.specs.Choice.{pick, both}

-- the head of bucket b after the first k keys: one more than the last of them that is entered and has this bucket, 0 where there is none
unfoldable pub head_of : (ℕ → Bool) → (ℕ → ℕ) → ℕ → ℕ → ℕ
head_of on bucket b zero = 0
head_of on bucket b (suc k) = pick (both (on k) (eqb (bucket k) b)) (suc k) (head_of on bucket b k)

-- m heads, then links, after the first k keys: a link is what the head of its key's bucket was in its turn
pub record Chained (on : ℕ → Bool) (bucket : ℕ → ℕ) (m k : ℕ) (w : List ℕ) : Type 0 where
  pub heads : (b : ℕ) → b < m → get_or w b 0 ≡ head_of on bucket b k
  pub links : (j : ℕ) → j < k → on j ≡ true → get_or w (m + j) 0 ≡ head_of on bucket (bucket j) j

-- key k becomes the head of bucket b, and links to what was the head
abbrev pub entered : List ℕ → ℕ → ℕ → ℕ → List ℕ
entered w m k b = set (set w (m + k) (get_or w b 0)) b (k + 1)
