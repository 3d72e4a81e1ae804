-- Lists: what stands behind another list, and bounds that every element meets.
use Rattle.std.proofs.Common.{◌≡◌, ℕ, zero, suc, ◌+◌, ◌/◌, ◌<◌, List, [], ◌∷◌, ◌++◌, length, get_or, take, drop, set, replicate}
use Rattle.std.proofs.Common.{arith, get_or-drop, get_or-append-add}
use lib.Seq.{sets}
use Rattle.bits.specs.Bytes.{bytes_of}

-- element j of the second of two lists
pub get_d_past : (xs ys : List ℕ) (n j : ℕ) → length xs ≡ n → get_or (xs ++ ys) (n + j) 0 ≡ get_or ys j 0
get_d_past xs ys n j e = rw (← e) (get_or-append-add xs ys j 0)

-- bytes stand in a list from a place on
abbrev pub Lies : List ℕ → ℕ → List ℕ → Type 0
Lies s at xs = (j : ℕ) → j < length xs → get_or s (at + j) 0 ≡ get_or xs j 0

-- ---- every element is below k

abbrev pub AllBelow : ℕ → List ℕ → Type 0
AllBelow k xs = (p : ℕ) → get_or xs p 0 < k

module _ (k : ℕ) (some : 0 < k) where
  pub below_nil : AllBelow k []
  below_nil p = some

  pub below_append : (xs ys : List ℕ) → AllBelow k xs → AllBelow k ys → AllBelow k (xs ++ ys)
  below_append [] ys h g p = g p
  below_append (x ∷ xs) ys h g zero = h 0
  below_append (x ∷ xs) ys h g (suc p) = below_append xs ys (λ q. h (suc q)) g p

  pub below_take : (n : ℕ) (xs : List ℕ) → AllBelow k xs → AllBelow k (take n xs)
  below_take zero xs h p = some
  below_take (suc n) [] h p = some
  below_take (suc n) (x ∷ xs) h zero = h 0
  below_take (suc n) (x ∷ xs) h (suc p) = below_take n xs (λ q. h (suc q)) p

  pub below_drop : (n : ℕ) (xs : List ℕ) → AllBelow k xs → AllBelow k (drop n xs)
  below_drop n xs h p = rw get_or-drop (h (n + p))

  pub below_zeros : (n : ℕ) → AllBelow k (replicate n 0)
  below_zeros zero p = some
  below_zeros (suc n) zero = some
  below_zeros (suc n) (suc p) = below_zeros n p

  below_set : (xs : List ℕ) (i v : ℕ) → v < k → AllBelow k xs → AllBelow k (set xs i v)
  below_set [] i v b h p = h p
  below_set (x ∷ xs) zero v b h zero = b
  below_set (x ∷ xs) zero v b h (suc p) = h (suc p)
  below_set (x ∷ xs) (suc i) v b h zero = h 0
  below_set (x ∷ xs) (suc i) v b h (suc p) = below_set xs i v b (λ q. h (suc q)) p

  pub below_sets : (vs xs : List ℕ) (i : ℕ) → AllBelow k vs → AllBelow k xs → AllBelow k (sets xs i vs)
  below_sets [] xs i b h = h
  below_sets (v ∷ vs) xs i b h = below_sets vs (set xs i v) (suc i) (λ q. b (suc q)) (below_set xs i v (b 0) h)

-- the bytes of a number are bytes
pub below_bytes_of : (n x : ℕ) → AllBelow 256 (bytes_of n x)
unfolding bytes_of
below_bytes_of zero x p = omega arith
below_bytes_of (suc n) x zero = omega arith
below_bytes_of (suc n) x (suc p) = below_bytes_of n (x / 256) p
