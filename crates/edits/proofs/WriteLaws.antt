-- Lists of writes: what they leave, and what they put. Splices: where bytes go.
use mathlib.Core.Path.{◌≡◌, refl, ◌∙◌}
use mathlib.Core.Logic.{inl, inr, ◌≢◌}
use mathlib.Core.List.{List, [], ◌∷◌, ◌++◌}
use Prim.Native.Nat.{ℕ, zero, suc, ◌+◌, ◌-◌, ◌≤◌, ◌<◌}
use native.Mathlib.Nat.{not-suc-le-zero}
use native.Mathlib.Omega.{arith}
use lib.ListN.{length, get_or, take, drop, length-append, length-drop, get_or-append}
use lib.Seq.{sets, length-sets, get_or-take, get_or-drop, get_or-append-add, length-take-le}
use Rattle.bits.proofs.TestLaws.{below}
use Rattle.bits.proofs.ListLaws.{get_d_past, AllBelow, below_append, below_take, below_drop, below_sets}
use Rattle.bits.proofs.WriteLaws.{sets_off, sets_byte}
use Rattle.format.specs.Move.{moved}
use Rattle.format.proofs.MoveLaws.{moved-high}
use Rattle.edits.specs.Edit.{splice, Write, write_all, groups}

-- ---- a list of writes

-- a write does not touch place p; no write of a list does
abbrev pub Off : ℕ → Write → Type 0
Off p w = w.place ≤ p → w.place + length w.bytes ≤ p

abbrev pub Outside : ℕ → List Write → Type 0
Outside p [] = Unit {0}
Outside p (w ∷ ws) = Off p w × Outside p ws

pub length_writes : (ws : List Write) (s : List ℕ) → length (write_all ws s) ≡ length s
unfolding write_all
length_writes [] s = refl
length_writes (w ∷ ws) s = length_writes ws (sets s w.place w.bytes) ∙ length-sets s w.place w.bytes

pub writes_append : (xs ys : List Write) (s : List ℕ) → write_all (xs ++ ys) s ≡ write_all ys (write_all xs s)
unfolding write_all
writes_append [] ys s = refl
writes_append (w ∷ xs) ys s = writes_append xs ys (sets s w.place w.bytes)

-- a byte that no write touches stays
pub writes_off : (ws : List Write) (s : List ℕ) (p : ℕ) → Outside p ws → get_or (write_all ws s) p 0 ≡ get_or s p 0
unfolding write_all
writes_off [] s p o = refl
writes_off (w ∷ ws) s p o = writes_off ws (sets s w.place w.bytes) p o.1 ∙ sets_off w.bytes s w.place p o.0

-- a byte after the writes hangs only on that byte before
pub writes_byte : (ws : List Write) (s t : List ℕ) (p : ℕ) → length s ≡ length t → get_or s p 0 ≡ get_or t p 0
    → get_or (write_all ws s) p 0 ≡ get_or (write_all ws t) p 0
unfolding write_all
writes_byte [] s t p l e = e
writes_byte (w ∷ ws) s t p l e =
    writes_byte ws (sets s w.place w.bytes) (sets t w.place w.bytes) p (simp length-sets l)
    (sets_byte w.bytes s t w.place p l e)

-- writes of bytes
abbrev pub Bytes : List Write → Type 0
Bytes [] = Unit {0}
Bytes (w ∷ ws) = AllBelow 256 w.bytes × Bytes ws

pub writes_below : (ws : List Write) (s : List ℕ) → Bytes ws → AllBelow 256 s → AllBelow 256 (write_all ws s)
unfolding write_all
writes_below [] s b h = h
writes_below (w ∷ ws) s b h =
    writes_below ws (sets s w.place w.bytes) b.1 (below_sets 256 (omega arith) w.bytes s w.place b.0 h)

-- ---- a group of writes for each number

module _ (g : ℕ → List Write) (s : List ℕ) where
  -- a byte that no group touches stays
  pub groups_off : (p n : ℕ) → ((j : ℕ) → j < n → Outside p (g j)) → get_or (write_all (groups n g) s) p 0 ≡ get_or s p 0
  unfolding groups write_all
  groups_off p zero o = refl
  groups_off p (suc n) o =
      rw (writes_append (groups n g) (g n) s)
      (writes_off (g n) (write_all (groups n g) s) p (o n (omega arith)) ∙ groups_off p n (λ j h. o j (omega arith)))

  -- a byte that only group i may touch is as after group i alone
  pub groups-at : (p n i : ℕ) → i < n → ((j : ℕ) → j < n → j ≢ i → Outside p (g j))
      → get_or (write_all (groups n g) s) p 0 ≡ get_or (write_all (g i) s) p 0
  unfolding groups
  groups-at p zero i h o = absurd (not-suc-le-zero h)
  groups-at p (suc n) i h o =
      rw (writes_append (groups n g) (g n) s)
      (elim (below i n h) [
        | inl e ↦ rw e (writes_byte (g n) (write_all (groups n g) s) s p (length_writes (groups n g) s)
            (groups_off p n (λ j k. o j (omega arith) (λ q. omega arith))))
        | inr l ↦ writes_off (g n) (write_all (groups n g) s) p (o n (omega arith) (λ q. omega arith))
            ∙ groups-at p n i l (λ j k. o j (omega arith))
      ])

  pub groups_below : (n : ℕ) → ((j : ℕ) → Bytes (g j)) → AllBelow 256 s → AllBelow 256 (write_all (groups n g) s)
  unfolding groups write_all
  groups_below zero b h = h
  groups_below (suc n) b h =
      rw (writes_append (groups n g) (g n) s) (writes_below (g n) (write_all (groups n g) s) (b n) (groups_below n b h))

-- ---- splices

module _ (a b : ℕ) (new s : List ℕ) (fits : a ≤ length s) where
  pub splice-low : (p : ℕ) → p < a → get_or (splice a b new s) p 0 ≡ get_or s p 0
  unfolding splice
  splice-low p h = get_or-append (take a s) (new ++ drop b s) 0 p (rw (length-take-le a s fits) h) ∙ get_or-take a s p 0 h

  pub splice_new : (j : ℕ) → j < length new → get_or (splice a b new s) (a + j) 0 ≡ get_or new j 0
  unfolding splice
  splice_new j h = get_d_past (take a s) (new ++ drop b s) a j (length-take-le a s fits) ∙ get_or-append new (drop b s) 0 j h

  pub splice-high : (p : ℕ) → b ≤ p → get_or (splice a b new s) (moved b (a + length new) p) 0 ≡ get_or s p 0
  unfolding splice
  splice-high p h =
      let e : p - b + (a + length new) ≡ a + (length new + (p - b)) = omega arith in
      let f : b + (p - b) ≡ p = omega arith in
      rw (moved-high b (a + length new) p h, e)
      (get_d_past (take a s) (new ++ drop b s) a (length new + (p - b)) (length-take-le a s fits)
      ∙ get_or-append-add new (drop b s) (p - b) 0 ∙ get_or-drop b s (p - b) 0 ∙ rw f)

  pub length-splice : b ≤ length s → length (splice a b new s) ≡ length s - b + (a + length new)
  unfolding splice
  length-splice h = simp (length-append, length-drop, length-take-le a s fits) (omega arith)

pub splice_below : (a b : ℕ) (new s : List ℕ) → AllBelow 256 new → AllBelow 256 s → AllBelow 256 (splice a b new s)
unfolding splice
splice_below a b new s n h =
    below_append 256 (omega arith) (take a s) (new ++ drop b s) (below_take 256 (omega arith) a s h)
    (below_append 256 (omega arith) new (drop b s) n (below_drop 256 (omega arith) b s h))
