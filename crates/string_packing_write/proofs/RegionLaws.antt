-- The tables of a list of strings, one string longer, and side by side.
use mathlib.Core.Path.{◌≡◌, refl, sym, ◌∙◌}
use mathlib.Core.List.{List, ◌++◌}
use Prim.Native.Nat.{ℕ, suc, ◌+◌, ◌-◌, ◌*◌, ◌≤◌}
use native.Mathlib.Omega.{arith}
use lib.ListN.{length, replicate, length-append}
use lib.Seq.{sets}
use Rattle.bits.specs.Bytes.{bytes_of, up4}
use Rattle.bits.proofs.ByteLaws.{length-bytes_of}
use Rattle.bits.proofs.WriteLaws.{sets_append, sets_comm}
use Rattle.format.specs.declared.Mode.{Mode}
use Rattle.format.specs.Entry.{Place, small_word}
use Rattle.image.specs.Strings.{Str}
use Rattle.edits.specs.Packing.{Packed, gap_of, start_of, placed, store_of, packed}
use Rattle.edits.specs.Rebuild.{smalls, pair_if_over, pairs, overs, region, padded}
use Rattle.edits.proofs.TableLaws.{overs_next, smalls_next, pairs_next, size-smalls, size_pair, size-pairs}
use Rattle.edits.proofs.PackLaws.{store_next}
use Rattle.string_packing_write.specs.declared.RegionPlaces.{RegionPlaces}
use Rattle.string_packing_write.specs.Region.{put_entry, put_string, region_put}

-- ---- writes apart

-- three writes in turn, each made longer
longer : (A a P p S s o : List ℕ) (x y z : ℕ) → x + length A + length a ≤ y → y + length P + length p ≤ z
    → sets (sets (sets o x (A ++ a)) y (P ++ p)) z (S ++ s) ≡ sets
    (sets (sets (sets (sets (sets o x A) y P) z S) (x + length A) a) (y + length P) p) (z + length S) s
longer A a P p S s o x y z h k =
    rw (
      sets_append A,
      sets_append P,
      sets_append S,
      sets_comm a S (sets (sets o x A) y P) (x + length A) z (omega arith),
      sets_comm a P (sets o x A) (x + length A) y (omega arith),
      sets_comm p S (sets (sets (sets o x A) (x + length A) a) y P) (y + length P) z (omega arith),
    )

-- ---- one string more

module _ (m : Mode) (to : RegionPlaces) (f : ℕ → Str) (i : ℕ) (out : List ℕ) where
  abbrev at : ℕ
  at = length (store_of m f i)

  abbrev ps : ℕ → Place
  ps = placed m f

  abbrev before : List ℕ
  before = region_put to i (packed m f i) out

  pub laid_next : to.small_at + i * 4 + 4 ≤ to.over_at → to.over_at + overs ps (suc i) * 8 ≤ to.storage_at
      → region_put to (suc i) (packed m f (suc i)) out ≡ put_string m to i (overs ps i) at (f i) before
  unfolding region_put put_string put_entry start_of
  laid_next h l =
      let w : ℕ = small_word (overs ps i) (ps i) in
      let A : List ℕ = smalls ps i in
      let B : List ℕ = pairs ps i in
      let zeros : List ℕ = replicate (gap_of m (f i).wide at) 0 in
      let j : to.small_at + length A + length (bytes_of 4 w) ≤ to.over_at = rw (size-smalls ps i, length-bytes_of 4 w) h in
      let k : to.over_at + length B + length (pair_if_over (ps i)) ≤ to.storage_at
      = rw (size-pairs ps i, size_pair ps i) (omega (arith, l, overs_next ps i)) in
      rw (
        store_next m f i,
        smalls_next ps i,
        pairs_next ps i,
        longer A (bytes_of 4 w) B (pair_if_over (ps i)) (store_of m f i) (zeros ++ (f i).bytes) out to.small_at to.over_at
            to.storage_at j k,
        size-smalls ps i,
        size-pairs ps i,
      )
      refl

pub laid_none : (m : Mode) (to : RegionPlaces) (f : ℕ → Str) (out : List ℕ) → out ≡ region_put to 0 (packed m f 0) out
unfolding region_put store_of smalls pairs
laid_none m to f out = refl

-- ---- the tables side by side, then zeros

-- each table starts where the one before it ends
pub record Joined (to : RegionPlaces) (n : ℕ) (ps : Packed) : Type 0 where
  pub over : to.over_at ≡ to.small_at + n * 4
  pub storage : to.storage_at ≡ to.over_at + overs ps.place n * 8

-- n strings are written, then zeros up to a multiple of 4
pub record Filled (to : RegionPlaces) (n : ℕ) (ps : Packed) (end up : ℕ) (out o1 o2 : List ℕ) : Type 0 where
  pub strings : o1 ≡ region_put to n ps out
  pub four : up ≡ up4 end
  pub zeros : o2 ≡ sets o1 end (replicate (up - end) 0)

module _ (to : RegionPlaces) (n : ℕ) (ps : Packed) (j : Joined to n ps) where
  laid-region : (out : List ℕ) → region_put to n ps out ≡ sets out to.small_at (region n ps)
  unfolding region_put region
  laid-region out =
      rw (
        sets_append (smalls ps.place n),
        sets_append (pairs ps.place n),
        size-smalls ps.place n,
        size-pairs ps.place n,
        j.storage,
        j.over,
      )

  length-region : to.small_at + length (region n ps) ≡ to.storage_at + length ps.store
  unfolding region
  length-region =
      rw (length-append, length-append, size-smalls ps.place n, size-pairs ps.place n, j.storage, j.over)
      (omega arith)

  pub region-padded : (end up : ℕ) (out o1 o2 : List ℕ) → end ≡ to.storage_at + length ps.store
      → Filled to n ps end up out o1 o2
      → o2 ≡ sets out to.small_at (padded to.small_at (region n ps))
  unfolding padded
  region-padded end up out o1 o2 d f =
      let l : to.small_at + length (region n ps) ≡ end = length-region ∙ sym d in
      rw (sets_append (region n ps), l, ← laid-region out, ← f.strings) (rw f.four at f.zeros)
