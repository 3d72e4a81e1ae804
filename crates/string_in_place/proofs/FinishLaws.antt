-- The hash slot, the file length and the footer.
use Rattle.std.specs.Prelude.{Err, None, Option, Result, Some}
use mathlib.Core.Path.{◌≡◌, refl, ap, sym, ◌∙◌}
use mathlib.Core.Bool.{Bool, true, false}
use mathlib.Core.List.{List, []}
use Prim.Native.Nat.{ℕ, ◌+◌, ◌-◌, ◌*◌, ◌≤◌, ◌<◌}
use native.Mathlib.Nat.{sub-zero}
use native.Mathlib.Omega.{arith}
use borrow.Rule.Slice.PartMut.{put_mid}
use lib.ListN.{length, take, drop, drop_of_length-le}
use lib.Seq.{sets, length-sets, length-take-le}
use Rattle.bits.specs.Choice.{pick}
use Rattle.bits.specs.Bytes.{bytes_of}
use Rattle.bits.specs.Outcome.{Outcome, Answers, made, roomed}
use Rattle.bits.proofs.OutcomeLaws.{roomed_short, roomed-fits, lent-front}
use Rattle.format.specs.declared.Layout.{Layout}
use Rattle.format.specs.Hash.{hash_of}
use Rattle.footer.specs.Finalize.{least_length, lengthed, sealed, finalize_of}
use Rattle.footer.proofs.FinalizeLaws.{finalize_within, length_finalized}
use Rattle.utf.specs.Utf8.{utf16}
use Rattle.image.specs.Sections.{strings_in, hashes_at}
use Rattle.image.specs.Kinds.{is_identifier, rank_of}
use Rattle.sections.specs.declared.Places.{Places}
use Rattle.sections.specs.Places.{Laid}
use Rattle.string_walk.specs.Records.{rank_in}
use Rattle.string_walk.proofs.RankLaws.{is_ranked_lem, is_plain, hashes_from_lem, slot_in, rank_slot}
use Rattle.string_edits.specs.Values.{Values}
use Rattle.string_edits.proofs.TurnLaws.{turn_keeps}
use Rattle.string_in_place.specs.Known.{slotted, SlotFits, Finishable}
use Rattle.string_in_place.specs.Patch.{hashed, rehashed, finished}

-- ---- the hash slot

-- the record's rank is that of string id of an admitted image, and a buffer of n bytes holds the image's hash slots
pub record Slotted (p : Places) (s : List ℕ) (id : ℕ) (rank : Option ℕ) (n : ℕ) : Type 0 where
  pub laid : Laid p s
  pub known : id < p.strings
  pub ranked : rank ≡ rank_in p.layout s id
  pub fits : Finishable p n

module _ (p : Places) (s : List ℕ) (id : ℕ) (rank : Option ℕ) (n : ℕ) (h : Slotted p s id rank n) where
  pub slot_fits : SlotFits p.hashes_at rank n
  slot_fits = record {
    slot = λ k e.
        let b : k < p.identifiers = rank_slot p s h.laid id h.known rank h.ranked k e in
        omega (arith, slot_in p s h.laid.placed k b, h.fits.slots);
    limit = h.fits.limit;
  }

  -- the slot of that rank is the one that 01 names
  pub slotted-is : (value out : List ℕ) → slotted p.hashes_at rank (utf16 value) out ≡ hashed p.layout s id value out
  unfolding hashed
  slotted-is value out = go rank h.ranked
    where
      go : (r : Option ℕ) → r ≡ rank_in p.layout s id
          → slotted p.hashes_at r (utf16 value) out ≡ pick (is_identifier p.layout s id)
          (sets out (hashes_at p.layout s + rank_of p.layout s id * 4) (bytes_of 4 (hash_of (utf16 value)))) out
      go (Some k) e =
          let (t, g) = is_ranked_lem p.layout s id (Some k) e k refl in
          rw (t, g, hashes_from_lem p s h.laid.placed)
      go None e = rw (is_plain p.layout s id None e refl)

length-hashed : (l : Layout) (s : List ℕ) (id : ℕ) (value out : List ℕ) → length (hashed l s id value out) ≡ length out
unfolding hashed
length-hashed l s id value out = go (is_identifier l s id)
  where
    go : (b : Bool) → length (pick b (sets out (hashes_at l s + rank_of l s id * 4) (bytes_of 4 (hash_of (utf16 value)))) out) ≡ length out
    go true = length-sets out (hashes_at l s + rank_of l s id * 4) (bytes_of 4 (hash_of (utf16 value)))
    go false = refl

length-rehashed : (l : Layout) (s : List ℕ) (v : Values) (out : List ℕ) → length (rehashed l s v out) ≡ length out
unfolding rehashed
length-rehashed l s v out = turn_keeps v (hashed l s) out length (strings_in s) (λ i value b. length-hashed l s i value b)

-- ---- the whole

-- a buffer that is overwritten whole may hold anything before
pub answers_over : (new a b c : List ℕ) (r : Result ℕ ℕ) → length a ≡ length new → length b ≡ length new → Answers (made new) r a c
    → Answers (made new) r b c
answers_over new a b c r e f h =
    let x : drop (length new) a ≡ [] = drop_of_length-le a {i = length new} (omega arith) in
    let y : drop (length new) b ≡ [] = drop_of_length-le b {i = length new} (omega arith) in
    (h.0, rw y (rw x at h.1))

pub length-finished : (l : Layout) (s : List ℕ) (v : Values) (out : List ℕ) → least_length ≤ length out
    → length (finished l s v out) ≡ length out
unfolding finished
length-finished l s v out least =
    length_finalized (rehashed l s v out) (rw (length-rehashed l s v out) least) ∙ length-rehashed l s v out

pub finish_is : (l : Layout) (s : List ℕ) (v : Values) (p : Places) (out : List ℕ) → Finishable p (length out)
    → (o₁ o₂ : List ℕ) (r : Result ℕ ℕ) → o₁ ≡ rehashed l s v out → Answers (finalize_of o₁) r o₁ o₂
    → Answers (made (finished l s v out)) r out o₂
unfolding finished
finish_is l s v p out h o₁ o₂ r e a =
    let n : length o₁ ≡ length out = ap length e ∙ length-rehashed l s v out in
    let f : finalize_of o₁ ≡ made (sealed (lengthed o₁))
    = finalize_within o₁ (omega (arith, h.least)) (omega (arith, h.limit)) in
    let k : length (sealed (lengthed o₁)) ≡ length o₁ = length_finalized o₁ (omega (arith, h.least)) in
    rw (← e) (answers_over (sealed (lengthed o₁)) o₁ out o₂ r (sym k) (sym n ∙ sym k) (rw f at a))

-- ---- in a buffer of any length

-- an outcome is made, and has n bytes
pub record Makes (o : Outcome) (new : List ℕ) (n : ℕ) : Type 0 where
  pub is : o ≡ made new
  pub long : length new ≡ n

module _ (o : Outcome) (new out : List ℕ) (n : ℕ) (m : Makes o new n) where
  pub room_short : length out < n → Answers (roomed (length out) o) (Err 13) out out
  room_short h = rw (m.is, roomed_short (length out) new (omega (arith, m.long))) (refl, refl)

  pub room-written : n ≤ length out → (part : List ℕ) (r : Result ℕ ℕ) → Answers (made new) r (take (n - 0) (drop 0 out)) part
      → Answers (roomed (length out) o) r out (put_mid 0 (n - 0) out part)
  room-written h part r a =
      rw (m.is, roomed-fits (length out) new (omega (arith, m.long)), sub-zero)
      (lent-front new out part n r (sym m.long) h (rw sub-zero at a))

pub part_length : (out : List ℕ) (n : ℕ) → n ≤ length out → length (take (n - 0) (drop 0 out)) ≡ n
part_length out n h = rw sub-zero (length-take-le n out h)
