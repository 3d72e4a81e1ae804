-- What a patch of strings leaves of an image: its frame, and the hash slots until they are written. What finalize does not see.
use mathlib.Core.Path.{◌≡◌, refl, ap, sym, ◌∙◌, subst}
use mathlib.Core.Bool.{true, false}
use mathlib.Core.Logic.{inl, inr}
use mathlib.Core.List.{List}
use Prim.Native.Nat.{ℕ, ◌+◌, ◌-◌, ◌≤◌, ◌<◌}
use native.Mathlib.Omega.{arith}
use lib.ListN.{length, get_or, take}
use lib.Seq.{sets, length-sets, length-take-le, get_or-take, ext_get_or}
use Rattle.bits.specs.Bytes.{bytes_of}
use Rattle.bits.proofs.TestLaws.{which, below_or}
use Rattle.bits.proofs.ByteLaws.{length-bytes_of}
use Rattle.bits.proofs.WriteLaws.{sets_byte}
use Rattle.format.specs.declared.Layout.{Layout}
use Rattle.format.specs.declared.Mode.{Mode}
use Rattle.format.proofs.MoveLaws.{moved-high}
use Rattle.footer.specs.Footer.{footer_length, footed}
use Rattle.footer.specs.Finalize.{least_length, lengthed, sealed}
use Rattle.image.specs.Sections.{hashes_at, small_at, tail_at}
use Rattle.image.specs.Admitted.{Admitted}
use Rattle.image.proofs.PlaceLaws.{ordered}
use Rattle.edits.specs.Rebuild.{rebuild}
use Rattle.edits.proofs.ReadLaws.{Agree, functions_same, kind_count-same, identifier_count-same, hashes_at-same, small_at-same, counts_of}
use Rattle.edits.proofs.HitLaws.{off_or, sets_hit}
use Rattle.edits.proofs.RebuildLaws.{length_rebuilt, rebuilt_middle}
use Rattle.edits.proofs.FrameLaws.{NotLength, Settled, Restrung, restrung_same, restrung_rebuilt, restrung_then}
use Rattle.string_edits.specs.Values.{Values}
use Rattle.string_packing.specs.Strings.{string_with, strings_with}
use Rattle.string_in_place.specs.Patch.{fits_all, in_place, rehashed, changed, finished, patched_strings, new_length}
use Rattle.patches.proofs.CalmLaws as calmly
use Rattle.patches.proofs.CalmLaws.{Nearly, calm, final_nearly}
use Rattle.patches.proofs.InPlaceLaws as in_places
use Rattle.patches.proofs.HashLaws.{SameSlots, rehashed_nearly}
use Rattle.patches.proofs.StringLaws.{StringsPassed, rebuilds, all_fit}

-- ---- finalize does not see the file length and the footer that it writes over

pub final_like : (a b : List ℕ) → least_length + footer_length ≤ length b → length a ≡ length b
    → ((p : ℕ) → p + footer_length < length b → NotLength p → get_or a p 0 ≡ get_or b p 0)
    → sealed (lengthed a) ≡ sealed (lengthed b)
unfolding sealed lengthed
final_like a b h n e =
    let v : List ℕ = bytes_of 4 (length b) in
    let c : length v ≡ 4 = length-bytes_of 4 (length b) in
    let x : List ℕ = sets a 32 v in
    let y : List ℕ = sets b 32 v in
    let nx : length x ≡ length b = length-sets a 32 v ∙ n in
    let ny : length y ≡ length b = length-sets b 32 v in
    let k : ℕ = length b - footer_length in
    let byte : (p : ℕ) → p < k → get_or x p 0 ≡ get_or y p 0
    = λ p g. elim (off_or v 32 p) [
      | inl o ↦ sets_byte v a b 32 p n (e p (omega arith) (λ z. omega (arith, o z)))
      | inr (j, i, q) ↦ subst (λ (r : ℕ). get_or x r 0 ≡ get_or y r 0) q (sets_hit v a b 32 j n (omega arith) i)
    ] in
    rw (n, nx, ny)
    (ap footed
    (ext_get_or 0 (take k x) (take k y) (length-take-le k x (omega arith) ∙ sym (length-take-le k y (omega arith)))
    (λ p g.
    let i : p < k = rw (length-take-le k x (omega arith)) at g in
    get_or-take k x p 0 i ∙ byte p i ∙ sym (get_or-take k y p 0 i))))

-- ---- an image that differs only in file length, hash slots and footer

module _ (l : Layout) (s t : List ℕ) (nr : Nearly l s t) where
  -- any other byte stays
  pub near_byte : (p : ℕ) → Settled l s (length s) p → get_or t p 0 ≡ get_or s p 0
  near_byte p se = elim (below_or p 32) [
    | inl u ↦ nr.front p (omega arith) u
    | inr u ↦ elim (below_or p (hashes_at l s)) [
      | inl w ↦ nr.head p (se.not_length u) w
      | inr w ↦ nr.rest p (se.not_hash w) (omega (arith, se.before))
    ]
  ]

  near_restrung : Restrung l s t
  near_restrung =
      let o = ordered l s in
      restrung_same l s t
      (record {
        source = nr.admitted;
        same = calmly.same l s t nr;
        front = λ p h f.
            near_byte p
            (record {
              before = omega (arith, nr.admitted.least);
              not_length = f;
              not_hash = λ g. absurd (omega (arith, o.kinds, o.hashes));
            });
        tail = λ p h k. nr.rest p (omega (arith, o.over, o.storage, o.tail)) k;
      })

  near_then : (u : List ℕ) → Nearly l t u → Nearly l s u
  near_then u b =
      let counts = counts_of l s t (calmly.same l s t nr).tabled.words in
      record {
        admitted = nr.admitted;
        long = b.long ∙ nr.long;
        bytes = b.bytes;
        front = λ p h k. b.front p h k ∙ nr.front p h k;
        head = λ p h k. b.head p h (rw (hashes_at-same l s t counts) k) ∙ nr.head p h k;
        rest = λ p h k. b.rest p (rw (small_at-same l s t counts) h) (rw nr.long k) ∙ nr.rest p h k;
      }

-- ---- a patch of strings, before its hash slots, file length and footer

module _ (m : Mode) (l : Layout) (s : List ℕ) (v : Values) where
  pub changed-fits : fits_all l s v ≡ true → changed m l s v ≡ in_place l s v s
  unfolding changed
  changed-fits fits = rw fits

  pub changed_away : fits_all l s v ≡ false → changed m l s v ≡ rebuild l (strings_with m l s v) s
  unfolding changed
  changed_away away = rw away

  -- the length that is judged is its length
  pub changed-long : Admitted l s → new_length m l s v ≡ length (changed m l s v)
  unfolding new_length
  changed-long ad = elim (which (fits_all l s v)) [
    | inl fits ↦ rw (changed-fits fits, fits) (sym (in_places.same l s v (record { admitted = ad; fits = fits })).long)
    | inr away ↦ rw (changed_away away, away)
        (moved-high (tail_at l s) _ (length s) (omega (arith, ad.room)) ∙ sym (length_rebuilt l (strings_with m l s v) s ad))
  ]

  pub patched_is : patched_strings m l s v ≡ sealed (lengthed (rehashed l s v (changed m l s v)))
  unfolding patched_strings finished
  patched_is = refl

  module _ (ok : StringsPassed m l s v) where
    ad : Admitted l s
    ad = ok.admitted

    -- its hash slots are those of s, and it is s with other strings
    pub changed-hashes : Agree s (changed m l s v) (hashes_at l s) (small_at l s)
    changed-hashes p h k =
        let o = ordered l s in
        elim (which (fits_all l s v)) [
          | inl fits ↦ rw (changed-fits fits)
              (in_places.keeps l s v (all_fit m l s v ok fits) (hashes_at l s) (small_at l s)
              (λ g. absurd (omega (arith, o.over, o.storage))) p h k)
          | inr away ↦ rw (changed_away away) (rebuilt_middle l (strings_with m l s v) s ad p (omega (arith, o.hashes)) k)
        ]

    pub changed_restrung : Restrung l s (changed m l s v)
    changed_restrung =
        let o = ordered l s in
        elim (which (fits_all l s v)) [
          | inl fits ↦ rw (changed-fits fits)
              (restrung_same l s (in_place l s v s)
              (record {
                source = ad;
                same = in_places.same l s v (all_fit m l s v ok fits);
                front = λ p h f. in_places.keeps l s v (all_fit m l s v ok fits) 0 128
                    (λ g. absurd (omega (arith, o.kinds, o.hashes, o.small, o.over, o.storage))) p (omega arith) h;
                tail = in_places.keeps l s v (all_fit m l s v ok fits) (tail_at l s) (length s - footer_length) (λ g. o.tail);
              }))
          | inr away ↦ rw (changed_away away)
              (restrung_rebuilt l (strings_with m l s v) s ad (string_with l s v) (rebuilds m l s v ok away))
        ]

    -- ---- and with them

    abbrev x : List ℕ
    x = changed m l s v

    slots : SameSlots l s x
    slots =
        let counts = changed_restrung.counts in
        record {
          before = ad;
          admitted = changed_restrung.admitted;
          functions = functions_same l s x counts;
          kinds = kind_count-same l s x counts;
          identifiers = identifier_count-same l s x counts;
        }

    -- hash slots
    pub hashed_near : Nearly l x (rehashed l s v x)
    hashed_near = rehashed_nearly l s v x slots

    hashed_admitted : Admitted l (rehashed l s v x)
    hashed_admitted = (calm l x (rehashed l s v x) hashed_near).admitted

    -- all
    pub patched_near : Nearly l x (patched_strings m l s v)
    patched_near = rw patched_is (near_then l x (rehashed l s v x) hashed_near _ (final_nearly l (rehashed l s v x) hashed_admitted))

    pub patched_restrung : Restrung l s (patched_strings m l s v)
    patched_restrung =
        restrung_then l s x (patched_strings m l s v) changed_restrung (near_restrung l x (patched_strings m l s v) patched_near)

    -- finalizing leaves the hash slots
    pub patched_hashes : Agree (rehashed l s v x) (patched_strings m l s v) (hashes_at l s) (small_at l s)
    patched_hashes =
        let o = ordered l x in
        let u = ordered l s in
        let counts = changed_restrung.counts in
        rw patched_is
        (calmly.keeps l (rehashed l s v x) hashed_admitted (hashes_at l s) (small_at l s)
        (omega (arith, hashed_near.long, small_at-same l s x counts, o.over, o.storage, o.tail, changed_restrung.admitted.room))
        (λ g. omega (arith, u.kinds, u.hashes)))
