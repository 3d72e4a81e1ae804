-- The end of a job: what the buffer holds is what is written.
use Rattle.std.specs.Prelude.{Result}
use Rattle.std.proofs.Common.{◌≡◌, ℕ, ◌-◌, ◌≤◌, Bool, true, false, ltb, List, [], ◌++◌, length, take, drop, sym, refl, ap, ◌∙◌}
use Rattle.std.proofs.Common.{append-nil, zero-add, arith, take-append-drop, drop_of_length-le, length-take-le, ltb-false, eq-eqb}
use Rattle.std.proofs.Common.{ne_eqb}
use mathlib.Core.Path.{subst⁻¹}
use native.Mathlib.Nat.{sub-zero}
use lib.Seq.{sets-eq}
use Rattle.bits.specs.Choice.{pick, either}
use Rattle.bits.specs.Outcome.{Outcome, refused, made, written, Answers}
use Rattle.footer.specs.Finalize.{least_length, size_limit, lengthed, sealed, finalize_of}
use Rattle.footer.proofs.FinalizeLaws.{length_finalized}
use Rattle.text.specs.Text.{Wrote}
use Rattle.format.specs.declared.Layout.{Layout}
use Rattle.patches.specs.Patches.{image_after}
use Rattle.job_records.specs.declared.Progress.{Progress}
use Rattle.job_records.specs.declared.Progress.TheVariants.{Under, Refused}
use Rattle.job_records.specs.Job.{refused_at_line}
use Rattle.job_records.specs.Pieces.{held_at_end, closing, Closes}
use Rattle.job_records.proofs.RecordLaws.{held_part}

-- finalize keeps the length
finalized_long : (s t : List ℕ) → finalize_of s ≡ made t → length t ≡ length s
unfolding finalize_of
finalized_long s t e = go (ltb (length s) least_length) (ltb size_limit (length s)) refl e
  where
    go : (a b : Bool) → ltb (length s) least_length ≡ a → pick (either a b) (refused 1) (made (sealed (lengthed s))) ≡ made t
        → length t ≡ length s
    go true b h q = let z : ◌≡◌ {A = ℕ} 0 1 = cc in absurd (omega arith)
    go false true h q = let z : ◌≡◌ {A = ℕ} 0 1 = cc in absurd (omega arith)
    go false false h q = let z : sealed (lengthed s) ≡ t = cc in rw (← z) (length_finalized s (ltb-false (length s) least_length h))

-- the h bytes of a buffer that are held: n, or all
pub record Held (n h : ℕ) (s : List ℕ) : Type 0 where
  pub part : h ≡ pick (ltb n (length s)) n (length s)
  pub most : h ≤ length s

module _ (n k h : ℕ) (s : List ℕ) (hd : Held n h s) where
  front : take h s ≡ take n s
  front = held_part n h s hd.part

  front_long : length (take n s) ≡ h
  front_long = rw (← front) (length-take-le h s hd.most)

  closes : (u : List ℕ) → length u ≡ h → Closes u h s (u ++ drop h s)
  closes u z = (sym z, rw z, hd.most)

  pub close_kept : (k ≡ 1 → ⊥) → Closes (held_at_end n k s) h s s
  close_kept d =
      rw (ne_eqb k 1 d)
      (sym front_long, rw front_long (sym (take-append-drop h s) ∙ ap (λ (u : List ℕ). u ++ drop h s) front), hd.most)

  pub close_sealed : (r : Result ℕ ℕ) (part : List ℕ) → k ≡ 1 → Answers (finalize_of (take (h - 0) s)) r (take (h - 0) s) part
      → Closes (held_at_end n k s) h s (part ++ drop (h - 0) s)
  close_sealed r part d a = rw (eq-eqb k 1 d, sub-zero) (go (finalize_of (take n s)) refl (rw (sub-zero, front) at a.1))
    where
      go : (o : Outcome) → finalize_of (take n s) ≡ o → part ≡ written o (take n s)
          → Closes (image_after o (take n s)) h s (part ++ drop h s)
      go (refused m) f w = rw w (closes (take n s) front_long)
      go (made t) f w =
          let z : length t ≡ h = finalized_long (take n s) t f ∙ front_long in
          let q : drop (length t) (take n s) ≡ [] = drop_of_length-le (take n s) {i = length t} (omega (arith, front_long)) in
          let p : part ≡ t = w ∙ rw (q, append-nil) in
          rw p (closes t z)

-- ---- both ends

module _ (p : Progress) (s new : List ℕ) (r : ℕ) where
  pub close_as : (l : Layout) (n k : ℕ) → p ≡ Under l n k → Closes (held_at_end n k s) r s new → Closes (closing p s) r s new
  close_as l n k e c = subst⁻¹ (λ (x : Progress). Closes (closing x s) r s new) e c

  pub close_refused : (k m : ℕ) → p ≡ Refused k m → Wrote s 0 (refused_at_line k m) r new → r ≤ length s
      → Closes (closing p s) r s new
  close_refused k m e w h =
      let z : r ≡ length (refused_at_line k m) = omega (arith, w.0) in
      subst⁻¹ (λ (x : Progress). Closes (closing x s) r s new) e
      (z, w.1 ∙ rw (sets-eq (refused_at_line k m) s 0 (omega arith), zero-add), omega arith)
