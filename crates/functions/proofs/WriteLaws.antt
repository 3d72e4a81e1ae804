-- The patched image as it is written.
use Rattle.std.specs.Prelude.{Err, Ok, Result}
use mathlib.Core.Path.{◌≡◌, refl, ap, sym, ◌∙◌, subst}
use mathlib.Core.Bool.{true, false}
use mathlib.Core.Logic.{inl, inr}
use mathlib.Core.List.{List, [], append_assoc}
use Prim.Native.Nat.{ℕ, ◌+◌, ◌-◌, ◌^◌, ◌≤◌, ◌<◌}
use native.Mathlib.Nat.{sub-zero}
use native.Mathlib.Omega.{arith}
use borrow.Author.Tests.{eq-eqb, ne_eqb, ltb-false, leb-false, not-true}
use borrow.Rule.Slice.PartMut.{put_mid}
use lib.Dec.{ltb}
use lib.ListN.{length, get_or, take, drop, drop_of_length-le}
use lib.Seq.{sets, sets-eq, length-take-le}
use Rattle.bits.specs.Outcome.{Outcome, refused, made, answered, roomed, Answers}
use Rattle.bits.proofs.TestLaws.{below_or}
use Rattle.bits.proofs.OutcomeLaws.{roomed_short, roomed-fits, lent-front}
use Rattle.format.specs.declared.Layout.{Layout}
use Rattle.footer.specs.Finalize.{finalize_of}
use Rattle.footer.proofs.FinalizeLaws.{finalize_within}
use Rattle.image.specs.Functions.{Func, func_of}
use Rattle.edits.specs.Edit.{splice}
use Rattle.edits.specs.Fit.{beyond, size_row}
use Rattle.function_table.specs.declared.Function.{Function}
use Rattle.function_table.specs.Functions.{as_func}
use Rattle.relocate.specs.declared.Cause.TheVariants.{Body}
use Rattle.relocate.specs.declared.Move.{Move}
use Rattle.relocate.specs.Relocate.{relocated, Movable}
use Rattle.relocate.proofs.EditLaws.{resize-is}
use Rattle.relocate.proofs.MovableLaws.{resize_movable}
use Rattle.function_checks.specs.Checks.{size_fits, FunctionIs}
use Rattle.functions.specs.Patch.{bodied, patched_body, patch_body}
use Rattle.functions.specs.Stages.{Accepted}
use Rattle.functions.proofs.AdmitLaws.{body_ends, target_ends}
use Rattle.functions.proofs.JudgeLaws.{length_moved, length-bodied, length_patched, makes, accepted}

-- ---- the image with the new body

-- a record without a large header holds the new size
pub size_held : (l : Layout) (s : List ℕ) (id : ℕ) (body : List ℕ) → size_fits l s id body ≡ true
    → (func_of l s id).large ≡ false → length body < 2 ^ (size_row l).width
unfolding size_fits
size_held l s id body e f = leb-false (2 ^ (size_row l).width) (length body) (not-true (beyond (size_row l) (length body)) (rw f at e))

-- new bytes as long as the old ones
splice-same : (a b : ℕ) (new s : List ℕ) → b ≡ a + length new → b ≤ length s → splice a b new s ≡ sets s a new
unfolding splice
splice-same a b new s e h = rw e (sym (sets-eq new s a (omega arith) ∙ append_assoc (take a s) new (drop (a + length new) s)))

abbrev move_of : ℕ → List ℕ → Func → Move
move_of id body x = record { from = x.begin + x.size; to = x.begin + length body; cause = Body id (length body) }

-- an accepted patch, and its function as code holds it
pub record Begun (l : Layout) (s : List ℕ) (id : ℕ) (body : List ℕ) (room : ℕ) (f : Function) : Type 0 where
  pub accepted : Accepted l s id body room
  pub is : FunctionIs l s id f

module _ {l : Layout} {s : List ℕ} {id : ℕ} {body : List ℕ} {room : ℕ} {f : Function} (z : Begun l s id body room f) where
  ok : Accepted l s id body room
  ok = z.accepted

  begin_is : f.begin ≡ (func_of l s id).begin
  begin_is = ap (λ (x : Func). x.begin) z.is.is

  size_is : f.size ≡ (func_of l s id).size
  size_is = ap (λ (x : Func). x.size) z.is.is

  ends : f.begin + f.size + 20 ≤ length s
  ends = target_ends l s ok.admitted id f ok.known z.is

  room-is : room ≡ length s - f.size + length body
  room-is = ok.exact ∙ length_moved l s id body (omega (arith, body_ends l s ok.admitted id ok.known)) ∙ rw (← size_is)

  pub splice-asked : (f.begin ≤ f.begin + f.size) × (f.begin + f.size ≤ length s)
      × (room ≡ length s - (f.begin + f.size) + (f.begin + length body))
  splice-asked = (omega arith, omega (arith, ends), omega (arith, ends, room-is))

  module _ (h : length body ≡ f.size → ⊥) where
    -- an empty body stays empty, and so of one size
    some : 0 < (func_of l s id).size
    some =
        elim (below_or 0 (func_of l s id).size) [
          | inl q ↦ q
          | inr q ↦
              let e : (func_of l s id).size ≡ 0 = omega arith in
              let n : ltb 0 (length body) ≡ false = rw (eq-eqb (func_of l s id).size 0 e) at ok.some in
              absurd (h (omega (arith, ltb-false 0 (length body) n, size_is)))
        ]

    pub may_move : Movable l s (record { from = f.begin + f.size; to = f.begin + length body; cause = Body id (length body) }) room
    may_move =
        subst (λ (x : Func). Movable l s (move_of id body x) room) (sym z.is.is)
        (resize_movable l s room id body (record { known = ok.known; some = some; sized = size_held l s id body ok.sized })
        (record { admitted = ok.admitted; limit = ok.limit; fields = ok.fields })
        (omega (arith, splice-asked.2, begin_is, size_is)))

-- and the new body stands in the place of the old one
pub record Spliced (l : Layout) (s : List ℕ) (id : ℕ) (body : List ℕ) (room : ℕ) (f : Function) (o : List ℕ) : Type 0 where
  pub begun : Begun l s id body room f
  pub spliced : o ≡ splice f.begin (f.begin + f.size) body s

module _ {l : Layout} {s : List ℕ} {id : ℕ} {body : List ℕ} {room : ℕ} {f : Function} {o₁ : List ℕ}
    (z : Spliced l s id body room f o₁) where
  pub same_size : length body ≡ f.size → o₁ ≡ bodied l s id body
  same_size h =
      z.spliced ∙ splice-same f.begin (f.begin + f.size) body s (omega arith) (omega (arith, ends z.begun))
      ∙ rw (eq-eqb (length body) (func_of l s id).size (h ∙ size_is z.begun), begin_is z.begun)

  pub other_size : (length body ≡ f.size → ⊥) → (o₂ : List ℕ)
      → o₂ ≡ relocated l s (record { from = f.begin + f.size; to = f.begin + length body; cause = Body id (length body) }) o₁
      → o₂ ≡ bodied l s id body
  other_size h o₂ k =
      k ∙ ap (relocated l s (move_of id body (as_func f))) z.spliced
      ∙ ap (λ (x : Func). relocated l s (move_of id body x) (splice x.begin (x.begin + x.size) body s)) z.begun.is.is
      ∙ resize-is l id body s
      ∙ rw (ne_eqb (length body) (func_of l s id).size (λ q. h (q ∙ sym (size_is z.begun))))

-- ---- and finalized

module _ (l : Layout) (s : List ℕ) (id : ℕ) (body o : List ℕ) (ok : Accepted l s id body (length o)) where
  pub finalized : (o₁ o₂ : List ℕ) (r : Result ℕ ℕ) → o₁ ≡ bodied l s id body → Answers (finalize_of o₁) r o₁ o₂
      → Answers (made (patched_body l s id body)) r o o₂
  unfolding patched_body
  finalized o₁ o₂ r e a =
      let n : length o₁ ≡ length o
      = ap length e ∙ length-bodied l s id body (omega (arith, body_ends l s ok.admitted id ok.known)) ∙ sym ok.exact in
      let p = length_patched l s id body ok.admitted ok.known in
      let m : length (patched_body l s id body) ≡ length o = p.0 ∙ sym ok.exact in
      let g : finalize_of o₁ ≡ made (patched_body l s id body)
      = finalize_within o₁ (omega (arith, n, p.1, ok.exact)) (omega (arith, n, ok.limit)) ∙ rw e in
      let b = rw g at a in
      let d : (x : List ℕ) → length x ≡ length o → drop (length (patched_body l s id body)) x ≡ []
      = λ x i. drop_of_length-le x {i = length (patched_body l s id body)} (omega (arith, m, i)) in
      (b.0, b.1 ∙ rw (d o₁ n, d o refl))

-- ---- the ways out

module _ (l : Layout) (s : List ℕ) (id : ℕ) (body out : List ℕ) (r : Result ℕ ℕ) (e : r ≡ answered (patch_body l s id body)) where
  abbrev outcome : Outcome
  outcome = roomed (length out) (patch_body l s id body)

  -- a refusal goes out as it is
  pub goes_out : (n : ℕ) → r ≡ Err n → Answers outcome r out out
  unfolding roomed
  goes_out n f = go (patch_body l s id body) e
    where
      go : (o : Outcome) → r ≡ answered o → Answers (roomed (length out) o) r out out
      go (refused m) g = (g, refl)
      go (made new) g = let z : ◌≡◌ {A = ℕ} 0 1 = cc in absurd (omega arith)

  module _ (n : ℕ) (f : r ≡ Ok n) where
    pub no_room : length out < n → Answers outcome (Err 13) out out
    no_room h =
        let m = makes l s id body n (sym f ∙ e) in
        rw (m.0, roomed_short (length out) (patched_body l s id body) (omega (arith, m.1))) (refl, refl)

-- the result has length n, and there is room for it
pub record PatchRoomy (l : Layout) (s : List ℕ) (id : ℕ) (body out : List ℕ) (n : ℕ) : Type 0 where
  pub measured : Ok n ≡ answered (patch_body l s id body)
  pub room : n ≤ length out

module _ {l : Layout} {s : List ℕ} {id : ℕ} {body out : List ℕ} {n : ℕ} (z : PatchRoomy l s id body out n) where
  pub room_made : ((i : ℕ) → get_or s i 0 < 256) → Accepted l s id body (length (take (n - 0) (drop 0 out)))
  room_made bytes = rw (sub-zero, length-take-le n out z.room) (accepted l s id body n z.measured bytes)

  pub written_out : (q : Result ℕ ℕ) (part : List ℕ) → Answers (made (patched_body l s id body)) q (take (n - 0) (drop 0 out)) part
      → Answers (roomed (length out) (patch_body l s id body)) q out (put_mid 0 (n - 0) out part)
  written_out q part a =
      let m : (patch_body l s id body ≡ made (patched_body l s id body)) × (n ≡ length (patched_body l s id body))
      = makes l s id body n z.measured in
      rw (sub-zero, m.0, roomed-fits (length out) (patched_body l s id body) (omega (arith, m.1, z.room)))
      (lent-front (patched_body l s id body) out part n q m.1 z.room (rw sub-zero at a))
