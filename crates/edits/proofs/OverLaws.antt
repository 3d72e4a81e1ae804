-- A function record that is written over: the last function that was put into it counts.
use mathlib.Core.Path.{◌≡◌, ap, sym, ◌∙◌}
use mathlib.Core.Bool.{Bool, true, false}
use Prim.Native.Nat.{ℕ, ◌+◌, ◌/◌, ◌%◌, ◌^◌, ◌≤◌}
use native.Mathlib.Omega.{arith}
use Rattle.bits.specs.Choice.{pick}
use Rattle.bits.specs.Fields.{with_field}
use Rattle.bits.proofs.FieldLaws.{with_with, with_comm}
use Rattle.format.specs.declared.Layout.{Layout}
use Rattle.format.specs.declared.Layout.TheVariants.{Modern, Legacy}
use Rattle.format.specs.Record.{put_pointer}
use Rattle.image.specs.Functions.{Func}
use Rattle.edits.specs.Edit.{put_small, pointed, put_record}

-- a write to a field of a word that is written behind it too
with_over : (n at w u v to k z : ℕ) → w + at ≤ to
    → with_field (with_field (with_field n at w u) to k z) at w v ≡ with_field (with_field n at w v) to k z
with_over n at w u v to k z h =
    sym (with_comm (with_field n at w u) at w v to k z h) ∙ ap (λ (y : ℕ). with_field y to k z) (with_with n at w u v)

-- ---- a function over another

pointer_over : (l : Layout) (p q n : ℕ) → put_pointer l p (put_pointer l q n) ≡ put_pointer l p n
unfolding put_pointer
pointer_over Modern p q n =
    ap (λ (y : ℕ). with_field y 46 8 (p / 2 ^ 24)) (with_over n 0 24 q p 46 8 (q / 2 ^ 24) (omega arith))
    ∙ with_with (with_field n 0 24 p) 46 8 (q / 2 ^ 24) (p / 2 ^ 24)
pointer_over (Legacy big sources) p q n =
    ap (λ (y : ℕ). with_field y 64 25 (p / 2 ^ 16)) (with_over n 0 25 (q % 2 ^ 16) (p % 2 ^ 16) 64 25 (q / 2 ^ 16) (omega arith))
    ∙ with_with (with_field n 0 25 (p % 2 ^ 16)) 64 25 (q / 2 ^ 16) (p / 2 ^ 16)

small_over : (l : Layout) (f g : Func) (n : ℕ) → put_small l f (put_small l g n) ≡ put_small l f n
unfolding put_small
small_over Modern f g n =
    ap (λ (y : ℕ). with_field y 32 14 f.size) (with_over n 0 25 g.begin f.begin 32 14 g.size (omega arith))
    ∙ with_with (with_field n 0 25 f.begin) 32 14 g.size f.size
small_over (Legacy big sources) f g n =
    let y : ℕ = with_field n 0 25 f.begin in
    let z : ℕ = with_field (with_field n 0 25 g.begin) 32 15 g.size in
    ap (λ (x : ℕ). with_field (with_field x 32 15 f.size) 64 25 f.info)
    (sym (with_comm z 0 25 f.begin 64 25 g.info (omega arith))
    ∙ ap (λ (x : ℕ). with_field x 64 25 g.info) (with_over n 0 25 g.begin f.begin 32 15 g.size (omega arith)))
    ∙ ap (λ (x : ℕ). with_field x 64 25 f.info) (with_over y 32 15 g.size f.size 64 25 g.info (omega arith))
    ∙ with_with (with_field y 32 15 f.size) 64 25 g.info f.info

-- a rebuild's function over a rebuild's
pub put_over : (l : Layout) (f g : Func) (n : ℕ) → f.large ≡ g.large
    → put_record l true f (put_record l true g n) ≡ put_record l true f n
unfolding pointed
put_over l f g n e =
    ap (λ (b : Bool). put_record l true f (pick b (put_pointer l g.ptr n) (put_small l g n))) (sym e) ∙ go f.large
  where
    go : (b : Bool)
        → pick b (put_pointer l f.ptr (pick b (put_pointer l g.ptr n) (put_small l g n)))
        (put_small l f (pick b (put_pointer l g.ptr n) (put_small l g n)))
        ≡ pick b (put_pointer l f.ptr n) (put_small l f n)
    go true = pointer_over l f.ptr g.ptr n
    go false = small_over l f g n
