use mathlib.Core.Path.{◌≡◌, refl, ap, sym, ◌∙◌}
use mathlib.Core.Bool.{true}
use Prim.Native.Nat.{ℕ, suc, ◌-◌}
use native.Mathlib.Omega.{arith}
use Rattle.chains.specs.Chains.{head_of}
use Rattle.chains.proofs.WalkLaws.{walk_from, walk_end, walk_lower, walk_on}
use Rattle.po_pairs.specs.Held.{id_in, bucket_in}
use Rattle.po_pairs.proofs.PairLaws.{given_before, not_before, SameId, one_bucket, other_id}
use Rattle.po_pairs.proofs.is_new.Goals as goal

pub word_at-c-requires : goal.word_at-c-requires
word_at-c-requires c = let q = c.requires in omega (arith, q.all_within.2, q.bucket_value.1)

pub loop-c-init : goal.loop-c-init
loop-c-init c =
    let a = c.args in
    let w = c.requires.bucket_value in
    walk_from (λ j. true) (bucket_in a.text.now a.ends.now a.m) (SameId a.text.now a.ends.now a.q) _ a.q
    (one_bucket a.text.now a.ends.now a.m a.q) _
    (c.word_at-c.ensures.0 ∙ w.2.heads a.bucket w.1
    ∙ ap (λ (b : ℕ). head_of (λ j. true) (bucket_in a.text.now a.ends.now a.m) b a.q) w.0)

pub overflow_add-j : goal.overflow_add-j
overflow_add-j c =
    let q = c.requires in
    omega (arith, c.loop-c.invariant.low, q.all_within.1, q.all_within.3)

pub overflow_add-q : goal.overflow_add-q
overflow_add-q c = let q = c.requires in omega (arith, q.all_within.1, q.all_within.3)

pub same_values-requires : goal.same_values-requires
same_values-requires c =
    let l = c.loop-c in
    (c.requires.all_within.0 _ (omega (arith, l.invariant.low, c.loop-c-test.true)), c.requires.all_within.0 _ (omega arith))

pub returns-then-same_values : goal.returns-then-same_values
returns-then-same_values c =
    let l = c.loop-c in
    let a = c.args in
    given_before (id_in a.text.now a.ends.now) a.q (l.c - 1)
    (omega (arith, l.invariant.low, c.loop-c-test.true)) (sym c.same_values.ensures ∙ c.if-same_values.true)

pub overflow_add-m : goal.overflow_add-m
overflow_add-m c =
    let q = c.requires in
    omega (arith, c.loop-c.invariant.low, q.all_within.1, q.all_within.2)

pub word_at-c-requires-in-loop-c : goal.word_at-c-requires-in-loop-c
word_at-c-requires-in-loop-c c =
    let q = c.requires in
    omega (arith, c.loop-c.invariant.low, q.all_within.1, q.all_within.2)

pub loop-c-smaller : goal.loop-c-smaller
loop-c-smaller c =
    let l = c.loop-c in
    let a = c.args in
    let k : l.c ≡ suc (l.c - 1) = omega (arith, c.loop-c-test.true) in
    walk_lower (λ j. true) (bucket_in a.text.now a.ends.now a.m) (SameId a.text.now a.ends.now a.q) _ a.q
    (one_bucket a.text.now a.ends.now a.m a.q) l.c l.invariant (l.c - 1) k _
    (c.word_at-c-in-loop-c.ensures.0 ∙ c.requires.bucket_value.2.links (l.c - 1) (omega (arith, l.invariant.low)) refl)

pub loop-c-preserved : goal.loop-c-preserved
loop-c-preserved c =
    let l = c.loop-c in
    let a = c.args in
    let k : l.c ≡ suc (l.c - 1) = omega (arith, c.loop-c-test.true) in
    walk_on (λ j. true) (bucket_in a.text.now a.ends.now a.m) (SameId a.text.now a.ends.now a.q) _ a.q
    (one_bucket a.text.now a.ends.now a.m a.q) l.c l.invariant (l.c - 1) k _
    (c.word_at-c-in-loop-c.ensures.0 ∙ c.requires.bucket_value.2.links (l.c - 1) (omega (arith, l.invariant.low)) refl)
    (other_id a.text.now a.ends.now a.q (l.c - 1) _ c.same_values.ensures c.if-same_values.false)

pub returns : goal.returns
returns c =
    let l = c.loop-c in
    let a = c.args in
    not_before (id_in a.text.now a.ends.now) a.q
    (λ j h. walk_end (λ i. true) (bucket_in a.text.now a.ends.now a.m) (SameId a.text.now a.ends.now a.q) _ a.q
    (one_bucket a.text.now a.ends.now a.m a.q) l.c l.invariant (omega (arith, c.loop-c-test.false)) j h refl)
