use mathlib.Core.Path.{◌≡◌, refl, ap, ◌∙◌}
use mathlib.Core.Bool.{true, not}
use native.Mathlib.Numerals.{add-one}
use native.Mathlib.Omega.{arith}
use Rattle.bits.proofs.PassLaws.{pass_none, pass_next, pass_stop, pass_end}
use Rattle.chains.proofs.ChainLaws.{chained_enter}
use Rattle.po_pairs.specs.Pairs.{is_new}
use Rattle.po_pairs.specs.Held.{id_in, bucket_in}
use Rattle.po_pairs.proofs.OrderLaws.{never}
use Rattle.po_pairs.proofs.enter_all.Goals as goal

pub loop-q-init : goal.loop-q-init
loop-q-init c = (refl, pass_none (is_new (id_in c.args.text.now c.args.ends.now)), c.requires.chained_pairs)

pub bucket_of-bucket-requires : goal.bucket_of-bucket-requires
bucket_of-bucket-requires c =
    let q = c.requires.all_within in
    (q.0 _ (omega (arith, c.loop-q-test.true)), q.3, omega (arith, c.loop-q-test.true, q.1, q.4))

pub is_new-requires : goal.is_new-requires
is_new-requires c =
    let l = c.loop-q in
    let t = c.loop-q-test.true in
    let q = c.requires.all_within in
    let b = c.bucket_of-bucket.ensures in
    record {
      all_within = (λ j h. q.0 j (omega arith), omega (arith, q.1), omega (arith, q.2, l.invariant.0), omega (arith, q.4));
      bucket_value = (b.0, b.1, l.invariant.2);
    }

pub returns-then-not-is_new : goal.returns-then-not-is_new
returns-then-not-is_new c =
    let a = c.args in
    record {
      value = pass_stop (is_new (id_in a.text.now a.ends.now)) a.pairs c.loop-q.q _ c.loop-q-test.true
          c.is_new.ensures (ap not c.if-not-is_new.true);
      chained_pairs_2 = λ e. never e;
    }

pub enter-requires : goal.enter-requires
enter-requires c =
    let l = c.loop-q in
    let q = c.requires.all_within in (
      c.bucket_of-bucket.ensures.1,
      omega (arith, q.1, q.2, l.invariant.0, c.loop-q-test.true),
      omega (arith, q.1, q.4, c.loop-q-test.true),
    )

pub loop-q-preserved : goal.loop-q-preserved
loop-q-preserved c =
    let l = c.loop-q in
    let a = c.args in
    let q = c.requires.all_within in
    let b = c.bucket_of-bucket.ensures in
    let bucket = bucket_in a.text.now a.ends.now a.m in (
      c.enter.auto.work ∙ l.invariant.0,
      pass_next (is_new (id_in a.text.now a.ends.now)) l.q _ c.is_new.ensures (ap not c.if-not-is_new.false) l.invariant.1,
      rw add-one (chained_enter (λ j. true) bucket a.m l.q l.work l.invariant.2 (rw b.0 at b.1)
          (omega (arith, q.1, q.2, l.invariant.0)) refl _ (rw b.0 at c.enter.ensures)),
    )

pub returns : goal.returns
returns c =
    let l = c.loop-q in
    let a = c.args in
    let e : l.q ≡ a.pairs = omega (arith, c.loop-q-test.false) in
    record {
      value = pass_end (is_new (id_in a.text.now a.ends.now)) a.pairs l.q e l.invariant.1;
      chained_pairs_2 = λ t. rw e at l.invariant.2;
    }
