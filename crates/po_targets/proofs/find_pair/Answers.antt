use mathlib.Core.Path.{◌≡◌, refl, sym, ◌∙◌}
use mathlib.Core.Bool.{true}
use Prim.Native.Nat.{suc, ◌-◌, ◌%◌}
use native.Mathlib.Nat.{mod-lt}
use native.Mathlib.Omega.{arith}
use Rattle.image.specs.Strings.{string_of, units_of}
use Rattle.utf.specs.Utf8.{utf16}
use Rattle.string_walk.proofs.RecordLaws.{units_inside}
use Rattle.chains.specs.Chains.{head_of}
use Rattle.po_targets.specs.Marks.{id_in, str_in, bucket_of}
use Rattle.po_targets.proofs.PairLaws.{string_bucket, down_from, down_end, down_is, down_lower, down_on}
use Rattle.po_targets.proofs.find_pair.Goals as goal
use Rattle.po_targets.proofs.find_pair.Goals.{After-word_at-c-in-loop-c}

-- the link of the pair on which the cursor stands
linked : (c : After-word_at-c-in-loop-c) → let a = c.args in
    let j = c.loop-c.c - 1 in
    c.word_at-c-in-loop-c.result ≡ head_of (λ q. true) (λ q. bucket_of a.m (utf16 (id_in a.text.now a.ends.now q)))
    (bucket_of a.m (utf16 (id_in a.text.now a.ends.now j))) j
linked c = let q = c.requires.entered.0 in
    c.word_at-c-in-loop-c.ensures.0 ∙ q.chained.links (c.loop-c.c - 1)
    (omega (arith, c.loop-c.invariant.low, c.loop-c-test.true)) refl

pub hash_units-requires : goal.hash_units-requires
hash_units-requires c =
    let q = c.requires in
    units_inside _ _ q.placed.0 _ _ q.placed.1 _ (omega arith)

pub nonzero_rem-bucket : goal.nonzero_rem-bucket
nonzero_rem-bucket c = c.requires.entered.0.some

pub word_at-c-requires : goal.word_at-c-requires
word_at-c-requires c =
    let q = c.requires.entered in
    omega (arith, q.1, mod-lt c.hash_units.result q.0.some)

pub loop-c-init : goal.loop-c-init
loop-c-init c =
    let a = c.args in
    let q = c.requires in
    let h = c.hash_units in
    down_from (id_in a.text.now a.ends.now) (str_in a.text.now a.ends.now)
    (units_of (string_of a.p.layout a.image.now a.id)) a.m a.pairs (h.result % a.m) _
    (string_bucket _ _ q.placed.0 _ _ q.placed.1 a.m _ h.ensures)
    (c.word_at-c.ensures.0 ∙ q.entered.0.chained.heads (h.result % a.m) (mod-lt h.result q.entered.0.some))

pub is_pair-requires : goal.is_pair-requires
is_pair-requires c =
    let q = c.requires in
    let w = c.loop-c.invariant.low in
    let t = c.loop-c-test.true in
    record {
      placed = q.placed;
      within = (q.entered.0.within _ (omega arith), q.entered.0.within _ (omega arith), omega (arith, q.entered.0.few, q.entered.0.most));
    }

pub returns-then-is_pair : goal.returns-then-is_pair
returns-then-is_pair c =
    let a = c.args in
    let l = c.loop-c in
    let e : l.c ≡ suc (l.c - 1) = omega (arith, c.loop-c-test.true) in (
      sym e ∙ down_is (id_in a.text.now a.ends.now) (str_in a.text.now a.ends.now) _ a.m a.pairs l.c l.invariant (l.c - 1) e
          (sym c.is_pair.ensures ∙ c.if-is_pair.true),
      omega (arith, e, l.invariant.low),
    )

pub overflow_add-m : goal.overflow_add-m
overflow_add-m c =
    let q = c.requires.entered.0 in
    omega (arith, q.few, q.most, c.loop-c.invariant.low)

pub word_at-c-requires-in-loop-c : goal.word_at-c-requires-in-loop-c
word_at-c-requires-in-loop-c c =
    let q = c.requires.entered in
    omega (arith, q.0.few, q.1, c.loop-c.invariant.low, c.loop-c-test.true)

pub loop-c-smaller : goal.loop-c-smaller
loop-c-smaller c =
    let a = c.args in
    let l = c.loop-c in
    let e : l.c ≡ suc (l.c - 1) = omega (arith, c.loop-c-test.true) in
    down_lower (id_in a.text.now a.ends.now) (str_in a.text.now a.ends.now) _ a.m a.pairs l.c l.invariant (l.c - 1) e _
    (linked (goal.at.loop-c-smaller c).After-word_at-c-in-loop-c)

pub loop-c-preserved : goal.loop-c-preserved
loop-c-preserved c =
    let a = c.args in
    let l = c.loop-c in
    let e : l.c ≡ suc (l.c - 1) = omega (arith, c.loop-c-test.true) in
    down_on (id_in a.text.now a.ends.now) (str_in a.text.now a.ends.now) _ a.m a.pairs l.c l.invariant (l.c - 1) e _
    (linked (goal.at.loop-c-preserved c).After-word_at-c-in-loop-c) (sym c.is_pair.ensures ∙ c.if-is_pair.false)

pub returns : goal.returns
returns c =
    let l = c.loop-c in
    (down_end _ _ _ _ _ l.c l.invariant c.loop-c-test.false, omega arith)
