use Prim.Native.Nat.{◌-◌, ◌<◌}
use native.Mathlib.Omega.{arith}
use Rattle.po_write.proofs.WalkLaws.{bucket_low, few_words, walks_from, none_there}
use Rattle.po_write.proofs.WalkLaws.{before, other_inside, value_there, walks_on, walks_lower}
use Rattle.po_write.proofs.is_first.Goals as goal
use Rattle.po_write.proofs.is_first.Goals.{In-loop-c}

-- the cursor stands on a string before this one, and the image's strings are few
stands : (c : In-loop-c) → let a = c.args in
    (c.loop-c.c - 1 < a.id) × (a.p.strings < 4294967296)
stands c = let q = c.requires in
    (before _ _ _ _ _ _ q _ c.loop-c.invariant c.loop-c-test.true, few_words _ _ _ _ _ _ q)

pub word_at-c-requires : goal.word_at-c-requires
word_at-c-requires c = let q = c.requires in omega (arith, q.filled.long, bucket_low _ _ _ _ _ _ q)

pub loop-c-init : goal.loop-c-init
loop-c-init c = walks_from _ _ _ _ _ _ c.requires _ c.word_at-c.ensures.0

pub overflow_sub-c : goal.overflow_sub-c
overflow_sub-c c = c.loop-c-test.true

pub text_at-other-requires : goal.text_at-other-requires
text_at-other-requires c =
    let q = c.requires in
    let k = stands (goal.at.text_at-other-requires c).In-loop-c in
    (q.filled.long, k.1, omega (arith, k.0, q.known))

pub have_same_units-requires : goal.have_same_units-requires
have_same_units-requires c =
    let q = c.requires in
    (other_inside _ _ _ _ _ _ q _ c.loop-c.invariant c.loop-c-test.true _ c.text_at-other.ensures, q.inside)

pub returns-then-have_same_units : goal.returns-then-have_same_units
returns-then-have_same_units c =
    let q = c.requires in
    value_there _ _ _ _ _ _ q _ c.loop-c.invariant c.loop-c-test.true _ c.text_at-other.ensures _
    c.have_same_units.ensures c.if-have_same_units.true

pub overflow_sub-c-in-loop-c : goal.overflow_sub-c-in-loop-c
overflow_sub-c-in-loop-c c = c.loop-c-test.true

pub overflow_add-p : goal.overflow_add-p
overflow_add-p c =
    let q = c.requires in
    let k = stands (goal.at.overflow_add-p c).In-loop-c in
    omega (arith, k.0, k.1, q.known)

pub word_at-c-requires-in-loop-c : goal.word_at-c-requires-in-loop-c
word_at-c-requires-in-loop-c c =
    let q = c.requires in
    omega (arith, (stands (goal.at.word_at-c-requires-in-loop-c c).In-loop-c).0, q.known, q.filled.long)

pub loop-c-smaller : goal.loop-c-smaller
loop-c-smaller c =
    let q = c.requires in
    walks_lower _ _ _ _ _ _ q _ c.loop-c.invariant c.loop-c-test.true _ c.text_at-other.ensures _
    c.have_same_units.ensures _ c.word_at-c-in-loop-c.ensures.0

pub loop-c-preserved : goal.loop-c-preserved
loop-c-preserved c =
    let q = c.requires in
    walks_on _ _ _ _ _ _ q _ c.loop-c.invariant c.loop-c-test.true _ c.text_at-other.ensures _
    c.have_same_units.ensures _ c.word_at-c-in-loop-c.ensures.0 c.if-have_same_units.false

pub returns : goal.returns
returns c =
    let q = c.requires in
    none_there _ _ _ _ _ _ q _ c.loop-c.invariant (omega arith)
