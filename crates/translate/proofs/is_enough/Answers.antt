use mathlib.Core.Path.{ap, ◌∙◌}
use Prim.Native.Nat.{ℕ, ◌+◌, ◌*◌}
use lib.Dec.{leb}
use native.Mathlib.Omega.{arith}
use Rattle.translate.proofs.SpaceLaws.{too_long, short_text, short_ends, rest_enough}
use Rattle.translate.proofs.is_enough.Goals as goal

pub returns-then-file-ge-FILE_LIMIT : goal.returns-then-file-ge-FILE_LIMIT
returns-then-file-ge-FILE_LIMIT c = too_long _ _ _ (omega (arith, c.if-file-ge-FILE_LIMIT.true))

pub returns-then-text-file : goal.returns-then-text-file
returns-then-text-file c = short_text _ _ _ c.if-text-file.true

pub returns-then-ends-words_for : goal.returns-then-ends-words_for
returns-then-ends-words_for c = short_ends _ _ _ (omega (arith, c.if-ends-words_for.true, c.words_for.ensures.0))

pub returns : goal.returns
returns c =
    let a = c.args in
    ap (λ (n : ℕ). leb (n * 3 + a.strings) a.work) c.words_for-2.ensures.0
    ∙ rest_enough a.file a.strings (record { text = a.text; ends = a.ends; work = a.work })
    (omega (arith, c.if-file-ge-FILE_LIMIT.false)) (omega (arith, c.if-text-file.false))
    (omega (arith, c.if-ends-words_for.false, c.words_for.ensures.0))
