-- By the number of bytes: the first one or two, then the last two.
use mathlib.Core.Path.{refl}
use mathlib.Core.List.{[], ◌∷◌}
use native.Mathlib.Omega.{arith}
use lib.ListN.{length-set}
use Rattle.text.proofs.TextLaws.{wrote_then}
use Rattle.po_text.proofs.EscapeLaws.{written_one, written_two, written_three, written_four}
use Prim.Native.Nat.{◌+◌, ◌/◌, ◌%◌}
use Rattle.po_text.proofs.put_point.Goals as goal

pub put_escape-requires : goal.put_escape-requires
put_escape-requires c = (omega (arith, c.if-c-lt128.true), rw (written_one _ c.if-c-lt128.true) at c.requires.1)

pub returns-then-c-lt128 : goal.returns-then-c-lt128
returns-then-c-lt128 c = rw (written_one _ c.if-c-lt128.true) c.put_escape.ensures

pub put_two-requires : goal.put_two-requires
put_two-requires c =
    let k = rw (written_two _ c.if-c-lt128.false c.if-c-lt2048.true) at c.requires.1 in
    (omega (arith, c.if-c-lt2048.true), omega arith, k)

pub returns-then-c-lt2048 : goal.returns-then-c-lt2048
returns-then-c-lt2048 c = rw (written_two _ c.if-c-lt128.false c.if-c-lt2048.true) c.put_two.ensures

pub bounds-out-at : goal.bounds-out-at
bounds-out-at c = omega (arith, rw (written_three _ c.if-c-lt2048.false c.if-c-lt65536.true) at c.requires.1)

pub put_two-requires-then-c-lt65536 : goal.put_two-requires-then-c-lt65536
put_two-requires-then-c-lt65536 c =
    let k = rw (written_three _ c.if-c-lt2048.false c.if-c-lt65536.true) at c.requires.1 in
    (omega arith, omega arith, simp length-set (omega (arith, k)))

pub returns-then-c-lt65536 : goal.returns-then-c-lt65536
returns-then-c-lt65536 c =
    let a = c.args in
    let x = a.c in
    rw (written_three _ c.if-c-lt2048.false c.if-c-lt65536.true)
    (wrote_then a.out.now _ _ ((0xE0 + x / 64 / 64) ∷ []) ((0x80 + x / 64 % 64) ∷ (0x80 + x % 64) ∷ []) a.at (a.at + 1) _
    (refl, refl) c.put_two-then-c-lt65536.ensures)

pub put_two-middle-requires : goal.put_two-middle-requires
put_two-middle-requires c =
    (omega (arith, c.requires.0), omega arith, omega (arith, rw (written_four _ c.if-c-lt65536.false) at c.requires.1))

pub put_two-requires-2 : goal.put_two-requires-2
put_two-requires-2 c =
    let k = rw (written_four _ c.if-c-lt65536.false) at c.requires.1 in
    (omega arith, omega arith, omega (arith, k, c.put_two-middle.ensures.0, c.put_two-middle.auto.out))

pub returns : goal.returns
returns c =
    let a = c.args in
    let x = a.c in
    rw (written_four _ c.if-c-lt65536.false)
    (wrote_then a.out.now _ _ ((0xF0 + x / 64 / 64 / 64) ∷ (0x80 + x / 64 / 64 % 64) ∷ [])
    ((0x80 + x / 64 % 64) ∷ (0x80 + x % 64) ∷ []) a.at _ _ c.put_two-middle.ensures c.put_two-2.ensures)
