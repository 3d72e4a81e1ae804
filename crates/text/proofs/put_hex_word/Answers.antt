-- The digits of the high half, and those of the low half behind them.
use mathlib.Core.Path.{refl}
use Prim.Native.Nat.{◌+◌, ◌/◌, ◌%◌}
use native.Mathlib.Omega.{arith}
use Rattle.text.specs.Text.{hex4, hex8}
use Rattle.text.proofs.TextLaws.{wrote_then}
use Rattle.text.proofs.put_hex_word.Goals as goal

pub returns : goal.returns
unfolding hex4 hex8
returns c =
    let a = c.args in
    let w = wrote_then a.out.now c.put_hex.new.out c.put_hex-2.new.out (hex4 (a.word / 65536))
    (hex4 (a.word % 65536)) a.at (a.at + 4) (a.at + 4 + 4) (refl, c.put_hex.ensures) (refl, c.put_hex-2.ensures) in
    (omega arith, w.1)
