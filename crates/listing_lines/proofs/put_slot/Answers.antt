-- By the kind of slot: the digits of a hash, or a dash.
use Rattle.std.specs.Prelude.{ℕ, Option}
use mathlib.Core.Path.{subst⁻¹}
use native.Mathlib.Omega.{arith}
use Rattle.text.specs.Text.{Wrote}
use Rattle.listing_lines.specs.Lines.{slot_word}
use Rattle.listing_lines.proofs.UnitLaws.{length_slot}
use Rattle.listing_lines.proofs.put_slot.Goals as goal

pub returns-in-Some : goal.returns-in-Some
returns-in-Some c =
    let a = c.args in
    let p = c.put_hex_word in
    let w = subst⁻¹ (λ (x : Option ℕ). Wrote a.out.now a.at (slot_word x) p.result p.new.out) c.in-Some.is
    p.ensures in
    (w, omega (arith, w.0, length_slot a.slot))

pub returns-in-None : goal.returns-in-None
returns-in-None c =
    let a = c.args in
    let p = c.put_text in
    let w = subst⁻¹ (λ (x : Option ℕ). Wrote a.out.now a.at (slot_word x) p.result p.new.out) c.in-None.is
    p.ensures in
    (w, omega (arith, w.0, length_slot a.slot))
