-- What is stored and what is left of the text make the whole value, and where the text ends is judged from where it stands.
use mathlib.Core.Path.{◌≡◌}
use Prim.Native.Nat.{◌+◌, ◌≤◌}
use lib.ListN.{length, drop}
use lib.Seq.{sets}
use Rattle.po_lines.specs.declared.Quote.TheVariants.{Open}
use Rattle.po_lines.specs.Quoted.{quote_end, unescaped}
use Rattle.po_lines.proofs.put_unescaped.Given as goal

abbrev pub invariant-loop-b : goal.invariant-loop-b
invariant-loop-b l =
    (length l.out ≡ length l.initial.out) × (l.to ≤ l.at + l.b-index)
    × (quote_end l.quote (drop l.b-index l.text) ≡ quote_end Open l.text)
    × (l.to + length (unescaped l.quote (drop l.b-index l.text)) ≡ l.at + length (unescaped Open l.text))
    × (sets l.out l.to (unescaped l.quote (drop l.b-index l.text)) ≡ sets l.initial.out l.at (unescaped Open l.text))
