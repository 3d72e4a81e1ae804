-- Pairs are told apart by the UTF-16 units of their msgids too.
use mathlib.Core.Path.{◌≡◌}
use mathlib.Core.List.{List}
use Prim.Native.Nat.{ℕ, ◌<◌}
use lib.ListN.{length}
use Rattle.utf.specs.Utf8.{utf16}
use Rattle.utf.proofs.Utf8Laws.{utf16_one}
use Rattle.po_pairs.specs.Pairs.{Pair, msgid_of, pairs, read_file}
use Rattle.po_pairs.proofs.PairLaws.{one_pair}
use Rattle.po_pairs.proofs.ValueLaws.{all_utf8_lem}

pub one_pair_units : (s : List ℕ) (ps : List Pair) → read_file s ≡ pairs ps → (i j : ℕ) → i < length ps → j < length ps
    → utf16 (msgid_of ps i) ≡ utf16 (msgid_of ps j) → i ≡ j
one_pair_units s ps e i j h k q =
    one_pair s ps e i j h k (utf16_one (msgid_of ps i) (msgid_of ps j) (all_utf8_lem s ps e i h).0 (all_utf8_lem s ps e j k).0 q)
