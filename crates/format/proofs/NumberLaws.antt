-- Fields that are counted in bytes: a number that is put in one is read back, and one that is not named stays.
use mathlib.Core.Path.{◌≡◌, ◌∙◌}
use mathlib.Core.List.{List}
use Prim.Native.Nat.{ℕ, ◌+◌, ◌^◌, ◌≤◌, ◌<◌}
use native.Mathlib.Omega.{arith}
use lib.ListN.{length}
use lib.Seq.{sets, length-sets}
use Rattle.bits.proofs.ListLaws.{AllBelow, below_sets, below_bytes_of}
use Rattle.bits.proofs.ByteLaws.{length-bytes_of}
use Rattle.bits.proofs.WriteLaws.{number_at_back, number_at_off, sets-within}
use Rattle.format.specs.declared.Field.{Field}
use Rattle.format.specs.Number.{number_held, bytes_for, with_number}
use Rattle.format.proofs.RecordLaws.{Apart}

pub number_put : (f : Field) (x : ℕ) (s : List ℕ) → f.at + f.width ≤ length s → x < 256 ^ f.width
    → number_held f (with_number f x s) ≡ x
number_put f x s h k = number_at_back s f.at f.width x h k

pub number_kept : (f g : Field) (x : ℕ) (s : List ℕ) → Apart f g → number_held g (with_number f x s) ≡ number_held g s
number_kept f g x s o = number_at_off s f.at f.width x g.at g.width o

pub length-number : (f : Field) (x : ℕ) (s : List ℕ) → length (with_number f x s) ≡ length s
length-number f x s = length-sets s f.at (bytes_for f x)

pub number_below : (f : Field) (x : ℕ) (s : List ℕ) → AllBelow 256 s → AllBelow 256 (with_number f x s)
number_below f x s h = below_sets 256 (omega arith) (bytes_for f x) s f.at (below_bytes_of f.width x) h

-- there was room for bytes s at p of o, and m is o with them written there
pub record Written (o : List ℕ) (p : ℕ) (s m : List ℕ) : Type 0 where
  pub room : p + length s ≤ length o
  pub laid : m ≡ sets o p s

-- bytes s were written at p, then a number to a field that is counted from p: s was written with that number in it
pub number-within : (f : Field) (x : ℕ) (o o1 o2 s : List ℕ) (p : ℕ) → Written o p s o1 → f.at + f.width ≤ length s
    → o2 ≡ sets o1 (p + f.at) (bytes_for f x) → Written o p (with_number f x s) o2
number-within f x o o1 o2 s p w k g = record {
  room = rw (length-number f x s) w.room;
  laid = g ∙ rw w.laid (sets-within o s (bytes_for f x) p f.at w.room (omega (arith, length-bytes_of f.width x)));
}
