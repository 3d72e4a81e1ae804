-- The ways out of a leaf on a slot: too short, a sum that does not fit, and done. Over the size, the edit and what is read.
use Rattle.std.specs.Prelude.{Err, None, Ok, Option, Result, Some}
use Rattle.std.specs.Option.{ok_or}
use mathlib.Core.Path.{◌≡◌, refl, ap, sym, ◌∙◌}
use mathlib.Core.List.{List, ◌++◌, append-nil}
use Prim.Native.Nat.{ℕ, ◌+◌, ◌≤◌, ◌<◌}
use native.Mathlib.Nat.{zero-add}
use native.Mathlib.Omega.{arith}
use borrow.Author.Tests.{lt-leb, le-leb}
use lib.IntN.{ℤ}
use lib.ListN.{length, drop}
use lib.Seq.{sets, sets-eq, length-sets, drop-length}
use Rattle.bits.specs.Outcome.{Outcome, written}
use Rattle.bits.specs.Bytes.{number_at, word_at, bytes_of}
use Rattle.bits.proofs.ByteLaws.{length-bytes_of}
use Rattle.bits.proofs.OutcomeLaws.{one_outcome}
use Rattle.records.specs.Sum.{summed, word_bits}
use Rattle.records.specs.Records.{Edited, edited, beyond}
use Rattle.header_write.specs.Slots.{wrote, Writes, on_slot, of_slot, shift_word}

-- two runs that both promise `Writes` end alike
pub one_writing : (o : Outcome) (r r' : Result (Unit {0}) ℕ) (old new new' : List ℕ) → Writes o r old new → Writes o r' old new'
    → (r ≡ r') × (new ≡ new')
one_writing o r r' old new new' p q = one_outcome (wrote o) r r' (written o old) new new' p q

-- a write at the front is the new bytes and then the rest
pub front : (bs s : List ℕ) → length bs ≤ length s → sets s 0 bs ≡ bs ++ drop (length bs) s
front bs s h = sets-eq bs s 0 (omega arith) ∙ rw (zero-add (length bs))

-- what `ok_or` made of an option
pub none_refused : {A E : Type 0} (o : Option A) (e d : E) → ok_or o e ≡ Err d → (o ≡ None) × (d ≡ e)
none_refused None e d h = (refl, cc)
none_refused (Some x) e d h = let z : ◌≡◌ {A = ℕ} 0 1 = cc in absurd (omega arith)

pub some_kept : {A E : Type 0} (o : Option A) (e : E) (x : A) → ok_or o e ≡ Ok x → o ≡ Some x
some_kept None e x h = let z : ◌≡◌ {A = ℕ} 0 1 = cc in absurd (omega arith)
some_kept (Some y) e x h = cc

pub slot_short : (size : ℕ) (edit : ℕ → Edited) (s : List ℕ) → length s < size → Writes (on_slot size edit s) (Err 1) s s
unfolding on_slot
slot_short size edit s h = rw (lt-leb size (length s) h) (refl, refl)

pub slot_beyond : (size : ℕ) (edit : ℕ → Edited) (s : List ℕ) → size ≤ length s → beyond ≡ edit (number_at s 0 size)
    → Writes (on_slot size edit s) (Err 12) s s
unfolding on_slot
slot_beyond size edit s h e = rw (le-leb size (length s) h, ← e) (refl, refl)

pub slot_done : (size n : ℕ) (edit : ℕ → Edited) (s s' : List ℕ)
    → size ≤ length s → s' ≡ sets s 0 (bytes_of size n) → edited n ≡ edit (number_at s 0 size)
    → Writes (on_slot size edit s) (Ok tt) s s'
unfolding on_slot
slot_done size n edit s s' h e k =
    let f : length (bytes_of size n) ≤ length s = rw (length-bytes_of size n) h in
    rw (le-leb size (length s) h, ← k) (refl, e ∙ front (bytes_of size n) s f)

module _ {A : Type 0} (size : ℕ) (read : ℕ → A) (short : A) (s : List ℕ) where
  pub read_short : length s < size → short ≡ of_slot size read short s
  unfolding of_slot
  read_short h = rw (lt-leb size (length s) h)

  pub read_done : (n : ℕ) → size ≤ length s → n ≡ number_at s 0 size → read n ≡ of_slot size read short s
  unfolding of_slot
  read_done n h e = rw (le-leb size (length s) h, e)

-- ---- a word at any position

pub word_short : (at : ℕ) (delta : ℤ) (s : List ℕ) → length s < at + 4 → Writes (shift_word at delta s) (Err 1) s s
unfolding shift_word
word_short at delta s h = rw (lt-leb (at + 4) (length s) h) (refl, refl)

pub word_beyond : (at : ℕ) (delta : ℤ) (s : List ℕ) → at + 4 ≤ length s → None ≡ summed word_bits delta (word_at s at)
    → Writes (shift_word at delta s) (Err 12) s s
unfolding shift_word
word_beyond at delta s h e = rw (le-leb (at + 4) (length s) h, ← e) (refl, refl)

-- an edit that keeps the length is the buffer afterwards
pub whole : (s s' : List ℕ) → length s' ≡ length s → s' ≡ s' ++ drop (length s') s
whole s s' e = rw (e, drop-length s) (sym (append-nil s'))

pub word_done : (at : ℕ) (delta : ℤ) (x : ℕ) (s s' : List ℕ) → at + 4 ≤ length s → s' ≡ sets s at (bytes_of 4 x)
    → Some x ≡ summed word_bits delta (word_at s at) → Writes (shift_word at delta s) (Ok tt) s s'
unfolding shift_word
word_done at delta x s s' h e k =
    let l : length s' ≡ length s = ap length e ∙ length-sets s at (bytes_of 4 x) in
    rw (le-leb (at + 4) (length s) h, ← k, ← e) (refl, whole s s' l)

-- a buffer that is written whole
pub fresh : (s : List ℕ) (size n m : ℕ) (x : List ℕ) → length s ≡ size → x ≡ sets s 0 (bytes_of size n) → n ≡ m
    → x ≡ bytes_of size m
fresh s size n m x l e k =
    let f : length (bytes_of size n) ≡ length s = length-bytes_of size n ∙ sym l in
    e ∙ front (bytes_of size n) s (omega arith) ∙ rw (f, drop-length s, append-nil, k)
