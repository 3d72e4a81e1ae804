-- What a call that writes does to its lent buffer. 01, Refusal numbers: "A refusal answers its number and changes no lent byte";
-- "the first that many output bytes are the image and later bytes stay".
-- docs/FORMAT.md: Answers.
use Rattle.std.specs.Prelude.{◌≡◌, ℕ, List, ◌++◌, length, drop, ◌==◌, nat_lt, Err, Ok, Result}
use Rattle.refusals.specs.Numbers as refusals
use Rattle.bits.specs.Choice.{pick}

-- a refusal by its number, or the new first bytes of the buffer
pub data Outcome : Type 0 where
  refused : ℕ → Outcome
  made : List ℕ → Outcome

-- new bytes, unless there is a refusal's number
abbrev pub outcome_for : ℕ → List ℕ → Outcome
outcome_for n new = pick (n == 0) (made new) (refused n)

-- the buffer after the call
abbrev pub written : Outcome → List ℕ → List ℕ
written (refused n) old = old
written (made new) old = new ++ drop (length new) old

-- the answer of the call: 01's number, or the length of the new bytes
abbrev pub answered : Outcome → Result ℕ ℕ
answered (refused n) = Err n
answered (made new) = Ok (length new)

-- a test by its refusal's number, 0 being none
abbrev pub passed : ℕ → Result (Unit {0}) ℕ
passed n = pick (n == 0) (Ok tt) (Err n)

-- what every function that writes promises: its answer, and what the buffer holds afterwards
abbrev pub Answers : Outcome → Result ℕ ℕ → List ℕ → List ℕ → Type 0
Answers o r old new = (r ≡ answered o) × (new ≡ written o old)

-- the outcome in a buffer of `room` bytes. 01, refusal 13: "output shorter than the result"
unfoldable pub roomed : ℕ → Outcome → Outcome
roomed room (refused n) = refused n
roomed room (made new) = pick (nat_lt room (length new)) (refused refusals.room) (made new)
