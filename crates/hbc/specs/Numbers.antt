-- Answers as one number, for callers in C and in Rust. 01: "A refusal answers its number".
-- docs/FORMAT.md: Exports.
use Rattle.std.specs.Prelude.{◌≡◌, Bool, false, List, ℕ, ◌+◌, ltb, eqb, Err, Ok, Result}
use Rattle.refusals.specs.Numbers as refusals
use Rattle.bits.specs.Choice.{pick}
use Rattle.bits.specs.Outcome.{Outcome, refused, answered, written}
use Rattle.format.specs.declared.Layout.{Layout}
use Rattle.format.specs.declared.Mode.{Mode}
use Rattle.format.specs.declared.Mode.TheVariants.{Plain, Even}
use Rattle.image.specs.Admission.{refusal}
use Rattle.input_records.specs.Heads.{layout_of}

-- admission under a layout byte: 0 where the bytes are admitted. 01, refusal 15: "layout byte over 4"
unfoldable pub admit_number : ℕ → List ℕ → ℕ
admit_number byte s = pick (ltb 4 byte) refusals.job (refusal (layout_of byte) s)

-- an answer that is a length, a count or a refusal, as one number of 64 bits: itself, or 2^32 and the refusal's number. No image is so long
abbrev pub numbered : Result ℕ ℕ → ℕ
numbered (Ok n) = n
numbered (Err n) = 4294967296 + n

-- the number of an outcome's answer
abbrev pub coded : Outcome → ℕ
coded o = numbered (answered o)

-- what every function here that writes promises: its number, and what the buffer holds afterwards
abbrev pub Codes : Outcome → ℕ → List ℕ → List ℕ → Type 0
Codes o r old new = (r ≡ coded o) × (new ≡ written o old)

-- the outcome under the layout that a byte states. 01, refusal 15: "layout byte over 4"
unfoldable pub stated : ℕ → (Layout → Outcome) → Outcome
stated byte o = pick (ltb 4 byte) (refused refusals.job) (o (layout_of byte))

-- the mode that a byte states: 0 plain, else even. 02, No. 2: "The caller chooses the mode"
unfoldable pub mode_of : ℕ → Mode
mode_of byte = pick (eqb byte 0) Plain Even

-- the outcome in the mode that a byte states; 15 where the byte is over 1, as for the layout byte
unfoldable pub chosen : ℕ → (Mode → Outcome) → Outcome
chosen byte o = pick (ltb 1 byte) (refused refusals.job) (o (mode_of byte))

-- ---- an answer that counts strings

-- under the layout that a byte states, as one number likewise. 02, No. 13, as docs/DECISIONS.md reads it: filling answers the string count
unfoldable pub count_stated : ℕ → (Layout → Result ℕ ℕ) → ℕ
count_stated byte f = pick (ltb 4 byte) (4294967296 + refusals.job) (numbered (f (layout_of byte)))

-- ---- space that is lent for work: not used where a byte states no layout or no mode

-- whether the three of a file are used
unfoldable pub used_by : ℕ → ℕ → (Layout → Bool) → Bool
used_by layout mode used = pick (ltb 4 layout) false (pick (ltb 1 mode) false (used (layout_of layout)))

-- the one of the writer, or an index, afterwards
unfoldable pub work_by : ℕ → (Layout → List ℕ) → List ℕ → List ℕ
work_by layout after old = pick (ltb 4 layout) old (after (layout_of layout))

-- an index afterwards, where there is a mode too
unfoldable pub work_in : ℕ → ℕ → (Layout → List ℕ) → List ℕ → List ℕ
work_in layout mode after old = pick (ltb 4 layout) old (pick (ltb 1 mode) old (after (layout_of layout)))
