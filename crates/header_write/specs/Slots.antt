-- What each leaf answers and leaves in its buffer. 01, Refusal numbers: "a record slot, word or header buffer too short" is 1; 02,
-- No. 8: a sum that its place cannot hold is 12.
-- docs/FORMAT.md: Record leaves.
use Rattle.std.specs.Prelude.{false, List, ◌≡◌, ℕ, ◌+◌, leb, ℤ, length, Err, None, Ok, Option, Result, Some}
use Rattle.std.proofs.lemmas.List.Edits.{sets}
use Rattle.refusals.specs.Numbers as refusals
use Rattle.bits.specs.Choice.{pick}
use Rattle.bits.specs.Bytes.{number_at, word_at, bytes_of}
use Rattle.bits.specs.Outcome.{Outcome, refused, made, written}
use Rattle.format.specs.declared.Layout.TheVariants.{Modern, Legacy}
use Rattle.format.specs.Table.{modern_record, legacy_record}
use Rattle.records.specs.Sum.{summed, word_bits}
use Rattle.records.specs.Records.{Edited, edited, beyond, pointer_read, legacy_fields, modern_fields}
use Rattle.records.specs.declared.LegacyFunctionHeader.{LegacyFunctionHeader}
use Rattle.records.specs.declared.ModernFunctionHeader.{ModernFunctionHeader}

-- ---- a leaf that writes: its answer and its buffer, both by one outcome

-- the answer of an outcome: 01's number, or done
abbrev pub wrote : Outcome → Result (Unit {0}) ℕ
wrote (refused n) = Err n
wrote (made new) = Ok tt

-- what it promises of its answer r and of its buffer, before and after
abbrev pub Writes : Outcome → Result (Unit {0}) ℕ → List ℕ → List ℕ → Type 0
Writes o r old new = (r ≡ wrote o) × (new ≡ written o old)

-- the record in a slot of `size` bytes edited, as one number; what follows it stays. 02, No. 8: "12 after 1"
abbrev pub stored : ℕ → Edited → Outcome
stored size (edited n) = made (bytes_of size n)
stored size beyond = refused refusals.field

unfoldable pub on_slot : ℕ → (ℕ → Edited) → List ℕ → Outcome
on_slot size edit slot = pick (leb size (length slot)) (stored size (edit (number_at slot 0 size))) (refused refusals.size)

-- a sum put at a position as a word
abbrev pub stored_at : ℕ → List ℕ → Option ℕ → Outcome
stored_at at s (Some x) = made (sets s at (bytes_of 4 x))
stored_at at s None = refused refusals.field

-- delta added to the word at a position
unfoldable pub shift_word : ℕ → ℤ → List ℕ → Outcome
shift_word at delta s = pick (leb (at + 4) (length s)) (stored_at at s (summed word_bits delta (word_at s at))) (refused refusals.size)

-- ---- a leaf that reads the record in a slot of `size` bytes

unfoldable pub of_slot : {A : Type 0} → ℕ → (ℕ → A) → A → List ℕ → A
of_slot size read short slot = pick (leb size (length slot)) (read (number_at slot 0 size)) short

abbrev pub read_legacy : List ℕ → Result LegacyFunctionHeader ℕ
read_legacy slot = of_slot legacy_record.width (λ n. Ok (legacy_fields n)) (Err refusals.size) slot

abbrev pub read_modern : List ℕ → Result ModernFunctionHeader ℕ
read_modern slot = of_slot modern_record.width (λ n. Ok (modern_fields n)) (Err refusals.size) slot

abbrev pub read_legacy_pointer : List ℕ → Result ℕ ℕ
read_legacy_pointer slot =
    of_slot legacy_record.width (λ n. Ok (pointer_read (Legacy false false) n)) (Err refusals.size) slot

abbrev pub read_modern_pointer : List ℕ → Result ℕ ℕ
read_modern_pointer slot = of_slot modern_record.width (λ n. Ok (pointer_read Modern n)) (Err refusals.size) slot
