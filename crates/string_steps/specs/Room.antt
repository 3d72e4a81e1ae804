-- Room in which no single patch meets 11, 12 or 13, whatever strings have their new values: then none has to be measured.
-- docs/FORMAT.md: Translators' files.
use Rattle.std.specs.Prelude.{Bool, List, ℕ, ◌+◌, ◌-◌, ◌*◌, leb, length}
use Rattle.std.proofs.Math.Option.{Option, none, some}
use Rattle.bits.specs.Choice.{both, sum_below}
use Rattle.bits.specs.Bytes.{up4}
use Rattle.format.specs.declared.Layout.{Layout}
use Rattle.format.specs.Table.{overflow_entry}
use Rattle.format.specs.Move.{moved}
use Rattle.footer.specs.Finalize.{size_limit}
use Rattle.image.specs.Sections.{strings_in, over_at, tail_at}
use Rattle.image.specs.Strings.{string_of}
use Rattle.edits.specs.Fit.{fields_fit}
use Rattle.string_edits.specs.Values.{Values}
use Rattle.string_packing.specs.Strings.{as_string}

-- the bytes of the value that a string gets
abbrev pub new_size : Option (List ℕ) → ℕ
new_size none = 0
new_size (some value) = length (as_string value).bytes

-- the bytes of the first n strings, and those of the values that they get
abbrev pub old_bytes : Layout → List ℕ → ℕ → ℕ
old_bytes l s n = sum_below n (λ i. length (string_of l s i).bytes)

abbrev pub new_bytes : Values → ℕ → ℕ
new_bytes v n = sum_below n (λ i. new_size (v i))

-- the bytes of all strings, those of all new values, and one before each string: no packing of some old and some new ones is longer
unfoldable pub store_most : Layout → List ℕ → Values → ℕ
store_most l s v = old_bytes l s (strings_in s) + new_bytes v (strings_in s) + strings_in s

-- with every string in the overflow table the tail starts no later
unfoldable pub tail_most : Layout → List ℕ → Values → ℕ
tail_most l s v = up4 (over_at l s + strings_in s * overflow_entry.width + store_most l s v)

-- in such room, and with the tail so far, nothing is refused
unfoldable pub is_roomy : Layout → List ℕ → ℕ → Values → Bool
is_roomy l s room v =
    both (leb (length s) room)
    (both (leb (length s - tail_at l s + tail_most l s v) room)
    (both (leb (length s - tail_at l s + tail_most l s v) size_limit) (fields_fit l s (moved (tail_at l s) (tail_most l s v)))))
