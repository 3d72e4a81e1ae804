-- Finalize. 01, Refusal numbers: "it writes the file length at 32, then over the last 20 bytes the SHA-1 of all bytes before them".
-- docs/FORMAT.md: Finalize.
use Rattle.std.specs.Prelude.{◌≡◌, List, ℕ, ◌+◌, ◌-◌, ltb, length, take, drop}
use Rattle.refusals.specs.Numbers as refusals
use Rattle.bits.specs.Choice.{pick, either}
use Rattle.bits.specs.Outcome.{Outcome, refused, made}
use Rattle.format.specs.Table.{file_length}
use Rattle.format.specs.Number.{number_held, with_number}
use Rattle.sha1_hash.specs.Sha1.{digest}
use Rattle.footer.specs.Footer.{footer_length, footed}

-- 01, refusal 1: "finalize under 36 .. bytes", where the file length's field ends
abbrev pub least_length : ℕ
least_length = file_length.at + file_length.width

-- 01, refusal 1: ".. or over 67,108,864 bytes"
abbrev pub size_limit : ℕ
size_limit = 67108864

-- the file length in its place
unfoldable pub lengthed : List ℕ → List ℕ
lengthed s = with_number file_length (length s) s

-- the footer over the last bytes
unfoldable pub sealed : List ℕ → List ℕ
sealed s = footed (take (length s - footer_length) s)

-- serialize.rs, `finalize_raw_image`
unfoldable pub finalize_of : List ℕ → Outcome
finalize_of s = pick (either (ltb (length s) least_length) (ltb size_limit (length s))) (refused refusals.size) (made (sealed (lengthed s)))

-- what is finalized says so: the file length is its own, the last 20 bytes are the SHA-1 of those before
pub record Sealed (t : List ℕ) : Type 0 where
  pub file_length : number_held file_length t ≡ length t
  pub footer : drop (length t - footer_length) t ≡ digest (take (length t - footer_length) t)
