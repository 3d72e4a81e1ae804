-- The record of a string, which all who find it hand round. 02, No. 5: "Put the rank, or none, into the record that admission and the
-- reader hand round".
-- docs/FORMAT.md: Strings, Identifier hash.
use Rattle.std.specs.Prelude.{Bool, true, false, List, ℕ, ◌+◌, None, Option, Some}
use Rattle.bits.specs.Choice.{pick}
use Rattle.format.specs.declared.Layout.{Layout}
use Rattle.image.specs.Sections.{storage_at}
use Rattle.image.specs.Strings.{place_at}
use Rattle.image.specs.Kinds.{is_identifier, rank_of}
use Rattle.string_walk.specs.declared.StringRecord.{StringRecord}

-- the rank of string i: how many identifiers have a lower id; none for a plain string
unfoldable pub rank_in : Layout → List ℕ → ℕ → Option ℕ
rank_in l s i = pick (is_identifier l s i) (Some (rank_of l s i)) None

-- whether a rank is that of an identifier
abbrev pub is_ranked : Option ℕ → Bool
is_ranked (Some n) = true
is_ranked None = false

-- string i: where its bytes start in the image, its place in storage, and its rank
unfoldable pub record_of : Layout → List ℕ → ℕ → StringRecord
record_of l s i =
    let q = place_at l s i in
    record { start = storage_at l s + q.at; place = record { wide = q.wide; at = q.at; count = q.count }; rank = rank_in l s i }
