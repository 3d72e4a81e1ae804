-- The hash of an identifier. 01, Strings: "per UTF-16 unit, add it, add the sum shifted left 10, xor with itself shifted right 6,
-- all modulo 2^32".
-- docs/FORMAT.md: Identifier hash.
use Rattle.std.specs.Prelude.{List, [], ◌∷◌, ℕ, ◌*◌, ◌/◌, ◌^◌}
use Rattle.bits.specs.Word32.{add32, xor32}

-- xor with itself shifted right 6
unfoldable pub mixed : ℕ → ℕ
mixed s = xor32 s (s / 2 ^ 6)

-- one unit: add it, add the sum shifted left 10, mix
unfoldable pub hash_step : ℕ → ℕ → ℕ
hash_step h unit = mixed (add32 (add32 h unit) (add32 h unit * 2 ^ 10))

-- the hash of the units, from h on
unfoldable pub hash_from : ℕ → List ℕ → ℕ
hash_from h [] = h
hash_from h (u ∷ us) = hash_from (hash_step h u) us

-- the hash of an identifier
unfoldable pub hash_of : List ℕ → ℕ
hash_of units = hash_from 0 units
