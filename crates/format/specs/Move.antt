-- Places that move. 01, Bodies: "a place at or past the tail (rebuild) or threshold (body) moves by delta, any other and 0 stay".
-- docs/FORMAT.md: Relocation.
use Rattle.std.specs.Prelude.{ℕ, ◌+◌, ◌-◌, ltb}
use Rattle.bits.specs.Choice.{pick}

-- what stood at `from` stands at `to`: a place at or past `from` keeps its distance to it, any other stays
unfoldable pub moved : ℕ → ℕ → ℕ → ℕ
moved from to p = pick (ltb p from) p (p - from + to)
