-- One outcome: a point is no more than its spot and the identifiers before it, so that a batch of pieces ends in one way.
use mathlib.Core.Path.{◌≡◌, refl, ap, sym, ◌∙◌}
use mathlib.Core.List.{List}
use Prim.Native.Nat.{ℕ}
use Rattle.format.specs.declared.Layout.{Layout}
use Rattle.image.specs.Kinds.{rank_of}
use Rattle.sections.specs.declared.Places.{Places}
use Rattle.listing_pieces.specs.declared.Point.{Point}
use Rattle.listing_pieces.specs.declared.Point.TheVariants.{Counts, Strings, Units, Functions, End}
use Rattle.listing_pieces.specs.declared.Piece.{Piece}
use Rattle.listing_pieces.specs.Pieces.{Spot, counts, strings, units, functions, end, spot_of, Good, GivesAll}

-- the point at a spot
abbrev point_at : Layout → List ℕ → Spot → Point
point_at l s counts = Counts
point_at l s (strings i) = Strings (record { id = i; before = rank_of l s i })
point_at l s (units i j) = Units (record { id = i; before = rank_of l s i }) j
point_at l s (functions i) = Functions i
point_at l s end = End

point_is : (p : Places) (s : List ℕ) (x : Point) → Good p s x → x ≡ point_at p.layout s (spot_of x)
point_is p s Counts g = refl
point_is p s (Strings t) g = ap (λ (n : ℕ). Strings (record { id = t.id; before = n })) g
point_is p s (Units t j) g = ap (λ (n : ℕ). Units (record { id = t.id; before = n }) j) g.1
point_is p s (Functions i) g = refl
point_is p s End g = refl

pub one_batch : (p : Places) (s old : List ℕ) (x : Point) (r r' : Piece) (new new' : List ℕ) → GivesAll p s old x r new
    → GivesAll p s old x r' new'
    → (r.end ≡ r'.end) × (r.next ≡ r'.next) × (new ≡ new')
one_batch p s old x r r' new new' g h = (
  g.wrote.0 ∙ sym h.wrote.0,
  point_is p s r.next g.good ∙ ap (point_at p.layout s) (g.next ∙ sym h.next) ∙ sym (point_is p s r'.next h.good),
  g.wrote.1 ∙ sym h.wrote.1,
)
