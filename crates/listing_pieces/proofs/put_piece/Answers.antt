-- By the kind of point: each piece promises what its own function does.
use mathlib.Core.Path.{◌≡◌, subst, subst⁻¹}
use Rattle.listing_pieces.specs.declared.Point.{Point}
use Rattle.listing_pieces.specs.declared.Point.TheVariants.{End}
use Rattle.listing_pieces.specs.Pieces.{Good, Gives}
use Rattle.listing_pieces.proofs.PointLaws.{piece, gives_end}
use Rattle.listing_pieces.proofs.put_piece.Goals as goal
use Rattle.listing_pieces.proofs.put_piece.Goals.{Start}

-- what the point carries along, by its kind
good : (x : Point) → (c : Start) → c.args.point ≡ x → Good c.args.p c.args.image.now x
good x c e = subst (λ (y : Point). Good c.args.p c.args.image.now y) e c.requires.good

pub put_units-requires : goal.put_units-requires
put_units-requires c = record {
  ready = c.requires.ready;
  good = good _ (goal.at.put_units-requires c).Start c.in-Units.is;
  at_in_bounds = c.requires.at_in_bounds;
}

pub returns-in-Counts : goal.returns-in-Counts
returns-in-Counts c =
    subst⁻¹
    (λ (x : Point). Gives c.args.p c.args.image.now c.args.out.now c.args.at x
    c.put_counts.result c.put_counts.new.out)
    c.in-Counts.is c.put_counts.ensures

pub returns-in-Strings : goal.returns-in-Strings
returns-in-Strings c =
    subst⁻¹
    (λ (x : Point). Gives c.args.p c.args.image.now c.args.out.now c.args.at x
    c.put_string.result c.put_string.new.out)
    c.in-Strings.is
    (c.put_string.ensures _ c.requires.ready (good _ (goal.at.returns-in-Strings c).Start c.in-Strings.is))

pub returns-in-Units : goal.returns-in-Units
returns-in-Units c =
    subst⁻¹
    (λ (x : Point). Gives c.args.p c.args.image.now c.args.out.now c.args.at x
    c.put_units.result c.put_units.new.out)
    c.in-Units.is c.put_units.ensures

pub returns-in-Functions : goal.returns-in-Functions
returns-in-Functions c =
    subst⁻¹
    (λ (x : Point). Gives c.args.p c.args.image.now c.args.out.now c.args.at x
    c.put_function.result c.put_function.new.out)
    c.in-Functions.is c.put_function.ensures

pub returns-in-End : goal.returns-in-End
returns-in-End c =
    subst⁻¹
    (λ (x : Point). Gives c.args.p c.args.image.now c.args.out.now c.args.at x
    (piece c.args.at End) c.args.out.now)
    c.in-End.is (gives_end _ _ _ _)
