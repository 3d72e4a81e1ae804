use mathlib.Core.Path.{refl}
use native.Mathlib.Omega.{arith}
use Rattle.string_walk.proofs.walk_to.Goals as goal

pub loop-i-init : goal.loop-i-init
loop-i-init c = (refl, c.requires.walked.0)

pub visit-requires : goal.visit-requires
visit-requires c =
    record {
      laid = c.requires.laid;
      walked = (c.loop-i.invariant.1, omega (arith, c.loop-i.invariant.0, c.requires.walked.2));
    }

pub loop-i-preserved : goal.loop-i-preserved
loop-i-preserved c = let e = c.visit.ensures in (omega (arith, e.next, c.loop-i.invariant.0), e.walked)

pub returns : goal.returns
returns c = (c.loop-i.invariant.1, omega (arith, c.loop-i.invariant.0, c.requires.walked.1))
