-- Four ways out, one for each test in its turn; the places are judged once the length is known.
use Rattle.admission.proofs.StageLaws.{LengthTested, Marked, is-marked, too_short, too_long, no_magic, no_room, all_laid}
use Rattle.admission.proofs.lay_out.Goals as goal
use Rattle.admission.proofs.lay_out.Goals.{Else-image-gt-SIZE_LIMIT, Else-word64-ne-MAGIC_NUMBER}

sized : (c : Else-image-gt-SIZE_LIMIT) → LengthTested c.args.image.now
sized c = record { least = c.if-image.false; most = c.if-image-gt-SIZE_LIMIT.false }

marked : (c : Else-word64-ne-MAGIC_NUMBER) → Marked c.args.image.now
marked c = is-marked (record { least = c.if-image.false; most = c.if-image-gt-SIZE_LIMIT.false }) _ (rw c.at.ensures at c.word64.ensures)
    c.if-word64-ne-MAGIC_NUMBER.false

pub returns-then-image : goal.returns-then-image
returns-then-image c = too_short _ _ c.if-image.true

pub returns-then-image-gt-SIZE_LIMIT : goal.returns-then-image-gt-SIZE_LIMIT
returns-then-image-gt-SIZE_LIMIT c = too_long _ _ c.if-image.false c.if-image-gt-SIZE_LIMIT.true

pub returns-then-word64-ne-MAGIC_NUMBER : goal.returns-then-word64-ne-MAGIC_NUMBER
returns-then-word64-ne-MAGIC_NUMBER c =
    no_magic (sized (goal.at.returns-then-word64-ne-MAGIC_NUMBER c).Else-image-gt-SIZE_LIMIT) _ (rw c.at.ensures at c.word64.ensures) _
    c.if-word64-ne-MAGIC_NUMBER.true

pub returns-then-p : goal.returns-then-p
returns-then-p c = no_room _ (marked (goal.at.returns-then-p c).Else-word64-ne-MAGIC_NUMBER) _ c.places_of-p.ensures c.if-p.true

pub returns : goal.returns
returns c = all_laid _ (marked (goal.at.returns c).Else-word64-ne-MAGIC_NUMBER) _ c.places_of-p.ensures c.if-p.false
