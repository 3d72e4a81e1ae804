-- One way out for each thing that is wrong, in the order in which the definition tests it; each later way has those before it at hand.
use borrow.Author.Tests.{le-leb, lt-leb}
use lib.ListN.{length, get_or}
use Rattle.input_records.specs.Heads.{image_head, image_head_good}
use Rattle.input_records.proofs.image_head.Goals as goal

pub returns-then-s-lt-IMAGE_HEAD : goal.returns-then-s-lt-IMAGE_HEAD
unfolding image_head image_head_good
returns-then-s-lt-IMAGE_HEAD c = rw (lt-leb 7 (length c.args.s.now) c.if-s-lt-IMAGE_HEAD.true)

pub returns-then-not-has_mark : goal.returns-then-not-has_mark
unfolding image_head image_head_good
returns-then-not-has_mark c =
    rw (
      le-leb 7 (length c.args.s.now) c.if-s-lt-IMAGE_HEAD.false,
      ← c.has_mark.ensures,
      c.if-not-has_mark.true,
    )

pub returns-then-s-gt4 : goal.returns-then-s-gt4
unfolding image_head image_head_good
returns-then-s-gt4 c =
    rw (
      le-leb 7 (length c.args.s.now) c.if-s-lt-IMAGE_HEAD.false,
      ← c.has_mark.ensures,
      c.if-not-has_mark.false,
      lt-leb (get_or c.args.s.now 2 0) 4 c.if-s-gt4.true,
    )

pub returns-then-length-gt-IMAGE_MOST : goal.returns-then-length-gt-IMAGE_MOST
unfolding image_head image_head_good
returns-then-length-gt-IMAGE_MOST c =
    rw (
      le-leb 7 (length c.args.s.now) c.if-s-lt-IMAGE_HEAD.false,
      ← c.has_mark.ensures,
      c.if-not-has_mark.false,
      le-leb (get_or c.args.s.now 2 0) 4 c.if-s-gt4.false,
      ← c.word-length.ensures.0,
      lt-leb c.word-length.result 65_536 c.if-length-gt-IMAGE_MOST.true,
    )

pub returns : goal.returns
unfolding image_head image_head_good
returns c =
    rw (
      le-leb 7 (length c.args.s.now) c.if-s-lt-IMAGE_HEAD.false,
      ← c.has_mark.ensures,
      c.if-not-has_mark.false,
      le-leb (get_or c.args.s.now 2 0) 4 c.if-s-gt4.false,
      ← c.word-length.ensures.0,
      le-leb c.word-length.result 65_536 c.if-length-gt-IMAGE_MOST.false,
      c.layout_of.ensures,
    )
