-- Too short, or by the mark: one way out for each, with the tests before it at hand.
use borrow.Author.Tests.{le-leb, lt-leb}
use lib.ListN.{length}
use Rattle.input_records.specs.Heads.{patch_head}
use Rattle.input_records.proofs.patch_head.Goals as goal

pub returns-then-s-lt-PATCH_HEAD : goal.returns-then-s-lt-PATCH_HEAD
unfolding patch_head
returns-then-s-lt-PATCH_HEAD c = rw (lt-leb 8 (length c.args.s.now) c.if-s-lt-PATCH_HEAD.true)

pub returns-then-has_mark : goal.returns-then-has_mark
unfolding patch_head
returns-then-has_mark c =
    rw (
      le-leb 8 (length c.args.s.now) c.if-s-lt-PATCH_HEAD.false,
      ← c.has_mark.ensures,
      c.if-has_mark.true,
      c.word-id.ensures.0,
      c.half_word-length.ensures.0,
    )

pub returns-then-has_mark-2 : goal.returns-then-has_mark-2
unfolding patch_head
returns-then-has_mark-2 c =
    rw (
      le-leb 8 (length c.args.s.now) c.if-s-lt-PATCH_HEAD.false,
      ← c.has_mark.ensures,
      c.if-has_mark.false,
      ← c.has_mark-2.ensures,
      c.if-has_mark-2.true,
      c.word-id.ensures.0,
      c.half_word-length.ensures.0,
    )

pub returns : goal.returns
unfolding patch_head
returns c =
    rw (
      le-leb 8 (length c.args.s.now) c.if-s-lt-PATCH_HEAD.false,
      ← c.has_mark.ensures,
      c.if-has_mark.false,
      ← c.has_mark-2.ensures,
      c.if-has_mark-2.false,
    )
