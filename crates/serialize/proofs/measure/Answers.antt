-- One way out for each condition, in the order of 01.
use mathlib.Core.Path.{◌≡◌, sym, ◌∙◌}
use mathlib.Core.Bool.{true}
use native.Mathlib.Omega.{arith}
use Rattle.serialize.specs.Builder.{ends_ascend}
use Rattle.serialize.proofs.BuilderLaws.{EndsOrdered, Current, AsciiStrings}
use Rattle.serialize.proofs.BuilderLaws.{ascii-is, unordered, past_text, old_version, not_ascii, not-small, by_length}
use Rattle.serialize.proofs.measure.Goals as goal
use Rattle.serialize.proofs.measure.Goals.{Else-given-size, Else-not-ascii, Else-not-ends_ascend, Else-version-lt-LEAST_VERSION}

ascends : (c : Else-not-ends_ascend) → ends_ascend c.args.ends.now ≡ true
ascends c = sym c.ends_ascend.ensures ∙ c.if-not-ends_ascend.false

ordered : (c : Else-given-size) → EndsOrdered c.args.text.now c.args.ends.now
ordered c = record { ascends = sym c.ends_ascend.ensures ∙ c.if-not-ends_ascend.false; last = omega arith }

current : (c : Else-version-lt-LEAST_VERSION) → Current c.args.version c.args.text.now c.args.ends.now
current c = record {
  ordered = record { ascends = sym c.ends_ascend.ensures ∙ c.if-not-ends_ascend.false; last = omega arith };
  version = c.if-version-lt-LEAST_VERSION.false;
}

plain : (c : Else-not-ascii) → AsciiStrings c.args.version c.args.text.now c.args.ends.now
plain c = let a = c.args in
    record {
      current = record {
        ordered = record { ascends = sym c.ends_ascend.ensures ∙ c.if-not-ends_ascend.false; last = omega arith };
        version = c.if-version-lt-LEAST_VERSION.false;
      };
      plain =
          ascii-is a.text.now a.ends.now c.start_of-size.result _ _ c.start_of-size.ensures.0
          c.ascii.ensures c.if-not-ascii.false;
    }

pub returns-then-not-ends_ascend : goal.returns-then-not-ends_ascend
returns-then-not-ends_ascend c =
    let a = c.args in
    unordered a.version a.text.now a.ends.now a.body.now
    (sym c.ends_ascend.ensures ∙ c.if-not-ends_ascend.true)

pub returns-then-given-size : goal.returns-then-given-size
returns-then-given-size c =
    let a = c.args in
    past_text a.version a.text.now a.ends.now a.body.now (ascends (goal.at.returns-then-given-size c).Else-not-ends_ascend) (omega arith)

pub returns-then-version-lt-LEAST_VERSION : goal.returns-then-version-lt-LEAST_VERSION
returns-then-version-lt-LEAST_VERSION c =
    let a = c.args in
    old_version a.version a.text.now a.ends.now a.body.now (ordered (goal.at.returns-then-version-lt-LEAST_VERSION c).Else-given-size)
    c.if-version-lt-LEAST_VERSION.true

pub returns-then-not-ascii : goal.returns-then-not-ascii
returns-then-not-ascii c =
    let a = c.args in
    not_ascii a.version a.text.now a.ends.now a.body.now (current (goal.at.returns-then-not-ascii c).Else-version-lt-LEAST_VERSION)
    (ascii-is a.text.now a.ends.now c.start_of-size.result _ _ c.start_of-size.ensures.0
    c.ascii.ensures c.if-not-ascii.true)

pub returns-then-not-all_small : goal.returns-then-not-all_small
returns-then-not-all_small c =
    let a = c.args in
    not-small a.version a.text.now a.ends.now a.body.now (plain (goal.at.returns-then-not-all_small c).Else-not-ascii)
    (sym c.all_small.ensures ∙ c.if-not-all_small.true)

pub returns : goal.returns
returns c =
    let a = c.args in
    rw c.start_of-size.ensures.0 at c.limited.ensures
    ∙ by_length a.version a.text.now a.ends.now a.body.now (plain (goal.at.returns c).Else-not-ascii)
    (sym c.all_small.ensures ∙ c.if-not-all_small.false)
