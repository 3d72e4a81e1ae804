-- Refusals in 01's order, each by its law; the string that was found is patched.
use Rattle.std.proofs.lemmas.Result.{err_from_is_err_and}
use mathlib.Core.Path.{ap}
use mathlib.Core.Bool.{not}
use mathlib.Core.Path.{sym, ◌∙◌}
use Prim.Native.Nat.{ℕ, ◌<◌}
use lib.ListN.{get_or}
use Rattle.admission.proofs.AnswerLaws.{is-laid}
use Rattle.string_walk.proofs.WalkLaws.{located_self}
use Rattle.strings.proofs.PatchLaws.{OldTested, NewTested, ValueSought}
use Rattle.strings.proofs.PatchLaws.{value_refused, old_value, new_value, value-absent, value_known}
use Rattle.strings.proofs.patch_string_replace.Goals as goal
use Rattle.strings.proofs.patch_string_replace.Goals.{After-find, After-is_utf8, After-is_utf8-2}

old-tested : (c : After-is_utf8) → let a = c.args in
    OldTested a.layout a.image.now c.admit.result c.in_ok-p.p a.old.now c.is_utf8.result
old-tested c = record {
  admits = record { is = c.admit.ensures; laid = c.in_ok-p.was };
  tested = c.is_utf8.ensures;
}

new-tested : (c : After-is_utf8-2) → let a = c.args in
    NewTested a.layout a.image.now c.admit.result c.in_ok-p.p a.old.now a.new.now
    c.is_utf8.result c.is_utf8-2.result
new-tested c = record {
  before = record {
    admits = record { is = c.admit.ensures; laid = c.in_ok-p.was };
    tested = c.is_utf8.ensures;
  };
  valid = ap not c.if-not-is_utf8.false;
  tested = c.is_utf8-2.ensures;
}

sought : (c : After-find) → let a = c.args in
    ValueSought a.layout a.image.now c.admit.result c.in_ok-p.p a.old.now a.new.now
    c.is_utf8.result c.is_utf8-2.result c.find.result
sought c = record {
  before = record {
    before = record {
      admits = record { is = c.admit.ensures; laid = c.in_ok-p.was };
      tested = c.is_utf8.ensures;
    };
    valid = ap not c.if-not-is_utf8.false;
    tested = c.is_utf8-2.ensures;
  };
  valid = ap not c.if-not-is_utf8-2.false;
  location = c.find.ensures;
}

pub returns-in_err-p : goal.returns-in_err-p
returns-in_err-p c =
    let a = c.args in
    let e = err_from_is_err_and c.from_residual.result c.from_residual.ensures.1 in
    rw (e.1, e.2) (value_refused _ _ _ c.admit.ensures a.mode a.old.now a.new.now a.out.now _ c.in_err-p.was)

pub returns-then-not-is_utf8 : goal.returns-then-not-is_utf8
returns-then-not-is_utf8 c =
    let a = c.args in
    old_value _ _ _ _ _ a.old.now a.new.now a.out.now _ (old-tested (goal.at.returns-then-not-is_utf8 c).After-is_utf8)
    (ap not c.if-not-is_utf8.true)

pub returns-then-not-is_utf8-2 : goal.returns-then-not-is_utf8-2
returns-then-not-is_utf8-2 c =
    new_value _ _ _ _ _ _ _ _ _ _ (new-tested (goal.at.returns-then-not-is_utf8-2 c).After-is_utf8-2) (ap not c.if-not-is_utf8-2.true)

pub find-requires : goal.find-requires
find-requires c =
    let b : (i : ℕ) → get_or c.args.image.now i 0 < 256 = λ i. (c.type_inv.image i).fits in
    is-laid _ _ _ c.admit.ensures _ c.in_ok-p.was b

pub returns-in_err-found : goal.returns-in_err-found
returns-in_err-found c =
    let e = err_from_is_err_and c.from_residual-in_err-found.result c.from_residual-in_err-found.ensures.1 in
    rw (e.1, e.2) (value-absent _ _ _ _ _ _ _ _ _ _ _ (sought (goal.at.returns-in_err-found c).After-find) _ c.in_err-found.was)

pub patch_one-requires : goal.patch_one-requires
patch_one-requires c =
    let b : (i : ℕ) → get_or c.args.image.now i 0 < 256 = λ i. (c.type_inv.image i).fits in
    let found = located_self _ _ _ _ _ c.find.ensures _ c.in_ok-found.was in (
      is-laid _ _ _ c.admit.ensures _ c.in_ok-p.was b,
      found.0,
      sym c.is_utf8-2.ensures ∙ c.if-not-is_utf8-2.false,
    )

pub returns : goal.returns
returns c =
    let a = c.args in
    value_known _ _ _ _ _ _ _ a.out.now _ _ _ (sought (goal.at.returns c).After-find) _ c.in_ok-found.was _ _
    c.patch_one.ensures
