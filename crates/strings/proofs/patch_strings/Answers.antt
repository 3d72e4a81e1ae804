-- 15, then refusals in the order of 02, No. 4, each by its law; what passes them all is patched.
use Rattle.std.proofs.lemmas.Result.{err_from_is_err_and}
use mathlib.Core.Path.{ap}
use mathlib.Core.Bool.{not}
use mathlib.Core.Path.{refl, sym, ◌∙◌}
use Prim.Native.Nat.{ℕ, ◌<◌}
use lib.ListN.{get_or}
use Rattle.sections.specs.Places.{Laid}
use Rattle.admission.proofs.AnswerLaws.{is-laid}
use Rattle.string_edits.proofs.ListLaws.{split-within}
use Rattle.string_edits.proofs.ToldLaws.{listed}
use Rattle.strings.proofs.PassLaws.{no_list, list_one, list_refused, Judging, ids_known}
use Rattle.strings.proofs.PassLaws.{not_known, given-twice, not_valid, list_known}
use Rattle.strings.proofs.patch_strings.Goals as goal
use Rattle.strings.proofs.patch_strings.Goals.{In_ok-p}

-- the three are a list, and the image is admitted
judging : (c : In_ok-p) → let a = c.args in
    Judging a.layout a.image.now a.ids.now a.text.now a.ends.now c.admit.result c.in_ok-p.p
    c.is_list.result
judging c = record {
  list = c.is_list.ensures;
  one = (ap not c.if-not-is_list.false);
  admits = record { is = c.admit.ensures; laid = c.in_ok-p.was };
}

laid : (c : In_ok-p) → Laid c.in_ok-p.p c.args.image.now
laid c = let b : (i : ℕ) → get_or c.args.image.now i 0 < 256 = λ i. (c.type_inv.image i).fits in
    is-laid _ _ _ c.admit.ensures _ c.in_ok-p.was b

pub returns-then-not-is_list : goal.returns-then-not-is_list
returns-then-not-is_list c =
    let a = c.args in
    no_list a.mode a.layout a.image.now a.ids.now a.text.now a.ends.now a.out.now _ c.is_list.ensures
    (ap not c.if-not-is_list.true)

pub returns-in_err-p : goal.returns-in_err-p
returns-in_err-p c =
    let a = c.args in
    let e = err_from_is_err_and c.from_residual.result c.from_residual.ensures.1 in
    rw (e.1, e.2)
    (list_refused a.mode a.layout a.image.now a.ids.now a.text.now a.ends.now a.out.now _
    c.is_list.ensures (ap not c.if-not-is_list.false) _ c.admit.ensures _ c.in_err-p.was)

pub returns-then-not-are_known : goal.returns-then-not-are_known
returns-then-not-are_known c =
    let a = c.args in
    not_known a.mode _ _ _ _ _ a.out.now _ _ _ (judging (goal.at.returns-then-not-are_known c).In_ok-p) _ _ _
    (record { there = c.are_known.ensures; twice = refl; values = refl }) (ap not c.if-not-are_known.true)

pub returns-then-not-are_different : goal.returns-then-not-are_different
returns-then-not-are_different c =
    let a = c.args in
    given-twice a.mode _ _ _ _ _ a.out.now _ _ _ (judging (goal.at.returns-then-not-are_different c).In_ok-p) _ _ _
    (record { there = c.are_known.ensures; twice = c.are_different.ensures; values = refl })
    (ap not c.if-not-are_known.false)
    (ap not c.if-not-are_different.true)

pub are_utf8-requires : goal.are_utf8-requires
are_utf8-requires c =
    let a = c.args in
    let o = list_one a.mode a.layout a.image.now a.ids.now a.text.now a.ends.now
    a.out.now _ (judging (goal.at.are_utf8-requires c).In_ok-p).list
    (judging (goal.at.are_utf8-requires c).In_ok-p).one in
    split-within a.text.now a.ends.now o.split

pub returns-then-not-are_utf8 : goal.returns-then-not-are_utf8
returns-then-not-are_utf8 c =
    let a = c.args in
    not_valid a.mode _ _ _ _ _ a.out.now _ _ _ (judging (goal.at.returns-then-not-are_utf8 c).In_ok-p) _ _ _
    (record { there = c.are_known.ensures; twice = c.are_different.ensures; values = c.are_utf8.ensures })
    (ap not c.if-not-are_known.false) (ap not c.if-not-are_different.false) (ap not c.if-not-are_utf8.true)

pub patch_known-requires : goal.patch_known-requires
patch_known-requires c =
    let a = c.args in
    let j = judging (goal.at.patch_known-requires c).In_ok-p in
    let o = list_one a.mode a.layout a.image.now a.ids.now a.text.now a.ends.now a.out.now _ j.list
    j.one in
    record {
      laid = (
        laid (goal.at.patch_known-requires c).In_ok-p,
        listed a.ids.now a.text.now a.ends.now o
            (sym c.are_different.ensures ∙ c.if-not-are_different.false),
      );
      by_index = ids_known a.ids.now _ _ c.are_known.ensures (ap not c.if-not-are_known.false);
    }

pub returns : goal.returns
returns c =
    let a = c.args in
    list_known a.mode _ _ _ _ _ a.out.now _ _ _ (judging (goal.at.returns c).In_ok-p) _ _ _
    (record {
      there = c.are_known.ensures;
      twice = c.are_different.ensures;
      values = c.are_utf8.ensures;
    })
    (ap not c.if-not-are_known.false) (ap not c.if-not-are_different.false) (ap not c.if-not-are_utf8.false) _ _ c.patch_known.ensures
