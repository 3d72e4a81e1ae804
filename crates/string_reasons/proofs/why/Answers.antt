-- Refusals in 02's order, each by its law; then the path, which the index tells.
use mathlib.Core.Path.{◌≡◌, refl, ap}
use mathlib.Core.Bool.{not}
use mathlib.Core.List.{List}
use Prim.Native.Nat.{ℕ, ◌<◌}
use native.Mathlib.Omega.{arith}
use lib.ListN.{get_or}
use Rattle.sections.specs.Places.{Laid}
use Rattle.sections.proofs.SectionLaws.{Sectioned, sectioned}
use Rattle.string_index.specs.Index.{index_after}
use Rattle.string_index.specs.Filling.{Indexed}
use Rattle.string_index.proofs.IndexLaws.{laid_there, index_there}
use Rattle.string_reasons.proofs.AnswerLaws.{why_refused, why_absent, why_value, why_long, why_judged}
use Rattle.string_reasons.proofs.why.Goals as goal
use Rattle.string_reasons.proofs.why.Goals.{In-Ok}

-- the image is admitted, and the index is filled from it
laid : (c : In-Ok) → Laid c.in-Ok.p
    c.args.image.now
laid c = let b : (i : ℕ) → get_or c.args.image.now i 0 < 256
    = λ i. (c.type_inv.image i).fits in
    laid_there _ _ c.args.index.now _ c.in-Ok.ensures.0 _ refl b

held : (c : In-Ok) → let a = c.args in
    (y : List ℕ) → y ≡ index_after a.layout a.image.now a.index.now → Indexed c.in-Ok.p a.image.now y
held c y g = let b : (i : ℕ) → get_or c.args.image.now i 0 < 256
    = λ i. (c.type_inv.image i).fits in
    index_there _ _ c.args.index.now _ c.in-Ok.ensures.0 _ refl b y g

pub returns-in-Err : goal.returns-in-Err
returns-in-Err c =
    let a = c.args in
    let e = c.in-Err.ensures in
    (rw c.number.ensures (why_refused a.mode a.layout a.image.now a.id a.value.now a.index.now _ e.0 _ refl), e.1)

pub returns-then-p-id : goal.returns-then-p-id
returns-then-p-id c =
    let a = c.args in
    let e = c.in-Ok.ensures in (
      rw c.number-then-p-id.ensures
          (why_absent a.mode a.layout a.image.now a.id a.value.now a.index.now _ e.0 _ refl c.if-p-id.true),
      e.1,
    )

pub returns-then-not-is_utf8 : goal.returns-then-not-is_utf8
returns-then-not-is_utf8 c =
    let a = c.args in
    let e = c.in-Ok.ensures in (
      rw c.number-then-not-is_utf8.ensures
          (why_value a.mode a.layout a.image.now a.id a.value.now a.index.now _ e.0 _ refl
          c.if-p-id.false _ c.is_utf8.ensures (ap not c.if-not-is_utf8.true)),
      e.1,
    )

pub returns-then-value-gt-LONGEST : goal.returns-then-value-gt-LONGEST
returns-then-value-gt-LONGEST c =
    let a = c.args in
    let e = c.in-Ok.ensures in (
      rw c.number-then-value-gt-LONGEST.ensures
          (why_long a.mode a.layout a.image.now a.id a.value.now a.index.now _ e.0 _ refl
          c.if-p-id.false _ c.is_utf8.ensures (ap not c.if-not-is_utf8.false) (laid (goal.at.returns-then-value-gt-LONGEST c).In-Ok)
          c.if-value-gt-LONGEST.true),
      e.1,
    )

pub path_of-requires : goal.path_of-requires
path_of-requires c =
    let z : Sectioned c.in-Ok.p _ = sectioned _ _ (laid (goal.at.path_of-requires c).In-Ok).placed in
    record {
      strings_in_bounds = (
        (held (goal.at.path_of-requires c).In-Ok _ c.in-Ok.ensures.1).long,
        c.if-p-id.false,
        omega (arith, z),
      );
      value_len_bound = c.if-value-gt-LONGEST.false;
    }

pub judged-requires : goal.judged-requires
judged-requires c =
    let index = held (goal.at.judged-requires c).In-Ok _ c.in-Ok.ensures.1 in
    record {
      laid = (laid (goal.at.judged-requires c).In-Ok, c.if-p-id.false, c.if-value-gt-LONGEST.false);
      path_value = c.path_of.ensures _ (laid (goal.at.judged-requires c).In-Ok) index;
    }

pub returns : goal.returns
returns c =
    let a = c.args in
    let e = c.in-Ok.ensures in (
      why_judged a.mode a.layout a.image.now a.id a.value.now a.index.now _ e.0 _ refl
          c.if-p-id.false _ c.is_utf8.ensures (ap not c.if-not-is_utf8.false) _ c.judged.ensures,
      e.1,
    )
