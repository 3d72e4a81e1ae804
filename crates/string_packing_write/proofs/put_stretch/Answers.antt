use mathlib.Core.Path.{refl, ◌∙◌, subst⁻¹}
use mathlib.Core.List.{List}
use Prim.Native.Nat.{ℕ, ◌≤◌, ◌<◌}
use native.Mathlib.Omega.{arith}
use lib.ListN.{length}
use Rattle.sections.proofs.SectionLaws.{Sectioned, sectioned}
use Rattle.string_edits.specs.Told.{told, values_in}
use Rattle.string_packing.specs.Pass.{StretchOf}
use Rattle.string_packing_write.proofs.StretchLaws.{Writing, held_fits, held_reached, held_laid}
use Rattle.string_packing_write.proofs.put_stretch.Goals as goal
use Rattle.string_packing_write.proofs.put_stretch.Goals.{After-value_of-value}

-- what is known of the strings at the start
writing : (c : After-value_of-value) → let a = c.args in
    Writing a.mode a.p a.image.now (values_in (told a.form a.words.now) a.text.now a.ends.now)
    c.value_of-value.result.now c.next_stretch-s.result a.from a.to (length a.out.now)
writing c = let a = c.args in
    let q = c.requires in
    record {
      placed = q.writable.0.laid.placed;
      stretch = subst⁻¹ (λ (x : List ℕ). StretchOf (values_in (told a.form a.words.now) a.text.now a.ends.now) x
          a.from.old.id a.p.strings c.next_stretch-s.result)
          c.value_of-value.ensures.0 c.next_stretch-s.ensures.stretch_of;
      reached = q.reached;
      roomy = q.writable.0.roomy;
    }

pub next_stretch-s-requires : goal.next_stretch-s-requires
next_stretch-s-requires c =
    let q = c.requires in
    let z : Sectioned c.args.p c.args.image.now = sectioned _ _ q.writable.0.laid.placed in
    record {
      listed = q.writable.0.listed;
      from_lt_strings = (q.writable.1, omega arith);
    }

pub value_of-value-requires : goal.value_of-value-requires
value_of-value-requires c = c.next_stretch-s.ensures.within

pub loop-id-init : goal.loop-id-init
loop-id-init c = (refl, refl, λ v w. (w.reached, λ out h. h))

pub put_string-c-requires : goal.put_string-c-requires
put_string-c-requires c =
    let l = c.loop-id in
    let w = writing (goal.at.put_string-c-requires c).After-value_of-value in
    let r = (l.invariant.2 _ w).0 in
    record {
      in_turn = (
        record {
          laid = c.requires.writable.0.laid;
          known = omega (arith, l.invariant.0, w.stretch.most);
          going = r.going;
          small = w.stretch.small;
        },
        w.stretch.shaped,
      );
      string_fits = rw l.invariant.1 (held_fits _ _ _ _ _ _ _ _ _ w l.c (omega (arith, l.invariant.0)) (omega (arith, l.invariant.0)) r);
    }

pub loop-id-preserved : goal.loop-id-preserved
loop-id-preserved c =
    let l = c.loop-id in
    let e = c.put_string-c.ensures in (
      omega (arith, e.behind.string, l.invariant.0),
      c.put_string-c.auto.out ∙ l.invariant.1,
      λ v w.
          let (r, on) = l.invariant.2 v w in
          let low : c.args.from.old.id ≤ l.c.old.id = omega (arith, l.invariant.0) in
          let high : l.c.old.id < c.next_stretch-s.result.end = omega (arith, l.invariant.0) in (
            held_reached _ _ _ v _ _ _ _ _ w l.c low high r _ e.behind,
            held_laid _ _ _ v _ _ _ _ _ w l.c low high r _ e.behind _ _ _ on e.out_after,
          ),
    )

pub shape_of-out : goal.shape_of-out
shape_of-out c = c.loop-id.invariant.1

pub returns : goal.returns
returns c =
    let w = writing (goal.at.returns c).After-value_of-value in
    let v = c.loop-id.invariant in
    let (r, on) = v.2 _ w in
    record {
      reached_2 = r;
      id_lt_id = (omega (arith, v.0, w.stretch.more), omega (arith, v.0, w.stretch.more, w.stretch.most));
      laid_on = on;
    }
