use mathlib.Core.Path.{refl}
use native.Mathlib.Omega.{arith}
use Rattle.sections.proofs.SectionLaws.{Sectioned, sectioned}
use Rattle.string_packing.proofs.PassLaws.{packed_next}
use Rattle.string_packing.proofs.measure_stretch.Goals as goal

pub next_stretch-s-requires : goal.next_stretch-s-requires
next_stretch-s-requires c =
    let q = c.requires in
    let z : Sectioned c.args.p c.args.image.now = sectioned _ _ q.laid.0.placed in
    record {
      listed = q.laid.1;
      from_lt_strings = (q.laid.2, omega arith);
    }

pub loop-id-init : goal.loop-id-init
loop-id-init c = (refl, λ v value st rc. rc)

pub take_turn-requires : goal.take_turn-requires
take_turn-requires c =
    let st = c.next_stretch-s.ensures.stretch_of in
    record {
      laid = c.requires.laid.0;
      known = omega (arith, c.loop-id.invariant.0, st.most);
      going = (c.loop-id.invariant.1 _ _ st c.requires.reached).going;
      small = st.small;
    }

pub loop-id-preserved : goal.loop-id-preserved
loop-id-preserved c =
    let l = c.loop-id in
    let t = c.take_turn.ensures in (
      omega (arith, t.string, l.invariant.0),
      packed_next _ _ _ _ _ _ _ l.invariant.1 (omega (arith, l.invariant.0)) (omega (arith, l.invariant.0)) t,
    )

pub returns : goal.returns
returns c =
    let st = c.next_stretch-s.ensures.stretch_of in
    let v = c.loop-id.invariant in
    record {
      reached_2 = v.1 _ _ st c.requires.reached;
      id_lt_id = (omega (arith, v.0, st.more), omega (arith, v.0, st.more, st.most));
    }
