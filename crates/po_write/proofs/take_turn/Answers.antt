-- An identifier, a value that no file has, and one that is there before are passed over; any other string is kept.
use mathlib.Core.Path.{◌≡◌, sym, ◌∙◌}
use native.Mathlib.Omega.{arith}
use Rattle.sections.proofs.SectionLaws.{Sectioned, sectioned}
use Rattle.po_write.proofs.FirstLaws.{identifier_not, held_not, first_written}
use Rattle.po_write.proofs.TurnLaws.{Found, found_flag, found_inside, found_units}
use Rattle.po_write.proofs.TurnLaws.{found_small, found_held, found_bucket, bucket_low, turn_off}
use Rattle.po_write.proofs.TurnLaws.{found_valid, turn_on}
use Rattle.po_write.specs.Strings.{is_written}
use Rattle.po_write.proofs.take_turn.Goals as goal
use Rattle.po_write.proofs.take_turn.Goals.{After-is_first, After-text_of-t}

-- the text is that of the string
found : (c : After-text_of-t) → let a = c.args in
    Found a.p a.image.now a.id a.string c.text_of-t.result
found c = let q = c.requires.laid in
    record { laid = q.0; known = q.1; stands = q.2; text = c.text_of-t.ensures }

-- whether it is written is whether it is the first of its value
written : (c : After-is_first) → let a = c.args in
    c.is_first.result ≡ is_written a.p.layout a.image.now a.id
written c = let a = c.args in
    let e = found_flag a.p a.image.now a.id a.string c.requires.laid.2 _ c.is_identifier.ensures in
    let q = c.requires.laid in
    let f : Found a.p a.image.now a.id a.string c.text_of-t.result = record {
      laid = q.0;
      known = q.1;
      stands = q.2;
      text = c.text_of-t.ensures;
    } in
    let h = found_held _ _ _ _ _ f _ c.is_held.ensures in
    c.is_first.ensures ∙ sym (first_written a.p.layout a.image.now a.id (sym e ∙ c.if-is_identifier.false)
    (sym h ∙ c.if-not-is_held.false))

pub returns-then-is_identifier : goal.returns-then-is_identifier
returns-then-is_identifier c =
    let a = c.args in
    let q = c.requires in
    let e = found_flag a.p a.image.now a.id a.string q.laid.2 _ c.is_identifier.ensures in
    turn_off a.p a.image.now a.id _ q.filled q.laid.1
    (identifier_not a.p.layout a.image.now a.id (sym e ∙ c.if-is_identifier.true))

pub is_held-requires : goal.is_held-requires
is_held-requires c = found_inside _ _ _ _ _ (found (goal.at.is_held-requires c).After-text_of-t)

pub returns-then-not-is_held : goal.returns-then-not-is_held
returns-then-not-is_held c =
    let a = c.args in
    let q = c.requires in
    let e = found_flag a.p a.image.now a.id a.string q.laid.2 _ c.is_identifier.ensures in
    let h = found_held _ _ _ _ _ (found (goal.at.returns-then-not-is_held c).After-text_of-t) _ c.is_held.ensures in
    turn_off a.p a.image.now a.id _ q.filled q.laid.1
    (held_not a.p.layout a.image.now a.id (sym e ∙ c.if-is_identifier.false) (sym h ∙ c.if-not-is_held.true))

pub hash_units-requires : goal.hash_units-requires
hash_units-requires c = found_inside _ _ _ _ _ (found (goal.at.hash_units-requires c).After-text_of-t)

pub nonzero_rem-bucket : goal.nonzero_rem-bucket
nonzero_rem-bucket c = omega (arith, c.requires.laid.1)

pub is_first-requires : goal.is_first-requires
is_first-requires c =
    let q = c.requires in
    let f = found (goal.at.is_first-requires c).After-text_of-t in
    record {
      laid = q.laid.0;
      known = q.laid.1;
      filled = q.filled;
      chain = found_bucket _ _ _ _ _ f _ c.hash_units.ensures;
      inside = found_inside _ _ _ _ _ f;
      units = found_units _ _ _ _ _ f;
      held = sym (found_held _ _ _ _ _ f _ c.is_held.ensures) ∙ c.if-not-is_held.false;
    }

pub returns-then-not-is_first : goal.returns-then-not-is_first
returns-then-not-is_first c =
    let a = c.args in
    let q = c.requires in
    turn_off a.p a.image.now a.id _ q.filled q.laid.1
    (sym (written (goal.at.returns-then-not-is_first c).After-is_first) ∙ c.if-not-is_first.true)

pub keep-requires : goal.keep-requires
keep-requires c =
    let q = c.requires in
    let z : Sectioned c.args.p c.args.image.now = sectioned _ _ q.laid.0.placed in
    let f = found (goal.at.keep-requires c).After-text_of-t in
    record {
      work_len = (q.filled.long, omega arith, q.laid.1, bucket_low _ _ _ _ _ f _);
      start_bound = found_small _ _ _ _ _ f;
    }

pub written_length-requires : goal.written_length-requires
written_length-requires c =
    let a = c.args in
    let q = c.requires in
    let f = found (goal.at.written_length-requires c).After-text_of-t in (
      found_inside _ _ _ _ _ f,
      omega (arith, (found_small _ _ _ _ _ f).1),
      found_valid a.p a.image.now a.id _ q.filled q.laid.1 _ _ f
          (sym (written (goal.at.written_length-requires c).After-is_first) ∙ c.if-not-is_first.false),
    )

pub overflow_add-result : goal.overflow_add-result
overflow_add-result c =
    omega (arith, c.written_length.ensures.1, (found_small _ _ _ _ _ (found (goal.at.overflow_add-result c).After-text_of-t)).1)

pub returns : goal.returns
returns c =
    let a = c.args in
    let q = c.requires in
    turn_on a.p a.image.now a.id _ q.filled q.laid.1 _ _ (found (goal.at.returns c).After-text_of-t)
    (sym (written (goal.at.returns c).After-is_first) ∙ c.if-not-is_first.false)
    c.hash_units.result c.written_length.result _ c.hash_units.ensures c.keep.ensures
    c.written_length.ensures
