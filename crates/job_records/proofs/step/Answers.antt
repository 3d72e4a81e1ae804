-- A refusal leaves both buffers; an accepted patch is made in one and copied to the other.
use Rattle.std.specs.Prelude.{Err}
use Rattle.std.proofs.Common.{arith, ap, sym, ◌∙◌}
use Rattle.job_records.proofs.RecordLaws.{stepped_refused, stepped_made, new_fits, part_fits}
use Rattle.job_records.proofs.step.Goals as goal

pub slice_bounds-put_bytes-end : goal.slice_bounds-put_bytes-end
slice_bounds-put_bytes-end c =
    let a = c.args in
    omega (
      arith,
      new_fits a.progress _ _ _ _ a.image.now a.head.now a.bytes.now a.out.now _ _ _
          (record {
            turn = record {
              under = c.in-Under.is;
              part = c.least-held.ensures.0;
              answers = c.apply-answer.ensures;
            };
            long = c.in-Ok.is;
            room = c.requires;
          }),
      c.apply-answer.auto,
    )

pub put_bytes-requires : goal.put_bytes-requires
put_bytes-requires c =
    let a = c.args in
    part_fits a.progress _ _ _ _ a.image.now a.head.now a.bytes.now a.out.now _ _ _
    (record {
      turn = record { under = c.in-Under.is; part = c.least-held.ensures.0; answers = c.apply-answer.ensures };
      long = c.in-Ok.is;
      room = c.requires;
    }) (omega (arith, c.apply-answer.auto))

pub returns-in-Err : goal.returns-in-Err
returns-in-Err c =
    let a = c.args in
    stepped_refused a.progress _ _ _ _ a.image.now a.head.now a.bytes.now a.out.now _ _
    (record { under = c.in-Under.is; part = c.least-held.ensures.0; answers = c.apply-answer.ensures }) _
    (c.in-Err.is ∙ ap Err (sym c.number.ensures))

pub returns-in-Ok : goal.returns-in-Ok
returns-in-Ok c =
    let a = c.args in
    stepped_made a.progress _ _ _ _ a.image.now a.head.now a.bytes.now a.out.now _ _ _
    (record {
      turn = record { under = c.in-Under.is; part = c.least-held.ensures.0; answers = c.apply-answer.ensures };
      long = c.in-Ok.is;
      room = c.requires;
    }) _ _ c.wrapping_add_u64.ensures.value c.put_bytes.ensures
