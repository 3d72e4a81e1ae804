-- What the kinds up to the run cover, and the next one, make what the kinds up to that one cover.
use mathlib.Core.Path.{refl}
use native.Mathlib.Omega.{arith}
use Rattle.sections.proofs.SectionLaws.{sectioned}
use Rattle.string_walk.proofs.RunLaws.{RunIn, KindRead, next_ends, next_more, next_is}
use Rattle.string_walk.proofs.next_run.Goals as goal
use Rattle.string_walk.proofs.next_run.Goals.{After-is_identifier_run-identifier}

-- the kind behind the run was read
read : (c : After-is_identifier_run-identifier) → let a = c.args in
    KindRead a.p a.image.now a.run.count c.kind_word-word.result c.value-size.result
    c.is_identifier_run-identifier.result
read c = record {
  word = c.kind_word-word.ensures;
  covers = c.value-size.ensures.0;
  flag = c.is_identifier_run-identifier.ensures;
}

pub overflow_add-result-2 : goal.overflow_add-result-2
overflow_add-result-2 c =
    let h = c.requires in
    let z = sectioned _ _ h.laid.placed in
    let x = rw c.kind_word-word.ensures at c.value-size.ensures.0 in
    record { fits = omega (arith, next_ends _ _ _ (record { laid = h.laid; run = h.run_of.0 }) h.run_of.1) }

pub overflow_add-result-3 : goal.overflow_add-result-3
overflow_add-result-3 c =
    let h = c.requires in
    let z = sectioned _ _ h.laid.placed in
    let r : RunIn _ _ _ = record { laid = h.laid; run = h.run_of.0 } in
    let m = next_more _ _ _ r _ _ _ _ (read (goal.at.overflow_add-result-3 c).After-is_identifier_run-identifier) c.if_set.ensures.0 in
    record { fits = omega (arith, m, next_ends _ _ _ r h.run_of.1) }

pub returns : goal.returns
returns c =
    let h = c.requires in (
      next_is _ _ _ (record { laid = h.laid; run = h.run_of.0 }) _ _ _ _ (read (goal.at.returns c).After-is_identifier_run-identifier)
          c.if_set.ensures.0,
      refl,
    )
