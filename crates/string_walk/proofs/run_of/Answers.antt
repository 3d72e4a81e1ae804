use native.Mathlib.Omega.{arith}
use Rattle.string_walk.proofs.RunLaws.{RunIn, more_runs, next_run_of, next_reaches}
use Rattle.string_walk.proofs.run_of.Goals as goal

pub loop-run-init : goal.loop-run-init
loop-run-init c = let h = c.requires in (h.run, h.reached)

pub next_run-run-requires : goal.next_run-run-requires
next_run-run-requires c =
    let h = c.requires in
    let l = c.loop-run in
    record {
      laid = h.laid;
      run_of = (l.invariant.0, more_runs _ _ _ (record { laid = h.laid; run = l.invariant.0 }) _ h.known c.loop-run-test.true);
    }

pub loop-run-smaller : goal.loop-run-smaller
loop-run-smaller c =
    let h = c.requires in
    let l = c.loop-run in
    let m = more_runs _ _ _ (record { laid = h.laid; run = l.invariant.0 }) _ h.known c.loop-run-test.true in
    omega arith

pub loop-run-preserved : goal.loop-run-preserved
loop-run-preserved c =
    let h = c.requires in
    let l = c.loop-run in
    let r : RunIn _ _ _ = record { laid = h.laid; run = l.invariant.0 } in
    let m = more_runs _ _ _ r _ h.known c.loop-run-test.true in
    let e = c.next_run-run.ensures in
    let next = c.next_run-run.result in
    (next_run_of _ _ _ r m next e.0, next_reaches _ _ _ r m next e.1 _ c.loop-run-test.true)

pub returns : goal.returns
returns c = let l = c.loop-run in (l.invariant.0, l.invariant.1, c.loop-run-test.false)
