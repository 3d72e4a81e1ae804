use mathlib.Core.Path.{ap}
use mathlib.Core.Bool.{not}
use native.Mathlib.Omega.{arith}
use Rattle.bits.proofs.PassLaws.{pass_none}
use Rattle.sections.proofs.SectionLaws.{sectioned}
use Rattle.string_tables.proofs.StringLaws.{count_none, EntryRead, count_next, entries_next, entry_fails, entries_end}
use Rattle.string_tables.proofs.are_strings_good.Goals as goal

pub loop-i-init : goal.loop-i-init
loop-i-init c = (omega arith, record { placed = c.requires; count = count_none _; good = pass_none _ })

pub entry_at-requires : goal.entry_at-requires
entry_at-requires c =
    let h = sectioned c.args.p c.args.image.now c.requires in
    record {
      at_bound = (omega arith, omega arith);
      k_lt_row_count = (omega arith, omega arith);
    }

pub word-entry-requires : goal.word-entry-requires
word-entry-requires c =
    let h = sectioned c.args.p c.args.image.now c.requires in
    omega arith

pub is_entry_good-requires : goal.is_entry_good-requires
is_entry_good-requires c =
    let h = sectioned c.args.p c.args.image.now c.requires in
    record {
      placed = c.requires;
      k_bound = omega arith;
    }

pub returns-then-not-is_entry_good : goal.returns-then-not-is_entry_good
returns-then-not-is_entry_good c =
    entry_fails _ _ _ _ _ _
    (record {
      walked = c.loop-i.invariant.1;
      known = c.loop-i-test.true;
      word = c.word-entry.ensures.0;
      place = c.entry_at.ensures;
    }) _ c.is_entry_good.ensures (ap not c.if-not-is_entry_good.true)

pub loop-i-preserved : goal.loop-i-preserved
loop-i-preserved c =
    let l = c.loop-i in
    let e : EntryRead c.args.p c.args.image.now l.i l.k c.word-entry.result c.entry_at.result
    =
    record {
      walked = l.invariant.1;
      known = c.loop-i-test.true;
      word = c.word-entry.ensures.0;
      place = c.entry_at.ensures;
    } in (
      omega arith,
      record {
        placed = l.invariant.1.placed;
        count = count_next _ _ _ _ _ _ e _ _ c.is_full.ensures c.if_set-k.ensures.0;
        good = entries_next _ _ _ _ _ _ e _ c.is_entry_good.ensures (ap not c.if-not-is_entry_good.false);
      },
    )

pub returns : goal.returns
returns c =
    let l = c.loop-i in
    entries_end _ _ l.i l.k l.invariant.1 (omega arith)
