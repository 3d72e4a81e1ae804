-- One way out for each reason, in the order of 02.
use mathlib.Core.Path.{ap}
use mathlib.Core.Bool.{not}
use Rattle.string_reasons.proofs.PathLaws.{finds_wide, finds_other, finds_lengths, finds_overlap, finds_none}
use Rattle.string_reasons.proofs.path_of.Goals as goal

pub returns-then-own : goal.returns-then-own
returns-then-own c =
    λ s laid ix.
    let a = c.args in
    finds_wide a.p s laid a.id a.value.now _ (c.string_in-own.ensures.by_index s laid ix).place c.if-own.true

pub returns-then-not-ascii : goal.returns-then-not-ascii
returns-then-not-ascii c =
    λ s laid ix.
    let a = c.args in
    finds_other a.p s laid a.id a.value.now _ (c.string_in-own.ensures.by_index s laid ix).place c.if-own.false _
    c.ascii.ensures (ap not c.if-not-ascii.true)

pub returns-then-value-own : goal.returns-then-value-own
returns-then-value-own c =
    λ s laid ix.
    let a = c.args in
    finds_lengths a.p s laid a.id a.value.now _ (c.string_in-own.ensures.by_index s laid ix).place c.if-own.false _
    c.ascii.ensures (ap not c.if-not-ascii.false) c.if-value-own.true

pub returns-then-other-p : goal.returns-then-other-p
returns-then-other-p c =
    λ s laid ix.
    let a = c.args in
    finds_overlap a.p s laid a.id a.value.now _ (c.string_in-own.ensures.by_index s laid ix).place c.if-own.false _
    c.ascii.ensures (ap not c.if-not-ascii.false) c.if-value-own.false _ (c.lowest_overlap-other.ensures s laid ix)
    c.if-other-p.true

pub returns : goal.returns
returns c =
    λ s laid ix.
    let a = c.args in
    finds_none a.p s laid a.id a.value.now _ (c.string_in-own.ensures.by_index s laid ix).place c.if-own.false _
    c.ascii.ensures (ap not c.if-not-ascii.false) c.if-value-own.false _ (c.lowest_overlap-other.ensures s laid ix)
    c.if-other-p.false
