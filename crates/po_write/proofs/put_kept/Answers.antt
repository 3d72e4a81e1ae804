-- The shape word tells whether the string is written; then its text is kept.
use mathlib.Core.Path.{refl, sym, ◌∙◌}
use Prim.Native.Nat.{◌<◌}
use native.Mathlib.Nat.{add-zero}
use native.Mathlib.Omega.{arith}
use Rattle.sections.proofs.SectionLaws.{Sectioned, sectioned}
use Rattle.po_write.proofs.FileLaws.{pair_none}
use Rattle.po_write.proofs.WorkLaws.{told_off}
use Rattle.po_write.proofs.TextLaws.{text_kept, kept_pair}
use Rattle.po_write.proofs.put_kept.Goals as goal
use Rattle.po_write.proofs.put_kept.Goals.{After-shared_slice_known-2-1}

-- the image's strings are few
few : (c : After-shared_slice_known-2-1) → c.args.p.strings < 4294967296
few c = let z : Sectioned c.args.p c.args.image.now = sectioned _ _ c.requires.laid.0.placed in
    omega arith

pub overflow_add-n : goal.overflow_add-n
overflow_add-n c = omega (arith, few (goal.at.overflow_add-n c).After-shared_slice_known-2-1)

pub overflow_add-n-2 : goal.overflow_add-n-2
overflow_add-n-2 c = omega (arith, few (goal.at.overflow_add-n-2 c).After-shared_slice_known-2-1)

pub overflow_add-n-3 : goal.overflow_add-n-3
overflow_add-n-3 c = omega (arith, few (goal.at.overflow_add-n-3 c).After-shared_slice_known-2-1, c.requires.laid.2)

pub word_at-requires : goal.word_at-requires
word_at-requires c = omega (arith, c.requires.laid.1.long, c.requires.laid.2)

pub returns-then-word_at-eq0 : goal.returns-then-word_at-eq0
returns-then-word_at-eq0 c =
    let a = c.args in
    let q = c.requires.laid in
    rw (pair_none a.p.layout a.image.now a.j (told_off _ _ _ _ q.1 _ q.2
    (sym c.word_at.ensures.0 ∙ c.if-word_at-eq0.true)))
    (sym (add-zero a.at), refl)

pub text_at-requires : goal.text_at-requires
text_at-requires c =
    let q = c.requires.laid in
    (q.1.long, few (goal.at.text_at-requires c).After-shared_slice_known-2-1, q.2)

pub put_entry-requires : goal.put_entry-requires
put_entry-requires c =
    let a = c.args in
    let q = c.requires.laid in
    let k = text_kept a.p a.image.now a.work.now q.1 a.j q.2
    (λ e. c.if-word_at-eq0.false (c.word_at.ensures.0 ∙ e)) _ c.text_at.ensures a.at _ c.requires.j_in_bounds in
    record { inside = k.0; t_in_bounds = k.1 }

pub returns : goal.returns
returns c =
    let a = c.args in
    let q = c.requires.laid in
    rw (kept_pair a.p a.image.now a.work.now q.1 a.j q.2
    (λ e. c.if-word_at-eq0.false (c.word_at.ensures.0 ∙ e)) _ c.text_at.ensures)
    c.put_entry.ensures
