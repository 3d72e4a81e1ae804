-- A length of 16 bits where the head is one, and none else.
use Rattle.std.proofs.Common.{ap, ◌∙◌}
use Rattle.std.specs.Prelude.{Ok}
use Rattle.job_records.proofs.RecordLaws.{stated_patch_is}
use Rattle.job_records.proofs.stated_patch.Goals as goal

pub returns-in-Ok-String : goal.returns-in-Ok-String
returns-in-Ok-String c =
    stated_patch_is _ _ _ c.patch_head.ensures (c.in-Ok-String.is ∙ ap Ok c.in-Ok-String.field-0-is)
    (λ i. (c.type_inv.head i).fits)

pub returns-in-Ok-Body : goal.returns-in-Ok-Body
returns-in-Ok-Body c =
    stated_patch_is _ _ _ c.patch_head.ensures (c.in-Ok-Body.is ∙ ap Ok c.in-Ok-Body.field-0-is)
    (λ i. (c.type_inv.head i).fits)

pub returns-in-Err : goal.returns-in-Err
returns-in-Err c =
    stated_patch_is _ _ _ c.patch_head.ensures c.in-Err.is
    (λ i. (c.type_inv.head i).fits)
