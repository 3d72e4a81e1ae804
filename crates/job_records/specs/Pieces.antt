-- The job in the pieces in which a program reads it: a head, then what it states, one record after the other, with one image held.
-- docs/FORMAT.md: Job.
use Rattle.std.specs.Prelude.{◌≡◌, ℕ, zero, suc, ◌+◌, ◌%◌, ◌^◌, ◌≤◌, Bool, true, false, List, [], ◌∷◌, length, take, drop}
use Rattle.std.specs.Prelude.{◌==◌, nat_lt, Ok, Err, Result}
use Rattle.refusals.specs.Numbers as refusals
use Rattle.bits.specs.Choice.{pick}
use Rattle.bits.specs.Outcome.{Outcome, refused, made, written}
use Rattle.format.specs.declared.Layout.{Layout}
use Rattle.footer.specs.Finalize.{finalize_of}
use Rattle.image.specs.Admission.{refusal}
use Rattle.input_records.specs.Heads.{image_head_length, image_head, patch_head_length, patch_head}
use Rattle.patches.specs.Patches.{image_after}
use Rattle.job_records.specs.declared.Progress.{Progress}
use Rattle.job_records.specs.declared.Progress.TheVariants.{Under, Refused}
use Rattle.job_records.specs.Job.{stated_of, record_of, content_of, job_room, record_outcome, refused_at_line}

-- how many bytes an image record states behind its head
abbrev pub image_stated : Result (Layout × ℕ) ℕ → ℕ
image_stated (Ok (l, n)) = n
image_stated (Err m) = 0

-- ---- the beginning: the image record is record 0

-- an image of n bytes stands admitted before record 1, or is refused
abbrev pub begun_image : Layout → ℕ → ℕ → Progress
begun_image l n number = pick (number == 0) (Under l n 1) (Refused 0 number)

-- 15 comes before all others for its record
abbrev pub begun_head : Result (Layout × ℕ) ℕ → List ℕ → Progress
begun_head (Ok (l, n)) image = pick (nat_lt (length image) n) (Refused 0 refusals.job)
    (begun_image l (length image) (refusal l image))
begun_head (Err m) image = Refused 0 m

unfoldable pub begun : List ℕ → List ℕ → Progress
begun head image = begun_head (image_head head) image

-- ---- a record: its outcome with the image that the buffer holds; nothing behind a refusal

abbrev pub turn_of : ℕ → Progress → List ℕ → List ℕ → List ℕ → Outcome
turn_of room (Under l n k) buffer head bytes = record_outcome l room (take n buffer) (record_of head bytes)
turn_of room (Refused k m) buffer head bytes = refused m

-- the place behind place k, as 64 bits count it
abbrev pub next_place : ℕ → ℕ
next_place k = (k + 1) % 2 ^ 64

abbrev pub progress_after : Progress → Outcome → Progress
progress_after (Under l n k) (refused m) = Refused k m
progress_after (Under l n k) (made t) = Under l (length t) (next_place k)
progress_after (Refused k m) o = Refused k m

abbrev pub is_refused : Progress → Bool
is_refused (Under l n k) = false
is_refused (Refused k m) = true

-- the new image goes to the buffer that holds the image, through the room for it
abbrev pub Steps : Outcome → Progress → Progress → List ℕ → List ℕ → List ℕ → List ℕ → Type 0
Steps o p r held held' out out' = (r ≡ progress_after p o) × (held' ≡ written o held) × (out' ≡ written o out)

-- ---- the end: what is written

-- "with no patch, the admitted one finalized": no patch was there where record 1 would be next
abbrev pub held_at_end : ℕ → ℕ → List ℕ → List ℕ
held_at_end n k buffer = pick (k == 1) (image_after (finalize_of (take n buffer)) (take n buffer)) (take n buffer)

abbrev pub closing : Progress → List ℕ → List ℕ
closing (Under l n k) buffer = held_at_end n k buffer
closing (Refused k m) buffer = refused_at_line k m

-- the text is in the first bytes of the buffer, and the answer is its length
abbrev pub Closes : List ℕ → ℕ → List ℕ → List ℕ → Type 0
Closes text r old new = (r ≡ length text) × (new ≡ written (made text) old) × (r ≤ length old)

-- ---- the program: while a byte is left, a record is read and taken; then the end is written

unfoldable pub turns : ℕ → Progress → List ℕ → List ℕ → List ℕ
turns zero p buffer rest = closing p buffer
turns (suc n) p buffer [] = closing p buffer
turns (suc n) p buffer (b ∷ bs) =
    let o = turn_of job_room p buffer (take patch_head_length (b ∷ bs)) (content_of (b ∷ bs)) in
    turns n (progress_after p o) (written o buffer)
    (drop (patch_head_length + stated_of (patch_head (take patch_head_length (b ∷ bs)))) (b ∷ bs))

-- the head of the image record, and the image behind it as far as it is there
abbrev pub head_of : List ℕ → List ℕ
head_of input = take image_head_length input

abbrev pub image_of : List ℕ → List ℕ
image_of input = take (image_stated (image_head (head_of input))) (drop image_head_length input)

-- all that is behind the image
abbrev pub behind_image : List ℕ → List ℕ
behind_image input = drop (image_stated (image_head (head_of input))) (drop image_head_length input)
