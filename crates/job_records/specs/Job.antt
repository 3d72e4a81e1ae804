-- What the job program writes, for all that it reads. 01, Programs.
-- docs/FORMAT.md: Job.
use Rattle.std.specs.Prelude.{◌≡◌, ℕ, zero, suc, ◌+◌, List, [], ◌∷◌, ◌++◌, length, take, drop, ◌==◌, nat_lt, Ok, Err, Result}
use Rattle.refusals.specs.Numbers as refusals
use Rattle.bits.specs.Choice.{pick}
use Rattle.bits.specs.Outcome.{Outcome, refused, made}
use Rattle.format.specs.declared.Layout.{Layout}
use Rattle.format.specs.declared.Mode.TheVariants.{Plain}
use Rattle.footer.specs.Finalize.{lengthed, sealed}
use Rattle.image.specs.Admission.{refusal}
use Rattle.text.specs.Text.{decimal, line}
use Rattle.input_records.specs.declared.PatchHead.{PatchHead}
use Rattle.input_records.specs.declared.PatchHead.TheVariants as patch-is
use Rattle.input_records.specs.Heads.{image_head_length, image_head, patch_head_length, patch_head}
use Rattle.patches.specs.Patches.{Patch, by_id, to_body, Step, step_of, run}
use Rattle.patches.specs.Lists.{AllAccepted}

-- ---- records

-- a patch record: a patch, or not well formed
pub data Record : Type 0 where
  asks : Patch → Record
  wrong : Record

-- how many bytes a record states behind its head
abbrev pub stated_of : Result PatchHead ℕ → ℕ
stated_of (Ok (patch-is.String id n)) = n
stated_of (Ok (patch-is.Body id n)) = n
stated_of (Err m) = 0

-- the record of a head and of the bytes that it states; `asked` where the head is well formed. A job rebuilds in plain mode
abbrev pub asked : Result PatchHead ℕ → List ℕ → Record
asked (Ok (patch-is.String id n)) bytes = asks (by_id Plain id bytes)
asked (Ok (patch-is.Body id n)) bytes = asks (to_body id bytes)
asked (Err m) bytes = wrong

-- a record that is cut short is not well formed
unfoldable pub record_of : List ℕ → List ℕ → Record
record_of head bytes = pick (nat_lt (length bytes) (stated_of (patch_head head))) wrong (asked (patch_head head) bytes)

-- the bytes behind a head that its record states, or what is left of them
abbrev pub content_of : List ℕ → List ℕ
content_of rest = take (stated_of (patch_head (take patch_head_length rest))) (drop patch_head_length rest)

-- the records of some bytes: nothing is read behind one that is not well formed; n is at least their number
unfoldable pub records_of : ℕ → List ℕ → List Record
records_of zero rest = []
records_of (suc n) [] = []
records_of (suc n) (b ∷ bs) =
    record_of (take patch_head_length (b ∷ bs)) (content_of (b ∷ bs))
    ∷ records_of n (drop (patch_head_length + stated_of (patch_head (take patch_head_length (b ∷ bs)))) (b ∷ bs))

-- ---- the job

-- how a job ends: with an image, or refused: "its place, `IM` being 0, and the number"
pub data Ended : Type 0 where
  image : List ℕ → Ended
  refused_at : ℕ → ℕ → Ended

-- "the job's output room is 65,536 bytes"
abbrev pub job_room : ℕ
job_room = 65_536

-- what a record makes of an image, in some room
unfoldable pub record_outcome : Layout → ℕ → List ℕ → Record → Outcome
record_outcome l room s (asks p) = step_of l s (record { patch = p; room = room })
record_outcome l room s wrong = refused refusals.job

-- behind record k: the job stops at a refusal, else it goes on with the new image
abbrev pub onward : ℕ → (List ℕ → Ended) → Outcome → Ended
onward k next (refused n) = refused_at k n
onward k next (made t) = next t

-- record k and those behind it, on image s
unfoldable pub job_from : Layout → ℕ → List ℕ → List Record → Ended
job_from l k s [] = image s
job_from l k s (r ∷ rs) = onward k (λ t. job_from l (suc k) t rs) (record_outcome l job_room s r)

-- "with no patch, the admitted one finalized"
abbrev pub end_of : Layout → List ℕ → List Record → Ended
end_of l s [] = image (sealed (lengthed s))
end_of l s (r ∷ rs) = job_from l 1 s (r ∷ rs)

-- an admitted image and the records behind it
unfoldable pub image_job : Layout → List ℕ → List Record → Ended
image_job l s rs = pick (refusal l s == 0) (end_of l s rs) (refused_at 0 (refusal l s))

-- 15 comes before all others for its record
abbrev pub head_job : Result (Layout × ℕ) ℕ → List ℕ → Ended
head_job (Ok (l, n)) rest =
    pick (nat_lt (length rest) n) (refused_at 0 refusals.job) (image_job l (take n rest) (records_of (length rest) (drop n rest)))
head_job (Err n) rest = refused_at 0 n

unfoldable pub job : List ℕ → Ended
job input = head_job (image_head (take image_head_length input)) (drop image_head_length input)

-- ---- the job as a list of patches

-- patches as records, and as steps in the job's room
abbrev pub as_records : List Patch → List Record
as_records [] = []
as_records (p ∷ ps) = asks p ∷ as_records ps

abbrev pub as_steps : List Patch → List Step
as_steps [] = []
as_steps (p ∷ ps) = record { patch = p; room = job_room } ∷ as_steps ps

-- how the records rs end on image s, the first of them being record k
pub data EndsAs (l : Layout) (k : ℕ) (s : List ℕ) (rs : List Record) : Ended → Type 0 where
  -- all are patches that are accepted: the job ends with the image that the list of them ends with
  whole : (ps : List Patch) → rs ≡ as_records ps → AllAccepted l (as_steps ps) s → EndsAs l k s rs (image (run l (as_steps ps) s))
  -- the first of them are, and the next record r is refused on the image that the list of those ends with: by its place and its number
  stopped : (ps : List Patch) (r : Record) (later : List Record) (n : ℕ) → rs ≡ as_records ps ++ (r ∷ later)
      → AllAccepted l (as_steps ps) s
      → record_outcome l job_room (run l (as_steps ps) s) r ≡ refused n → EndsAs l k s rs (refused_at (k + length ps) n)

-- ---- what is written: "the last image .., or only `refused K N`"

unfoldable pub refused_at_line : ℕ → ℕ → List ℕ
refused_at_line k n = line ((0x72 ∷ 0x65 ∷ 0x66 ∷ 0x75 ∷ 0x73 ∷ 0x65 ∷ 0x64 ∷ []) ∷ decimal k ∷ []) (decimal n)

abbrev pub written_by : Ended → List ℕ
written_by (image s) = s
written_by (refused_at k n) = refused_at_line k n
