-- When a translators' file is refused and with which number, and when it is accepted, in propositions. 02, No. 1: "Refusals, in order: 1 to
-- 6; 16 ..; 14 ..; 11 to 13 as the first single patch that meets one, with none 13 for the finalized image". The laws `refused_exactly`
-- and `accepted_exactly` (proofs/FaultLaws.antt) say that `translated` is just so.
-- docs/FORMAT.md: Translators' files.
use Rattle.std.specs.Prelude.{◌≡◌, false, ◌≢◌, List, [], ℕ, ◌≤◌, ◌<◌, length}
use Rattle.refusals.specs.Numbers as refusals
use Rattle.format.specs.declared.Layout.{Layout}
use Rattle.format.specs.declared.Mode.{Mode}
use Rattle.footer.specs.Finalize.{lengthed, sealed}
use Rattle.image.specs.Sections.{strings_in}
use Rattle.image.specs.Strings.{string_of, units_of}
use Rattle.image.specs.Kinds.{is_identifier}
use Rattle.image.specs.Admitted.{Admitted}
use Rattle.image.specs.Faults.{Fault}
use Rattle.utf.specs.Utf8.{is_utf8, utf16}
use Rattle.patches.specs.Patches.{Step, run}
use Rattle.patches.specs.Lists.{AllAccepted}
use Rattle.string_steps.specs.Steps.{steps_of, StopsWith}
use Rattle.po_lines.specs.Lines.{is_ended}
use Rattle.po_lines.specs.Kinds.{read_lines}
use Rattle.po_pairs.specs.declared.Stand.TheVariants.{Between}
use Rattle.po_pairs.specs.Order.{stand_after, ends_well}
use Rattle.po_pairs.specs.Pairs.{Pair, values_in, paired, msgid_of, msgstr_of}
use Rattle.translate.specs.Translate.{file_values}

-- the pairs of a file's lines
abbrev pub pairs_in : List ℕ → List Pair
pairs_in file = paired (values_in file)

-- the single patches of a file, in id order: the list that demand 3 reads it as
abbrev pub patches_of : Mode → Layout → List ℕ → ℕ → List ℕ → List Step
patches_of m l s room file = steps_of m room (file_values l s (pairs_in file)) (strings_in s)

-- 16 file
pub data BadFile (file : List ℕ) : Type 0 where
  -- "bytes that aren't UTF-8"
  not_utf8 : is_utf8 file ≡ false → BadFile file
  -- "Each line ends with a line feed, the last too"
  not_ended : is_ended file ≡ false → BadFile file
  -- "a line outside the subset": one that is none of its lines, or may not stand behind those before it; or a pair that is not whole
  bad_line : ends_well (stand_after Between (read_lines file)) ≡ false → BadFile file
  -- "a msgid given twice"
  given_twice : (i j : ℕ) → i < j → j < length (pairs_in file) → msgid_of (pairs_in file) i ≡ msgid_of (pairs_in file) j
      → BadFile file

-- 14 absent: "a msgid to be applied that no plain string has"
pub record Missing (l : Layout) (s file : List ℕ) : Type 0 where
  pub pair : ℕ
  pub known : pair < length (pairs_in file)
  pub no_header : 0 < length (msgid_of (pairs_in file) pair)
  pub is_translated : 0 < length (msgstr_of (pairs_in file) pair)
  pub nowhere : (i : ℕ) → i < strings_in s → is_identifier l s i ≡ false
      → units_of (string_of l s i) ≢ utf16 (msgid_of (pairs_in file) pair)

-- nothing is due before the single patches
pub record Ready (l : Layout) (s file : List ℕ) : Type 0 where
  pub admitted : Admitted l s
  pub sound : BadFile file → ⊥
  pub found : Missing l s file → ⊥

-- number n is due, and none before it
pub data RefusedWith (m : Mode) (l : Layout) (s : List ℕ) (room : ℕ) (file : List ℕ) : ℕ → Type 0 where
  bad_image : (n : ℕ) → Fault l s n → ((k : ℕ) → k < n → Fault l s k → ⊥) → RefusedWith m l s room file n
  bad_file : Admitted l s → BadFile file → RefusedWith m l s room file refusals.file
  missing : Admitted l s → (BadFile file → ⊥) → Missing l s file → RefusedWith m l s room file refusals.absent
  stopped : (n : ℕ) → Ready l s file → StopsWith l (patches_of m l s room file) s n → RefusedWith m l s room file n
  no_room : Ready l s file → patches_of m l s room file ≡ [] → room < length s → RefusedWith m l s room file refusals.room

-- nothing is due: each patch is accepted, and t is what demand 3's list ends in; or there is none, and t is the image finalized
pub data AcceptedAs (m : Mode) (l : Layout) (s : List ℕ) (room : ℕ) (file t : List ℕ) : Type 0 where
  patched : Ready l s file → patches_of m l s room file ≢ [] → AllAccepted l (patches_of m l s room file) s
      → run l (patches_of m l s room file) s ≡ t → AcceptedAs m l s room file t
  finalized : Ready l s file → patches_of m l s room file ≡ [] → length s ≤ room → sealed (lengthed s) ≡ t
      → AcceptedAs m l s room file t
