-- The number of an answer tells it: a refusal's is 2^32 or more, and no length is.
use Rattle.std.specs.Prelude.{Err, Ok, Result}
use mathlib.Core.Path.{◌≡◌, refl, ap, sym, ◌∙◌, subst}
use mathlib.Core.Bool.{Bool, true, false}
use mathlib.Core.Logic.{inl, inr}
use mathlib.Core.List.{List}
use Prim.Native.Nat.{ℕ, ◌+◌, ◌≤◌, ◌<◌}
use native.Mathlib.Omega.{arith}
use borrow.Author.Tests.{eqb-true, ltb-false, lt-ltb, le-ltb}
use lib.Dec.{ltb, eqb}
use lib.ListN.{length, get_or}
use Rattle.bits.specs.Choice.{pick, judge}
use Rattle.bits.specs.Outcome.{Outcome, refused, made, outcome_for, written, answered, roomed}
use Rattle.bits.proofs.TestLaws.{below_or}
use Rattle.bits.proofs.OutcomeLaws.{one_outcome}
use Rattle.bits.proofs.ListLaws.{AllBelow}
use Rattle.bits.proofs.ByteLaws.{length-bytes_at, bytes_at_below}
use Rattle.bits.proofs.JudgeLaws.{judge_pass}
use Rattle.format.specs.declared.Layout.{Layout}
use Rattle.format.specs.declared.Mode.{Mode}
use Rattle.footer.specs.Finalize.{size_limit, finalize_of}
use Rattle.footer.proofs.FinalizeLaws.{accepted, length_finalized, finalize_length}
use Rattle.serialize.specs.Parts.{storage_of, minimal}
use Rattle.serialize.specs.Builder.{checks, built}
use Rattle.image.specs.Sections.{strings_in, functions_in, storage_at}
use Rattle.image.specs.Strings.{place_at, size_of, string_of}
use Rattle.image.specs.Functions.{func_of, body_of}
use Rattle.image.specs.Admission.{refusal}
use Rattle.image.specs.Admitted.{Admitted}
use Rattle.image.proofs.AdmitLaws.{admitted}
use Rattle.image.proofs.PlaceLaws.{string-in, counted}
use Rattle.admission.proofs.AnswerLaws.{judged_none}
use Rattle.reader.specs.Reading.{id_refusal}
use Rattle.reader.proofs.ReadingLaws.{read_is}
use Rattle.facts.specs.Facts.{facts_of, image_facts, facts_of_string, string_facts, strings_told, string_facts_from}
use Rattle.facts.proofs.PassLaws.{facts_length, told_most}
use Rattle.string_edits.specs.Lists.{value_in, edit_in, is_list}
use Rattle.strings.specs.Patch.{by_id_refusal, patch_by_id, by_value_refusal, patch_by_value}
use Rattle.strings.specs.Pass.{pass_refusal, patch_in_pass, patch_strings}
use Rattle.functions.specs.Patch.{body_refusal, patch_body}
use Rattle.patches.specs.Patches.{Patch, by_id, by_value, in_pass, to_body, outcome_of}
use Rattle.patches.specs.Lists.{InBytes}
use Rattle.patches.proofs.ListLaws.{promised}
use Rattle.po_write.specs.File.{po_of, write_refusal, room_for, write_po}
use Rattle.translate.specs.Translate.{translated}
use Rattle.translate.specs.Space.{Space, is_read, read_po}
use Rattle.translate.specs.Faults.{patches_of, AcceptedAs, patched, finalized}
use Rattle.translate.proofs.FaultLaws.{in_bytes, accepted_exactly}
use Rattle.patches.proofs.StepLaws.{made_of, patch_promise}
use Rattle.listing_pieces.specs.Listing.{listed, part_room, listing_part}
use Rattle.listing_pieces.proofs.PartLaws.{part_short, part_fits}
use Rattle.input_records.specs.Heads.{layout_of}
use Rattle.string_index.specs.Index.{fill_refusal, filled_as}
use Rattle.hbc.specs.Numbers.{numbered, coded, Codes, stated, mode_of, chosen}
use Rattle.string_reasons.specs.declared.Reason.{Reason}
use Rattle.string_reasons.specs.declared.Reason.TheVariants as reason-is
use Rattle.hbc.specs.Reads.{string_reading, body_reading, looked_up, reason_words}
use Rattle.string_index.specs.declared.Entry.{Entry}

-- the length of what is made fits 32 bits
abbrev pub Short : Outcome → Type 0
Short (refused n) = Unit {0}
Short (made new) = length new < 4294967296

-- two runs that both promise `Codes` end alike
pub one_code : (o : Outcome) (r r' : ℕ) (old new new' : List ℕ) → Codes o r old new → Codes o r' old new' → (r ≡ r')
    × (new ≡ new')
one_code o r r' old new new' p q = one_outcome (coded o) r r' (written o old) new new' p q

-- TWO OUTCOMES WITH ONE NUMBER HAVE ONE ANSWER
pub told-apart : (o o' : Outcome) → Short o → Short o' → coded o ≡ coded o' → answered o ≡ answered o'
told-apart (refused n) (refused m) h k e = ap Err (let z : n ≡ m = omega arith in z)
told-apart (refused n) (made t) h k e = absurd (omega (arith, k))
told-apart (made t) (refused m) h k e = absurd (omega (arith, h))
told-apart (made t) (made u) h k e = ap Ok e

-- ---- rooms, layouts and modes change nothing of it

pub short_in_room : (room : ℕ) (o : Outcome) → Short o → Short (roomed room o)
unfolding roomed
short_in_room room (refused n) h = tt
short_in_room room (made t) h = go (ltb room (length t))
  where
    go : (b : Bool) → Short (pick b (refused 13) (made t))
    go true = tt
    go false = h

pub short_stated : (byte : ℕ) (o : Layout → Outcome) → ((l : Layout) → Short (o l)) → Short (stated byte o)
unfolding stated
short_stated byte o h = go (ltb 4 byte)
  where
    go : (b : Bool) → Short (pick b (refused 15) (o (layout_of byte)))
    go true = tt
    go false = h (layout_of byte)

pub short_chosen : (byte : ℕ) (o : Mode → Outcome) → ((m : Mode) → Short (o m)) → Short (chosen byte o)
unfolding chosen
short_chosen byte o h = go (ltb 1 byte)
  where
    go : (b : Bool) → Short (pick b (refused 15) (o (mode_of byte)))
    go true = tt
    go false = h (mode_of byte)

-- ---- one for each function that writes

short_made : (o : Outcome) → ((t : List ℕ) → o ≡ made t → length t ≤ size_limit) → Short o
short_made (refused n) h = tt
short_made (made t) h = omega (arith, h t refl)

short_judged : (n : ℕ) (t : List ℕ) → (n ≡ 0 → length t < 4294967296) → Short (pick (eqb n 0) (made t) (refused n))
short_judged n t h = go (eqb n 0) refl
  where
    go : (b : Bool) → eqb n 0 ≡ b → Short (pick b (made t) (refused n))
    go true e = h (eqb-true n 0 e)
    go false e = tt

pub short_finalize : (s : List ℕ) → Short (finalize_of s)
short_finalize s = short_made (finalize_of s) (λ t e. omega (arith, finalize_length s t e, (accepted s t e).1))

pub short_built : (version : ℕ) (text ends body : List ℕ) → Short (built version text ends body)
unfolding built checks
short_built version text ends body =
    short_judged (judge (checks version text ends body)) (minimal version (storage_of text ends) ends body) (λ e.
    let (a, e₁) = judge_pass _ _ (omega arith) e in
    let (b, e₂) = judge_pass _ _ (omega arith) e₁ in
    let (c, e₃) = judge_pass _ _ (omega arith) e₂ in
    let (d, e₄) = judge_pass _ _ (omega arith) e₃ in
    let (f, e₅) = judge_pass _ _ (omega arith) e₄ in
    let (g, e₆) = judge_pass _ _ (omega arith) e₅ in
    let fits : length (minimal version (storage_of text ends) ends body) ≤ size_limit = ltb-false size_limit _ g in
    omega arith)

-- bytes are bytes
module _ (l : Layout) (s : List ℕ) (bytes : (i : ℕ) → get_or s i 0 < 256) where
  passed : (p : Patch) (t : List ℕ) → outcome_of l s p ≡ made t → refusal l s ≡ 0
  unfolding outcome_of patch_by_id by_id_refusal patch_by_value by_value_refusal patch_in_pass pass_refusal patch_body body_refusal
  passed (by_id m id value) t e = (judged_none l s _ (made_of _ _ _ e).0).0
  passed (by_value m old new) t e = (judged_none l s _ (made_of _ _ _ e).0).0
  passed (in_pass m f k) t e = (judged_none l s _ (made_of _ _ _ e).0).0
  passed (to_body id body) t e = (judged_none l s _ (made_of _ _ _ e).0).0

  pub short_patch : (p : Patch) → InBytes p → Short (outcome_of l s p)
  short_patch p b =
      short_made (outcome_of l s p) (λ t e. (patch_promise l s (admitted l s bytes (passed p t e)) p t b e).kept.admitted.most)

  -- a pass over a list as it is lent
  short_edits : (m : Mode) (ids text ends : List ℕ) → AllBelow 256 text
      → Short (patch_in_pass m l s (edit_in ids text ends) (length ids))
  unfolding outcome_of value_in
  short_edits m ids text ends b = short_patch (in_pass m (edit_in ids text ends) (length ids)) (λ j h. bytes_at_below text _ _ b)

  pub short_strings : (m : Mode) (ids text ends : List ℕ) → AllBelow 256 text → Short (patch_strings m l s ids text ends)
  unfolding patch_strings
  short_strings m ids text ends b = go (is_list ids text ends) (short_edits m ids text ends b)
    where
      go : (t : Bool) → Short (patch_in_pass m l s (edit_in ids text ends) (length ids))
          → Short (pick t (patch_in_pass m l s (edit_in ids text ends) (length ids)) (refused 15))
      go true h = h
      go false h = tt

  pub short_string : (id : ℕ) → Short (string_reading l s id)
  unfolding string_reading string_of
  short_string id = short_judged (id_refusal l s (strings_in s) id) (string_of l s id).bytes (λ e.
      let (z, h) = read_is l s (strings_in s) id e in
      let a : Admitted l s = admitted l s bytes z in
      omega (
        arith,
        length-bytes_at s (storage_at l s + (place_at l s id).at) (size_of (place_at l s id)),
        string-in a id h,
        a.room,
        a.most,
      ))

  pub short_body : (id : ℕ) → Short (body_reading l s id)
  unfolding body_reading body_of
  short_body id = short_judged (id_refusal l s (functions_in s) id) (body_of l s id) (λ e.
      let (z, h) = read_is l s (functions_in s) id e in
      let a : Admitted l s = admitted l s bytes z in
      omega (arith, length-bytes_at s (func_of l s id).begin (func_of l s id).size, (a.body id h).1, a.most))

-- ---- translators' files

-- what is written is below 2^32 bytes
room_most : (room : ℕ) → room_for room ≤ 4294967295
room_most room = elim (below_or room 4294967295) [
  | inl h ↦ rw (lt-ltb room 4294967295 h) (omega arith)
  | inr h ↦ rw (le-ltb room 4294967295 h) (omega arith)
]

pub short_write_po : (l : Layout) (s : List ℕ) (words room : ℕ) → Short (write_po l s words room)
unfolding write_po roomed
short_write_po l s words room = go (outcome_for (write_refusal l s words) (po_of l s))
  where
    within : (t : List ℕ) (b : Bool) → ltb (room_for room) (length t) ≡ b → Short (pick b (refused 13) (made t))
    within t true e = tt
    within t false e = omega (arith, ltb-false (room_for room) (length t) e, room_most room)

    go : (o : Outcome) → Short (roomed (room_for room) o)
    go (refused n) = tt
    go (made t) = within t (ltb (room_for room) (length t)) refl

-- what is read makes an image
module _ (m : Mode) (l : Layout) (s : List ℕ) (room : ℕ) (file : List ℕ) (bytes : (i : ℕ) → get_or s i 0 < 256) where
  made_most : (t : List ℕ) → AcceptedAs m l s room file t → length t ≤ size_limit
  made_most t (patched r n a e) =
      subst (λ (x : List ℕ). length x ≤ size_limit) e
      (promised l (patches_of m l s room file) s r.admitted (in_bytes m l s room file bytes r)).admitted.most
  made_most t (finalized r n h e) =
      subst (λ (x : List ℕ). length x ≤ size_limit) e
      (omega (arith, length_finalized s (omega (arith, r.admitted.least)), r.admitted.most))

  short_translated : Short (translated m l s room file)
  short_translated =
      short_made (translated m l s room file) (λ t e. made_most t ((accepted_exactly m l s room file bytes t).0 e))

  pub short_read_po : (space : Space) → Short (read_po m l s room file space)
  unfolding read_po
  short_read_po space = go (is_read l s file space) (eqb (refusal l s) 0) short_translated
    where
      go : (b c : Bool) → Short (translated m l s room file)
          → Short (pick b (translated m l s room file) (pick c (refused 13) (refused (refusal l s))))
      go true c h = h
      go false true h = tt
      go false false h = tt

pub short_list : (room from : ℕ) (l : Layout) (s : List ℕ) (words : ℕ) → Short (listing_part (part_room room) from l s words)
unfolding listing_part
short_list room from l s words =
    short_judged (fill_refusal l s words) _ (λ e. omega (arith, part_short from (part_room room) (listed l s), (part_fits room).1))

pub short_image_facts : (l : Layout) (s : List ℕ) → Short (image_facts l s)
unfolding image_facts facts_of
short_image_facts l s = short_judged (refusal l s) (facts_of l s) (λ e. omega arith)

pub short_string_facts : (l : Layout) (s : List ℕ) (id : ℕ) → Short (string_facts l s id)
unfolding string_facts facts_of_string
short_string_facts l s id = short_judged (id_refusal l s (strings_in s) id) (facts_of_string l s id) (λ e. omega arith)

pub short_facts_from : (l : Layout) (s : List ℕ) → ((i : ℕ) → get_or s i 0 < 256) → (room id : ℕ)
    → Short (string_facts_from room l s id)
unfolding string_facts_from
short_facts_from l s bytes room id = short_judged (refusal l s) _ (λ e.
    let a : Admitted l s = admitted l s bytes e in
    let n = strings_told room (strings_in s) id in
    omega (arith, facts_length l s id n, told_most room (strings_in s) id, (counted a).strings, a.most))

-- ---- the index of an image

pub short_looked_up : (x : Result Entry ℕ) → Short (looked_up x)
short_looked_up (Ok e) = omega arith
short_looked_up (Err n) = tt

-- ---- a reason

pub short_reason : (r : Reason) → Short (reason_words r)
short_reason (reason-is.Refused n) = tt
short_reason reason-is.InPlace = omega arith
short_reason reason-is.Wide = omega arith
short_reason reason-is.NotAscii = omega arith
short_reason (reason-is.Lengths entry new) = omega arith
short_reason (reason-is.Overlap id) = omega arith

-- code and words tell the reason
abbrev told : Outcome → Reason
told (refused n) = reason-is.Refused n
told (made t) =
    let code = get_or t 0 0 in
    pick (eqb code 0) reason-is.InPlace
    (pick (eqb code 1) reason-is.Wide
    (pick (eqb code 2) reason-is.NotAscii
    (pick (eqb code 3) (reason-is.Lengths (get_or t 1 0) (get_or t 2 0)) (reason-is.Overlap (get_or t 1 0)))))

told_back : (r : Reason) → told (reason_words r) ≡ r
told_back (reason-is.Refused n) = refl
told_back reason-is.InPlace = refl
told_back reason-is.Wide = refl
told_back reason-is.NotAscii = refl
told_back (reason-is.Lengths entry new) = refl
told_back (reason-is.Overlap id) = refl

pub reasons_apart : (r q : Reason) → reason_words r ≡ reason_words q → r ≡ q
reasons_apart r q e = sym (told_back r) ∙ ap told e ∙ told_back q

-- the strings that are counted fit 32 bits, so that a count is told from a refusal too
abbrev pub Few : Result ℕ ℕ → Type 0
Few (Ok n) = n < 4294967296
Few (Err n) = Unit {0}

pub counts_apart : (f g : Result ℕ ℕ) → Few f → Few g → numbered f ≡ numbered g → f ≡ g
counts_apart (Ok n) (Ok m) h k e = ap Ok e
counts_apart (Ok n) (Err m) h k e = absurd (omega (arith, h))
counts_apart (Err n) (Ok m) h k e = absurd (omega (arith, k))
counts_apart (Err n) (Err m) h k e = ap Err (let z : n ≡ m = omega arith in z)

pub few_filled : (l : Layout) (s : List ℕ) → ((i : ℕ) → get_or s i 0 < 256) → (words : ℕ) → Few (filled_as l s words)
unfolding filled_as fill_refusal
few_filled l s bytes words = go (fill_refusal l s words) (λ e. (judged_none l s _ e).0)
  where
    go : (n : ℕ) → (n ≡ 0 → refusal l s ≡ 0) → Few (pick (eqb n 0) (Ok (strings_in s)) (Err n))
    go n f = by (eqb n 0) refl
      where
        by : (b : Bool) → eqb n 0 ≡ b → Few (pick b (Ok (strings_in s)) (Err n))
        by true e =
            let a : Admitted l s = admitted l s bytes (f (eqb-true n 0 e)) in
            omega (arith, (counted a).strings, a.most)
        by false e = tt
