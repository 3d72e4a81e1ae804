-- Facts as outcomes: those of the record of places, or the refusal.
use Rattle.std.specs.Prelude.{Err, Ok, Result}
use mathlib.Core.Path.{◌≡◌, refl, sym, ◌∙◌, ap}
use mathlib.Core.List.{List, [], ◌∷◌}
use Prim.Native.Nat.{ℕ}
use native.Mathlib.Omega.{arith}
use lib.Dec.{eqb}
use lib.ListN.{length}
use Rattle.bits.specs.Bytes.{word_at}
use Rattle.bits.specs.Outcome.{made, roomed, Answers}
use Rattle.bits.proofs.OutcomeLaws.{refused_read, found_read}
use Rattle.format.specs.declared.Layout.{Layout}
use Rattle.format.specs.Table as table
use Rattle.footer.specs.Footer.{verified}
use Rattle.image.specs.Sections.{strings_in, record_at}
use Rattle.image.specs.Admission.{refusal}
use Rattle.sections.specs.declared.Places.{Places}
use Rattle.sections.specs.Places.{places_of}
use Rattle.admission.specs.Admission.{admission}
use Rattle.admission.proofs.AnswerLaws.{refused_is, laid-is, laid_layout}
use Rattle.string_tables.specs.Strings.{as_place}
use Rattle.string_walk.specs.declared.Counts.{Counts}
use Rattle.string_walk.specs.declared.StringRecord.{StringRecord}
use Rattle.string_walk.specs.Records.{is_ranked, record_of}
use Rattle.string_walk.specs.Walk.{visits}
use Rattle.string_walk.proofs.RankLaws.{ranked_flag}
use Rattle.string_walk.specs.declared.Location.{Location}
use Rattle.reader.specs.Reading.{id_refusal, string_read}
use Rattle.reader.proofs.PartLaws.{string_out, string-at}
use Rattle.facts.specs.Facts.{flag, facts_of, image_facts, facts_of_parts, facts_of_string, string_facts}

-- ---- of an image

-- the facts by a record of places: the first four and the start of the records are given
abbrev by_places : (n stated right sealed from : ℕ) → Places → List ℕ
by_places n stated right sealed from p =
    n
    ∷ stated
    ∷ right
    ∷ sealed
    ∷ p.functions
    ∷ p.kinds
    ∷ p.identifiers
    ∷ p.strings
    ∷ p.overflows
    ∷ p.storage_size
    ∷ from
    ∷ p.kinds_at
    ∷ p.hashes_at
    ∷ p.small_at
    ∷ p.over_at
    ∷ p.storage_at
    ∷ p.tail
    ∷ p.footer
    ∷ []

-- the places of the image, and the numbers read beside them
pub record Gathered (s : List ℕ) (p : Places) (stated right sealed from : ℕ) : Type 0 where
  pub places : p ≡ places_of p.layout s
  pub header : stated ≡ word_at s (table.file_length).at
  pub judged : right ≡ flag (eqb stated (length s))
  pub footer : sealed ≡ flag (verified s)
  pub records : from ≡ record_at p.layout 0

pub facts_are : (s : List ℕ) (p : Places) (stated right sealed from : ℕ) → Gathered s p stated right sealed from
    → by_places (length s) stated right sealed from p ≡ facts_of p.layout s
unfolding facts_of places_of
facts_are s p stated right sealed from g =
    ap (by_places (length s) stated right sealed from) g.places ∙ rw (g.records, g.footer, g.judged, g.header)

module _ (l : Layout) (s : List ℕ) (room : ℕ) (old : List ℕ) where
  pub no_image : (r : Result Places ℕ) → r ≡ admission l s → (k : ℕ) → r ≡ Err k
      → Answers (roomed room (image_facts l s)) (Err k) old old
  unfolding image_facts
  no_image r e k f =
      let (z, h) = refused_is l s r e k f in
      refused_read (refusal l s) k (facts_of l s) (omega arith, z) old room

  pub an_image : (p : Places) → admission l s ≡ Ok p → (facts : List ℕ) → facts ≡ facts_of p.layout s
      → (a : Result ℕ ℕ) (new : List ℕ) → Answers (roomed room (made facts)) a old new
      → Answers (roomed room (image_facts l s)) a old new
  unfolding image_facts
  an_image p f facts g a new w =
      let same : facts ≡ facts_of l s = g ∙ ap (λ (x : Layout). facts_of x s) (laid_layout l s (admission l s) refl p f) in
      found_read (refusal l s) facts (facts_of l s) (roomed room) a old new (laid-is l s (admission l s) refl p f).0 same w

-- ---- of a string

-- those of its record are its own
pub parts_are : (l : Layout) (s : List ℕ) (id : ℕ) (r : StringRecord) (c : Counts) → r ≡ record_of l s id → c ≡ visits l s id
    → facts_of_parts r.start (as_place r.place) (is_ranked r.rank) c ≡ facts_of_string l s id
unfolding facts_of_string record_of
parts_are l s id r c e v = rw (e, v, ranked_flag l s id)

module _ (l : Layout) (s : List ℕ) (id room : ℕ) (old : List ℕ) where
  pub no_facts : (r : Result Location ℕ) → r ≡ string_read l s id → (k : ℕ) → r ≡ Err k
      → Answers (roomed room (string_facts l s id)) (Err k) old old
  unfolding string_facts
  no_facts r e k f =
      let (h, x) = string_out l s id r e k f in
      refused_read (id_refusal l s (strings_in s) id) k (facts_of_string l s id) (h, x) old room

  pub the_facts : (q : Location) → string_read l s id ≡ Ok q → (facts : List ℕ)
      → facts ≡ facts_of_parts q.string.start (as_place q.string.place) (is_ranked q.string.rank) q.counts
      → (a : Result ℕ ℕ) (new : List ℕ) → Answers (roomed room (made facts)) a old new
      → Answers (roomed room (string_facts l s id)) a old new
  unfolding string_facts
  the_facts q f facts g a new w =
      let (z, p, v) = string-at l s id (string_read l s id) refl q f in
      found_read (id_refusal l s (strings_in s) id) facts (facts_of_string l s id) (roomed room) a old new z
      (g ∙ parts_are l s id q.string q.counts p v) w
