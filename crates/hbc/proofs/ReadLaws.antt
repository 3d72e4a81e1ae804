-- A reading as an outcome: bytes of the image at the front of a buffer, or the refusal.
use Rattle.std.specs.Prelude.{Err, Ok, Result}
use mathlib.Core.Path.{◌≡◌, sym, ◌∙◌, ap}
use mathlib.Core.List.{List}
use Prim.Native.Nat.{ℕ, ◌+◌, ◌-◌, ◌≤◌, ◌<◌}
use native.Mathlib.Nat.{add-sub_cancel_left}
use native.Mathlib.Omega.{arith}
use lib.ListN.{length, take, drop}
use lib.Seq.{sets}
use Rattle.bits.specs.Bytes.{bytes_at}
use Rattle.bits.specs.Outcome.{made, roomed, Answers}
use Rattle.bits.proofs.ByteLaws.{length-bytes_at, bytes_at-take}
use Rattle.bits.proofs.OutcomeLaws.{told_short, told-fits, refused_read, found_read}
use Rattle.format.specs.declared.Layout.{Layout}
use Rattle.image.specs.Sections.{functions_in, strings_in}
use Rattle.image.specs.Strings.{size_of, string_of}
use Rattle.image.specs.Functions.{body_of}
use Rattle.function_table.specs.declared.Function.{Function}
use Rattle.string_tables.specs.Strings.{as_place}
use Rattle.string_walk.specs.declared.Counts.{Counts}
use Rattle.string_walk.specs.declared.StringRecord.{StringRecord}
use Rattle.string_walk.specs.Records.{record_of}
use Rattle.string_walk.specs.declared.Location.{Location}
use Rattle.reader.specs.Reading.{id_refusal, string_read, body_read}
use Rattle.reader.proofs.PartLaws.{string_out, string-at, body_out, body_at}
use Rattle.hbc.specs.Reads.{string_reading, body_reading}

-- ---- bytes of an image, at the front of a buffer

module _ (s old : List ℕ) (start size : ℕ) where
  pub copy_short : length old < size → Answers (roomed (length old) (made (bytes_at s start size))) (Err 13) old old
  copy_short h = told_short (bytes_at s start size) old (omega (arith, length-bytes_at s start size))

  pub copy_fits : (new : List ℕ) → start + size ≤ length s → size ≤ length old
      → new ≡ sets old 0 (take (start + size - start) (drop start s))
      → Answers (roomed (length old) (made (bytes_at s start size))) (Ok size) old new
  copy_fits new h k e =
      let bs : List ℕ = bytes_at s start size in
      let n : length bs ≡ size = length-bytes_at s start size in
      let part : take (start + size - start) (drop start s) ≡ bs = rw add-sub_cancel_left (sym (bytes_at-take s size start h)) in
      let (a, w) = told-fits bs old new (omega arith) (e ∙ ap (sets old 0) part) in
      (ap Ok (sym n) ∙ a, w)

-- ---- a string and a body

module _ (l : Layout) (s : List ℕ) (id room : ℕ) (old : List ℕ) where
  module _ (r : Result Location ℕ) (e : r ≡ string_read l s id) where
    pub no_string_lem : (k : ℕ) → r ≡ Err k → Answers (roomed room (string_reading l s id)) (Err k) old old
    unfolding string_reading
    no_string_lem k f =
        let (h, x) = string_out l s id r e k f in
        refused_read (id_refusal l s (strings_in s) id) k (string_of l s id).bytes (h, x) old room

    pub a_string : (q : Location) (n : ℕ) (a : Result ℕ ℕ) (new : List ℕ) → r ≡ Ok q
        → n ≡ size_of (as_place q.string.place)
        → Answers (roomed room (made (bytes_at s q.string.start n))) a old new
        → Answers (roomed room (string_reading l s id)) a old new
    unfolding string_reading string_of record_of
    a_string q n a new f m w =
        let (z, p, _) = string-at l s id r e q f in
        found_read (id_refusal l s (strings_in s) id) _ _ (roomed room) a old new z
        (ap (bytes_at s q.string.start) m ∙ ap (λ (y : StringRecord). bytes_at s y.start (size_of (as_place y.place))) p) w

  module _ (r : Result Function ℕ) (e : r ≡ body_read l s id) where
    pub no_body : (k : ℕ) → r ≡ Err k → Answers (roomed room (body_reading l s id)) (Err k) old old
    unfolding body_reading
    no_body k f =
        let (h, x) = body_out l s id r e k f in
        refused_read (id_refusal l s (functions_in s) id) k (body_of l s id) (h, x) old room

    pub a_body : (q : Function) (a : Result ℕ ℕ) (new : List ℕ) → r ≡ Ok q
        → Answers (roomed room (made (bytes_at s q.begin q.size))) a old new → Answers (roomed room (body_reading l s id)) a old new
    unfolding body_reading body_of
    a_body q a new f w =
        let (z, p) = body_at l s id r e q f in
        found_read (id_refusal l s (functions_in s) id) _ _ (roomed room) a old new z
        (ap (λ (y : Function). bytes_at s y.begin y.size) p) w
