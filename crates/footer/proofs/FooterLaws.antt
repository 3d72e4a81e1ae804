-- The footer: its room, what is stored, and bytes that are compared.
use Rattle.std.specs.Prelude.{Err}
use mathlib.Core.Path.{◌≡◌, refl, ◌∙◌}
use mathlib.Core.Bool.{false}
use mathlib.Core.List.{List, ◌++◌}
use Prim.Native.Nat.{ℕ, ◌+◌, ◌-◌, ◌≤◌, ◌<◌}
use native.Mathlib.Omega.{arith}
use borrow.Author.Tests.{le-leb, lt-leb}
use lib.ListN.{length, take, drop, length-append, length-take, length-drop}
use lib.Seq.{sets, sets-eq, length-take-le, take_all}
use Rattle.bits.specs.Outcome.{refused, made, Answers}
use Rattle.bits.proofs.OutcomeLaws.{roomed_short, roomed-fits}
use Rattle.sha1_hash.specs.Sha1.{digest}
use Rattle.sha1_hash.proofs.BlockLaws.{length-digest}
use Rattle.footer.specs.Footer.{footer_length, footed, append_of, rehash_of, same, verified}

pub length-footed : (body : List ℕ) → length (footed body) ≡ length body + footer_length
unfolding footed
length-footed body = length-append body (digest body) ∙ rw (length-digest body)

-- ---- append and rehash

module _ (buf : List ℕ) (len : ℕ) where
  append_short : length buf < len + footer_length → append_of buf len ≡ refused 13
  unfolding append_of
  append_short h = roomed_short (length buf) (footed (take len buf)) (rw (length-footed (take len buf), length-take) (omega arith))

  -- and then nothing is written
  pub append_out : length buf < len + footer_length → Answers (append_of buf len) (Err 13) buf buf
  append_out h = rw (append_short h) (refl, refl)

  pub length_made : len ≤ length buf → length (footed (take len buf)) ≡ len + footer_length
  length_made h = length-footed (take len buf) ∙ rw (length-take-le len buf h)

  pub append_fits : len + footer_length ≤ length buf → append_of buf len ≡ made (footed (take len buf))
  unfolding append_of
  append_fits h = roomed-fits (length buf) (footed (take len buf)) (omega (arith, length_made (omega arith)))

  -- what is stored at `len` is the image with its footer, and the bytes after it
  pub footed-stored : len + footer_length ≤ length buf → sets buf len (digest (take len buf)) ≡ footed (take len buf)
      ++ drop (length (footed (take len buf))) buf
  unfolding footed
  footed-stored h =
      let d : length (digest (take len buf)) ≡ footer_length = length-digest (take len buf) in
      sets-eq (digest (take len buf)) buf len (omega arith)
      ∙ rw (length-append (take len buf) (digest (take len buf)), length-take-le len buf (omega arith))

  pub rehash_long : footer_length ≤ len → rehash_of buf len ≡ append_of buf (len - footer_length)
  unfolding rehash_of
  rehash_long h = rw (le-leb _ _ h)

  pub rehash_short : len < footer_length → rehash_of buf len ≡ append_of buf len
  unfolding rehash_of
  rehash_short h = rw (lt-leb _ _ h)

-- ---- the footer checked

module _ (buf : List ℕ) where
  pub verified_short : length buf < footer_length → verified buf ≡ false
  unfolding verified
  verified_short h = rw (lt-leb _ _ h)

  pub verified-long : (hash : List ℕ) → footer_length ≤ length buf → hash ≡ digest (take (length buf - footer_length) buf)
      → same (take (length buf - (length buf - footer_length)) (drop (length buf - footer_length) buf)) hash ≡ verified buf
  unfolding verified
  verified-long hash h e =
      rw (
        le-leb _ _ h,
        e,
        take_all (length buf - (length buf - footer_length)) (drop (length buf - footer_length) buf)
            (rw length-drop (omega arith)),
      )
