-- What is finalized is sealed, and bytes stay bytes.
use mathlib.Core.Path.{◌≡◌, ap, sym, ◌∙◌, subst}
use mathlib.Core.List.{List}
use Prim.Native.Nat.{ℕ, ◌+◌, ◌-◌, ◌≤◌, ◌<◌}
use native.Mathlib.Omega.{arith}
use lib.ListN.{length, get_or, take, get_or-append}
use lib.Seq.{sets, length-sets, length-take-le, get_or-take, take_at, drop_at}
use Rattle.bits.specs.Bytes.{bytes_of}
use Rattle.bits.specs.Outcome.{made}
use Rattle.bits.proofs.ListLaws.{AllBelow, below_append, below_take, below_sets, below_bytes_of}
use Rattle.bits.proofs.ByteLaws.{number_at_ext}
use Rattle.bits.proofs.WriteLaws.{number_at_back}
use Rattle.format.specs.Table.{file_length}
use Rattle.sha1_hash.specs.Sha1.{digest}
use Rattle.sha1_hash.proofs.BlockLaws.{digest_below}
use Rattle.footer.specs.Footer.{footer_length, footed}
use Rattle.footer.specs.Finalize.{lengthed, sealed, finalize_of, Sealed}
use Rattle.footer.proofs.FooterLaws.{length-footed}
use Rattle.footer.proofs.FinalizeLaws.{accepted, length_finalized}

module _ (s t : List ℕ) (e : finalize_of s ≡ made t) where
  abbrev u : List ℕ
  u = lengthed s

  -- all before the footer
  abbrev b : List ℕ
  b = take (length u - footer_length) u

  length_u : length u ≡ length s
  unfolding lengthed
  length_u = length-sets s file_length.at (bytes_of file_length.width (length s))

  pub finalize_below : AllBelow 256 s → AllBelow 256 t
  unfolding sealed footed lengthed
  finalize_below h =
      let vs : List ℕ = bytes_of file_length.width (length s) in
      let w : List ℕ = sets s file_length.at vs in
      subst (AllBelow 256) (sym (accepted s t e).2)
      (below_append 256 (omega arith) b (digest b)
      (below_take 256 (omega arith) (length w - footer_length) w
      (below_sets 256 (omega arith) vs s file_length.at (below_bytes_of file_length.width (length s)) h)) (digest_below b))

  sealed_byte : (p : ℕ) → p < length s - footer_length → get_or (sealed u) p 0 ≡ get_or u p 0
  unfolding sealed footed
  sealed_byte p h =
      let n : length b ≡ length u - footer_length = length-take-le (length u - footer_length) u (omega arith) in
      get_or-append b (digest b) 0 p (omega (arith, n, length_u))
      ∙ get_or-take (length u - footer_length) u p 0 (omega (arith, length_u))

  -- in fewer bytes the footer would stand over the file length
  pub finalize_sealed : file_length.at + file_length.width + footer_length ≤ length s → Sealed t
  unfolding sealed footed lengthed
  finalize_sealed h =
      let (least, most, is) = accepted s t e in
      let f : length (sealed u) ≡ length b + footer_length = length-footed b in
      let n : length b ≡ length (sealed u) - footer_length = omega (arith, f) in
      subst Sealed (sym is)
      (record {
        file_length =
            number_at_ext (sealed u) u 4 32 32 (λ j k. sealed_byte (32 + j) (omega arith))
            ∙ number_at_back s 32 4 (length s) (omega arith) (omega arith)
            ∙ sym (length_finalized s least);
        footer =
            let k : ℕ = length (sealed u) - footer_length in
            drop_at b (digest b) k n ∙ ap digest (sym (take_at b (digest b) k n));
      })
