-- Quoted text, byte by byte: one more byte, the last one, and that a value has no more bytes than its text.
use mathlib.Core.Path.{◌≡◌, ap, sym, ◌∙◌}
use mathlib.Core.List.{List, [], ◌++◌}
use Prim.Native.Nat.{ℕ, ◌+◌, ◌≤◌, ◌<◌}
use native.Mathlib.Numerals.{add-one}
use lib.ListN.{length, get_or, drop, length-append, drop_of_length-le}
use lib.Seq.{sets, drop-cons}
use Rattle.bits.proofs.WriteLaws.{sets_append}
use Rattle.text.specs.Text.{Wrote}
use Rattle.po_lines.specs.declared.Quote.{Quote}
use Rattle.po_lines.specs.Quoted.{quote_next, given, quote_end, unescaped}

module _ (q : Quote) (s : List ℕ) (i : ℕ) where
  -- at the end nothing is left
  pub end_last : length s ≤ i → quote_end q (drop i s) ≡ q
  unfolding quote_end
  end_last h = rw (drop_of_length-le s h)

  pub text_last : length s ≤ i → unescaped q (drop i s) ≡ []
  unfolding unescaped
  text_last h = rw (drop_of_length-le s h)

  module _ (n : Quote) (h : i < length s) (f : n ≡ quote_next q (get_or s i 0)) where
    -- one more byte is read
    pub end_turn : quote_end n (drop (i + 1) s) ≡ quote_end q (drop i s)
    unfolding quote_end
    end_turn = rw (f, add-one, drop-cons s i 0 h)

    -- what it gives, and what is left
    text_turn : unescaped q (drop i s) ≡ given q (get_or s i 0) ++ unescaped n (drop (i + 1) s)
    unfolding unescaped
    text_turn = rw (f, add-one, drop-cons s i 0 h)

    pub count_turn : length (unescaped q (drop i s)) ≡ length (given q (get_or s i 0)) + length (unescaped n (drop (i + 1) s))
    count_turn = ap length text_turn ∙ length-append (given q (get_or s i 0)) (unescaped n (drop (i + 1) s))

    pub put_turn : (out out' end : List ℕ) (to to' : ℕ) → Wrote out to (given q (get_or s i 0)) to' out'
        → sets out to (unescaped q (drop i s)) ≡ end → sets out' to' (unescaped n (drop (i + 1) s)) ≡ end
    put_turn out out' end to to' w g =
        rw (w.0, w.1)
        (sym (sets_append (given q (get_or s i 0)) (unescaped n (drop (i + 1) s)) out to)
        ∙ ap (λ (l : List ℕ). sets out to l) (sym text_turn) ∙ g)
