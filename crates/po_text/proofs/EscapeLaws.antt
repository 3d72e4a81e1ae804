-- Code points as they are written: only those of one byte are ever escaped.
use mathlib.Core.Path.{◌≡◌, refl, ap, ◌∙◌}
use mathlib.Core.List.{List, [], ◌∷◌, ◌++◌, append_assoc, append-nil}
use Prim.Native.Nat.{ℕ, ◌+◌, ◌/◌, ◌%◌, ◌≤◌, ◌<◌}
use native.Mathlib.Omega.{arith}
use borrow.Author.Tests.{lt-ltb, le-ltb, ne_eqb}
use lib.ListN.{length, length-append}
use Rattle.text.specs.Text.{line_feed, Wrote}
use Rattle.text.proofs.TextLaws.{wrote_then}
use Rattle.utf.specs.Utf16.{bytes_of_point}
use Rattle.po_text.specs.Marks.{quote_mark, backslash, tab, msgid_mark}
use Rattle.po_text.specs.Written.{escape, escaped, entry_end, entry_of, file_of}

pub escaped_append : (a b : List ℕ) → escaped (a ++ b) ≡ escaped a ++ escaped b
unfolding escaped
escaped_append [] b = refl
escaped_append (x ∷ a) b = rw (escaped_append a b, append_assoc (escape x) (escaped a) (escaped b))

-- no byte from 80 on is special
escape-high : (b : ℕ) → 0x80 ≤ b → escape b ≡ b ∷ []
unfolding escape
escape-high b h =
    rw (
      ne_eqb b line_feed (λ e. omega arith),
      ne_eqb b tab (λ e. omega arith),
      ne_eqb b quote_mark (λ e. omega arith),
      ne_eqb b backslash (λ e. omega arith),
    )

escaped-high : (b : ℕ) (bs : List ℕ) → 0x80 ≤ b → escaped bs ≡ bs → escaped (b ∷ bs) ≡ b ∷ bs
unfolding escaped
escaped-high b bs h e = rw (escape-high b h, e)

escaped-none : escaped [] ≡ []
unfolding escaped
escaped-none = refl

module _ (c : ℕ) where
  pub written_one : c < 0x80 → escaped (bytes_of_point c) ≡ escape c
  unfolding bytes_of_point escaped
  written_one h = rw (lt-ltb c 0x80 h) (append-nil (escape c))

  pub written_two : 0x80 ≤ c → c < 0x800 → escaped (bytes_of_point c) ≡ (0xC0 + c / 64) ∷ (0x80 + c % 64) ∷ []
  unfolding bytes_of_point
  written_two h g =
      rw (le-ltb c 0x80 h, lt-ltb c 0x800 g)
      (escaped-high (0xC0 + c / 64) _ (omega arith) (escaped-high (0x80 + c % 64) [] (omega arith) escaped-none))

  pub written_three : 0x800 ≤ c → c < 0x10000
      → escaped (bytes_of_point c) ≡ (0xE0 + c / 64 / 64) ∷ (0x80 + c / 64 % 64) ∷ (0x80 + c % 64) ∷ []
  unfolding bytes_of_point
  written_three h g =
      rw (le-ltb c 0x80 (omega arith), le-ltb c 0x800 h, lt-ltb c 0x10000 g)
      (escaped-high (0xE0 + c / 64 / 64) _ (omega arith)
      (escaped-high (0x80 + c / 64 % 64) _ (omega arith) (escaped-high (0x80 + c % 64) [] (omega arith) escaped-none)))

  pub written_four : 0x10000 ≤ c
      → escaped (bytes_of_point c)
      ≡ (0xF0 + c / 64 / 64 / 64) ∷ (0x80 + c / 64 / 64 % 64) ∷ (0x80 + c / 64 % 64) ∷ (0x80 + c % 64) ∷ []
  unfolding bytes_of_point
  written_four h =
      rw (le-ltb c 0x80 (omega arith), le-ltb c 0x800 (omega arith), le-ltb c 0x10000 h)
      (escaped-high (0xF0 + c / 64 / 64 / 64) _ (omega arith)
      (escaped-high (0x80 + c / 64 / 64 % 64) _ (omega arith)
      (escaped-high (0x80 + c / 64 % 64) _ (omega arith) (escaped-high (0x80 + c % 64) [] (omega arith) escaped-none))))

-- ---- pairs

pub entry_length : (v : List ℕ) → length (entry_of v) ≡ length msgid_mark + (length (escaped v) + length entry_end)
unfolding entry_of
entry_length v = length-append msgid_mark (escaped v ++ entry_end)
    ∙ ap (λ (n : ℕ). length msgid_mark + n) (length-append (escaped v) entry_end)

pub file_append : (a b : List (List ℕ)) → file_of (a ++ b) ≡ file_of a ++ file_of b
unfolding file_of
file_append [] b = refl
file_append (v ∷ a) b = rw (file_append a b, append_assoc (entry_of v) (file_of a) (file_of b))

pub file_one : (v : List ℕ) → file_of (v ∷ []) ≡ entry_of v
unfolding file_of
file_one v = append-nil (entry_of v)

pub entry-wrote : (v l m n o : List ℕ) (at a b r : ℕ) → Wrote l at msgid_mark a m → Wrote m a (escaped v) b n
    → Wrote n b entry_end r o
    → Wrote l at (entry_of v) r o
unfolding entry_of
entry-wrote v l m n o at a b r x y z =
    wrote_then l m o msgid_mark (escaped v ++ entry_end) at a r x (wrote_then m n o (escaped v) entry_end a b r y z)
