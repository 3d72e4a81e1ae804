-- The footer of an image. 01, Image rules: "The last 20 bytes are the footer"; FIPS 180-4 decides the hash.
-- docs/FORMAT.md: Footer functions.
use Rattle.std.specs.Prelude.{Bool, true, false, List, [], ◌∷◌, ◌++◌, ℕ, ◌-◌, leb, eqb, length, take, drop}
use Rattle.bits.specs.Choice.{pick, both}
use Rattle.bits.specs.Outcome.{Outcome, made, roomed}
use Rattle.sha1_hash.specs.Sha1.{digest}

-- 01, Image rules: 20 bytes
abbrev pub footer_length : ℕ
footer_length = 20

-- an image with its footer, from the bytes before it
unfoldable pub footed : List ℕ → List ℕ
footed body = body ++ digest body

-- footer.rs, `append_footer`: the first `len` bytes of the buffer are the image without footer
unfoldable pub append_of : List ℕ → ℕ → Outcome
append_of buf len = roomed (length buf) (made (footed (take len buf)))

-- footer.rs, `rehash_footer`: the first `len` bytes are the image with a footer, or have no room for one
unfoldable pub rehash_of : List ℕ → ℕ → Outcome
rehash_of buf len = append_of buf (pick (leb footer_length len) (len - footer_length) len)

-- two lists of bytes are the same
unfoldable pub same : List ℕ → List ℕ → Bool
same [] [] = true
same [] (y ∷ ys) = false
same (x ∷ xs) [] = false
same (x ∷ xs) (y ∷ ys) = both (eqb x y) (same xs ys)

-- footer.rs, `verify_footer`: the last 20 bytes are the hash of all before them
unfoldable pub verified : List ℕ → Bool
verified buf =
    both (leb footer_length (length buf))
    (same (drop (length buf - footer_length) buf) (digest (take (length buf - footer_length) buf)))
