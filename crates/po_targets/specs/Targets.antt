-- The strings that the pairs of a translators' file go to. 02, No. 1: "Each other msgid is looked up in the image as given, identifiers
-- left out, and every plain string with that value gets the msgstr". Pairs are told by their number: msgids and msgstrs in UTF-8.
-- docs/FORMAT.md: Translators' files.
use Rattle.std.specs.Prelude.{Option, Some, None, Bool, not, List, ℕ, zero, suc, ltb, length}
use Rattle.bits.specs.Choice.{pick, both, implies, all_below}
use Rattle.format.specs.declared.Layout.{Layout}
use Rattle.footer.specs.Footer.{same}
use Rattle.image.specs.Sections.{strings_in}
use Rattle.image.specs.Kinds.{is_identifier}
use Rattle.image.specs.Strings.{string_of, units_of}
use Rattle.utf.specs.Utf8.{utf16}

-- "The pair with the empty msgid is the header and isn't applied; an empty msgstr means not translated and isn't applied"
unfoldable pub applied : List ℕ → List ℕ → Bool
applied id str = both (ltb 0 (length id)) (ltb 0 (length str))

-- pair q is applied, and its msgid has these units
abbrev pub fits : (ℕ → List ℕ) → (ℕ → List ℕ) → List ℕ → ℕ → Bool
fits ids strs units q = both (applied (ids q) (strs q)) (same units (utf16 (ids q)))

-- one more than the number of the pair, of the first k, that fits these units; 0 where there is none
unfoldable pub pair_for : (ℕ → List ℕ) → (ℕ → List ℕ) → List ℕ → ℕ → ℕ
pair_for ids strs units zero = 0
pair_for ids strs units (suc k) = pick (fits ids strs units k) (suc k) (pair_for ids strs units k)

-- the pair that string i gets its msgstr from, counted so: "identifiers left out"
unfoldable pub target_of : Layout → List ℕ → (ℕ → List ℕ) → (ℕ → List ℕ) → ℕ → ℕ → ℕ
target_of l s ids strs k i = pick (is_identifier l s i) 0 (pair_for ids strs (units_of (string_of l s i)) k)

-- a pair, counted so
abbrev pub counted : Option ℕ → ℕ
counted (Some q) = suc q
counted None = 0

-- string i is plain and has these units
abbrev pub is_plain : Layout → List ℕ → List ℕ → ℕ → Bool
is_plain l s units i = both (not (is_identifier l s i)) (same (units_of (string_of l s i)) units)

-- some plain string of the image has these units: it is not so that each lacks them
unfoldable pub has_plain : Layout → List ℕ → List ℕ → Bool
has_plain l s units = not (all_below (strings_in s) (λ i. not (is_plain l s units i)))

-- else 14, "for a msgid to be applied that no plain string has"
unfoldable pub all_found : Layout → List ℕ → (ℕ → List ℕ) → (ℕ → List ℕ) → ℕ → Bool
all_found l s ids strs k = all_below k (λ q. implies (applied (ids q) (strs q)) (has_plain l s (utf16 (ids q))))
