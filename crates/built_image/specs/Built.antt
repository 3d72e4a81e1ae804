-- What is promised of an image that build_minimal_modern makes: it is admitted as modern, and reads as what went in.
-- 01, What is ported and what is added: the builder is ported; "admission, a reader of strings and bodies" are added.
-- docs/FORMAT.md: Builder.
use Rattle.std.specs.Prelude.{◌≡◌, true, false, List, [], ◌∷◌, ℕ, suc, ◌-◌, ◌<◌, length}
use Rattle.bits.specs.Bytes.{bytes_at, bytes_of}
use Rattle.format.specs.declared.Layout.TheVariants.{Modern}
use Rattle.format.specs.Table as table
use Rattle.format.specs.Number.{number_held}
use Rattle.footer.specs.Finalize.{Sealed}
use Rattle.serialize.specs.Parts as builder
use Rattle.serialize.specs.Parts.{start_of, place_of, storage_of}
use Rattle.image.specs.Sections.{functions_in, strings_in, debug_in, kinds_at, small_at, storage_at, tail_at}
use Rattle.image.specs.Strings.{Str, place_at, string_of}
use Rattle.image.specs.Kinds.{is_identifier}
use Rattle.image.specs.Functions.{Func, func_of, body_of}
use Rattle.image.specs.Admitted.{Admitted}
use Rattle.image_parts.specs.Parts.{Parts, joined}

-- ---- what goes in. 01, refusal 15: "strings come as one text and their end places"

-- string i: the text from the end before it to its own, narrow
abbrev pub given : List ℕ → List ℕ → ℕ → Str
given text ends i = record { wide = false; bytes = bytes_at text (start_of ends i) (start_of ends (suc i) - start_of ends i) }

-- where the builder puts the body
abbrev pub body_at : List ℕ → List ℕ → ℕ
body_at text ends = builder.body_at (length ends) (length (storage_of text ends))

-- its one function: a large header behind the body, and no info place
abbrev pub function : List ℕ → List ℕ → List ℕ → Func
function text ends code = record {
  large = true;
  ptr = builder.large_at (body_at text ends) (length code);
  begin = body_at text ends;
  size = length code;
  info = 0;
}

-- the parts of its image
abbrev pub parts_of : ℕ → List ℕ → List ℕ → List ℕ → Parts
parts_of v text ends code = record {
  header = builder.header_of v (length ends) (length (storage_of text ends));
  records = bytes_of (table.modern_record).width (builder.record_of (function text ends code).ptr);
  kinds = length ends ∷ [];
  hashes = [];
  count = length ends;
  strings = record { place = place_of ends; store = storage_of text ends };
  tail = builder.tail_of (body_at text ends) code;
}

-- ---- what comes out: the image t of version v, of a text and its ends, and of the code of one function

pub record Built (v : ℕ) (text ends code t : List ℕ) : Type 0 where
  pub admitted : Admitted Modern t
  -- as many strings as ends, each the given one at its place, and no identifier
  pub strings : strings_in t ≡ length ends
  pub string : (i : ℕ) → i < length ends → string_of Modern t i ≡ given text ends i
  pub place : (i : ℕ) → i < length ends → place_at Modern t i ≡ place_of ends i
  pub plain : (i : ℕ) → i < length ends → is_identifier Modern t i ≡ false
  -- one function, whose body is the code
  pub functions : functions_in t ≡ 1
  pub func : func_of Modern t 0 ≡ function text ends code
  pub body : body_of Modern t 0 ≡ code
  -- the sections that admission finds are where the builder puts them, and the image is its parts
  pub kinds : kinds_at Modern t ≡ builder.kinds_at
  pub small : small_at Modern t ≡ builder.small_at
  pub storage : storage_at Modern t ≡ builder.storage_at (length ends)
  pub tail : tail_at Modern t ≡ body_at text ends
  pub joins : joined (parts_of v text ends code) ≡ t
  pub long : length t ≡ builder.length_of (length ends) (length (storage_of text ends)) (length code)
  -- the version, no debug offset, file length and footer
  pub version : number_held table.version t ≡ v
  pub debug : debug_in Modern t ≡ 0
  pub sealed : Sealed t
