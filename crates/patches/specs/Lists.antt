-- What is promised of a list of patches. The record `Promised` is the whole of it; the law `promised` (proofs/ListLaws.antt) proves it.
-- docs/FORMAT.md: Lists of patches.
use Rattle.std.specs.Prelude.{◌≡◌, ◌⊎◌, ◌↔◌, List, [], ◌∷◌, ℕ, ◌≤◌, ◌<◌, length, get_or}
use Rattle.refusals.specs.Numbers as refusals
use Rattle.bits.specs.Outcome.{refused, made}
use Rattle.format.specs.declared.Layout.{Layout}
use Rattle.footer.specs.Finalize.{Sealed}
use Rattle.image.specs.Sections.{functions_in, kinds_in, identifiers_in, strings_in, debug_in}
use Rattle.image.specs.Strings.{string_of}
use Rattle.image.specs.Kinds.{is_identifier, hash_in}
use Rattle.image.specs.Functions.{Func, func_of, body_of}
use Rattle.image.specs.Admitted.{InTail, Admitted}
use Rattle.patches.specs.Patches.{Patch, by_id, by_value, in_pass, to_body, Step, step_of, image_after, target_of, taken, carried}
use Rattle.patches.specs.Faults.{DueBefore, PatchFault}
use Rattle.patches.specs.Promise.{string_after, body_after, hash_after, size_after, place_after, OutsideBody, OutsideHeaders}

-- the bytes of a patch are bytes
abbrev pub InBytes : Patch → Type 0
InBytes (by_id m id value) = (p : ℕ) → get_or value p 0 < 256
InBytes (by_value m old new) = (p : ℕ) → get_or new p 0 < 256
InBytes (in_pass m e k) = (j : ℕ) → j < k → (p : ℕ) → get_or (e j).value p 0 < 256
InBytes (to_body id body) = (p : ℕ) → get_or body p 0 < 256

abbrev pub AllInBytes : List Step → Type 0
AllInBytes [] = Unit {0}
AllInBytes (p ∷ ps) = InBytes p.patch × AllInBytes ps

-- ---- which steps are accepted, each on the last image accepted

abbrev pub Accepted : Layout → List ℕ → Step → Type 0
Accepted l s p = (t : List ℕ) × (step_of l s p ≡ made t)

abbrev pub SomeAccepted : Layout → List Step → List ℕ → Type 0
SomeAccepted l [] s = ⊥
SomeAccepted l (p ∷ ps) s = Accepted l s p ⊎ SomeAccepted l ps (image_after (step_of l s p) s)

abbrev pub AllAccepted : Layout → List Step → List ℕ → Type 0
AllAccepted l [] s = Unit {0}
AllAccepted l (p ∷ ps) s = Accepted l s p × AllAccepted l ps (image_after (step_of l s p) s)

-- ---- what is promised of one step: when it is accepted, when it is refused and with which number, and what room does

-- fault n is there, and none that is due before it
abbrev pub FirstFault : Layout → List ℕ → Step → ℕ → Type 0
FirstFault l s p n =
    PatchFault l s p.room p.patch n × ((k : ℕ) → DueBefore p.patch k n → PatchFault l s p.room p.patch k → ⊥)

pub record Judged (l : Layout) (s : List ℕ) (p : Step) : Type 0 where
  -- it is accepted exactly where no fault is there
  pub accepted : Accepted l s p ↔ ((n : ℕ) → PatchFault l s p.room p.patch n → ⊥)
  -- it is refused with n exactly where fault n is there, and none that is due before it
  pub refused_with : (n : ℕ) → step_of l s p ≡ refused n ↔ FirstFault l s p n
  -- "a longer output buffer changes no answer but 'no room'"
  pub longer : (more : ℕ) → p.room ≤ more → (step_of l s p ≡ refused refusals.room → ⊥)
      → step_of l s (record { patch = p.patch; room = more }) ≡ step_of l s p

abbrev pub EachJudged : Layout → List Step → List ℕ → Type 0
EachJudged l [] s = Unit {0}
EachJudged l (p ∷ ps) s = Judged l s p × EachJudged l ps (image_after (step_of l s p) s)

-- ---- where things go: one map of places for the list, each accepted step moving what the one before it moved

abbrev pub place_along : Layout → List Step → List ℕ → ℕ → ℕ
place_along l = carried l (place_after l)

-- function i: its places move by that map, its size is the last accepted one
abbrev pub function_along : Layout → List Step → List ℕ → ℕ → Func → Func
function_along l ps s i f = record {
  large = f.large;
  ptr = place_along l ps s f.ptr;
  begin = place_along l ps s f.begin;
  size = carried l (λ u c. size_after i c) ps s f.size;
  info = place_along l ps s f.info;
}

-- byte p of s is in no body that an accepted step patches, byte and body as they stand then
abbrev pub Untouched : Layout → List Step → List ℕ → ℕ → Type 0
Untouched l [] s p = Unit {0}
Untouched l (q ∷ qs) s p =
    (Accepted l s q → OutsideBody l s (target_of l s q.patch) p)
    × Untouched l qs (image_after (step_of l s q) s) (taken (step_of l s q) (place_after l s (target_of l s q.patch)) p)

-- ---- the promise: t is the end image of the list ps of patches on the admitted image s

pub record Promised (l : Layout) (ps : List Step) (s t : List ℕ) : Type 0 where
  -- the end image is admitted, and the counts stand
  pub admitted : Admitted l t
  pub functions : functions_in t ≡ functions_in s
  pub kinds : kinds_in t ≡ kinds_in s
  pub identifiers : identifiers_in t ≡ identifiers_in s
  pub strings : strings_in t ≡ strings_in s
  -- each patched string has its last accepted value; every other keeps its bytes and width
  pub string : (i : ℕ) → i < strings_in s → string_of l t i ≡ carried l (λ u c. string_after i c) ps s (string_of l s i)
  -- each patched body has its last accepted value; every other keeps its bytes
  pub body : (i : ℕ) → i < functions_in s → body_of l t i ≡ carried l (λ u c. body_after i c) ps s (body_of l s i)
  -- every identifier flag stands
  pub flag : (i : ℕ) → is_identifier l t i ≡ is_identifier l s i
  -- a hash slot has the hash of its identifier's last accepted value; every other stands
  pub hash : (r : ℕ) → r < identifiers_in s → hash_in l t r ≡ carried l (hash_after l r) ps s (hash_in l s r)
  -- each stored offset moves exactly as far as the place it names: pointer, start and info place of each function, and the debug offset
  pub function : (i : ℕ) → i < functions_in s → func_of l t i ≡ function_along l ps s i (func_of l s i)
  pub debug : debug_in l t ≡ place_along l ps s (debug_in l s)
  -- 0, for "none", stays 0
  pub zero : place_along l ps s 0 ≡ 0
  -- the image's end moves as far
  pub long : length t ≡ place_along l ps s (length s)
  -- every tail byte outside patched bodies, large-header words and footer keeps its value at its moved place, in the tail before the footer
  pub tail : (p : ℕ) → InTail l s p 1 → OutsideHeaders l s p → Untouched l ps s p
      → InTail l t (place_along l ps s p) 1 × (get_or t (place_along l ps s p) 0 ≡ get_or s p 0)
  -- file length and footer are right where some patch was accepted; where none was, no byte has changed
  pub sealed : SomeAccepted l ps s → Sealed t
  pub unchanged : (SomeAccepted l ps s → ⊥) → t ≡ s
  -- each patch is refused exactly under the conditions of 01; a longer output buffer changes no answer but "no room"
  pub steps : EachJudged l ps s
