-- When a patch is refused, in propositions. 01, Refusal numbers and "Order"; the law `refused_exactly` says that a step is
-- refused with n exactly where fault n is there and none that comes before n in that order is.
-- docs/FORMAT.md: Refusals, Order, Lists of patches.
use Rattle.std.specs.Prelude.{◌≡◌, false, ◌⊎◌, ◌≢◌, List, ℕ, ◌≤◌, ◌<◌, length}
use Rattle.refusals.specs.Numbers as refusals
use Rattle.refusals.specs.Order.{of_string_by_id, of_string_by_value, of_pass, of_body, turn_in}
use Rattle.format.specs.declared.Layout.{Layout}
use Rattle.format.specs.declared.Layout.TheVariants.{Modern, Legacy}
use Rattle.format.specs.declared.Mode.{Mode}
use Rattle.image.specs.Sections.{functions_in, strings_in, debug_in}
use Rattle.image.specs.Strings.{string_of, units_of}
use Rattle.image.specs.Functions.{func_of}
use Rattle.image.specs.Faults.{ShareByte, Fault}
use Rattle.utf.specs.Utf8.{is_utf8, utf16}
use Rattle.string_edits.specs.Values.{Edit}
use Rattle.functions.specs.Patch.{threshold}
use Rattle.patches.specs.Patches.{Patch, by_id, by_value, in_pass, to_body, target_of}
use Rattle.patches.specs.Promise.{place_after}

-- the order in which the numbers of a patch are due
abbrev pub order_of : Patch → List ℕ
order_of (by_id m id value) = of_string_by_id
order_of (by_value m old new) = of_string_by_value
order_of (in_pass m e k) = of_pass
order_of (to_body id body) = of_body

-- number k is due before number n
abbrev pub DueBefore : Patch → ℕ → ℕ → Type 0
DueBefore p k n = turn_in (order_of p) k < turn_in (order_of p) n

-- where a place of the image goes, and how long the image becomes
abbrev pub goes_to : Layout → List ℕ → Patch → ℕ → ℕ
goes_to l s p = place_after l s (target_of l s p)

-- 12: the largest size of a small record's body
abbrev pub size_most : Layout → ℕ
size_most Modern = 16_383
size_most (Legacy big sources) = 32_767

pub data PatchFault (l : Layout) (s : List ℕ) (room : ℕ) : Patch → ℕ → Type 0 where
  -- 1 to 6: the image is refused
  bad_image : (p : Patch) (n : ℕ) → Fault l s n → PatchFault l s room p n
  -- 7 id: "no such string or function"
  no_string : (m : Mode) (id : ℕ) (value : List ℕ) → strings_in s ≤ id → PatchFault l s room (by_id m id value) refusals.id
  no_string_of : (m : Mode) (e : ℕ → Edit) (k j : ℕ) → j < k → strings_in s ≤ (e j).id
      → PatchFault l s room (in_pass m e k) refusals.id
  no_function : (id : ℕ) (body : List ℕ) → functions_in s ≤ id → PatchFault l s room (to_body id body) refusals.id
  -- 17 twice: "an id given twice" (02, No. 4)
  given_twice : (m : Mode) (e : ℕ → Edit) (k i j : ℕ) → i < j → j < k → (e i).id ≡ (e j).id
      → PatchFault l s room (in_pass m e k) refusals.twice
  -- 8 value: "not valid UTF-8"
  bad_value : (m : Mode) (id : ℕ) (value : List ℕ) → is_utf8 value ≡ false → PatchFault l s room (by_id m id value) refusals.value
  bad_value_of : (m : Mode) (e : ℕ → Edit) (k j : ℕ) → j < k → is_utf8 (e j).value ≡ false
      → PatchFault l s room (in_pass m e k) refusals.value
  bad_old : (m : Mode) (old new : List ℕ) → is_utf8 old ≡ false → PatchFault l s room (by_value m old new) refusals.value
  bad_new : (m : Mode) (old new : List ℕ) → is_utf8 new ≡ false → PatchFault l s room (by_value m old new) refusals.value
  -- 9 inside: "another body shares a byte with it"
  shares : (id : ℕ) (body : List ℕ) (j : ℕ) → j < functions_in s → j ≢ id
      → ShareByte (func_of l s id).begin (func_of l s id).size (func_of l s j).begin (func_of l s j).size
      → PatchFault l s room (to_body id body) refusals.inside
  -- "an empty one starts strictly within it"
  within : (id : ℕ) (body : List ℕ) (j : ℕ) → j < functions_in s → j ≢ id → (func_of l s j).size ≡ 0
      → (func_of l s id).begin < (func_of l s j).begin → (func_of l s j).begin < threshold (func_of l s id)
      → PatchFault l s room (to_body id body) refusals.inside
  -- "any info place lies from its start to below the threshold"
  info_inside : (id : ℕ) (body : List ℕ) (j : ℕ) → j < functions_in s
      → (func_of l s id).begin ≤ (func_of l s j).info → (func_of l s j).info < threshold (func_of l s id)
      → PatchFault l s room (to_body id body) refusals.inside
  -- "a nonzero debug offset is below the threshold"
  debug_below : (id : ℕ) (body : List ℕ) → debug_in l s ≢ 0 → debug_in l s < threshold (func_of l s id)
      → PatchFault l s room (to_body id body) refusals.inside
  -- 10 empty: "old body empty, new one not"
  was_empty : (id : ℕ) (body : List ℕ) → (func_of l s id).size ≡ 0 → 0 < length body
      → PatchFault l s room (to_body id body) refusals.empty
  -- 14 absent: "no string has the old value's UTF-16 units"
  absent : (m : Mode) (old new : List ℕ) → ((i : ℕ) → i < strings_in s → units_of (string_of l s i) ≢ utf16 old)
      → PatchFault l s room (by_value m old new) refusals.absent
  -- 11 limit: "result over 67,108,864 bytes"
  over_limit : (p : Patch) → 67_108_864 < goes_to l s p (length s) → PatchFault l s room p refusals.limit
  -- 12 field: "a small record's moved body offset or moved info place over 33,554,431"
  over_field : (p : Patch) (j : ℕ) → j < functions_in s → (func_of l s j).large ≡ false
      → (33_554_431 < goes_to l s p (func_of l s j).begin) ⊎ (33_554_431 < goes_to l s p (func_of l s j).info)
      → PatchFault l s room p refusals.field
  -- "a small record's new size over 32,767 legacy, 16,383 modern"
  over_size : (id : ℕ) (body : List ℕ) → (func_of l s id).large ≡ false → size_most l < length body
      → PatchFault l s room (to_body id body) refusals.field
  -- 13 room: "output shorter than the result"
  no_room : (p : Patch) → room < goes_to l s p (length s) → PatchFault l s room p refusals.room
