-- The records that the programs read, as the bytes before their contents say. 01, Programs: "each opened by a two-byte mark".
-- docs/FORMAT.md: Input records.
use Rattle.std.specs.Prelude.{Bool, true, false, List, ℕ, leb, eqb, length, get_or, Ok, Err, Result}
use Rattle.refusals.specs.Numbers as refusals
use Rattle.bits.specs.Choice.{pick, both}
use Rattle.bits.specs.Bytes.{number_at, word_at}
use Rattle.format.specs.declared.Layout.{Layout}
use Rattle.format.specs.declared.Layout.TheVariants.{Modern, Legacy}
use Rattle.input_records.specs.declared.PatchHead.{PatchHead}
use Rattle.input_records.specs.declared.PatchHead.TheVariants as patch-is

-- the bytes of a mark
abbrev pub marked : List ℕ → ℕ → ℕ → Bool
marked s a b = both (eqb (get_or s 0 0) a) (eqb (get_or s 1 0) b)

-- ---- `IM`, layout byte, 4-byte length, image

-- the bytes before the image
abbrev pub image_head_length : ℕ
image_head_length = 7

-- "In either program an image is at most 65,536 bytes"
abbrev pub image_most : ℕ
image_most = 65_536

-- "0 modern; 1 legacy, 2 with big integers, 3 with sources, 4 both"
unfoldable pub layout_of : ℕ → Layout
layout_of b =
    pick (eqb b 0) Modern
    (pick (eqb b 1) (Legacy false false) (pick (eqb b 2) (Legacy true false) (pick (eqb b 3) (Legacy false true) (Legacy true true))))

unfoldable pub image_head_good : List ℕ → Bool
image_head_good s =
    both (leb image_head_length (length s)) (both (marked s 0x49 0x4D) (both (leb (get_or s 2 0) 4) (leb (word_at s 3) image_most)))

-- the layout and the length of the image
unfoldable pub image_head : List ℕ → Result (Layout × ℕ) ℕ
image_head s = pick (image_head_good s) (Ok (layout_of (get_or s 2 0), word_at s 3)) (Err refusals.job)

-- ---- `ST` or `FB`, 4-byte id, 2-byte length, bytes

-- the bytes before the new value or body
abbrev pub patch_head_length : ℕ
patch_head_length = 8

-- the id and the length of what is patched in
unfoldable pub patch_head : List ℕ → Result PatchHead ℕ
patch_head s =
    pick (leb patch_head_length (length s))
    (pick (marked s 0x53 0x54) (Ok (patch-is.String (word_at s 2) (number_at s 6 2)))
    (pick (marked s 0x46 0x42) (Ok (patch-is.Body (word_at s 2) (number_at s 6 2))) (Err refusals.job)))
    (Err refusals.job)
