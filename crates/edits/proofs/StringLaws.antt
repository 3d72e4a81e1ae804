-- The strings of a rebuild are the strings given, each at its place: an entry overflows exactly by 01's tests, the padding is zeros.
use mathlib.Core.Path.{◌≡◌, refl, ap, sym, ◌∙◌}
use mathlib.Core.Bool.{Bool, true, false}
use mathlib.Core.Logic.{inl, inr}
use mathlib.Core.List.{List}
use Prim.Native.Nat.{ℕ, suc, ◌+◌, ◌-◌, ◌*◌, ◌/◌, ◌^◌, ◌≤◌, ◌<◌}
use native.Mathlib.Omega.{arith}
use lib.ListN.{length, get_or, replicate, length-append, length-replicate, get_or-replicate, get_or-append, get_or-eq_default}
use lib.Seq.{sets, length-sets}
use Rattle.bits.specs.Bytes.{bytes_at, number_at, bytes_of, up4, zeros_to4}
use Rattle.bits.proofs.TestLaws.{below_or}
use Rattle.bits.proofs.ListLaws.{Lies, get_d_past}
use Rattle.bits.proofs.ByteLaws.{length-bytes_at, get_d_bytes_at, bytes_at_below}
use Rattle.bits.proofs.WriteLaws.{number_at_back, number_at_off}
use Rattle.format.specs.declared.Layout.{Layout}
use Rattle.format.specs.declared.Mode.{Mode}
use Rattle.format.specs.Table as table
use Rattle.format.specs.Entry.{Place, far, is_over}
use Rattle.footer.specs.Finalize.{size_limit}
use Rattle.image.specs.Sections.{strings_in, overflows_in, storage_in, debug_in, small_at, storage_at, tail_at}
use Rattle.image.specs.Strings.{is_full, small_in, place_at, unit_size, size_of, Str, string_of}
use Rattle.image.specs.Admitted.{Admitted}
use Rattle.edits.specs.Edit.{splice, write_all}
use Rattle.edits.specs.Packing.{Packed, gap_of, store_of, start_of, packed, Zeros, start_in, end_in, Spaced}
use Rattle.edits.specs.Rebuild.{overs, region, padded, new_tail, rebuild}
use Rattle.image.proofs.PlaceLaws.{debug-fits, debug-at, debug_past_lem}
use Rattle.edits.proofs.PackLaws.{start_is, size_next, size_room, start_none, gap-zero}
use Rattle.edits.proofs.ReadLaws.{string_count-same, small_at-same}
use Rattle.edits.proofs.BodyLaws.{front-number, front_long, new_byte, place_most}
use Rattle.edits.proofs.RebuildLaws.{beside, Valid, new_region, rebuilt_place, Rebuilds, rebuilding, parted, counts_kept}
use Rattle.edits.proofs.RebuildLaws.{rebuilt_limit}
use Rattle.edits.proofs.RegionLaws.{length-region, Bears, read_storage, read_stored, read_wide, read_at, read_size}
use Rattle.edits.proofs.RegionLaws.{read-string, read-full}

-- ---- the strings of an admitted image

module _ (l : Layout) (s : List ℕ) (ad : Admitted l s) (i : ℕ) (known : i < strings_in s) where
  -- they may stand in a rebuilt one
  pub old_valid : Valid (string_of l s i)
  unfolding string_of
  old_valid =
      let p : Place = place_at l s i in
      let at : ℕ = storage_at l s + p.at in
      let n : length (bytes_at s at (size_of p)) ≡ size_of p = length-bytes_at s at (size_of p) in
      record {
        whole = rw n (whole_of p.wide p.count);
        bytes = bytes_at_below s (size_of p) at ad.bytes;
        narrow = λ t j.
            elim (below_or j (size_of p)) [
              | inl h ↦ let g : j < p.count * 1 = rw t at h in rw (get_d_bytes_at s (size_of p) at j h)
                  (ad.narrow i known t j (omega arith))
              | inr h ↦ rw (get_or-eq_default (bytes_at s at (size_of p)) 0 {n = j} (omega arith)) (omega arith)
            ];
      }
    where
      whole_of : (b : Bool) (c : ℕ) → c * unit_size b / unit_size b * unit_size b ≡ c * unit_size b
      whole_of true c = omega arith
      whole_of false c = omega arith

module _ (l : Layout) (ps : Packed) (s : List ℕ) (ad : Admitted l s) (f : ℕ → Str) (ok : Rebuilds l f ps s) where
  abbrev out : List ℕ
  out = rebuild l ps s

  abbrev n : ℕ
  n = strings_in s

  abbrev ov : ℕ
  ov = overs ps.place n

  abbrev base : List ℕ
  base = splice (small_at l s) (tail_at l s) (new_region l ps s) s

  -- what is not over the limit fits its words
  region-fits : length (region n ps) ≤ size_limit
  unfolding padded
  region-fits = omega (arith, rebuilt_limit l ps s ad f ok, length-append (region n ps) (zeros_to4 (small_at l s + length (region n ps))))

  few : ov ≤ far
  few = omega (arith, region-fits, length-region n ps)

  store_fits : length ps.store < 2 ^ 32
  store_fits = omega (arith, region-fits, length-region n ps)

  -- ---- the words of the header

  header-number : (q n : ℕ) → q + n ≤ table.header_length
      → number_at out q n ≡ number_at (write_all (rebuilding l ps s).words base) q n
  unfolding rebuild
  header-number q n h = front-number l s (rebuilding l ps s) (parted l ps s ad) q n h

  long : table.header_length ≤ length base
  long = front_long l s (rebuilding l ps s) (parted l ps s ad)

  abbrev debug_at : ℕ
  debug_at = table.place_in l (table.debug_row l)

  abbrev wide : ℕ
  wide = (table.debug_row l).width

  abbrev base₁ : List ℕ
  base₁ = sets base 56 (bytes_of 4 (ov))

  abbrev base₂ : List ℕ
  base₂ = sets base₁ 60 (bytes_of 4 (length ps.store))

  overflows_is : overflows_in out ≡ ov
  unfolding write_all
  overflows_is =
      let u = debug_past_lem l in
      header-number 56 4 (omega arith)
      ∙ number_at_off base₂ debug_at wide (rebuilt_place l ps s (debug_in l s)) 56 4 (omega arith)
      ∙ number_at_off base₁ 60 4 (length ps.store) 56 4 (omega arith)
      ∙ number_at_back base 56 4 (ov) (omega (arith, long)) (omega (arith, few))

  storage_size_lem : storage_in out ≡ length ps.store
  unfolding write_all
  storage_size_lem =
      let u = debug_past_lem l in
      header-number 60 4 (omega arith)
      ∙ number_at_off base₂ debug_at wide (rebuilt_place l ps s (debug_in l s)) 60 4 (omega arith)
      ∙ number_at_back base₁ 60 4 (length ps.store) (simp length-sets (omega (arith, long))) store_fits

  -- the debug offset moves with the tail
  pub rebuilt_debug : debug_in l out ≡ rebuilt_place l ps s (debug_in l s)
  unfolding write_all
  rebuilt_debug =
      let m : rebuilt_place l ps s (debug_in l s) ≤ length s - tail_at l s + new_tail l ps s =
      place_most l s (rebuilding l ps s) (parted l ps s ad) (debug_in l s)
      (record { side = beside l s (debug_in l s) (λ z. (ad.debug z).0); tail = ad.debug }) in
      header-number debug_at wide (debug-at l)
      ∙ number_at_back base₂ debug_at wide (rebuilt_place l ps s (debug_in l s)) (simp length-sets (omega (arith, long, debug-at l)))
      (debug-fits l _ (omega (arith, rebuilt_limit l ps s ad f ok)))

  -- ---- the bytes of the tables and of storage: they are those of the packing

  region_byte : (q : ℕ) → q < length (new_region l ps s) → get_or out (small_at l s + q) 0 ≡ get_or (new_region l ps s) q 0
  unfolding rebuild
  region_byte q h =
      new_byte l s (rebuilding l ps s) (parted l ps s ad) q h

  own_byte : Lies out (small_at l s) (region n ps)
  unfolding padded
  own_byte q h = region_byte q (simp length-append (omega arith)) ∙ get_or-append (region n ps) _ 0 q h

  count_same : strings_in out ≡ n
  count_same = string_count-same l s out (counts_kept l ps s ad)

  pub bears : Bears l f ps out
  bears = record {
    overflows = rw count_same overflows_is;
    storage = storage_size_lem;
    bytes = rw (count_same, small_at-same l s out (counts_kept l ps s ad)) own_byte;
    limit = rw count_same region-fits;
    carries = rw count_same ok.carries;
    strings = rw count_same ok.strings;
  }

  known : (i : ℕ) → i < n → i < strings_in out
  known i h = rw count_same h

  -- ---- the places of the sections

  storage_is : storage_at l out ≡ small_at l s + n * 4 + ov * 8
  storage_is = read_storage l f ps out bears ∙ rw (count_same, small_at-same l s out (counts_kept l ps s ad))

  pub tail_is : tail_at l out ≡ new_tail l ps s
  unfolding tail_at padded
  tail_is = rw (storage_is, storage_size_lem) (simp (length-append, length-replicate) (omega (arith, length-region n ps)))

  -- zeros fill up to the tail
  pub rebuilt_padding : Zeros out (storage_at l out + storage_in out) (tail_at l out)
  unfolding padded
  rebuilt_padding p h k =
      let z : ℕ = up4 (small_at l s + length (region n ps)) - (small_at l s + length (region n ps)) in
      let len : length (region n ps) ≡ n * 4 + (ov * 8 + length ps.store) = length-region n ps in
      let m : length (new_region l ps s) ≡ length (region n ps) + z = simp (length-append, length-replicate) in
      let q : ℕ = p - small_at l s - length (region n ps) in
      let x : small_at l s + length (region n ps) ≤ p = omega (arith, storage_is, storage_size_lem) in
      let e : p ≡ small_at l s + (length (region n ps) + q) = omega arith in
      ap (λ (r : ℕ). get_or out r 0) e
      ∙ region_byte (length (region n ps) + q) (omega (arith, tail_is))
      ∙ get_d_past (region n ps) (replicate z 0) (length (region n ps)) q refl
      ∙ get_or-replicate z q 0 0 (omega (arith, tail_is))

  -- ---- storage and its strings

  -- byte p of storage is that of the packing
  rebuilt_stored : (p : ℕ) → p < length ps.store → get_or out (storage_at l out + p) 0 ≡ get_or ps.store p 0
  rebuilt_stored p h = read_stored l f ps out bears p h

  rebuilt_at : (i : ℕ) → i < n → (place_at l out i).at ≡ (ps.place i).at
  rebuilt_at i h = read_at l f ps out bears i (known i h)

  rebuilt_wide : (i : ℕ) → i < n → (place_at l out i).wide ≡ (f i).wide
  rebuilt_wide i h = read_wide l f ps out bears i (known i h)

  rebuilt_size : (i : ℕ) → i < n → size_of (place_at l out i) ≡ length (f i).bytes
  rebuilt_size i h = read_size l f ps out bears i (known i h)

  -- string i is the one given
  pub rebuilt_string : (i : ℕ) → i < n → string_of l out i ≡ f i
  rebuilt_string i h = read-string l f ps out bears i (known i h)

  -- an entry is full exactly where its place's offset is 0x800000 or more or its length 255 or more
  pub rebuilt_full : (i : ℕ) → i < n → is_full (small_in l out i) ≡ is_over (place_at l out i)
  rebuilt_full i h = read-full l f ps out bears i (known i h)

-- ---- the packing of each mode, read off the rebuilt image

module _ (m : Mode) (l : Layout) (f : ℕ → Str) (s : List ℕ) (ad : Admitted l s) (ok : Rebuilds l f (packed m f (strings_in s)) s) where
  abbrev qs : Packed
  qs = packed m f (strings_in s)

  abbrev image : List ℕ
  image = rebuild l qs s

  start-in : (i : ℕ) → i < strings_in s → start_in l image i ≡ start_of m f i
  start-in i h = rebuilt_at l qs s ad f ok i h

  end-in : (i : ℕ) → i < strings_in s → end_in l image i ≡ length (store_of m f (suc i))
  end-in i h = rw (start-in i h, rebuilt_size l qs s ad f ok i h) (sym (size_next m f i))

  next_in : (i : ℕ) → suc i < strings_in s → start_in l image (suc i)
      ≡ end_in l image i + gap_of m (place_at l image (suc i)).wide (end_in l image i)
  next_in i h =
      start-in (suc i) h ∙ start_is m f (suc i)
      ∙ rw (← end-in i (omega arith), ← rebuilt_wide l qs s ad f ok (suc i) h)

  gap_in : (i : ℕ) → suc i < strings_in s
      → Zeros image (storage_at l image + end_in l image i) (storage_at l image + start_in l image (suc i))
  gap_in i h p lo hi =
      let e = end-in i (omega arith) in
      let q : ℕ = p - storage_at l image - end_in l image i in
      let g : q < gap_of m (f (suc i)).wide (length (store_of m f (suc i))) = omega (arith, start-in (suc i) h, start_is m f (suc i)) in
      let r : p ≡ storage_at l image + (length (store_of m f (suc i)) + q) = omega arith in
      ap (λ (x : ℕ). get_or image x 0) r
      ∙ rebuilt_stored l qs s ad f ok (length (store_of m f (suc i)) + q)
      (omega (arith, start_is m f (suc i), size_room m f (suc i) (strings_in s) h))
      ∙ gap-zero m f (suc i) (strings_in s) q h g

  pub rebuilt_spaced : Spaced m l image
  rebuilt_spaced =
      let n : strings_in image ≡ strings_in s = count_same l qs s ad f ok in
      record {
        first = λ h. start-in 0 (omega (arith, n)) ∙ start_none m f;
        next = λ i h. next_in i (omega (arith, n));
        gap = λ i h. gap_in i (omega (arith, n));
        last = λ i e.
            let k : suc i ≡ strings_in s = e ∙ n in
            end-in i (omega arith) ∙ rw k (sym (storage_size_lem l qs s ad f ok));
      }
