-- An accepted patch of strings, in place or by a rebuild: what it promises.
use mathlib.Core.Path.{◌≡◌, refl, ap, sym, ◌∙◌}
use mathlib.Core.Bool.{Bool, true, false}
use mathlib.Core.Option.{some}
use mathlib.Core.List.{List}
use Prim.Native.Nat.{ℕ, ◌+◌, ◌-◌, ◌≤◌, ◌<◌}
use native.Mathlib.Omega.{arith}
use lib.ListN.{length}
use Rattle.bits.specs.Choice.{pick}
use Rattle.bits.proofs.ListLaws.{AllBelow}
use Rattle.format.specs.declared.Layout.{Layout}
use Rattle.format.specs.declared.Mode.{Mode}
use Rattle.format.proofs.MoveLaws.{moved-high}
use Rattle.footer.specs.Finalize.{size_limit, lengthed, sealed}
use Rattle.image.specs.Sections.{identifiers_in, strings_in, debug_in, tail_at}
use Rattle.image.specs.Strings.{Str, string_of}
use Rattle.image.specs.Kinds.{hash_in}
use Rattle.image.specs.Functions.{func_of}
use Rattle.image.specs.Admitted.{Admitted}
use Rattle.edits.specs.Packing.{Spaced}
use Rattle.edits.specs.Packing as packing
use Rattle.edits.specs.Rebuild.{rebuild}
use Rattle.edits.proofs.SlotLaws.{func_eq}
use Rattle.edits.proofs.ReadLaws.{functions_same, kind_count-same, identifier_count-same, string_count-same}
use Rattle.edits.proofs.FitLaws.{fields_use}
use Rattle.edits.proofs.PackLaws.{carries}
use Rattle.edits.proofs.RebuildLaws.{Rebuilds, rebuilt_place, length_rebuilt, counts_kept, rebuilt_identifier, rebuilt_rank}
use Rattle.edits.proofs.RebuildLaws.{rebuilt_hash, rebuilt_tail, rebuilt_func, rebuilt_body}
use Rattle.edits.proofs.StringLaws.{tail_is, rebuilt_debug, rebuilt_string, rebuilt_spaced}
use Rattle.edits.proofs.KeepLaws.{rebuilt_admitted}
use Rattle.string_edits.specs.Values.{Values}
use Rattle.string_packing.specs.Strings.{string_with, strings_with}
use Rattle.string_in_place.specs.Patch.{fits_all, in_place, rehashed, changed, finished, patched_strings, new_length, patch_fits}
use Rattle.patches.specs.Patches.{Target, to_values}
use Rattle.patches.specs.Promise.{string_after, hash_after, place_after, function_after, Unmoved, StringPlaces, Kept, Promise}
use Rattle.patches.proofs.CalmLaws.{Calm, spaced-after, final_calm, final_hash, final_sealed, kept_after}
use Rattle.patches.proofs.ValueLaws.{with_valid}
use Rattle.patches.proofs.InPlaceLaws.{AllFit, in_place_kept, in_place_unmoved, in_place_hash}
use Rattle.patches.proofs.HashLaws.{SameSlots, rehashed_calm, rehashed_hash}

-- a patch of strings of an admitted image that no check refuses
pub record StringsPassed (m : Mode) (l : Layout) (s : List ℕ) (v : Values) : Type 0 where
  pub admitted : Admitted l s
  pub bytes : (i : ℕ) → i < strings_in s → (value : List ℕ) → v i ≡ some value → AllBelow 256 value
  -- 11
  pub limit : new_length m l s v ≤ size_limit
  -- 12
  pub field : patch_fits m l s v ≡ true

-- x is s with its strings changed, but for their hashes
record Edited (m : Mode) (l : Layout) (s : List ℕ) (v : Values) (x : List ℕ) : Type 0 where
  kept : Kept l s x (to_values m v)
  hash : (r : ℕ) → r < identifiers_in s → hash_in l x r ≡ hash_in l s r

module _ (m : Mode) (l : Layout) (s : List ℕ) (v : Values) (ok : StringsPassed m l s v) where
  abbrev c : Target
  c = to_values m v

  ad : Admitted l s
  ad = ok.admitted

  -- ---- by a rebuild, where they do not all fit in place

  module _ (away : fits_all l s v ≡ false) where
    abbrev f : ℕ → Str
    f = string_with l s v

    abbrev ts : packing.Packed
    ts = strings_with m l s v

    abbrev t : List ℕ
    t = rebuild l ts s

    goes : (p : ℕ) → place_after l s c p ≡ rebuilt_place l ts s p
    goes p = rw away

    long : length t ≡ place_after l s c (length s)
    long = length_rebuilt l ts s ad ∙ sym (goes (length s) ∙ moved-high (tail_at l s) _ (length s) (omega (arith, ad.room)))

    pub rebuilds : Rebuilds l f ts s
    unfolding new_length patch_fits strings_with
    rebuilds = record {
      carries = carries m f (strings_in s);
      strings = with_valid l s v ad ok.bytes;
      limit = rw (long, goes (length s)) (rw away at ok.limit);
      field = fields_use l s (rebuilt_place l ts s) (rw away at ok.field);
    }

    same-string : (i : ℕ) → i < strings_in s → string_of l t i ≡ string_after i c (string_of l s i)
    unfolding string_with
    same-string i h = rebuilt_string l ts s ad f rebuilds i h

    pub rebuild_kept : Kept l s t c
    rebuild_kept =
        let counts = counts_kept l ts s ad in
        record {
          admitted = rebuilt_admitted l ts s ad f rebuilds;
          functions = functions_same l s t counts;
          kinds = kind_count-same l s t counts;
          identifiers = identifier_count-same l s t counts;
          strings = string_count-same l s t counts;
          string = same-string;
          body = rebuilt_body l ts s ad f rebuilds;
          flag = rebuilt_identifier l ts s ad;
          rank = rebuilt_rank l ts s ad;
          function = λ i h.
              rebuilt_func l ts s ad f rebuilds i h
              ∙ func_eq _ (function_after l s c i (func_of l s i))
              (record {
                large = refl;
                ptr = sym (goes (func_of l s i).ptr);
                begin = sym (goes (func_of l s i).begin);
                size = refl;
                info = sym (goes (func_of l s i).info);
              });
          debug = rebuilt_debug l ts s ad f rebuilds ∙ sym (goes (debug_in l s));
          long = long;
          tail = λ p h e b q.
              let there : place_after l s c p ≡ p - tail_at l s + (tail_at l t)
              = goes p ∙ moved-high (tail_at l s) _ p h ∙ rw (tail_is l ts s ad f rebuilds) in
              let n : length t ≡ length s - tail_at l s + (tail_at l t) = length_rebuilt l ts s ad ∙ rw (tail_is l ts s ad f rebuilds) in
              (omega (arith, there), omega (arith, there, n), rw (goes p) (rebuilt_tail l ts s ad p h q));
        }

    pub rebuild-spaced : Spaced m l t
    unfolding strings_with
    rebuild-spaced = rebuilt_spaced m l f s ad rebuilds

    pub rebuild_hash : (r : ℕ) → r < identifiers_in s → hash_in l t r ≡ hash_in l s r
    rebuild_hash = rebuilt_hash l ts s ad

  rebuilt : fits_all l s v ≡ false → Edited m l s v (rebuild l (strings_with m l s v) s)
  rebuilt away = record { kept = rebuild_kept away; hash = rebuild_hash away }

  -- ---- in place, where they do

  pub all_fit : fits_all l s v ≡ true → AllFit l s v
  all_fit fits = record { admitted = ad; fits = fits }

  overwritten : fits_all l s v ≡ true → Edited m l s v (in_place l s v s)
  overwritten fits = record { kept = in_place_kept l s v (all_fit fits) m; hash = in_place_hash l s v (all_fit fits) }

  -- ---- what ends either: hash slots, file length and footer

  module _ (x : List ℕ) (k : Edited m l s v x) where
    abbrev y : List ℕ
    y = rehashed l s v x

    like : SameSlots l s x
    like =
        let z = k.kept in
        record { before = ad; admitted = z.admitted; functions = z.functions; kinds = z.kinds; identifiers = z.identifiers }

    hashes_calm : Calm l x y
    hashes_calm = rehashed_calm l s v x like

    end_calm : Calm l y (sealed (lengthed y))
    end_calm = final_calm l y hashes_calm.admitted

    sealed-spaced : Spaced m l x → Spaced m l (sealed (lengthed y))
    sealed-spaced sp = spaced-after m l y (sealed (lengthed y)) end_calm (spaced-after m l x y hashes_calm sp)

    sealed_unmoved : Unmoved l s x → Unmoved l s (sealed (lengthed y))
    sealed_unmoved un i h =
        let g : i < strings_in x = rw k.kept.strings h in
        end_calm.storage.place i (rw hashes_calm.strings g) ∙ hashes_calm.storage.place i g ∙ un i h

    sealed_promise : Promise l s (sealed (lengthed y)) c
    sealed_promise = record {
      kept = kept_after l s y (sealed (lengthed y)) c (kept_after l s x y c k.kept hashes_calm) end_calm;
      hash = λ r h. final_hash l y hashes_calm.admitted r (rw (hashes_calm.identifiers, k.kept.identifiers) h)
          ∙ rehashed_hash l s v x like r ∙ ap (hash_after l r s c) (k.hash r h);
      sealed = final_sealed l y hashes_calm.admitted;
    }

  -- ---- both ways

  pub string_promise : Promise l s (patched_strings m l s v) c
  unfolding patched_strings finished changed
  string_promise = go (fits_all l s v) refl
    where
      go : (b : Bool) → fits_all l s v ≡ b
          → Promise l s (sealed (lengthed (rehashed l s v (pick b (in_place l s v s) (rebuild l (strings_with m l s v) s))))) c
      go true t = sealed_promise (in_place l s v s) (overwritten t)
      go false t = sealed_promise (rebuild l (strings_with m l s v) s) (rebuilt t)

  -- ---- where the strings stand

  pub string_places : StringPlaces l s (patched_strings m l s v) c
  unfolding patched_strings finished changed
  string_places = (
    λ away. rw away (sealed-spaced (rebuild l (strings_with m l s v) s) (rebuilt away) (rebuild-spaced away)),
    λ fits. rw fits (sealed_unmoved (in_place l s v s) (overwritten fits) (in_place_unmoved l s v (all_fit fits))),
  )
