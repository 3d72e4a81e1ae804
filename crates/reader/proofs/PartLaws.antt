-- What a reading answered: the number of a refusal, or a place that lies in the image.
use Rattle.std.specs.Prelude.{Err, Ok, Result}
use mathlib.Core.Path.{◌≡◌, sym, ◌∙◌, ap, subst⁻¹}
use mathlib.Core.List.{List}
use Prim.Native.Nat.{ℕ, ◌+◌, ◌≤◌, ◌<◌}
use native.Mathlib.Omega.{arith}
use lib.ListN.{length, get_or}
use Rattle.bits.proofs.TestLaws.{is_found, is-refused}
use Rattle.format.specs.declared.Layout.{Layout}
use Rattle.image.specs.Sections.{functions_in, strings_in, storage_at}
use Rattle.image.specs.Strings.{place_at, size_of}
use Rattle.image.specs.Functions.{func_of}
use Rattle.image.specs.Admitted.{Admitted}
use Rattle.image.proofs.AdmitLaws.{admitted}
use Rattle.image.proofs.PlaceLaws.{string-in}
use Rattle.function_table.specs.declared.Function.{Function}
use Rattle.function_table.specs.Functions.{as_function}
use Rattle.string_tables.specs.Strings.{as_place}
use Rattle.string_walk.specs.declared.Counts.{Counts}
use Rattle.string_walk.specs.declared.StringRecord.{StringRecord}
use Rattle.string_walk.specs.Records.{record_of}
use Rattle.string_walk.specs.Walk.{visits}
use Rattle.string_walk.proofs.VisitLaws.{small-visits, visits_most}
use Rattle.string_walk.proofs.WalkLaws.{count_in}
use Rattle.string_walk.specs.declared.Location.{Location}
use Rattle.reader.specs.Reading.{id_refusal, located, string_read, body_read}
use Rattle.reader.proofs.ReadingLaws.{read_is}

module _ (l : Layout) (s : List ℕ) (id : ℕ) where
  module _ (r : Result Location ℕ) (e : r ≡ string_read l s id) where
    pub string_out : (k : ℕ) → r ≡ Err k → (0 < id_refusal l s (strings_in s) id)
        × (id_refusal l s (strings_in s) id ≡ k)
    unfolding string_read
    string_out k f =
        let (h, q)
        =
        is-refused (id_refusal l s (strings_in s) id) (Ok (located l s id)) Err
        (Err k)
        (sym e ∙ f) (λ z. let y : ◌≡◌ {A = ℕ} 0 1 = cc in omega arith) in
        (h, cc)

    module _ (q : Location) (f : r ≡ Ok q) where
      pub string-at : (id_refusal l s (strings_in s) id ≡ 0) × (q.string ≡ record_of l s id) × (q.counts ≡ visits l s id)
      unfolding string_read
      string-at =
          let (z, g)
          =
          is_found (id_refusal l s (strings_in s) id) (Ok (located l s id)) Err
          (Ok q) (sym e ∙ f) (λ k z. let y : ◌≡◌ {A = ℕ} 0 1 = cc in omega arith) in
          let same : q ≡ located l s id = cc in
          (z, ap (λ (x : Location). x.string) same, ap (λ (x : Location). x.counts) same)

      -- 02, No. 9: "finding id n visits at most n + 1 small entries and no more overflow entries than small ones"
      pub string-visits : (q.counts.small ≡ id + 1) × (q.counts.over ≤ q.counts.small)
      string-visits = rw string-at.2 (small-visits l s id, visits_most l s id)

      module _ (bytes : (i : ℕ) → get_or s i 0 < 256) where
        admitted_at : Admitted l s × (id < strings_in s)
        admitted_at =
            let (z, h) = read_is l s (strings_in s) id string-at.0 in
            (admitted l s bytes z, h)

        pub string-inside : q.string.start + size_of (as_place q.string.place) ≤ length s
        unfolding record_of
        string-inside =
            let (a, h) = admitted_at in
            let w : storage_at l s + (place_at l s id).at + size_of (place_at l s id) ≤ length s
            = omega (arith, string-in a id h, a.room) in
            subst⁻¹ (λ (y : StringRecord). y.start + size_of (as_place y.place) ≤ length s) string-at.1 w

        -- so that no sum wraps
        pub string-small : q.string.place.count < 4294967296
        unfolding record_of
        string-small =
            let (a, h) = admitted_at in
            let w : (place_at l s id).count < 4294967296
            = omega (arith, string-in a id h, a.room, a.most, count_in (place_at l s id)) in
            subst⁻¹ (λ (y : StringRecord). y.place.count < 4294967296) string-at.1 w

  module _ (r : Result Function ℕ) (e : r ≡ body_read l s id) where
    pub body_out : (k : ℕ) → r ≡ Err k → (0 < id_refusal l s (functions_in s) id)
        × (id_refusal l s (functions_in s) id ≡ k)
    unfolding body_read
    body_out k f =
        let (h, q)
        =
        is-refused (id_refusal l s (functions_in s) id) (Ok (as_function (func_of l s id))) Err
        (Err k) (sym e ∙ f) (λ z. let y : ◌≡◌ {A = ℕ} 0 1 = cc in omega arith) in
        (h, cc)

    module _ (q : Function) (f : r ≡ Ok q) where
      pub body_at : (id_refusal l s (functions_in s) id ≡ 0) × (q ≡ as_function (func_of l s id))
      unfolding body_read
      body_at =
          let (z, g)
          =
          is_found (id_refusal l s (functions_in s) id) (Ok (as_function (func_of l s id))) Err
          (Ok q) (sym e ∙ f) (λ k z. let y : ◌≡◌ {A = ℕ} 0 1 = cc in omega arith) in
          (z, cc)

      module _ (bytes : (i : ℕ) → get_or s i 0 < 256) where
        pub body_inside : q.begin + q.size ≤ length s
        body_inside =
            let (z, h) = read_is l s (functions_in s) id body_at.0 in
            let a : Admitted l s = admitted l s bytes z in
            let w : (func_of l s id).begin + (func_of l s id).size ≤ length s = omega (arith, (a.body id h).1) in
            subst⁻¹ (λ (y : Function). y.begin + y.size ≤ length s) body_at.1 w
