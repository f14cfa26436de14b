-- The copy of a read that wraps round, as it is read under a region: with its shift, where the region
-- lies in the home box.
use Rattle.std.proofs.Common.{◌≡◌, refl, sym, ◌∙◌, ap, subst, arith, ℕ, zero, suc, Bool, true, false, ◌&&◌}
use Rattle.std.proofs.Common.{List, [], ◌∷◌, length, ℤ, pos, All, cond}
use Rattle.std.specs.Prelude.{int_rem}
use Rattle.std.specs.List.{list_all}
use Rattle.std.proofs.lemmas.Int.{ints}
use lib.Signed.{mag_rem}
use Rattle.zpl_region.specs.declared.dims.Dim.{Dim}
use Rattle.zpl_region.specs.declared.dims.Dim.TheVariants.{Flood, Range}
use Rattle.zpl_region.specs.declared.regions.Region.{Region}
use Rattle.zpl_region.specs.Dim.{dim_moved, extent}
use Rattle.zpl_region.specs.Ends.{has_none}
use Rattle.zpl_region.specs.Hull.{IsBoxed, each_hull_with, emptied}
use Rattle.zpl_region.proofs.HullLemmas.{hull_by}
use Rattle.zpl_region.proofs.HullWithLemmas.{with_by}
use Rattle.zpl_arrays.proofs.CheckLemmas.{has_none-moved}
use Rattle.zpl_arrays.proofs.ReferenceLemmas.{length-components}
use Rattle.zpl_region.specs.Region.{IsRegion, components, each, moved}
use Rattle.zpl_arrays.specs.Around.{copy_shift, copy_storage, dim_rest, each_rest, zeros}
use Rattle.zpl_arrays.specs.Reference.{is_reference, lies_in}
use Rattle.zpl_arrays.proofs.AroundLemmas.{home_by_copy}
use Rattle.zpl_meaning.specs.Term as term
use Rattle.node_form.specs.declared.tables.Tables.{Tables}
use Rattle.row_runs.specs.Straight.{Every}
use Rattle.flat_form.specs.Whole.{Whole}
use Rattle.print_runs.specs.of_zpl_lowering.Where.{Slotted, Stored, Where}
use Rattle.print_runs.specs.of_zpl_lowering.Slate as slate
use Rattle.print_runs.specs.of_zpl_lowering.Reference.{Reference, at_place, referred, shift_in, vector_over}
use Rattle.print_runs.specs.of_zpl_lowering.Hoist.{element_code}
use Rattle.print_runs.specs.of_lowering_runs.Stands.{IsCurrent, IsSound, IsStored}
use Rattle.print_runs.specs.of_array_runs.Gates.{IsThere, holds}
use Rattle.print_runs.specs.of_array_runs.Reads.{EachCovers, EachMatches, IsShift}
use Rattle.print_runs.proofs.of_array_runs.ElementLemmas.{element_part, holding_is, holds_is, ref_there}
use Rattle.print_runs.proofs.of_array_runs.PartLemmas.{IsPart}
use Rattle.print_runs.proofs.of_array_runs.StoredLemmas.{IsFound, found_array}
use Rattle.operator_runs.specs.Meant.{InSlot}
use Rattle.operator_runs.proofs.CurrentLemmas.{current_in}
use Rattle.operator_runs.proofs.WrapCopyLemmas.{shift_long}

-- ---- the copy's shift has three components, none past the rank, and none in a flood dimension

none_rest : (d : ℤ) (n : ℕ) → d ≡ pos 0 → int_rem d (pos n) ≡ pos 0
none_rest d n is = omega (arith, ints, mag_rem d (pos n))

zeros_level : (rank : ℕ) (v : List ℤ) → components rank (zeros v) ≡ zeros v
zeros_level rank [] = refl
zeros_level zero (x ∷ v) = ap (λ w. pos 0 ∷ w) (zeros_level zero v)
zeros_level (suc rank) (x ∷ v) = ap (λ w. pos 0 ∷ w) (zeros_level rank v)

rests_level : (rank : ℕ) (v : List ℤ) (dims : List Dim) → components rank v ≡ v
    → components rank (each_rest v dims) ≡ each_rest v dims
rests_level rank [] dims e = refl
rests_level zero (x ∷ v) [] e = refl
rests_level (suc rank) (x ∷ v) [] e = refl
rests_level zero (x ∷ v) (dim ∷ dims) e =
    let first : pos 0 ≡ x = cc in
    let rest : components zero v ≡ v = cc in
    ap (λ w. pos 0 ∷ w) (rests_level zero v dims rest)
    ∙ ap (λ y. y ∷ each_rest v dims) (sym (by dim (sym first)))
  where
    by : (dim : Dim) → x ≡ pos 0 → dim_rest x dim ≡ pos 0
    by Flood e = refl
    by (Range lo hi step align) e = none_rest x (extent lo hi) e
rests_level (suc rank) (x ∷ v) (dim ∷ dims) e =
    let rest : components rank v ≡ v = cc in
    ap (λ w. dim_rest x dim ∷ w) (rests_level rank v dims rest)

shift_level : (home : Region) (d : List ℤ) → components home.rank d ≡ d
    → components home.rank (copy_shift home d) ≡ copy_shift home d
shift_level home d e = by (has_none home)
  where
    by : (b : Bool) → components home.rank (cond b (zeros d) (each_rest d home.dims))
        ≡ cond b (zeros d) (each_rest d home.dims)
    by true = zeros_level home.rank d
    by false = rests_level home.rank d home.dims e

zeros_flat : (dims : List Dim) (v : List ℤ) → shift_in dims (zeros v) ≡ zeros v
zeros_flat dims [] = refl
zeros_flat [] (x ∷ v) = ap (λ w. pos 0 ∷ w) (zeros_flat [] v)
zeros_flat (Flood ∷ dims) (x ∷ v) = ap (λ w. pos 0 ∷ w) (zeros_flat dims v)
zeros_flat (Range lo hi step align ∷ dims) (x ∷ v) = ap (λ w. pos 0 ∷ w) (zeros_flat dims v)

rests_flat : (dims : List Dim) (v : List ℤ) → shift_in dims (each_rest v dims) ≡ each_rest v dims
rests_flat dims [] = refl
rests_flat [] (x ∷ v) = refl
rests_flat (Flood ∷ dims) (x ∷ v) = ap (λ w. pos 0 ∷ w) (rests_flat dims v)
rests_flat (Range lo hi step align ∷ dims) (x ∷ v) =
    ap (λ w. dim_rest x (Range lo hi step align) ∷ w) (rests_flat dims v)

shift_flat : (home : Region) (d : List ℤ)
    → shift_in home.dims (copy_shift home d) ≡ copy_shift home d
shift_flat home d = by (has_none home)
  where
    by : (b : Bool) → shift_in home.dims (cond b (zeros d) (each_rest d home.dims))
        ≡ cond b (zeros d) (each_rest d home.dims)
    by true = zeros_flat home.dims d
    by false = rests_flat home.dims d

shift_matching : (storage home : List Dim) (v : List ℤ) → EachMatches storage home
    → length home ≡ length storage → shift_in storage v ≡ shift_in home v
shift_matching storage home [] h l = refl
shift_matching [] [] (x ∷ v) h l = refl
shift_matching [] (q ∷ home) (x ∷ v) h l = absurd (omega (arith, l))
shift_matching (s ∷ storage) [] (x ∷ v) h l = absurd (omega (arith, l))
shift_matching (Flood ∷ storage) (Flood ∷ home) (x ∷ v) h l =
    ap (λ w. pos 0 ∷ w) (shift_matching storage home v h.1 (omega (arith, l)))
shift_matching (Flood ∷ storage) (Range lo hi step align ∷ home) (x ∷ v) h l = absurd h.0
shift_matching (Range lo hi step align ∷ storage) (Flood ∷ home) (x ∷ v) h l = absurd h.0
shift_matching (Range lo hi step align ∷ storage) (Range from to every base ∷ home) (x ∷ v) h l =
    ap (λ w. x ∷ w) (shift_matching storage home v h.1 (omega (arith, l)))

covers_through : (storage home region : List Dim) → EachMatches storage home
    → EachCovers home region → length home ≡ length storage → EachCovers storage region
covers_through [] [] [] h k l = tt
covers_through [] [] (q ∷ region) h k l = tt
covers_through [] (p ∷ home) region h k l = absurd (omega (arith, l))
covers_through (s ∷ storage) [] region h k l = absurd (omega (arith, l))
covers_through (s ∷ storage) (p ∷ home) [] h k l = tt
covers_through (Flood ∷ storage) (p ∷ home) (q ∷ region) h k l =
    (tt, covers_through storage home region h.1 k.1 (omega (arith, l)))
covers_through (Range lo hi step align ∷ storage) (Flood ∷ home) (q ∷ region) h k l = absurd h.0
covers_through (Range lo hi step align ∷ storage) (Range from to every base ∷ home) (Flood ∷ region)
    h k l = absurd k.0
covers_through (Range lo hi step align ∷ storage) (Range from to every base ∷ home)
    (Range bottom top stride rest ∷ region) h k l =
    (tt, covers_through storage home region h.1 k.1 (omega (arith, l)))

some_shift : (rank : ℕ) (v : List ℤ) → length v ≡ 3 → components rank v ≡ v → IsShift rank v
some_shift rank [] l e = tt
some_shift rank (x ∷ v) l e = (l, e)

vector_is : (storage : Region) (v : List ℤ) → length v ≡ 3
    → vector_over storage v ≡ shift_in storage.dims v
vector_is storage [] l = absurd (omega (arith, l))
vector_is storage (x ∷ v) l = refl

-- ---- the copy has the home box's flood dimensions

pub same_matching : (dims : List Dim) → EachMatches dims dims
same_matching [] = tt
same_matching (Flood ∷ dims) = (tt, same_matching dims)
same_matching (Range lo hi step align ∷ dims) = (tt, same_matching dims)

emptied_matching : (rank : ℕ) (dims : List Dim) → EachMatches (emptied rank dims) dims
emptied_matching zero dims = same_matching dims
emptied_matching (suc rank) [] = tt
emptied_matching (suc rank) (Flood ∷ dims) = (tt, emptied_matching rank dims)
emptied_matching (suc rank) (Range lo hi step align ∷ dims) = (tt, emptied_matching rank dims)

hulls_matching : (v : List ℤ) (dims : List Dim) → length v ≡ length dims
    → EachMatches (each_hull_with dims (each dim_moved v dims)) dims
hulls_matching v [] l = tt
hulls_matching [] (dim ∷ dims) l = absurd (omega (arith, l))
hulls_matching (d ∷ v) (Flood ∷ dims) l = (tt, hulls_matching v dims (omega (arith, l)))
hulls_matching (d ∷ v) (Range lo hi step align ∷ dims) l =
    (tt, hulls_matching v dims (omega (arith, l)))

pub copy_matching : (home : Region) (d : List ℤ) → length d ≡ 3 → length home.dims ≡ 3
    → EachMatches (copy_storage home d).dims home.dims
copy_matching home d long three = by (has_none home) refl
  where
    by : (b : Bool) → has_none home ≡ b → EachMatches (copy_storage home d).dims home.dims
    by true e =
        subst (λ (r : Region). EachMatches r.dims home.dims)
        (sym (ap (λ t. with_by t (has_none home) home (moved (copy_shift home d) home))
        (has_none-moved (copy_shift home d) home ∙ e) ∙ ap (λ t. hull_by t home) e))
        (emptied_matching home.rank home.dims)
    by false e =
        subst (λ (r : Region). EachMatches r.dims home.dims)
        (sym (ap (λ t. with_by t (has_none home) home (moved (copy_shift home d) home))
        (has_none-moved (copy_shift home d) home ∙ e)
        ∙ ap (λ t. with_by false t home (moved (copy_shift home d) home)) e))
        (hulls_matching (components home.rank (copy_shift home d)) home.dims
        (length-components home.rank (copy_shift home d) ∙ shift_long home d (long ∙ sym three)))

-- ---- the copy in a state

module _ (tables : Tables) (w : Where) (line : ℕ) (home : Region) (d : List ℤ) (is : IsRegion home)
    (three : length home.dims ≡ 3) (boxed : All IsBoxed home.dims) (long : length d ≡ 3)
    (level : components home.rank d ≡ d) (matching : EachMatches (copy_storage home d).dims home.dims)
    (copy : ℕ)
    (in_tables : IsStored tables (record { array = copy; storage = copy_storage home d }))
    (now : Whole) (sound : IsSound tables now) (at : Slotted) (region : Region)
    (i : InSlot now.slots at region) (ranks : region.rank ≡ home.rank)
    (floods : EachCovers home.dims region.dims) where
  abbrev stored : Stored
  stored = record { array = copy; storage = copy_storage home d }

  -- as if it were the only array of the program
  abbrev pub alone : Where
  alone = record w { numbers = record w.numbers { arrays = stored ∷ [] } }

  abbrev shift : List ℤ
  shift = copy_shift home d

  pub found_here : IsFound tables [] (stored ∷ []) now 0 stored
  found_here = found_array tables [] (stored ∷ []) now 0 stored sound.filled (in_tables, tt) refl

  abbrev pub here : IsCurrent now.slots region.rank at
  here = current_in now.slots at region i

  storage_three : length (copy_storage home d).dims ≡ 3
  storage_three =
      ap (λ (r : Region). length r.dims) (sym found_here.storage) ∙ found_here.three

  own_long : length shift ≡ 3
  own_long = shift_long home d (long ∙ sym three) ∙ three

  covers : EachCovers (copy_storage home d).dims region.dims
  covers =
      covers_through (copy_storage home d).dims home.dims region.dims matching floods
      (three ∙ sym storage_three)

  is_shift : IsShift region.rank shift
  is_shift =
      some_shift region.rank shift own_long
      (ap (λ k. components k shift) ranks ∙ shift_level home d level)

  pub same_vector : vector_over (copy_storage home d) shift ≡ shift
  same_vector =
      vector_is (copy_storage home d) shift own_long
      ∙ shift_matching (copy_storage home d).dims home.dims shift matching (three ∙ sym storage_three)
      ∙ shift_flat home d

  pub copy_part : IsPart tables [] alone line now region.rank at here
      (slate.Element at.slot 0 shift) (term.Element region 0 shift)
      (element_code copy (vector_over (copy_storage home d) shift))
  copy_part =
      element_part tables [] alone line now region.rank at here 0 stored refl found_here covers shift
      is_shift

  -- ---- its references

  abbrev one : Reference
  one = at_place at.slot copy

  abbrev two : Reference
  two = record { slot = at.slot; array = copy; shift = shift }

  one_is : holds tables now one ≡ lies_in region (copy_storage home d)
  one_is =
      holds_is tables [] alone line now region.rank at here 0 stored refl found_here covers [] tt
      ∙ ap (lies_in region) found_here.storage

  two_is : holds tables now two ≡ is_reference shift region (copy_storage home d)
  two_is =
      ap (λ v. holds tables now (record { slot = at.slot; array = copy; shift = v })) (sym same_vector)
      ∙ holds_is tables [] alone line now region.rank at here 0 stored refl found_here covers shift
      is_shift
      ∙ ap (is_reference shift region) found_here.storage

  right_true : (b : Bool) → (b && true) ≡ b
  right_true true = refl
  right_true false = refl

  pub both_there : Every (IsThere tables now) (one ∷ two ∷ [])
  both_there = (
    ref_there tables [] alone line now region.rank at here 0 stored refl found_here covers [] tt,
    (
      subst (λ (v : List ℤ). IsThere tables now
          (record { slot = at.slot; array = copy; shift = v })) same_vector
          (ref_there tables [] alone line now region.rank at here 0 stored refl found_here covers shift
          is_shift),
      tt,
    ),
  )

  -- they hold where the region lies in the home box
  pub both_hold : list_all (holds tables now) (one ∷ two ∷ []) ≡ lies_in region home
  both_hold =
      ap (λ b. holds tables now one && b) (right_true (holds tables now two))
      ∙ ap (λ b. b && holds tables now two) one_is
      ∙ ap (λ b. lies_in region (copy_storage home d) && b) two_is
      ∙ sym (home_by_copy home region d is i.is boxed ranks three i.three long)

  -- where they hold, what is asked of the part's own reference holds
  and_right : (a b : Bool) → (a && b) ≡ true → b ≡ true
  and_right true b e = e
  and_right false b e = absurd (let no : false ≡ true = e in cc)

  pub part_held : list_all (holds tables now) (one ∷ two ∷ []) ≡ true
      → list_all (holds tables now) (referred alone.numbers (slate.Element at.slot 0 shift)) ≡ true
  part_held e =
      holding_is tables [] alone line now region.rank at here 0 stored refl found_here covers shift
      is_shift
      ∙ ap (is_reference shift region) found_here.storage ∙ sym two_is
      ∙ (sym (right_true (holds tables now two)) ∙ and_right (holds tables now one) _ e)
