-- What is known, in programs without faults and with accepted settings, of a place where code stands:
-- names stand for what is of their kinds, and slots, masks and arrays are as the text says.
use Rattle.std.proofs.Common.{◌≡◌, ℕ, zero, suc, ◌-◌, false, ℤ, List, []}
use Rattle.std.proofs.Common.{◌∷◌, map, take, drop, length, Option, Some, None, refl, sym, ap}
use Rattle.std.proofs.Common.{◌∙◌, subst, arith, inl, inr, rules}
use Rattle.std.specs.Prelude.{slice_get, option_map, replicate, pos, ◌≤ℤ◌}
use Rattle.std.specs.Option.{IsSomeAnd}
use Rattle.std.specs.List.{AllByRecursion}
use Rattle.std.proofs.lemmas.List.Elements.{All-from_recursion}
use Rattle.std.specs.Str.{bytes_eq}
use Rattle.zpl_region.specs.declared.dims.Dim.{Dim}
use Rattle.zpl_region.specs.declared.dims.Dim.TheVariants as dim
use Rattle.zpl_region.specs.declared.regions.Region.{Region}
use Rattle.zpl_region.specs.Dim.{HasStep}
use Rattle.zpl_region.specs.Region.{IsRegion, components, padding}
use Rattle.zpl_region.proofs.TestLemmas.{is_within_limit_iff}
use Rattle.zpl_tree.specs.Syntax.{Name, Dir, Program}
use Rattle.zpl_tree.specs.Grammar.{IsProgram}
use Rattle.zpl_names.specs.Kinds.{Shape}
use Rattle.zpl_names.specs.Scope.{kind_of}
use Rattle.zpl_names.specs.Ranks.{array_shape, dir_rank, region_shape}
use Rattle.zpl_names.specs.Declared.{Routine, routines_of, scope_of}
use Rattle.zpl_names.specs.Accepted.{IsFaultless}
use Rattle.zpl_names.proofs.ListLemmas.{Among}
use Rattle.zpl_binding.specs.Outcome.{Outcome, Gives, Computed, value_or, outcome_or, outcome_of}
use Rattle.zpl_binding.specs.Vectors.{three_components}
use Rattle.zpl_binding.specs.Regions.{Known, no_region}
use Rattle.zpl_binding.specs.Settings.{Setting}
use Rattle.zpl_binding.specs.Declarations.{known_of}
use Rattle.zpl_meaning.specs.Given as mean
use Rattle.zpl_meaning.specs.Context.{Mask}
use Rattle.zpl_meaning.specs.Regions.{vector_in}
use Rattle.zpl_meaning.specs.Store.{ArrayAt, thing_of}
use Rattle.zpl_meaning.proofs.NamesLemmas.{routine_sound}
use Rattle.zpl_meaning.proofs.VisitLemmas.{Laws, find_among}
use Rattle.meaning_ranks.specs.Shaped.{AreFloods}
use Rattle.meaning_ranks.specs.Shaped as shaped
use Rattle.meaning_ranks.proofs.ShapeLemmas.{Fits}
use Rattle.meaning_ranks.proofs.RegionLemmas.{reach_fits}
use Rattle.node_form.specs.declared.tables.Tables.{Tables}
use Rattle.node_form.specs.Fits.{IsRank}
use Rattle.zpl_lowering.specs.Where.{Stored, Slotted, Where, is_flood, flood_of}
use Rattle.point_runs.specs.of_array_runs.Reads.{IsShift}
use Rattle.point_runs.specs.of_array_runs.Floods.{three_floods, IsReadableAs, IsReadableMaskAs}
use Rattle.served_places.specs.of_prefix_runs.Opens.{IsGiven, IsGivenRegion}
use Rattle.served_places.proofs.of_prefix_runs.ShapeLemmas.{is_region}
use Rattle.served_places.specs.Told.{IsMaskTold, IsStoredOf}
use Rattle.served_places.specs.Given.{KnowsGiven}
use Rattle.served_places.proofs.SlotLemmas.{declared_given}
use Rattle.lowered_flat.specs.of_lowering_fits.Reach.{IsGivenBox, IsStoredAs, FitNames}
use Rattle.lowered_flat.specs.of_lowering_fits.Lowerings.{AllRanks, region_rank}
use Rattle.lowered_flat.specs.of_lowering_fits.Storages.{AllBoxed, IsStorage, AllKept}
use Rattle.lowered_flat.proofs.of_lowering_fits.VectorLemmas.{VectorBy}
use Rattle.lowered_flat.proofs.of_lowering_fits.KnownLemmas.{IsThreeBy}
use Rattle.lowered_flat.proofs.of_lowering_fits.KeptLemmas.{Grows}
use Rattle.lowered_flat.proofs.of_lowering_fits.ScopeLemmas.{dirs_by, box_of, found_of}
use Rattle.lowered_flat.proofs.of_lowering_fits.RegionRankLemmas.{regions_ranked}
use Rattle.lowered_flat.proofs.of_lowering_fits.DeclaredLemmas.{own_kinds, ranks_of}

-- ---- flood dimensions

pub same_flood : (one : Dim) → is_flood one ≡ shaped.is_flood one
same_flood (dim.Range lo hi step align) = refl
same_flood dim.Flood = refl

padded_floods : (n : ℕ) → map is_flood (replicate n padding) ≡ three_floods n []
padded_floods zero = refl
padded_floods (suc n) = ap (λ bs. false ∷ bs) (padded_floods n)

floods_are : (n : ℕ) (shape : Shape) (dims : List Dim) → length dims ≡ n → AreFloods shape dims
    → drop (length shape) dims ≡ replicate (n - length shape) padding
    → map is_flood dims ≡ three_floods n shape
floods_are n [] dims long are padded =
    ap (map is_flood) (padded ∙ ap (λ k. replicate k padding) (omega arith)) ∙ padded_floods n
floods_are zero (flood ∷ shape) [] long are padded = absurd are
floods_are zero (flood ∷ shape) (one ∷ dims) long are padded = absurd (omega (arith, long))
floods_are (suc n) (flood ∷ shape) [] long are padded = absurd are
floods_are (suc n) (flood ∷ shape) (one ∷ dims) long are padded =
    ap (λ b. b ∷ map is_flood dims) (same_flood one ∙ are.0)
    ∙ ap (λ bs. flood ∷ bs)
    (floods_are n shape dims (omega (arith, long)) are.1
    (padded ∙ ap (λ k. replicate k padding) (less n (length shape))))
  where
    less : (a b : ℕ) → suc a - suc b ≡ a - b
    less a b = omega arith

taken_floods : (shape : Shape) (dims : List Dim) → AreFloods shape dims
    → map is_flood (take (length shape) dims) ≡ shape
taken_floods [] dims are = refl
taken_floods (flood ∷ shape) [] are = absurd are
taken_floods (flood ∷ shape) (one ∷ dims) are =
    ap (λ b. b ∷ map is_flood (take (length shape) dims)) (same_flood one ∙ are.0)
    ∙ ap (λ bs. flood ∷ bs) (taken_floods shape dims are.1)

flood_told : (shape : Shape) (region : Region) → region.rank ≡ length shape
    → AreFloods shape region.dims → flood_of region ≡ shape
flood_told shape region rank floods =
    ap (λ (k : ℕ). map is_flood (take k region.dims)) rank ∙ taken_floods shape region.dims floods

-- ---- arrays

pub kept_at : (arrays : List Stored) (place : ℕ) (stored : Stored) → AllKept arrays
    → slice_get arrays place ≡ Some stored → IsStorage stored.storage
kept_at [] place stored are e = cc
kept_at (one ∷ arrays) zero stored are e =
    let same : one ≡ stored = cc in subst (λ (s : Stored). IsStorage s.storage) same are.0
kept_at (one ∷ arrays) (suc place) stored are e = kept_at arrays place stored are.1 e

-- a storage is a region
boxed_steps : (dims : List Dim) → AllBoxed dims → AllByRecursion HasStep dims
boxed_steps [] h = tt
boxed_steps (dim.Flood ∷ dims) h = (tt, boxed_steps dims h.1)
boxed_steps (dim.Range lo hi step align ∷ dims) h =
    (subst (λ (s : ℤ). pos 1 ≤ℤ s) (sym h.0.0) (search rules), boxed_steps dims h.1)

pub storage_region : (storage : Region) → IsStorage storage → IsRegion storage
storage_region storage is =
    let steps = boxed_steps storage.dims is.boxed in
    is_region storage is.is_rank.0 is.is_rank.1 (steps, is.padded)
    ((is_within_limit_iff storage (All-from_recursion HasStep storage.dims steps)).1 is.limit)

stored_told : (shape : Option Shape) (stored : Stored) → IsStoredAs shape stored
    → IsStorage stored.storage → IsStoredOf shape (Some stored)
stored_told None stored like is = let no : ⊥ = none like.rank in absurd no
  where
    none : option_map length (let n : Option Shape = None in n) ≡ Some stored.storage.rank → ⊥
    none e = cc
stored_told (Some shape) stored like is =
    let rank : length shape ≡ stored.storage.rank = some like.rank in (
      floods_are 3 shape stored.storage.dims is.three (like.floods shape refl)
          (subst (λ (k : ℕ). drop k stored.storage.dims ≡ replicate (3 - k) padding) (sym rank)
          is.padded),
      sym rank,
      storage_region stored.storage is,
    )
  where
    some : {a b : ℕ} → Some a ≡ Some b → a ≡ b
    some e = cc

pub arrays_told : (w : Where) → FitNames w.scope w.environment w.numbers
    → AllKept w.numbers.arrays → (name : Name) (place : ℕ) (home : Region)
    → thing_of w.environment name.text ≡ Some (ArrayAt place home)
    → IsStoredOf (array_shape (kind_of w.scope name)) (slice_get w.numbers.arrays place)
arrays_told w names kept name place home e =
    by (slice_get w.numbers.arrays place) refl (names name place home e).has
  where
    by : (o : Option Stored) → slice_get w.numbers.arrays place ≡ o
        → IsSomeAnd o (IsStoredAs (array_shape (kind_of w.scope name)))
        → IsStoredOf (array_shape (kind_of w.scope name)) o
    by None e has = absurd has
    by (Some stored) e has =
        stored_told (array_shape (kind_of w.scope name)) stored has
        (kept_at w.numbers.arrays place stored kept e)

-- ---- masks, where there are more arrays

pub mask_grown : (few more : Where) → Grows few.numbers more.numbers → (o : Option Slotted)
    → IsMaskTold few o → IsMaskTold more o
mask_grown few more grows None h = tt
mask_grown few more grows (Some slotted) h = by slotted.mask h
  where
    found : (place : ℕ) (o : Option Stored) → slice_get few.numbers.arrays place ≡ o
        → IsReadableAs slotted [] o → IsReadableAs slotted [] (slice_get more.numbers.arrays place)
    found place None e r = absurd r
    found place (Some stored) e r =
        subst (λ (x : Option Stored). IsReadableAs slotted [] x)
        (sym (grows.arrays place stored e)) r

    by : (m : Option Mask) → IsReadableMaskAs few slotted m → IsReadableMaskAs more slotted m
    by None h = tt
    by (Some mask) h = found mask.array (slice_get few.numbers.arrays mask.array) refl h

-- ---- directions

components_same : (rank : ℕ) (v : List ℤ) → VectorBy rank v → components rank v ≡ v
components_same rank [] by = refl
components_same zero (d ∷ v) by =
    ap (λ (x : ℤ). x ∷ components 0 v) (sym by.1) ∙ ap (λ xs. d ∷ xs) (components_same 0 v by.2)
components_same (suc rank) (d ∷ v) by = ap (λ xs. d ∷ xs) (components_same rank v by.1)

shift_is : (rank : ℕ) (v : List ℤ) → IsThreeBy rank v → IsShift rank v
shift_is rank [] h = tt
shift_is rank (d ∷ v) h = (h.1, components_same rank (d ∷ v) h.0)

-- ---- what was computed before the run

pub given_is : {A : Type 0} (outcome : Outcome A) → mean.IsGiven A outcome → IsGiven outcome
given_is outcome h = subst (λ o. IsGiven o) (sym h.given) tt

rank_found : (all : List (Computed Region)) (one : Computed Region) → Among all one
    → AllRanks (map region_rank all) → IsRank (region_rank one)
rank_found [] one m are = absurd m
rank_found (first ∷ all) one (inl same) are =
    subst (λ (x : Computed Region). IsRank (region_rank x)) same are.0
rank_found (first ∷ all) one (inr m) are = rank_found all one m are.1

same_region : (a b : Region) → Gives a ≡ Gives b → a ≡ b
same_region a b e = cc

module _ (program : Program) (settings : List Setting) (laws : Laws program)
    (grammar : IsProgram program) (clean : IsFaultless program)
    (regions : (text : List ℕ) (default : Region)
    → mean.IsGiven Region (outcome_of default (known_of program settings).regions text))
    (directions : (text : List ℕ) (default : List ℤ)
    → mean.IsGiven (List ℤ) (outcome_of default (known_of program settings).directions text))
    (routine : Routine) (among : Among (routines_of program) routine) where
  abbrev known : Known
  known = known_of program settings

  pub region_given : (tables : Tables) (name : Name) (shape : Shape)
      → region_shape (kind_of (scope_of program routine) name) ≡ Some shape
      → (given : IsGivenRegion known name) × (flood_of given.region ≡ shape)
  region_given tables name shape e =
      let own = own_kinds program grammar routine among in
      let ranks = ranks_of program settings grammar clean routine among in
      let is : option_map length (region_shape (kind_of (scope_of program routine) name))
      ≡ Some (length shape) = ap (option_map length) e in
      let found = found_of tables program settings routine own (λ text. regions text no_region) ranks
      (length shape) name is in
      let given = regions name.text no_region in
      let outcome : found.0.outcome ≡ Gives given.value =
      sym (ap (outcome_or no_region) found.1) ∙ given.given in
      let box : IsGivenBox (length shape) (Gives given.value) =
      subst (IsGivenBox (length shape)) given.given
      (box_of tables program settings routine own (λ text. regions text no_region) ranks
      (length shape) name is) in
      let sound = routine_sound program.decls [] routine tt grammar among in
      let rank : IsRank given.value.rank =
      subst (λ (o : Outcome Region). IsRank (value_or no_region o).rank) outcome
      (rank_found known.regions found.0
      (find_among (λ (one : Computed Region). bytes_eq one.name name.text) known.regions found.0
      found.1) (regions_ranked program settings laws grammar clean)) in
      let fits : Fits (Some shape) (Gives given.value) =
      subst (λ (s : Option Shape). Fits s (Gives given.value)) e
      (subst (Fits (region_shape (kind_of (scope_of program routine) name))) given.given
      (reach_fits program settings clean routine sound name)) in
      let it : IsGivenRegion known name =
      declared_given known name found.0 given.value found.1 outcome
      (is_region given.value rank.0 rank.1 (box.0.steps, box.0.padded) box.1) box.0.three in (
        it,
        subst (λ (r : Region). flood_of r ≡ shape)
            (same_region given.value it.region (sym given.given ∙ it.named))
            (flood_told shape given.value fits.rank fits.floods),
      )

  -- Declared regions and directions, for the names in reach of each procedure.
  pub knows_given : (tables : Tables) → KnowsGiven known (scope_of program routine)
  knows_given tables = record {
    regions = region_given tables;
    directions = λ name rank e.
        given_is (outcome_of (three_components []) known.directions name.text)
        (directions name.text (three_components []));
  }

  three_given : (tables : Tables) (rank : ℕ) (dir : Dir)
      → dir_rank (scope_of program routine) dir ≡ Some rank → IsThreeBy rank (vector_in known dir)
  three_given tables rank dir e =
      dirs_by tables program settings routine (own_kinds program grammar routine among)
      (λ text. regions text no_region) (ranks_of program settings grammar clean routine among) rank
      dir e

  pub vectors_given : (tables : Tables) (rank : ℕ) (dir : Dir)
      → dir_rank (scope_of program routine) dir ≡ Some rank → IsShift rank (vector_in known dir)
  vectors_given tables rank dir e =
      shift_is rank (vector_in known dir) (three_given tables rank dir e)

  pub vectors_long : (tables : Tables) (rank : ℕ) (dir : Dir)
      → dir_rank (scope_of program routine) dir ≡ Some rank → length (vector_in known dir) ≡ 3
  vectors_long tables rank dir e = (three_given tables rank dir e).1
