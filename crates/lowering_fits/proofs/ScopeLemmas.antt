-- What was computed before the run fits the names in reach of a procedure.
use Rattle.std.proofs.Common.{◌≡◌, ℕ, ℤ, List, [], map, length, refl, subst}
use Rattle.std.specs.Prelude.{find, option_map, Option, Some, None}
use Rattle.std.specs.Option.{option_or}
use Rattle.std.specs.Str.{bytes_eq}
use Rattle.zpl_region.specs.declared.regions.Region.{Region}
use Rattle.meaning_ranks.specs.of_zpl_tree.Syntax.{Name, Dir, NamedDir, Vector, Program}
use Rattle.meaning_ranks.specs.of_zpl_names.Kinds as kind
use Rattle.meaning_ranks.specs.of_zpl_names.Kinds.{Kind, Shape, Rank}
use Rattle.meaning_ranks.specs.of_zpl_names.Scope.{kind_in, kind_of}
use Rattle.meaning_ranks.specs.of_zpl_names.Ranks.{dir_rank, direction_rank, region_shape}
use Rattle.meaning_ranks.specs.of_zpl_names.Declared.{Routine, globals_of, scope_of}
use Rattle.meaning_ranks.specs.of_zpl_binding.Outcome.{Outcome, Gives, Fails, value_or, Computed, outcome_or, outcome_of}
use Rattle.meaning_ranks.specs.of_zpl_binding.Vectors.{three_components, vector_of}
use Rattle.meaning_ranks.specs.of_zpl_binding.Regions.{Known, no_region, region_named}
use Rattle.meaning_ranks.specs.of_zpl_binding.Settings.{Setting}
use Rattle.meaning_ranks.specs.of_zpl_binding.Declarations.{known_of}
use Rattle.meaning_ranks.specs.of_zpl_meaning.Regions.{vector_in}
use Rattle.meaning_ranks.specs.of_zpl_meaning.Given.{IsGiven}
use Rattle.stored_shifts.specs.of_node_form.declared.tables.Tables.{Tables}
use Rattle.stored_shifts.specs.of_node_form.Fits.{HasSlot}
use Rattle.lower_numbers.specs.of_zpl_lowering.Bracket.{region_slot}
use Rattle.lowering_fits.specs.Slates.{SlotsAt, FitsVector}
use Rattle.lowering_fits.specs.Reach.{IsGivenBox, FitsKnown}
use Rattle.lowering_fits.specs.Lowerings.{region_rank}
use Rattle.lowering_fits.proofs.VectorLemmas.{vector_by}
use Rattle.lowering_fits.proofs.KnownLemmas.{AreOf, IsThreeBy, IsOut, vector_out, IsDirected, directed_stays, globals_directed}
use Rattle.lowering_fits.proofs.RegionLemmas.{known_good, given_box, has_slot, IsEntered, entered_stays, globals_entered}

-- a procedure's own names are variables
abbrev pub IsVariableKind : Option Kind → Type 0
IsVariableKind None = Unit {0}
IsVariableKind (Some (kind.Scalar base)) = Unit {0}
IsVariableKind (Some (kind.Array base shape)) = Unit {0}
IsVariableKind (Some (kind.Config base)) = ⊥
IsVariableKind (Some (kind.Constant base)) = ⊥
IsVariableKind (Some (kind.Region shape)) = ⊥
IsVariableKind (Some (kind.Direction rank)) = ⊥
IsVariableKind (Some (kind.Procedure signature)) = ⊥

-- ---- directions

directed_vector : (rank : ℕ) (one : Option Kind) (found : Option (Computed (List ℤ))) →
    AreOf IsDirected directed_stays one found → direction_rank one ≡ Some rank →
    IsThreeBy rank (value_or (three_components []) (outcome_or (three_components []) found))
directed_vector rank None found are is = let no : ⊥ = cc in absurd no
directed_vector rank (Some (kind.Direction other)) None are is = absurd are
directed_vector rank (Some (kind.Direction other)) (Some found) are is =
    subst (λ r. IsOut r found.outcome) is are
directed_vector rank (Some (kind.Config base)) found are is = let no : ⊥ = cc in absurd no
directed_vector rank (Some (kind.Constant base)) found are is = let no : ⊥ = cc in absurd no
directed_vector rank (Some (kind.Region shape)) found are is = let no : ⊥ = cc in absurd no
directed_vector rank (Some (kind.Scalar base)) found are is = let no : ⊥ = cc in absurd no
directed_vector rank (Some (kind.Array base shape)) found are is = let no : ⊥ = cc in absurd no
directed_vector rank (Some (kind.Procedure signature)) found are is =
    let no : ⊥ = cc in absurd no

global_direction : (rank : ℕ) (own globals : Option Kind) → IsVariableKind own →
    direction_rank (option_or own globals) ≡ Some rank → direction_rank globals ≡ Some rank
global_direction rank None globals own is = is
global_direction rank (Some (kind.Scalar base)) globals own is = let no : ⊥ = cc in absurd no
global_direction rank (Some (kind.Array base shape)) globals own is =
    let no : ⊥ = cc in absurd no
global_direction rank (Some (kind.Config base)) globals own is = absurd own
global_direction rank (Some (kind.Constant base)) globals own is = absurd own
global_direction rank (Some (kind.Region shape)) globals own is = absurd own
global_direction rank (Some (kind.Direction other)) globals own is = absurd own
global_direction rank (Some (kind.Procedure signature)) globals own is = absurd own

-- ---- regions

global_region : (rank : ℕ) (own globals : Option Kind) → IsVariableKind own →
    option_map length (region_shape (option_or own globals)) ≡ Some rank →
    option_map length (region_shape globals) ≡ Some rank
global_region rank None globals own is = is
global_region rank (Some (kind.Scalar base)) globals own is = let no : ⊥ = cc in absurd no
global_region rank (Some (kind.Array base shape)) globals own is = let no : ⊥ = cc in absurd no
global_region rank (Some (kind.Config base)) globals own is = absurd own
global_region rank (Some (kind.Constant base)) globals own is = absurd own
global_region rank (Some (kind.Region shape)) globals own is = absurd own
global_region rank (Some (kind.Direction other)) globals own is = absurd own
global_region rank (Some (kind.Procedure signature)) globals own is = absurd own

-- a region's name has an entry
entered_region : (rank : ℕ) (one : Option Kind) (found : Option (Computed Region)) →
    AreOf IsEntered entered_stays one found →
    option_map length (region_shape one) ≡ Some rank →
    (it : Computed Region) × (found ≡ Some it)
entered_region rank None found are is = let no : ⊥ = cc in absurd no
entered_region rank (Some (kind.Region shape)) None are is = absurd are
entered_region rank (Some (kind.Region shape)) (Some found) are is = (found, refl)
entered_region rank (Some (kind.Direction other)) found are is = let no : ⊥ = cc in absurd no
entered_region rank (Some (kind.Config base)) found are is = let no : ⊥ = cc in absurd no
entered_region rank (Some (kind.Constant base)) found are is = let no : ⊥ = cc in absurd no
entered_region rank (Some (kind.Scalar base)) found are is = let no : ⊥ = cc in absurd no
entered_region rank (Some (kind.Array base shape)) found are is = let no : ⊥ = cc in absurd no
entered_region rank (Some (kind.Procedure signature)) found are is =
    let no : ⊥ = cc in absurd no

abbrev pub HasRankOf : ℕ → Outcome Region → Type 0
HasRankOf rank (Gives region) = region.rank ≡ rank
HasRankOf rank (Fails fault) = Unit {0}

module _ (tables : Tables) (program : Program) (settings : List Setting) (routine : Routine)
    (own : (text : List ℕ) → IsVariableKind (kind_in routine.own text))
    (given : (text : List ℕ) →
    IsGiven Region (outcome_of no_region (known_of program settings).regions text))
    (ranked : (name : Name) (rank : ℕ) →
    option_map length (region_shape (kind_of (scope_of program routine) name)) ≡ Some rank →
    HasRankOf rank (region_named (known_of program settings) name)) where
  pub dirs_by : (rank : ℕ) (dir : Dir) → dir_rank (scope_of program routine) dir ≡ Some rank →
      IsThreeBy rank (vector_in (known_of program settings) dir)
  dirs_by rank (NamedDir name) is =
      let known : Known = known_of program settings in
      directed_vector rank (kind_in (globals_of program) name.text)
      (find (λ one. bytes_eq one.name name.text) known.directions)
      (globals_directed program settings name.text)
      (global_direction rank (kind_in routine.own name.text)
      (kind_in (globals_of program) name.text) (own name.text) is)
  dirs_by rank (Vector parts) is =
      let known : Known = known_of program settings in
      subst (λ r. IsOut r (vector_of known.values parts)) is (vector_out known.values parts)

  dirs_fit : (rank : ℕ) (dir : Dir) → dir_rank (scope_of program routine) dir ≡ Some rank →
      FitsVector rank (vector_in (known_of program settings) dir)
  dirs_fit rank dir is =
      let by = dirs_by rank dir is in
      (vector_by rank (vector_in (known_of program settings) dir) by.0, by.1)

  pub box_of : (rank : ℕ) (name : Name) →
      option_map length (region_shape (kind_of (scope_of program routine) name)) ≡ Some rank →
      IsGivenBox rank (region_named (known_of program settings) name)
  box_of rank name is =
      let known : Known = known_of program settings in
      let one = given name.text in
      given_box rank known.regions name.text (known_good program settings) one.value one.given
      (subst (HasRankOf rank) one.given (ranked name rank is))

  rank_of_found : (rank : ℕ) (name : Name) (one : Computed Region) →
      find (λ one. bytes_eq one.name name.text) (known_of program settings).regions ≡ Some one →
      IsGivenBox rank (region_named (known_of program settings) name) → region_rank one ≡ rank
  rank_of_found rank name one found box =
      by one.outcome
      (subst (λ o. IsGivenBox rank (outcome_or no_region o)) found box)
    where
      by : (outcome : Outcome Region) → IsGivenBox rank outcome →
          (value_or no_region outcome).rank ≡ rank
      by (Gives region) is = is.0.same
      by (Fails fault) is = absurd is

  pub found_of : (rank : ℕ) (name : Name) →
      option_map length (region_shape (kind_of (scope_of program routine) name)) ≡ Some rank →
      (it : Computed Region)
      × (find (λ one. bytes_eq one.name name.text) (known_of program settings).regions ≡ Some it)
  found_of rank name is =
      entered_region rank (kind_in (globals_of program) name.text)
      (find (λ one. bytes_eq one.name name.text) (known_of program settings).regions)
      (globals_entered program settings name.text)
      (global_region rank (kind_in routine.own name.text)
      (kind_in (globals_of program) name.text) (own name.text) is)

  slot_of : SlotsAt tables 0 (map region_rank (known_of program settings).regions) →
      (rank : ℕ) (name : Name) →
      option_map length (region_shape (kind_of (scope_of program routine) name)) ≡ Some rank →
      HasSlot tables rank (region_slot (known_of program settings) name)
  slot_of slots rank name is =
      let known : Known = known_of program settings in
      let there = found_of rank name is in
      subst (λ r. HasSlot tables r (region_slot known name))
      (rank_of_found rank name there.0 there.1 (box_of rank name is))
      (has_slot tables known name there.0 slots there.1)

  pub known_fits : SlotsAt tables 0 (map region_rank (known_of program settings).regions) →
      FitsKnown tables (known_of program settings) (scope_of program routine)
  known_fits slots = record { dirs = dirs_fit; slots = slot_of slots; boxes = box_of }
