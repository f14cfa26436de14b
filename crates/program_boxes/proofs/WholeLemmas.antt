-- The stored arrays of lowered tables are the program's.
use Rattle.std.proofs.Common.{◌≡◌, ℕ, List, [], ◌∷◌, ◌++◌, map, Option, Some, None, refl, sym, ap, ap₂, ◌∙◌, subst}
use Rattle.std.specs.Prelude.{ℤ, Contains, find, ◌==◌}
use Rattle.zpl_region.specs.declared.regions.Region.{Region}
use Rattle.zpl_tree.specs.Grammar.{IsProgram}
use Rattle.zpl_tree.specs.Syntax.{Dir, Exprs, Program}
use Rattle.zpl_names.specs.Accepted.{IsFaultless}
use Rattle.zpl_names.specs.Declared.{Routine, routines_of, scope_of}
use Rattle.zpl_names.specs.Expansion.{ExpandedArray, expanded_arrays, expanded_copies}
use Rattle.zpl_names.specs.Ranks.{dir_rank}
use Rattle.zpl_names.proofs.ListLemmas.{Among, Contains-from_among}
use Rattle.zpl_binding.specs.Bound.{vectors_in}
use Rattle.zpl_binding.specs.Declarations.{known_of}
use Rattle.zpl_binding.specs.Outcome.{Gives, outcome_of, value_or}
use Rattle.zpl_binding.specs.Regions.{Known, no_region}
use Rattle.zpl_binding.specs.Settings.{Setting}
use Rattle.zpl_binding.specs.Storages.{Shaped, arrays_of, home_at, home_of, home_or}
use Rattle.zpl_binding.specs.Vectors.{three_components, vector_of}
use Rattle.zpl_meaning.specs.Given.{IsGiven}
use Rattle.zpl_meaning.specs.Regions.{vector_in}
use Rattle.zpl_meaning.specs.Visited.{first_setup}
use Rattle.zpl_meaning.proofs.VisitLemmas.{find_among}
use Rattle.grid_meaning.specs.Stored as layout
use Rattle.grid_meaning.specs.Stored.{arrangement_of}
use Rattle.zpl_lowering.specs.Lowered.{Lowered}
use Rattle.zpl_lowering.specs.Program.{lowered_program}
use Rattle.zpl_lowering.specs.Tables.{empty_tables, flat_tables, stored_rows}
use Rattle.lowered_flat.specs.of_lowering_fits.Declarations.{FitsProgram}
use Rattle.lowered_flat.specs.of_lowering_fits.Slates.{FitsVector}
use Rattle.lowered_flat.specs.of_lowering_fits.Storages.{AllStorages}
use Rattle.lowered_flat.proofs.of_lowering_fits.BracketLemmas.{LimitsAreTold}
use Rattle.lowered_flat.proofs.of_lowering_fits.DeclaredLemmas.{own_kinds, ranks_of}
use Rattle.lowered_flat.proofs.of_lowering_fits.PartLemmas.{AreRight}
use Rattle.lowered_flat.proofs.of_lowering_fits.ScopeLemmas.{dirs_by}
use Rattle.lowered_flat.proofs.of_lowering_fits.VectorLemmas.{vector_by}
use Rattle.lowered_flat.specs.Apart.{NamesStandApart}
use Rattle.zpl_claims.specs.Boxes.{boxes_of}
use Rattle.stored_boxes.specs.Declared.{declared_home}
use Rattle.stored_boxes.specs.Different.{AreDifferent}
use Rattle.stored_boxes.proofs.CountLemmas.{boxes_are}
use Rattle.program_boxes.specs.Own.{copied_of, number_in, storages_of}
use Rattle.program_boxes.proofs.BoxLemmas.{boxes_read}
use Rattle.program_boxes.proofs.ProgramLemmas.{HasProgram, program_has}

-- a home box was computed, whatever the offset
home_given : (known : Known) (found : Option Shaped) →
    ((array : Shaped) → found ≡ Some array → IsGiven Region (home_of known array.region)) →
    home_or known found ≡ Gives (value_or no_region (home_or known found))
home_given known None given = refl
home_given known (Some array) given =
    let is = given array refl in
    is.given ∙ ap (λ one. Gives (value_or no_region one)) (sym is.given)

module _ (program : Program) (settings : List Setting) (grammar : IsProgram program)
    (clean : IsFaultless program) (right : AreRight (first_setup program settings))
    (apart : NamesStandApart program) (different : AreDifferent (expanded_arrays program))
    (declared : FitsProgram program settings)
    (regions : (text : List ℕ) (default : Region) →
    IsGiven Region (outcome_of default (known_of program settings).regions text))
    (named : (text : List ℕ) (default : List ℤ) →
    IsGiven (List ℤ) (outcome_of default (known_of program settings).directions text))
    (vectors : (parts : Exprs) → Contains (vectors_in program) parts →
    IsGiven (List ℤ) (vector_of (known_of program settings).values parts)) where
  pub dirs : (routine : Routine) → Among (routines_of program) routine → (rank : ℕ) (dir : Dir) →
      dir_rank (scope_of program routine) dir ≡ Some rank →
      FitsVector rank (vector_in (known_of program settings) dir)
  dirs routine member rank dir is =
      let by = dirs_by (empty_tables (1 ∷ 0 ∷ 0 ∷ []) (lowered_program program settings)) program
      settings routine (own_kinds program grammar routine member)
      (λ text. regions text no_region)
      (ranks_of program settings grammar clean routine member) rank dir is in
      (vector_by rank (vector_in (known_of program settings) dir) by.0, by.1)

  pub all_code : HasProgram program settings grammar clean right apart different declared dirs
      (λ text. named text (three_components [])) vectors (lowered_program program settings)
  all_code =
      program_has program settings grammar clean right apart different declared dirs
      (λ text. named text (three_components [])) vectors

module _ (program : Program) (settings : List Setting) (grammar : IsProgram program)
    (clean : IsFaultless program) (right : AreRight (first_setup program settings))
    (apart : NamesStandApart program) (different : AreDifferent (expanded_arrays program))
    (declared : FitsProgram program settings) (limits : LimitsAreTold)
    (regions : (text : List ℕ) (default : Region) →
    IsGiven Region (outcome_of default (known_of program settings).regions text))
    (named : (text : List ℕ) (default : List ℤ) →
    IsGiven (List ℤ) (outcome_of default (known_of program settings).directions text))
    (vectors : (parts : Exprs) → Contains (vectors_in program) parts →
    IsGiven (List ℤ) (vector_of (known_of program settings).values parts))
    (homes : (array : Shaped) → Contains (arrays_of program) array →
    IsGiven Region (home_of (known_of program settings) array.region)) where
  abbrev known : Known
  known = known_of program settings

  abbrev lowered : Lowered
  lowered = lowered_program program settings

  all_homes : (at : ℕ) → home_at program known at ≡ Gives (declared_home program known at)
  all_homes at =
      home_given known (find (λ array. array.name.at == at) (arrays_of program))
      (λ array is. homes array (Contains-from_among (arrays_of program) array
      (find_among (λ array. array.name.at == at) (arrays_of program) array is)))

  pub all_boxes : AllStorages (lowered.arrays ++ (lowered.copies ++ lowered.later)) →
      (arrangement_of (flat_tables program settings)).boxes ≡
      boxes_of program (known_of program settings)
  all_boxes stored =
      let has = all_code program settings grammar clean right apart different declared regions
      named vectors in
      let number : ExpandedArray → ℕ = number_in (expanded_arrays program) in
      let all_are : lowered.arrays ++ (lowered.copies ++ lowered.later) ≡
      storages_of program known number (expanded_arrays program)
      ++ copied_of program known number (expanded_copies program) =
      ap₂ (λ xs ys. xs ++ ys) has.arrays (ap₂ (λ xs ys. xs ++ ys) has.copies has.later_are) in
      boxes_are program settings
      ∙ ap (λ storages. map layout.box_of (stored_rows 0 lowered.shifts storages)) all_are
      ∙ boxes_read program known different lowered.shifts has.shifts has.there has.fair limits
      all_homes has.fair_copies (subst AllStorages all_are stored)
