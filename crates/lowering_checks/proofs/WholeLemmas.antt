-- All rows of a program are checked so.
use Rattle.std.proofs.Common.{◌≡◌, ℕ, zero, suc, ◌<◌, List, [], ◌∷◌, map, length, refl, arith}
use Rattle.std.specs.Prelude.{Some, None, slice_get}
use Rattle.zpl_region.specs.declared.regions.Region.{Region}
use Rattle.zpl_tree.specs.Grammar.{IsProgram}
use Rattle.zpl_tree.specs.Syntax.{Program}
use Rattle.zpl_names.specs.Accepted.{IsFaultless}
use Rattle.zpl_names.specs.Declared.{Routine, routines_of, scope_of}
use Rattle.zpl_names.specs.Scope.{Scope}
use Rattle.zpl_names.proofs.ListLemmas.{Among}
use Rattle.zpl_binding.specs.Settings.{Setting}
use Rattle.zpl_binding.specs.Declarations.{known_of}
use Rattle.zpl_binding.specs.Outcome.{outcome_of}
use Rattle.zpl_binding.specs.Regions.{Known}
use Rattle.zpl_meaning.specs.Given.{IsGiven}
use Rattle.zpl_meaning.specs.Visited.{first_setup}
use Rattle.node_form.specs.declared.instructions.Instr.TheVariants as instr
use Rattle.node_form.specs.declared.tables.Tables.{Tables}
use Rattle.row_runs.specs.Structured as piece
use Rattle.lowering_fits.specs.of_flat_form.Row as row
use Rattle.lowering_fits.specs.of_zpl_lowering.Bracket.{region_slot}
use Rattle.lowering_fits.specs.of_zpl_lowering.Where.{Next}
use Rattle.lowering_fits.specs.of_zpl_lowering.Lowered.{Lowered, coded}
use Rattle.lowering_fits.specs.of_zpl_lowering.Program.{lowered_program}
use Rattle.lowering_fits.specs.of_zpl_lowering.Tables.{empty_tables, rows_of}
use Rattle.lowering_fits.specs.Lowerings.{region_rank}
use Rattle.lowering_fits.specs.Reach.{FitsKnown}
use Rattle.lowering_fits.specs.Slates.{SlotsAt}
use Rattle.lowering_fits.proofs.ArrayLemmas.{whole_laid}
use Rattle.lowering_fits.proofs.DeclaredLemmas.{among_fit}
use Rattle.lowering_fits.proofs.PartLemmas.{AreRight}
use Rattle.lowering_checks.specs.Walked.{AreChecked, laid}
use Rattle.lowering_checks.proofs.WalkLemmas.{checked_both}
use Rattle.lowering_checks.proofs.HeldLemmas.{HasRegions}
use Rattle.lowering_checks.proofs.CallLemmas.{program_checks}

slot_below : (slots : List ℕ) (slot rank : ℕ) → slice_get slots slot ≡ Some rank →
    slot < length slots
slot_below [] slot rank is = let no : ⊥ = cc in absurd no
slot_below (one ∷ slots) zero rank is = omega arith
slot_below (one ∷ slots) (suc slot) rank is =
    let below = slot_below slots slot rank is in omega (arith, below)

-- tables whose slots are those of the declared regions
abbrev all_slots : Known → Lowered
all_slots known = record (coded (piece.Rows [])) { slots = map region_rank known.regions }

abbrev only : Known → Tables
only known = empty_tables (1 ∷ 0 ∷ 0 ∷ []) (all_slots known)

abbrev start : Next
start =
    record { scalars = 0; slots = 0; arrays = 0; copies = 0; later = 0; temps = 0 }

only_slots : (known : Known) → SlotsAt (only known) 0 (map region_rank known.regions)
only_slots known =
    (whole_laid (1 ∷ 0 ∷ 0 ∷ []) start (all_slots known)
    (record {
      scalars = refl;
      slots = refl;
      arrays = refl;
      no_copies = refl;
      later = refl;
      temps = refl;
    })).slots_at

pub has_regions : (known : Known) (scope : Scope) → FitsKnown (only known) known scope →
    HasRegions (length (map region_rank known.regions)) known scope
has_regions known scope fits rank name is =
    slot_below (map region_rank known.regions) (region_slot known name) rank (fits.slots rank name is)

pub rows_checked : (program : Program) (settings : List Setting) → IsProgram program →
    IsFaultless program → AreRight (first_setup program settings) →
    ((routine : Routine) → Among (routines_of program) routine →
    FitsKnown (only (known_of program settings)) (known_of program settings)
    (scope_of program routine)) →
    AreChecked None (rows_of (lowered_program program settings))
rows_checked program settings grammar clean right fits =
    let known : Known = known_of program settings in
    let code = (lowered_program program settings).code in
    let checks = program_checks program settings grammar clean right
    (length (map region_rank known.regions))
    (λ routine member. has_regions known (scope_of program routine) (fits routine member))
    (omega arith) in
    checked_both None (laid 0 code) (row.Plain instr.End ∷ []) (checks 0 None) (tt, tt)

pub known_below : (program : Program) (settings : List Setting) → IsProgram program →
    IsFaultless program →
    ((text : List ℕ) (default : Region) →
    IsGiven Region
    (outcome_of default (known_of program settings).regions text)) →
    (routine : Routine) → Among (routines_of program) routine →
    FitsKnown (only (known_of program settings)) (known_of program settings)
    (scope_of program routine)
known_below program settings grammar clean given routine member =
    among_fit program settings grammar clean given (only (known_of program settings)) routine member
    (only_slots (known_of program settings))
