-- All code of a program fits the tables that it is laid out in.
use Rattle.std.proofs.Common.{◌≡◌, ℕ, suc, ◌+◌, ◌≤◌, false, ℤ, List, [], ◌∷◌, ◌++◌, map, length, refl, sym, ap, ◌∙◌, subst, arith, true≢false}
use Rattle.std.specs.Prelude.{Option, Some, None}
use Rattle.std.specs.Str.{bytes_eq}
use Rattle.zpl_region.specs.declared.regions.Region.{Region}
use Rattle.stored_shifts.specs.of_zpl_arrays.Array.{Array}
use Rattle.meaning_ranks.specs.of_zpl_tree.Grammar.{IsProgram}
use Rattle.meaning_ranks.specs.of_zpl_tree.Syntax.{Bracket, NoBracket, Bracketed, Base, Name, Define, VarDef, Decl, Config, Constant, Regions, Directions, Vars, Defined, Param, Program}
use Rattle.meaning_ranks.specs.of_zpl_names.Scope.{Entry, Scope}
use Rattle.meaning_ranks.specs.of_zpl_names.Shapes.{no_shapes, unknown_shapes}
use Rattle.meaning_ranks.specs.of_zpl_names.Accepted.{IsFaultless}
use Rattle.meaning_ranks.specs.of_zpl_names.Declared.{Routine, IsProcedureOf, own_entries, declaring, head_scope, formals_of, signature_of, routines_of, entry_of, with_decl, with_variables as with_vars}
use Rattle.meaning_ranks.specs.of_zpl_names.Reached.{longest_chain, Entered}
use Rattle.meaning_ranks.specs.of_zpl_names.Sites.{routine_sites}
use Rattle.meaning_ranks.proofs.of_zpl_names.ListLemmas.{Among, Contains-from_among}
use Rattle.meaning_ranks.specs.of_zpl_binding.Outcome.{Outcome, Gives, Fails, Computed, value_or, outcome_of}
use Rattle.meaning_ranks.specs.of_zpl_binding.Regions.{no_region}
use Rattle.meaning_ranks.specs.of_zpl_binding.Settings.{Setting}
use Rattle.meaning_ranks.specs.of_zpl_binding.Declarations.{known_of}
use Rattle.meaning_ranks.specs.of_zpl_binding.Storages.{borders_of}
use Rattle.meaning_ranks.specs.of_zpl_meaning.Given.{IsGiven}
use Rattle.meaning_ranks.specs.of_zpl_meaning.Context.{no_currents, Setup}
use Rattle.meaning_ranks.specs.of_zpl_meaning.Program.{first_frame}
use Rattle.meaning_ranks.specs.of_zpl_meaning.Variables.{Frame, storage_box, zero_array, with_name, with_names, with_variables, with_values, with_declared, with_declarations, empty_frame}
use Rattle.meaning_ranks.specs.of_zpl_meaning.Visited.{first_setup}
use Rattle.meaning_ranks.proofs.of_zpl_meaning.NamesLemmas.{IsSound, routine_sound}
use Rattle.meaning_ranks.proofs.of_zpl_meaning.VisitLemmas.{Laws, find_among}
use Rattle.meaning_ranks.proofs.RegionLemmas.{names_once}
use Rattle.stored_shifts.specs.of_node_form.declared.tables.Tables.{Tables}
use Rattle.stored_shifts.specs.of_node_form.Fits.{IsRank}
use Rattle.lower_numbers.specs.of_row_runs.Structured as piece
use Rattle.lower_numbers.specs.of_zpl_lowering.Where.{Next}
use Rattle.lower_numbers.specs.of_zpl_lowering.Lowered.{behind}
use Rattle.lower_numbers.specs.of_zpl_lowering.Statement.{Calling}
use Rattle.lower_numbers.specs.of_zpl_lowering.Program.{Entry as CallEntry, body_code, reads_round, in_call, routine_code, call_code, region_rows, scalars_from, arrays_from, global_numbers, globals_made, first_next, entry_calling, entry_code, lowered_program}
use Rattle.lower_numbers.specs.of_zpl_lowering.Tables.{empty_tables}
use Rattle.lowering_fits.specs.Inline.{FitRows}
use Rattle.lowering_fits.specs.Slates.{SlotsAt, StoragesAt, AllBelow, AllStored, FitNumbers, FitsBox}
use Rattle.lowering_fits.specs.Storages.{IsStorage, AllKept}
use Rattle.lowering_fits.specs.Declarations.{FitsDeclared, FitAllDeclared, FitGlobals, FitsDecl, FitDecls, FitsProgram}
use Rattle.lowering_fits.specs.Lowerings.{AllRanks, IsLaidOut, FitsLowered, answering, region_rank}
use Rattle.lowering_fits.specs.Standing.{CallsFit}
use Rattle.lowering_fits.specs.Whole.{FitsVars, AllVars, IsNumbered}
use Rattle.lowering_fits.proofs.PartLemmas.{AreRight}
use Rattle.lowering_fits.proofs.BracketLemmas.{LimitsAreTold, box_region}
use Rattle.lowering_fits.proofs.PhaseLemmas.{laid_front, laid_behind, both_fit}
use Rattle.lowering_fits.proofs.RegionLemmas.{IsGoodRegion, AreGood, no_region_good, known_good}
use Rattle.lowering_fits.proofs.RegionRankLemmas.{regions_ranked}
use Rattle.lowering_fits.proofs.DeclaredLemmas.{among_fit}
use Rattle.lowering_fits.proofs.BodyLemmas.{body_fits}
use Rattle.lowering_fits.proofs.SoundLemmas.{body_sound_at}
use Rattle.lowering_fits.proofs.TallyLemmas.{reads_are}
use Rattle.lowering_fits.proofs.KeptLemmas.{AreGivenOf}
use Rattle.lowering_fits.proofs.MadeWholeLemmas.{entry_is_bare, entry_has_no_result, entry_is_there, entry_visited, entry_more}
use Rattle.lowering_fits.proofs.NumberedLemmas.{any_vars}
use Rattle.lowering_fits.proofs.ArrayLemmas.{whole_laid}
use Rattle.lowering_fits.proofs.GlobalsLemmas.{globals_fit}
use Rattle.lowering_fits.proofs.CallsFitLemmas.{body_stands, in_call_laid, out_of_call_fits, calls_fit}

-- ---- declared regions

region_fits : LimitsAreTold → (one : Computed Region) → IsGoodRegion one.outcome →
    IsRank (region_rank one) → FitsBox (value_or no_region one.outcome)
region_fits limits one good rank = by one.outcome good rank
  where
    by : (outcome : Outcome Region) → IsGoodRegion outcome →
        IsRank (value_or no_region outcome).rank → FitsBox (value_or no_region outcome)
    by (Gives region) good rank = box_region limits region.rank region rank good.0 good.1
    by (Fails fault) good rank =
        box_region limits no_region.rank no_region rank no_region_good.0 no_region_good.1

regions_fit : LimitsAreTold → (tables : Tables) (slot : ℕ) (all : List (Computed Region)) →
    AreGood all → AllRanks (map region_rank all) → SlotsAt tables slot (map region_rank all) →
    FitRows tables 0 (region_rows slot all)
regions_fit limits tables slot [] good ranks slots = tt
regions_fit limits tables slot (one ∷ rest) good ranks slots = (
  (
    record {
      rank = region_rank one;
      fit = (slots.0, (region_fits limits one good.0 ranks.0).0, refl);
    },
    (region_fits limits one good.0 ranks.0).1,
  ),
  regions_fit limits tables (suc slot) rest good.1 ranks.1 slots.1,
)

-- ---- numbers of global variables

scalars_below : (most k : ℕ) (values : List ℤ) → k + length values ≤ most →
    AllBelow most (scalars_from k values)
scalars_below most k [] less = tt
scalars_below most k (value ∷ values) less =
    (omega (arith, less), scalars_below most (suc k) values (omega (arith, less)))

arrays_stored : (tables : Tables) (k : ℕ) (arrays : List Array) →
    StoragesAt tables k (map (λ array. array.storage) arrays) →
    AllStored tables (arrays_from k arrays)
arrays_stored tables k [] are = tt
arrays_stored tables k (array ∷ arrays) are = (are.0, arrays_stored tables (suc k) arrays are.1)

-- their storages
abbrev pub AllBoxes : List Array → Type 0
AllBoxes [] = Unit {0}
AllBoxes (array ∷ arrays) = IsStorage array.storage × AllBoxes arrays

pub boxes_kept : (k : ℕ) (arrays : List Array) → AllBoxes arrays → AllKept (arrays_from k arrays)
boxes_kept k [] are = tt
boxes_kept k (array ∷ arrays) are = (are.0, boxes_kept (suc k) arrays are.1)

one_box : (xs : List Array) (array : Array) → AllBoxes xs → IsStorage array.storage →
    AllBoxes (xs ++ array ∷ [])
one_box [] array are is = (is, tt)
one_box (x ∷ xs) array are is = (are.0, one_box xs array are.1 is)

module _ (setup : Setup) where
  names_boxed : (names : List Name) (shape : Bracket) (scope : Scope) (frame : Frame) →
      FitsDeclared setup scope shape → AllBoxes frame.store.arrays →
      AllBoxes (with_names setup.known setup.borders shape frame names).store.arrays
  names_boxed [] shape scope frame fits are = are
  names_boxed (name ∷ names) NoBracket scope frame fits are =
      names_boxed names NoBracket scope
      (with_name setup.known setup.borders NoBracket frame name) fits are
  names_boxed (name ∷ names) (Bracketed inner) scope frame fits are =
      names_boxed names (Bracketed inner) scope
      (with_name setup.known setup.borders (Bracketed inner) frame name) fits
      (one_box frame.store.arrays (zero_array (storage_box setup.known setup.borders inner)) are
      fits.3)

  vars_boxed : (vars : List VarDef) (frame : Frame) (xs : List Entry) → FitGlobals setup xs vars →
      AllBoxes frame.store.arrays →
      AllBoxes (with_variables setup.known setup.borders frame vars).store.arrays
  vars_boxed [] frame xs fits are = are
  vars_boxed (var ∷ vars) frame xs fits are =
      vars_boxed vars (with_names setup.known setup.borders var.shape frame var.names)
      (with_vars xs var) fits.1
      (names_boxed var.names var.shape (declaring [] xs) frame fits.0 are)

  values_boxed : (defines : List Define) (frame : Frame) → AllBoxes frame.store.arrays →
      AllBoxes (with_values setup.known frame defines).store.arrays
  values_boxed [] frame are = are
  values_boxed (define ∷ defines) frame are = values_boxed defines _ are

  decl_boxed : (decl : Decl) (frame : Frame) (xs : List Entry) → FitsDecl setup xs decl →
      AllBoxes frame.store.arrays →
      AllBoxes (with_declared setup.known setup.borders frame decl).store.arrays
  decl_boxed (Config defines) frame xs fits are = values_boxed defines frame are
  decl_boxed (Constant defines) frame xs fits are = values_boxed defines frame are
  decl_boxed (Regions regions) frame xs fits are = are
  decl_boxed (Directions directions) frame xs fits are = are
  decl_boxed (Vars vars) frame xs fits are = vars_boxed vars frame xs fits are
  decl_boxed (Defined procedure) frame xs fits are = are

  pub decls_boxed : (decls : List Decl) (frame : Frame) (xs : List Entry) → FitDecls setup xs decls →
      AllBoxes frame.store.arrays →
      AllBoxes (with_declarations setup.known setup.borders frame decls).store.arrays
  decls_boxed [] frame xs fits are = are
  decls_boxed (decl ∷ decls) frame xs fits are =
      decls_boxed decls (with_declared setup.known setup.borders frame decl) (with_decl xs decl)
      fits.1 (decl_boxed decl frame xs fits.0 are)

-- local variables
pub vars_fit : (setup : Setup) (scope : Scope) (vars : List VarDef) → FitAllDeclared setup scope vars →
    AllVars setup vars
vars_fit setup scope [] fits = tt
vars_fit setup scope (var ∷ vars) fits =
    (by var.shape fits.0, vars_fit setup scope vars fits.1)
  where
    by : (shape : Bracket) → FitsDeclared setup scope shape → FitsVars setup shape
    by NoBracket fits = tt
    by (Bracketed inner) fits = fits.3

-- ---- the program

module _ (program : Program) (settings : List Setting) (laws : Laws program)
    (grammar : IsProgram program) (clean : IsFaultless program) (limits : LimitsAreTold)
    (right : AreRight (first_setup program settings))
    (given : (text : List ℕ) (default : Region) →
    IsGiven Region (outcome_of default (known_of program settings).regions text))
    (declared : FitsProgram program settings) where
  abbrev setup : Setup
  setup = first_setup program settings

  abbrev frame : Frame
  frame = first_frame program (known_of program settings) (borders_of program)

  ranked : AllRanks (map region_rank (known_of program settings).regions)
  ranked = regions_ranked program settings laws grammar clean

  locals_fit : (routine : Routine) → Among (routines_of program) routine → (earlier : List Entry) →
      routine.own ≡ own_entries earlier routine.procedure →
      FitAllDeclared setup (head_scope earlier routine.procedure) routine.procedure.locals
  locals_fit routine member earlier own =
      declared.locals routine (Contains-from_among (routines_of program) routine member) earlier own

  vars_are : (routine : Routine) → Among (routines_of program) routine →
      AllVars setup routine.procedure.locals
  vars_are routine member =
      let sound : IsSound routine = routine_sound program.decls [] routine tt grammar member in
      vars_fit setup (head_scope sound.earlier routine.procedure) routine.procedure.locals
      (locals_fit routine member sound.earlier sound.own)

  pub all_calls_fit : (tables : Tables) →
      SlotsAt tables 0 (map region_rank (known_of program settings).regions) → (depth : ℕ) →
      CallsFit tables setup (call_code setup depth)
  all_calls_fit tables slots =
      calls_fit program settings laws grammar clean limits right tables
      (λ routine member. among_fit program settings grammar clean given tables routine member slots)
      locals_fit vars_are

  globals_made_fit : (tables : Tables) →
      IsLaidOut tables (first_next program) (globals_made (known_of program settings) frame) →
      FitsLowered tables (globals_made (known_of program settings) frame)
  globals_made_fit tables laid = record {
    code_fits = regions_fit limits tables 0 (known_of program settings).regions
        (known_good program settings) ranked laid.slots_at;
    slot_ranks = ranked;
    temp_ranks = tt;
    small_shifts = tt;
  }

  entry_fits : (tables : Tables) (next : Next) (depth : ℕ) (entry : Routine) →
      entry_of program ≡ Some entry →
      IsLaidOut tables (first_next program) (globals_made (known_of program settings) frame) →
      IsLaidOut tables next (entry_code setup (suc depth) (entry_calling program frame) next) →
      FitsLowered tables (entry_code setup (suc depth) (entry_calling program frame) next)
  entry_fits tables next depth entry is globals laid =
      let slots = globals.slots_at in
      let known = λ (routine : Routine) (member : Among (routines_of program) routine).
      among_fit program settings grammar clean given tables routine member slots in
      let member : Among (routines_of program) entry =
      find_among (λ routine. bytes_eq routine.procedure.name.text program.name.text)
      (routines_of program) entry is in
      let sound : IsSound entry = routine_sound program.decls [] entry tt grammar member in
      let calling : Calling = entry_calling program frame in
      let how : CallEntry = record { clears = false; line = 0 } in
      let reads = reads_round program entry in
      let after : Next = in_call reads next in
      let below = globals.below in
      let boxes = decls_boxed setup program.decls empty_frame [] declared.globals tt in
      let numbers : FitNumbers tables (global_numbers frame) = record {
        scalars = scalars_below tables.scalars 0 frame.store.scalars below;
        arrays = arrays_stored tables 0 frame.store.arrays globals.arrays_at;
      } in
      let kept : AllKept (global_numbers frame).arrays = boxes_kept 0 frame.store.arrays boxes in
      let of : IsProcedureOf (signature_of sound.earlier entry.procedure) entry =
      record { earlier = sound.earlier; own = sound.own; signed = refl } in
      let bare = entry_is_bare program clean entry is in
      let none = entry_has_no_result program clean entry is in
      let givens : AreGivenOf (global_numbers frame)
      (formals_of (head_scope sound.earlier entry.procedure) entry.procedure.params) [] =
      subst (λ (ps : List Param). AreGivenOf (global_numbers frame)
      (formals_of (head_scope sound.earlier entry.procedure) ps) []) (sym bare) tt in
      let body = body_code setup how (call_code setup depth) entry calling after in
      let made = entry_more program settings grammar clean right (λ storage. Unit {0})
      (λ routine environment numbers. Unit {0})
      (λ routine environment numbers inside place stored is. tt)
      (λ routine environment numbers inside reach rank at name shift place home there is. tt)
      (λ routine member. any_vars setup routine.procedure.locals)
      (λ routine environment numbers inside w name actuals is callee named scalar target line entry
      next. tt) depth entry is after tt in
      let visited = entry_visited program settings grammar clean right (λ storage. Unit {0})
      (λ routine environment numbers. Unit {0})
      (λ routine environment numbers inside place stored is. tt)
      (λ routine environment numbers inside reach rank at name shift place home there is. tt)
      (λ routine member. any_vars setup routine.procedure.locals)
      (λ routine environment numbers inside w name actuals is callee named scalar target line entry
      next. tt) entry is after in
      let many : length body.copies ≡ reads =
      made.copies ∙ sym (reads_are (routine_sites program unknown_shapes entry)) in
      let stands = body_stands program settings laws grammar clean limits right tables known
      locals_fit vars_are entry member (signature_of sound.earlier entry.procedure) of how calling
      after no_currents givens (globals_fit program (names_once program clean) setup declared.globals)
      (record { one = tt; two = tt; three = tt })
      (λ told. absurd (true≢false
      (sym told ∙ ap (λ (result : Option Base). answering result) none))) in
      let sound_body = body_sound_at program laws.none laws.under program.name.text no_shapes entry
      Entered is sound.grammar.2 in
      subst (λ (found : Option Routine).
      IsLaidOut tables next (routine_code setup false (call_code setup depth) found calling next) →
      FitsLowered tables (routine_code setup false (call_code setup depth) found calling next))
      (sym is)
      (λ laid'. out_of_call_fits program settings laws grammar clean limits right tables known
      locals_fit vars_are body
      (body_fits tables setup (call_code setup depth)
      (record { limits = limits; right = right; calls = all_calls_fit tables slots depth })
      (answering entry.procedure.result) how entry calling after 0 no_currents None tt numbers kept
      (vars_are entry member) stands visited sound_body
      (in_call_laid program settings laws grammar clean limits right tables known locals_fit
      vars_are next reads body many laid'))) laid

  pub program_fits : (grid : List ℕ) →
      IsNumbered (first_next program) (lowered_program program settings) →
      FitsLowered (empty_tables grid (lowered_program program settings))
      (lowered_program program settings)
  unfolding longest_chain
  program_fits grid numbered =
      let lowered = lowered_program program settings in
      let tables : Tables = empty_tables grid lowered in
      let laid = whole_laid grid (first_next program) lowered numbered in
      let made = globals_made (known_of program settings) frame in
      let next = behind (first_next program) made in
      let code = entry_code setup 32 (entry_calling program frame) next in
      let whole = piece.Then made.code code.code in
      let front = laid_front tables (first_next program) whole made code laid in
      let found = entry_is_there program clean in
      both_fit tables made code (globals_made_fit tables front)
      (entry_fits tables next 31 found.0 found.1 front
      (laid_behind tables (first_next program) whole made code laid))
