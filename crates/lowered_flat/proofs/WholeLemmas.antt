-- All storages of a lowered program are boxes within the limit.
use Rattle.std.proofs.Common.{◌≡◌, ℕ, false, List, [], ◌++◌, length, sym, ap, ◌∙◌, subst, arith}
use Rattle.std.specs.Prelude.{Contains, Some, slice_get}
use Rattle.std.specs.List.{sum_by}
use Rattle.std.specs.Str.{bytes_eq}
use Rattle.zpl_region.specs.declared.regions.Region.{Region}
use Rattle.zpl_arrays.specs.Around.{copy_storage}
use Rattle.zpl_tree.specs.Grammar.{IsProgram}
use Rattle.zpl_tree.specs.Syntax.{Name, Around, Exprs, Dir, Param, Program}
use Rattle.zpl_names.specs.Kinds as kind
use Rattle.zpl_names.specs.Kinds.{Rank, Signature}
use Rattle.zpl_names.specs.Scope.{Scope, kind_of}
use Rattle.zpl_names.specs.Shapes.{unknown_shapes}
use Rattle.zpl_names.specs.Accepted.{IsFaultless}
use Rattle.zpl_names.specs.Declared.{Routine, entry_of, head_scope, routine_named, routines_of, scope_of}
use Rattle.zpl_names.specs.Expansion.{expanded_of, formal_names, instances_of}
use Rattle.zpl_names.specs.Reached.{Itself, calls_in}
use Rattle.zpl_names.specs.Sites.{CallSite, Reach, AtExpr, routine_sites}
use Rattle.zpl_names.proofs.ListLemmas.{Among, Contains-from_among}
use Rattle.zpl_binding.specs.Bound.{IsAcceptedWith}
use Rattle.zpl_binding.specs.Declarations.{known_of}
use Rattle.zpl_binding.specs.Formals.{IsCalled}
use Rattle.zpl_binding.specs.Regions.{Known}
use Rattle.zpl_binding.specs.Settings.{Setting}
use Rattle.zpl_binding.specs.Storages.{Shaped, arrays_of, borders_of, home_of, storage_of}
use Rattle.lowering_fits.specs.of_zpl_meaning.Calls.{formals_in}
use Rattle.lowering_fits.specs.of_zpl_meaning.Context.{Setup}
use Rattle.lowering_fits.specs.of_zpl_meaning.Given.{IsGiven}
use Rattle.lowering_fits.specs.of_zpl_meaning.Program.{first_frame}
use Rattle.lowering_fits.specs.of_zpl_meaning.Proper.{AreProperActuals}
use Rattle.lowering_fits.specs.of_zpl_meaning.Regions.{vector_in}
use Rattle.lowering_fits.specs.of_zpl_meaning.Store.{ArrayAt, Environment, thing_of}
use Rattle.lowering_fits.specs.of_zpl_meaning.Variables.{Frame, empty_frame}
use Rattle.lowering_fits.specs.of_zpl_meaning.Visited.{first_setup}
use Rattle.lowering_fits.proofs.of_zpl_meaning.NamesLemmas.{IsSound, routine_sound}
use Rattle.lowering_fits.proofs.of_zpl_meaning.VisitLemmas.{find_among}
use Rattle.lowering_fits.specs.of_zpl_lowering.Program.{Entry, Framed, entry_calling, lowered_program}
use Rattle.lowering_fits.specs.of_zpl_lowering.Statement.{Calling}
use Rattle.lowering_fits.specs.of_zpl_lowering.Where.{Next, Numbers, Stored, Where}
use Rattle.lowering_fits.specs.Declarations.{FitsProgram}
use Rattle.lowering_fits.specs.Reach.{place_at}
use Rattle.lowering_fits.specs.Standing.{calling_of}
use Rattle.lowering_fits.specs.Storages.{AllKept, AllStorages, IsStorage}
use Rattle.lowering_fits.specs.Whole.{body_frames, given_frames, local_frames}
use Rattle.lowering_fits.proofs.BracketLemmas.{LimitsAreTold}
use Rattle.lowering_fits.proofs.MadeAssignLemmas.{IsCalling}
use Rattle.lowering_fits.proofs.MadeCallLemmas.{IsCallee, IsGood, callee_of}
use Rattle.lowering_fits.proofs.MadeFrameLemmas.{AreFine, FineVars, as_many}
use Rattle.lowering_fits.proofs.MadeProgramLemmas.{GivensBelow, HasNames, body_below, givens_below, givens_fine, givens_have, locals_have}
use Rattle.lowering_fits.proofs.MadeWholeLemmas.{entry_is_bare, globals_are_below, whole_made}
use Rattle.lowering_fits.proofs.NamedLemmas.{AllBelow, OptBelow, found_below, there_is}
use Rattle.lowering_fits.proofs.PartLemmas.{AreRight}
use Rattle.lowering_fits.proofs.ProgramFitLemmas.{AllBoxes, decls_boxed}
use Rattle.lowered_flat.specs.Apart.{NamesStandApart}
use Rattle.lowered_flat.proofs.CalledLemmas.{AreGiven}
use Rattle.lowered_flat.proofs.GivenLemmas.{givens_told}
use Rattle.lowered_flat.proofs.ToldLemmas.{AreTold, call_there, frame_told, handed_told, reach_more, read_kept, read_there}
use Rattle.lowered_flat.proofs.StorageLemmas.{arrays_many, boxes_fine, boxes_kept, givens_kept, kept_at, locals_kept, storages_both, vars_fine}

some_routine : (one other : Routine) → Some one ≡ Some other → one ≡ other
some_routine one other e = cc

-- ---- the program

module _ (program : Program) (settings : List Setting) (grammar : IsProgram program)
    (clean : IsFaultless program) (limits : LimitsAreTold)
    (right : AreRight (first_setup program settings))
    (accepted : IsAcceptedWith program settings)
    (storages : (array : Shaped) → Contains (arrays_of program) array →
    IsGiven Region (storage_of (known_of program settings) (borders_of program) array.region))
    (homes : (array : Shaped) → Contains (arrays_of program) array →
    IsGiven Region (home_of (known_of program settings) array.region))
    (apart : NamesStandApart program) (declared : FitsProgram program settings) where
  abbrev known : Known
  known = known_of program settings

  abbrev setup : Setup
  setup = first_setup program settings

  abbrev frame : Frame
  frame = first_frame program known (borders_of program)

  -- a call of a procedure: its names stand for arrays that they may stand for, with numbers, and
  -- its storages are boxes within the limit
  record IsInside (routine : Routine) (environment : Environment) (numbers : Numbers) : Type 0
    where
      member : Among (routines_of program) routine
      text : List ℕ
      named : routine_named program text ≡ Some routine
      called : IsCalled program text
      kept : AllKept numbers.arrays
      below : AllBelow (length numbers.arrays) environment
      behind : AllBelow (length numbers.arrays) (record { names = setup.globals })
      told : AreTold program known text environment

  locals_of : (routine : Routine) → Among (routines_of program) routine →
      FineVars IsStorage setup routine.procedure.locals
  locals_of routine member =
      let sound : IsSound routine = routine_sound program.decls [] routine tt grammar member in
      let scope = head_scope sound.earlier routine.procedure in
      vars_fine setup scope routine.procedure.locals
      (declared.locals routine (Contains-from_among (routines_of program) routine member)
      sound.earlier sound.own)

  inside_of : (text : List ℕ) (routine : Routine) → routine_named program text ≡ Some routine →
      IsCalled program text → (entry : Entry) (calling : Calling) (next : Next) →
      AreGiven program known text (formal_names routine.procedure.params) calling.actuals →
      AreFine IsStorage calling.actuals → AllKept calling.numbers.arrays →
      GivensBelow (length calling.numbers.arrays) calling.actuals →
      AllBelow (length calling.numbers.arrays) (record { names = setup.globals }) →
      (let last = (body_frames setup entry routine calling next).frame in
      IsInside routine (record { names = last.names ++ setup.globals }) last.numbers)
  inside_of text routine named called entry calling next given fine kept below behind =
      let member : Among (routines_of program) routine =
      find_among (λ routine. bytes_eq routine.procedure.name.text text) (routines_of program)
      routine named in
      let sound : IsSound routine = routine_sound program.decls [] routine tt grammar member in
      let vars = routine.procedure.locals in
      let first : Framed = record { names = []; numbers = calling.numbers } in
      let params = formal_names routine.procedure.params in
      let taking = given_frames entry.line params calling.actuals first next in
      let last = local_frames setup entry vars taking.frame taking.next in
      let few = length calling.numbers.arrays in
      let has : HasNames few last.frame =
      locals_have few setup entry vars taking.frame taking.next
      (givens_have few entry.line params calling.actuals first next
      (record { more = omega arith; below = tt }) below) in
      record {
        member = member;
        text = text;
        named = named;
        called = called;
        kept = locals_kept setup entry vars taking.frame taking.next (locals_of routine member)
            (givens_kept entry.line params calling.actuals first next fine kept);
        below = body_below few (length last.frame.numbers.arrays) last.frame.names setup.globals
            has.more has.below behind;
        behind = body_below few (length last.frame.numbers.arrays) [] setup.globals has.more tt
            behind;
        told = frame_told program settings grammar clean limits accepted storages homes apart
            declared text routine named entry calling next given;
      }

  -- ---- calls

  number_of : (arrays : List Stored) (environment : Environment) (name : List ℕ) (place : ℕ)
      (home : Region) → AllBelow (length arrays) environment →
      thing_of environment name ≡ Some (ArrayAt place home) →
      (stored : Stored) × (slice_get arrays place ≡ Some stored)
  number_of arrays environment name place home below is =
      there_is arrays place (subst (OptBelow (length arrays)) is (below name))

  callee_inside : (routine : Routine) (environment : Environment) (numbers : Numbers) →
      IsInside routine environment numbers → (w : Where) (name : Name) (actuals : Exprs) →
      IsCalling setup (scope_of program routine) environment numbers (IsGood program routine) w name
      actuals → (signature : Signature) (callee : IsCallee program name signature)
      (scalar target line : ℕ) (entry : Entry) (next : Next) →
      formals_in (kind_of w.scope name) ≡ signature.formals →
      (let last = (body_frames setup entry callee.routine
      (calling_of w name actuals scalar target line) next).frame in
      IsInside callee.routine (record { names = last.names ++ setup.globals }) last.numbers)
  callee_inside routine environment numbers inside w name actuals is signature callee scalar target
      line entry next formals_are =
      let formals = formals_in (kind_of w.scope name) in
      let call : CallSite = record { name = name; actuals = actuals; shapes = is.reach.shapes } in
      let there : Contains (calls_in program inside.text) call =
      call_there program inside.text routine inside.named is.reach is.role name actuals is.site in
      let numbers_here = is.within.numbers_are in
      let names_here = is.within.names_are in
      let kept : AllKept w.numbers.arrays =
      subst (λ (n : Numbers). AllKept n.arrays) (sym numbers_here) inside.kept in
      let behind : AllBelow (length w.numbers.arrays) (record { names = setup.globals }) =
      subst (λ (n : Numbers). AllBelow (length n.arrays) (record { names = setup.globals }))
      (sym numbers_here) inside.behind in
      let below : AllBelow (length w.numbers.arrays) w.environment =
      subst (λ (n : Numbers). AllBelow (length n.arrays) w.environment) (sym numbers_here)
      (subst (λ (e : Environment). AllBelow (length numbers.arrays) e) (sym names_here)
      inside.below) in
      let told : AreTold program known inside.text w.environment =
      subst (AreTold program known inside.text) (sym names_here) inside.told in
      let params = formal_names callee.routine.procedure.params in
      let same : length params ≡ length formals =
      as_many (head_scope callee.of.earlier callee.routine.procedure)
      callee.routine.procedure.params
      ∙ ap length (sym (formals_are
      ∙ ap (λ (s : Signature). s.formals) callee.of.signed)) in
      let proper : AreProperActuals (place_at w is.result is.currents is.edge) formals actuals =
      subst (λ found. AreProperActuals (place_at w is.result is.currents is.edge)
      (formals_in found) actuals) (sym is.proper.called) is.proper.taken in
      inside_of name.text callee.routine callee.named
      (reach_more program program.name.text inside.text call inside.called there) entry
      (calling_of w name actuals scalar target line) next
      (givens_told program known inside.text name.text w
      (place_at w is.result is.currents is.edge) (λ actual h. h) (λ actual h. h) told
      (λ n place home there. number_of w.numbers.arrays w.environment n place home below there)
      scalar params formals actuals same proper
      (handed_told program known inside.text name actuals is.reach.shapes inside.called there
      callee.routine callee.named)) (givens_fine IsStorage w (λ place stored. kept_at
      w.numbers.arrays place stored kept) scalar formals actuals) kept
      (givens_below (length w.numbers.arrays) w below scalar formals actuals) behind

  enters : (routine : Routine) (environment : Environment) (numbers : Numbers) →
      IsInside routine environment numbers → (w : Where) (name : Name) (actuals : Exprs) →
      IsCalling setup (scope_of program routine) environment numbers (IsGood program routine) w name
      actuals → (callee : Routine) → routine_named program name.text ≡ Some callee →
      (scalar target line : ℕ) (entry : Entry) (next : Next) →
      (let last = (body_frames setup entry callee
      (calling_of w name actuals scalar target line) next).frame in
      IsInside callee (record { names = last.names ++ setup.globals }) last.numbers)
  enters routine environment numbers inside w name actuals is callee named scalar target line entry
      next =
      let scoped : kind_of (scope_of program routine) name ≡
      Some (kind.Procedure is.proper.signature) =
      ap (λ (s : Scope). kind_of s name) (sym is.within.scope_is) ∙ is.proper.called in
      let found : IsCallee program name is.proper.signature =
      callee_of program grammar routine inside.member name is.proper.signature scoped in
      subst (λ (one : Routine).
      (let last = (body_frames setup entry one
      (calling_of w name actuals scalar target line) next).frame in
      IsInside one (record { names = last.names ++ setup.globals }) last.numbers))
      (some_routine found.routine callee (sym found.named ∙ named))
      (callee_inside routine environment numbers inside w name actuals is is.proper.signature found
      scalar target line entry next (ap formals_in is.proper.called))

  -- ---- reads that wrap round

  reads : (routine : Routine) (environment : Environment) (numbers : Numbers) →
      IsInside routine environment numbers → (reach : Reach) (rank : Rank) (at : ℕ) (name : Name)
      (shift : Dir) (place : ℕ) (home : Region) →
      Among (routine_sites program unknown_shapes routine)
      (AtExpr reach rank (Around at name shift)) →
      thing_of environment name.text ≡ Some (ArrayAt place home) →
      IsStorage (copy_storage home (vector_in setup.known shift))
  reads routine environment numbers inside reach rank at name shift place home site there =
      read_kept program settings grammar clean limits accepted storages homes apart declared
      inside.text inside.called name.text shift home
      (read_there program inside.text routine inside.named reach rank at name shift site)
      (inside.told name.text place home there)

  -- ---- the whole program

  global_boxes : AllBoxes frame.store.arrays
  global_boxes = decls_boxed setup program.decls empty_frame [] declared.globals tt

  begins : (entry : Routine) → entry_of program ≡ Some entry → (next : Next) →
      (let last = (body_frames setup (record { clears = false; line = 0 }) entry
      (entry_calling program frame) next).frame in
      IsInside entry (record { names = last.names ++ setup.globals }) last.numbers)
  begins entry is next =
      inside_of program.name.text entry is (Itself program.name.text)
      (record { clears = false; line = 0 }) (entry_calling program frame) next
      (subst (λ (params : List Param).
      AreGiven program known program.name.text (formal_names params) [])
      (sym (entry_is_bare program clean entry is)) tt) tt
      (boxes_kept 0 frame.store.arrays global_boxes) tt
      (λ text. subst (λ n. OptBelow n (thing_of (record { names = setup.globals }) text))
      (sym (arrays_many 0 frame.store.arrays))
      (found_below (length frame.store.arrays) frame.names text
      (globals_are_below program known (borders_of program))))

  pub all_storages : ((own : Routine → ℕ) → expanded_of program own ≡
      sum_by (λ instance. own instance.routine) (instances_of program)) →
      (let lowered = lowered_program program settings in
      AllStorages (lowered.arrays ++ (lowered.copies ++ lowered.later)))
  all_storages sums =
      let lowered = lowered_program program settings in
      let made = whole_made program settings grammar clean right IsStorage IsInside
      (λ routine environment numbers inside place stored is.
      kept_at numbers.arrays place stored inside.kept is) reads locals_of enters sums
      (boxes_fine frame.store.arrays global_boxes) begins in
      subst (λ (copies : List Region). AllStorages (lowered.arrays ++ (copies ++ lowered.later)))
      (sym made.numbered.no_copies)
      (storages_both lowered.arrays lowered.later made.fine_arrays made.fine_later)
