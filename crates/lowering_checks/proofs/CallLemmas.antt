-- Each loop in the code of calls, and of a whole program, may stand anywhere.
use Rattle.std.proofs.Common.{◌≡◌, ℕ, zero, suc, ◌≤◌, true, false, List, [], ◌∷◌, ◌++◌, map, length, refl, sym, ap, ◌∙◌, subst, arith}
use Rattle.std.specs.Prelude.{Option, Some, None}
use Rattle.std.specs.Str.{bytes_eq}
use Rattle.zpl_region.specs.declared.regions.Region.{Region}
use Rattle.zpl_arrays.specs.Array.{Array}
use Rattle.zpl_tree.specs.Grammar.{IsProgram}
use Rattle.zpl_tree.specs.Syntax.{Name, Exprs, Program}
use Rattle.zpl_names.specs.Kinds as kind
use Rattle.zpl_names.specs.Kinds.{Formal}
use Rattle.zpl_names.specs.Scope.{Scope, kind_of}
use Rattle.zpl_names.specs.Accepted.{IsFaultless}
use Rattle.zpl_names.specs.Declared.{Routine, routines_of, scope_of, entry_of}
use Rattle.zpl_names.specs.Expansion.{formal_names}
use Rattle.zpl_names.specs.Reached.{longest_chain}
use Rattle.zpl_names.proofs.ListLemmas.{Among}
use Rattle.zpl_binding.specs.Settings.{Setting}
use Rattle.zpl_binding.specs.Declarations.{known_of}
use Rattle.zpl_binding.specs.Outcome.{Computed, value_or}
use Rattle.zpl_binding.specs.Regions.{no_region}
use Rattle.zpl_binding.specs.Storages.{borders_of}
use Rattle.zpl_meaning.specs.Store.{Environment, thing_of}
use Rattle.zpl_meaning.specs.Context.{Currents, no_currents, Edge, Setup}
use Rattle.zpl_meaning.specs.Calls.{formals_in}
use Rattle.zpl_meaning.specs.Program.{first_frame}
use Rattle.zpl_meaning.specs.Variables.{Frame}
use Rattle.zpl_meaning.specs.Visited.{IsVisited, first_setup}
use Rattle.zpl_meaning.proofs.VisitLemmas.{find_among}
use Rattle.lowering_fits.specs.of_zpl_lowering.Where.{Numbers, Where, Next}
use Rattle.lowering_fits.specs.of_zpl_lowering.Lowered.{Lowered, behind}
use Rattle.lowering_fits.specs.of_zpl_lowering.Statement.{Calling, lowered}
use Rattle.lowering_fits.specs.of_zpl_lowering.Program.{Framed, Entry, locals_code, where_in, body_code, reads_round, in_call, routine_code, call_code, region_rows, arrays_from, globals_made, first_next, entry_calling, entry_code, lowered_program}
use Rattle.lowering_fits.specs.Reach.{place_at}
use Rattle.lowering_fits.specs.Standing.{calling_of}
use Rattle.lowering_fits.specs.Whole.{given_frames, local_frames, body_frames}
use Rattle.lowering_fits.proofs.PartLemmas.{AreRight}
use Rattle.lowering_fits.proofs.NamedLemmas.{AllBelow, found_below, OptBelow}
use Rattle.lowering_fits.proofs.MadeProgramLemmas.{HasNames, GivensBelow, givens_have, locals_have, givens_below, body_below}
use Rattle.lowering_fits.proofs.MadeCallLemmas.{IsCallee, callee_of, IsCallFrom, callee_visited}
use Rattle.lowering_fits.proofs.MadeWholeLemmas.{globals_are_below, entry_is_there, entry_visited}
use Rattle.lowering_fits.proofs.NumberedLemmas.{any_vars}
use Rattle.lowering_checks.specs.Walked.{HasChecks}
use Rattle.lowering_checks.proofs.WalkLemmas.{then_check}
use Rattle.lowering_checks.proofs.SlateLemmas.{AllQuiet}
use Rattle.lowering_checks.proofs.HeldLemmas.{AreHeld, held_more, HasRegions}
use Rattle.lowering_checks.proofs.VectorLemmas.{vectors_are}
use Rattle.lowering_checks.proofs.AssignLemmas.{quiet_rows}
use Rattle.lowering_checks.proofs.FormLemmas.{IsCalling, stmt_checks}
use Rattle.lowering_checks.proofs.BodyLemmas.{givens_check, locals_check}

regions_quiet : (slot : ℕ) (all : List (Computed Region)) → AllQuiet (region_rows slot all)
regions_quiet slot [] = tt
regions_quiet slot (one ∷ rest) = (tt, regions_quiet (suc slot) rest)

arrays_many : (k : ℕ) (arrays : List Array) → length (arrays_from k arrays) ≡ length arrays
arrays_many k [] = refl
arrays_many k (array ∷ arrays) = ap suc (arrays_many (suc k) arrays)

module _ (program : Program) (settings : List Setting) (grammar : IsProgram program)
    (clean : IsFaultless program) (right : AreRight (first_setup program settings)) (base : ℕ)
    (regions : (routine : Routine) → Among (routines_of program) routine →
    HasRegions base (known_of program settings) (scope_of program routine)) where
  abbrev setup : Setup
  setup = first_setup program settings

  abbrev frame : Frame
  frame = first_frame program (known_of program settings) (borders_of program)

  -- all names in reach have numbers
  record IsFramed (environment : Environment) (numbers : Numbers) : Type 0 where
    below : AllBelow (length numbers.arrays) environment
    globals : AllBelow (length numbers.arrays) (record { names = setup.globals })

  -- the calls of each procedure, down a chain of so many
  abbrev CallsCheck : ℕ → Type 0
  CallsCheck depth =
      (routine : Routine) → Among (routines_of program) routine → (environment : Environment)
      (numbers : Numbers) → IsFramed environment numbers → (w : Where) (name : Name)
      (actuals : Exprs) (scalar target line : ℕ) (next : Next) →
      IsCalling base setup (scope_of program routine) environment numbers next.slots w name
      actuals →
      HasChecks (call_code setup depth (calling_of w name actuals scalar target line) next).code

  body_checks : (depth : ℕ) → CallsCheck depth → (entry : Entry) (routine : Routine) →
      Among (routines_of program) routine → (calling : Calling) (next : Next) (result : ℕ)
      (currents : Currents) (edge : Option Edge) →
      GivensBelow (length calling.numbers.arrays) calling.actuals →
      AllBelow (length calling.numbers.arrays) (record { names = setup.globals }) →
      AreHeld next.slots currents calling.currents → base ≤ next.slots →
      (let frame = (body_frames setup entry routine calling next).frame in
      IsVisited setup (place_at (where_in setup routine calling frame) result currents edge)
      routine.procedure.body) →
      HasChecks (body_code setup entry (call_code setup depth) routine calling next).code
  body_checks depth calls entry routine member calling next result currents edge below globals held
      enough visited =
      let params = formal_names routine.procedure.params in
      let first : Framed = record { names = []; numbers = calling.numbers } in
      let given = given_frames entry.line params calling.actuals first next in
      let last = local_frames setup entry routine.procedure.locals given.frame given.next in
      let own : Framed = last.frame in
      let few : ℕ = length calling.numbers.arrays in
      let environment : Environment = record { names = own.names ++ setup.globals } in
      let has : HasNames few own =
      locals_have few setup entry routine.procedure.locals given.frame given.next
      (givens_have few entry.line params calling.actuals first next
      (record { more = omega arith; below = tt }) below) in
      let framed : IsFramed environment own.numbers = record {
        below = body_below few (length own.numbers.arrays) own.names setup.globals has.more has.below
            globals;
        globals = body_below few (length own.numbers.arrays) [] setup.globals has.more tt globals;
      } in
      let call : Calling → Next → Lowered = call_code setup depth in
      let body : Framed → Next → Lowered =
      λ frame last. lowered
      (record { place = where_in setup routine calling frame; call = call }) last
      routine.procedure.body in
      givens_check entry.line params calling.actuals first next
      (λ frame after. locals_code setup entry routine.procedure.locals frame after body)
      (λ more. locals_check setup entry routine.procedure.locals given.frame given.next body
      (λ further. stmt_checks base setup (scope_of program routine) environment own.numbers
      (vectors_are program settings) (regions routine member) right call
      (calls routine member environment own.numbers framed) (where_in setup routine calling own)
      result currents edge last.next
      (record {
        within = record { own = refl; scope_is = refl; names_are = refl; numbers_are = refl };
        held = held_more next.slots last.next.slots currents calling.currents
            (omega (arith, more, further)) held;
        enough = omega (arith, more, further, enough);
      }) routine.procedure.body visited))

  all_calls : (depth : ℕ) → CallsCheck depth
  all_calls zero routine member environment numbers framed w name actuals scalar target line next
      is = quiet_rows [] tt
  all_calls (suc depth) routine member environment numbers framed w name actuals scalar target line
      next is =
      let calling : Calling = calling_of w name actuals scalar target line in
      let within = is.stands.within in
      let scoped : kind_of (scope_of program routine) name ≡
      Some (kind.Procedure is.proper.signature) =
      ap (λ (s : Scope). kind_of s name) (sym within.scope_is) ∙ is.proper.called in
      let callee : IsCallee program name is.proper.signature =
      callee_of program grammar routine member name is.proper.signature scoped in
      let entry : Entry = record { clears = true; line = line } in
      let formals : List Formal = formals_in (kind_of w.scope name) in
      let after : Next = in_call (reads_round program callee.routine) next in
      let from : IsCallFrom setup w name actuals = record {
        result = is.result;
        currents = is.currents;
        edge = is.edge;
        start = is.start;
        at = is.at;
        prefixes = is.prefixes;
        form = is.form;
        visited = is.visited;
        under = is.under;
        is = is.is;
        proper = is.proper;
      } in
      let globals : AllBelow (length w.numbers.arrays) (record { names = setup.globals }) =
      subst (λ (n : Numbers). AllBelow (length n.arrays) (record { names = setup.globals }))
      (sym within.numbers_are) framed.globals in
      let below : AllBelow (length w.numbers.arrays) w.environment =
      subst (λ (n : Numbers). AllBelow (length n.arrays) w.environment) (sym within.numbers_are)
      (subst (λ (e : Environment). AllBelow (length numbers.arrays) e)
      (sym within.names_are) framed.below) in
      let facts = callee_visited setup w name actuals scalar target line entry after below from
      callee in
      subst (λ (found : Option Routine).
      HasChecks (routine_code setup true (call_code setup depth) found calling next).code)
      (sym callee.named)
      (body_checks depth (all_calls depth) entry callee.routine callee.member calling after 0
      is.currents None (givens_below (length w.numbers.arrays) w below scalar formals actuals)
      globals is.stands.held is.stands.enough facts.0)

  -- ---- the entry procedure

  entry_checks : (depth : ℕ) (entry : Routine) → entry_of program ≡ Some entry → (next : Next) →
      base ≤ next.slots →
      HasChecks (entry_code setup (suc depth) (entry_calling program frame) next).code
  entry_checks depth entry is next enough =
      let calling : Calling = entry_calling program frame in
      let how : Entry = record { clears = false; line = 0 } in
      let after : Next = in_call (reads_round program entry) next in
      let member : Among (routines_of program) entry =
      find_among (λ routine. bytes_eq routine.procedure.name.text program.name.text)
      (routines_of program) entry is in
      subst (λ (found : Option Routine).
      HasChecks (routine_code setup false (call_code setup depth) found calling next).code) (sym is)
      (body_checks depth (all_calls depth) how entry member calling after 0 no_currents None tt
      (λ text. subst (λ n. OptBelow n (thing_of
      (record { names = setup.globals }) text))
      (sym (arrays_many 0 frame.store.arrays))
      (found_below (length frame.store.arrays) frame.names text
      (globals_are_below program (known_of program settings) (borders_of program))))
      (record { one = tt; two = tt; three = tt }) enough
      (entry_visited program settings grammar clean right (λ storage. Unit {0})
      (λ routine environment numbers. Unit {0})
      (λ routine environment numbers inside place stored there. tt)
      (λ routine environment numbers inside reach rank at name shift place home there is. tt)
      (λ routine member. any_vars setup routine.procedure.locals)
      (λ routine environment numbers inside w name actuals is callee named scalar target line entry
      next. tt) entry is after))

  pub program_checks : base ≤
      length (map (λ one. (value_or no_region one.outcome).rank) (known_of program settings).regions) →
      HasChecks (lowered_program program settings).code
  unfolding longest_chain
  program_checks enough =
      let found = entry_is_there program clean in
      let made = globals_made (known_of program settings) frame in
      let next : Next = behind (first_next program) made in
      let code = entry_code setup 32 (entry_calling program frame) next in
      then_check made.code code.code
      (quiet_rows (region_rows 0 (known_of program settings).regions)
      (regions_quiet 0 (known_of program settings).regions))
      (entry_checks 31 found.0 found.1 next (omega (arith, enough)))
