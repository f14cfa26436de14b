-- What all code of a program has of its own: what the program with its calls expanded has.
use Rattle.std.proofs.Common.{◌≡◌, ℕ, suc, ◌+◌, false, List, [], ◌∷◌, ◌++◌, map, length, Option, Some, None, refl, sym, ap, ap₂, ◌∙◌, subst, arith}
use Rattle.std.specs.Prelude.{ℤ, Contains, filter_map, slice_get, sum_by}
use Rattle.std.specs.Str.{bytes_eq}
use Rattle.std.proofs.lemmas.List.{length-map}
use Rattle.zpl_tree.specs.Grammar.{IsProgram}
use Rattle.zpl_tree.specs.Syntax.{Dir, Exprs, Param, Program}
use Rattle.zpl_names.specs.Accepted.{IsFaultless, TwiceNamed, in_text, names_twice}
use Rattle.zpl_names.specs.Shapes.{unknown_shapes}
use Rattle.zpl_names.specs.Declared.{IsProcedureOf, Routine, entry_of, formals_of, globals_of, head_scope, routines_of, scope_of, signature_of}
use Rattle.zpl_names.specs.Expansion.{ExpandedArray, FormalName, Instance, ShiftedRead, array_of_entry, entry_instance, expanded_arrays, expanded_copies, expanded_shifts, formal_names, instance_sites, instances_from, instances_of, of_routine}
use Rattle.zpl_names.specs.Faults.{repeated, twice_named}
use Rattle.zpl_names.specs.Ranks.{dir_rank}
use Rattle.zpl_names.specs.Reached.{longest_chain}
use Rattle.zpl_names.specs.Sites.{routine_sites}
use Rattle.zpl_names.proofs.ListLemmas.{Among}
use Rattle.zpl_names.proofs.NameLemmas.{empty_parts}
use Rattle.zpl_binding.specs.Bound.{vectors_in}
use Rattle.zpl_binding.specs.Outcome.{outcome_of}
use Rattle.zpl_binding.specs.Vectors.{three_components, vector_of}
use Rattle.zpl_binding.specs.Settings.{Setting}
use Rattle.zpl_binding.specs.Declarations.{known_of}
use Rattle.zpl_binding.specs.Regions.{Known}
use Rattle.zpl_binding.specs.Storages.{borders_of}
use Rattle.zpl_meaning.specs.Context.{Setup, no_currents}
use Rattle.zpl_meaning.specs.Given.{IsGiven}
use Rattle.zpl_meaning.specs.Regions.{vector_in}
use Rattle.zpl_meaning.specs.Program.{first_frame}
use Rattle.zpl_meaning.specs.Variables.{Frame}
use Rattle.zpl_meaning.specs.Visited.{first_setup}
use Rattle.zpl_meaning.proofs.NamesLemmas.{IsSound, routine_sound}
use Rattle.zpl_meaning.proofs.VisitLemmas.{find_among, none_there}
use Rattle.zpl_lowering.specs.Hoist.{Shifted}
use Rattle.zpl_lowering.specs.Lowered.{Lowered, behind}
use Rattle.zpl_lowering.specs.Program.{Entry, call_code, entry_calling, entry_code, first_next, global_numbers, globals_made, in_call, lowered_program, reads_round, routine_code}
use Rattle.zpl_lowering.specs.Statement.{Calling}
use Rattle.zpl_lowering.specs.Where.{Next}
use Rattle.lowered_flat.specs.of_lowering_fits.Declarations.{FitsProgram}
use Rattle.lowered_flat.specs.of_lowering_fits.Slates.{FitsVector}
use Rattle.lowered_flat.specs.of_lowering_fits.Whole.{body_frames}
use Rattle.lowered_flat.proofs.of_lowering_fits.PartLemmas.{AreRight}
use Rattle.lowered_flat.proofs.of_lowering_fits.NumberedLemmas.{any_vars}
use Rattle.lowered_flat.proofs.of_lowering_fits.GlobalsLemmas.{globals_fit}
use Rattle.lowered_flat.proofs.of_lowering_fits.KeptLemmas.{AreGivenOf}
use Rattle.lowered_flat.proofs.of_lowering_fits.MadeWholeLemmas.{entry_is_bare, entry_is_there, entry_more, entry_visited}
use Rattle.lowered_flat.specs.Apart.{NamesStandApart}
use Rattle.stored_boxes.specs.of_array_numbers.Calls.{Entered}
use Rattle.stored_boxes.proofs.of_array_numbers.GlobalLemmas.{array_entry}
use Rattle.stored_boxes.specs.Declared.{declared_storage}
use Rattle.stored_boxes.specs.Different.{AreDifferent}
use Rattle.stored_boxes.specs.Reads.{copies_in, shifts_in}
use Rattle.stored_boxes.proofs.DeclaredLemmas.{all_decls, all_vars}
use Rattle.program_boxes.specs.Fair.{AreFair, AreFairCopies}
use Rattle.program_boxes.specs.Own.{AreRightCalls, AreThere, HasCalls, HaveRoom, arrays_of, called_in, copied_of, copies_of, noted_of, number_in, shifts_of, storages_of}
use Rattle.program_boxes.proofs.OwnLemmas.{stand_left, stand_right, storages_both, there_both}
use Rattle.program_boxes.proofs.FrameLemmas.{body_storages, given_storages, locals_are, var_storages}
use Rattle.program_boxes.proofs.NamedLemmas.{IsPlaced}
use Rattle.program_boxes.proofs.CallLemmas.{all_calls, called_from, called_have, stand_from}
use Rattle.program_boxes.proofs.RankLemmas.{body_sized}
use Rattle.program_boxes.proofs.GlobalLemmas.{globals_stored}

none_given : (formals : List FormalName) → given_storages formals [] ≡ []
none_given [] = refl
none_given (formal ∷ formals) = refl

module _ (program : Program) (settings : List Setting) (grammar : IsProgram program)
    (clean : IsFaultless program) (right : AreRight (first_setup program settings))
    (apart : NamesStandApart program) (different : AreDifferent (expanded_arrays program))
    (declared : FitsProgram program settings)
    (dirs : (routine : Routine) → Among (routines_of program) routine → (rank : ℕ) (dir : Dir) →
    dir_rank (scope_of program routine) dir ≡ Some rank →
    FitsVector rank (vector_in (known_of program settings) dir))
    (named : (text : List ℕ) → IsGiven (List ℤ)
    (outcome_of (three_components []) (known_of program settings).directions text))
    (vectors : (parts : Exprs) → Contains (vectors_in program) parts →
    IsGiven (List ℤ) (vector_of (known_of program settings).values parts)) where
  abbrev known : Known
  known = known_of program settings

  abbrev setup : Setup
  setup = first_setup program settings

  abbrev all : List ExpandedArray
  all = expanded_arrays program

  abbrev number : ExpandedArray → ℕ
  number = number_in (expanded_arrays program)

  abbrev frame : Frame
  frame = first_frame program (known_of program settings) (borders_of program)

  -- ---- the entry procedure

  entry_have : (depth : ℕ) (routine : Routine) → entry_of program ≡ Some routine → (next : Next) →
      HaveRoom all (length frame.store.arrays) next.arrays
      (instances_from program (suc depth) (entry_instance routine)) →
      HasCalls program known number all next.later
      (instances_from program (suc depth) (entry_instance routine))
      (entry_code setup (suc depth) (entry_calling program frame) next)
  entry_have depth routine is next room =
      let calling : Calling = entry_calling program frame in
      let entry : Entry = record { clears = false; line = 0 } in
      let one : Instance = entry_instance routine in
      let inside : Next = in_call (reads_round program routine) next in
      let member : Among (routines_of program) routine =
      find_among (λ routine. bytes_eq routine.procedure.name.text program.name.text)
      (routines_of program) routine is in
      let frames = body_frames setup entry routine calling inside in
      let rest : List Instance = called_in program known number one (called_from program depth one)
      (routine_sites program unknown_shapes routine) in
      let placed : IsPlaced program known grammar clean apart different one frames.frame
      frames.next.arrays = record {
        is = Entered routine entry calling inside is refl refl room.more;
        stand = stand_from all next.arrays one.own
            (stand_left all next.arrays (map (λ binding. binding.array) one.own) (arrays_of rest)
            room.stand);
      } in
      let own_are : body_storages setup entry routine calling ≡
      storages_of program known number (map (λ binding. binding.array) one.own) =
      ap (λ front. front ++ var_storages setup routine.procedure.locals)
      (none_given (formal_names routine.procedure.params))
      ∙ locals_are program known number setup [] routine.procedure.locals
      (all_vars program known apart routine member) in
      let many = entry_more program settings grammar clean right (λ storage. Unit {0})
      (λ routine environment numbers. Unit {0})
      (λ routine environment numbers inside place stored is. tt)
      (λ routine environment numbers inside reach rank at name shift place home there is. tt)
      (λ routine member. any_vars setup routine.procedure.locals)
      (λ routine environment numbers inside w name actuals is callee named scalar target line entry
      next. tt) depth routine is inside tt in
      let visited = entry_visited program settings grammar clean right (λ storage. Unit {0})
      (λ routine environment numbers. Unit {0})
      (λ routine environment numbers inside place stored is. tt)
      (λ routine environment numbers inside reach rank at name shift place home there is. tt)
      (λ routine member. any_vars setup routine.procedure.locals)
      (λ routine environment numbers inside w name actuals is callee named scalar target line entry
      next. tt) routine is inside in
      let sound : IsSound routine = routine_sound program.decls [] routine tt grammar member in
      let signed : IsProcedureOf (signature_of sound.earlier routine.procedure) routine =
      record { earlier = sound.earlier; own = sound.own; signed = refl } in
      let givens : AreGivenOf (global_numbers frame)
      (formals_of (head_scope sound.earlier routine.procedure) routine.procedure.params) [] =
      subst (λ (ps : List Param). AreGivenOf (global_numbers frame)
      (formals_of (head_scope sound.earlier routine.procedure) ps) [])
      (sym (entry_is_bare program clean routine is)) tt in
      let once = (empty_parts
      (repeated [] (map (λ entry. entry.name) (globals_of program))) (in_text twice_named program)
      (none_there (names_twice program) (λ at c. clean TwiceNamed at c))).0 in
      let sized = body_sized program settings grammar clean declared dirs named vectors routine
      member (signature_of sound.earlier routine.procedure) signed
      entry calling inside givens (globals_fit program once setup declared.globals) in
      let have = called_have program settings grammar clean right apart different declared dirs
      named vectors depth
      (all_calls program settings grammar clean right apart different declared dirs named vectors
      depth) entry one member calling next 0 no_currents None (length frame.store.arrays) placed
      sized visited own_are many.copies
      room in
      subst (λ (found : Option Routine). HasCalls program known number all next.later
      (one ∷ rest) (routine_code setup false (call_code setup depth) found calling next)) (sym is)
      have

  -- ---- the whole program

  pub record HasProgram (lowered : Lowered) : Type 0 where
    pub copies : lowered.copies ≡ []
    pub arrays : lowered.arrays ≡ storages_of program known number (expanded_arrays program)
    pub later_are : lowered.later ≡ copied_of program known number (expanded_copies program)
    pub shifts : (f : Shifted → ℕ) → sum_by f lowered.shifts ≡
        noted_of program known number f (length (expanded_arrays program))
        (expanded_shifts program) (expanded_copies program)
    pub there : AreThere (expanded_arrays program) (expanded_shifts program)
    pub fair : AreFair program known (expanded_shifts program)
    pub fair_copies : AreFairCopies program known (expanded_copies program)

  all_there : (calls : List Instance) → AreRightCalls program known all calls →
      AreThere all (shifts_of program calls)
  all_there [] are = tt
  all_there (call ∷ calls) are =
      there_both all (shifts_in program call (instance_sites program call))
      (shifts_of program calls) are.0.there (all_there calls are.1)

  fair_both : (xs ys : List ShiftedRead) → AreFair program known xs → AreFair program known ys →
      AreFair program known (xs ++ ys)
  fair_both [] ys first rest = rest
  fair_both (x ∷ xs) ys first rest = (first.0, fair_both xs ys first.1 rest)

  all_are_fair : (calls : List Instance) → AreRightCalls program known all calls →
      AreFair program known (shifts_of program calls)
  all_are_fair [] are = tt
  all_are_fair (call ∷ calls) are =
      fair_both (shifts_in program call (instance_sites program call)) (shifts_of program calls)
      are.0.fair (all_are_fair calls are.1)

  fair_copies_both : (xs ys : List ShiftedRead) → AreFairCopies program known xs →
      AreFairCopies program known ys → AreFairCopies program known (xs ++ ys)
  fair_copies_both [] ys first rest = rest
  fair_copies_both (x ∷ xs) ys first rest = (first.0, fair_copies_both xs ys first.1 rest)

  copies_are_fair : (calls : List Instance) → AreRightCalls program known all calls →
      AreFairCopies program known (copies_of program calls)
  copies_are_fair [] are = tt
  copies_are_fair (call ∷ calls) are =
      fair_copies_both (copies_in program call (instance_sites program call))
      (copies_of program calls) are.0.copies (copies_are_fair calls are.1)

  pub program_has : HasProgram (lowered_program program settings)
  unfolding longest_chain
  program_has =
      let found = entry_is_there program clean in
      let routine = found.0 in
      let globals : List ExpandedArray =
      map array_of_entry (filter_map array_entry (globals_of program)) in
      let stored = globals_stored program known number (borders_of program)
      (all_decls program known apart) in
      let made = globals_made known frame in
      let next : Next = behind (first_next program) made in
      let calls : List Instance = instances_from program 32 (entry_instance routine) in
      let same : instances_of program ≡ calls =
      ap (of_routine (λ entry. instances_from program 32 (entry_instance entry))) found.1 in
      let many : length (map (λ array. array.storage) frame.store.arrays) ≡ length globals =
      ap length stored
      ∙ length-map globals (λ (array : ExpandedArray). declared_storage program known array.storage)
      in
      let at : next.arrays ≡ 0 + length globals = omega (arith, many) in
      let all_are : all ≡ globals ++ arrays_of calls =
      ap (λ cs. globals ++ arrays_of cs) same in
      let is = entry_have 31 routine found.1 next
      (record {
        more = omega (arith, length-map frame.store.arrays (λ array. array.storage));
        stand = stand_right all 0 next.arrays globals (arrays_of calls) at
            (λ i one there. ap (slice_get all) (omega arith)
            ∙ subst (λ xs. slice_get xs i ≡ Some one) (sym all_are) there);
      }) in
      let code = entry_code setup 32 (entry_calling program frame) next in
      let copies_same : copies_of program calls ≡ expanded_copies program =
      ap (copies_of program) (sym same) in
      let shifts_same : shifts_of program calls ≡ expanded_shifts program =
      ap (shifts_of program) (sym same) in
      record {
        copies = is.copies;
        arrays = ap₂ (λ a b. a ++ b) stored is.arrays
            ∙ sym (storages_both program known number all globals (arrays_of calls) all_are);
        later_are = is.later_are ∙ ap (copied_of program known number) copies_same;
        shifts = λ f. is.shifts f
            ∙ ap (λ n. noted_of program known number f n (shifts_of program calls)
            (copies_of program calls)) (omega arith)
            ∙ ap₂ (λ reads round. noted_of program known number f (length all) reads round)
            shifts_same copies_same;
        there = subst (AreThere all) shifts_same (all_there calls is.right);
        fair = subst (AreFair program known) shifts_same (all_are_fair calls is.right);
        fair_copies = subst (AreFairCopies program known) copies_same
            (copies_are_fair calls is.right);
      }
