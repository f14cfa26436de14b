-- The flat program of a program shows what the program means.
use Rattle.std.proofs.Common.{ℕ, zero, suc, false, ℤ, List, []}
use Rattle.std.proofs.Common.{length, Option, Some, None, refl, sym, ap, ◌∙◌, subst, arith}
use Rattle.std.proofs.lemmas.List.{length-map}
use Rattle.std.specs.Prelude.{slice_get}
use Rattle.zpl_arrays.specs.Array.{Array}
use Rattle.zpl_tree.specs.Syntax.{Param, Program}
use Rattle.zpl_tree.specs.Grammar.{IsProgram}
use Rattle.zpl_names.specs.Declared.{Routine, IsProcedureOf, head_scope, signature_of, formals_of, scope_of, routines_of}
use Rattle.zpl_names.specs.Reached.{longest_chain, Itself}
use Rattle.zpl_names.specs.Expansion.{formal_names}
use Rattle.zpl_names.specs.Accepted.{IsFaultless}
use Rattle.zpl_names.specs.Shapes.{no_shapes}
use Rattle.zpl_names.proofs.ListLemmas.{Among}
use Rattle.zpl_binding.specs.Settings.{Setting}
use Rattle.zpl_binding.specs.Declarations.{known_of}
use Rattle.zpl_binding.specs.Regions.{Known}
use Rattle.zpl_binding.specs.Storages.{borders_of}
use Rattle.zpl_meaning.specs.Store.{Store}
use Rattle.zpl_meaning.specs.Context.{Setup}
use Rattle.zpl_meaning.specs.Variables.{Frame, empty_frame}
use Rattle.zpl_meaning.specs.Program.{run_routine, call_at, entry_call, first_frame, outcome_of}
use Rattle.zpl_meaning.specs.Visited.{Begins}
use Rattle.zpl_meaning.proofs.NamesLemmas.{routine_sound}
use Rattle.zpl_meaning.proofs.VisitLemmas.{Laws}
use Rattle.meaning_ranks.proofs.RegionLemmas.{names_once}
use Rattle.meaning_ranks.proofs.PlaceLemmas.{entry_at, found_routine}
use Rattle.node_form.specs.declared.tables.Tables.{Tables}
use Rattle.row_runs.specs.Straight.{Every}
use Rattle.flat_form.specs.Act.{flat_run}
use Rattle.flat_form.specs.Laws.{IsInline}
use Rattle.flat_form.specs.Whole.{Whole}
use Rattle.zpl_lowering.specs.Where.{Where, Next, Stored, no_slots}
use Rattle.zpl_lowering.specs.Lowered.{behind}
use Rattle.zpl_lowering.specs.Statement.{Calling}
use Rattle.zpl_lowering.specs.Program as low
use Rattle.zpl_lowering.specs.Tables.{rows_of, flat_tables}
use Rattle.served_places.specs.of_lowering_runs.Seen.{Spot, seen_store, numbered}
use Rattle.served_places.specs.of_lowering_runs.Run.{does}
use Rattle.served_places.specs.of_lowering_runs.Agrees.{Agrees}
use Rattle.served_places.specs.of_lowering_runs.Shown.{Shows}
use Rattle.served_places.specs.of_lowering_runs.Stands.{AreKnown, Stands, HasRoom, IsLike, IsHeld}
use Rattle.served_places.proofs.of_lowering_runs.AgreeLemmas.{alike_agrees}
use Rattle.served_places.proofs.of_lowering_runs.FitLemmas.{itself, keeps_all}
use Rattle.served_places.proofs.of_lowering_runs.EntryLemmas.{spots_from, spots_numbered, spots_rise, spots_length, spots_names, spots_zero}
use Rattle.served_places.proofs.of_lowering_runs.StartLemmas.{many_declared, globals_stored, IsBegun, shown_by}
use Rattle.lowered_flat.specs.of_lowering_fits.Declarations.{FitsProgram}
use Rattle.lowered_flat.specs.of_lowering_fits.Whole.{IsNumbered}
use Rattle.lowered_flat.proofs.of_lowering_fits.KeptLemmas.{AreGivenOf}
use Rattle.lowered_flat.proofs.of_lowering_fits.GlobalsLemmas.{globals_fit}
use Rattle.lowered_flat.proofs.of_lowering_fits.ProgramFitLemmas.{AllBoxes, decls_boxed, boxes_kept}
use Rattle.lowered_flat.proofs.of_lowering_fits.MadeWholeLemmas.{entry_is_bare}
use Rattle.lowered_flat.proofs.CalledLemmas.{AreGiven}
use Rattle.shown_programs.specs.Text.{IsRoutine, IsShownCall, IsShownProgram, IsLeafForm}
use Rattle.shown_programs.proofs.FrameLemmas.{apart_in}
use Rattle.shown_programs.proofs.CallLemmas.{IsKnownAt}
use Rattle.shown_programs.proofs.RoutineLemmas.{AreAccepted, body_goes, routine_agrees, calls_go}
use Rattle.shown_programs.proofs.LeafLemmas.{Leaf, leaves_go}
use Rattle.shown_programs.proofs.StartLemmas.{IsGlobal, first_global, arrays_length, arrays_rise, arrays_stored, arrays_seen, start_array}

module _ (program : Program) (settings : List Setting) (laws : Laws program)
    (grammar : IsProgram program) (clean : IsFaultless program)
    (accepted : AreAccepted program settings laws grammar clean)
    (declared : FitsProgram program settings) (shown : IsShownProgram program settings)
    (inline : Every IsInline (rows_of (low.lowered_program program settings)))
    (laid : IsNumbered (low.first_next program) (low.lowered_program program settings)) where
  abbrev known : Known
  known = known_of program settings

  abbrev frame : Frame
  frame = first_frame program known (borders_of program)

  abbrev setup : Setup
  setup =
      record { program = program; known = known; borders = borders_of program; globals = frame.names }

  abbrev tables : Tables
  tables = flat_tables program settings

  abbrev calling : Calling
  calling = low.entry_calling program frame

  abbrev next : Next
  next = behind (low.first_next program) (low.globals_made known frame)

  global : IsGlobal frame
  global = first_global known (borders_of program) shown.values program.decls

  boxes : AllBoxes frame.store.arrays
  boxes = decls_boxed setup program.decls empty_frame [] declared.globals tt

  abbrev spots : List Spot
  spots = spots_from 0 frame.store.scalars

  abbrev arrays : List Stored
  arrays = low.arrays_from 0 frame.store.arrays

  abbrev outside : Routine → Where
  outside routine = record {
    setup = setup;
    scope = scope_of program routine;
    environment = record { names = [] };
    result = 0;
    prefix = Some 0;
    currents = no_slots;
    edge = None;
    numbers = low.global_numbers frame;
  }

  stands : (routine : Routine) → Stands spots (outside routine) next
  stands routine =
      let count = length-map frame.store.arrays (λ (array : Array). array.storage) in
      let names : AreKnown (length (numbered spots)) (length arrays) frame.names =
      subst (λ (m : ℕ). AreKnown (length (numbered spots)) m frame.names)
      (sym (arrays_length 0 frame.store.arrays))
      (subst (λ (m : ℕ). AreKnown m (length frame.store.arrays) frame.names)
      (sym (spots_length 0 frame.store.scalars)) global.known) in
      record {
        numbers = spots_numbered 0 frame.store.scalars;
        rises = spots_rise 0 frame.store.scalars next.scalars (omega arith);
        known = tt;
        globals = names;
        unmoved = spots_names 0 frame.store.scalars frame.names;
        taken = record { one = tt; two = tt; three = tt };
        edge = tt;
        declared = omega (arith, many_declared program settings);
        stored = arrays_rise 0 frame.store.arrays next.arrays (omega (arith, count));
      }

  held : (now : Whole) → IsBegun program settings inline laid now
      → IsHeld tables known arrays no_slots now.slots
  held now begun =
      let stored = arrays_stored tables 0 frame.store.arrays boxes
      (globals_stored program settings inline laid) in
      record {
        stored = stored;
        apart = apart_in tables 0 arrays (length frame.store.arrays) (omega arith)
            (arrays_rise 0 frame.store.arrays (length frame.store.arrays) (omega arith)) stored;
        one = tt;
        two = tt;
        three = tt;
        declared = begun.declared;
      }

  like : (routine : Routine) (now : Whole) → IsBegun program settings inline laid now
      → IsLike tables spots (outside routine) next now frame.store now
  like routine now begun = record {
    seen =
        ap (λ (xs : List ℤ). record frame.store { scalars = xs })
        (spots_zero 0 frame.store.scalars now begun.zeros global.zeros)
        ∙ ap (λ (xs : List Array). record (seen_store spots arrays now) { arrays = xs })
        (arrays_seen tables now begun.stores 0 frame.store.arrays boxes global.blank
        (globals_stored program settings inline laid));
    sound = begun.sound;
    kept = keeps_all (numbered spots) next now;
    held = held now begun;
  }

  known_there : (routine : Routine) → Among (routines_of program) routine
      → IsKnownAt program settings laws grammar clean program.name.text (outside routine) no_shapes
  known_there routine among = record {
    owned = refl;
    names = λ name place home e. let no : ⊥ = cc in absurd no;
    scalars = λ text place e. let no : ⊥ = cc in absurd no;
    globals = globals_fit program (names_once program clean) setup declared.globals;
    kept = boxes_kept 0 frame.store.arrays boxes;
    told = record {
      slots = record { one = refl; two = refl; three = refl };
      one = tt;
      two = tt;
      three = tt;
      arrays = λ name place home e. let no : ⊥ = cc in absurd no;
      vectors = accepted.vectors routine among;
    };
    given = accepted.given routine among;
    long = accepted.long routine among;
    called = Itself program.name.text;
    homes = λ name place home e. let no : ⊥ = cc in absurd no;
    copies = λ name shift there place home e. let no : ⊥ = cc in absurd no;
  }

  -- what the run is like at its end
  abbrev Ended : Whole → Store → Whole → Type 0
  Ended now store whole =
      (routine : Routine) × IsLike tables spots (outside routine) next now store whole

  entry_agrees : (n depth : ℕ) → IsShownCall IsLeafForm program depth false program.name.text
      → (now : Whole) → IsBegun program settings inline laid now
      → HasRoom tables next (low.entry_code setup depth calling next)
      → Agrees (Ended now) n 0 (call_at setup n depth (entry_call program) frame.store)
      (does tables n (low.entry_code setup depth calling next).code now)
  entry_agrees n zero h now begun room = absurd h
  entry_agrees n (suc depth) h now begun room =
      let it : IsRoutine IsLeafForm program (IsShownCall IsLeafForm program depth) false
      program.name.text = h in
      let routine = it.routine in
      let w = outside routine in
      let among = found_routine program settings laws grammar clean program.name.text routine it.named
      in
      let sound = routine_sound program.decls [] routine tt grammar among in
      let of : IsProcedureOf (signature_of sound.earlier routine.procedure) routine =
      record { earlier = sound.earlier; own = sound.own; signed = refl } in
      let givens : AreGivenOf (low.global_numbers frame)
      (formals_of (head_scope sound.earlier routine.procedure) routine.procedure.params) [] =
      subst (λ (ps : List Param). AreGivenOf (low.global_numbers frame)
      (formals_of (head_scope sound.earlier routine.procedure) ps) [])
      (sym (entry_is_bare program clean routine it.named)) tt in
      let bare : AreGiven program known program.name.text (formal_names routine.procedure.params)
      [] =
      subst (λ (ps : List Param). AreGiven program known program.name.text (formal_names ps) [])
      (sym (entry_is_bare program clean routine it.named)) tt in
      let leaves = leaves_go program settings laws grammar clean tables n accepted.proper accepted.ranked
      in
      let begins = like routine now begun in
      subst (λ (r : Option Routine).
      HasRoom tables next
      (low.routine_code setup false (low.call_code setup depth) r calling next)
      → Agrees (Ended now) n 0
      (run_routine setup n (call_at setup n depth) r (entry_call program) frame.store)
      (does tables n
      (low.routine_code setup false (low.call_code setup depth) r calling next).code now))
      (sym it.named)
      (λ room.
      alike_agrees (IsLike tables spots w next now) (Ended now) n 0 _ _
      (λ store whole l. (routine, l))
      (routine_agrees program settings laws grammar clean tables n accepted
      (Leaf program settings laws grammar clean) IsLeafForm leaves depth
      (IsShownCall IsLeafForm program depth)
      (calls_go program settings laws grammar clean tables n accepted
      (Leaf program settings laws grammar clean) IsLeafForm leaves depth)
      routine among false spots w next now program.name.text [] 0 0 0 no_shapes
      it.named (Itself program.name.text) program.name.text (known_there routine among)
      (signature_of sound.earlier routine.procedure) of givens (stands routine) now
      begun.sound.filled.slots (λ k lt. refl) begins.held (IsLike tables spots w next now)
      (body_goes program settings laws grammar clean tables n accepted
      (Leaf program settings laws grammar clean) IsLeafForm leaves depth
      (IsShownCall IsLeafForm program depth)
      (calls_go program settings laws grammar clean tables n accepted
      (Leaf program settings laws grammar clean) IsLeafForm leaves depth)
      routine among false spots w next now program.name.text [] 0 0 0 no_shapes
      it.named (Itself program.name.text) program.name.text (known_there routine among)
      (signature_of sound.earlier routine.procedure) of givens (stands routine) now
      begun.sound.filled.slots (λ k lt. refl) begins.held it.shown) next (itself next)
      (omega arith) bare tt (λ k le. begun.zeros k)
      (λ k row le e kept. ap (λ (xs : List Array). slice_get xs k) begun.stores
      ∙ start_array tables k row e kept) room frame.store begins
      (record {
        here = entry_at program settings laws grammar clean routine frame.store it.named;
        visited = Begins routine frame.store it.named;
        bounded = record { currents = record { one = tt; two = tt; three = tt }; edge = tt };
      }))) room

  -- ---- the whole run

  pub program_shows : (n : ℕ)
      → Shows (λ a. flat_run tables a n) n (outcome_of program settings n)
  program_shows n =
      shown_by program settings inline laid n Ended (λ now begun room.
      entry_agrees n longest_chain shown.entry now begun room)
