-- The code of a procedure goes as a call of it does, down any chain of calls, where forms that have no
-- statements in them do.
use Rattle.std.proofs.Common.{◌≡◌, ℕ, zero, suc, ◌+◌, ◌≤◌, ◌<◌, Bool, true, false, pos, List, [], ◌∷◌, ◌++◌}
use Rattle.std.proofs.Common.{length, map, Option, Some, None, refl, sym, ap, ◌∙◌, subst, arith}
use Rattle.std.proofs.Common.{append-nil, append_assoc, length-append}
use Rattle.std.specs.Prelude.{IsSome, flat_map}
use Rattle.std.specs.Option.{option_map}
use Rattle.zpl_tree.specs.Syntax.{Name, Prefix, Bracket, NoBracket, Bracketed, Stmt, Form, Param, VarDef, Program}
use Rattle.zpl_tree.specs.Grammar.{IsProgram}
use Rattle.zpl_names.specs.Kinds.{Signature}
use Rattle.zpl_names.specs.Scope.{Entry}
use Rattle.zpl_names.specs.Shapes.{Shapes, variable_kind}
use Rattle.zpl_names.specs.Sites.{Reach}
use Rattle.zpl_names.specs.Declared.{Routine, IsProcedureOf, routine_named, head_scope, entry_for, own_entries, routines_of, scope_of}
use Rattle.zpl_names.specs.Expansion.{FormalName, formal_names}
use Rattle.zpl_names.specs.Accepted.{IsFaultless}
use Rattle.zpl_names.proofs.ListLemmas.{Among}
use Rattle.zpl_binding.specs.Formals as formals
use Rattle.zpl_binding.specs.Settings.{Setting}
use Rattle.zpl_meaning.specs.Store.{Thing, Names, Environment, Store, cut_back, with_scalar}
use Rattle.zpl_meaning.specs.Context.{Currents, Edge, Setup, Place, reach_of}
use Rattle.zpl_meaning.specs.Outcome.{Outcome}
use Rattle.zpl_meaning.specs.Variables.{Frame, with_new_scalar, with_variables}
use Rattle.zpl_meaning.specs.Calls.{Called, Handed, entered, place_in}
use Rattle.zpl_meaning.specs.Program.{returned, run_routine, call_at}
use Rattle.zpl_meaning.specs.Proper.{IsProperStmt}
use Rattle.zpl_meaning.specs.Statement as mean
use Rattle.zpl_meaning.specs.Visited.{IsVisited}
use Rattle.zpl_meaning.proofs.VisitLemmas.{Laws}
use Rattle.meaning_ranks.specs.Ranked.{IsRankedStmt}
use Rattle.meaning_ranks.proofs.PlaceLemmas.{found_routine}
use Rattle.node_form.specs.declared.tables.Tables.{Tables}
use Rattle.flat_form.specs.Whole.{Whole}
use Rattle.zpl_lowering.specs.Where.{Where, Next, Stored, Slotted}
use Rattle.zpl_lowering.specs.Lowered.{Lowered, behind}
use Rattle.zpl_lowering.specs.Statement.{Given, Valued, Copied, Referring, Calling, lowered}
use Rattle.zpl_lowering.specs.Program as low
use Rattle.zpl_lowering.specs.Program.{Framed, Entry as CallEntry}
use Rattle.served_places.specs.of_lowering_runs.Seen.{Spot, Answer, Sight, seen_place, seen_store, seen_names, seen_thing, seen_over, seen_currents, numbered, slot_in}
use Rattle.served_places.specs.of_lowering_runs.Run.{does}
use Rattle.served_places.specs.of_lowering_runs.Agrees.{Agrees}
use Rattle.served_places.specs.of_lowering_runs.Stands.{Misses, IsBefore, array_numbers, AreKnown, AreDeclared, Stands, HasRoom, IsSound, Keeps, IsLike, IsHeld}
use Rattle.served_places.specs.of_lowering_runs.Frames.{seen_frame}
use Rattle.operator_runs.specs.of_call_runs.Copied.{copy_at}
use Rattle.operator_runs.specs.of_call_runs.Answered.{CallsAnswer, HasAnswered, HasReturned}
use Rattle.operator_runs.specs.of_call_runs.Taken.{AllGiven, CallsGo}
use Rattle.operator_runs.proofs.of_call_runs.AnswerLemmas.{returned_store}
use Rattle.operator_runs.proofs.of_call_runs.EndLemmas.{body_returns}
use Rattle.served_places.specs.of_lowering_runs.Goes.{World, TestsGo}
use Rattle.served_places.specs.of_lowering_runs.Called.{calling_at, called_at, world_at}
use Rattle.served_places.proofs.of_lowering_runs.AgreeLemmas.{stored_agrees}
use Rattle.served_places.proofs.of_lowering_runs.ControlLemmas.{}
use Rattle.served_places.proofs.of_lowering_runs.FitLemmas.{all_taken_on, currents_kept, keeps_all, held_on, room_inside}
use Rattle.served_places.proofs.of_lowering_runs.FrameLemmas.{map_append, numbered_append, names_below, known_both, known_more, misses_more}
use Rattle.served_places.proofs.of_lowering_runs.NumberLemmas.{rises_on}
use Rattle.served_places.proofs.of_lowering_runs.SuitLemmas.{LeafGoes}
use Rattle.served_places.proofs.of_lowering_runs.ValueLemmas.{thing_seen}
use Rattle.operator_runs.specs.Served.{OperatedValue}
use Rattle.operator_runs.proofs.TestLemmas.{tests_go}
use Rattle.operator_runs.proofs.ValueLemmas.{operated_values}
use Rattle.operator_runs.proofs.ReturnLemmas.{return_goes}
use Rattle.served_places.specs.of_prefix_runs.Under.{IsUnder}
use Rattle.served_places.proofs.of_prefix_runs.PlainLemmas.{suited_agrees_by}
use Rattle.served_places.specs.of_lowering_runs.Suits.{SuitsStmtBy}
use Rattle.served_places.specs.Told.{IsSeenFrom, place_of}
use Rattle.served_places.specs.Given.{KnowsGiven}
use Rattle.point_runs.specs.of_array_runs.Reads.{IsShift}
use Rattle.zpl_names.specs.Ranks.{dir_rank}
use Rattle.zpl_tree.specs.Syntax.{Dir}
use Rattle.zpl_meaning.specs.Regions.{vector_in}
use Rattle.lowered_flat.specs.of_lowering_fits.Storages.{IsStorage, AllKept}
use Rattle.lowered_flat.specs.of_lowering_fits.Declarations.{FitAllDeclared}
use Rattle.lowered_flat.specs.of_lowering_fits.Whole.{FitsVars, AllVars, body_frames, given_frames, local_frame, name_frames, local_frames}
use Rattle.lowered_flat.proofs.of_lowering_fits.KeptLemmas.{grows_none, HasKept, AreGivenOf, Nothing, formals_kept, locals_kept}
use Rattle.lowered_flat.proofs.of_lowering_fits.ReachLemmas.{names_fit, scalars_few}
use Rattle.lowered_flat.proofs.of_lowering_fits.CallsFitLemmas.{globals_grow}
use Rattle.lowered_flat.proofs.of_lowering_fits.ProgramFitLemmas.{vars_fit}
use Rattle.zpl_region.specs.declared.regions.Region.{Region}
use Rattle.zpl_region.specs.Tests.{is_within_limit}
use Rattle.zpl_arrays.specs.Around.{copy_storage}
use Rattle.lowered_flat.proofs.CalledLemmas.{AreGiven}
use Rattle.lowered_flat.proofs.HomeLemmas.{IsToldHome}
use Rattle.lowered_flat.proofs.ToldLemmas.{AreTold}
use Rattle.shown_programs.proofs.SourceLemmas.{IsReadOf}
use Rattle.shown_programs.specs.Text.{IsShownRoutine, IsRoutine, IsShownCall}
use Rattle.shown_programs.proofs.AnswerLemmas.{with_answer, answer_given, answer_like, answer_numbered, answer_stands, answer_store, answering_suits, plain_like}
use Rattle.shown_programs.proofs.FrameLemmas.{Framing, apart_in, arrays_more, cut_seen, longer_spots}
use Rattle.shown_programs.proofs.GivenLemmas.{MayTake, givens_go}
use Rattle.shown_programs.proofs.LocalLemmas.{AreFresh, AreFreshArrays, GoesOn, locals_go}
use Rattle.shown_programs.proofs.KnownLemmas.{arrays_told, kept_at, mask_grown}
use Rattle.shown_programs.proofs.CountLemmas.{body_counted}
use Rattle.shown_programs.proofs.CallLemmas.{setup, text_of, AreCalls, IsCalledBy, IsEntered, IsKnownAt}
use Rattle.shown_programs.proofs.PlaceLemmas.{IsPlaced, IsGivenStmt, stmt_suits}

-- ---- tests

operated_tests : (world : World) → TestsGo world OperatedValue
operated_tests world sight w next from start at test stands before operated room store now like =
    tests_go world.tables world.turns sight w next from start at test stands before operated room
    store now like

-- ---- storages that are kept

kept_append : (xs : List Stored) (one : Stored) → AllKept xs → IsStorage one.storage
    → AllKept (xs ++ one ∷ [])
kept_append [] one h k = (k, tt)
kept_append (x ∷ xs) one h k = (h.0, kept_append xs one h.1 k)

module _ (own : Setup) (entry : CallEntry) where
  names_kept : (shape : Bracket) (names : List Name) (frame : Framed) (next : Next) → FitsVars own shape
      → AllKept frame.numbers.arrays
      → AllKept (name_frames own entry shape names frame next).frame.numbers.arrays
  names_kept shape [] frame next fits are = are
  names_kept NoBracket (name ∷ names) frame next fits are =
      let one = local_frame own entry NoBracket name frame next in
      names_kept NoBracket names one.frame one.next fits are
  names_kept (Bracketed inner) (name ∷ names) frame next fits are =
      let one = local_frame own entry (Bracketed inner) name frame next in
      names_kept (Bracketed inner) names one.frame one.next fits
      (kept_append frame.numbers.arrays _ are fits)

  vars_kept : (vars : List VarDef) (frame : Framed) (next : Next) → AllVars own vars
      → AllKept frame.numbers.arrays
      → AllKept (local_frames own entry vars frame next).frame.numbers.arrays
  vars_kept [] frame next fits are = are
  vars_kept (var ∷ vars) frame next fits are =
      let one = name_frames own entry var.shape var.names frame next in
      vars_kept vars one.frame one.next fits.1
      (names_kept var.shape var.names frame next fits.0 are)

-- what parameters take: copies have the storages of what they are made of
given_kept : (line : ℕ) (formals : List FormalName) (givens : List Given) (frame : Framed)
    (next : Next) (scalars : ℕ) (arrays : List Stored) (from to : ℕ)
    → AllGiven scalars arrays from givens to → AllKept arrays → AllKept frame.numbers.arrays
    → AllKept (given_frames line formals givens frame next).frame.numbers.arrays
given_kept line [] givens frame next scalars arrays from to g all are = are
given_kept line (formal ∷ formals) [] frame next scalars arrays from to g all are = are
given_kept line (formal ∷ formals) (Valued k ∷ givens) frame next scalars arrays from to g all are =
    given_kept line formals givens (low.with_scalar frame formal.name k) next scalars arrays (suc k) to
    g.1 all are
given_kept line (formal ∷ formals) (Referring thing ∷ givens) frame next scalars arrays from to g all
    are =
    given_kept line formals givens
    (record frame { names = frame.names ++ (formal.name.text, thing) ∷ [] }) next scalars arrays from to
    g.1 all are
given_kept line (formal ∷ formals) (Copied stored home ∷ givens) frame next scalars arrays from to g
    all are =
    given_kept line formals givens (low.with_array frame formal.name home (copy_at next stored))
    (behind next (low.made_copy line next stored)) scalars arrays from to g.1 all
    (kept_append frame.numbers.arrays _ are (kept_at arrays g.0.0 stored all g.0.1))

-- ---- what is seen where a body begins

some_of : (whole : Whole) (o : Option Slotted) → IsSome (option_map (seen_over whole) o) → IsSome o
some_of whole None h = h
some_of whole (Some slotted) h = refl

begins_seen : (spots : List Spot) (w : Where) (mid : Whole) (answer : ℕ)
    → IsSeenFrom spots w (seen_place (record { spots = spots; answer = answer }) w mid).environment
    (seen_currents mid w.currents)
begins_seen spots w mid answer = record {
  names = thing_seen spots w.environment.names;
  one = some_of mid w.currents.one;
  two = some_of mid w.currents.two;
  three = some_of mid w.currents.three;
}

module _ (program : Program) (settings : List Setting) (laws : Laws program)
    (grammar : IsProgram program) (clean : IsFaultless program) where
  abbrev own : Setup
  own = setup program settings laws grammar clean

  -- what accepted settings tell
  pub record AreAccepted : Type 0 where
    pub proper : (place : Place) (stmt : Stmt) → IsVisited own place stmt → IsProperStmt place stmt
    pub ranked : (place : Place) (stmt : Stmt) → IsVisited own place stmt → IsRankedStmt place stmt
    pub given : (routine : Routine) → Among (routines_of program) routine
        → KnowsGiven own.known (scope_of program routine)
    pub vectors : (routine : Routine) → Among (routines_of program) routine → (rank : ℕ) (dir : Dir)
        → dir_rank (scope_of program routine) dir ≡ Some rank → IsShift rank (vector_in own.known dir)
    pub long : (routine : Routine) → Among (routines_of program) routine → (rank : ℕ) (dir : Dir)
        → dir_rank (scope_of program routine) dir ≡ Some rank
        → length (vector_in own.known dir) ≡ 3
    pub declared : (routine : Routine) → Among (routines_of program) routine
        → (earlier : List Entry) → routine.own ≡ own_entries earlier routine.procedure
        → FitAllDeclared own (head_scope earlier routine.procedure) routine.procedure.locals
    pub posts : (text : List ℕ) (routine : Routine) → routine_named program text ≡ Some routine
        → IsGivenStmt (text_of program settings laws grammar clean text) routine.procedure.body
    pub homes : (text : List ℕ) (routine : Routine) → routine_named program text ≡ Some routine
        → (entry : CallEntry) (calling : Calling) (next : Next)
        → AreGiven program own.known text (formal_names routine.procedure.params) calling.actuals
        → (let last = (body_frames own entry routine calling next).frame in
        AreTold program own.known text (record { names = last.names ++ own.globals }))
    -- the copies of reads that wrap round
    pub copies : (text : List ℕ) → formals.IsCalled program text → (name : Name) (shift : Dir)
        (home : Region) → IsReadOf (text_of program settings laws grammar clean text) name shift
        → IsToldHome program own.known text name.text home
        → is_within_limit (copy_storage home (vector_in own.known shift)) ≡ true

  -- Forms that have no statements in them: what is asked of them by the text, what is asked of them
  -- where they are run, and that their code goes as they do, where what is called does.
  pub record AreLeaves (tables : Tables) (n : ℕ)
      (Leaf : (Bool → List ℕ → Type 0) → ℕ → Form → Where → Place → Type 0)
      (Text : (Bool → List ℕ → Type 0) → Reach → Form → Type 0) : Type 1 where
    pub suits : (text : List ℕ) (IsCallable : Bool → List ℕ → Type 0) (at : ℕ)
        (prefixes : List Prefix) (form : Form) (spots : List Spot) (w : Where)
        (environment : Environment) (answer : ℕ) (currents : Currents) (edge : Option Edge)
        (shapes : Shapes) → IsPlaced program settings laws grammar clean text at prefixes form spots
        w environment answer currents edge shapes
        → Text IsCallable (reach_of (place_of w environment answer currents edge)) form
        → Leaf IsCallable at form w (place_of w environment answer currents edge)
    pub go : (depth : ℕ) (IsCallable : Bool → List ℕ → Type 0)
        → AreCalls program settings laws grammar clean IsCallable (world_at tables n own depth)
        → (at : ℕ) (form : Form) → LeafGoes (world_at tables n own depth) (Leaf IsCallable) at form

  module _ (tables : Tables) (n : ℕ) (accepted : AreAccepted)
      (Leaf : (Bool → List ℕ → Type 0) → ℕ → Form → Where → Place → Type 0)
      (Text : (Bool → List ℕ → Type 0) → Reach → Form → Type 0) (leaves : AreLeaves tables n Leaf Text)
    where
      abbrev world : ℕ → World
      world depth = world_at tables n own depth

      module _ (depth : ℕ) (IsCallable : Bool → List ℕ → Type 0)
          (calls : AreCalls program settings laws grammar clean IsCallable (world depth))
          (routine : Routine) (among : Among (routines_of program) routine)
          (clears : Bool) (spots : List Spot) (w : Where) (low_next : Next) (start : Whole)
          (name : List ℕ) (givens : List Given) (answer target line : ℕ) (shapes : Shapes)
          (named : routine_named program name ≡ Some routine)
          (comes : formals.IsCalled program name) (caller : List ℕ)
          (inside : IsKnownAt program settings laws grammar clean caller w shapes)
          (signature : Signature) (of : IsProcedureOf signature routine)
          (givens_are : AreGivenOf w.numbers signature.formals givens)
          (stands : Stands spots w low_next) (now : Whole)
          (many : length now.slots ≡ length tables.slots)
          (same : (k : ℕ) → k < low_next.slots → slot_in now k ≡ slot_in start k)
          (held : IsHeld tables w.setup.known w.numbers.arrays w.currents now.slots) where
        abbrev Like : Store → Whole → Type 0
        Like = IsLike tables spots w low_next start

        abbrev arrays : List Stored
        arrays = w.numbers.arrays

        abbrev calling : Calling
        calling = calling_at w name givens target line

        abbrev called : Called
        called = called_at spots w start now name givens answer

        abbrev entry : CallEntry
        entry = record { clears = clears; line = line }

        abbrev begun : Store
        begun = seen_store spots arrays now

        abbrev run : Frame → Outcome
        run frame =
            returned begun
            (mean.exec (record { place = place_in own routine called frame; call = call_at own n depth })
            n routine.procedure.body frame.store)

        abbrev rest : Framed → Next → Lowered
        rest framed last =
            lowered (record {
              place = low.where_in own routine calling framed;
              call = low.call_code own depth;
            }) last routine.procedure.body

        abbrev IsReached : Frame → Type 0
        IsReached frame =
            IsEntered program settings laws grammar clean shapes (place_in own routine called frame)
            routine.procedure.body

        -- what the names of a frame have in the tables
        pub record IsFramed (framed : Framed) (next : Next) : Type 0 where
          pub has : HasKept w.numbers routine.own framed
          pub kept : AllKept framed.numbers.arrays
          pub homes : AreTold program own.known name
              (record { names = framed.names ++ own.globals })

        known_inside : (framed : Framed) (next : Next) → IsFramed framed next
            → IsKnownAt program settings laws grammar clean name
            (low.where_in own routine calling framed) shapes
        known_inside framed next f =
            let w' = low.where_in own routine calling framed in
            let globals = globals_grow program w.numbers framed.numbers f.has.grows own.globals
            inside.globals in
            let names = names_fit program routine framed.numbers framed.names own.globals f.has.kept
            globals in
            record {
              owned = refl;
              names = names;
              scalars = scalars_few program routine framed.numbers framed.names own.globals f.has.kept
                  globals;
              globals = globals;
              kept = f.kept;
              told = record {
                slots = inside.told.slots;
                one = mask_grown w w' f.has.grows w.currents.one inside.told.one;
                two = mask_grown w w' f.has.grows w.currents.two inside.told.two;
                three = mask_grown w w' f.has.grows w.currents.three inside.told.three;
                arrays = arrays_told w' names f.kept;
                vectors = accepted.vectors routine among;
              };
              given = accepted.given routine among;
              long = accepted.long routine among;
              called = comes;
              homes = f.homes;
              copies = λ read shift there place home is.
                  accepted.copies name comes read shift home there
                  (f.homes read.text place home is);
            }

        abbrev Entered : (Store → Whole → Type 0) → Type 0
        Entered IsAlike =
            GoesOn tables n own entry spots low_next arrays start IsAlike 0 IsFramed IsReached run rest

        abbrev sight : List Spot → Sight
        sight here = record { spots = here; answer = answer }

        abbrev inner : Framed → Where
        inner framed = low.where_in own routine calling framed

        abbrev body_place : Framed → List Spot → Whole → Place
        body_place framed here mid = seen_place (sight here) (inner framed) mid

        abbrev body_run : Framed → List Spot → Whole → Outcome
        body_run framed here mid =
            mean.exec (record { place = body_place framed here mid; call = call_at own n depth }) n
            routine.procedure.body (seen_store here framed.numbers.arrays mid)

        -- where a body begins
        record IsBegun (framed : Framed) (here : List Spot) (next : Next) (mid : Whole) : Type 0 where
          there : Stands here (inner framed) next
          entered_is : IsEntered program settings laws grammar clean shapes
              (body_place framed here mid) routine.procedure.body
          known : IsKnownAt program settings laws grammar clean name (inner framed) shapes
          like : IsLike tables here (inner framed) next mid
              (seen_store here framed.numbers.arrays mid) mid

        -- it goes to where something holds, and that is what the call asks for
        body_ends : (IsAlike : Store → Whole → Type 0)
            (IsEnd : List Spot → Framed → Next → Whole → Store → Whole → Type 0)
            → ((framed : Framed) (here : List Spot) (next : Next) (mid : Whole)
            → IsBegun framed here next mid → HasRoom tables next (rest framed next)
            → Agrees (IsEnd here framed next mid) n 0 (body_run framed here mid)
            (does tables n (rest framed next).code mid))
            → ((framed : Framed) (here : List Spot) (next : Next) (mid : Whole)
            → Framing tables spots low_next.scalars arrays framed here next → IsBefore low_next next
            → Keeps (numbered spots) low_next start mid → (s : Store) (v : Whole)
            → IsEnd here framed next mid s v → IsAlike (cut_back begun s) v)
            → Entered IsAlike
        body_ends IsAlike IsEnd goes ends framed here next mid f framed_is before sound kept fresh clear
            room reached =
            let globals = own.globals in
            let xs = framed.numbers.arrays in
            let count : length xs ≡ length arrays + length f.own =
            ap length f.arrays_are ∙ length-append arrays f.own in
            let known : AreKnown (length (numbered spots)) (length arrays) globals =
            subst (λ (s : Setup). AreKnown (length (numbered spots)) (length arrays) s.globals)
            inside.owned stands.globals in
            let unmoved : seen_names spots globals ≡ globals =
            subst (λ (s : Setup). seen_names spots s.globals ≡ s.globals) inside.owned stands.unmoved in
            let still : seen_names here globals ≡ globals =
            ap (λ (ys : List Spot). seen_names ys globals) f.frame.is
            ∙ names_below spots f.frame.more (length arrays) globals known ∙ unmoved in
            let longer = longer_spots spots f.frame.more here f.frame.is in
            let more_known : AreKnown (length (numbered here)) (length xs) globals =
            known_more (length (numbered spots)) (length (numbered here)) (length xs) globals longer
            (arrays_more (length (numbered spots)) (length arrays) (length xs) globals
            (omega (arith, count)) known) in
            let place_is : body_place framed here mid
            ≡ place_in own routine called (seen_frame here framed mid) =
            ap (λ (ns : Names). record (body_place framed here mid) {
              environment = record { names = ns };
            })
            (map_append (λ (e : List ℕ × Thing). (e.0, seen_thing here e.1)) framed.names globals
            ∙ ap (λ (gs : Names). seen_names here framed.names ++ gs) still)
            ∙ ap (λ (c : Currents). record (place_in own routine called (seen_frame here framed mid)) {
              currents = c;
            })
            (currents_kept start mid low_next.slots kept.slots w.currents stands.taken) in
            let at : IsBegun framed here next mid = record {
              there = record {
                numbers = f.frame.numbers;
                rises = f.frame.rises;
                known = known_both (length (numbered here)) (length xs) framed.names globals
                    f.frame.known more_known;
                globals = more_known;
                unmoved = still;
                taken = all_taken_on w.currents low_next.slots next.slots before.slots stands.taken;
                edge = tt;
                declared = omega (
                  arith,
                  before.slots,
                  subst (λ (s : Setup). length s.known.regions ≤ low_next.slots) inside.owned
                      stands.declared,
                );
                stored = f.apart;
              };
              entered_is = subst (λ (p : Place). IsEntered program settings laws grammar clean shapes p
                  routine.procedure.body) (sym place_is) reached;
              known = known_inside framed next framed_is;
              like = record {
                seen = refl;
                sound = sound;
                kept = keeps_all (numbered here) next mid;
                held = held_inside framed here next mid f sound kept;
              };
            } in
            subst (λ (p : Place). Agrees IsAlike n 0
            (returned begun (mean.exec (record { place = p; call = call_at own n depth }) n
            routine.procedure.body (seen_store here xs mid)))
            (does tables n (rest framed next).code mid)) place_is
            (stored_agrees (IsEnd here framed next mid) IsAlike n 0 _ _ (cut_back begun)
            (ends framed here next mid f before kept) (goes framed here next mid at room))
          where
            held_inside : (framed : Framed) (here : List Spot) (next : Next) (mid : Whole)
                → Framing tables spots low_next.scalars arrays framed here next → IsSound tables mid
                → Keeps (numbered spots) low_next start mid
                → IsHeld tables own.known framed.numbers.arrays w.currents mid.slots
            held_inside framed here next mid f sound kept =
                let h = held_on tables w.setup.known arrays w.currents low_next.slots now mid
                (sound.filled.slots ∙ sym many) (λ k lt. kept.slots k lt ∙ sym (same k lt))
                stands.taken stands.declared held in
                record {
                  stored = f.stored;
                  apart = apart_in tables 0 framed.numbers.arrays next.arrays (omega arith) f.apart
                      f.stored;
                  one = h.one;
                  two = h.two;
                  three = h.three;
                  declared = subst (λ (s : Setup). AreDeclared 0 s.known.regions mid.slots) inside.owned
                      h.declared;
                }

        -- what is alike in the body is alike at the call, without the body's own variables
        like_outside : (framed : Framed) (here : List Spot) (next : Next) (mid : Whole)
            → Framing tables spots low_next.scalars arrays framed here next → IsBefore low_next next
            → Keeps (numbered spots) low_next start mid → (s : Store) (v : Whole)
            → IsLike tables here (inner framed) next mid s v → Like (cut_back begun s) v
        like_outside framed here next mid f before kept s v l = record {
          seen = ap (cut_back begun) l.seen
              ∙ ap (λ (ys : List Stored). cut_back begun (seen_store here ys v)) f.arrays_are
              ∙ ap (λ (ys : List Spot). cut_back begun (seen_store ys (arrays ++ f.own) v)) f.frame.is
              ∙ cut_seen spots f.frame.more arrays f.own now v;
          sound = l.sound;
          kept = record {
            hidden = λ k lt m.
                l.kept.hidden k (omega (arith, lt, before.scalars))
                (subst (λ (ys : List Spot). Misses (numbered ys) k) (sym f.frame.is)
                (subst (λ (ks : List ℕ). Misses ks k) (sym (numbered_append spots f.frame.more))
                (misses_more (numbered spots) (numbered f.frame.more) low_next.scalars k lt
                f.frame.above m)))
                ∙ kept.hidden k lt m;
            slots = λ k lt. l.kept.slots k (omega (arith, lt, before.slots)) ∙ kept.slots k lt;
          };
          held = record {
            stored = held.stored;
            apart = held.apart;
            one = l.held.one;
            two = l.held.two;
            three = l.held.three;
            declared = subst (λ (s : Setup). AreDeclared 0 s.known.regions v.slots)
                (sym inside.owned) l.held.declared;
          };
        }

        -- a body of statements
        pub body_goes : IsShownRoutine Text program IsCallable false routine → Entered Like
        body_goes shown =
            body_ends Like (λ here framed next mid. IsLike tables here (inner framed) next mid)
            (λ framed here next mid at room.
            suited_agrees_by (world depth) OperatedValue OperatedValue (Leaf IsCallable)
            (operated_tests (world depth)) (operated_values (world depth)) (leaves.go depth IsCallable calls)
            routine.procedure.body (sight here) (inner framed) next mid at.there
            (stmt_suits program settings laws grammar clean name accepted.proper accepted.ranked
            (Leaf IsCallable) (Text IsCallable) (leaves.suits name IsCallable)
            routine.procedure.body here (inner framed) (body_place framed here mid).environment
            answer (seen_currents mid w.currents) None shapes at.entered_is.here
            at.entered_is.visited at.known (begins_seen here (inner framed) mid answer)
            at.entered_is.bounded shown (accepted.posts name routine named))
            room (seen_store here framed.numbers.arrays mid) mid at.like) like_outside

        -- a body that ends in a `return`, where a new scalar takes the answer
        pub body_answers : IsShownRoutine Text program IsCallable true routine → (base : List Spot)
            → spots ≡ with_answer base (pos 0) → answer ≡ length base
            → Entered (HasAnswered tables base w low_next start target)
        body_answers shown base spots_are place_is =
            body_ends (HasAnswered tables base w low_next start target)
            (λ here framed next mid. HasReturned tables (sight here) (inner framed) next mid)
            (λ framed here next mid at room.
            body_returns (world depth) OperatedValue (return_goes (world depth))
            (λ stmt w place. SuitsStmtBy IsUnder OperatedValue OperatedValue (Leaf IsCallable) stmt w place)
            (suited_agrees_by (world depth) OperatedValue OperatedValue (Leaf IsCallable)
            (operated_tests (world depth)) (operated_values (world depth)) (leaves.go depth IsCallable calls))
            routine.procedure.body (sight here) (inner framed) next mid at.there
            (answering_suits program settings laws grammar clean name accepted.proper
            accepted.ranked (Leaf IsCallable) (Text IsCallable) (leaves.suits name IsCallable)
            routine.procedure.body here (inner framed) (body_place framed here mid).environment
            answer (seen_currents mid w.currents) None shapes at.entered_is.here
            at.entered_is.visited at.known (begins_seen here (inner framed) mid answer)
            at.entered_is.bounded shown (accepted.posts name routine named))
            room (seen_store here framed.numbers.arrays mid) mid at.like)
            (λ framed here next mid f before kept s v h. record {
              before = seen_store base arrays h.mid;
              mid = h.mid;
              value = h.value;
              integer = h.integer;
              like = plain_like base (pos 0) tables w low_next start (cut_back begun h.before) h.mid
                  (subst (λ (ys : List Spot). IsLike tables ys w low_next start (cut_back begun h.before)
                  h.mid) spots_are
                  (like_outside framed here next mid f before kept h.before h.mid h.like));
              store_is = ap (cut_back begun) h.store_is
                  ∙ ap (λ (x : Store). cut_back begun (with_scalar x answer h.value)) h.like.seen
                  ∙ ap (λ (ys : List Stored). cut_back begun
                  (with_scalar (seen_store here ys h.mid) answer h.value)) f.arrays_are
                  ∙ ap (λ (ys : List Spot). cut_back begun
                  (with_scalar (seen_store ys (arrays ++ f.own) h.mid) answer h.value))
                  (f.frame.is ∙ ap (λ (ys : List Spot). ys ++ f.frame.more) spots_are
                  ∙ append_assoc base (Answer (pos 0) ∷ []) f.frame.more)
                  ∙ ap (λ (k : ℕ). cut_back begun (with_scalar
                  (seen_store (base ++ Answer (pos 0) ∷ f.frame.more) (arrays ++ f.own) h.mid) k
                  h.value)) place_is
                  ∙ ap (λ (x : Store). cut_back x (with_scalar
                  (seen_store (base ++ Answer (pos 0) ∷ f.frame.more) (arrays ++ f.own) h.mid)
                  (length base) h.value))
                  (ap (λ (ys : List Spot). seen_store ys arrays now) spots_are
                  ∙ sym (answer_store base (pos 0) arrays now))
                  ∙ returned_store now h.mid base f.frame.more arrays f.own h.value;
              whole_is = h.whole_is;
            })

        pub routine_agrees : (IsAlike : Store → Whole → Type 0) → Entered IsAlike → (next : Next)
            → IsBefore low_next next
            → AllGiven (length (numbered spots)) arrays low_next.scalars givens next.scalars
            → AreGiven program own.known name (formal_names routine.procedure.params) givens
            → MayTake clears givens → AreFresh clears next.scalars now
            → AreFreshArrays tables clears next.arrays now
            → HasRoom tables next
            (low.routine_code own clears (low.call_code own depth) (Some routine) calling next)
            → (store : Store) → Like store now
            → IsReached (entered own routine called.actuals store)
            → Agrees IsAlike n 0
            (run_routine own n (call_at own n depth) (Some routine) called store)
            (does tables n
            (low.routine_code own clears (low.call_code own depth) (Some routine) calling next).code now)
        routine_agrees IsAlike goes next before given told may fresh clear room store like reached =
            let params = routine.procedure.params in
            let formals = formal_names params in
            let locals = routine.procedure.locals in
            let empty : Framed = record { names = []; numbers = w.numbers } in
            let inner = low.in_call (low.reads_round own.program routine) next in
            let code = low.routine_code own clears (low.call_code own depth) (Some routine) calling
            next in
            let body = low.body_code own entry (low.call_code own depth) routine calling inner in
            let counted : length body.copies ≡ low.reads_round program routine =
            body_counted program settings grammar clean
            (λ place stmt visited. (
              accepted.proper place stmt visited,
              accepted.ranked place stmt visited,
            )) depth entry routine among spots now calling inner called store reached.visited in
            let scope = head_scope of.earlier routine.procedure in
            let first = given_frames line formals givens empty inner in
            let fits = vars_fit own scope locals (accepted.declared routine among of.earlier of.own) in
            let has : HasKept w.numbers routine.own
            (local_frames own entry locals first.frame first.next).frame =
            subst (λ (xs : List Entry). HasKept w.numbers xs
            (local_frames own entry locals first.frame first.next).frame) (sym of.own)
            (locals_kept w.numbers own entry scope locals
            (accepted.declared routine among of.earlier of.own) first.frame first.next
            (flat_map (λ (param : Param). map
            (entry_for (variable_kind scope param.shape param.base)) param.names) params)
            (formals_kept w.numbers line params scope empty inner [] givens
            (subst (λ (s : Signature). AreGivenOf w.numbers s.formals givens) of.signed givens_are)
            (record { grows = grows_none w.numbers; kept = Nothing }))) in
            let framed_is : IsFramed (local_frames own entry locals first.frame first.next).frame
            (local_frames own entry locals first.frame first.next).next =
            record {
              has = has;
              kept = vars_kept own entry locals first.frame first.next fits
                  (given_kept line formals givens empty inner (length (numbered spots)) arrays
                  low_next.scalars next.scalars given inside.kept inside.kept);
              homes = accepted.homes name routine named entry calling inner told;
            } in
            let all = locals_go tables n own entry spots low_next arrays start IsAlike 0 locals IsFramed
            IsReached run rest fits goes in
            subst (λ (s : Store). IsReached (entered own routine called.actuals s)
            → Agrees IsAlike n 0 (run_routine own n (call_at own n depth) (Some routine) called s)
            (does tables n code.code now)) (sym like.seen)
            (givens_go tables n own entry spots low_next arrays start IsAlike 0
            stands.stored inside.kept held.stored
            (λ framed next. IsFramed (local_frames own entry locals framed next).frame
            (local_frames own entry locals framed next).next)
            (λ frame. IsReached (with_variables own.known own.borders frame locals))
            (λ frame. run (with_variables own.known own.borders frame locals))
            (λ framed next. low.locals_code own entry locals framed next rest) all formals givens empty
            spots inner now low_next.scalars (omega arith) given
            (record {
              frame = record {
                more = [];
                is = sym (append-nil spots);
                above = tt;
                numbers = stands.numbers;
                arrays_are = refl;
                rises = stands.rises;
                known = tt;
              };
              own = [];
              arrays_are = sym (append-nil arrays);
              apart = rises_on 0 (array_numbers arrays) low_next.arrays inner.arrays before.arrays
                  stands.stored;
              stored = held.stored;
            })
            framed_is
            (record { scalars = before.scalars; slots = before.slots; arrays = before.arrays })
            like.sound like.kept may fresh clear
            (room_inside tables next (low.reads_round program routine) body counted room))
            reached

      -- ---- down the chain of calls

      abbrev MayCall : ℕ → Bool → List ℕ → Type 0
      MayCall depth = IsShownCall Text program depth

      abbrev IsCalled : ℕ → Bool → Where → List Given → Called → Type 0
      IsCalled depth = IsCalledBy program settings laws grammar clean (MayCall depth)

      -- a call goes on in its procedure
      module _ (depth : ℕ)
          (calls : AreCalls program settings laws grammar clean (MayCall depth) (world depth)) where
        calls_deeper : CallsGo (IsCalled (suc depth) false) (world (suc depth))
        calls_deeper = record {
          by = λ spots w bottom next start name givens line stands before given room store now like
              from.
              let calling = calling_at w name givens 0 line in
              let called = called_at spots w start now name givens 0 in
              let it : IsRoutine Text program (MayCall depth) false name = from.callable in
              let among = found_routine program settings laws grammar clean name it.routine it.named in
              let of = from.of it.routine it.named in
              subst (λ (r : Option Routine).
              HasRoom tables next (low.routine_code own true (low.call_code own depth) r calling next)
              → Agrees (IsLike tables spots w bottom start) n 0
              (run_routine own n (call_at own n depth) r called store)
              (does tables n (low.routine_code own true (low.call_code own depth) r calling next).code
              now))
              (sym it.named)
              (λ room. routine_agrees depth (MayCall depth) calls it.routine among true spots w bottom
              start name givens 0 0 line from.shapes it.named from.comes from.caller from.known
              from.signature of from.givens_are stands now like.sound.filled.slots like.kept.slots
              like.held (IsLike tables spots w bottom start)
              (body_goes depth (MayCall depth) calls it.routine among true spots w bottom start name
              givens 0 0 line from.shapes it.named from.comes from.caller from.known from.signature
              of from.givens_are stands now like.sound.filled.slots like.kept.slots like.held
              it.shown) next before given (from.homes it.routine it.named) tt tt tt room store like
              (from.entered it.routine store it.named)) room;
        }

        answers_deeper : CallsAnswer (IsCalled (suc depth) true) (world (suc depth))
        answers_deeper = record {
          by = λ base w bottom next start name givens target line stands before given room store now like
              from.
              let spots = with_answer base (pos 0) in
              let answer = length base in
              let calling = calling_at w name givens target line in
              let called = called_at base w start now name givens answer in
              let inside = called_at spots w start now name givens answer in
              let it : IsRoutine Text program (MayCall depth) true name = from.callable in
              let among = found_routine program settings laws grammar clean name it.routine it.named in
              let of = from.of it.routine it.named in
              let numbers = answer_numbered base (pos 0) in
              let longer : Stands spots w bottom = answer_stands base (pos 0) w bottom stands in
              let alike = answer_like base (pos 0) tables w bottom start store now like in
              let begun = with_new_scalar store (pos 0) in
              let same : inside ≡ called =
              ap (λ (hs : List Handed). record called { actuals = hs })
              (answer_given base (pos 0) (length (numbered base)) w.numbers.arrays bottom.scalars givens
              next.scalars now refl given) in
              let Ended = HasAnswered tables base w bottom start target in
              subst (λ (c : Called). Agrees Ended n 0
              (call_at own n (suc depth) c begun)
              (does tables n (low.call_code own (suc depth) calling next).code now)) same
              (subst (λ (r : Option Routine).
              HasRoom tables next (low.routine_code own true (low.call_code own depth) r calling next)
              → Agrees Ended n 0 (run_routine own n (call_at own n depth) r inside begun)
              (does tables n (low.routine_code own true (low.call_code own depth) r calling next).code
              now))
              (sym it.named)
              (λ room. routine_agrees depth (MayCall depth) calls it.routine among true spots w bottom
              start name givens answer target line from.shapes it.named from.comes from.caller
              from.known from.signature of from.givens_are longer now like.sound.filled.slots
              like.kept.slots like.held Ended (body_answers depth (MayCall depth) calls it.routine
              among true spots w bottom start name givens answer target line from.shapes it.named
              from.comes from.caller from.known from.signature of from.givens_are longer now
              like.sound.filled.slots like.kept.slots like.held it.shown base refl refl) next before
              (subst (λ (ks : List ℕ). AllGiven (length ks) w.numbers.arrays bottom.scalars givens
              next.scalars) (sym numbers) given)
              (from.homes it.routine it.named) tt tt tt room begun alike
              (subst (λ (c : Called). IsEntered program settings laws grammar clean from.shapes
              (place_in own it.routine c (entered own it.routine c.actuals begun))
              it.routine.procedure.body) (sym same) (from.entered it.routine begun it.named))) room);
        }

      pub calls_go : (depth : ℕ)
          → AreCalls program settings laws grammar clean (MayCall depth) (world depth)
      calls_go zero = record {
        go = record {
          by = λ spots w bottom next start name givens line stands before given room store now like
              from.
              absurd from.callable;
        };
        answer = record {
          by = λ base w bottom next start name givens target line stands before given room store now
              like from.
              absurd from.callable;
        };
      }
      calls_go (suc depth) =
          record { go = calls_deeper depth (calls_go depth); answer = answers_deeper depth (calls_go depth) }
