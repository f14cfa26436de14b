-- The code of a procedure goes as a call of it does.
use Rattle.std.proofs.Common.{◌≡◌, ℕ, zero, suc, ◌≤◌, ◌<◌, Bool, true, List, [], ◌∷◌}
use Rattle.std.proofs.Common.{◌+◌, ◌++◌, length, Option, Some, refl, sym, ap, ◌∙◌, subst, arith, append-nil}
use Rattle.zpl_region.specs.declared.regions.Region.{Region}
use Rattle.zpl_tree.specs.Syntax.{Stmt}
use Rattle.zpl_names.specs.Declared.{Routine}
use Rattle.zpl_names.specs.Expansion.{formal_names}
use Rattle.lowering_fits.specs.of_zpl_meaning.Store.{Thing, Names, Store, cut_back}
use Rattle.lowering_fits.specs.of_zpl_meaning.Context.{Setup, Place, Currents}
use Rattle.lowering_fits.specs.of_zpl_meaning.Outcome.{Outcome}
use Rattle.lowering_fits.specs.of_zpl_meaning.Variables.{Frame, with_variables}
use Rattle.lowering_fits.specs.of_zpl_meaning.Calls.{Called, entered, place_in}
use Rattle.lowering_fits.specs.of_zpl_meaning.Proper.{IsProperStmt}
use Rattle.lowering_fits.specs.of_zpl_meaning.Program.{returned, run_routine, call_at}
use Rattle.lowering_fits.specs.of_zpl_meaning.Statement.{exec}
use Rattle.lowering_fits.specs.of_zpl_meaning.Visited.{IsVisited}
use Rattle.node_form.specs.declared.tables.Tables.{Tables}
use Rattle.lowering_fits.specs.of_flat_form.Whole.{Whole}
use Rattle.lowering_fits.specs.of_zpl_lowering.Where.{Where, Next, Stored}
use Rattle.lowering_fits.specs.of_zpl_lowering.Lowered.{Lowered}
use Rattle.lowering_fits.specs.of_zpl_lowering.Statement.{Given, Calling, lowered}
use Rattle.lowering_fits.specs.of_zpl_lowering.Program as low
use Rattle.lowering_fits.specs.of_zpl_lowering.Program.{Framed, Entry}
use Rattle.lowering_runs.specs.Seen.{Spot, At, Answer, Sight, seen_place, seen_store, seen_names, seen_thing, numbered, slot_in}
use Rattle.lowering_runs.specs.Run.{does}
use Rattle.lowering_runs.specs.Agrees.{Agrees}
use Rattle.lowering_runs.specs.Stands.{Rises, Misses, IsBefore, array_numbers, AreKnown, CopiesAt, Stands, HasRoom, IsLike, IsHeld}
use Rattle.lowering_runs.specs.Frames.{seen_frame, AreGiven, IsFresh}
use Rattle.lowering_runs.specs.Goes.{World}
use Rattle.lowering_runs.specs.Called.{calling_at, called_at, CallsAgree}
use Rattle.lowering_runs.specs.ScalarText.{IsScalarRoutine, IsScalarCall}
use Rattle.lowering_runs.proofs.AgreeLemmas.{stored_agrees}
use Rattle.lowering_runs.proofs.FitLemmas.{all_taken_on, currents_kept, keeps_all, held_on}
use Rattle.lowering_runs.proofs.FrameLemmas.{map_append, numbered_append, names_below, known_both, known_more, misses_more, cut_seen}
use Rattle.lowering_runs.proofs.NumberLemmas.{rises_on}
use Rattle.lowering_runs.proofs.BodyLemmas.{GoesOn, givens_framed, locals_go}
use Rattle.lowering_runs.proofs.StatementLemmas.{stmt_agrees}
use Rattle.lowering_runs.proofs.UncopiedLemmas.{body_uncopied, call_uncopied}

no_shorter : (xs ys : List Spot) → length (numbered xs) ≤ length (numbered (xs ++ ys))
no_shorter [] ys = omega arith
no_shorter (At k ∷ xs) ys = let l = no_shorter xs ys in omega (arith, l)
no_shorter (Answer value ∷ xs) ys = no_shorter xs ys

module _ (tables : Tables) (n : ℕ) (setup : Setup)
    (proper : (place : Place) (stmt : Stmt) → IsVisited setup place stmt → IsProperStmt place stmt)
  where
    abbrev world : ℕ → World
    world depth = record {
      tables = tables;
      turns = n;
      call = call_at setup n depth;
      code = low.call_code setup depth;
    }

    module _ (depth : ℕ) (calls : CallsAgree (world depth) setup (IsScalarCall setup.program depth))
        (routine : Routine)
        (scalar : IsScalarRoutine setup.program (IsScalarCall setup.program depth) routine)
        (clears : Bool) (spots : List Spot) (w : Where) (low_next : Next) (start : Whole)
        (name : List ℕ) (givens : List Given) (line : ℕ) (setup_is : w.setup ≡ setup)
        (stands : Stands spots w low_next) (now : Whole)
        (many : length now.slots ≡ length tables.slots)
        (same : (k : ℕ) → k < low_next.slots → slot_in now k ≡ slot_in start k)
        (held : IsHeld tables w.setup.known w.numbers.arrays w.currents now.slots) where
      abbrev Like : Store → Whole → Type 0
      Like = IsLike tables spots w low_next start

      abbrev arrays : List Stored
      arrays = w.numbers.arrays

      abbrev calling : Calling
      calling = calling_at w name givens 0 line

      abbrev called : Called
      called = called_at spots w start now name givens 0

      abbrev entry : Entry
      entry = record { clears = clears; line = line }

      abbrev begun : Store
      begun = seen_store spots arrays now

      abbrev run : Frame → Outcome
      run frame =
          returned begun
          (exec (record { place = place_in setup routine called frame; call = call_at setup n depth }) n
          routine.procedure.body frame.store)

      abbrev rest : Framed → Next → Lowered
      rest framed last =
          lowered (record {
            place = low.where_in setup routine calling framed;
            call = low.call_code setup depth;
          }) last routine.procedure.body

      abbrev IsReached : Frame → Type 0
      IsReached frame = IsVisited setup (place_in setup routine called frame) routine.procedure.body

      body_goes : GoesOn tables n setup entry spots low_next arrays start Like 0 IsReached run rest
      body_goes framed here next mid f before sound kept fresh room reached =
          let inside = low.where_in setup routine calling framed in
          let sight : Sight = record { spots = here; answer = 0 } in
          let globals = setup.globals in
          let known : AreKnown (length (numbered spots)) (length arrays) globals =
          subst (λ (s : Setup). AreKnown (length (numbered spots)) (length arrays) s.globals) setup_is
          stands.globals in
          let unmoved : seen_names spots globals ≡ globals =
          subst (λ (s : Setup). seen_names spots s.globals ≡ s.globals) setup_is stands.unmoved in
          let still : seen_names here globals ≡ globals =
          ap (λ (xs : List Spot). seen_names xs globals) f.is
          ∙ names_below spots f.more (length arrays) globals known ∙ unmoved in
          let longer : length (numbered spots) ≤ length (numbered here) =
          subst (λ (xs : List Spot). length (numbered spots) ≤ length (numbered xs)) (sym f.is)
          (no_shorter spots f.more) in
          let more_known : AreKnown (length (numbered here)) (length framed.numbers.arrays) globals =
          subst (λ (xs : List Stored). AreKnown (length (numbered here)) (length xs) globals)
          (sym f.arrays_are)
          (known_more (length (numbered spots)) (length (numbered here)) (length arrays) globals longer
          known) in
          let own_known : AreKnown (length (numbered here)) (length framed.numbers.arrays) framed.names =
          subst (λ (xs : List Stored). AreKnown (length (numbered here)) (length xs) framed.names)
          (sym f.arrays_are) f.known in
          let place_is : seen_place sight inside mid
          ≡ place_in setup routine called (seen_frame here framed mid) =
          ap (λ (ns : Names). record (seen_place sight inside mid) { environment = record { names = ns } })
          (map_append (λ (e : List ℕ × Thing). (e.0, seen_thing here e.1)) framed.names globals
          ∙ ap (λ (gs : Names). seen_names here framed.names ++ gs) still)
          ∙ ap (λ (c : Currents). record (place_in setup routine called (seen_frame here framed mid)) {
            currents = c;
          })
          (currents_kept start mid low_next.slots kept.slots w.currents stands.taken) in
          let agrees : Agrees (IsLike tables here inside next mid) n 0
          (exec (record { place = seen_place sight inside mid; call = call_at setup n depth }) n
          routine.procedure.body (seen_store here framed.numbers.arrays mid))
          (does tables n (rest framed next).code mid) =
          stmt_agrees (world depth) setup (IsScalarCall setup.program depth) calls proper
          routine.procedure.body sight inside next mid
          (record {
            numbers = f.numbers;
            rises = f.rises;
            known = known_both (length (numbered here)) (length framed.numbers.arrays) framed.names
                globals own_known more_known;
            globals = more_known;
            unmoved = still;
            taken = all_taken_on w.currents low_next.slots next.slots before.slots stands.taken;
            edge = tt;
            declared = omega (
              arith,
              before.slots,
              subst (λ (s : Setup).
                  length s.known.regions ≤ low_next.slots) setup_is stands.declared,
            );
            stored = subst (λ (xs : List Stored). Rises 0 (array_numbers xs) next.arrays)
                (sym f.arrays_are)
                (rises_on 0 (array_numbers arrays) low_next.arrays next.arrays before.arrays
                stands.stored);
          })
          (record {
            setup_is = refl;
            visited = subst (λ (p : Place). IsVisited setup p routine.procedure.body) (sym place_is)
                reached;
            scalar = scalar.1;
          })
          room (seen_store here framed.numbers.arrays mid) mid
          (record {
            seen = refl;
            sound = sound;
            kept = keeps_all (numbered here) next mid;
            held = subst (λ (s : Setup).
                IsHeld tables s.known framed.numbers.arrays w.currents mid.slots) setup_is
                (subst (λ (xs : List Stored). IsHeld tables w.setup.known xs w.currents mid.slots)
                (sym f.arrays_are) (held_on tables w.setup.known arrays w.currents low_next.slots now mid
                (sound.filled.slots ∙ sym many) (λ k lt. kept.slots k lt ∙ sym (same k lt))
                stands.taken stands.declared held));
          }) in
          subst (λ (p : Place). Agrees Like n 0
          (returned begun (exec (record { place = p; call = call_at setup n depth }) n
          routine.procedure.body (seen_store here framed.numbers.arrays mid)))
          (does tables n (rest framed next).code mid)) place_is
          (stored_agrees (IsLike tables here inside next mid) Like n 0 _ _ (cut_back begun)
          (λ s v l. record {
            seen = ap (cut_back begun) l.seen
                ∙ ap (λ (xs : List Stored). cut_back begun (seen_store here xs v)) f.arrays_are
                ∙ ap (λ (xs : List Spot). cut_back begun (seen_store xs arrays v)) f.is
                ∙ cut_seen spots f.more arrays now v;
            sound = l.sound;
            kept = record {
              hidden = λ k lt m.
                  l.kept.hidden k (omega (arith, lt, before.scalars))
                  (subst (λ (xs : List Spot). Misses (numbered xs) k) (sym f.is)
                  (subst (λ (ks : List ℕ). Misses ks k) (sym (numbered_append spots f.more))
                  (misses_more (numbered spots) (numbered f.more) low_next.scalars k lt f.above m)))
                  ∙ kept.hidden k lt m;
              slots = λ k lt. l.kept.slots k (omega (arith, lt, before.slots)) ∙ kept.slots k lt;
            };
            held = subst (λ (s : Setup). IsHeld tables s.known arrays w.currents v.slots)
                (sym setup_is) (subst (λ (xs : List Stored).
                IsHeld tables setup.known xs w.currents v.slots) f.arrays_are l.held);
          }) agrees)

      pub routine_agrees : (next : Next) → IsBefore low_next next
          → AreGiven (length (numbered spots)) (length arrays) low_next.scalars givens next.scalars
          → IsFresh clears next.scalars now
          → HasRoom tables next
          (low.routine_code setup clears (low.call_code setup depth) (Some routine) calling next)
          → (store : Store) → Like store now
          → IsReached (entered setup routine called.actuals store)
          → Agrees Like n 0
          (run_routine setup n (call_at setup n depth) (Some routine) called store)
          (does tables n
          (low.routine_code setup clears (low.call_code setup depth) (Some routine) calling next).code
          now)
      routine_agrees next before given fresh room store like reached =
          let formals = formal_names routine.procedure.params in
          let locals = routine.procedure.locals in
          let empty : Framed = record { names = []; numbers = w.numbers } in
          let inner = low.in_call (low.reads_round setup.program routine) next in
          let code = low.routine_code setup clears (low.call_code setup depth) (Some routine) calling
          next in
          let body = low.body_code setup entry (low.call_code setup depth) routine calling inner in
          let none = body_uncopied setup (IsScalarCall setup.program depth) (low.call_code setup depth)
          (call_uncopied setup depth) entry routine scalar calling inner in
          let arrays_behind = inner.arrays + length body.arrays in
          let body_room : HasRoom tables inner body = record {
            scalars = room.scalars;
            slots = room.slots;
            arrays = room.arrays;
            copies = subst (λ (xs : List Region).
                CopiesAt tables.arrays arrays_behind inner.temps inner.copies xs) (sym none.0) tt;
            later = subst (λ (xs : List Region).
                CopiesAt tables.arrays arrays_behind inner.temps inner.later xs) (sym none.1) tt;
            temps = room.temps;
          } in
          let g = givens_framed spots low_next.scalars arrays formals givens empty spots line inner now
          low_next.scalars next.scalars (omega arith) given
          (record {
            more = [];
            is = sym (append-nil spots);
            above = tt;
            numbers = stands.numbers;
            arrays_are = refl;
            rises = stands.rises;
            known = tt;
          }) in
          let framed_code : Next → Lowered =
          λ next. low.locals_code setup entry locals g.frame next rest in
          let code_is : low.body_code setup entry (low.call_code setup depth) routine calling inner
          ≡ framed_code inner =
          g.code_is (λ frame after. low.locals_code setup entry locals frame after rest) in
          let all = locals_go tables n setup entry spots low_next arrays start Like 0 locals IsReached run
          rest scalar.0 body_goes in
          subst (λ (s : Store). IsReached (entered setup routine called.actuals s)
          → Agrees Like n 0 (run_routine setup n (call_at setup n depth) (Some routine) called s)
          (does tables n code.code now)) (sym like.seen)
          (λ reached.
          subst (λ (x : Lowered). Agrees Like n 0 (run (entered setup routine called.actuals begun))
          (does tables n x.code now)) (sym code_is)
          (subst (λ (x : Frame). IsReached (with_variables setup.known setup.borders x locals)
          → Agrees Like n 0 (run (with_variables setup.known setup.borders x locals))
          (does tables n (framed_code inner).code now)) (sym g.frame_is)
          (all g.frame g.sight inner now g.framing
          (record { scalars = before.scalars; slots = before.slots; arrays = before.arrays }) like.sound like.kept fresh
          (subst (λ (x : Lowered). HasRoom tables inner x) code_is
          body_room))
          reached))
          reached

    -- ---- down the chain of calls

    pub calls_agree : (depth : ℕ) → CallsAgree (world depth) setup (IsScalarCall setup.program depth)
    calls_agree zero = record {
      by = λ spots w bottom next start name givens line setup_is stands before served given room store
          now like visited. absurd served;
    }
    calls_agree (suc depth) = record {
      by = λ spots w bottom next start name givens line setup_is stands before served given room store
          now like visited.
          let calling = calling_at w name givens 0 line in
          let called = called_at spots w start now name givens 0 in
          subst (λ (r : Option Routine).
          HasRoom tables next
          (low.routine_code setup true (low.call_code setup depth) r calling next)
          → Agrees (IsLike tables spots w bottom start) n 0
          (run_routine setup n (call_at setup n depth) r called store)
          (does tables n
          (low.routine_code setup true (low.call_code setup depth) r calling next).code now))
          (sym served.named)
          (λ room. routine_agrees depth (calls_agree depth) served.routine served.scalar true spots w
          bottom start name givens line setup_is stands now like.sound.filled.slots like.kept.slots
          like.held next before given tt room store like
          (visited served.routine store served.named)) room;
    }
