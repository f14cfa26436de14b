-- Calls fit, down a chain of procedures.
use Rattle.std.proofs.Common.{◌≡◌, ℕ, zero, suc, ◌+◌, ◌<◌, ◌≤◌, true, false, List, [], ◌∷◌, ◌++◌, map, length, refl, sym, ap, ◌∙◌, subst, arith, true≢false, rules}
use Rattle.std.specs.Prelude.{Option, Some, None, slice_get}
use Rattle.std.specs.List.{flat_map}
use Rattle.std.specs.Option.{IsSomeAnd, is_some}
use Rattle.zpl_region.specs.declared.regions.Region.{Region}
use Rattle.meaning_ranks.specs.of_zpl_tree.Grammar.{IsProgram}
use Rattle.meaning_ranks.specs.of_zpl_tree.Syntax.{Base, Name, Exprs, NoExpr, ThenExpr, Prefix, Prefixed, Form, Assign, Invoke, Block, If, While, Repeat, For, Border, Write, Return, Param, Program}
use Rattle.meaning_ranks.specs.of_zpl_names.Kinds as kind
use Rattle.meaning_ranks.specs.of_zpl_names.Kinds.{Kind, Shape, Formal, ScalarFormal, ArrayFormal, Signature}
use Rattle.meaning_ranks.specs.of_zpl_names.Scope.{Entry, Scope, kind_in, kind_of, is_procedure}
use Rattle.meaning_ranks.specs.of_zpl_names.Ranks.{array_shape}
use Rattle.meaning_ranks.specs.of_zpl_names.Shapes.{Shapes, unknown_shapes, variable_kind}
use Rattle.meaning_ranks.specs.of_zpl_names.Faults.{answers}
use Rattle.meaning_ranks.specs.of_zpl_names.Accepted.{IsFaultless}
use Rattle.meaning_ranks.specs.of_zpl_names.Declared.{Routine, IsProcedureOf, own_entries, globals_of, head_scope, entry_for, routines_of, scope_of}
use Rattle.meaning_ranks.specs.of_zpl_names.Expansion.{formal_names}
use Rattle.meaning_ranks.specs.of_zpl_names.Reached.{IsReached, Called as Reaching}
use Rattle.meaning_ranks.specs.of_zpl_names.Sites.{Reach, AsStatement as AsOne, call_place, routine_sites}
use Rattle.meaning_ranks.proofs.of_zpl_names.ListLemmas.{Among}
use Rattle.meaning_ranks.proofs.of_zpl_names.NameLemmas.{no_place}
use Rattle.meaning_ranks.specs.of_zpl_binding.Settings.{Setting}
use Rattle.meaning_ranks.specs.of_zpl_meaning.Store.{Thing, Scalar, ArrayAt, Fixed, Names, Environment, thing_of}
use Rattle.meaning_ranks.specs.of_zpl_meaning.Context.{Mask, Over, Currents, Setup, Place}
use Rattle.meaning_ranks.specs.of_zpl_meaning.Calls.{formals_in, actual_thing}
use Rattle.meaning_ranks.specs.of_zpl_meaning.Proper.{AreProperActuals}
use Rattle.meaning_ranks.specs.of_zpl_meaning.Visited.{IsCall, AsStatement, AsAnswer, first_setup}
use Rattle.meaning_ranks.proofs.of_zpl_meaning.NamesLemmas.{routine_sound}
use Rattle.meaning_ranks.proofs.of_zpl_meaning.ProperLemmas.{taken}
use Rattle.meaning_ranks.proofs.of_zpl_meaning.VisitLemmas.{Laws, Inside, InStmt, call_there}
use Rattle.meaning_ranks.proofs.PlaceLemmas.{inside_at, same_scope, visited_at}
use Rattle.stored_shifts.specs.of_node_form.declared.tables.Tables.{Tables}
use Rattle.lower_numbers.specs.of_zpl_lowering.Where.{Stored, Numbers, Slotted, SlotCurrents, slotted_or, Where, Next}
use Rattle.lower_numbers.specs.of_zpl_lowering.Lowered.{Lowered}
use Rattle.lower_numbers.specs.of_zpl_lowering.Statement.{Given, Copied, referring, copying, value_exprs, given_to, Calling}
use Rattle.lower_numbers.specs.of_zpl_lowering.Program.{Framed, Entry as CallEntry, where_in, body_code, reads_round, in_call, out_of_call, routine_code, call_code}
use Rattle.lowering_fits.specs.Slates.{StoragesAt, AllStored, FitNumbers, HasStorage, IsMaskOf}
use Rattle.lowering_fits.specs.Storages.{IsStorage, AllKept}
use Rattle.lowering_fits.specs.Declarations.{FitAllDeclared}
use Rattle.lowering_fits.specs.Reach.{place_at, FitsName, FitNames, FitsKnown, FitsCurrent, FitCurrents, IsKept, named_thing, AreGlobals, IsReach}
use Rattle.lowering_fits.specs.Lowerings.{IsLaidOut, FitsLowered, answering}
use Rattle.lowering_fits.specs.Standing.{HasAnswer, calling_of, CallsFit, IsStanding}
use Rattle.lowering_fits.specs.Whole.{FitsGivens, AllVars, given_frames, body_frames}
use Rattle.lowering_fits.proofs.PartLemmas.{AreRight}
use Rattle.lowering_fits.proofs.BracketLemmas.{LimitsAreTold}
use Rattle.lowering_fits.proofs.TreeLemmas.{storages_first, storages_rest}
use Rattle.lowering_fits.proofs.PhaseLemmas.{rows_alone_fit}
use Rattle.lowering_fits.proofs.BodyLemmas.{body_fits}
use Rattle.lowering_fits.proofs.SoundLemmas.{body_sound_at}
use Rattle.lowering_fits.proofs.TallyLemmas.{reads_are}
use Rattle.lowering_fits.proofs.NamedLemmas.{OptBelow, AllBelow}
use Rattle.lowering_fits.proofs.MadeProgramLemmas.{givens_below, givens_fine}
use Rattle.lowering_fits.proofs.MadeCallLemmas.{IsCallee, callee_of, IsCallFrom, callee_visited, body_more, all_calls}
use Rattle.lowering_fits.proofs.NumberedLemmas.{any_vars}
use Rattle.lowering_fits.proofs.KeptLemmas.{Grows, grows_none, some_grows, kept_grows, AreKept, Nothing, HasKept, AreGivenOf, formals_kept, locals_kept}
use Rattle.lowering_fits.proofs.ReachLemmas.{names_fit, scalars_are_few, scalars_fit, givens_of}

-- ---- current regions, where numbers grow

mask_grows : (few more : Numbers) → Grows few more → (rank : ℕ) (mask : Option Mask) →
    IsMaskOf few rank mask → IsMaskOf more rank mask
mask_grows few more grows rank None is = tt
mask_grows few more grows rank (Some mask) is =
    some_grows few more grows (λ stored. stored.storage.rank ≡ rank) mask.array is

current_grows : (tables : Tables) (few more : Numbers) → Grows few more → (rank : ℕ)
    (over : Option Over) (slotted : Option Slotted) → FitsCurrent tables few rank over slotted →
    FitsCurrent tables more rank over slotted
current_grows tables few more grows rank None slotted is = tt
current_grows tables few more grows rank (Some over) slotted is = record {
  is_rank = is.is_rank;
  has = is.has;
  floods = is.floods;
  masked = mask_grows few more grows rank (slotted_or slotted).mask is.masked;
}

currents_grow : (tables : Tables) (few more : Numbers) → Grows few more → (currents : Currents)
    (slots : SlotCurrents) → FitCurrents tables few currents slots →
    FitCurrents tables more currents slots
currents_grow tables few more grows currents slots are = record {
  one = current_grows tables few more grows 1 currents.one slots.one are.one;
  two = current_grows tables few more grows 2 currents.two slots.two are.two;
  three = current_grows tables few more grows 3 currents.three slots.three are.three;
}

pub globals_grow : (program : Program) (few more : Numbers) → Grows few more → (globals : Names) →
    AreGlobals program few globals → AreGlobals program more globals
globals_grow program few more grows globals are text thing is =
    let found = are text thing is in
    (found.0, found.1, kept_grows few more grows found.0 thing found.2)

-- ---- places that have numbers

in_list : {A : Type 0} (xs : List A) (place : ℕ) (Holds : A → Type 0) →
    IsSomeAnd (slice_get xs place) Holds → place < length xs
in_list [] place Holds is = absurd is
in_list (x ∷ xs) zero Holds is = omega arith
in_list (x ∷ xs) (suc place) Holds is = let later = in_list xs place Holds is in omega (arith, later)

names_are_below : (scope : Scope) (environment : Environment) (numbers : Numbers) →
    FitNames scope environment numbers → AllBelow (length numbers.arrays) environment
names_are_below scope environment numbers names text =
    by (thing_of environment text)
    (λ place home is. names (record { text = text; at = 0 }) place home is)
  where
    by : (thing : Option Thing) → ((place : ℕ) (home : Region) → thing ≡ Some (ArrayAt place home) →
        FitsName numbers (array_shape (kind_of scope (record { text = text; at = 0 }))) place
        home) → OptBelow (length numbers.arrays) thing
    by None fits = tt
    by (Some (Scalar place)) fits = tt
    by (Some (Fixed value)) fits = tt
    by (Some (ArrayAt place home)) fits =
        in_list numbers.arrays place _ (fits place home refl).has

kept_below : (numbers : Numbers) (one : Kind) (thing : Thing) → IsKept numbers one thing →
    OptBelow (length numbers.arrays) (Some thing)
kept_below numbers one (Scalar place) is = tt
kept_below numbers one (Fixed value) is = tt
kept_below numbers (kind.Array base shape) (ArrayAt place home) is =
    in_list numbers.arrays place _ is.has
kept_below numbers (kind.Scalar base) (ArrayAt place home) is = absurd is
kept_below numbers (kind.Config base) (ArrayAt place home) is = absurd is
kept_below numbers (kind.Constant base) (ArrayAt place home) is = absurd is
kept_below numbers (kind.Region shape) (ArrayAt place home) is = absurd is
kept_below numbers (kind.Direction rank) (ArrayAt place home) is = absurd is
kept_below numbers (kind.Procedure signature) (ArrayAt place home) is = absurd is

globals_below : (program : Program) (numbers : Numbers) (globals : Names) →
    AreGlobals program numbers globals →
    AllBelow (length numbers.arrays) (record { names = globals })
globals_below program numbers globals are text =
    by (named_thing globals text) (are text)
  where
    by : (found : Option Thing) → ((thing : Thing) → found ≡ Some thing → (one : Kind)
        × (kind_in (globals_of program) text ≡ Some one)
        × IsKept numbers one thing) → OptBelow (length numbers.arrays) found
    by None kept = tt
    by (Some thing) kept =
        let one = kept thing refl in kept_below numbers one.0 thing one.2

-- ---- what parameters take

stored_at : (tables : Tables) (arrays : List Stored) (place : ℕ) (stored : Stored) →
    AllStored tables arrays → AllKept arrays → slice_get arrays place ≡ Some stored →
    HasStorage tables stored.storage stored.array × IsStorage stored.storage
stored_at tables [] place stored are kept is = let no : ⊥ = cc in absurd no
stored_at tables (x ∷ xs) zero stored are kept is =
    subst (λ s. HasStorage tables s.storage s.array × IsStorage s.storage) (same x stored is)
    (are.0, kept.0)
  where
    same : (a b : Stored) → Some a ≡ Some b → a ≡ b
    same a b is = cc
stored_at tables (x ∷ xs) (suc place) stored are kept is =
    stored_at tables xs place stored are.1 kept.1 is

module _ (tables : Tables) (w : Where) (currents : Currents) (reach : IsReach tables w currents)
  where
    referring_fits : (thing : Option Thing) (rest : List Given) → FitsGivens tables rest →
        FitsGivens tables (referring thing ++ rest)
    referring_fits None rest are = are
    referring_fits (Some thing) rest are = (tt, are)

    copying_fits : (thing : Option Thing) (rest : List Given) → FitsGivens tables rest →
        FitsGivens tables (copying w.numbers thing ++ rest)
    copying_fits None rest are = are
    copying_fits (Some (Scalar place)) rest are = are
    copying_fits (Some (Fixed value)) rest are = are
    copying_fits (Some (ArrayAt place home)) rest are =
        by (slice_get w.numbers.arrays place) refl
      where
        none : slice_get w.numbers.arrays place ≡ None →
            [] ≡ copying w.numbers (Some (ArrayAt place home))
        none is = search (rules, is)

        copied : (stored : Stored) → slice_get w.numbers.arrays place ≡ Some stored →
            Copied stored home ∷ [] ≡ copying w.numbers (Some (ArrayAt place home))
        copied stored is = search (rules, is)

        by : (found : Option Stored) → slice_get w.numbers.arrays place ≡ found →
            FitsGivens tables (copying w.numbers (Some (ArrayAt place home)) ++ rest)
        by None is =
            subst (λ (some : List Given). FitsGivens tables (some ++ rest)) (none is) are
        by (Some stored) is =
            subst (λ (some : List Given). FitsGivens tables (some ++ rest)) (copied stored is)
            (stored_at tables w.numbers.arrays place stored reach.numbers.arrays reach.kept is, are)

    pub givens_fit_in : (scalar : ℕ) (formals : List Formal) (actuals : Exprs) →
        scalar + length (value_exprs w formals actuals) ≤ tables.scalars →
        FitsGivens tables (given_to w scalar formals actuals)
    givens_fit_in scalar [] actuals below = tt
    givens_fit_in scalar (formal ∷ formals) NoExpr below = tt
    givens_fit_in scalar (ScalarFormal false base ∷ formals) (ThenExpr first rest) below =
        (omega (arith, below), givens_fit_in (suc scalar) formals rest (omega (arith, below)))
    givens_fit_in scalar (ScalarFormal true base ∷ formals) (ThenExpr first rest) below =
        referring_fits (actual_thing w.environment first) (given_to w scalar formals rest)
        (givens_fit_in scalar formals rest below)
    givens_fit_in scalar (ArrayFormal true base shape ∷ formals) (ThenExpr first rest) below =
        referring_fits (actual_thing w.environment first) (given_to w scalar formals rest)
        (givens_fit_in scalar formals rest below)
    givens_fit_in scalar (ArrayFormal false base shape ∷ formals) (ThenExpr first rest) below =
        copying_fits (actual_thing w.environment first) (given_to w scalar formals rest)
        (givens_fit_in scalar formals rest below)

-- ---- where a call comes from

-- what a statement calls has no answer
abbrev IsQuietCall : Form → Option Kind → Type 0
IsQuietCall (Assign name op value) kind = Unit {0}
IsQuietCall (Invoke name actuals) kind = answers kind ≡ false
IsQuietCall (Block body) kind = Unit {0}
IsQuietCall (If arms otherwise) kind = Unit {0}
IsQuietCall (While test body) kind = Unit {0}
IsQuietCall (Repeat body until test) kind = Unit {0}
IsQuietCall (For head body) kind = Unit {0}
IsQuietCall (Border border names) kind = Unit {0}
IsQuietCall (Write line items) kind = Unit {0}
IsQuietCall (Return value) kind = Unit {0}

-- it comes to a procedure
record IsSited (program : Program) (reach : Reach) (name : Name) (form : Form) : Type 0 where
  shapes : Shapes
  reached : IsReached program name.text shapes
  quiet : IsQuietCall form (kind_of reach.scope name)

sited : (program : Program) (text : List ℕ) (around : Shapes) (reach : Reach) (form : Form)
    (at : ℕ) (prefixes : List Prefix) (name : Name) (actuals : Exprs) →
    IsReached program text around → IsCall form name actuals →
    Inside program text around reach at prefixes form → IsSited program reach name form
sited program text around reach form at prefixes name actuals reached AsStatement (InStmt h) =
    let here = h.1.0 in
    record {
      shapes = reach.shapes;
      reached = Reaching text around
          (record { name = name; actuals = actuals; shapes = reach.shapes }) reached
          (call_there program text around reach AsOne name actuals here
          (taken reach is_procedure name here.clean.none.known));
      quiet = no_place (answers (kind_of reach.scope name)) name.at here.clean.none.calls;
    }
sited program text around reach form at prefixes name actuals reached
    (AsAnswer {target = target} {at = offset}) (InStmt h) =
    let here = h.1.1.0 in
    record {
      shapes = reach.shapes;
      reached = Reaching text around
          (record { name = name; actuals = actuals; shapes = reach.shapes }) reached
          (call_there program text around reach (call_place (kind_of reach.scope target)) name
          actuals here (taken reach is_procedure name here.clean.none.known));
      quiet = tt;
    }

-- an answer has a scalar
has_answer : (tables : Tables) (target : ℕ) (form : Form) (name : Name) (actuals : Exprs)
    (one : Option Kind) (signature : Signature) → IsCall form name actuals →
    one ≡ Some (kind.Procedure signature) → HasAnswer tables target form → IsQuietCall form one →
    answering signature.result ≡ true → target < tables.scalars
has_answer tables target form name actuals one signature AsAnswer is has quiet told = has
has_answer tables target form name actuals one signature AsStatement is has quiet told =
    by signature.result
    (ap (λ (k : Option Kind). answers k) (sym is) ∙ quiet) told
  where
    by : (result : Option Base) → is_some result ≡ false → answering result ≡ true →
        target < tables.scalars
    by None none told = absurd (true≢false (sym told))
    by (Some base) none told = absurd (true≢false none)

module _ (program : Program) (settings : List Setting) (laws : Laws program)
    (grammar : IsProgram program) (clean : IsFaultless program) (limits : LimitsAreTold)
    (right : AreRight (first_setup program settings)) (tables : Tables)
    (known_fits : (routine : Routine) → Among (routines_of program) routine →
    FitsKnown tables (first_setup program settings).known (scope_of program routine))
    (declared : (routine : Routine) → Among (routines_of program) routine →
    (earlier : List Entry) → routine.own ≡ own_entries earlier routine.procedure →
    FitAllDeclared (first_setup program settings) (head_scope earlier routine.procedure)
    routine.procedure.locals)
    (vars : (routine : Routine) → Among (routines_of program) routine →
    AllVars (first_setup program settings) routine.procedure.locals) where
  abbrev setup : Setup
  setup = first_setup program settings

  -- ---- what is in reach of a body

  pub body_stands : (routine : Routine) → Among (routines_of program) routine →
      (signature : Signature) → IsProcedureOf signature routine → (entry : CallEntry)
      (calling : Calling) (next : Next) (currents : Currents) →
      AreGivenOf calling.numbers signature.formals calling.actuals →
      AreGlobals program calling.numbers setup.globals →
      FitCurrents tables calling.numbers currents calling.currents →
      (answering routine.procedure.result ≡ true → calling.result < tables.scalars) →
      (let frame = (body_frames setup entry routine calling next).frame in
      FitNumbers tables frame.numbers → AllKept frame.numbers.arrays →
      IsStanding tables setup (answering routine.procedure.result)
      (where_in setup routine calling frame) currents)
  body_stands routine member signature of entry calling next currents givens globals here answer
      fits kept =
      let few = calling.numbers in
      let params = routine.procedure.params in
      let scope = head_scope of.earlier routine.procedure in
      let first : Framed = record { names = []; numbers = few } in
      let given = given_frames entry.line (formal_names params) calling.actuals first next in
      let frame = (body_frames setup entry routine calling next).frame in
      let has : HasKept few (own_entries of.earlier routine.procedure) frame =
      locals_kept few setup entry scope routine.procedure.locals
      (declared routine member of.earlier of.own) given.frame given.next
      (flat_map (λ (param : Param). map
      (entry_for (variable_kind scope param.shape param.base)) param.names) params)
      (formals_kept few entry.line params scope first next [] calling.actuals
      (subst (λ (s : Signature). AreGivenOf few s.formals calling.actuals) of.signed givens)
      (record { grows = grows_none few; kept = Nothing })) in
      let own : AreKept frame.numbers routine.own frame.names =
      subst (λ entries. AreKept frame.numbers entries frame.names) (sym of.own) has.kept in
      let others = globals_grow program few frame.numbers has.grows setup.globals globals in
      record {
        reach = record {
          numbers = fits;
          kept = kept;
          globals = others;
          known = known_fits routine member;
          names = names_fit program routine frame.numbers frame.names setup.globals own others;
          variables = scalars_fit program routine frame.numbers frame.names setup.globals own others
              tables fits.scalars;
          here = currents_grow tables few frame.numbers has.grows currents calling.currents here;
        };
        edges = tt;
        own = refl;
        answer = answer;
      }

  -- laid out behind the copies of what was called before
  pub in_call_laid : (next : Next) (reads : ℕ) (body : Lowered) → length body.copies ≡ reads →
      IsLaidOut tables next (out_of_call body) → IsLaidOut tables (in_call reads next) body
  in_call_laid next reads body many laid = record {
    below = laid.below;
    slots_at = laid.slots_at;
    arrays_at = laid.arrays_at;
    copies_at = storages_first tables next.later body.copies body.later laid.later_at;
    later_at = subst (λ n. StoragesAt tables (next.later + n) body.later) many
        (storages_rest tables next.later body.copies body.later laid.later_at);
    temps_at = laid.temps_at;
    shifts_at = laid.shifts_at;
  }

  pub out_of_call_fits : (body : Lowered) → FitsLowered tables body →
      FitsLowered tables (out_of_call body)
  out_of_call_fits body fits = record {
    code_fits = fits.code_fits;
    slot_ranks = fits.slot_ranks;
    temp_ranks = fits.temp_ranks;
    small_shifts = fits.small_shifts;
  }

  pub calls_fit : (depth : ℕ) → CallsFit tables setup (call_code setup depth)
  calls_fit zero w name actuals scalar target line next is laid = rows_alone_fit tables [] tt
  calls_fit (suc depth) w name actuals scalar target line next is laid =
      let place : Place = place_at w is.result is.currents is.edge in
      let from : IsCallFrom setup w name actuals = record {
        result = is.result;
        currents = is.currents;
        edge = is.edge;
        start = is.start;
        at = is.at;
        prefixes = is.prefixes;
        form = is.form;
        visited = is.visited;
        under = is.under;
        is = is.is;
        proper = is.proper;
      } in
      let found = visited_at program settings laws grammar clean is.start
      (Prefixed is.at is.prefixes is.form) is.visited in
      let h = found.1 in
      let site = sited program h.text h.around _ is.form is.at is.prefixes name actuals h.reached
      is.is
      (inside_at program settings laws grammar clean is.start place found.0 is.at is.prefixes
      is.form h is.under) in
      let scoped : w.scope ≡ scope_of program h.routine =
      same_scope program settings laws grammar clean is.prefixes is.start place is.under
      ∙ h.scoped in
      let kinds : kind_of (scope_of program h.routine) name ≡
      Some (kind.Procedure is.proper.signature) =
      ap (λ (s : Scope). kind_of s name) (sym scoped) ∙ is.proper.called in
      let callee : IsCallee program name is.proper.signature =
      callee_of program grammar h.routine h.member name is.proper.signature kinds in
      let routine = callee.routine in
      let formals : List Formal = formals_in (kind_of w.scope name) in
      let calling : Calling = calling_of w name actuals scalar target line in
      let entry : CallEntry = record { clears = true; line = line } in
      let reads = reads_round program routine in
      let after : Next = in_call reads next in
      let below = names_are_below w.scope w.environment w.numbers is.reach.names in
      let globals : AreGlobals program w.numbers setup.globals =
      subst (λ (s : Setup). AreGlobals s.program w.numbers s.globals) is.own is.reach.globals in
      let facts = callee_visited setup w name actuals scalar target line entry after below from
      callee in
      let taken_all : AreProperActuals place formals actuals =
      subst (λ kind. AreProperActuals place (formals_in kind) actuals) (sym is.proper.called)
      is.proper.taken in
      let givens : AreGivenOf w.numbers is.proper.signature.formals
      (given_to w scalar formals actuals) =
      subst (λ (fs : List Formal). AreGivenOf w.numbers fs (given_to w scalar formals actuals))
      (ap formals_in is.proper.called)
      (givens_of w place refl (λ actual h. h) (λ actual h. h) is.reach.names
      (scalars_are_few tables w.environment w.numbers is.reach.variables) scalar formals actuals
      taken_all is.ranked) in
      let body = body_code setup entry (call_code setup depth) routine calling after in
      let made = body_more program settings grammar clean right (λ storage. Unit {0})
      (λ routine environment numbers. Unit {0})
      (λ routine environment numbers inside place stored is. tt)
      (λ routine environment numbers inside reach rank at name shift place home there is. tt)
      (λ routine member. any_vars setup routine.procedure.locals)
      (λ routine environment numbers inside w name actuals is callee named scalar target line entry
      next. tt) depth
      (all_calls program settings grammar clean right (λ storage. Unit {0})
      (λ routine environment numbers. Unit {0})
      (λ routine environment numbers inside place stored is. tt)
      (λ routine environment numbers inside reach rank at name shift place home there is. tt)
      (λ routine member. any_vars setup routine.procedure.locals)
      (λ routine environment numbers inside w name actuals is callee named scalar target line entry
      next. tt) depth) entry routine callee.member calling after 0 is.currents None
      (givens_fine (λ storage. Unit {0}) w (λ place stored is. tt) scalar formals actuals) facts.1
      (givens_below (length w.numbers.arrays) w below scalar formals actuals)
      (globals_below program w.numbers setup.globals globals) tt facts.0 in
      let many : length body.copies ≡ reads =
      made.copies ∙ sym (reads_are (routine_sites program unknown_shapes routine)) in
      let stands = body_stands routine callee.member is.proper.signature callee.of entry calling
      after is.currents givens globals is.reach.here
      (λ yes. has_answer tables target is.form name actuals (kind_of w.scope name)
      is.proper.signature is.is is.proper.called is.answer site.quiet
      (ap (λ (s : Signature). answering s.result) callee.of.signed ∙ yes)) in
      let sound = body_sound_at program laws.none laws.under name.text site.shapes routine
      site.reached callee.named
      (routine_sound program.decls [] routine tt grammar callee.member).grammar.2 in
      subst (λ (found : Option Routine).
      IsLaidOut tables next (routine_code setup true (call_code setup depth) found calling next) →
      FitsLowered tables (routine_code setup true (call_code setup depth) found calling next))
      (sym callee.named)
      (λ laid'. out_of_call_fits body
      (body_fits tables setup (call_code setup depth)
      (record { limits = limits; right = right; calls = calls_fit depth })
      (answering routine.procedure.result) entry routine calling after 0 is.currents None
      (givens_fit_in tables w is.currents is.reach scalar formals actuals is.values)
      is.reach.numbers is.reach.kept (vars routine callee.member) stands facts.0 sound
      (in_call_laid next reads body many laid'))) laid
