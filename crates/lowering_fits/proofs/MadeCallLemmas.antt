-- What all code of a program has of its own, call by call, down a chain of procedures.
use Rattle.std.proofs.Common.{◌≡◌, ℕ, zero, suc, ◌+◌, true, ℤ, pos, List, [], ◌∷◌, ◌++◌, map, length, refl, sym, ap, ◌∙◌, subst, arith, length-append}
use Rattle.std.specs.Prelude.{Option, Some, None}
use Rattle.std.specs.List.{sum_by}
use Rattle.zpl_region.specs.declared.regions.Region.{Region}
use Rattle.stored_shifts.specs.of_zpl_arrays.Array.{array_of}
use Rattle.stored_shifts.specs.of_zpl_arrays.Around.{copy_storage}
use Rattle.meaning_ranks.specs.of_zpl_tree.Grammar.{IsProgram}
use Rattle.meaning_ranks.specs.of_zpl_tree.Syntax.{Prefix, Prefixed, Form, Name, Around, Exprs, Dir, Program}
use Rattle.meaning_ranks.specs.of_zpl_names.Kinds as kind
use Rattle.meaning_ranks.specs.of_zpl_names.Kinds.{Rank, Kind, Formal, ScalarFormal, ArrayFormal, Signature}
use Rattle.meaning_ranks.specs.of_zpl_names.Scope.{Scope, kind_in, kind_of}
use Rattle.meaning_ranks.specs.of_zpl_names.Shapes.{unknown_shapes}
use Rattle.meaning_ranks.specs.of_zpl_names.Accepted.{HasNoFault, IsFaultless}
use Rattle.meaning_ranks.specs.of_zpl_names.Declared.{Routine, IsProcedureOf, globals_of, head_scope, formals_of, routine_named, routines_of, scope_of}
use Rattle.meaning_ranks.specs.of_zpl_names.Expansion.{formal_names, expanded}
use Rattle.meaning_ranks.specs.of_zpl_names.Sites.{Reach, Site, AtExpr, routine_sites, in_body}
use Rattle.std.specs.Str.{bytes_eq}
use Rattle.std.proofs.Common.{inl, inr}
use Rattle.std.proofs.lemmas.List.{length-map}
use Rattle.meaning_ranks.proofs.of_zpl_names.ListLemmas.{Among}
use Rattle.meaning_ranks.proofs.of_zpl_names.FaultlessLemmas.{clean-routine}
use Rattle.meaning_ranks.proofs.of_zpl_names.NameLemmas.{procedure_is_there}
use Rattle.meaning_ranks.specs.of_zpl_binding.Settings.{Setting}
use Rattle.meaning_ranks.specs.of_zpl_meaning.Store.{ArrayAt, Names, Environment, thing_of, Store}
use Rattle.meaning_ranks.specs.of_zpl_meaning.Context.{Currents, Edge, Setup, Place}
use Rattle.meaning_ranks.specs.of_zpl_meaning.Regions.{vector_in}
use Rattle.meaning_ranks.specs.of_zpl_meaning.Calls.{Handed, formals_in, value_exprs as values_taken, handed_on, entered, with_formals}
use Rattle.meaning_ranks.specs.of_zpl_meaning.Proper.{AreProperActuals, IsProperCall}
use Rattle.meaning_ranks.specs.of_zpl_meaning.Variables.{Frame}
use Rattle.meaning_ranks.specs.of_zpl_meaning.Visited.{IsUnder, IsCall, IsVisited, Calls, first_setup}
use Rattle.meaning_ranks.proofs.of_zpl_meaning.DepthLemmas.{Each}
use Rattle.meaning_ranks.proofs.of_zpl_meaning.NamesLemmas.{AreHanded, IsSound, routine_sound}
use Rattle.meaning_ranks.proofs.of_zpl_meaning.VisitLemmas.{all_handed, find_among, global_procedure, own_in, all_own, AllOwn}
use Rattle.lower_numbers.specs.of_zpl_lowering.Where.{Numbers, Where, Next}
use Rattle.lower_numbers.specs.of_zpl_lowering.Lowered.{Lowered}
use Rattle.lower_numbers.specs.of_zpl_lowering.Statement.{given_to, Calling, lowered}
use Rattle.lower_numbers.specs.of_zpl_lowering.Program.{Framed, Entry, where_in, body_code, locals_code, reads_round, in_call, out_of_call, routine_code, call_code}
use Rattle.lower_numbers.specs.Arrays.{param_arrays, var_arrays, own_arrays}
use Rattle.lowering_fits.specs.Reach.{place_at}
use Rattle.lowering_fits.specs.Standing.{calling_of}
use Rattle.lowering_fits.specs.Whole.{given_frames, local_frames, body_frames}
use Rattle.lowering_fits.proofs.PartLemmas.{AreRight}
use Rattle.lowering_fits.proofs.TallyLemmas.{called, tally, reads_are}
use Rattle.lowering_fits.proofs.MadeLemmas.{all_of_both}
use Rattle.lowering_fits.proofs.MadeAssignLemmas.{IsCalling, IsMadeCall}
use Rattle.lowering_fits.proofs.MadeStatementLemmas.{body_made}
use Rattle.lowering_fits.proofs.NamedLemmas.{AllBelow, AreAlike, givens_alike, Agrees, formals_agree, locals_agree}
use Rattle.lowering_fits.proofs.MadeFrameLemmas.{IsMadeMore, given_copies, AreFine, FineVars, more_made, givens_more, locals_more, array_copies, count_alike, params_copies, as_many}
use Rattle.lowering_fits.proofs.MadeProgramLemmas.{down, by_name, calls_sum, HasNames, GivensBelow, givens_have, locals_have, givens_below, body_below, AllFine, givens_fine}

-- ---- sites of a procedure

-- it is one of the procedure's, and has no fault
abbrev pub IsGood : Program → Routine → Site → Type 0
IsGood program routine site =
    HasNoFault site × Among (routine_sites program unknown_shapes routine) site

each_of : (P : Site → Type 0) (sites : List Site) → ((site : Site) → Among sites site → P site) →
    Each P sites
each_of P [] are = tt
each_of P (site ∷ sites) are = (are site (inl refl), each_of P sites (λ other m. are other (inr m)))

pub good_sites : (program : Program) → IsFaultless program → (routine : Routine) →
    Among (routines_of program) routine →
    Each (IsGood program routine) (routine_sites program unknown_shapes routine)
good_sites program clean routine member =
    each_of (IsGood program routine) (routine_sites program unknown_shapes routine)
    (λ site m. (clean-routine program clean unknown_shapes routine member site m, m))

clean_sites : (program : Program) → IsFaultless program → (routine : Routine) →
    Among (routines_of program) routine →
    Each HasNoFault (routine_sites program unknown_shapes routine)
clean_sites program clean routine member =
    each_of HasNoFault (routine_sites program unknown_shapes routine)
    (λ site m. clean-routine program clean unknown_shapes routine member site m)

-- what a procedure has of its own, with its calls
pub next_down : (program : Program) → IsFaultless program → (own : Routine → ℕ) (depth : ℕ)
    (routine : Routine) → Among (routines_of program) routine →
    own routine
    + tally (called (by_name program own depth)) (routine_sites program unknown_shapes routine)
    ≡ expanded program own (suc depth) routine
next_down program clean own depth routine member =
    ap (λ n. own routine + n)
    (calls_sum program own depth (routine_sites program unknown_shapes routine)
    (clean_sites program clean routine member))

nothing_down : (program : Program) (own : Routine → ℕ) (found : Option Routine) →
    down program own 0 found ≡ 0
nothing_down program own None = refl
nothing_down program own (Some routine) = refl

-- the store with so many places
abbrev blank : Numbers → Store
blank numbers = record {
  scalars = map (λ scalar. pos 0) numbers.scalars;
  arrays = map (λ stored. array_of stored.storage (λ t. pos 0)) numbers.arrays;
}

-- ---- what is called

pub record IsCallee (program : Program) (name : Name) (signature : Signature) : Type 0 where
  pub routine : Routine
  pub named : routine_named program name.text ≡ Some routine
  pub of : IsProcedureOf signature routine
  pub member : Among (routines_of program) routine

pub callee_of : (program : Program) → IsProgram program → (routine : Routine) →
    Among (routines_of program) routine → (name : Name) (signature : Signature) →
    kind_of (scope_of program routine) name ≡ Some (kind.Procedure signature) →
    IsCallee program name signature
callee_of program grammar routine member name signature is =
    let sound : IsSound routine = routine_sound program.decls [] routine tt grammar member in
    let own : AllOwn routine.own =
    subst AllOwn (sym sound.own) (all_own sound.earlier routine.procedure) in
    let found = procedure_is_there program name.text signature
    (global_procedure (kind_in routine.own name.text) (kind_in (globals_of program) name.text)
    signature (own_in routine.own name.text own) is) in
    record {
      routine = found.0;
      named = found.1;
      of = found.2;
      member = find_among (λ routine. bytes_eq routine.procedure.name.text name.text)
          (routines_of program) found.0 found.1;
    }

-- a call from a visited statement
pub record IsCallFrom (setup : Setup) (w : Where) (name : Name) (actuals : Exprs) : Type 0 where
  pub result : ℕ
  pub currents : Currents
  pub edge : Option Edge
  pub start : Place
  pub at : ℕ
  pub prefixes : List Prefix
  pub form : Form
  pub visited : IsVisited setup start (Prefixed at prefixes form)
  pub under : IsUnder prefixes start (place_at w result currents edge)
  pub is : IsCall form name actuals
  pub proper : IsProperCall (place_at w result currents edge) name actuals

-- the body of what is called is visited where it is lowered
pub callee_visited : (setup : Setup) (w : Where) (name : Name) (actuals : Exprs)
    (scalar target line : ℕ) (entry : Entry) (next : Next) →
    AllBelow (length w.numbers.arrays) w.environment → (is : IsCallFrom setup w name actuals) →
    (callee : IsCallee setup.program name is.proper.signature) →
    (let calling = calling_of w name actuals scalar target line in
    IsVisited setup
    (place_at (where_in setup callee.routine calling
    (body_frames setup entry callee.routine calling next).frame) 0 is.currents None)
    callee.routine.procedure.body
    × (given_copies (formal_names callee.routine.procedure.params) calling.actuals ≡
    sum_by param_arrays callee.routine.procedure.params))
callee_visited setup w name actuals scalar target line entry next below is callee =
    let place : Place = place_at w is.result is.currents is.edge in
    let formals : List Formal = formals_in (kind_of w.scope name) in
    let calling : Calling = calling_of w name actuals scalar target line in
    let store : Store = blank w.numbers in
    let values : List ℤ = map (λ placed. pos 0) (values_taken place formals actuals) in
    let many : length values ≡ length (values_taken place formals actuals) =
    length-map (values_taken place formals actuals) (λ placed. pos 0) in
    let taken : AreProperActuals place formals actuals =
    subst (λ kind. AreProperActuals place (formals_in kind) actuals) (sym is.proper.called)
    is.proper.taken in
    let handed : List Handed = handed_on w.environment store formals actuals values in
    let alike : AreAlike (given_to w scalar formals actuals) handed =
    givens_alike w is.result is.currents is.edge store below scalar formals actuals values taken
    many in
    let are : AreHanded formals handed =
    all_handed place store formals actuals values taken many in
    let params = formal_names callee.routine.procedure.params in
    let signed : formals ≡ formals_of (head_scope callee.of.earlier callee.routine.procedure)
    callee.routine.procedure.params =
    ap formals_in is.proper.called ∙ ap (λ (s : Signature). s.formals) callee.of.signed in
    let scope = head_scope callee.of.earlier callee.routine.procedure in
    let first : Framed = record { names = []; numbers = w.numbers } in
    let start : Frame = record { names = []; store = store } in
    let given = given_frames entry.line params (given_to w scalar formals actuals) first next in
    let frames = body_frames setup entry callee.routine calling next in
    let agrees : Agrees frames.frame (entered setup callee.routine handed store) =
    locals_agree setup entry callee.routine.procedure.locals given.frame
    (with_formals start params handed) given.next
    (formals_agree entry.line params (given_to w scalar formals actuals) handed first start next
    alike (record {
      names = refl;
      scalars = sym (length-map w.numbers.scalars (λ scalar. pos 0));
      arrays = sym (length-map w.numbers.arrays
          (λ stored. array_of stored.storage (λ t. pos 0)));
    })) in (
      subst (λ (names : Names). IsVisited setup (record {
        setup = setup;
        scope = scope_of setup.program callee.routine;
        environment = record { names = names ++ setup.globals };
        result = 0;
        prefix = Some 0;
        currents = is.currents;
        edge = None;
      }) callee.routine.procedure.body) (sym agrees.names)
          (Calls is.start place is.at is.prefixes is.form name actuals values store store 0
          callee.routine is.visited is.under is.is many callee.named),
      count_alike formals (given_to w scalar formals actuals) handed params
          (as_many scope callee.routine.procedure.params ∙ ap length (sym signed)) are alike
          ∙ ap array_copies signed ∙ params_copies scope callee.routine.procedure.params,
    )

module _ (program : Program) (settings : List Setting) (grammar : IsProgram program)
    (clean : IsFaultless program) (right : AreRight (first_setup program settings))
    (Fine : Region → Type 0) (Inside : Routine → Environment → Numbers → Type 0)
    (kept : (routine : Routine) (environment : Environment) (numbers : Numbers) →
    Inside routine environment numbers → AllFine Fine numbers)
    (reads : (routine : Routine) (environment : Environment) (numbers : Numbers) →
    Inside routine environment numbers → (reach : Reach) (rank : Rank) (at : ℕ) (name : Name)
    (shift : Dir) (place : ℕ) (home : Region) →
    Among (routine_sites program unknown_shapes routine)
    (AtExpr reach rank (Around at name shift)) →
    thing_of environment name.text ≡ Some (ArrayAt place home) →
    Fine (copy_storage home (vector_in (first_setup program settings).known shift)))
    (vars : (routine : Routine) → Among (routines_of program) routine →
    FineVars Fine (first_setup program settings) routine.procedure.locals)
    (enters : (routine : Routine) (environment : Environment) (numbers : Numbers) →
    Inside routine environment numbers → (w : Where) (name : Name) (actuals : Exprs) →
    IsCalling (first_setup program settings) (scope_of program routine) environment numbers
    (IsGood program routine) w name actuals → (callee : Routine) →
    routine_named program name.text ≡ Some callee → (scalar target line : ℕ) (entry : Entry)
    (next : Next) →
    (let frame = (body_frames (first_setup program settings) entry callee
    (calling_of w name actuals scalar target line) next).frame in
    Inside callee (record { names = frame.names ++ (first_setup program settings).globals })
    frame.numbers)) where
  abbrev setup : Setup
  setup = first_setup program settings

  abbrev Arrays : ℕ → List ℕ → ℕ
  Arrays depth text = by_name program own_arrays depth text

  abbrev Reads : ℕ → List ℕ → ℕ
  Reads depth text = by_name program (reads_round program) depth text

  sound_of : (routine : Routine) → Among (routines_of program) routine → IsSound routine
  sound_of routine member = routine_sound program.decls [] routine tt grammar member

  -- all names in reach have numbers
  pub record IsFramed (environment : Environment) (numbers : Numbers) : Type 0 where
    pub below : AllBelow (length numbers.arrays) environment
    pub globals : AllBelow (length numbers.arrays) (record { names = setup.globals })

  -- what a procedure's calls have, down a chain of so many
  abbrev CallsAt : ℕ → Routine → Environment → Numbers → Type 0
  CallsAt depth routine environment numbers =
      (w : Where) (name : Name) (actuals : Exprs) (scalar target line : ℕ) (next : Next) →
      IsCalling setup (scope_of program routine) environment numbers (IsGood program routine) w
      name actuals →
      IsMadeCall Fine (by_name program own_arrays depth)
      (by_name program (reads_round program) depth) name
      (call_code setup depth (calling_of w name actuals scalar target line) next)

  abbrev AllCalls : ℕ → Type 0
  AllCalls depth =
      (routine : Routine) → Among (routines_of program) routine → (environment : Environment)
      (numbers : Numbers) → IsFramed environment numbers → Inside routine environment numbers →
      CallsAt depth routine environment numbers

  -- ---- the body of a procedure that is called

  pub body_more : (depth : ℕ) → AllCalls depth → (entry : Entry) (routine : Routine) →
      Among (routines_of program) routine → (calling : Calling) (next : Next) (result : ℕ)
      (currents : Currents) (edge : Option Edge) → AreFine Fine calling.actuals →
      given_copies (formal_names routine.procedure.params) calling.actuals ≡
      sum_by param_arrays routine.procedure.params →
      GivensBelow (length calling.numbers.arrays) calling.actuals →
      AllBelow (length calling.numbers.arrays) (record { names = setup.globals }) →
      (let frame = (body_frames setup entry routine calling next).frame in
      Inside routine (record { names = frame.names ++ setup.globals }) frame.numbers →
      IsVisited setup (place_at (where_in setup routine calling frame) result currents edge)
      routine.procedure.body →
      IsMadeMore Fine (by_name program own_arrays depth)
      (by_name program (reads_round program) depth) (own_arrays routine)
      (routine_sites program unknown_shapes routine)
      (body_code setup entry (call_code setup depth) routine calling next))
  body_more depth calls entry routine member calling next result currents edge fine copies below
      behind inside visited =
      let arrays = by_name program own_arrays depth in
      let reads_of = by_name program (reads_round program) depth in
      let params = formal_names routine.procedure.params in
      let first : Framed = record { names = []; numbers = calling.numbers } in
      let given = given_frames entry.line params calling.actuals first next in
      let last = local_frames setup entry routine.procedure.locals given.frame given.next in
      let frame = last.frame in
      let environment : Environment = record { names = frame.names ++ setup.globals } in
      let sites = routine_sites program unknown_shapes routine in
      let few = length calling.numbers.arrays in
      let has : HasNames few frame =
      locals_have few setup entry routine.procedure.locals given.frame given.next
      (givens_have few entry.line params calling.actuals first next
      (record { more = omega arith; below = tt }) below) in
      let framed : IsFramed environment frame.numbers = record {
        below = body_below few (length frame.numbers.arrays) frame.names setup.globals has.more
            has.below behind;
        globals = body_below few (length frame.numbers.arrays) [] setup.globals has.more tt behind;
      } in
      let w : Where = where_in setup routine calling frame in
      let call : Calling → Next → Lowered = call_code setup depth in
      let body : Framed → Next → Lowered =
      λ frame last. lowered
      (record { place = where_in setup routine calling frame; call = call }) last
      routine.procedure.body in
      let made = body_made Fine arrays reads_of setup (scope_of program routine) environment
      frame.numbers (IsGood program routine) (λ site good. good.0)
      (λ reach rank at name shift place home good is.
      reads routine environment frame.numbers inside reach rank at name shift place home good.1 is)
      right call (calls routine member environment frame.numbers framed inside) w
      (record { own = refl; scope_is = refl; names_are = refl; numbers_are = refl }) result
      currents edge last.next (in_body (scope_of program routine) unknown_shapes)
      routine.procedure.result routine.procedure.body (sound_of routine member).grammar.2 visited
      (good_sites program clean routine member) in
      subst (λ n. IsMadeMore Fine arrays reads_of n sites
      (body_code setup entry call routine calling next))
      (omega (arith, copies))
      (givens_more Fine arrays reads_of entry.line params calling.actuals first next
      (λ frame after. locals_code setup entry routine.procedure.locals frame after body)
      (sum_by var_arrays routine.procedure.locals + 0) sites fine
      (locals_more Fine arrays reads_of setup entry routine.procedure.locals given.frame given.next
      body 0 sites (vars routine member)
      (more_made Fine arrays reads_of sites (body frame last.next) made)))

  -- with the copies behind those of what was called before
  pub out_made : (depth : ℕ) (routine : Routine) → Among (routines_of program) routine →
      (body : Lowered) →
      IsMadeMore Fine (by_name program own_arrays depth)
      (by_name program (reads_round program) depth) (own_arrays routine)
      (routine_sites program unknown_shapes routine) body → (name : Name) →
      IsMadeCall Fine (λ text. down program own_arrays (suc depth) (Some routine))
      (λ text. down program (reads_round program) (suc depth) (Some routine)) name
      (out_of_call body)
  out_made depth routine member body is name =
      let sites = routine_sites program unknown_shapes routine in
      record {
        no_copies = refl;
        arrays = is.arrays ∙ next_down program clean own_arrays depth routine member;
        later = length-append body.copies body.later
            ∙ omega (arith, is.copies, is.later, reads_are sites)
            ∙ next_down program clean (reads_round program) depth routine member;
        fine_arrays = is.fine_arrays;
        fine_later = all_of_both Fine body.copies body.later is.fine_copies is.fine_later;
      }

  -- ---- calls

  pub all_calls : (depth : ℕ) → AllCalls depth
  all_calls zero routine member environment numbers framed inside w name actuals scalar target line
      next is = record {
        no_copies = refl;
        arrays = sym (nothing_down program own_arrays (routine_named program name.text));
        later = sym (nothing_down program (reads_round program) (routine_named program name.text));
        fine_arrays = tt;
        fine_later = tt;
      }
  all_calls (suc depth) routine member environment numbers framed inside w name actuals scalar
      target line next is =
      let calling : Calling = calling_of w name actuals scalar target line in
      let scoped : kind_of (scope_of program routine) name ≡
      Some (kind.Procedure is.proper.signature) =
      ap (λ (s : Scope). kind_of s name) (sym is.within.scope_is) ∙ is.proper.called in
      let callee : IsCallee program name is.proper.signature =
      callee_of program grammar routine member name is.proper.signature scoped in
      let entry : Entry = record { clears = true; line = line } in
      let formals : List Formal = formals_in (kind_of w.scope name) in
      let after : Next = in_call (reads_round program callee.routine) next in
      let from : IsCallFrom setup w name actuals = record {
        result = is.result;
        currents = is.currents;
        edge = is.edge;
        start = is.start;
        at = is.at;
        prefixes = is.prefixes;
        form = is.form;
        visited = is.visited;
        under = is.under;
        is = is.is;
        proper = is.proper;
      } in
      let numbers_here = is.within.numbers_are in
      let fine : AllFine Fine w.numbers =
      subst (AllFine Fine) (sym numbers_here) (kept routine environment numbers inside) in
      let behind : AllBelow (length w.numbers.arrays) (record { names = setup.globals }) =
      subst (λ (n : Numbers). AllBelow (length n.arrays) (record { names = setup.globals }))
      (sym numbers_here) framed.globals in
      let below : AllBelow (length w.numbers.arrays) w.environment =
      subst (λ (n : Numbers). AllBelow (length n.arrays) w.environment) (sym numbers_here)
      (subst (λ (e : Environment). AllBelow (length numbers.arrays) e)
      (sym is.within.names_are) framed.below) in
      let facts = callee_visited setup w name actuals scalar target line entry after below from
      callee in
      let body = body_code setup entry (call_code setup depth) callee.routine calling after in
      let made = subst (λ (found : Option Routine).
      IsMadeCall Fine (λ text. down program own_arrays (suc depth) found)
      (λ text. down program (reads_round program) (suc depth) found) name
      (routine_code setup true (call_code setup depth) found calling next)) (sym callee.named)
      (out_made depth callee.routine callee.member body
      (body_more depth (all_calls depth) entry callee.routine callee.member calling after 0
      is.currents None (givens_fine Fine w fine scalar formals actuals) facts.1
      (givens_below (length w.numbers.arrays) w below scalar formals actuals) behind
      (enters routine environment numbers inside w name actuals is callee.routine callee.named
      scalar target line entry after) facts.0) name) in
      record {
        no_copies = made.no_copies;
        arrays = made.arrays;
        later = made.later;
        fine_arrays = made.fine_arrays;
        fine_later = made.fine_later;
      }
