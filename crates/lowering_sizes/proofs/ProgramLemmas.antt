-- Calls expanded weigh no more than the words of their bodies and their names pay for.
use Rattle.std.proofs.Common.{◌≡◌, ℕ, zero, suc, ◌+◌, ◌*◌, ◌≤◌, Bool, true, false, if◌then◌else◌, List, [], ◌∷◌, ◌++◌, map, length, Option, Some, None, refl, subst, arith, length-append}
use Rattle.std.specs.Prelude.{flat_map, filter_map, sum_by}
use Rattle.std.specs.List.{cons_option}
use Rattle.std.proofs.lemmas.List.{length-map}
use Rattle.std.proofs.lemmas.List.Sums.{sum_by-cons}
use Rattle.zpl_tree.specs.Syntax.{Name, Param, VarDef, Bracket, NoBracket, Bracketed, Stmt, Prefixed, Stmts, NoStmt, ThenStmt, Assign, Invoke, Block, If, While, Repeat, For, Border, Write, Return, Base, Program}
use Rattle.zpl_tree.specs.Spelling.{prefix_words, end_words, stmt_words, stmts_words, form_words}
use Rattle.zpl_names.specs.Scope.{kind_of, is_procedure}
use Rattle.zpl_names.specs.Shapes.{unknown_shapes}
use Rattle.zpl_names.specs.Declared.{Routine, routine_named, scope_of}
use Rattle.zpl_names.specs.Sites.{Reach, in_body, Site, AtWhole, AtExpr, AtCall, AtNamed, AtDir, AtRegion, AtMask, AtStmt, AtBase, AtPosts, AtProcedure, CallSite, call_of, prefixes_sites, under_prefixes, stmt_sites, body_sites, outermost_sites, routine_sites}
use Rattle.zpl_names.specs.Expansion.{FormalName, formal_names, callees, expanded, names_count}
use Rattle.zpl_meaning.specs.Context.{Setup}
use Rattle.zpl_meaning.specs.Variables.{home_box, storage_box}
use Rattle.zpl_lowering.specs.Where.{Stored, Next}
use Rattle.zpl_lowering.specs.Lowered.{Lowered, rows_alone, behind, both}
use Rattle.zpl_lowering.specs.Statement.{Given, Valued, Copied, Referring, Calling, Lowering, lowered, lowered_all, lowered_form}
use Rattle.zpl_lowering.specs.Program.{Framed, with_scalar, with_array, Entry, zero_row, clear_row, made_copy, given_code, givens_code, local_code, names_code, locals_code, where_in, body_code, reads_round, in_call, out_of_call, routine_code, call_code}
use Rattle.array_numbers.specs.of_lowering_fits.Whole.{Frames, body_frames, given_frame, given_frames, local_frame, local_frames, name_frames}
use Rattle.lowering_sizes.proofs.Costs.{cost, cost_both}
use Rattle.lowering_sizes.proofs.Weights.{rows_weight}
use Rattle.lowering_sizes.proofs.LaidOut.{weight}
use Rattle.lowering_sizes.proofs.Slates.{AreNarrow}
use Rattle.lowering_sizes.proofs.Known.{HasThree, storage_three}
use Rattle.lowering_sizes.proofs.Phases.{both_weight}
use Rattle.lowering_sizes.proofs.Statements.{calls_weight, calls_both, GivenNarrow, GivensNarrow, Fits}
use Rattle.lowering_sizes.proofs.FormLemmas.{under_cost, stmt_cost}

-- ---- parameters

narrow_more : (all : List Stored) (one : Stored) → AreNarrow all → length one.storage.dims ≤ 3 →
    AreNarrow (all ++ one ∷ [])
narrow_more [] one narrow three = (three, tt)
narrow_more (first ∷ all) one narrow three = (narrow.0, narrow_more all one narrow.1 three)

-- a measure of code, which is no more than its weight
pub record IsMeasure (text : List ℕ → ℕ) (measure : Lowered → ℕ) : Type 0 where
  pub parts : (first second : Lowered) →
      measure (both first second) ≤ measure first + measure second
  pub few : (one : Lowered) → measure one ≤ weight text one

pub weight_measures : (text : List ℕ → ℕ) → IsMeasure text (weight text)
weight_measures text = record {
  parts = λ first second. omega (arith, both_weight text first second);
  few = λ one. omega arith;
}

-- what comes behind these names and numbers
abbrev pub Goes : (Lowered → ℕ) → (Framed → Next → Lowered) → ℕ → Frames → Type 0
Goes measure rest n last =
    AreNarrow last.frame.numbers.arrays → measure (rest last.frame last.next) ≤ n

copy_weight : (text : List ℕ → ℕ) (line : ℕ) (next : Next) (from : Stored) →
    weight text (made_copy line next from) ≡ 6
copy_weight text line next from = omega arith

given_most : (text : List ℕ → ℕ) (measure : Lowered → ℕ) → IsMeasure text measure → (line : ℕ)
    (name : Name) (given : Given) (frame : Framed) (next : Next) (rest : Framed → Next → Lowered)
    (n : ℕ) → AreNarrow frame.numbers.arrays → GivenNarrow given →
    Goes measure rest n (given_frame line name given frame next) →
    measure (given_code line name given frame next rest) ≤ 6 + n
given_most text measure is line name (Valued scalar) frame next rest n narrow given goes =
    omega (arith, goes narrow)
given_most text measure is line name (Referring thing) frame next rest n narrow given goes =
    omega (arith, goes narrow)
given_most text measure is line name (Copied from home) frame next rest n narrow given goes =
    let stored : Stored = record { array = next.arrays; storage = from.storage } in
    let first = made_copy line next from in
    let after = behind next first in
    let framed = with_array frame name home stored in
    omega (
      arith,
      copy_weight text line next from,
      is.few first,
      goes (narrow_more frame.numbers.arrays stored narrow given),
      is.parts first (rest framed after),
    )

givens_most : (text : List ℕ → ℕ) (measure : Lowered → ℕ) → IsMeasure text measure → (line : ℕ)
    (formals : List FormalName) (actuals : List Given) (frame : Framed) (next : Next)
    (rest : Framed → Next → Lowered) (n : ℕ) → AreNarrow frame.numbers.arrays →
    GivensNarrow actuals → Goes measure rest n (given_frames line formals actuals frame next) →
    measure (givens_code line formals actuals frame next rest) ≤ 6 * length formals + n
givens_most text measure is line [] actuals frame next rest n narrow given goes =
    omega (arith, goes narrow)
givens_most text measure is line (formal ∷ formals) [] frame next rest n narrow given goes =
    omega (arith, goes narrow)
givens_most text measure is line (formal ∷ formals) (actual ∷ actuals) frame next rest n narrow
    given goes =
    let one = given_frame line formal.name actual frame next in
    omega (
      arith,
      given_most text measure is line formal.name actual frame next
          (λ frame after. givens_code line formals actuals frame after rest) (6 * length formals + n)
          narrow given.0
          (λ narrow.
          givens_most text measure is line formals actuals one.frame one.next rest n narrow given.1
          goes),
    )

pub none_given : (measure : Lowered → ℕ) (line : ℕ) (formals : List FormalName) (frame : Framed)
    (next : Next) (rest : Framed → Next → Lowered) (n : ℕ) → measure (rest frame next) ≤ n →
    measure (givens_code line formals [] frame next rest) ≤ n
none_given measure line [] frame next rest n goes = goes
none_given measure line (formal ∷ formals) frame next rest n goes = goes

-- ---- local variables

zero_weight : (text : List ℕ → ℕ) (entry : Entry) (scalar : ℕ) →
    rows_weight text (zero_row entry scalar) ≤ 2
zero_weight text entry scalar = by entry.clears
  where
    by : (clears : Bool) →
        rows_weight text (zero_row (record entry { clears = clears }) scalar) ≤ 2
    by true = omega arith
    by false = omega arith

clear_weight : (text : List ℕ → ℕ) (entry : Entry) (array : ℕ) →
    rows_weight text (clear_row entry array) ≤ 1
clear_weight text entry array = by entry.clears
  where
    by : (clears : Bool) →
        rows_weight text (clear_row (record entry { clears = clears }) array) ≤ 1
    by true = omega arith
    by false = omega arith

local_most : (text : List ℕ → ℕ) (measure : Lowered → ℕ) → IsMeasure text measure →
    (setup : Setup) (entry : Entry) (shape : Bracket) (name : Name) (frame : Framed) (next : Next)
    (rest : Framed → Next → Lowered) (n : ℕ) → HasThree setup.known →
    AreNarrow frame.numbers.arrays →
    Goes measure rest n (local_frame setup entry shape name frame next) →
    measure (local_code setup entry shape name frame next rest) ≤ 3 + n
local_most text measure is setup entry NoBracket name frame next rest n three narrow goes =
    let first : Lowered = record (rows_alone (zero_row entry next.scalars)) { scalars = 1 } in
    let after = behind next first in
    let framed = with_scalar frame name next.scalars in
    omega (
      arith,
      zero_weight text entry next.scalars,
      is.few first,
      goes narrow,
      is.parts first (rest framed after),
    )
local_most text measure is setup entry (Bracketed inner) name frame next rest n three narrow goes =
    let storage = storage_box setup.known setup.borders inner in
    let first : Lowered =
    record (rows_alone (clear_row entry next.arrays)) { arrays = storage ∷ [] } in
    let after = behind next first in
    let stored : Stored = record { array = next.arrays; storage = storage } in
    let framed = with_array frame name (home_box setup.known inner) stored in
    omega (
      arith,
      clear_weight text entry next.arrays,
      is.few first,
      goes
          (narrow_more frame.numbers.arrays stored narrow
          (storage_three setup.known setup.borders inner three)),
      is.parts first (rest framed after),
    )

names_most : (text : List ℕ → ℕ) (measure : Lowered → ℕ) → IsMeasure text measure →
    (setup : Setup) (entry : Entry) (shape : Bracket) (names : List Name) (frame : Framed)
    (next : Next) (rest : Framed → Next → Lowered) (n : ℕ) → HasThree setup.known →
    AreNarrow frame.numbers.arrays →
    Goes measure rest n (name_frames setup entry shape names frame next) →
    measure (names_code setup entry shape names frame next rest) ≤ 3 * length names + n
names_most text measure is setup entry shape [] frame next rest n three narrow goes =
    omega (arith, goes narrow)
names_most text measure is setup entry shape (name ∷ names) frame next rest n three narrow goes =
    let one = local_frame setup entry shape name frame next in
    omega (
      arith,
      local_most text measure is setup entry shape name frame next
          (λ frame after. names_code setup entry shape names frame after rest) (3 * length names + n)
          three narrow
          (λ narrow.
          names_most text measure is setup entry shape names one.frame one.next rest n three narrow
          goes),
    )

abbrev pub local_names : List VarDef → List Name
local_names vars = flat_map (λ var. var.names) vars

pub locals_most : (text : List ℕ → ℕ) (measure : Lowered → ℕ) → IsMeasure text measure →
    (setup : Setup) (entry : Entry) (vars : List VarDef) (frame : Framed) (next : Next)
    (rest : Framed → Next → Lowered) (n : ℕ) → HasThree setup.known →
    AreNarrow frame.numbers.arrays →
    Goes measure rest n (local_frames setup entry vars frame next) →
    measure (locals_code setup entry vars frame next rest)
    ≤ 3 * length (local_names vars) + n
locals_most text measure is setup entry [] frame next rest n three narrow goes =
    omega (arith, goes narrow)
locals_most text measure is setup entry (var ∷ vars) frame next rest n three narrow goes =
    let one = name_frames setup entry var.shape var.names frame next in
    omega (
      arith,
      length-append var.names (local_names vars),
      names_most text measure is setup entry var.shape var.names frame next
          (λ frame after. locals_code setup entry vars frame after rest)
          (3 * length (local_names vars) + n) three narrow
          (λ narrow.
          locals_most text measure is setup entry vars one.frame one.next rest n three narrow goes),
    )

-- ---- bodies

body_cost : (text : List ℕ → ℕ) → text (10 ∷ []) ≤ 1 → (most : List ℕ → ℕ)
    (context : Lowering) (next : Next) (stmts : Stmts) (reach : Reach) (result : Option Base) →
    Fits text most context →
    weight text (lowered_all context next stmts)
    ≤ cost text (stmts_words stmts) + calls_weight most (body_sites reach result stmts)
body_cost text one most context next NoStmt reach result fits = omega arith
body_cost text one most context next (ThenStmt first rest) reach result fits =
    by rest (λ after. body_cost text one most context after rest reach result fits)
  where
    by : (rest : Stmts) →
        ((after : Next) → weight text (lowered_all context after rest)
        ≤ cost text (stmts_words rest) + calls_weight most (body_sites reach result rest)) →
        weight text (lowered_all context next (ThenStmt first rest))
        ≤ cost text (stmts_words (ThenStmt first rest))
        + calls_weight most (body_sites reach result (ThenStmt first rest))
    by NoStmt others =
        let code = lowered context next first in
        omega (
          arith,
          stmt_cost text one most context next first (record reach { result = result }) fits,
          both_weight text code (rows_alone []),
          cost_both text (stmt_words first) [],
        )
    by (ThenStmt second rest) others =
        let code = lowered context next first in
        let after = behind next code in
        omega (
          arith,
          stmt_cost text one most context next first reach fits,
          others after,
          both_weight text code (lowered_all context after (ThenStmt second rest)),
          cost_both text (stmt_words first) (stmts_words (ThenStmt second rest)),
          calls_both most (stmt_sites reach first)
              (body_sites reach result (ThenStmt second rest)),
        )

pub outermost_cost : (text : List ℕ → ℕ) → text (10 ∷ []) ≤ 1 → (most : List ℕ → ℕ)
    (context : Lowering) (next : Next) (stmt : Stmt) (reach : Reach) (result : Option Base) →
    Fits text most context →
    weight text (lowered context next stmt)
    ≤ cost text (stmt_words stmt) + calls_weight most (outermost_sites reach result stmt)
outermost_cost text one most context next (Prefixed at prefixes (Block body)) reach result fits =
    let under = under_prefixes reach prefixes in
    let n = cost text (stmts_words body) + calls_weight most (body_sites under result body) in
    omega (
      arith,
      under_cost text most false context next prefixes
          (λ inner after. lowered_form inner after at (Block body)) n fits
          (λ inner after fit. body_cost text one most inner after body under result fit),
      cost_both text (flat_map prefix_words prefixes) (form_words (Block body)),
      cost_both text (stmts_words body) end_words,
      calls_both most (prefixes_sites reach prefixes) (body_sites under result body),
    )
outermost_cost text one most context next (Prefixed at prefixes (Assign name op value)) reach
    result fits =
    stmt_cost text one most context next (Prefixed at prefixes (Assign name op value)) reach fits
outermost_cost text one most context next (Prefixed at prefixes (Invoke name actuals)) reach
    result fits =
    stmt_cost text one most context next (Prefixed at prefixes (Invoke name actuals)) reach fits
outermost_cost text one most context next (Prefixed at prefixes (If arms otherwise)) reach
    result fits =
    stmt_cost text one most context next (Prefixed at prefixes (If arms otherwise)) reach fits
outermost_cost text one most context next (Prefixed at prefixes (While test body)) reach
    result fits =
    stmt_cost text one most context next (Prefixed at prefixes (While test body)) reach fits
outermost_cost text one most context next (Prefixed at prefixes (Repeat body until test)) reach
    result fits =
    stmt_cost text one most context next (Prefixed at prefixes (Repeat body until test)) reach fits
outermost_cost text one most context next (Prefixed at prefixes (For head body)) reach
    result fits =
    stmt_cost text one most context next (Prefixed at prefixes (For head body)) reach fits
outermost_cost text one most context next (Prefixed at prefixes (Border kind names)) reach
    result fits =
    stmt_cost text one most context next (Prefixed at prefixes (Border kind names)) reach fits
outermost_cost text one most context next (Prefixed at prefixes (Write line items)) reach
    result fits =
    stmt_cost text one most context next (Prefixed at prefixes (Write line items)) reach fits
outermost_cost text one most context next (Prefixed at prefixes (Return value)) reach
    result fits =
    stmt_cost text one most context next (Prefixed at prefixes (Return value)) reach fits

-- ---- sites of calls

-- each name that is called is a procedure's
abbrev pub IsProcedure : Site → Type 0
IsProcedure (AtCall reach place name actuals) = is_procedure (kind_of reach.scope name) ≡ true
IsProcedure (AtWhole reach role expr) = Unit {0}
IsProcedure (AtExpr reach rank expr) = Unit {0}
IsProcedure (AtNamed reach name) = Unit {0}
IsProcedure (AtDir reach dir) = Unit {0}
IsProcedure (AtRegion reach hint region) = Unit {0}
IsProcedure (AtMask reach prefix mask) = Unit {0}
IsProcedure (AtStmt reach at prefixes form) = Unit {0}
IsProcedure (AtBase base) = Unit {0}
IsProcedure (AtPosts reach region posts) = Unit {0}
IsProcedure (AtProcedure procedure) = Unit {0}

abbrev pub AreProcedures : List Site → Type 0
AreProcedures [] = Unit {0}
AreProcedures (site ∷ rest) = IsProcedure site × AreProcedures rest

-- what there is of a procedure, or nothing where there is none
abbrev pub of_found : (Routine → ℕ) → Option Routine → ℕ
of_found own None = 0
of_found own (Some routine) = own routine

abbrev pub found_all : Program → List CallSite → List Routine
found_all program calls = filter_map (λ call. routine_named program call.name.text) calls

pub found_sum : (own : Routine → ℕ) (found : Option Routine) (rest : List Routine) →
    sum_by own (cons_option found rest) ≡ of_found own found + sum_by own rest
found_sum own None rest = omega arith
found_sum own (Some routine) rest = sum_by-cons own routine rest

pub calls_found : (program : Program) (own : Routine → ℕ) (all : List Site) → AreProcedures all →
    calls_weight (λ text. of_found own (routine_named program text)) all
    ≡ sum_by own (found_all program (filter_map call_of all))
calls_found program own [] are = refl
calls_found program own (AtCall reach place name actuals ∷ rest) are =
    let call : CallSite = record { name = name; actuals = actuals; shapes = reach.shapes } in
    by (is_procedure (kind_of reach.scope name)) are.0 (calls_found program own rest are.1)
  where
    by : (b : Bool) → b ≡ true →
        calls_weight (λ text. of_found own (routine_named program text)) rest
        ≡ sum_by own (found_all program (filter_map call_of rest)) →
        of_found own (routine_named program name.text)
        + calls_weight (λ text. of_found own (routine_named program text)) rest
        ≡ sum_by own (found_all program
        (cons_option
        (if b then Some (record { name = name; actuals = actuals; shapes = reach.shapes }) else None)
        (filter_map call_of rest)))
    by true e others =
        omega (
          arith,
          others,
          found_sum own (routine_named program name.text)
              (found_all program (filter_map call_of rest)),
        )
    by false e others = cc
calls_found program own (AtWhole reach role expr ∷ rest) are =
    omega (arith, calls_found program own rest are.1)
calls_found program own (AtExpr reach rank expr ∷ rest) are =
    omega (arith, calls_found program own rest are.1)
calls_found program own (AtNamed reach name ∷ rest) are =
    omega (arith, calls_found program own rest are.1)
calls_found program own (AtDir reach dir ∷ rest) are =
    omega (arith, calls_found program own rest are.1)
calls_found program own (AtRegion reach hint region ∷ rest) are =
    omega (arith, calls_found program own rest are.1)
calls_found program own (AtMask reach prefix mask ∷ rest) are =
    omega (arith, calls_found program own rest are.1)
calls_found program own (AtStmt reach at prefixes form ∷ rest) are =
    omega (arith, calls_found program own rest are.1)
calls_found program own (AtBase base ∷ rest) are =
    omega (arith, calls_found program own rest are.1)
calls_found program own (AtPosts reach region posts ∷ rest) are =
    omega (arith, calls_found program own rest are.1)
calls_found program own (AtProcedure procedure ∷ rest) are =
    omega (arith, calls_found program own rest are.1)

-- ---- calls, down a chain

-- the calls of each procedure of the text are of procedures
abbrev pub CallsAreThere : Program → Type 0
CallsAreThere program =
    (text : List ℕ) (routine : Routine) → routine_named program text ≡ Some routine →
    AreProcedures (routine_sites program unknown_shapes routine)

-- what a call pays for, its callees' names among it
abbrev pub own_cost : (List ℕ → ℕ) → Program → Routine → ℕ
own_cost text program routine =
    cost text (stmt_words routine.procedure.body)
    + 6 * sum_by names_count (callees program routine)

abbrev pub call_cost : (List ℕ → ℕ) → Program → ℕ → Routine → ℕ
call_cost text program depth routine =
    6 * names_count routine + expanded program (own_cost text program) depth routine

abbrev pub most_of : (List ℕ → ℕ) → Program → ℕ → List ℕ → ℕ
most_of text program depth name =
    of_found (call_cost text program depth) (routine_named program name)

abbrev formal_with : Bool → Name → FormalName
formal_with by_ref name = record { by_ref = by_ref; name = name }

pub formals_count : (params : List Param) →
    length (formal_names params) ≡ length (flat_map (λ param. param.names) params)
formals_count [] = refl
formals_count (param ∷ params) =
    omega (
      arith,
      formals_count params,
      length-append (map (formal_with param.by_ref) param.names) (formal_names params),
      length-map param.names (formal_with param.by_ref),
      length-append param.names (flat_map (λ (param : Param). param.names) params),
    )

pub both_sums : (f g : Routine → ℕ) (xs : List Routine) →
    sum_by (λ x. 6 * f x + g x) xs ≡ 6 * sum_by f xs + sum_by g xs
both_sums f g [] = refl
both_sums f g (x ∷ xs) =
    omega (
      arith,
      both_sums f g xs,
      sum_by-cons (λ x. 6 * f x + g x) x xs,
      sum_by-cons f x xs,
      sum_by-cons g x xs,
    )

-- the rest of a body, behind its parameters and local variables
abbrev pub lowered_body : Setup → (Calling → Next → Lowered) → Routine → Calling → Framed → Next →
    Lowered
lowered_body setup call routine calling frame last =
    lowered (record { place = where_in setup routine calling frame; call = call }) last
    routine.procedure.body

pub lowered_body_cost : (text : List ℕ → ℕ) → text (10 ∷ []) ≤ 1 → (setup : Setup) (depth : ℕ)
    (call : Calling → Next → Lowered) (routine : Routine) (calling : Calling) (frame : Framed)
    (next : Next) → HasThree setup.known → AreNarrow frame.numbers.arrays →
    AreProcedures (routine_sites setup.program unknown_shapes routine) →
    ((calling : Calling) (next : Next) → AreNarrow calling.numbers.arrays →
    GivensNarrow calling.actuals →
    weight text (call calling next) ≤ most_of text setup.program depth calling.name) →
    weight text (lowered_body setup call routine calling frame next)
    ≤ expanded setup.program (own_cost text setup.program) (suc depth) routine
lowered_body_cost text one setup depth call routine calling frame next three narrow there few =
    let program = setup.program in
    let place = where_in setup routine calling frame in
    let context : Lowering = record { place = place; call = call } in
    let reach = in_body (scope_of program routine) unknown_shapes in
    omega (
      arith,
      outermost_cost text one (most_of text program depth) context next routine.procedure.body reach
          routine.procedure.result (record { three = three; narrow = narrow; call = few }),
      calls_found program (call_cost text program depth)
          (routine_sites program unknown_shapes routine) there,
      both_sums names_count (expanded program (own_cost text program) depth)
          (callees program routine),
    )

-- the locals and the body, or a call's all, where the body is so much
pub call_most : (text : List ℕ → ℕ) (measure : Lowered → ℕ) → IsMeasure text measure →
    (setup : Setup) (entry : Entry) (call : Calling → Next → Lowered) (routine : Routine)
    (calling : Calling) (next : Next) (n : ℕ) → HasThree setup.known →
    AreNarrow calling.numbers.arrays → GivensNarrow calling.actuals →
    Goes measure (lowered_body setup call routine calling) n
    (body_frames setup entry routine calling next) →
    measure (body_code setup entry call routine calling next) ≤ 6 * names_count routine + n
call_most text measure is setup entry call routine calling next n three narrow given goes =
    let params = routine.procedure.params in
    let locals = local_names routine.procedure.locals in
    let first = given_frames entry.line (formal_names params) calling.actuals
    (record { names = []; numbers = calling.numbers }) next in
    omega (
      arith,
      givens_most text measure is entry.line (formal_names params) calling.actuals
          (record { names = []; numbers = calling.numbers }) next
          (λ frame after.
          locals_code setup entry routine.procedure.locals frame after
          (lowered_body setup call routine calling)) (3 * length locals + n) narrow given
          (λ narrow.
          locals_most text measure is setup entry routine.procedure.locals first.frame first.next
          (lowered_body setup call routine calling) n three narrow goes),
      formals_count params,
      length-append (flat_map (λ (param : Param). param.names) params) locals,
    )

none_frames : (line : ℕ) (formals : List FormalName) (frame : Framed) (next : Next) →
    given_frames line formals [] frame next ≡ record { frame = frame; next = next }
none_frames line [] frame next = refl
none_frames line (formal ∷ formals) frame next = refl

-- the same of the entry procedure, which takes nothing
pub entered_most : (text : List ℕ → ℕ) (measure : Lowered → ℕ) → IsMeasure text measure →
    (setup : Setup) (entry : Entry) (call : Calling → Next → Lowered) (routine : Routine)
    (calling : Calling) (next : Next) (n : ℕ) → HasThree setup.known →
    AreNarrow calling.numbers.arrays →
    Goes measure (lowered_body setup call routine calling) n
    (body_frames setup entry routine (record calling { actuals = [] }) next) →
    measure
    (body_code setup entry call routine (record calling { actuals = [] }) next)
    ≤ 3 * length (local_names routine.procedure.locals) + n
entered_most text measure is setup entry call routine calling next n three narrow goes =
    let first : Framed = record { names = []; numbers = calling.numbers } in
    let formals = formal_names routine.procedure.params in
    none_given measure entry.line formals first next
    (λ frame after.
    locals_code setup entry routine.procedure.locals frame after
    (lowered_body setup call routine calling))
    (3 * length (local_names routine.procedure.locals) + n)
    (locals_most text measure is setup entry routine.procedure.locals first next
    (lowered_body setup call routine calling) n three narrow
    (subst (λ (given : Frames). Goes measure (lowered_body setup call routine calling) n
    (local_frames setup entry routine.procedure.locals given.frame given.next))
    (none_frames entry.line formals first next) goes))

pub out_weight : (text : List ℕ → ℕ) (one : Lowered) → weight text (out_of_call one) ≡ weight text one
out_weight text one = omega (arith, length-append one.copies one.later)

pub call_weight_most : (text : List ℕ → ℕ) → text (10 ∷ []) ≤ 1 → (setup : Setup) →
    HasThree setup.known → CallsAreThere setup.program → (depth : ℕ) (calling : Calling)
    (next : Next) → AreNarrow calling.numbers.arrays → GivensNarrow calling.actuals →
    weight text (call_code setup depth calling next)
    ≤ most_of text setup.program depth calling.name
call_weight_most text one setup three there zero calling next narrow given = omega arith
call_weight_most text one setup three there (suc depth) calling next narrow given =
    by (routine_named setup.program calling.name) (there calling.name)
    (call_weight_most text one setup three there depth)
  where
    by : (found : Option Routine) →
        ((routine : Routine) → found ≡ Some routine →
        AreProcedures (routine_sites setup.program unknown_shapes routine)) →
        ((calling : Calling) (next : Next) → AreNarrow calling.numbers.arrays →
        GivensNarrow calling.actuals →
        weight text (call_code setup depth calling next)
        ≤ most_of text setup.program depth calling.name) →
        weight text (routine_code setup true (call_code setup depth) found calling next)
        ≤ of_found (call_cost text setup.program (suc depth)) found
    by None there few = omega arith
    by (Some routine) there few =
        let entry : Entry = record { clears = true; line = calling.line } in
        let inside = in_call (reads_round setup.program routine) next in
        let last = body_frames setup entry routine calling inside in
        omega (
          arith,
          call_most text (weight text) (weight_measures text) setup entry (call_code setup depth)
              routine calling inside
              (expanded setup.program (own_cost text setup.program) (suc depth) routine) three narrow given
              (λ narrow.
              lowered_body_cost text one setup depth (call_code setup depth) routine calling last.frame
              last.next three narrow (there routine refl) few),
          out_weight text
              (body_code setup entry (call_code setup depth) routine calling inside),
        )
