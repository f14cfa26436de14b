-- How many rows of a whole program are counted, and how many of its loops read with a shift what they
-- put.
use Rattle.std.proofs.Common.{◌≡◌, ℕ, zero, suc, ◌+◌, ◌*◌, ◌-◌, ◌≤◌, Bool, true, false, if◌then◌else◌, inl, inr, List, [], ◌∷◌, ◌++◌, length, Contains, Option, Some, None, refl, sym, ap, ◌∙◌, subst, arith, length-append}
use Rattle.std.specs.Prelude.{flat_map, filter_map, slice_get, sum, sum_by}
use Rattle.std.specs.List.{cons_option}
use Rattle.std.proofs.lemmas.List.{length-map}
use Rattle.std.proofs.lemmas.List.Concat.{length-flat_map}
use Rattle.zpl_nums.specs.declared.operators.Op.{Op}
use Rattle.std.proofs.lemmas.List.Sums.{sum_by-cons, sum_by-append}
use Rattle.zpl_region.specs.declared.regions.Region.{Region}
use Rattle.zpl_tree.specs.Grammar.{IsProgram, Spells}
use Rattle.zpl_tree.specs.Word.{Word}
use Rattle.zpl_tree.specs.Syntax.{Name, Expr, Exprs, Stmt, Prefixed, Stmts, NoStmt, ThenStmt, Assign, Invoke, Block, If, While, Repeat, For, Border, Write, Return, Base, Program}
use Rattle.zpl_tree.specs.Spelling.{prefix_words, end_words, stmt_words, stmts_words, form_words}
use Rattle.zpl_names.specs.Accepted.{IsFaultless}
use Rattle.zpl_names.specs.Scope.{kind_of, is_procedure}
use Rattle.zpl_names.specs.Shapes.{unknown_shapes}
use Rattle.zpl_names.specs.Declared.{Routine, routine_named, entry_of, scope_of}
use Rattle.zpl_names.specs.Reached.{longest_chain}
use Rattle.zpl_names.specs.Sites.{Reach, CallRole, calls_under, in_body, Site, AtWhole, AtExpr, AtCall, AtNamed, AtDir, AtRegion, AtMask, AtStmt, AtBase, AtPosts, AtProcedure, CallSite, call_of, prefixes_sites, under_prefixes, stmt_sites, body_sites, outermost_sites, routine_sites}
use Rattle.zpl_names.specs.Expansion.{array_named, callees, expanded, body_tokens, is_plain_target, names_count, Instance, called_instance, of_routine, instances_from, entry_instance, instances_of, instance_sites, plain_tokens_at, plain_assignments, other_size}
use Rattle.zpl_binding.specs.Outcome.{Computed}
use Rattle.zpl_binding.specs.Settings.{Setting}
use Rattle.zpl_binding.specs.Declarations.{known_of}
use Rattle.zpl_binding.specs.Regions.{Known}
use Rattle.zpl_binding.specs.Storages.{Border as Bordered, borders_of}
use Rattle.zpl_names.proofs.ListLemmas.{Among, Contains-from_among}
use Rattle.zpl_meaning.specs.Calls.{formals_in}
use Rattle.zpl_meaning.specs.Context.{Setup}
use Rattle.zpl_meaning.specs.Points.{assigned_expr}
use Rattle.zpl_meaning.specs.Store.{Environment, thing_of}
use Rattle.zpl_meaning.specs.Program.{setup_of, first_frame}
use Rattle.zpl_meaning.specs.Variables.{Frame}
use Rattle.code_parts.specs.Counts.{count_of, is_counted}
use Rattle.zpl_lowering.specs.Where.{Numbers, Where, Next}
use Rattle.zpl_lowering.specs.Lowered.{behind}
use Rattle.zpl_lowering.specs.Statement.{Calling, Lowering, given_to, lowered, lowered_all, lowered_form}
use Rattle.zpl_lowering.specs.Program.{Entry, where_in, reads_round, in_call, routine_code, call_code, region_rows, global_numbers, globals_made, first_next, entry_calling, entry_code, lowered_program, Framed}
use Rattle.zpl_lowering.specs.Tables.{flat_tables, rows_of, unshared_tables}
use Rattle.array_numbers.specs.of_lowering_fits.Whole.{body_frames}
use Rattle.array_numbers.specs.Calls.{IsLoweredCall, Called, Entered}
use Rattle.array_numbers.proofs.PlainLemmas.{plain_reads}
use Rattle.lowering_sizes.specs.Sizes.{HasTokens}
use Rattle.lowering_sizes.specs.Themselves.{rows_on_themselves}
use Rattle.lowering_sizes.proofs.Costs.{cost, cost_both, no_text}
use Rattle.lowering_sizes.proofs.Slates.{AreNarrow}
use Rattle.text_sharing.proofs.RowLemmas.{shared-counted}
use Rattle.lowering_sizes.proofs.Known.{HasThree, known_three}
use Rattle.lowering_sizes.proofs.Statements.{GivensNarrow}
use Rattle.lowering_sizes.proofs.ProgramLemmas.{AreProcedures, IsProcedure, of_found, found_sum, found_all, CallsAreThere, own_cost, call_cost, most_of, both_sums, lowered_body, call_most, entered_most}
use Rattle.lowering_sizes.proofs.DeclaredLemmas.{calls_there, local_count, var_counts, known_regions, frame_holds, numbers_narrow}
use Rattle.lowering_sizes.proofs.SpelledLemmas.{declared_words}
use Rattle.lowering_sizes.proofs.SizeLemmas.{bare_parts, program_apart, none_of}
use Rattle.lowering_sizes.proofs.Counting.{StandsApart, rows_count, code_count, counts_measure, tables_count}
use Rattle.lowering_sizes.proofs.QuietSites.{Marks, left_of, right_of, left_both, right_both, Grows, prefixes_quiet}
use Rattle.lowering_sizes.proofs.CountedForms.{AreHere, Counts, first_here, rest_here, stmt_calm, under_count, stmt_count}

-- ---- a procedure's body

body_calm : (k : Marks) → Grows k → (reach : Reach) (result : Option Base) (stmts : Stmts) →
    left_of k (body_sites reach result stmts)
    ≤ right_of k (body_sites reach result stmts) + cost no_text (stmts_words stmts)
body_calm k grows reach result NoStmt = omega arith
body_calm k grows reach result (ThenStmt first rest) = by rest (body_calm k grows reach result rest)
  where
    by : (rest : Stmts) →
        left_of k (body_sites reach result rest)
        ≤ right_of k (body_sites reach result rest) + cost no_text (stmts_words rest) →
        left_of k (body_sites reach result (ThenStmt first rest))
        ≤ right_of k (body_sites reach result (ThenStmt first rest))
        + cost no_text (stmts_words (ThenStmt first rest))
    by NoStmt others =
        omega (
          arith,
          stmt_calm k grows (record reach { result = result }) first,
          cost_both no_text (stmt_words first) [],
        )
    by (ThenStmt second rest) others =
        let behind = ThenStmt second rest in
        omega (
          arith,
          others,
          stmt_calm k grows reach first,
          left_both k (stmt_sites reach first) (body_sites reach result behind),
          right_both k (stmt_sites reach first) (body_sites reach result behind),
          cost_both no_text (stmt_words first) (stmts_words behind),
        )

body_count : (k : Marks) (from : ℕ) (context : Lowering) (next : Next) (stmts : Stmts)
    (reach : Reach) (result : Option Base) → Counts k from context → from ≤ next.arrays →
    AreHere k (body_sites reach result stmts) →
    code_count (lowered_all context next stmts) + left_of k (body_sites reach result stmts)
    ≤ cost no_text (stmts_words stmts) + right_of k (body_sites reach result stmts)
body_count k from context next NoStmt reach result fits more here = omega arith
body_count k from context next (ThenStmt first rest) reach result fits more here =
    by rest (λ after more here. body_count k from context after rest reach result fits more here) here
  where
    by : (rest : Stmts) →
        ((after : Next) → from ≤ after.arrays → AreHere k (body_sites reach result rest) →
        code_count (lowered_all context after rest) + left_of k (body_sites reach result rest)
        ≤ cost no_text (stmts_words rest) + right_of k (body_sites reach result rest)) →
        AreHere k (body_sites reach result (ThenStmt first rest)) →
        code_count (lowered_all context next (ThenStmt first rest))
        + left_of k (body_sites reach result (ThenStmt first rest))
        ≤ cost no_text (stmts_words (ThenStmt first rest))
        + right_of k (body_sites reach result (ThenStmt first rest))
    by NoStmt others here =
        omega (
          arith,
          stmt_count k from context next first (record reach { result = result }) fits more here,
          cost_both no_text (stmt_words first) [],
        )
    by (ThenStmt second rest) others here =
        let last = ThenStmt second rest in
        omega (
          arith,
          stmt_count k from context next first reach fits more
              (first_here k (stmt_sites reach first) (body_sites reach result last) here),
          others (behind next (lowered context next first)) (omega (arith, more))
              (rest_here k (stmt_sites reach first) (body_sites reach result last) here),
          left_both k (stmt_sites reach first) (body_sites reach result last),
          right_both k (stmt_sites reach first) (body_sites reach result last),
          cost_both no_text (stmt_words first) (stmts_words last),
        )

outermost_calm : (k : Marks) → Grows k → (reach : Reach) (result : Option Base) (stmt : Stmt) →
    left_of k (outermost_sites reach result stmt)
    ≤ right_of k (outermost_sites reach result stmt) + cost no_text (stmt_words stmt)
outermost_calm k grows reach result (Prefixed at prefixes (Block body)) =
    let under = under_prefixes reach prefixes in
    omega (
      arith,
      body_calm k grows under result body,
      prefixes_quiet k grows reach prefixes,
      left_both k (prefixes_sites reach prefixes) (body_sites under result body),
      right_both k (prefixes_sites reach prefixes) (body_sites under result body),
      cost_both no_text (flat_map prefix_words prefixes) (form_words (Block body)),
      cost_both no_text (stmts_words body) end_words,
    )
outermost_calm k grows reach result (Prefixed at prefixes (Assign name op value)) =
    stmt_calm k grows reach (Prefixed at prefixes (Assign name op value))
outermost_calm k grows reach result (Prefixed at prefixes (Invoke name actuals)) =
    stmt_calm k grows reach (Prefixed at prefixes (Invoke name actuals))
outermost_calm k grows reach result (Prefixed at prefixes (If arms otherwise)) =
    stmt_calm k grows reach (Prefixed at prefixes (If arms otherwise))
outermost_calm k grows reach result (Prefixed at prefixes (While test body)) =
    stmt_calm k grows reach (Prefixed at prefixes (While test body))
outermost_calm k grows reach result (Prefixed at prefixes (Repeat body until test)) =
    stmt_calm k grows reach (Prefixed at prefixes (Repeat body until test))
outermost_calm k grows reach result (Prefixed at prefixes (For head body)) =
    stmt_calm k grows reach (Prefixed at prefixes (For head body))
outermost_calm k grows reach result (Prefixed at prefixes (Border kind names)) =
    stmt_calm k grows reach (Prefixed at prefixes (Border kind names))
outermost_calm k grows reach result (Prefixed at prefixes (Write line items)) =
    stmt_calm k grows reach (Prefixed at prefixes (Write line items))
outermost_calm k grows reach result (Prefixed at prefixes (Return value)) =
    stmt_calm k grows reach (Prefixed at prefixes (Return value))

outermost_count : (k : Marks) (from : ℕ) (context : Lowering) (next : Next) (stmt : Stmt)
    (reach : Reach) (result : Option Base) → Counts k from context → from ≤ next.arrays →
    AreHere k (outermost_sites reach result stmt) →
    code_count (lowered context next stmt) + left_of k (outermost_sites reach result stmt)
    ≤ cost no_text (stmt_words stmt) + right_of k (outermost_sites reach result stmt)
outermost_count k from context next (Prefixed at prefixes (Block body)) reach result fits
    more here =
    let under = under_prefixes reach prefixes in
    let n = cost no_text (stmts_words body) + right_of k (body_sites under result body)
    - left_of k (body_sites under result body) in
    omega (
      arith,
      under_count k from false context next prefixes
          (λ inner after. lowered_form inner after at (Block body)) n fits more
          (λ inner after fit more.
          omega (
            arith,
            body_count k from inner after body under result fit more
                (rest_here k (prefixes_sites reach prefixes) (body_sites under result body) here),
          )),
      body_calm k fits.grows under result body,
      prefixes_quiet k fits.grows reach prefixes,
      left_both k (prefixes_sites reach prefixes) (body_sites under result body),
      right_both k (prefixes_sites reach prefixes) (body_sites under result body),
      cost_both no_text (flat_map prefix_words prefixes) (form_words (Block body)),
      cost_both no_text (stmts_words body) end_words,
    )
outermost_count k from context next (Prefixed at prefixes (Assign name op value)) reach result fits
    more here =
    stmt_count k from context next (Prefixed at prefixes (Assign name op value)) reach fits more
    here
outermost_count k from context next (Prefixed at prefixes (Invoke name actuals)) reach result fits
    more here =
    stmt_count k from context next (Prefixed at prefixes (Invoke name actuals)) reach fits more
    here
outermost_count k from context next (Prefixed at prefixes (If arms otherwise)) reach result fits
    more here =
    stmt_count k from context next (Prefixed at prefixes (If arms otherwise)) reach fits more
    here
outermost_count k from context next (Prefixed at prefixes (While test body)) reach result fits
    more here =
    stmt_count k from context next (Prefixed at prefixes (While test body)) reach fits more
    here
outermost_count k from context next (Prefixed at prefixes (Repeat body until test)) reach result fits
    more here =
    stmt_count k from context next (Prefixed at prefixes (Repeat body until test)) reach fits more
    here
outermost_count k from context next (Prefixed at prefixes (For head body)) reach result fits
    more here =
    stmt_count k from context next (Prefixed at prefixes (For head body)) reach fits more
    here
outermost_count k from context next (Prefixed at prefixes (Border kind names)) reach result fits
    more here =
    stmt_count k from context next (Prefixed at prefixes (Border kind names)) reach fits more
    here
outermost_count k from context next (Prefixed at prefixes (Write line items)) reach result fits
    more here =
    stmt_count k from context next (Prefixed at prefixes (Write line items)) reach fits more
    here
outermost_count k from context next (Prefixed at prefixes (Return value)) reach result fits
    more here =
    stmt_count k from context next (Prefixed at prefixes (Return value)) reach fits more
    here

-- ---- instances

-- the tokens of the plain assignments of a call, and how many these are
abbrev plain_in : Program → Instance → List ℕ
plain_in program instance =
    flat_map (plain_tokens_at program instance) (instance_sites program instance)

abbrev tokens_in : Program → Instance → ℕ
tokens_in program instance = sum (plain_in program instance)

abbrev count_in : Program → Instance → ℕ
count_in program instance = length (plain_in program instance)

abbrev called_from : Program → ℕ → Instance → CallSite → List Instance
called_from program depth caller call =
    of_routine (λ routine. instances_from program depth (called_instance program caller call routine))
    (routine_named program call.name.text)

abbrev call_at : Reach → Name → Exprs → CallSite
call_at reach name actuals = record { name = name; actuals = actuals; shapes = reach.shapes }

-- what is told of a call that a procedure makes
abbrev marks_at : Program → ℕ → Instance → Marks
marks_at program depth caller = record {
  program = program;
  instance = caller;
  less = λ reach name actuals.
      32 * sum_by (tokens_in program) (called_from program depth caller (call_at reach name actuals));
  most = λ reach name actuals.
      sum_by (count_in program) (called_from program depth caller (call_at reach name actuals))
      + most_of no_text program depth name.text;
}

abbrev all_called : Program → ℕ → Instance → List CallSite → List Instance
all_called program depth caller calls = flat_map (called_from program depth caller) calls

sites_left : (program : Program) (depth : ℕ) (caller : Instance) (all : List Site) →
    AreProcedures all →
    left_of (marks_at program depth caller) all
    ≡ 32 * (sum (flat_map (plain_tokens_at program caller) all)
    + sum_by (tokens_in program) (all_called program depth caller (filter_map call_of all)))
sites_left program depth caller [] are = refl
sites_left program depth caller (AtCall reach place name actuals ∷ rest) are =
    by (is_procedure (kind_of reach.scope name)) are.0 (sites_left program depth caller rest are.1)
  where
    by : (b : Bool) → b ≡ true →
        left_of (marks_at program depth caller) rest
        ≡ 32 * (sum (flat_map (plain_tokens_at program caller) rest)
        + sum_by (tokens_in program) (all_called program depth caller (filter_map call_of rest))) →
        32 * sum_by (tokens_in program)
        (called_from program depth caller (call_at reach name actuals))
        + left_of (marks_at program depth caller) rest
        ≡ 32 * (sum (flat_map (plain_tokens_at program caller) rest)
        + sum_by (tokens_in program) (all_called program depth caller
        (cons_option (if b then Some (call_at reach name actuals) else None)
        (filter_map call_of rest))))
    by true e others =
        omega (
          arith,
          others,
          sum_by-append (tokens_in program)
              (called_from program depth caller (call_at reach name actuals))
              (all_called program depth caller (filter_map call_of rest)),
        )
    by false e others = cc
sites_left program depth caller (AtStmt reach at prefixes form ∷ rest) are =
    omega (
      arith,
      sites_left program depth caller rest are.1,
      sum_by-append (λ n. n) (plain_tokens_at program caller (AtStmt reach at prefixes form))
          (flat_map (plain_tokens_at program caller) rest),
    )
sites_left program depth caller (AtWhole reach role expr ∷ rest) are =
    omega (arith, sites_left program depth caller rest are.1)
sites_left program depth caller (AtExpr reach rank expr ∷ rest) are =
    omega (arith, sites_left program depth caller rest are.1)
sites_left program depth caller (AtNamed reach name ∷ rest) are =
    omega (arith, sites_left program depth caller rest are.1)
sites_left program depth caller (AtDir reach dir ∷ rest) are =
    omega (arith, sites_left program depth caller rest are.1)
sites_left program depth caller (AtRegion reach hint region ∷ rest) are =
    omega (arith, sites_left program depth caller rest are.1)
sites_left program depth caller (AtMask reach prefix mask ∷ rest) are =
    omega (arith, sites_left program depth caller rest are.1)
sites_left program depth caller (AtBase base ∷ rest) are =
    omega (arith, sites_left program depth caller rest are.1)
sites_left program depth caller (AtPosts reach region posts ∷ rest) are =
    omega (arith, sites_left program depth caller rest are.1)
sites_left program depth caller (AtProcedure procedure ∷ rest) are =
    omega (arith, sites_left program depth caller rest are.1)

sites_right : (program : Program) (depth : ℕ) (caller : Instance) (all : List Site) →
    AreProcedures all →
    right_of (marks_at program depth caller) all
    ≡ length (flat_map (plain_tokens_at program caller) all)
    + (sum_by (count_in program) (all_called program depth caller (filter_map call_of all))
    + sum_by (call_cost no_text program depth) (found_all program (filter_map call_of all)))
sites_right program depth caller [] are = refl
sites_right program depth caller (AtCall reach place name actuals ∷ rest) are =
    by (is_procedure (kind_of reach.scope name)) are.0 (sites_right program depth caller rest are.1)
  where
    by : (b : Bool) → b ≡ true →
        right_of (marks_at program depth caller) rest
        ≡ length (flat_map (plain_tokens_at program caller) rest)
        + (sum_by (count_in program) (all_called program depth caller (filter_map call_of rest))
        + sum_by (call_cost no_text program depth) (found_all program (filter_map call_of rest))) →
        sum_by (count_in program) (called_from program depth caller (call_at reach name actuals))
        + most_of no_text program depth name.text
        + right_of (marks_at program depth caller) rest
        ≡ length (flat_map (plain_tokens_at program caller) rest)
        + (sum_by (count_in program) (all_called program depth caller
        (cons_option (if b then Some (call_at reach name actuals) else None)
        (filter_map call_of rest)))
        + sum_by (call_cost no_text program depth) (found_all program
        (cons_option (if b then Some (call_at reach name actuals) else None)
        (filter_map call_of rest))))
    by true e others =
        omega (
          arith,
          others,
          sum_by-append (count_in program)
              (called_from program depth caller (call_at reach name actuals))
              (all_called program depth caller (filter_map call_of rest)),
          found_sum (call_cost no_text program depth) (routine_named program name.text)
              (found_all program (filter_map call_of rest)),
        )
    by false e others = cc
sites_right program depth caller (AtStmt reach at prefixes form ∷ rest) are =
    omega (
      arith,
      sites_right program depth caller rest are.1,
      length-append (plain_tokens_at program caller (AtStmt reach at prefixes form))
          (flat_map (plain_tokens_at program caller) rest),
    )
sites_right program depth caller (AtWhole reach role expr ∷ rest) are =
    omega (arith, sites_right program depth caller rest are.1)
sites_right program depth caller (AtExpr reach rank expr ∷ rest) are =
    omega (arith, sites_right program depth caller rest are.1)
sites_right program depth caller (AtNamed reach name ∷ rest) are =
    omega (arith, sites_right program depth caller rest are.1)
sites_right program depth caller (AtDir reach dir ∷ rest) are =
    omega (arith, sites_right program depth caller rest are.1)
sites_right program depth caller (AtRegion reach hint region ∷ rest) are =
    omega (arith, sites_right program depth caller rest are.1)
sites_right program depth caller (AtMask reach prefix mask ∷ rest) are =
    omega (arith, sites_right program depth caller rest are.1)
sites_right program depth caller (AtBase base ∷ rest) are =
    omega (arith, sites_right program depth caller rest are.1)
sites_right program depth caller (AtPosts reach region posts ∷ rest) are =
    omega (arith, sites_right program depth caller rest are.1)
sites_right program depth caller (AtProcedure procedure ∷ rest) are =
    omega (arith, sites_right program depth caller rest are.1)

-- a call of a procedure among sites is among their calls
called_there : (all : List Site) → AreProcedures all → (reach : Reach) (place : CallRole)
    (name : Name) (actuals : Exprs) → Among all (AtCall reach place name actuals) →
    Among (filter_map call_of all) (call_at reach name actuals)
called_there [] are reach place name actuals there = absurd there
called_there (site ∷ rest) are reach place name actuals (inl is) =
    taken (call_of site) (filter_map call_of rest)
    (ap call_of is
    ∙ chosen (is_procedure (kind_of reach.scope name)) (subst IsProcedure is are.0))
  where
    taken : (found : Option CallSite) (rest : List CallSite) →
        found ≡ Some (call_at reach name actuals) →
        Among (cons_option found rest) (call_at reach name actuals)
    taken None rest e = cc
    taken (Some call) rest e = inl (let same : call ≡ call_at reach name actuals = cc in same)

    chosen : (b : Bool) → b ≡ true →
        (if b then Some (call_at reach name actuals) else None) ≡ Some (call_at reach name actuals)
    chosen true e = refl
    chosen false e = cc
called_there (site ∷ rest) are reach place name actuals (inr there) =
    later (call_of site) (called_there rest are.1 reach place name actuals there)
  where
    later : (found : Option CallSite) →
        Among (filter_map call_of rest) (call_at reach name actuals) →
        Among (cons_option found (filter_map call_of rest)) (call_at reach name actuals)
    later None there = there
    later (Some call) there = inr there

-- ---- plain assignments are no longer than what there is in all

abbrev CallsCalm : Program → ℕ → Type 0
CallsCalm program depth =
    (instance : Instance) → AreProcedures (routine_sites program unknown_shapes instance.routine) →
    32 * sum_by (tokens_in program) (instances_from program depth instance)
    ≤ sum_by (count_in program) (instances_from program depth instance)
    + call_cost no_text program depth instance.routine

marks_grow : (program : Program) → CallsAreThere program → (depth : ℕ) → CallsCalm program depth →
    (caller : Instance) → Grows (marks_at program depth caller)
marks_grow program there depth calm caller reach name actuals =
    by (routine_named program name.text) (there name.text)
  where
    by : (found : Option Routine) →
        ((routine : Routine) → found ≡ Some routine →
        AreProcedures (routine_sites program unknown_shapes routine)) →
        32 * sum_by (tokens_in program)
        (of_routine (λ routine. instances_from program depth
        (called_instance program caller (call_at reach name actuals) routine)) found)
        ≤ sum_by (count_in program)
        (of_routine (λ routine. instances_from program depth
        (called_instance program caller (call_at reach name actuals) routine)) found)
        + of_found (call_cost no_text program depth) found
    by None are = omega arith
    by (Some routine) are =
        calm (called_instance program caller (call_at reach name actuals) routine)
        (are routine refl)

told_calm : (program : Program) → CallsAreThere program → (depth : ℕ) → CallsCalm program depth →
    (instance : Instance) → AreProcedures (routine_sites program unknown_shapes instance.routine) →
    32 * sum_by (tokens_in program) (instances_from program (suc depth) instance)
    ≤ sum_by (count_in program) (instances_from program (suc depth) instance)
    + expanded program (own_cost no_text program) (suc depth) instance.routine
told_calm program there depth calm instance are =
    let routine = instance.routine in
    let k = marks_at program depth instance in
    let reach = in_body (scope_of program routine) unknown_shapes in
    let all = routine_sites program unknown_shapes routine in
    let calls = filter_map call_of all in
    omega (
      arith,
      outermost_calm k (marks_grow program there depth calm instance) reach routine.procedure.result
          routine.procedure.body,
      sites_left program depth instance all are,
      sites_right program depth instance all are,
      sum_by-cons (tokens_in program) instance (all_called program depth instance calls),
      sum_by-cons (count_in program) instance (all_called program depth instance calls),
      both_sums names_count (expanded program (own_cost no_text program) depth)
          (callees program routine),
    )

calls_calm : (program : Program) → CallsAreThere program → (depth : ℕ) → CallsCalm program depth
calls_calm program there zero instance are = omega arith
calls_calm program there (suc depth) instance are =
    omega (arith, told_calm program there depth (calls_calm program there depth) instance are)

-- ---- calls, down a chain

-- Wherever a body is lowered, what a plain assignment assigns is never read from its array with a
-- shift.
abbrev CallsStandApart : Setup → Numbers → ℕ → Type 0
CallsStandApart setup start first =
    (instance : Instance) (framed : Framed) (arrays : ℕ) →
    IsLoweredCall setup start first instance framed arrays → (w : Where) →
    w.environment ≡ record { names = framed.names ++ setup.globals } →
    w.numbers ≡ framed.numbers → (name : Name) (op : Option Op) (value : Expr) →
    is_plain_target setup.program instance (array_named setup.program instance name) value ≡ true →
    StandsApart w (assigned_expr name op value) (thing_of w.environment name.text)

module _ (setup : Setup) (start : Numbers) (first : ℕ)
    (apart : CallsStandApart setup start first) (three : HasThree setup.known)
    (there : CallsAreThere setup.program) where
  -- a procedure is lowered as an expanded call, wherever it has room for its arrays
  abbrev IsEntered : Instance → Calling → Next → Type 0
  IsEntered instance calling next =
      (entry : Entry) (inside : Next) → next.arrays ≤ inside.arrays →
      (let last = body_frames setup entry instance.routine calling inside in
      IsLoweredCall setup start first instance last.frame last.next.arrays)

  abbrev CallsCount : ℕ → Type 0
  CallsCount depth =
      (calling : Calling) (next : Next) → AreNarrow calling.numbers.arrays →
      GivensNarrow calling.actuals → (instance : Instance) →
      routine_named setup.program calling.name ≡ Some instance.routine →
      IsEntered instance calling next →
      code_count (call_code setup depth calling next)
      + 32 * sum_by (tokens_in setup.program) (instances_from setup.program depth instance)
      ≤ sum_by (count_in setup.program) (instances_from setup.program depth instance)
      + call_cost no_text setup.program depth instance.routine

  none_called : (depth : ℕ) (calling : Calling) (next : Next) →
      routine_named setup.program calling.name ≡ None →
      code_count (call_code setup depth calling next) ≡ 0
  none_called zero calling next e = refl
  none_called (suc depth) calling next e =
      subst
      (λ found. code_count (routine_code setup true (call_code setup depth) found calling next) ≡ 0)
      (sym e) refl

  -- a call that a lowered procedure's text makes
  call_told : (depth : ℕ) → CallsCount depth → (caller : Instance) (framed : Framed)
      (arrays : ℕ) → IsLoweredCall setup start first caller framed arrays →
      (calling : Calling) (next : Next) → AreNarrow calling.numbers.arrays →
      GivensNarrow calling.actuals → (reach : Reach) (place : CallRole) (name : Name)
      (actuals : Exprs) → calling.name ≡ name.text →
      AreProcedures (routine_sites setup.program unknown_shapes caller.routine) →
      Among (routine_sites setup.program unknown_shapes caller.routine)
      (AtCall reach place name actuals) →
      (w : Where) (scalar : ℕ) →
      w.environment ≡ record { names = framed.names ++ setup.globals } →
      w.numbers ≡ framed.numbers → calling.actuals ≡
      given_to w scalar (formals_in (kind_of (scope_of setup.program caller.routine) name)) actuals →
      calling.numbers ≡ w.numbers → arrays ≤ next.arrays →
      code_count (call_code setup depth calling next)
      + (marks_at setup.program depth caller).less reach name actuals
      ≤ (marks_at setup.program depth caller).most reach name actuals
  call_told depth counts caller framed arrays is calling next narrow given reach place name actuals
      e are here w scalar environment numbers gives same more =
      by (routine_named setup.program name.text) refl
    where
      call : CallSite
      call = call_at reach name actuals

      contains : Contains (calls_under setup.program unknown_shapes caller.routine) call
      contains =
          Contains-from_among (calls_under setup.program unknown_shapes caller.routine) call
          (called_there (routine_sites setup.program unknown_shapes caller.routine) are reach place
          name actuals here)

      by : (found : Option Routine) → routine_named setup.program name.text ≡ found →
          code_count (call_code setup depth calling next)
          + 32 * sum_by (tokens_in setup.program)
          (of_routine (λ routine. instances_from setup.program depth
          (called_instance setup.program caller (call_at reach name actuals) routine)) found)
          ≤ sum_by (count_in setup.program)
          (of_routine (λ routine. instances_from setup.program depth
          (called_instance setup.program caller (call_at reach name actuals) routine)) found)
          + of_found (call_cost no_text setup.program depth) found
      by None found =
          omega (
            arith,
            none_called depth calling next
                (ap (λ text. routine_named setup.program text) e ∙ found),
          )
      by (Some routine) found =
          counts calling next narrow given
          (called_instance setup.program caller (call_at reach name actuals) routine)
          (ap (λ text. routine_named setup.program text) e ∙ found)
          (λ entry inside most.
          Called caller framed arrays is (call_at reach name actuals) contains routine found w
          environment numbers scalar entry calling inside gives same (omega (arith, more, most)))

  -- a procedure's own rows, and those of its calls
  body_told : (depth : ℕ) (instance : Instance) (calling : Calling) (next : Next)
      (frame : Framed) → IsLoweredCall setup start first instance frame next.arrays →
      AreNarrow frame.numbers.arrays →
      AreProcedures (routine_sites setup.program unknown_shapes instance.routine) →
      CallsCount depth →
      code_count (lowered_body setup (call_code setup depth) instance.routine calling frame next)
      + 32 * sum_by (tokens_in setup.program) (instances_from setup.program (suc depth) instance)
      ≤ sum_by (count_in setup.program) (instances_from setup.program (suc depth) instance)
      + expanded setup.program (own_cost no_text setup.program) (suc depth) instance.routine
  body_told depth instance calling next frame is narrow are counts =
      let program = setup.program in
      let routine = instance.routine in
      let k = marks_at program depth instance in
      let context : Lowering =
      record { place = where_in setup routine calling frame; call = call_code setup depth } in
      let reach = in_body (scope_of program routine) unknown_shapes in
      let all = routine_sites program unknown_shapes routine in
      let calls = filter_map call_of all in
      omega (
        arith,
        outermost_count k next.arrays context next routine.procedure.body reach
            routine.procedure.result
            (record {
              three = three;
              narrow = narrow;
              grows = marks_grow program there depth (calls_calm program there depth) instance;
              apart = λ w environment numbers name op value plain.
                  apart instance frame next.arrays is w environment numbers name op value plain;
              call = λ calling after narrow given reach place name actuals e here w scalar environment
                  numbers gives same more.
                  call_told depth counts instance frame next.arrays is calling after narrow given reach
                  place name actuals e are here w scalar environment numbers gives same more;
            })
            (omega arith) (λ site there. there),
        sites_left program depth instance all are,
        sites_right program depth instance all are,
        sum_by-cons (tokens_in program) instance (all_called program depth instance calls),
        sum_by-cons (count_in program) instance (all_called program depth instance calls),
        both_sums names_count (expanded program (own_cost no_text program) depth)
            (callees program routine),
      )

  calls_count : (depth : ℕ) → CallsCount depth
  calls_count zero calling next narrow given instance e entered = omega arith
  calls_count (suc depth) calling next narrow given instance e entered =
      let program = setup.program in
      let routine = instance.routine in
      let are = there calling.name routine e in
      let entry : Entry = record { clears = true; line = calling.line } in
      let inside = in_call (reads_round program routine) next in
      let last = body_frames setup entry routine calling inside in
      let left = sum_by (tokens_in program) (instances_from program (suc depth) instance) in
      let right = sum_by (count_in program) (instances_from program (suc depth) instance)
      + expanded program (own_cost no_text program) (suc depth) routine in
      subst
      (λ found. code_count (routine_code setup true (call_code setup depth) found calling next)
      + 32 * sum_by (tokens_in program) (instances_from program (suc depth) instance)
      ≤ sum_by (count_in program) (instances_from program (suc depth) instance)
      + call_cost no_text program (suc depth) routine)
      (sym e)
      (omega (
        arith,
        call_most no_text code_count counts_measure setup entry (call_code setup depth) routine calling
            inside (right - 32 * left) three narrow given
            (λ narrow.
            omega (
              arith,
              body_told depth instance calling last.next last.frame (entered entry inside (omega arith))
                  narrow are (calls_count depth),
            )),
        told_calm program there depth (calls_calm program there depth) instance are,
      ))

  -- ---- the whole program

  entry_told : (frame : Frame) → start ≡ global_numbers frame →
      AreNarrow (global_numbers frame).arrays → (depth : ℕ) (next : Next) → first ≤ next.arrays →
      code_count (entry_code setup depth (entry_calling setup.program frame) next)
      + 32 * sum_by (tokens_in setup.program)
      (of_routine (λ entry. instances_from setup.program depth (entry_instance entry))
      (entry_of setup.program))
      ≤ sum_by (count_in setup.program)
      (of_routine (λ entry. instances_from setup.program depth (entry_instance entry))
      (entry_of setup.program))
      + (3 * of_found local_count (entry_of setup.program)
      + of_found (expanded setup.program (own_cost no_text setup.program) depth)
      (entry_of setup.program))
  entry_told frame begins narrow zero next more = by (entry_of setup.program)
    where
      by : (found : Option Routine) →
          0 + 32 * sum_by (tokens_in setup.program)
          (of_routine (λ entry. instances_from setup.program 0 (entry_instance entry)) found)
          ≤ sum_by (count_in setup.program)
          (of_routine (λ entry. instances_from setup.program 0 (entry_instance entry)) found)
          + (3 * of_found local_count found
          + of_found (expanded setup.program (own_cost no_text setup.program) 0) found)
      by None = omega arith
      by (Some routine) = omega arith
  entry_told frame begins narrow (suc depth) next more = by (entry_of setup.program) refl
    where
      by : (found : Option Routine) → entry_of setup.program ≡ found →
          code_count
          (routine_code setup false (call_code setup depth) found (entry_calling setup.program frame)
          next)
          + 32 * sum_by (tokens_in setup.program)
          (of_routine (λ entry. instances_from setup.program (suc depth) (entry_instance entry)) found)
          ≤ sum_by (count_in setup.program)
          (of_routine (λ entry. instances_from setup.program (suc depth) (entry_instance entry)) found)
          + (3 * of_found local_count found
          + of_found (expanded setup.program (own_cost no_text setup.program) (suc depth)) found)
      by None found = omega arith
      by (Some routine) found =
          let program = setup.program in
          let instance = entry_instance routine in
          let calling = entry_calling program frame in
          let are = there program.name.text routine found in
          let entry : Entry = record { clears = false; line = calling.line } in
          let inside = in_call (reads_round program routine) next in
          let last = body_frames setup entry routine calling inside in
          let left = sum_by (tokens_in program) (instances_from program (suc depth) instance) in
          let right = sum_by (count_in program) (instances_from program (suc depth) instance)
          + expanded program (own_cost no_text program) (suc depth) routine in
          omega (
            arith,
            entered_most no_text code_count counts_measure setup entry (call_code setup depth) routine
                calling inside (right - 32 * left) three narrow
                (λ narrow.
                omega (
                  arith,
                  body_told depth instance calling last.next last.frame
                      (Entered routine entry calling inside found refl (sym begins) more) narrow are
                      (calls_count depth),
                )),
            told_calm program there depth (calls_calm program there depth) instance are,
          )

region_rows_count : (slot : ℕ) (regions : List (Computed Region)) →
    rows_count (region_rows slot regions) ≡ length regions
region_rows_count slot [] = refl
region_rows_count slot (one ∷ rest) = omega (arith, region_rows_count (suc slot) rest)

sum_in : (program : Program) (all : List Instance) →
    sum (flat_map (plain_in program) all) ≡ sum_by (tokens_in program) all
sum_in program [] = refl
sum_in program (instance ∷ rest) =
    omega (
      arith,
      sum_in program rest,
      sum_by-append (λ n. n) (plain_in program instance) (flat_map (plain_in program) rest),
      sum_by-cons (tokens_in program) instance rest,
    )

-- ---- plain assignments of accepted programs

lowered_apart : (program : Program) (known : Known) (borders : List Bordered) →
    IsProgram program → IsFaultless program →
    (let frame = first_frame program known borders in
    CallsStandApart (setup_of program known borders frame) (global_numbers frame)
    (length frame.store.arrays))
lowered_apart program known borders grammar clean instance framed arrays is w environment numbers
    name op value plain place home stored thing has line next rank free =
    plain_reads program known borders grammar clean instance framed arrays is w environment numbers
    name op value stored.array
    (record {
      place = place;
      home = home;
      stored = stored;
      thing = ap (λ (e : Environment). thing_of e name.text) (sym environment) ∙ thing;
      has = ap (λ (n : Numbers). slice_get n.arrays place) (sym numbers) ∙ has;
      is = refl;
    }) plain line next rank free

grammar_of : (program : Program) (words : List Word) → Spells program words → IsProgram program
grammar_of program words (decls, grammar, each, same) = grammar

-- Loops that read with a shift what they put are counted twice more.
pub count_law : (program : Program) (settings : List Setting) (tokens : ℕ) →
    IsFaultless program → HasTokens program tokens →
    count_of is_counted (flat_tables program settings)
    + 2 * rows_on_themselves (rows_of (lowered_program program settings))
    ≤ plain_assignments program + 32 * (other_size program tokens + 1)
count_law program settings tokens faultless fit =
    let known = known_of program settings in
    let borders = borders_of program in
    let frame = first_frame program known borders in
    let setup = setup_of program known borders frame in
    let three = known_three program settings in
    let held = frame_holds program known borders three in
    let next = behind (first_next program) (globals_made known frame) in
    omega (
      arith,
      shared-counted (unshared_tables program settings) is_counted (λ old new. refl),
      tables_count (1 ∷ 0 ∷ 0 ∷ []) (lowered_program program settings),
      entry_told setup (global_numbers frame) (length frame.store.arrays)
          (lowered_apart program known borders (grammar_of program fit.words fit.spells) faultless) three
          (calls_there program faultless) frame refl
          (numbers_narrow frame (var_counts program.decls) held) longest_chain next
          (omega (arith, length-map frame.store.arrays (λ array. array.storage))),
      region_rows_count 0 known.regions,
      known_regions program settings,
      declared_words program tokens program.name.text fit,
      sum_in program (instances_of program),
      length-flat_map (plain_in program) (instances_of program),
      program_apart program (own_cost no_text program) body_tokens (λ routine. 0)
          (λ routine. sum_by names_count (callees program routine))
          (λ routine. omega (arith, bare_parts (stmt_words routine.procedure.body))),
      none_of program,
    )
