use Rattle.std.proofs.Common.{◌≡◌, ◌∙◌, subst, sym}
use Rattle.zpl_tree.specs.View.{syntax_of}
use Rattle.node_form.specs.declared.tables.Tables.{Tables}
use Rattle.flat_form.specs.Flat.{IsFlat}
use Rattle.code_layout.specs.Room.{HasRoom}
use Rattle.stored_shifts.specs.Stored.{ShiftsAreStored}
use Rattle.zpl_lowering.specs.Tables.{flat_tables}
use Rattle.flat_code.specs.Passes as flat
use Rattle.flat_code.specs.Passes.{node_tables}
use Rattle.program_code.specs.Faults.{of_flat}
use Rattle.program_code.specs.Outcome.{IsUncompiled, build_with}
use Rattle.program_code.proofs.OutcomeLemmas.{counted_as, made, passed_on, passes_refuse}
use Rattle.program_code.proofs.programs.compile.Goals as goal

pub of-requires : goal.of-requires
of-requires c =
    let program = syntax_of c.args.typed.now.program.now in
    let bound = c.requires.bound in
    subst IsFlat (sym (c.in_ok-tables.ensures.lowered bound.settings bound.binds.lists))
    (c.lowered_programs_are_flat.ensures.flat program bound.settings c.requires.grammar
    c.args.typed.now.faultless c.requires.apart bound.accepted)

pub code_of-requires-clause-stored : goal.code_of-requires-clause-stored
code_of-requires-clause-stored c =
    let program = syntax_of c.args.typed.now.program.now in
    let bound = c.requires.bound in
    subst ShiftsAreStored
    (sym (c.of.ensures ∙ c.in_ok-tables.ensures.lowered bound.settings bound.binds.lists))
    (c.lowered_shifts_are_stored.ensures program bound.settings c.requires.grammar
    c.args.typed.now.faultless bound.accepted)

pub returns-in_err-code-clause-refused : goal.returns-in_err-code-clause-refused
returns-in_err-code-clause-refused c = λ settings binds.
    let program = syntax_of c.args.typed.now.program.now in
    let build = c.args.build in
    let tables = c.in_ok-tables.tables in
    let are : tables ≡ flat_tables program settings =
    c.in_ok-tables.ensures.lowered settings binds.lists in
    let counted = counted_as build program settings c.in_ok-tables.ensures.counted in
    passed_on (IsUncompiled (build_with build settings) program)
    c.from_residual-in_err-code.result (of_flat c.in_err-code.field-0.0)
    c.from_residual-in_err-code.ensures.1
    (passes_refuse build program settings counted tables are c.in_err-code.field-0.0
    (subst (λ t. flat.Refuses (node_tables build t) c.in_err-code.field-0.0) c.of.ensures
    c.in_err-code.ensures.refused))

pub returns-clause-compiled : goal.returns-clause-compiled
returns-clause-compiled c = λ settings binds.
    let program = syntax_of c.args.typed.now.program.now in
    let build = c.args.build in
    let tables = c.in_ok-tables.tables in
    let are : tables ≡ flat_tables program settings =
    c.in_ok-tables.ensures.lowered settings binds.lists in
    let counted = counted_as build program settings c.in_ok-tables.ensures.counted in
    let to = λ (t : Tables). node_tables build t in
    made build program settings counted tables are c.in_ok-code.code
    (subst (λ t. c.in_ok-code.code ≡ to t) c.of.ensures c.in_ok-code.ensures.code)
    (subst (λ t. HasRoom (to t)) c.of.ensures c.in_ok-code.ensures.room)
