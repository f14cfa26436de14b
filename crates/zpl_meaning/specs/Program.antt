-- The meaning of a program under settings: what its entry procedure prints, and how it ends.
use Rattle.std.specs.Prelude.{ℕ, zero, suc, List, [], Option, Some, None}
use Rattle.zpl_binding.specs.of_zpl_nums.declared.ends.End.{End}
use Rattle.zpl_binding.specs.of_zpl_tree.Syntax.{Program}
use Rattle.zpl_binding.specs.of_zpl_names.Declared.{Routine, routine_named}
use Rattle.zpl_binding.specs.of_zpl_names.Reached.{longest_chain}
use Rattle.zpl_binding.specs.Settings.{Setting}
use Rattle.zpl_binding.specs.Declarations.{known_of}
use Rattle.zpl_binding.specs.Regions.{Known}
use Rattle.zpl_binding.specs.Storages.{Border, borders_of}
use Rattle.zpl_meaning.specs.Store.{Store, cut_back}
use Rattle.zpl_meaning.specs.Context.{no_currents, Setup}
use Rattle.zpl_meaning.specs.Outcome.{Outcome, goes_on}
use Rattle.zpl_meaning.specs.Variables.{Frame, with_declarations, empty_frame}
use Rattle.zpl_meaning.specs.Calls.{Called, entered, place_in}
use Rattle.zpl_meaning.specs.Statement.{exec}

-- ---- calls

-- what a call has left, without the parameters and local variables
abbrev pub returned : Store → Outcome → Outcome
returned before outcome = record outcome { store = cut_back before outcome.store }

abbrev pub run_body : Setup → ℕ → (Called → Store → Outcome) → Routine → Called → Store → Frame →
    Outcome
run_body setup n call routine called store frame =
    returned store
    (exec (record { place = place_in setup routine called frame; call = call }) n
    routine.procedure.body frame.store)

-- no accepted program calls a procedure that isn't there; that does nothing
abbrev pub run_routine : Setup → ℕ → (Called → Store → Outcome) → Option Routine → Called →
    Store → Outcome
run_routine setup n call None called store = goes_on store
run_routine setup n call (Some routine) called store =
    run_body setup n call routine called store (entered setup routine called.actuals store)

-- A call, down a chain of so many procedures. No accepted program has a longer one; what it would
-- call does nothing.
abbrev pub call_at : Setup → ℕ → ℕ → Called → Store → Outcome
call_at setup n zero called store = goes_on store
call_at setup n (suc depth) called store =
    run_routine setup n (call_at setup n depth) (routine_named setup.program called.name) called
    store

-- ---- the run

abbrev pub setup_of : Program → Known → List Border → Frame → Setup
setup_of program known borders frame =
    record { program = program; known = known; borders = borders; globals = frame.names }

-- the entry procedure, with neither parameters nor current regions; it has no result, and asks for
-- no place of one
abbrev pub entry_call : Program → Called
entry_call program =
    record { name = program.name.text; actuals = []; currents = no_currents; result = 0 }

abbrev pub run_from : Program → ℕ → Known → List Border → Frame → Outcome
run_from program n known borders frame =
    call_at (setup_of program known borders frame) n longest_chain (entry_call program) frame.store

-- the global variables, all of them 0 or false
abbrev pub first_frame : Program → Known → List Border → Frame
first_frame program known borders =
    with_declarations known borders empty_frame program.decls

abbrev pub run_known : Program → ℕ → Known → List Border → Outcome
run_known program n known borders =
    run_from program n known borders (first_frame program known borders)

-- the whole run, with at most n turns of each loop that is entered
abbrev pub outcome_of : Program → List Setting → ℕ → Outcome
outcome_of program settings n =
    run_known program n (known_of program settings) (borders_of program)

-- what is printed, and how it ends
pub record Meaning : Type 0 where
  pub bytes : List ℕ
  pub ending : End

abbrev pub mean_of : Program → List Setting → ℕ → Meaning
mean_of program settings n =
    let outcome = outcome_of program settings n in
    record { bytes = outcome.bytes; ending = outcome.ending }

abbrev pub steps_of : Program → List Setting → ℕ → ℕ
steps_of program settings n = (outcome_of program settings n).steps
