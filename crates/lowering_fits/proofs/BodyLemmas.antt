-- The code of a procedure that is called fits, where its body stands as it must.
use Rattle.std.proofs.Common.{ℕ, Bool, List, [], ◌∷◌}
use Rattle.std.specs.Prelude.{Option}
use Rattle.meaning_ranks.specs.of_zpl_tree.Syntax.{VarDef}
use Rattle.meaning_ranks.specs.of_zpl_names.Declared.{Routine}
use Rattle.meaning_ranks.specs.of_zpl_names.Expansion.{formal_names}
use Rattle.meaning_ranks.specs.of_zpl_meaning.Context.{Currents, Edge, Setup}
use Rattle.meaning_ranks.specs.of_zpl_meaning.Visited.{IsVisited}
use Rattle.stored_shifts.specs.of_node_form.declared.tables.Tables.{Tables}
use Rattle.lower_numbers.specs.of_zpl_lowering.Where.{Next}
use Rattle.lower_numbers.specs.of_zpl_lowering.Lowered.{Lowered}
use Rattle.lower_numbers.specs.of_zpl_lowering.Statement.{Calling, lowered}
use Rattle.lower_numbers.specs.of_zpl_lowering.Program.{Framed, Entry, locals_code, where_in, body_code}
use Rattle.lowering_fits.specs.Slates.{FitNumbers}
use Rattle.lowering_fits.specs.Reach.{place_at}
use Rattle.lowering_fits.specs.Lowerings.{IsLaidOut, FitsLowered, IsSoundStmt}
use Rattle.lowering_fits.specs.Standing.{IsStanding}
use Rattle.lowering_fits.specs.Storages.{AllKept}
use Rattle.lowering_fits.specs.Whole.{FitsGivens, AllVars, given_frames, name_frames, local_frames, body_frames}
use Rattle.lowering_fits.proofs.FormLemmas.{Lowers, stmt_fits}
use Rattle.lowering_fits.proofs.FrameLemmas.{givens_fit, names_fit}

locals_fit : (base : Tables) (setup : Setup) (entry : Entry) (vars : List VarDef) (frame : Framed)
    (next : Next) (rest : Framed → Next → Lowered) → AllVars setup vars →
    FitNumbers base frame.numbers → AllKept frame.numbers.arrays →
    (let last = local_frames setup entry vars frame next in
    FitNumbers base last.frame.numbers → AllKept last.frame.numbers.arrays →
    IsLaidOut base last.next (rest last.frame last.next) →
    FitsLowered base (rest last.frame last.next)) →
    IsLaidOut base next (locals_code setup entry vars frame next rest) →
    FitsLowered base (locals_code setup entry vars frame next rest)
locals_fit base setup entry [] frame next rest are fits kept rests laid = rests fits kept laid
locals_fit base setup entry (var ∷ vars) frame next rest are fits kept rests laid =
    let one = name_frames setup entry var.shape var.names frame next in
    names_fit base setup entry var.shape var.names frame next
    (λ frame after. locals_code setup entry vars frame after rest) are.0 fits kept
    (λ fits' kept' laid'. locals_fit base setup entry vars one.frame one.next rest are.1 fits' kept'
    rests laid') laid

pub body_fits : (base : Tables) (setup : Setup) (call : Calling → Next → Lowered) →
    Lowers base setup call → (answers : Bool) (entry : Entry) (routine : Routine)
    (calling : Calling) (next : Next) (result : ℕ) (currents : Currents) (edge : Option Edge) →
    FitsGivens base calling.actuals → FitNumbers base calling.numbers →
    AllKept calling.numbers.arrays → AllVars setup routine.procedure.locals →
    (let frame = (body_frames setup entry routine calling next).frame in
    let w = where_in setup routine calling frame in
    (FitNumbers base frame.numbers → AllKept frame.numbers.arrays →
    IsStanding base setup answers w currents) →
    IsVisited setup (place_at w result currents edge) routine.procedure.body →
    IsSoundStmt w.scope answers routine.procedure.body →
    IsLaidOut base next (body_code setup entry call routine calling next) →
    FitsLowered base (body_code setup entry call routine calling next))
body_fits base setup call with_all answers entry routine calling next result currents edge givens
    fits kept vars stands visited sound laid =
    let first : Framed = record { names = []; numbers = calling.numbers } in
    let given = given_frames entry.line (formal_names routine.procedure.params) calling.actuals
    first next in
    let last = body_frames setup entry routine calling next in
    let body : Framed → Next → Lowered =
    λ frame last. lowered
    (record { place = where_in setup routine calling frame; call = call }) last
    routine.procedure.body in
    givens_fit base entry.line (formal_names routine.procedure.params) calling.actuals first next
    (λ frame after. locals_code setup entry routine.procedure.locals frame after body) givens fits
    kept
    (λ fits' kept' laid'. locals_fit base setup entry routine.procedure.locals given.frame
    given.next body vars fits' kept'
    (λ fits'' kept'' laid''. stmt_fits base setup call with_all answers
    (where_in setup routine calling last.frame) result currents edge (stands fits'' kept'') last.next
    routine.procedure.body visited sound laid'') laid') laid
