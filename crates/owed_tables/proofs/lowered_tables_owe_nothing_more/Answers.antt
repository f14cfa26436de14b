use Rattle.std.proofs.Common.{[], ◌∷◌}
use Rattle.zpl_lowering.specs.Program.{lowered_program}
use Rattle.owed_tables.proofs.OwedLemmas.{lowered_owe}
use Rattle.owed_tables.proofs.lowered_tables_owe_nothing_more.Goals as goal

pub returns : goal.returns
returns c = λ program settings grammar clean apart accepted.
    let declared = c.declarations_fit.ensures program settings grammar clean accepted in
    let fits = c.lowered_programs_fit.ensures.fit program settings grammar clean accepted declared
    (1 ∷ 0 ∷ 0 ∷ []) in
    lowered_owe program settings
    (c.lowered_programs_are_flat.ensures.flat program settings grammar clean apart accepted)
    (c.lowered_tables_are_typed.ensures.cells program settings)
    (c.lowered_tables_are_typed.ensures.typed program settings grammar clean apart accepted)
    (c.lowered_programs_fit.ensures.stored program settings grammar clean accepted declared
    (1 ∷ 0 ∷ 0 ∷ []))
    (c.numbered_code_makes_a_flat_program.ensures.fringes (1 ∷ 0 ∷ 0 ∷ [])
    (lowered_program program settings) fits)
    (c.loops_stand_in_one_unit.ensures program settings) fits
