use Rattle.std.proofs.Common.{[], ◌∷◌, refl}
use Rattle.zpl_lowering.specs.Tables.{flat_tables, unshared_tables}
use Rattle.lowered_flat.proofs.of_lowering_fits.ReadLemmas.{reads_same}
use Rattle.program_code.proofs.laws.lowered_shifts_are_stored.Goals as goal

pub returns : goal.returns
returns c = λ program settings grammar clean accepted.
    reads_same (unshared_tables program settings) (flat_tables program settings) refl
    (unshared_tables program settings).exprs
    (c.lowered_programs_fit.ensures.stored program settings grammar clean accepted
    (c.declarations_fit.ensures program settings grammar clean accepted) (1 ∷ 0 ∷ 0 ∷ []))
