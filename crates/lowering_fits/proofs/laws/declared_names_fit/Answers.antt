use Rattle.lowering_fits.proofs.DeclaredLemmas.{declared_fit}
use Rattle.lowering_fits.proofs.laws.declared_names_fit.Goals as goal

pub returns : goal.returns
returns c = λ program settings grammar clean accepted tables text routine named slots.
    declared_fit program settings grammar clean
    (c.what_is_computed_has_a_value.ensures.regions program settings accepted) tables text routine
    named slots
