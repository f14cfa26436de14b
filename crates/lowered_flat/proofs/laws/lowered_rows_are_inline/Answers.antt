use Rattle.lowered_flat.proofs.laws.lowered_rows_are_inline.Goals as goal

pub returns : goal.returns
returns c = λ program settings grammar clean accepted.
    c.lowered_programs_fit.ensures.inline program settings grammar clean accepted
    (c.declarations_fit.ensures program settings grammar clean accepted)
