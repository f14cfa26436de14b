use Rattle.lowering_fits.proofs.NumberedLemmas.{all_numbered}
use Rattle.lowering_fits.proofs.laws.all_code_is_numbered.Goals as goal

pub returns : goal.returns
returns c = λ program settings grammar clean.
    all_numbered program settings grammar clean
    (λ place stmt visited. (
      c.no_stand_in_is_met.ensures program settings grammar clean place stmt visited,
      c.ranks_agree.ensures program settings grammar clean place stmt visited,
    ))
    (c.counts_add_up.ensures.calls program)
