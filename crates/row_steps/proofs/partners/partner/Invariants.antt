use Rattle.std.proofs.Common.{◌≡◌, ◌-◌}
use Rattle.std.specs.Prelude.{slice_get}
use Rattle.row_steps.specs.Partners.{counted}
use Rattle.row_steps.proofs.PartnerLemmas.{counted_from}
use Rattle.row_steps.proofs.partners.partner.Given as goal

abbrev pub invariant-loop-q : goal.invariant-loop-q
invariant-loop-q l =
    slice_get (counted l.counts l.count l.p) l.place
    ≡ slice_get (counted_from l.counts l.p l.q (l.count - l.q)) l.left
