use Rattle.zpl_binding.specs.of_zpl_names.Accepted.{Recursion, DeepCalls}
use Rattle.zpl_meaning.proofs.DepthLemmas.{depth_is_enough}
use Rattle.zpl_meaning.proofs.laws.no_call_is_cut_off.Goals as goal

pub returns : goal.returns
returns c = λ program settings n depth clean le.
    depth_is_enough program settings n depth
    (c.faultless_programs_have_faultless_sites.ensures.text program clean)
    (λ entry is. c.faultless_programs_are_shallow.ensures program entry is
    (λ at. clean Recursion at) (λ at. clean DeepCalls at)) le
