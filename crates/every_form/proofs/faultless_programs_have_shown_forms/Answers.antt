use Rattle.zpl_names.specs.Shapes.{unknown_shapes}
use Rattle.every_form.proofs.CallLemmas.{program_formed}
use Rattle.every_form.proofs.faultless_programs_have_shown_forms.Goals as goal

pub returns : goal.returns
returns c = λ program faultless. program_formed program faultless
    (λ routine there. c.faultless_programs_leave_nothing_open.ensures.sites program faultless routine
    there unknown_shapes) (c.procedures_are_there.ensures program)
