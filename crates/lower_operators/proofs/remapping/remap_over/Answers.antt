use Rattle.std.proofs.Common.{sym, ap, ◌∙◌}
use Rattle.std.specs.Option.{option_map}
use Rattle.node_form.specs.Expression.{words_of}
use Rattle.lower_regions.specs.of_zpl_lowering.Hoist.{remapping}
use Rattle.lower_regions.specs.of_lower_draft.Drafted.{grown}
use Rattle.lower_regions.specs.of_lower_places.Numbers.{stored_of}
use Rattle.lower_regions.specs.of_lower_places.View.{slotted_of}
use Rattle.lower_operators.specs.Code.{free_of, of_hoisted}
use Rattle.lower_operators.proofs.remapping.remap_over.Goals as goal

pub returns-in_ok-temp-in-Some-clause-rows : goal.returns-in_ok-temp-in-Some-clause-rows
returns-in_ok-temp-in-Some-clause-rows c = λ start hoisted h same.
    c.in_ok-temp-in-Some.ensures.rows start hoisted h same
    ∙ ap (λ s. grown start (of_hoisted (remapping c.args.numbers.now c.args.line
    (free_of start.next) (slotted_of c.args.over.now) s hoisted)))
    (ap (option_map stored_of) (sym c.in-Some.is) ∙ c.array.ensures)

pub returns-in_ok-temp-in-Some-clause-left : goal.returns-in_ok-temp-in-Some-clause-left
returns-in_ok-temp-in-Some-clause-left c = λ start hoisted h same.
    c.in_ok-temp-in-Some.ensures.left start hoisted h same
    ∙ ap (λ s. words_of (remapping c.args.numbers.now c.args.line
    (free_of start.next) (slotted_of c.args.over.now) s hoisted).left)
    (ap (option_map stored_of) (sym c.in-Some.is) ∙ c.array.ensures)

pub returns-in-None-clause-rows : goal.returns-in-None-clause-rows
returns-in-None-clause-rows c = λ start hoisted h same.
    h ∙ ap (λ s. grown start (of_hoisted (remapping c.args.numbers.now c.args.line
    (free_of start.next) (slotted_of c.args.over.now) s hoisted)))
    (ap (option_map stored_of) (sym c.in-None.is) ∙ c.array.ensures)

pub returns-in-None-clause-left : goal.returns-in-None-clause-left
returns-in-None-clause-left c = λ start hoisted h same.
    ap (λ s. words_of (remapping c.args.numbers.now c.args.line
    (free_of start.next) (slotted_of c.args.over.now) s hoisted).left)
    (ap (option_map stored_of) (sym c.in-None.is) ∙ c.array.ensures)
