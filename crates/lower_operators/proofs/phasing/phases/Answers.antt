use Rattle.std.proofs.Common.{ap, ◌∙◌}
use Rattle.lower_regions.specs.of_lower_places.View.{where_of}
use Rattle.lower_operators.specs.Once.{optional}
use Rattle.lower_operators.specs.View.{all_placed, slates_in}
use Rattle.lower_operators.proofs.PhaseLemmas.{each_ok, phased-left, phased-rows, when_ok}
use Rattle.lower_operators.proofs.phasing.phases.Goals as goal

pub returns-clause-code : goal.returns-clause-code
returns-clause-code c =
    when_ok c.later_phases.result
    (phased-rows (where_of c.args.place.now) c.args.line (optional c.args.own)
    (optional c.args.last) (all_placed c.args.exprs.now) c.args.draft.now
    c.settled_each.new.draft c.later_phases.new.draft (slates_in c.deref.result.now)
    c.in_ok-slates.ensures.rows
    (ap slates_in c.deref.ensures.value ∙ c.in_ok-slates.ensures.slates))
    c.later_phases.ensures.rows

pub returns-clause-left : goal.returns-clause-left
returns-clause-left c =
    each_ok c.later_phases.result
    (λ left. phased-left (where_of c.args.place.now) c.args.line (optional c.args.own)
    (optional c.args.last) (all_placed c.args.exprs.now) c.args.draft.now
    c.settled_each.new.draft c.later_phases.new.draft (slates_in c.deref.result.now)
    c.in_ok-slates.ensures.rows
    (ap slates_in c.deref.ensures.value ∙ c.in_ok-slates.ensures.slates) left.items)
    c.later_phases.ensures.left
