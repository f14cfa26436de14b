use Rattle.std.proofs.Common.{◌≡◌, ◌∙◌, sym, ap, subst, arith, true, false}
use Rattle.std.specs.List.{list_any}
use Rattle.node_check.proofs.EachLemmas.{any_found}
use Rattle.std.specs.Prelude.{◌==◌}
use Rattle.code_parts.specs.Uses.{accumulated_by}
use Rattle.node_check.proofs.losses.accumulates.Goals as goal

pub returns-then-is_accumulated : goal.returns-then-is_accumulated
returns-then-is_accumulated c =
    sym (any_found (λ other. other == c.args.number) (accumulated_by) c.args.members.now c.loop-member.member-index _ (omega arith)
    (sym c.is_accumulated.ensures ∙ c.if-is_accumulated.true))
