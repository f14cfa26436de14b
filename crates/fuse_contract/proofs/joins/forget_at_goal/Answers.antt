use Rattle.std.proofs.Common.{ap, sym, subst, Bool, refl}
use Rattle.fuse_contract.specs.Behind.{GoesOn}
use Rattle.fuse_contract.specs.Joining.{front_facts, front_rows}
use Rattle.fuse_contract.proofs.StepLemmas.{all_forgotten, as_before}
use Rattle.fuse_contract.proofs.joins.forget_at_goal.Goals as goal

pub returns-then-not-goal : goal.returns-then-not-goal
returns-then-not-goal c =
    λ code facts behind.
    as_before code c.args.walk.now facts _ _ behind
    (ap (λ b. front_rows b facts) c.if-not-goal.true)
    (ap (λ b. front_facts b facts) c.if-not-goal.true)

pub returns : goal.returns
returns c =
    λ code.
    subst (λ (b : Bool). GoesOn code c.args.walk.now (record {
      draft = c.push_last.new.walk.draft;
      known = c.new.result;
      last = c.push_last.new.walk.last;
    }) (front_rows b) (front_facts b)) (sym c.if-not-goal.false)
    (all_forgotten code c.args.walk.now c.push_last.new.walk _ c.new.ensures refl refl
    (c.in_ok-push_last.ensures code))
