use Rattle.std.proofs.Common.{sym}
use Rattle.site_faults.specs.Reach.{reach_of}
use Rattle.site_faults.proofs.CallLemmas.{all_fit-lengths}
use Rattle.site_faults.proofs.calls.all_fit.Goals as goal

pub returns-then-formals-actuals : goal.returns-then-formals-actuals
returns-then-formals-actuals c =
    sym
    (all_fit-lengths (reach_of c.args.reach.now) c.args.formals.now c.args.actuals.now
    c.if-formals-actuals.true)
