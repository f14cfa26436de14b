use Rattle.std.proofs.Common.{◌≡◌, ap, arith, length, rules, Some}
use Rattle.std.specs.Prelude.{slice_get}
use Rattle.node_check.proofs.CodeLemmas.{members_step}
use Rattle.node_check.proofs.checks.is_large.Goals as goal

pub loop-i-preserved : goal.loop-i-preserved
loop-i-preserved c =
    let here : slice_get c.args.tables.now.groups c.loop-i.i ≡ Some c.unwrap.result.now =
    search rules in
    let step = members_step c.args.tables.now.groups c.loop-i.i c.unwrap.result.now here in
    let long : length c.as_slice-members.result.now ≡ length c.unwrap.result.now =
    ap length c.as_slice-members.ensures in
    record {
      large = λ h. c.loop-i.invariant.large (omega (arith, h, step, long));
      more = λ h.
          let most = c.loop-i.invariant.more h in
          omega (arith, most, step, long);
    }
