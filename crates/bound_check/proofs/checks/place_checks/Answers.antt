use Rattle.std.proofs.Common.{◌≡◌, ap, rules}
use Rattle.bound_check.specs.Checked.{checked}
use Rattle.bound_check.proofs.checks.place_checks.Goals as goal

pub returns : goal.returns
returns c =
    let same : c.in_ok-code.code ≡ (checked c.args.tables).code = search rules in
    ap (λ code. record c.args.tables { code = code }) same
