use Rattle.std.proofs.Common.{◌≡◌, length, arith}
use Rattle.lower_draft.proofs.FringeLemmas.{none_listed, one_listed, two_listed}
use Rattle.lower_draft.proofs.fringes.stored_dims.Goals as goal

pub returns-in-0 : goal.returns-in-0
returns-in-0 c =
    let wide : length c.args.dims ≡ 3 = omega arith in
    let long : length c.args.fringes ≡ 3 = omega arith in
    none_listed c.args.rank c.args.dims c.args.fringes wide long c.in-0.is

pub returns-in-1 : goal.returns-in-1
returns-in-1 c =
    let wide : length c.args.dims ≡ 3 = omega arith in
    let long : length c.args.fringes ≡ 3 = omega arith in
    one_listed c.args.rank c.args.dims c.args.fringes c.stored_dim.result _ _ wide long c.in-1.is
    c.stored_dim.ensures

pub returns-in-2 : goal.returns-in-2
returns-in-2 c =
    let wide : length c.args.dims ≡ 3 = omega arith in
    let long : length c.args.fringes ≡ 3 = omega arith in
    two_listed c.args.rank c.args.dims c.args.fringes c.stored_dim-in-2.result
    c.stored_dim-in-2-2.result _ _ _ _ wide long c.in-2.is c.stored_dim-in-2.ensures
    c.stored_dim-in-2-2.ensures
