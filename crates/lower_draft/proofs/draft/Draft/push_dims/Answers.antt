use Rattle.std.proofs.Common.{◌≡◌, length, ap, ◌∙◌, arith}
use Rattle.lower_draft.proofs.PushLemmas.{three_long}
use Rattle.lower_draft.proofs.draft.Draft.push_dims.Goals as goal

pub three_of-requires : goal.three_of-requires
three_of-requires c =
    let long : length c.args.parts ≡ 3 = omega arith in
    ap length c.as_slice.ensures.value
    ∙ three_long c.in_ok-rows.rows.items _ c.in_ok-parts.parts.items c.args.parts
    c.in_ok-rows.ensures.parts c.in_ok-parts.ensures.items long
