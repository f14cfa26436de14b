use Rattle.std.proofs.Common.{◌≡◌, [], ◌∷◌, ◌++◌, length, ap, ◌∙◌, arith}
use Rattle.flat_form.specs.Row as row
use Rattle.lower_points.specs.Inside.{members_in}
use Rattle.lower_points.proofs.CloseLemmas.{closed_empty}
use Rattle.lower_points.proofs.members.close_if.Goals as goal

pub returns-in_ok-push : goal.returns-in_ok-push
returns-in_ok-push c = λ opened last at is.
    c.in_ok-push.ensures
    ∙ ap (λ items. members_in items ++ row.CloseIf ∷ []) c.truncate.ensures.items
    ∙ closed_empty c.args.members.now.items opened last c.args.behind c.saturating_sub.result at is
    (let e : length c.args.members.now.items ≡ c.args.behind =
    omega (arith, c.len.ensures, c.if-len-behind.true) in e)
    c.saturating_sub.ensures
