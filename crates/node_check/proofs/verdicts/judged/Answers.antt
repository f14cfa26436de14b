use Rattle.std.proofs.Common.{◌≡◌, ◌∙◌, ◌+◌, ap, drop, rules, Some}
use Rattle.std.specs.Prelude.{slice_get}
use Rattle.node_check.specs.Verdict.{judged, judged_at}
use Rattle.node_check.proofs.CodeLemmas.{judged_step}
use Rattle.node_check.proofs.verdicts.judged.Goals as goal

pub loop-i-preserved : goal.loop-i-preserved
loop-i-preserved c =
    let code = c.args.tables.now in
    let i = c.loop-i.i in
    let row = c.unwrap.result.now in
    let here : slice_get code.code i ≡ Some row = search rules in
    ap (judged code c.args.fronts.now (i + 1) (drop (i + 1) code.code)) c.in_ok-verdict.ensures
    ∙ (judged_step code c.args.fronts.now code.code i row c.loop-i.verdict here
    ∙ c.loop-i.invariant)
