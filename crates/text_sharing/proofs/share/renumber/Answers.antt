use Rattle.std.proofs.Common.{◌≡◌, ◌∙◌, ap, rules, arith, length, Some, ◌+◌}
use Rattle.std.specs.Prelude.{slice_get, slice_set}
use Rattle.text_sharing.specs.Shared.{row_shared}
use Rattle.text_sharing.proofs.ChangeLemmas.{changed, changed_all, changed_length, changed_more}
use Rattle.text_sharing.proofs.share.renumber.Goals as goal

pub loop-i-preserved : goal.loop-i-preserved
loop-i-preserved c =
    let f = row_shared c.args.texts.now in
    let there : slice_get c.loop-i.code c.loop-i.i ≡ Some c.unwrap-row.result.now = search rules in
    let put : c.set.new.self
    ≡ slice_set c.loop-i.code c.loop-i.i (f c.unwrap-row.result.now) = search rules in
    let done : c.set.new.self ≡ changed f (c.loop-i.i + 1) c.args.code.now =
    put ∙ changed_more f c.loop-i.i c.args.code.now c.loop-i.code c.unwrap-row.result.now
    c.loop-i.invariant.done there in
    record {
      done = done;
      as_long = ap length done ∙ changed_length f (c.loop-i.i + 1) c.args.code.now;
    }

pub returns : goal.returns
returns c =
    let f = row_shared c.args.texts.now in
    let all : c.loop-i.i ≡ length c.args.code.now = omega arith in
    c.loop-i.invariant.done
    ∙ (ap (λ k. changed f k c.args.code.now) all ∙ changed_all f c.args.code.now)
