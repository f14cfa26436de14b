use Rattle.std.proofs.Common.{◌≡◌, ◌∙◌, ap, rules, arith, length, Some, ◌+◌}
use Rattle.std.specs.Prelude.{slice_get, slice_set}
use Rattle.node_emit.specs.Emit.{along_tree}
use Rattle.flat_passes.proofs.InPlaceLemmas.{changed, changed_all, changed_length, changed_more}
use Rattle.node_emit.proofs.rows.go_along_tree.Goals as goal

pub loop-i-preserved : goal.loop-i-preserved
loop-i-preserved c =
    let there : slice_get c.loop-i.code c.loop-i.i ≡ Some c.unwrap-row.result.now = search rules in
    let put : c.set.new.self
    ≡ slice_set c.loop-i.code c.loop-i.i (along_tree c.unwrap-row.result.now) = search rules in
    let done : c.set.new.self ≡ changed along_tree (c.loop-i.i + 1) c.args.code.now =
    put ∙ changed_more along_tree c.loop-i.i c.args.code.now c.loop-i.code
    c.unwrap-row.result.now c.loop-i.invariant.done there in
    record {
      done = done;
      as_long = ap length done ∙ changed_length along_tree (c.loop-i.i + 1) c.args.code.now;
    }

pub returns : goal.returns
returns c =
    let all : c.loop-i.i ≡ length c.args.code.now = omega arith in
    c.loop-i.invariant.done
    ∙ (ap (λ k. changed along_tree k c.args.code.now) all ∙ changed_all along_tree c.args.code.now)
