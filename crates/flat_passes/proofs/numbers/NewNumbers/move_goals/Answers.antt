use Rattle.std.proofs.Common.{◌≡◌, ◌∙◌, ap, rules, arith, length, Some, ◌+◌}
use Rattle.std.specs.Prelude.{map, slice_get, slice_set}
use Rattle.flat_passes.specs.Numbers.{number_among}
use Rattle.flat_passes.specs.Rewritten.{with_moved_goal}
use Rattle.flat_passes.proofs.InPlaceLemmas.{changed, changed_all, changed_length, changed_more}
use Rattle.flat_passes.proofs.numbers.NewNumbers.move_goals.Goals as goal

pub loop-i-preserved : goal.loop-i-preserved
loop-i-preserved c =
    let f = with_moved_goal (number_among c.args.self.now c.in_ok-end.end) in
    let there : slice_get c.loop-i.code c.loop-i.i ≡ Some c.unwrap-row.result.now = search rules in
    let put : c.set.new.self ≡ slice_set c.loop-i.code c.loop-i.i (f c.unwrap-row.result.now) =
    search rules in
    let done : c.set.new.self ≡ changed f (c.loop-i.i + 1) c.args.code.now =
    put ∙ changed_more f c.loop-i.i c.args.code.now c.loop-i.code c.unwrap-row.result.now
    c.loop-i.invariant.done there in
    record {
      done = done;
      as_long = ap length done ∙ changed_length f (c.loop-i.i + 1) c.args.code.now;
    }

pub returns : goal.returns
returns c =
    let end : c.in_ok-end.end ≡ length c.args.code.now = search rules in
    let all : c.loop-i.i ≡ length c.args.code.now = omega arith in
    c.loop-i.invariant.done
    ∙ (ap (λ k. changed (with_moved_goal (number_among c.args.self.now c.in_ok-end.end)) k
    c.args.code.now) all
    ∙ (changed_all (with_moved_goal (number_among c.args.self.now c.in_ok-end.end)) c.args.code.now
    ∙ ap (λ e. map (with_moved_goal (number_among c.args.self.now e)) c.args.code.now) end))
