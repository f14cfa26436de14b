use Rattle.std.proofs.Common.{rules, ◌≡◌, ◌*◌, ◌+◌, ◌≤◌, ◌++◌, length, arith}
use Rattle.array_prints.specs.RowText.{line_text, parts_text}
use Rattle.array_prints.proofs.PartLemmas.{parts_end, parts_start, parts_step, room_for}
use Rattle.array_prints.proofs.prints.push_plane.Goals as goal

pub loop-init : goal.loop-init
loop-init c = (omega arith, parts_start (line_text c.args.truth) c.args.count c.args.size c.args.values.now c.args.into.now.items)

pub overflow_add-at : goal.overflow_add-at
overflow_add-at c =
    let room : c.loop.counter * c.args.size + c.args.size ≤ c.args.count * c.args.size = room_for c.args.count c.args.size c.loop.counter c.loop-test.true in
    let at : c.loop.at ≡ c.loop.counter * c.args.size = c.loop.invariant.0 in
    let within : c.loop.at + c.args.size ≤ length c.args.values.now = omega (arith, room, at, c.requires) in
    search rules

pub loop-preserved : goal.loop-preserved
loop-preserved c = (
  (let at : c.loop.at ≡ c.loop.counter * c.args.size = c.loop.invariant.0 in omega (arith, at)),
  parts_step (line_text c.args.truth) c.args.count c.args.size c.loop.counter c.loop.at c.args.values.now _ c.loop.into.items c.push_line.new.into.items
      c.push.new.self.items (c.args.into.now.items ++ parts_text (line_text c.args.truth) c.args.count c.args.size c.args.values.now) c.loop-test.true
      c.loop.invariant.1 (search rules) c.in_ok-push_line.ensures (search rules),
)

pub returns : goal.returns
returns c =
    parts_end (line_text c.args.truth) c.args.count c.args.size c.loop.at c.args.values.now c.loop.into.items
    (c.args.into.now.items ++ parts_text (line_text c.args.truth) c.args.count c.args.size c.args.values.now) (search rules)
