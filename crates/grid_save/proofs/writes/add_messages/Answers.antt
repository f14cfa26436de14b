use Rattle.std.proofs.Common.{◌≡◌, ◌≤◌, ◌+◌, ℕ, ap, arith, map}
use Rattle.std.specs.List.{flat_map, range_with_len}
use Rattle.grid_links.specs.Links.{link_of}
use Rattle.grid_meaning.specs.Local.{processors}
use Rattle.grid_save.specs.Written.{message_line}
use Rattle.grid_save.proofs.WriteLemmas.{number_more, writes_none, writes_same}
use Rattle.grid_save.proofs.writes.add_messages.Goals as goal

pub loop-q-init : goal.loop-q-init
loop-q-init c = (omega arith, writes_none c.args.text.now.items)

pub loop-q-preserved : goal.loop-q-preserved
loop-q-preserved c =
    let sim = c.args.sim.now in
    let inside : c.loop-q.q + 1 ≤ processors sim.code = omega (arith, c.loop-q-test.true, c.processors-q-end.ensures) in (
      inside,
      number_more (λ to. map (message_line to) (link_of (processors sim.code) sim.grid.world.links c.args.p to)) c.args.text.now.items
          c.loop-q.text.items c.add_link.new.text.items c.loop-q.q c.loop-q.invariant.1 c.in_ok-add_link.ensures,
    )

pub returns : goal.returns
returns c =
    let sim = c.args.sim.now in
    let f = λ (to : ℕ). map (message_line to) (link_of (processors sim.code) sim.grid.world.links c.args.p to) in
    let all : c.loop-q.q ≡ processors sim.code = omega (arith, c.loop-q.invariant.0, c.loop-q-test.false, c.processors-q-end.ensures) in
    writes_same c.args.text.now.items c.loop-q.text.items _ _ (ap (λ n. flat_map f (range_with_len 0 n)) all) c.loop-q.invariant.1
