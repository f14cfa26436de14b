use Rattle.std.proofs.Common.{◌≡◌, length, ap, arith, ◌∙◌}
use Rattle.std.specs.Prelude.{slice_get}
use Rattle.std.specs.Option.{option_copied}
use Rattle.grid_links.specs.Links.{link_of}
use Rattle.grid_links.specs.Network.{link}
use Rattle.grid_meaning.specs.Local.{processors}
use Rattle.grid_save.specs.Written.{found_lines, message_line}
use Rattle.grid_save.proofs.WriteLemmas.{element_more, elements_end, writes_none, writes_same}
use Rattle.grid_save.proofs.writes.add_link.Goals as goal

pub loop-k-init : goal.loop-k-init
loop-k-init c = writes_none c.args.text.now.items

pub loop-k-preserved : goal.loop-k-preserved
loop-k-preserved c =
    let sim = c.args.sim.now in
    let messages = link_of (processors sim.code) sim.grid.world.links c.args.p c.args.q in
    let got : option_copied c.nth.result ≡ slice_get messages c.loop-k.k =
    c.nth.ensures ∙ ap (λ network. slice_get (link network c.args.p c.args.q) c.loop-k.k) c.links-in-loop-k.ensures in
    element_more (message_line c.args.q) messages c.args.text.now.items c.loop-k.text.items c.add_message.new.text.items c.loop-k.k
    c.loop-k.invariant
    (writes_same c.loop-k.text.items c.add_message.new.text.items _ _ (ap (found_lines (message_line c.args.q)) got) c.in_ok-add_message.ensures)

pub returns : goal.returns
returns c =
    let sim = c.args.sim.now in
    let messages = link_of (processors sim.code) sim.grid.world.links c.args.p c.args.q in
    let many : c.length-k-end.result ≡ length messages = c.length-k-end.ensures.exact ∙ ap (λ network. length (link network c.args.p c.args.q)) c.links.ensures in
    elements_end (message_line c.args.q) messages c.args.text.now.items c.loop-k.text.items c.loop-k.k
    (omega (arith, many, c.loop-k-test.false)) c.loop-k.invariant
