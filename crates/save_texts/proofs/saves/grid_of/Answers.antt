use Rattle.std.proofs.Common.{◌≡◌, ◌∙◌, List, None, ap, arith, length, map, subst, sym}
use Rattle.std.proofs.lemmas.List.{length-map}
use Rattle.grid_layout.specs.Grid.{processors_of}
use Rattle.grid_links.specs.Network.{empty_network}
use Rattle.grid_meaning.specs.Local.{processors}
use Rattle.save_lines.specs.declared.lines.SavedLine.{SavedLine}
use Rattle.save_lines.specs.Lines.{AreLines}
use Rattle.save_reading.specs.Fault.{FaultAt}
use Rattle.grid_save.specs.Reads.{BreaksGrid}
use Rattle.save_texts.specs.Links.{EachTo, sending_each, sent_in, workplace_in}
use Rattle.save_texts.proofs.Faults.{all_ready, counted_in, grid_restored, lines_few, links_counted, may_be_placed}
use Rattle.save_texts.proofs.saves.grid_of.Goals as goal

pub read_states-requires-clause-few : goal.read_states-requires-clause-few
read_states-requires-clause-few c =
    let most = lines_few c.args.state.now c.in-Ok.lines.items c.in-Ok.ensures.ok in
    let same = ap length c.deref.ensures.value in
    let few = c.requires.few in
    omega (arith, most, same, few)

pub of_states-requires : goal.of_states-requires
of_states-requires c =
    let most = lines_few c.args.state.now c.in-Ok.lines.items c.in-Ok.ensures.ok in
    let same = ap length c.deref-in-Err-read_states.ensures.value in
    let few = c.requires.few in
    record { few = omega (arith, most, same, few) }

pub returns-in-Err-read_states-clause-err : goal.returns-in-Err-read_states-clause-err
returns-in-Err-read_states-clause-err c =
    let one = c.deref.ensures.value in
    let other = c.deref-in-Err-read_states.ensures.value in
    c.of_states.ensures c.args.code c.args.state.now c.requires.listed
    (subst (λ (ls : List SavedLine). AreLines c.args.state.now ls) (sym other) c.in-Ok.ensures.ok)
    (subst (λ (ls : List SavedLine). FaultAt (BreaksGrid c.args.code ls) ls c.in-Err-read_states.fault) (one ∙ sym other) c.in-Err-read_states.ensures.err)

pub place_states-requires-clause-many : goal.place_states-requires-clause-many
place_states-requires-clause-many c =
    let may = may_be_placed c.args.code c.deref.result.now c.in-Ok-read_states.states.items c.in-Ok-read_states.ensures.ok in
    let count = c.count.ensures.count ∙ (ap processors_of c.grid.ensures ∙ counted_in c.args.code c.in-Ok-layout_of.layout c.in-Ok-layout_of.ensures) in
    may.many ∙ sym count

pub place_states-requires-clause-receivers : goal.place_states-requires-clause-receivers
place_states-requires-clause-receivers c =
    let may = may_be_placed c.args.code c.deref.result.now c.in-Ok-read_states.states.items c.in-Ok-read_states.ensures.ok in
    let count = c.count.ensures.count ∙ (ap processors_of c.grid.ensures ∙ counted_in c.args.code c.in-Ok-layout_of.layout c.in-Ok-layout_of.ensures) in
    subst (λ n. EachTo n (map sent_in c.in-Ok-read_states.states.items)) (sym count) may.receivers

pub restore-requires-clause-many : goal.restore-requires-clause-many
restore-requires-clause-many c =
    let may = may_be_placed c.args.code c.deref.result.now c.in-Ok-read_states.states.items c.in-Ok-read_states.ensures.ok in
    let placed : c.in-Ok-place_states.locals ≡ map workplace_in c.in-Ok-read_states.states.items = cc (c.in-Ok-place_states.ensures.locals) in
    ap length placed ∙ (length-map c.in-Ok-read_states.states.items workplace_in ∙ may.many)

pub restore-requires-clause-states : goal.restore-requires-clause-states
restore-requires-clause-states c =
    let placed : c.in-Ok-place_states.locals ≡ map workplace_in c.in-Ok-read_states.states.items = cc (c.in-Ok-place_states.ensures.locals) in
    all_ready c.args.code c.in-Ok-read_states.states.items c.in-Ok-place_states.locals placed c.in-Ok-read_states.ensures.ready

pub restore-requires-clause-links : goal.restore-requires-clause-links
restore-requires-clause-links c =
    let count = c.count.ensures.count ∙ (ap processors_of c.grid.ensures ∙ counted_in c.args.code c.in-Ok-layout_of.layout c.in-Ok-layout_of.ensures) in
    let made : c.in-Ok-place_states.links ≡ sending_each 0 (map sent_in c.in-Ok-read_states.states.items) (empty_network c.count.result None) =
    cc (c.in-Ok-place_states.ensures.links) in
    links_counted c.count.result (processors c.args.code) c.in-Ok-read_states.states.items c.in-Ok-place_states.links made count

pub returns-clause-ok : goal.returns-clause-ok
returns-clause-ok c =
    let count = c.count.ensures.count ∙ (ap processors_of c.grid.ensures ∙ counted_in c.args.code c.in-Ok-layout_of.layout c.in-Ok-layout_of.ensures) in
    let placed : c.in-Ok-place_states.locals ≡ map workplace_in c.in-Ok-read_states.states.items = cc (c.in-Ok-place_states.ensures.locals) in
    let made : c.in-Ok-place_states.links ≡ sending_each 0 (map sent_in c.in-Ok-read_states.states.items) (empty_network c.count.result None) =
    cc (c.in-Ok-place_states.ensures.links) in
    let saved = subst (λ (ls : List SavedLine). AreLines c.args.state.now ls) (sym c.deref.ensures.value) c.in-Ok.ensures.ok in
    grid_restored c.args.code c.args.listing.now c.args.state.now c.deref.result.now c.in-Ok-read_states.states.items c.in-Ok-place_states.locals c.in-Ok-place_states.links c.args.counts
    c.count.result c.restore.result c.requires.listed saved c.in-Ok-read_states.ensures.ok c.in-Ok-read_states.ensures.ready c.requires.counted placed made count c.restore.ensures.grid
