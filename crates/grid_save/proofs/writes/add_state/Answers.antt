use Rattle.std.proofs.Common.{sym, subst}
use Rattle.std.specs.Prelude.{Option}
use Rattle.node_form.specs.declared.tables.Tables.{Tables}
use Rattle.grid_meaning.specs.Local.{Local}
use Rattle.save_lines.proofs.Appends.{by_ok}
use Rattle.grid_save.specs.Writing.{Writes}
use Rattle.grid_save.specs.Written.{local_lines, message_lines, state_lines}
use Rattle.grid_save.proofs.WriteLemmas.{writes_more}
use Rattle.grid_save.proofs.writes.add_state.Goals as goal

pub returns : goal.returns
returns c =
    let sim = c.args.sim.now in
    let p = c.args.p in
    let local = c.local.result.now.local in
    let old = c.args.text.now.items in
    let mid = c.add_local.new.text.items in
    let new = c.add_messages.new.text.items in
    let first : Writes old (local_lines sim.code p local) mid =
    subst (λ (code : Tables). Writes old (local_lines code p local) mid) c.code.ensures c.in_ok-add_local.ensures in
    by_ok c.add_messages.result _ _ c.add_messages.ensures (λ last.
    subst (λ (found : Option Local). Writes old (state_lines sim.code sim.grid.world.links p found) new) (sym c.local.ensures.state)
    (writes_more old mid new (local_lines sim.code p local) (message_lines sim.code sim.grid.world.links p) first last))
