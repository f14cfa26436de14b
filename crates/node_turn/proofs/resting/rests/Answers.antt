use Rattle.std.proofs.Common.{rules, ◌≡◌, true, false, sym}
use Rattle.std.specs.Prelude.{None, Some, is_some, slice_get}
use Rattle.node_form.specs.Fits.{FitsInstr}
use Rattle.node_turn.proofs.QuietLemmas.{none_from, rests_behind, rests_ended, rests_own}
use Rattle.row_turn.specs.Placed.{IsAtRow}
use Rattle.node_turn.proofs.resting.rests.Goals as goal

pub returns-then-is_some : goal.returns-then-is_some
returns-then-is_some c =
    let ended : is_some c.args.local.now.local.ended ≡ true = search rules in
    sym (rests_ended c.args.code.now c.args.p c.args.local.now.local c.args.links.now ended)

pub returns-in_default : goal.returns-in_default
returns-in_default c =
    let running : is_some c.args.local.now.local.ended ≡ false = search rules in
    let behind : slice_get c.args.code.now.code c.args.local.now.local.at ≡ None = search rules in
    sym (rests_behind c.args.code.now c.args.p c.args.local.now.local c.args.links.now running behind)

pub returns-else-is_together : goal.returns-else-is_together
returns-else-is_together c =
    let running : is_some c.args.local.now.local.ended ≡ false = search rules in
    let here : slice_get c.args.code.now.code c.args.local.now.local.at ≡ Some c.in-Some.row.now = search rules in
    let fits : FitsInstr c.args.code.now c.in-Some.row.now =
    c.rows_fit.ensures.instr c.args.code.now c.args.local.now.local.at c.in-Some.row.now c.tables.ensures.fits here in
    let at : IsAtRow c.args.code.now c.args.p c.args.local.now c.in-Some.row.now = record {
      ready = c.requires.ready;
      running = none_from c.args.local.now.local.ended running;
      here = here;
      fits = fits;
    } in
    sym (rests_own c.args.code.now c.args.p c.args.local.now c.in-Some.row.now at c.args.links.now
    (c.is_together.ensures.no c.if-is_together.false))
