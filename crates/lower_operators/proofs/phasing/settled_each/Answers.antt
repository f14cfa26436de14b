use Rattle.std.proofs.Common.{◌+◌, drop, ap, subst, sym, ◌∙◌, arith}
use Rattle.lower_regions.specs.of_zpl_lowering.Slate.{settled_each}
use Rattle.lower_regions.specs.of_lower_places.View.{where_of}
use Rattle.lower_operators.specs.Sound.{AreSound}
use Rattle.lower_operators.specs.View.{all_placed, slates_before, slates_in}
use Rattle.lower_operators.proofs.SettleLemmas.{each-next, each-slates-next, each-slates-end, sound-more}
use Rattle.lower_operators.proofs.phasing.settled_each.Goals as goal

pub loop-placed-preserved : goal.loop-placed-preserved
loop-placed-preserved c =
    let w = where_of c.args.place.now in
    let line = c.args.line in
    let exprs = c.args.exprs.now in
    let i = c.loop-placed.placed-index in
    let draft = c.loop-placed.draft in
    let new = c.settled.new.draft in
    let slates = c.loop-placed.slates.items in
    let one = c.in_ok-slate.slate in
    let h = c.in_ok-slate.ensures.rows in
    record {
      rows =
          each-next w line draft new exprs i _ (omega arith) h _ c.loop-placed.invariant.rows;
      slates =
          ap (λ l. slates_before l
          (settled_each w line new.next (all_placed (drop (i + 1) exprs))).slate)
          c.in_ok-push.ensures.items
          ∙ each-slates-next w line draft new exprs i _ (omega arith) h slates one _
          c.in_ok-slate.ensures.slate c.loop-placed.invariant.slates;
      sound =
          subst (λ l. AreSound (slates_in l)) (sym c.in_ok-push.ensures.items)
          (sound-more slates one c.loop-placed.invariant.sound c.in_ok-slate.ensures.sound);
    }

pub returns-clause-slates : goal.returns-clause-slates
returns-clause-slates c =
    each-slates-end (where_of c.args.place.now) c.args.line c.loop-placed.draft.next
    c.loop-placed.slates.items _ c.args.exprs.now c.loop-placed.placed-index (omega arith)
    c.loop-placed.invariant.slates
